-- Reading a link script from its first line to its last.
use Rattle.std.specs.Prelude.{◌≡◌, ℕ, nat_lt, List, ◌∷◌, ◌++◌, Option, None, if◌then◌else◌}
use Rattle.xti_words.specs.Texts.{lines_of}
use Rattle.xti_gbn.specs.declared.events.LinkEvent.{LinkEvent}
use Rattle.xti_gbn.specs.declared.events.TheConstants.{MOST_EVENTS}
use Rattle.xti_gbn.specs.Grammar.{event_in}

-- the text begins with this line, which LF ends, and goes on with the rest
pub record BeginsWith (text line rest : List ℕ) : Type 0 where
  pub is : text ≡ line ++ 10 ∷ rest
  pub lines : lines_of text ≡ line ∷ lines_of rest

-- the event that a line is after so many others, where there may be one more
abbrev pub event_behind : ℕ → List ℕ → Option LinkEvent
event_behind before line = if nat_lt before MOST_EVENTS then event_in line else None
