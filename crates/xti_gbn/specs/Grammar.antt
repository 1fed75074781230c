-- The form of link scripts, as a relation between events and a text: a first line, and a line for each event.
use Rattle.std.specs.Prelude.{◌≡◌, ℕ, ◌≤◌, nat_le, List, [], ◌∷◌, length, codes, Option, Some, None, option_map, if◌then◌else◌}
use Rattle.std.specs.Str.{bytes_eq}
use Rattle.xti_words.specs.Texts.{lines_of, text_of, words_of}
use Rattle.xti_words.specs.Values.{bytes_in, number_in}
use Rattle.xti_gbn.specs.declared.events.LinkEvent.{LinkEvent}
use Rattle.xti_gbn.specs.declared.events.LinkEvent.TheVariants.{Offer, Timeout, Data, Ack}
use Rattle.xti_gbn.specs.declared.events.TheConstants.{MOST_EVENTS}
use Rattle.xti_gbn.specs.Wire.{most_body}

-- the first line
abbrev pub header : List ℕ
header = codes "xti-link 1"

-- a body that isn't longer than a packet may have
abbrev pub offer_of : Option (List ℕ) → Option LinkEvent
offer_of None = None
offer_of (Some body) = if nat_le (length body) most_body then Some (Offer body) else None

-- the event that the words of a line are
abbrev pub event_of : List (List ℕ) → Option LinkEvent
event_of (word ∷ []) = if bytes_eq word (codes "timeout") then Some Timeout else None
event_of (word ∷ value ∷ []) =
    if bytes_eq word (codes "offer") then offer_of (bytes_in value) else
    if bytes_eq word (codes "data") then option_map Data (number_in value) else
    if bytes_eq word (codes "ack") then option_map Ack (number_in value) else None
event_of other = None

-- the event that a line is
unfoldable pub event_in : List ℕ → Option LinkEvent
event_in line = event_of (words_of line)

-- each line is its event
abbrev pub AreEvents : List (List ℕ) → List LinkEvent → Type 0
AreEvents [] [] = Unit {0}
AreEvents (line ∷ lines) (e ∷ es) = (event_in line ≡ Some e) × AreEvents lines es
AreEvents lines events = ⊥

-- the events of a link script and its text, whose lines all end with LF
pub record IsLinkScript (events : List LinkEvent) (text : List ℕ) : Type 0 where
  pub lines : List (List ℕ)
  pub split : lines_of text ≡ header ∷ lines
  pub ended : text ≡ text_of (header ∷ lines)
  pub are_events : AreEvents lines events
  pub few : length events ≤ MOST_EVENTS

-- lists of events that both have the text are the same
abbrev pub AreSameOf : List LinkEvent → List LinkEvent → List ℕ → Type 0
AreSameOf events others text = IsLinkScript events text → IsLinkScript others text → events ≡ others
