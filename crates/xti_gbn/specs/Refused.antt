-- The first line by which a text is no link script.
use Rattle.std.specs.Prelude.{◌≡◌, ℕ, zero, suc, nat_lt, Bool, ◌&&◌, is_some, List, [], ◌∷◌, Option, Some, None, if◌then◌else◌}
use Rattle.std.specs.Str.{bytes_eq}
use Rattle.xti_words.specs.Texts.{lines_of, text_of}
use Rattle.xti_gbn.specs.declared.events.TheConstants.{MOST_EVENTS}
use Rattle.xti_gbn.specs.declared.reading.LinkFail.{LinkFail}
use Rattle.xti_gbn.specs.declared.reading.LinkFail.TheVariants.{Bad, OutOfMemory}
use Rattle.xti_gbn.specs.declared.events.LinkEvent.{LinkEvent}
use Rattle.xti_gbn.specs.Grammar.{header, event_in, IsLinkScript}

-- whether a line with so many before it is in its form: the first line, or that of an event, where there may be one more
abbrev pub is_line : ℕ → List ℕ → Bool
is_line zero line = bytes_eq line header
is_line (suc events) line = nat_lt events MOST_EVENTS && is_some (event_in line)

-- the number of the first of these lines that is wrong, where so many are before them, and whether LF ends the last: there must be a
-- first line, each must be in its form, and LF must end it
abbrev pub first_wrong : ℕ → List (List ℕ) → Bool → Option ℕ
first_wrong zero [] ended = Some 1
first_wrong (suc before) [] ended = None
first_wrong before (line ∷ []) ended = if is_line before line && ended then None else Some (suc before)
first_wrong before (line ∷ other ∷ lines) ended = if is_line before line then first_wrong (suc before) (other ∷ lines) ended else Some (suc before)

-- whether LF ends the last line, if there is any
abbrev pub is_ended : List ℕ → Bool
is_ended text = bytes_eq text (text_of (lines_of text))

-- the line of this number is the first by which the text is no link script
abbrev pub IsRefusedAt : List ℕ → ℕ → Type 0
IsRefusedAt text number = first_wrong 0 (lines_of text) (is_ended text) ≡ Some number

-- a text that is a link script is refused at no line
abbrev pub IsNotRefused : List LinkEvent → List ℕ → ℕ → Type 0
IsNotRefused events text line = IsLinkScript events text → IsRefusedAt text line → ⊥

-- the line that is named is the first by which the text is no link script
abbrev pub IsBad : List ℕ → LinkFail → Type 0
IsBad text (Bad line) = IsRefusedAt text line
IsBad text OutOfMemory = Unit {0}
