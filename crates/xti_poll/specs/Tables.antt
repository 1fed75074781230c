-- The text of a table of glances, and which glances it tells.
use Rattle.std.specs.Prelude.{◌≡◌, ℕ, List, [], ◌∷◌, ◌++◌, Option, Some, None, codes, decimal}
use Rattle.xti_base.specs.Kinds.{state_name, event_name}
use Rattle.xti_base.specs.declared.kinds.Event.{Event}
use Rattle.xti_base.specs.declared.kinds.Fd.{Fd}
use Rattle.xti_hall_rule.specs.declared.view.View.{View}
use Rattle.xti_hall.specs.Seats.{SeatView}
use Rattle.xti_gather.specs.Glances.{IsSameLater, Finds}
use Rattle.xti_gather.specs.declared.glancing.found.Glance.{Glance}
use Rattle.xti_gather.specs.declared.glancing.found.Glance.TheVariants.{Seen, Gone, Busy}
use Rattle.xti_words.specs.WrittenWords.{number_word}

-- the name of an event, and `0` for none
abbrev pub event_word : Option Event → List ℕ
event_word None = codes "0"
event_word (Some event) = event_name event

-- what a glance found, behind the descriptor
abbrev pub found_text : Glance → List ℕ
found_text (Seen state event at) = codes " " ++ state_name state ++ codes " " ++ event_word event ++ number_word (codes " ") at
found_text (Gone at) = number_word (codes " gone ") at
found_text (Busy cell) = number_word (codes " busy ") cell

-- the descriptor, what was found, and the end of the line
abbrev pub line_text : Fd → Glance → List ℕ
line_text fd found = decimal fd.0 ++ found_text found ++ codes "\n"

-- a line for each descriptor
abbrev pub table_text : List Fd → List Glance → List ℕ
table_text [] found = []
table_text (fd ∷ fds) [] = []
table_text (fd ∷ fds) (g ∷ found) = line_text fd g ++ table_text fds found

-- a seat that knew the first found these at the descriptors, one glance after the other, and knows the second then
abbrev pub AreFound : View → List Fd → List Glance → View → Type 0
AreFound v [] [] v' = v' ≡ v
AreFound v [] (g ∷ found) v' = ⊥
AreFound v (fd ∷ fds) [] v' = ⊥
AreFound v (fd ∷ fds) (g ∷ found) v' = (u : View) × IsSameLater v u × Finds v u fd g × AreFound u fds found v'

-- the text tells what a seat found at these descriptors, which knew the first before and the second after the glances
abbrev pub TellsGlances : SeatView → List Fd → SeatView → List ℕ → Type 0
TellsGlances s fds s' text = (found : List Glance) × AreFound s.view fds found s'.view × (text ≡ table_text fds found)
