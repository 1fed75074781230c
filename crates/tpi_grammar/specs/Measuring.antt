-- What is left of a frame to measure, once its first words were read.
use Rattle.std.specs.Prelude.{◌≡◌, ℕ, List, Option, option_map}
use Rattle.tpi_grammar.specs.Form.{Form, Outcome, scan}
use Rattle.tpi_grammar.specs.Frame.{form_of, frame, number_form, row_of_number, rows_of_lengths, scan_behind, slots_form, tail}
use Rattle.tpi_grammar.specs.Kinds.{row_of, slots_view}
use Rattle.tpi_grammar.specs.declared.kind.Kind.{Kind}
use Rattle.tpi_grammar.specs.declared.kind.Slot.{Slot}
use Rattle.tpi_grammar.specs.declared.measure.Head.{Head}

-- behind the two lengths
abbrev pub form_of_lengths : ℕ → ℕ → Form
form_of_lengths size count = number_form size count (rows_of_lengths size count)

-- behind PRIM_type, by its number and by its kind
abbrev pub form_of_number : ℕ → ℕ → ℕ → Form
form_of_number size count number = form_of size count (row_of_number size count number)

abbrev pub form_of_kind : ℕ → ℕ → Option Kind → Form
form_of_kind size count kind = form_of size count (option_map row_of kind)

-- the words of slots, and then so many bytes of any value
abbrev pub form_of_slots : List Slot → ℕ → ℕ → ℕ → Form
form_of_slots slots place left total = slots_form (slots_view slots) place left (tail total)

-- what stands behind the first three words
abbrev pub behind_head : Head → List ℕ → Outcome
behind_head h bs = scan_behind h.size h.count (row_of h.kind) bs

-- the bytes begin with these three words
abbrev pub BeginsWith : List ℕ → Head → Type 0
BeginsWith bs h = scan frame bs ≡ behind_head h bs
