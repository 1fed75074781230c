-- A text around its first line `+++`.
use Rattle.std.specs.Prelude.{◌≡◌, ℕ, List, length, Some}
use Rattle.xti_words.specs.Texts.{lines_of, text_of}
use Rattle.xti_script_reader.specs.Reading.{to_mark}
use Rattle.xti_script_reader.specs.declared.marks.Parts.{Parts}

-- the head is the text of so many lines, which `+++` and the rest follow
pub record IsSplit (text head : List ℕ) (lines : ℕ) (rest : List ℕ) : Type 0 where
  pub texts : List (List ℕ)
  pub parts : to_mark (lines_of text) ≡ Some (texts, lines_of rest)
  pub before : head ≡ text_of texts
  pub count : lines ≡ length texts

-- these parts are those of the text
abbrev pub AreParts : List ℕ → Parts → Type 0
AreParts text parts = IsSplit text parts.head.now parts.lines parts.rest.now
