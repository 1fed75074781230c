-- What is left of a line whose words are taken one after the other.
use Rattle.std.specs.Prelude.{ℕ, List, [], ◌∷◌, Option, Some, None}
use Rattle.xti_words.specs.Texts.{words_of}

-- the words after a word: those of the text after its space
abbrev pub words_behind : Option (List ℕ) → List (List ℕ)
words_behind None = []
words_behind (Some text) = words_of text

-- the first word that is left, where there is one, and those after it
abbrev pub words_left : Option (List ℕ) → Option (List ℕ) → List (List ℕ)
words_left None behind = []
words_left (Some word) behind = word ∷ words_behind behind
