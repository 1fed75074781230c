-- The lines of a text, the words of a line, and what names and plain texts are made of.
use Rattle.std.specs.Prelude.{◌≡◌, ◌⊎◌, ℕ, ◌==◌, Bool, false, ◌&&◌, ◌||◌, List, [], ◌∷◌, ◌++◌, if◌then◌else◌, nat_le, nat_lt, length, map}
use Rattle.std.specs.List.{slice_split, onto_first, list_all}
use denote.Ref.{Bor}

-- what slices hold
abbrev pub views : List (Bor (List ℕ)) → List (List ℕ)
views words = map (λ w. w.now) words

-- a line ends with LF, which the last line may lack
abbrev pub lines_of : List ℕ → List (List ℕ)
lines_of [] = []
lines_of (c ∷ text) = if c == 10 then [] ∷ lines_of text else onto_first c (lines_of text)

-- the line, which ends with LF or is the whole text, and the rest after it
abbrev pub IsFirstLine : List ℕ → List ℕ → List ℕ → Type 0
IsFirstLine text line rest = (text ≡ line ++ 10 ∷ rest) ⊎ ((text ≡ line) × (rest ≡ []))

-- the text of these lines, each with its LF
abbrev pub text_of : List (List ℕ) → List ℕ
text_of [] = []
text_of (line ∷ lines) = line ++ 10 ∷ text_of lines

-- the pieces that are separated by this byte
abbrev pub pieces_of : ℕ → List ℕ → List (List ℕ)
pieces_of separator text = slice_split (λ c. c == separator) text

-- words are separated by one space
abbrev pub words_of : List ℕ → List (List ℕ)
words_of line = pieces_of 32 line

-- each byte is one of ASCII
abbrev pub is_ascii : List ℕ → Bool
is_ascii text = list_all (λ c. nat_lt c 128) text

abbrev pub is_lower : ℕ → Bool
is_lower c = nat_le 97 c && nat_le c 122

abbrev pub is_upper : ℕ → Bool
is_upper c = nat_le 65 c && nat_le c 90

abbrev pub is_digit : ℕ → Bool
is_digit c = nat_le 48 c && nat_le c 57

-- a to z, 0 to 9 and _
abbrev pub is_name_byte : ℕ → Bool
is_name_byte c = is_lower c || is_digit c || (c == 95)

-- a name: a letter a to z, then at most 15 of a to z, 0 to 9 and _
abbrev pub is_name : List ℕ → Bool
is_name [] = false
is_name (c ∷ cs) = is_lower c && (nat_le (length cs) 15 && list_all is_name_byte cs)

-- letters, digits, _ . and -
abbrev pub is_text_byte : ℕ → Bool
is_text_byte c = is_lower c || is_upper c || is_digit c || (c == 95) || (c == 46) || (c == 45)

-- what may stand after `t:`: at least one byte, each a letter, a digit, _ . or -
abbrev pub is_plain_text : List ℕ → Bool
is_plain_text [] = false
is_plain_text (c ∷ cs) = list_all is_text_byte (c ∷ cs)
