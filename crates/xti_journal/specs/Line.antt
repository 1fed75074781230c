-- What a line is.
use Rattle.std.specs.Prelude.{◌≡◌, ℕ, ◌==◌, false, List, [], ◌∷◌, ◌++◌}

-- no byte is LF
abbrev pub IsLine : List ℕ → Type 0
IsLine [] = Unit {0}
IsLine (c ∷ cs) = ((c == 10) ≡ false) × IsLine cs

-- the text is this first line, LF, and the rest
abbrev pub IsCut : List ℕ → List ℕ → List ℕ → Type 0
IsCut text line rest = IsLine line × (text ≡ (line ++ 10 ∷ []) ++ rest)
