-- What a reader gave and a writer took.
use Rattle.std.specs.Prelude.{ℕ, List, Option, Result}
use Rattle.std.specs.Io.KnownBytes.{ReadConsumes, WriteAppends}

-- one read of a reader, by the bytes that remain in it
abbrev pub ReadsOf : {R E : Type 0} → (R → Option (List ℕ)) → R → R → Result ℕ E → List ℕ → Type 0
ReadsOf remaining before now result buf = ReadConsumes (remaining before) (remaining now) result buf

-- one write of a writer, by the bytes that it holds
abbrev pub WritesOf : {W E : Type 0} → (W → Option (List ℕ)) → W → W → Result ℕ E → List ℕ → Type 0
WritesOf contents before now result piece = WriteAppends (contents before) (contents now) result piece
