-- What is decoded from the start of an input.
use Rattle.std.specs.Prelude.{◌≡◌, ◌≤◌, ℕ, List, length, take}
use Rattle.tpi_grammar.specs.Form.{whole, short, bad}
use Rattle.tpi_grammar.specs.Frame.{spelling}
use Rattle.tpi_grammar.specs.Measured.{MeansFrame}
use Rattle.tpi_prim.specs.declared.primitive.Prim.{Prim}
use Rattle.tpi_prim.specs.Primitive.{filled, Spells}
use Rattle.tpi_prim.specs.declared.decoding.Decoded.{Decoded}
use Rattle.tpi_prim.specs.declared.decoding.Decoded.TheVariants.{Value, Short, Bad, OutOfMemory}

-- a primitive whose frame the first bytes are; or what measuring says; memory runs out only where a frame stands at the start
abbrev pub MeansDecoded : List ℕ → Decoded → Type 0
MeansDecoded bs (Value prim used) = (used ≤ length bs) × Spells prim (take used bs)
MeansDecoded bs Short = MeansFrame bs short
MeansDecoded bs (Bad at) = MeansFrame bs (bad at)
MeansDecoded bs OutOfMemory = (n : ℕ) × MeansFrame bs (whole n)

-- the primitive and the length of its frame, or out of memory
abbrev pub GivesBack : Prim → Decoded → Type 0
GivesBack p (Value prim used) = (prim ≡ p) × (used ≡ length (spelling (filled p)))
GivesBack p Short = ⊥
GivesBack p (Bad at) = ⊥
GivesBack p OutOfMemory = Unit {0}
