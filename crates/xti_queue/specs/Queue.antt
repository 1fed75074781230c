-- What contracts see of a queue of frames.
use Rattle.std.specs.Prelude.{◌≡◌, ◌++◌, ℕ, Bool, List}
use Rattle.tpi_prim.specs.declared.primitive.Prim.{Prim}
use Rattle.xti_model.specs.Symbols.{piece}
use Rattle.xti_queue.specs.Indications.{begun, symbols_of_all}

-- the frames as they were pushed, how many bytes of the first one's user data were taken, and how many more are pushed with no memory
pub record Queue : Type 0 where
  pub pushed : List (List ℕ)
  pub taken : ℕ
  pub spare : ℕ

-- the frames as they wait: the first one with its rest as user data
abbrev pub frames : Queue → List Prim
frames q = begun q.taken q.pushed

-- the bytes that wait, and the ends of messages among them
abbrev pub symbols : Queue → List ℕ
symbols q = symbols_of_all (frames q)

-- these bytes, and an end after them or not, stood before what is left
abbrev pub StoodFirst : List ℕ → Bool → Queue → Queue → Type 0
StoodFirst bytes ended old new = symbols old ≡ piece bytes ended ++ symbols new
