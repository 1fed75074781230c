-- What stays true of a queue.
use Rattle.std.specs.Prelude.{◌≡◌, ◌≤◌, ◌<◌, ◌+◌, ◌*◌, ◌^◌, ℕ, true, List, [], ◌∷◌, length}
use Rattle.std.specs.List.{AllByRecursion}
use Rattle.tpi_grammar.specs.declared.kind.TheConstants.{MOST_DATA}
use Rattle.tpi_prim.specs.Primitive.{user_of}
use Rattle.tpi_prim.specs.Fields.{kind_in, primitive_in}
use Rattle.xti_model.specs.Symbols.{bytes_waiting, ends_waiting}
use Rattle.xti_queue.specs.Indications.{can_wait, begun, symbols_of_all}

-- each frame is one that may wait
abbrev pub AllWait : List (List ℕ) → Type 0
AllWait = AllByRecursion (λ f. can_wait (kind_in f) ≡ true)

-- so many bytes of the first frame's user data can have been taken
abbrev pub IsWithin : ℕ → List (List ℕ) → Type 0
IsWithin taken [] = taken ≡ 0
IsWithin taken (f ∷ fs) = taken ≤ length (user_of (primitive_in f))

-- the counters count, and the symbols of as many frames more as there is spare room for can be counted too
pub record IsKept (held : List (List ℕ)) (taken byte_count end_count spare capacity : ℕ) : Type 0 where
  pub wait : AllWait held
  pub within : IsWithin taken held
  pub bytes : byte_count ≡ bytes_waiting (symbols_of_all (begun taken held))
  pub ends : end_count ≡ ends_waiting (symbols_of_all (begun taken held))
  pub counted : byte_count + end_count + (MOST_DATA + 1) * spare < 2 ^ 64
  pub room : length held + spare ≤ capacity
