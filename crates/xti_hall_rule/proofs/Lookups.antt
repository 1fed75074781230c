-- The recorded values of the cells that a seat holds, by lookups.
use Rattle.std.proofs.Common.{◌≡◌, ℕ, zero, suc, List, [], ◌∷◌, ap, sym}
use mathlib.Core.Option.{some, some-injective, some-ne-none}
use lib.ListN.{get_or, get_elem?}
use Rattle.std.specs.Prelude.{Option, Some, None}
use Rattle.xti_model.specs.World.{Cell as MCell}

none_some : (m : MCell) → None ≡ Some m → ⊥
none_some m e = absurd (cc)

pub at_has : (hs : List (Option MCell)) (i : ℕ) (m : MCell) → get_or hs i None ≡ Some m → get_elem? hs i ≡ some (Some m)
at_has [] i m e = absurd (none_some m e)
at_has (x ∷ xs) zero m e = ap some e
at_has (x ∷ xs) (suc i) m e = at_has xs i m e

pub has_at : (hs : List (Option MCell)) (i : ℕ) (m : MCell) → get_elem? hs i ≡ some (Some m) → get_or hs i None ≡ Some m
has_at [] i m e = absurd (some-ne-none _ (sym e))
has_at (x ∷ xs) zero m e = some-injective _ _ e
has_at (x ∷ xs) (suc i) m e = has_at xs i m e
