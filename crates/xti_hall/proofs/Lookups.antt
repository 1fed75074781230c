-- The cells that a seat holds, by lookups.
use Rattle.std.proofs.Common.{◌≡◌, ℕ, zero, suc, ◌<◌, List, [], ◌∷◌, length, set, refl, sym, subst, get_or-set_other, get_or-set_same}
use lib.ListN.{get_or}
use Rattle.std.specs.Prelude.{Option, Some, None}
use Rattle.xti_model.specs.World.{Cell as MCell}
use Rattle.xti_hall_rule.specs.declared.view.View.{View}
use Rattle.xti_hall_rule.specs.Steps.{with_held}
use Rattle.xti_hall.specs.Seats.{Entered, Left}

pub entered : (v v' : View) (i : ℕ) (m : MCell) → v' ≡ with_held v (set v.held i (Some m)) 0 → i < length v.held → Entered v i m v'
entered v v' i m e lt = subst (λ (z : View). Entered v i m z) (sym e) record {
  here = get_or-set_same v.held i (Some m) None lt;
  others = λ j n. get_or-set_other v.held i j (Some m) None n;
  rest = refl;
  refused = refl;
}

pub left : (v v' : View) (i : ℕ) → v' ≡ with_held v (set v.held i None) 0 → Left v i v'
left v v' i e = subst (λ (z : View). Left v i z) (sym e) record {
  here = gone v.held i;
  others = λ j n. get_or-set_other v.held i j None None n;
  rest = refl;
  refused = refl;
}
  where
    gone : (hs : List (Option MCell)) (i : ℕ) → get_or (set hs i None) i None ≡ None
    gone [] i = refl
    gone (x ∷ xs) zero = refl
    gone (x ∷ xs) (suc i) = gone xs i
