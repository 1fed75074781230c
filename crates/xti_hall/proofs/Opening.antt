-- The first seat of a hall.
use Rattle.std.proofs.Common.{◌≡◌, [], refl, sym, subst, arith}
use Rattle.std.specs.Prelude.{None}
use Rattle.xti_hall_rule.specs.declared.setting.Setting.{Setting}
use Rattle.xti_hall_rule.specs.Rule.{newcomer}
use Rattle.xti_hall_rule.specs.Steps.{Seated}
use Rattle.xti_hall.specs.Seats.{FitsSeat}

pub first-fits : {C : Type 0} (p : Setting) (m : Seated C) → m ≡ (newcomer p, []) → FitsSeat m 0 1 0 None
first-fits {C} p m e = subst (λ (z : Seated C). FitsSeat z 0 1 0 None) (sym e) (
  refl,
  record { live = refl; numbered = refl; shut = refl; small = omega arith },
  refl,
  refl,
  refl,
  refl,
  record { numbered = refl; below = omega arith; legal = tt; bytes = tt; mine = refl; spare = λ k le. refl },
)
