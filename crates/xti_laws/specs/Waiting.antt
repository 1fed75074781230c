-- What the law of waiting says.
use Rattle.std.specs.Prelude.{true, false, ◌≡◌, Option, Some, None}
use Rattle.xti_model.specs.declared.call.Call.{Call}
use Rattle.xti_model.specs.declared.entry.Go.{Go}
use Rattle.xti_model.specs.declared.profile.Providers.{Providers}
use Rattle.xti_model.specs.World.{World}
use Rattle.xti_model.specs.Step.{is_blocked}
use Rattle.xti_model.specs.Wants.{Want, want_of, has_good_arguments, is_want_blocked, HasLeft}

-- the step is blocked exactly where its want is, and never where it has none
abbrev pub BlockedWith : Providers → World → Call → Go → Option Want → Type 0
BlockedWith p w c g None = is_blocked p w c g ≡ false
BlockedWith p w c g (Some v) = is_blocked p w c g ≡ is_want_blocked p w v

abbrev pub BlockedAsWanted : Providers → World → Call → Go → Type 0
BlockedAsWanted p w c g = has_good_arguments c ≡ true → HasLeft c g → BlockedWith p w c g (want_of c g)

-- where a step is blocked, no row that looks at the arguments alone refuses the call
abbrev pub BlockedHasGoodArguments : Providers → World → Call → Go → Type 0
BlockedHasGoodArguments p w c g = is_blocked p w c g ≡ true → has_good_arguments c ≡ true
