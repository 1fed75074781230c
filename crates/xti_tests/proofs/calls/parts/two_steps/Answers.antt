use Rattle.std.proofs.Common.{IfSome, subst}
use Rattle.xti_tests.specs.Parts.{IsPart}
use Rattle.xti_tests.proofs.Sends.{part_is_at}
use Rattle.xti_tests.proofs.calls.parts.two_steps.Goals as goal

pub step-blocked-requires-after_bounds : goal.step-blocked-requires-after_bounds
step-blocked-requires-after_bounds g c κs within =
    part_is_at _ _ _ c.step-part.result c.expect-taken.result c.expect_free.ensures c.step-part.ensures
    (subst (λ o. IfSome o (IsPart c.step-part.result)) c.expect-taken.ensures c.part_of.ensures)
