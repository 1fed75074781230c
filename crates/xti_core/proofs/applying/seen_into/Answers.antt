use Rattle.xti_core.proofs.Written.{written-step}
use Rattle.xti_core.proofs.applying.seen_into.Goals as goal

pub returns-clause-step : goal.returns-clause-step
returns-clause-step c = λ g. written-step _ g _ _ c.seen.result c.write.result _ _ _ _ c.write.ensures (c.seen.ensures.step g)
