use Rattle.xti_wants.proofs.Waiting.{blocked-is-wanted, blocked-has-want}
use Rattle.xti_wants.proofs.laws.blocked_calls_have_wants.Goals as goal

pub returns-clause-has : goal.returns-clause-has
returns-clause-has c p w k g = let l = c.steps_wait_for_their_wants.ensures in blocked-has-want p w k g (l.as_wanted p w k g) (l.good p w k g)

pub returns-clause-blocked : goal.returns-clause-blocked
returns-clause-blocked c p w k g = let l = c.steps_wait_for_their_wants.ensures in blocked-is-wanted p w k g (l.as_wanted p w k g) (l.good p w k g)
