use Rattle.std.proofs.Common.{rules}
use Rattle.xti_switch.proofs.refusals.accept_refusal.Goals as goal

pub returns : goal.returns
returns c fd resfd h = rw (← h) (search rules)
