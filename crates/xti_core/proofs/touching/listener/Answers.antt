use Rattle.std.proofs.Common.{sym, refl}
use Rattle.xti_lent.proofs.Lendings.{switch-is, switch-not-lent}
use Rattle.xti_core.proofs.touching.listener.Goals as goal

pub returns-in_err-registry : goal.returns-in_err-registry
returns-in_err-registry c = rw (c.from_residual.ensures, switch-not-lent c.args.lent.now (sym c.in_err-registry.ensures)) refl

pub returns : goal.returns
returns c = rw (switch-is c.args.lent.now c.in_ok-registry.registry.now (sym c.in_ok-registry.ensures)) c.listener.ensures
