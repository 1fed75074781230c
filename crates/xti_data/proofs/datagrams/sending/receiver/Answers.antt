use Rattle.std.proofs.Common.{sym}
use Rattle.xti_lent.proofs.Lendings.{switch-is}
use Rattle.xti_data.proofs.datagrams.sending.receiver.Goals as goal

pub returns : goal.returns
returns c = rw (switch-is c.args.lent.now c.registry_ref.result.now (sym c.registry_ref.ensures)) c.bound.ensures
