use Rattle.xti_lent.specs.Lending.{open_at}
use Rattle.xti_switch.proofs.Asking.{asks}
use Rattle.xti_switch.proofs.connect.ask.Goals as goal

pub returns-clause-ok : goal.returns-clause-ok
returns-clause-ok c =
    asks c.args.lent.now c.queue.new.lent c.set_target.new.lent c.args.fd.0 c.args.listener.0 c.args.seq c.in_ok-frame.frame c.args.opt.now c.args.udata.now (open_at c.args.lent.now c.args.fd.0)
    c.requires.number c.in_ok-frame.ensures.request c.in_ok-queue.ensures.ok c.in_ok-queue.ensures.kept.providers c.set_target.ensures.changed
