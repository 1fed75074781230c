use Rattle.std.proofs.Common.{refl}
use Rattle.xti_model.specs.World.{endpoint}
use Rattle.xti_lent.specs.Lending.{cells}
use Rattle.xti_switch.specs.Disconnects.{asked}
use Rattle.xti_switch.proofs.Breakings.{rejecting}
use Rattle.xti_switch.proofs.Reaching.{held-kept}
use Rattle.xti_switch.proofs.disconnect.reject.Goals as goal

pub take_out-requires-clause-there : goal.take_out-requires-clause-there
take_out-requires-clause-there c = held-kept c.args.lent.now c.prepare.new.lent c.args.fd.0 c.prepare.ensures.room.kept c.requires.there

pub returns-clause-ok : goal.returns-clause-ok
returns-clause-ok c =
    rejecting c.args.lent.now c.prepare.new.lent c.take_out.new.lent c.tell.new.lent c.args.fd.0 c.args.seq.0 c.args.udata.now c.caller-caller.result c.in_ok-notice.notice
    (endpoint c.args.lent.now.providers (cells c.args.lent.now) c.args.fd.0) (asked c.args.lent.now c.args.fd.0 c.args.seq.0) refl c.requires.asked c.caller-caller.ensures c.prepare.ensures.room c.take_out.ensures.kept c.in_ok-notice.ensures.notice
    c.take_out.ensures.cells c.tell.ensures.cells
