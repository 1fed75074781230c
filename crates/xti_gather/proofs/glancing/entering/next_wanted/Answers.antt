use Rattle.xti_gather.proofs.Marks.{seen-or-next}
use Rattle.xti_gather.proofs.glancing.entering.next_wanted.Goals as goal

pub returns-clause-next : goal.returns-clause-next
returns-clause-next c = seen-or-next c.args.lent.now c.mark_looks.new.marks c.args.fds.now c.first_unlent.result c.mark_looks.ensures.marked c.first_unlent.ensures
