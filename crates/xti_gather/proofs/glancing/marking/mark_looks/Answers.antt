use Rattle.std.proofs.Common.{◌∙◌, arith}
use Rattle.xti_gather.specs.Marks.{AreFor}
use Rattle.xti_gather.proofs.Marks.{all-at, marked-looks}
use Rattle.xti_gather.proofs.glancing.marking.mark_looks.Goals as goal

pub loop-fd-preserved : goal.loop-fd-preserved
loop-fd-preserved c =
    let inv = c.loop-fd.invariant in
    let m = c.mark.ensures in
    record {
      length_is = m.length ∙ inv.length_is;
      kept = λ n e. m.kept n (inv.kept n e);
      marked = marked-looks c.args.lent.now c.loop-fd.marks c.mark.new.marks c.args.fds.now c.loop-fd.fd-index _ c.looked_at.result c.looked_at.ensures m.marked m.kept inv.marked;
    }

pub returns-clause-marked : goal.returns-clause-marked
returns-clause-marked c = all-at (AreFor c.args.lent.now c.loop-fd.marks) c.args.fds.now (λ k fd lt e. c.loop-fd.invariant.marked k fd (omega (arith, lt, c.loop-fd-test.false)) e)
