use Rattle.std.proofs.Common.{◌∙◌, sym}
use Rattle.xti_end.proofs.Callers.{found-at, passed-at}
use Rattle.xti_end.proofs.indications.find_number.Goals as goal

pub returns-then-seq-clause-found : goal.returns-then-seq-clause-found
returns-then-seq-clause-found c =
    found-at c.args.seq.0 c.loop-ind.ind-index c.args.inds.now c.ind-item.result c.seq.result c.requires c.loop-ind-test.true c.ind-item.is c.seq.ensures c.if-seq.true ∙ c.loop-ind.invariant

pub loop-ind-preserved : goal.loop-ind-preserved
loop-ind-preserved c =
    sym (passed-at c.args.seq.0 c.loop-ind.ind-index c.args.inds.now c.ind-item.result c.seq.result c.requires c.loop-ind-test.true c.ind-item.is c.seq.ensures c.if-seq.false) ∙ c.loop-ind.invariant
