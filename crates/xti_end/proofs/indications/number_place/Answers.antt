use Rattle.xti_end.proofs.Numbers.{removed-at, kept-at}
use Rattle.xti_end.proofs.indications.number_place.Goals as goal

pub returns-then-seq-clause-found : goal.returns-then-seq-clause-found
returns-then-seq-clause-found c =
    removed-at c.args.seq.0 c.loop-place.place c.args.inds.now c.index-inds-place.result c.seq.result c.requires c.loop-place-test.true c.index-inds-place.is c.seq.ensures c.if-seq.true c.loop-place.invariant

pub loop-place-preserved : goal.loop-place-preserved
loop-place-preserved c =
    kept-at c.args.seq.0 c.loop-place.place c.args.inds.now c.index-inds-place.result c.seq.result c.requires c.loop-place-test.true c.index-inds-place.is c.seq.ensures c.if-seq.false c.loop-place.invariant
