use Rattle.std.proofs.Common.{◌∙◌, sym}
use Rattle.xti_lent.proofs.Joined.{longer}
use Rattle.std.proofs.lemmas.Result.{IfOk-from_err}
use Rattle.xti_data.proofs.Shares.{all-of-parts}
use Rattle.xti_data.proofs.datagrams.indications.joined.Goals as goal

pub loop-part-preserved : goal.loop-part-preserved
loop-part-preserved c =
    let q = longer c.args.parts.now c.loop-part.part-index c.part-item.result c.loop-part-test.true c.part-item.is in
    rw (c.loop-part.invariant, c.as_slice.ensures) at c.in_ok-extend_from_slice.ensures.items ∙ sym q

pub returns-in_err-bytes : goal.returns-in_err-bytes
returns-in_err-bytes c = IfOk-from_err _ _ c.from_residual.ensures.0

pub returns-in_err-extend_from_slice : goal.returns-in_err-extend_from_slice
returns-in_err-extend_from_slice c = IfOk-from_err _ _ c.from_residual-in_err-extend_from_slice.ensures.0

pub loop-part-init : goal.loop-part-init
loop-part-init c = c.in_ok-bytes.ensures.items

pub bounds-parts-part-index : goal.bounds-parts-part-index
bounds-parts-part-index c = c.loop-part-test.true

pub returns : goal.returns
returns c = c.loop-part.invariant ∙ all-of-parts c.args.parts.now c.loop-part.part-index c.loop-part-test.false
