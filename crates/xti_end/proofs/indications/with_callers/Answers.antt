use Rattle.std.proofs.Common.{◌∙◌, ap, sym, arith}
use Rattle.xti_model.specs.Cells.{with_number}
use Rattle.xti_end.specs.declared.indications.Ind.{Ind}
use Rattle.xti_end.specs.Callers.{caller_place}
use Rattle.xti_end.proofs.Callers.{with-caller, length-with}
use Rattle.xti_end.proofs.indications.with_callers.Goals as goal

pub loop-place-preserved : goal.loop-place-preserved
loop-place-preserved c =
    let i = c.loop-place.invariant in
    let h = with-caller c.args.p.now c.args.inds.now c.loop-place.place c.index-inds-place.result c.loop-place.cells c.args.cells c.loop-place-test.true i.0 c.index-inds-place.is i.1 in
    let e = c.insert.ensures ∙ ap (λ n. with_number n c.loop-place.cells) c.place_of.ensures.place in
    let f = ap (λ (x : Ind). with_number (caller_place c.args.p.now x) c.loop-place.cells) (sym c.index-inds-place.is) in
    (omega (arith, i.0), e ∙ (f ∙ h), rw c.insert.ensures (omega (arith, c.loop-place-test.true, i.2, length-with c.place_of.result c.loop-place.cells)))
