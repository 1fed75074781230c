use Rattle.std.proofs.Common.{◌≡◌, ◌∙◌, ◌+◌, sym, ap, ℕ, length, take}
use Rattle.std.specs.Prelude.{min}
use Rattle.std.specs.List.{concat}
use Rattle.std.proofs.lemmas.List.{length-append}
use Rattle.xti_lent.proofs.Joined.{most, capped-sum, longer}
use Rattle.xti_lent.proofs.parts.total.Goals as goal

pub loop-part-preserved : goal.loop-part-preserved
loop-part-preserved c =
    let q = longer c.args.parts.now c.loop-part.part-index c.part-item.result c.loop-part-test.true c.part-item.is in
    let s : c.saturating_add-total.result ≡ min (min (length (concat (take c.loop-part.part-index c.args.parts.now))) most + length c.part-item.result) most = rw (c.loop-part.invariant, c.as_slice.ensures) at c.saturating_add-total.ensures in
    s ∙ capped-sum (length (concat (take c.loop-part.part-index c.args.parts.now))) (length c.part-item.result)
    ∙ ap (λ (n : ℕ). min n most) (sym (ap length q ∙ length-append (concat (take c.loop-part.part-index c.args.parts.now)) c.part-item.result))
