use Rattle.std.proofs.Common.{◌≡◌, ◌∙◌, ℕ, length, take, sym, ap}
use Rattle.std.specs.Prelude.{◌+◌, ◌-◌, ◌^◌}
use Rattle.std.specs.List.{concat}
use Rattle.xti_journal_text.specs.Counting.{capped}
use Rattle.xti_journal_text.proofs.Parts.{capped-add, concat-more}
use Rattle.xti_journal_text.proofs.payload.total.Goals as goal

pub loop-part-preserved : goal.loop-part-preserved
loop-part-preserved c =
    let before : ℕ = length (concat (take c.loop-part.part-index c.args.parts.now)) in
    let more = concat-more c.args.parts.now c.loop-part.part-index c.part-item.result c.loop-part-test.true c.part-item.is in
    let sum : c.saturating_add-total.result ≡ capped (capped before + length c.part-item.result) = rw (c.loop-part.invariant, c.as_slice.ensures) at c.saturating_add-total.ensures in
    sum ∙ capped-add (2 ^ 64 - 1) before (length c.part-item.result) ∙ ap capped (sym more)
