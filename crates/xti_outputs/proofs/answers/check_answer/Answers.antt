use Rattle.std.proofs.Common.{inl}
use Rattle.xti_outputs.proofs.Judged.{legal-journal}
use Rattle.xti_outputs.proofs.answers.check_answer.Goals as goal

pub returns-in-Legal : goal.returns-in-Legal
returns-in-Legal c =
    let order = c.legal_journals_keep_order.ensures in
    inl (legal-journal c.args.input.now c.in-Legal.text order.prefix order.waiting order.release (rw c.in-Legal.is at c.in_ok-text.ensures.said))
