use Rattle.xti_journal.proofs.Kept.{stall_known}
use Rattle.xti_journal.proofs.draft.Draft.add_stall.Goals as goal

pub invariant_of-self-2 : goal.invariant_of-self-2
invariant_of-self-2 c = stall_known _ _ _ _ _ _ c.self.invariant c.in_ok-push.ensures.items
