use Rattle.xti_journal.proofs.Kept.{entry_known}
use Rattle.xti_journal.proofs.draft.Draft.add_entry.Goals as goal

pub invariant_of-self-2 : goal.invariant_of-self-2
invariant_of-self-2 c = entry_known _ _ _ _ _ _ _ c.self.invariant c.requires c.verb_after-verb.ensures c.in_ok-push.ensures.items
