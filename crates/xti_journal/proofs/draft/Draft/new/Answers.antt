use Rattle.std.proofs.Common.{refl}
use Rattle.xti_journal.proofs.Kept.{knows_none}
use Rattle.xti_journal.proofs.draft.Draft.new.Goals as goal

pub invariant_of-result : goal.invariant_of-result
invariant_of-result c = knows_none _ _ _ _ c.new.ensures.items c.new-2.ensures.items refl refl
