use Rattle.std.proofs.Common.{refl}
use Rattle.xti_journal_text.proofs.Histories.{counts_more}
use Rattle.xti_journal_text.proofs.counting.Summary.add.Goals as goal

pub returns : goal.returns
returns c = λ past counted. counts_more past c.args.entry.now c.args.self.now _ _ _ c.step-sent.new.self c.step-sent.result counted c.requires refl c.step-sent.ensures.sent c.step-sent.ensures.stands c.add.ensures refl
