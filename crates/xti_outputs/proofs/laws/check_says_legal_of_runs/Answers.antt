use Rattle.xti_laws_journals.specs.Runs.{journal_of}
use Rattle.xti_outputs.proofs.Judged.{says-legal}
use Rattle.xti_outputs.proofs.laws.check_says_legal_of_runs.Goals as goal

pub returns-clause-status : goal.returns-clause-status
returns-clause-status c = λ script entries done text status said whole answered. (says-legal c.never_both.ensures (journal_of script entries) text status said whole.printed.0 whole.printed.1 whole.judged answered).0

pub returns-clause-said : goal.returns-clause-said
returns-clause-said c = λ script entries done text status said whole answered. (says-legal c.never_both.ensures (journal_of script entries) text status said whole.printed.0 whole.printed.1 whole.judged answered).1
