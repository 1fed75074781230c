use Rattle.xti_laws_journals.proofs.FewEntries.{few-entries}
use Rattle.xti_laws_journals.proofs.runs_have_few_entries.Goals as goal

pub returns : goal.returns
returns c = λ s entries r. few-entries s.providers s.lines entries r.legal r.workers_only r.follows
