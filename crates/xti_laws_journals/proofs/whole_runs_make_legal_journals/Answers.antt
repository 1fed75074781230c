use Rattle.xti_laws_journals.proofs.JournalStalls.{stalls-right}
use Rattle.xti_laws_journals.proofs.whole_runs_make_legal_journals.Goals as goal

pub returns : goal.returns
returns c = λ s entries r complete. record { entries = r.legal; stalls = stalls-right s.providers s.lines entries complete }
