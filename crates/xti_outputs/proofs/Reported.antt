-- Entries that are reported, one more each time.
use Rattle.std.proofs.Common.{◌≡◌, ℕ, zero, suc, ◌<◌, true, false, List, [], ◌∷◌, length, get_or, sym, subst, arith}
use Rattle.std.specs.List.{list_all}
use Rattle.std.proofs.lemmas.Bool.{and_parts, ltb-true}
use Rattle.xti_base.specs.declared.limits.TheConstants.{WORKERS}
use Rattle.xti_model.specs.Complete.{is_worker}
use Rattle.xti_journal_text.specs.JournalText.{head_text}
use Rattle.xti_journal_text.specs.Writing.{Written, TookOne}
use Rattle.xti_model.specs.declared.entry.Entry.{Entry}
use Rattle.xti_outputs.specs.declared.report.Report.TheVariants as report
use Rattle.xti_outputs.specs.Entries.{ReportsOneMore}

pub journal_more : (old new : Written) (e : Entry) → TookOne old e new → ReportsOneMore (report.Journal old) e (report.Journal new)
journal_more old new e took false p past h = took (head_text p, 0) past h
journal_more old new e took true p past h = absurd h

pub worker-at : (es : List Entry) (i : ℕ) (e : Entry) → list_all is_worker es ≡ true → i < length es → e ≡ get_or es i e → e.worker < WORKERS
worker-at [] i e all lt at = absurd (omega arith)
worker-at (x ∷ es) zero e all lt at = subst (λ (y : Entry). y.worker < WORKERS) (sym at) (ltb-true x.worker WORKERS (and_parts (is_worker x) (list_all is_worker es) all).0)
worker-at (x ∷ es) (suc i) e all lt at = worker-at es i e (and_parts (is_worker x) (list_all is_worker es) all).1 (omega arith) at
