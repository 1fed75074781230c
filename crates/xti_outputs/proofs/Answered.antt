-- What is answered to a script.
use Rattle.std.proofs.Common.{◌≡◌, ℕ, Bool, true, false, List, [], ◌∷◌, ◌++◌, length, refl, sym, ap, subst, ◌∙◌, eqb, arith}
use Rattle.std.proofs.lemmas.List.{append-nil}
use Rattle.std.proofs.lemmas.Bool.{ne_eqb}
use Rattle.std.specs.Prelude.{◌↔◌, ◌==◌, Result, Ok, Err, IfOk}
use Rattle.xti_model.specs.declared.script.Script.{Script}
use Rattle.xti_model.specs.declared.script.StallLine.{StallLine}
use Rattle.xti_model.specs.History.{Legal}
use Rattle.xti_model.specs.declared.entry.Entry.{Entry}
use Rattle.xti_model.specs.declared.script.Journal.{Journal}
use Rattle.xti_model.specs.Robin.{last_worker}
use Rattle.xti_model.specs.Complete.{Complete}
use Rattle.xti_replay.specs.Stalls.{stalls_after, are_through}
use Rattle.xti_replay.proofs.WholeRuns.{Ends}
use Rattle.xti_laws_streams.specs.Laws.{IsLegalRun, PrefixLaw, WaitingLaw, ReleaseLaw}
use Rattle.xti_journal_text.specs.JournalText.{journal_text}
use Rattle.xti_journal_text.specs.Writing.{Written, Took}
use Rattle.xti_journal.specs.Grammar.{HasText}
use Rattle.xti_check.specs.Verdicts.{IsLegal}
use Rattle.xti_replay.specs.Few.{AreFew}
use Rattle.xti_laws_journals.specs.Runs.{journal_of, IsOnlyJournal}
use Rattle.xti_outputs.specs.Outputs.{IsWholeRun, IsPrinted, printed_of, status_with}

status-is : (b : Bool) (stalls : List StallLine) → ((stalls ≡ []) ↔ (b ≡ true)) → status_with (length stalls == 0) ≡ status_with b
status-is true [] h = refl
status-is false [] h = let e : false ≡ true = h.0 refl in cc
status-is true (x ∷ xs) h = let e : x ∷ xs ≡ [] = h.1 refl in cc
status-is false (x ∷ xs) h = let e : eqb (length (x ∷ xs)) 0 ≡ false = ne_eqb (length (x ∷ xs)) 0 (λ z. omega arith) in rw e refl

-- a journal begins with its head alone
pub begun : (w : Written) (head : List ℕ) → w ≡ (head, 0) → Took (head, 0) [] w
begun w head e = (ap (λ (v : Written). v.0) e ∙ sym (append-nil head), ap (λ (v : Written). v.1) e)

-- the entries are a legal history of the script, each worker of which follows its lines
pub legal-run : (s : Script) (entries : List Entry) → Legal s.providers entries → Complete s.providers entries s.lines → IsLegalRun s entries
legal-run s entries legal complete = record { legal = legal; workers_only = complete.workers_only; follows = complete.follows }

-- what is printed of a journal that has a text, where no other has it
printed-is : (summary : Bool) (j : Journal) (text : List ℕ) → HasText j → IsOnlyJournal j (journal_text j) → text ≡ printed_of summary j → IsPrinted summary j text
printed-is false j text h only t = (record { has_text = h; written = t }, subst (IsOnlyJournal j) (sym t) only)
printed-is true j text h only t = (h, t)

-- what is answered to a run to its end
pub whole-run : (summary : Bool) (s : Script) (entries : List Entry) (text : List ℕ) (told : List StallLine) (status : ℕ) → Ends s entries told → status ≡ status_with (length told == 0)
    → text ≡ printed_of summary (record { providers = s.providers; entries = entries; stalls = told }) → Legal s.providers entries → Complete s.providers entries s.lines
    → HasText (journal_of s entries) → IsOnlyJournal (journal_of s entries) (journal_text (journal_of s entries)) → IsLegal (journal_of s entries) → AreFew s entries
    → PrefixLaw s.providers entries → WaitingLaw s.providers entries → ReleaseLaw s.providers entries → IsWholeRun summary s entries status text
whole-run summary s entries text told status end n t legal complete h only judged few prefix waiting release = record {
  done = n ∙ status-is (are_through s.lines entries) told end.through;
  printed = printed-is summary (journal_of s entries) text h only (t ∙ ap (λ (stalls : List StallLine). printed_of summary (record { providers = s.providers; entries = entries; stalls = stalls })) end.stalls);
  judged = judged;
  few = few;
  legal = legal;
  follows = complete.follows;
  complete = complete;
  prefix = prefix;
  waiting = waiting;
  release = release;
}

-- a law of legal histories of a script holds of a journal
pub of-journal : {E : Type 0} (s : Script) (Law : List Entry → Type 0) (r : Result Journal E) → ((entries : List Entry) → IsLegalRun s entries → Law entries)
    → IfOk r (λ (j : Journal). Legal s.providers j.entries) → IfOk r (λ (j : Journal). Complete s.providers j.entries s.lines) → IfOk r (λ (j : Journal). Law j.entries)
of-journal s Law (Ok j) law legal complete = law j.entries (legal-run s j.entries legal complete)
of-journal s Law (Err e) law legal complete = tt

-- a law of the journals of legal histories of a script holds of one with its values and the stall lines that its entries leave
pub of-whole : {E : Type 0} (s : Script) (Law : Journal → Type 0) (r : Result Journal E) → ((entries : List Entry) → IsLegalRun s entries → Complete s.providers entries s.lines → Law (journal_of s entries))
    → IfOk r (λ (j : Journal). Legal s.providers j.entries) → IfOk r (λ (j : Journal). Complete s.providers j.entries s.lines) → IfOk r (λ (j : Journal). j.providers ≡ s.providers)
    → IfOk r (λ (j : Journal). j.stalls ≡ stalls_after s.lines j.entries) → IfOk r Law
of-whole s Law (Ok j) law legal complete p t =
    subst Law (λ i. record { providers = sym p i; entries = j.entries; stalls = sym t i }) (law j.entries (legal-run s j.entries legal complete) complete)
of-whole s Law (Err e) law legal complete p t = tt

-- its stall lines, by its own entries
pub own-stalls : {E : Type 0} (s : Script) (entries : List Entry) (r : Result Journal E) → IfOk r (λ (j : Journal). j.entries ≡ entries) → IfOk r (λ (j : Journal). j.stalls ≡ stalls_after s.lines entries)
    → IfOk r (λ (j : Journal). j.stalls ≡ stalls_after s.lines j.entries)
own-stalls s entries (Ok j) e t = t ∙ ap (stalls_after s.lines) (sym e)
own-stalls s entries (Err x) e t = tt

-- the worker of the entry that comes last
pub last-added : (w : ℕ) (past : List Entry) (e : Entry) → last_worker w (past ++ e ∷ []) ≡ e.worker
last-added w [] e = refl
last-added w (x ∷ past) e = last-added x.worker past e
