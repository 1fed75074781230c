-- What is answered to an input that is copied.
use Rattle.std.proofs.Common.{◌≡◌, ℕ, Bool, true, false, List, [], ◌∷◌, refl, subst, arith}
use Rattle.std.specs.Prelude.{◌==◌, nat_lt}
use Rattle.std.specs.List.{list_all}
use Rattle.std.proofs.lemmas.Bool.{and_parts}
use Rattle.std.proofs.lemmas.Bool.Decides.{nat_tests}
use Rattle.xti_base.specs.declared.limits.TheConstants.{WORKERS}
use Rattle.xti_model.specs.declared.entry.Entry.{Entry}
use Rattle.xti_model.specs.declared.script.Journal.{Journal}
use Rattle.xti_model.specs.Complete.{is_worker}
use Rattle.xti_model.specs.History.{Legal, is_own}
use Rattle.xti_model.specs.Profile.{usual}
use Rattle.xti_journal_text.specs.JournalText.{journal_text}
use Rattle.xti_journal.specs.Grammar.{HasText, IsJournal}
use Rattle.xti_laws_streams.specs.Copying.{AreCalls, copied, copy_calls, copy_journal}
use Rattle.xti_laws_streams.specs.CopyLaws.{HasOneConnection, HasSentItsInput, HasGotItsInput}
use Rattle.xti_outputs.specs.Outputs.{IsCopied, IsPrinted, printed_of}

own-worker : (n : ℕ) → (n == 0) ≡ true → nat_lt n WORKERS ≡ true
own-worker n h = grind (arith, nat_tests)

-- worker 0 is a worker
pub workers : (es : List Entry) → list_all (is_own 0) es ≡ true → list_all is_worker es ≡ true
workers [] h = refl
workers (e ∷ es) h =
    let b = and_parts (is_own 0 e) (list_all (is_own 0) es) h in
    rw (own-worker e.worker b.0, workers es b.1) refl

printed : (summary : Bool) (input text : List ℕ) → HasText (copy_journal input) → ((k : Journal) → IsJournal k (journal_text (copy_journal input)) → k ≡ copy_journal input)
    → text ≡ printed_of summary (copy_journal input) → IsPrinted summary (copy_journal input) text
printed false input text h only t = (record { has_text = h; written = t }, λ k j. only k (subst (IsJournal k) t j))
printed true input text h only t = (h, t)

-- what is printed of the entries of a copy
pub copied-input : (summary : Bool) (input text : List ℕ) → HasText (copy_journal input) → ((k : Journal) → IsJournal k (journal_text (copy_journal input)) → k ≡ copy_journal input)
    → text ≡ printed_of summary (copy_journal input) → Legal usual (copied input) → AreCalls 0 (copy_calls input) (copied input) → HasOneConnection (copied input) → HasSentItsInput input (copied input) → HasGotItsInput input (copied input)
    → IsCopied summary input 0 text
copied-input summary input text h only t legal calls one sent got = record {
  done = refl;
  printed = printed summary input text h only t;
  judged = record { entries = legal; stalls = tt };
  calls = calls;
  one = one;
  sent = sent;
  got = got;
}
