-- What is said of a journal that is legal, and that alone has its text.
use Rattle.std.proofs.Common.{◌≡◌, ℕ, List, [], ◌∷◌, ◌++◌, length, refl, sym, ap, subst, ◌∙◌, inl, inr, append_assoc}
use Rattle.std.proofs.lemmas.List.{append-nil}
use Rattle.xti_model.specs.declared.entry.Entry.{Entry}
use Rattle.xti_model.specs.declared.profile.Providers.{Providers}
use Rattle.xti_model.specs.declared.script.Journal.{Journal}
use Rattle.xti_model.specs.declared.script.StallLine.{StallLine}
use Rattle.xti_model.specs.World.{World, opening}
use Rattle.xti_model.specs.History.{step_at, left_by, after_from, after, Fits, LegalFrom, Legal}
use Rattle.xti_journal.specs.Grammar.{HasText, IsJournal}
use Rattle.xti_journal.specs.Refused.{IsRefusedAt as IsNoJournalAt}
use Rattle.xti_check.specs.Verdicts.{IsRightStall, AreRightStalls, IsLegal, IsVerdict}
use Rattle.xti_check.specs.Judgements.{TellsWrong, legal_text}
use Rattle.xti_check.specs.declared.verdict.Verdict.TheVariants as verdict
use Rattle.xti_command.specs.declared.command.Reading.TheVariants.{Check}
use Rattle.xti_laws_journals.specs.Runs.{IsOnlyJournal}
use Rattle.xti_laws_streams.specs.Laws.{PrefixLaw, WaitingLaw, ReleaseLaw}
use Rattle.xti_outputs.specs.Outputs.{IsAnswered, IsLegalJournal}

-- no text is a journal and refused at a line
abbrev pub NoJournal : Type 0
NoJournal = (text : List ℕ) (j : Journal) (line : ℕ) → IsJournal j text → IsNoJournalAt text line → ⊥

-- each entry of a legal history is the step of its call
entry-fits : (p : Providers) (w : World) (past front others : List Entry) (e : Entry) → LegalFrom p w past (front ++ e ∷ others) → Fits (step_at p (after_from p w past front) (past ++ front) e) e
entry-fits p w past [] others e l = subst (λ (q : List Entry). Fits (step_at p w q e) e) (sym (append-nil past)) l.0
entry-fits p w past (x ∷ front) others e l =
    let v = left_by w (step_at p w past x) in
    subst (λ (q : List Entry). Fits (step_at p (after_from p v (past ++ x ∷ []) front) q e) e) (append_assoc past (x ∷ []) front) (entry-fits p v (past ++ x ∷ []) front others e l.1)

stall-right : (p : Providers) (es : List Entry) (before others : List StallLine) (s : StallLine) → AreRightStalls p es (before ++ s ∷ others) → IsRightStall p es s
stall-right p es [] others s h = h.0
stall-right p es (x ∷ before) others s h = stall-right p es before others s h.1

never-wrong : (j : Journal) (line : ℕ) (expected found : List ℕ) → IsLegal j → IsVerdict j (verdict.Wrong line expected found) → ⊥
never-wrong j line expected found h (inl w) = w.wrong (entry-fits j.providers (opening j.providers) [] w.past w.others w.entry (subst (Legal j.providers) w.entries h.entries))
never-wrong j line expected found h (inr w) = w.wrong (stall-right j.providers j.entries w.before w.others w.stall (subst (AreRightStalls j.providers j.entries) w.stalls h.stalls))

pub says-legal : NoJournal → (j : Journal) (text : List ℕ) (status : ℕ) (said : List ℕ) → IsJournal j text → IsOnlyJournal j text → IsLegal j → IsAnswered Check text status said → (status ≡ 0) × (said ≡ legal_text (length j.entries))
says-legal never j text status said h only l (inl legal) = (legal.done, legal.printed ∙ ap (λ (k : Journal). legal_text (length k.entries)) (only legal.journal legal.is_journal))
says-legal never j text status said h only l (inr (inl w)) =
    absurd (never-wrong j w.wrong.line w.wrong.expected w.wrong.found l (subst (λ (k : Journal). IsVerdict k (verdict.Wrong w.wrong.line w.wrong.expected w.wrong.found)) (only w.journal w.is_journal) w.wrong.wrong))
says-legal never j text status said h only l (inr (inr refused)) = absurd (never text j refused.line h refused.refused)

-- what is answered to a journal that is legal
pub legal-journal : (input text : List ℕ) → ((j : Journal) → HasText j → IsLegal j → PrefixLaw j.providers j.entries) → ((j : Journal) → HasText j → IsLegal j → WaitingLaw j.providers j.entries) → ((j : Journal) → HasText j → IsLegal j → ReleaseLaw j.providers j.entries)
    → (j : Journal) × IsJournal j input × (IsLegal j × (text ≡ legal_text (length j.entries))) → IsLegalJournal input 0 text
legal-journal input text prefix waiting release said = record {
  journal = said.0;
  is_journal = said.1;
  legal = said.2.0;
  prefix = prefix said.0 said.1.has_text said.2.0;
  waiting = waiting said.0 said.1.has_text said.2.0;
  release = release said.0 said.1.has_text said.2.0;
  done = refl;
  printed = said.2.1;
}
