-- A journal's lines that were judged so far, and what is said of the next one.
use Rattle.std.proofs.Common.{◌≡◌, ℕ, zero, suc, ◌+◌, ◌<◌, ◌≤◌, List, [], ◌∷◌, ◌++◌, length, get_or, take, drop, Option, Some, None, inl, inr, refl, sym, ap, subst, ◌∙◌, append_assoc, arith}
use Rattle.std.specs.Prelude.{codes}
use Rattle.std.proofs.lemmas.List.{length-append, take_more, take_all, take-append-drop, length-take-le}
use Rattle.xti_base.specs.declared.limits.TheConstants.{LAST_WORKER}
use Rattle.xti_model.specs.declared.entry.Entry.{Entry}
use Rattle.xti_model.specs.declared.profile.Providers.{Providers}
use Rattle.xti_model.specs.declared.script.Journal.{Journal}
use Rattle.xti_model.specs.declared.profile.Version.{Version}
use Rattle.xti_model.specs.declared.script.StallLine.{StallLine}
use Rattle.xti_model.specs.World.{opening}
use Rattle.xti_model.specs.History.{step_at, after, Fits, Legal, doing}
use Rattle.xti_model.proofs.Legality.{legal-snoc}
use Rattle.xti_journal_text.specs.JournalText.{answer_text}
use Rattle.xti_journal.specs.Grammar.{AreEntries, AreStallsAfter, AreStalls, HasText}
use Rattle.xti_laws_texts.proofs.Entries.{entry-form}
use Rattle.xti_check.specs.declared.judging.Judge.{Judge}
use Rattle.xti_check.specs.declared.verdict.Verdict.TheVariants as verdict
use Rattle.xti_check.specs.Verdicts.{IsVerdict, AreRightStalls, IsRightStall, wanted, stalling}
use Rattle.xti_check.specs.Judging.{StandsAfter, JudgesEntry, JudgesStall, JudgesEntries, HaveWorkers, JudgesPlace}
use Rattle.xti_check.proofs.Judged.{texts_differ, stall_texts_differ}

pub record EntriesSoFar (j : Journal) (past : List Entry) (judge : Judge) (line : ℕ) : Type 0 where
  pub stands : StandsAfter past judge
  pub legal : Legal j.providers past
  pub same : judge.world.providers ≡ j.providers
  pub whole : judge.entries.now ≡ j.entries
  pub place : line ≡ 5 + length past

pub entries_none : (j : Journal) (judge : Judge) → StandsAfter [] judge → judge.world.providers ≡ j.providers → judge.entries.now ≡ j.entries → EntriesSoFar j [] judge 5
entries_none j judge s p w = record { stands = s; legal = tt; same = p; whole = w; place = refl }

pub right_entry : (j : Journal) (past : List Entry) (old new : Judge) (line : ℕ) (e : Entry) → EntriesSoFar j past old line → JudgesEntry past e old new None → new.world.providers ≡ old.world.providers → new.entries.now ≡ old.entries.now → EntriesSoFar j (past ++ e ∷ []) new (line + 1)
right_entry j past old new line e s h p w =
    let fits : Fits (step_at j.providers (after j.providers past) past e) e = subst (λ (q : Providers). Fits (step_at q (after q past) past e) e) s.same h.0 in
    record {
      stands = h.1;
      legal = legal-snoc j.providers (opening j.providers) [] past e s.legal fits;
      same = p ∙ s.same;
      whole = w ∙ s.whole;
      place = omega (arith, s.place, length-append past (e ∷ []));
    }

pub wrong_entry : (j : Journal) (past others : List Entry) (old new : Judge) (line : ℕ) (e : Entry) (expected found : List ℕ) → HasText j → EntriesSoFar j past old line → j.entries ≡ past ++ e ∷ others → JudgesEntry past e old new (Some expected) → found ≡ answer_text e.outcome e.after → IsVerdict j (verdict.Wrong line expected found)
wrong_entry j past others old new line e expected found text s w h f = inl (record {
  past = past;
  entry = e;
  others = others;
  entries = w;
  place = s.place;
  right_before = s.legal;
  wrong = subst (λ (q : Providers). Fits (step_at q (after q past) past e) e → ⊥) s.same h.0;
  expected_is = subst (λ (q : Providers). expected ≡ wanted q (after q past) e.act (doing past e)) s.same h.1;
  found_is = f;
  differ = λ d. texts_differ j.providers.version old.world.providers (after old.world.providers past) past e expected (entry-form j.providers.version [] past others e (subst (AreEntries j.providers.version []) w text.entries)) h (d ∙ f);
})

pub all_entries : (j : Journal) (judge : Judge) (line : ℕ) → EntriesSoFar j j.entries judge line → JudgesEntries j judge None
all_entries j judge line s = (s.legal, s.stands, s.same)

-- ---- workers

worker_from : (version : Version) (past es : List Entry) (i : ℕ) (d : Entry) → AreEntries version past es → i < length es → (get_or es i d).worker ≤ LAST_WORKER
worker_from version past [] i d h l = absurd (omega arith)
worker_from version past (e ∷ es) zero d h l = h.0.worker
worker_from version past (e ∷ es) (suc i) d h l = worker_from version (past ++ e ∷ []) es i d h.1 (omega arith)

pub entry_worker : (j : Journal) (i : ℕ) (e : Entry) → HasText j → i < length j.entries → e ≡ get_or j.entries i e → e.worker ≤ LAST_WORKER
entry_worker j i e h l g = subst (λ (x : Entry). x.worker ≤ LAST_WORKER) (sym g) (worker_from j.providers.version [] j.entries i e h.entries l)

stall_from : (version : Version) (es : List Entry) (before : StallLine) (ss : List StallLine) (i : ℕ) (d : StallLine) → AreStallsAfter version es before ss → i < length ss → (get_or ss i d).worker ≤ LAST_WORKER
stall_from version es before [] i d h l = absurd (omega arith)
stall_from version es before (s ∷ ss) zero d h l = h.1.worker
stall_from version es before (s ∷ ss) (suc i) d h l = stall_from version es s ss i d h.2 (omega arith)

stall_first : (version : Version) (es : List Entry) (ss : List StallLine) (i : ℕ) (d : StallLine) → AreStalls version es ss → i < length ss → (get_or ss i d).worker ≤ LAST_WORKER
stall_first version es [] i d h l = absurd (omega arith)
stall_first version es (s ∷ ss) zero d h l = h.0.worker
stall_first version es (s ∷ ss) (suc i) d h l = stall_from version es s ss i d h.1 (omega arith)

-- there are few stall lines
few_after : (version : Version) (es : List Entry) (before : StallLine) (ss : List StallLine) → AreStallsAfter version es before ss → before.worker ≤ LAST_WORKER → length ss + before.worker ≤ LAST_WORKER
few_after version es before [] h w = omega (arith, w)
few_after version es before (s ∷ ss) h w = omega (arith, few_after version es s ss h.2 h.1.worker, h.0.1)

few_first : (version : Version) (es : List Entry) (ss : List StallLine) → AreStalls version es ss → length ss ≤ LAST_WORKER + 1
few_first version es [] h = omega arith
few_first version es (s ∷ ss) h = omega (arith, few_after version es s ss h.1 h.0.worker)

pub few_stalls : (j : Journal) → HasText j → length j.stalls ≤ LAST_WORKER + 1
few_stalls j h = few_first j.providers.version j.entries j.stalls h.stalls

pub stall_worker : (j : Journal) (i : ℕ) (s : StallLine) → HasText j → i < length j.stalls → s ≡ get_or j.stalls i s → s.worker ≤ LAST_WORKER
stall_worker j i s h l g = subst (λ (x : StallLine). x.worker ≤ LAST_WORKER) (sym g) (stall_first j.providers.version j.entries j.stalls i s h.stalls l)

-- ---- the place of a line in its list

pub cut_at : {A : Type 0} (xs : List A) (i : ℕ) (x : A) → i < length xs → x ≡ get_or xs i x → xs ≡ take i xs ++ x ∷ drop (i + 1) xs
cut_at xs i x l g =
    sym (take-append-drop (i + 1) xs)
    ∙ ap (λ ys. ys ++ drop (i + 1) xs) (take_more xs i x l ∙ ap (λ y. take i xs ++ y ∷ []) (sym g))
    ∙ append_assoc (take i xs) (x ∷ []) (drop (i + 1) xs)

pub more_at : {A : Type 0} (xs : List A) (i : ℕ) (x : A) → i < length xs → x ≡ get_or xs i x → take (i + 1) xs ≡ take i xs ++ x ∷ []
more_at xs i x l g = take_more xs i x l ∙ ap (λ y. take i xs ++ y ∷ []) (sym g)

-- ---- stall lines

pub record StallsSoFar (j : Journal) (before : List StallLine) (judge : Judge) (line : ℕ) : Type 0 where
  pub stands : StandsAfter j.entries judge
  pub legal : Legal j.providers j.entries
  pub right : AreRightStalls j.providers j.entries before
  pub same : judge.world.providers ≡ j.providers
  pub place : line ≡ 5 + (length j.entries + length before)

pub stalls_none : (j : Journal) (judge : Judge) (line : ℕ) → JudgesEntries j judge None → line ≡ 5 + length j.entries → StallsSoFar j [] judge line
stalls_none j judge line h p = record { stands = h.1; legal = h.0; right = tt; same = h.2; place = omega (arith, p) }

right_more : (p : Providers) (entries : List Entry) (before : List StallLine) (s : StallLine) → AreRightStalls p entries before → IsRightStall p entries s → AreRightStalls p entries (before ++ s ∷ [])
right_more p entries [] s h r = (r, tt)
right_more p entries (t ∷ before) s h r = (h.0, right_more p entries before s h.1 r)

pub right_stall : (j : Journal) (before : List StallLine) (old new : Judge) (line : ℕ) (s : StallLine) → StallsSoFar j before old line → JudgesStall j.entries s old new None → new.world.providers ≡ old.world.providers → StallsSoFar j (before ++ s ∷ []) new (line + 1)
right_stall j before old new line s l h p =
    let right : IsRightStall j.providers j.entries s = subst (λ (q : Providers). IsRightStall q j.entries s) l.same h.0 in
    record {
      stands = h.1;
      legal = l.legal;
      right = right_more j.providers j.entries before s l.right right;
      same = p ∙ l.same;
      place = omega (arith, l.place, length-append before (s ∷ []));
    }

pub wrong_stall : (j : Journal) (before others : List StallLine) (old new : Judge) (line : ℕ) (s : StallLine) (expected found : List ℕ) → StallsSoFar j before old line → j.stalls ≡ before ++ s ∷ others → JudgesStall j.entries s old new (Some expected) → found ≡ codes "blocked" → IsVerdict j (verdict.Wrong line expected found)
wrong_stall j before others old new line s expected found l w h f = inr (record {
  before = before;
  stall = s;
  others = others;
  stalls = w;
  place = l.place;
  right_entries = l.legal;
  right_before = l.right;
  wrong = subst (λ (q : Providers). IsRightStall q j.entries s → ⊥) l.same h.0;
  expected_is = subst (λ (q : Providers). expected ≡ wanted q (after q j.entries) s.act (stalling j.entries s)) l.same h.1;
  found_is = f;
  differ = λ d. stall_texts_differ old.world.providers (after old.world.providers j.entries) j.entries s expected h (d ∙ f);
})

pub all_stalls : (j : Journal) (judge : Judge) (line : ℕ) → StallsSoFar j j.stalls judge line → IsVerdict j verdict.Legal
all_stalls j judge line l = record { entries = l.legal; stalls = l.right }

-- ---- by the place in the list

there : {A : Type 0} (xs : List A) (i : ℕ) → i < length xs → (x : A) × (x ≡ get_or xs i x)
there [] i l = absurd (omega arith)
there (x ∷ xs) zero l = (x, refl)
there (x ∷ xs) (suc i) l = there xs i (omega arith)

pub have_workers : (j : Journal) (judge : Judge) → HasText j → judge.entries.now ≡ j.entries → HaveWorkers judge.entries.now
have_workers j judge h w = subst HaveWorkers (sym w) (λ i d l. worker_from j.providers.version [] j.entries i d h.entries l)

pub wrong_at : (j : Journal) (i : ℕ) (old new : Judge) (line : ℕ) (e : Entry) (o : Option (List ℕ)) (expected found : List ℕ) → HasText j → EntriesSoFar j (take i j.entries) old line → i < length j.entries → e ≡ get_or j.entries i e → JudgesPlace i old new o → o ≡ Some expected → found ≡ answer_text e.outcome e.after
    → IsVerdict j (verdict.Wrong line expected found)
wrong_at j i old new line e o expected found text s l g judged is f =
    let w : j.entries ≡ take i j.entries ++ e ∷ drop (i + 1) j.entries = cut_at j.entries i e l g in
    let h : JudgesEntry (take i j.entries) e old new o = judged (take i j.entries) (drop (i + 1) j.entries) e (s.whole ∙ w) (length-take-le i j.entries (omega arith)) s.stands in
    wrong_entry j (take i j.entries) (drop (i + 1) j.entries) old new line e expected found text s w (subst (JudgesEntry (take i j.entries) e old new) is h) f

pub right_at : (j : Journal) (i : ℕ) (old new : Judge) (line next : ℕ) (o : Option (List ℕ)) → EntriesSoFar j (take i j.entries) old line → i < length j.entries → JudgesPlace i old new o → o ≡ None → new.world.providers ≡ old.world.providers → new.entries.now ≡ old.entries.now → next ≡ line + 1
    → EntriesSoFar j (take (i + 1) j.entries) new next
right_at j i old new line next o s l judged is p q n =
    let x = there j.entries i l in
    let w : j.entries ≡ take i j.entries ++ x.0 ∷ drop (i + 1) j.entries = cut_at j.entries i x.0 l x.1 in
    let h : JudgesEntry (take i j.entries) x.0 old new o = judged (take i j.entries) (drop (i + 1) j.entries) x.0 (s.whole ∙ w) (length-take-le i j.entries (omega arith)) s.stands in
    let r : EntriesSoFar j (take i j.entries ++ x.0 ∷ []) new (line + 1) = right_entry j (take i j.entries) old new line x.0 s (subst (JudgesEntry (take i j.entries) x.0 old new) is h) p q in
    subst (λ (es : List Entry). EntriesSoFar j es new next) (sym (more_at j.entries i x.0 l x.1)) (subst (EntriesSoFar j (take i j.entries ++ x.0 ∷ []) new) (sym n) r)

-- a line's number has room
pub next_line : (j : Journal) (i : ℕ) (judge : Judge) (line : ℕ) → EntriesSoFar j (take i j.entries) judge line → i < length j.entries → line ≡ 5 + i
next_line j i judge line s l = s.place ∙ ap (λ (n : ℕ). 5 + n) (length-take-le i j.entries (omega arith))

pub all_at : (j : Journal) (i : ℕ) (judge : Judge) (line : ℕ) → EntriesSoFar j (take i j.entries) judge line → length j.entries ≤ i → JudgesEntries j judge None
all_at j i judge line s l = all_entries j judge line (subst (λ (es : List Entry). EntriesSoFar j es judge line) (take_all i j.entries l) s)

abbrev JudgesAny : Journal → StallLine → Judge → Judge → Option (List ℕ) → Type 0
JudgesAny j s old new o = (past : List Entry) → StandsAfter past old → JudgesStall past s old new o

pub wrong_stall_at : (j : Journal) (i : ℕ) (old new : Judge) (line : ℕ) (st : StallLine) (o : Option (List ℕ)) (expected found : List ℕ) → StallsSoFar j (take i j.stalls) old line → i < length j.stalls → st ≡ get_or j.stalls i st
    → ((past : List Entry) → StandsAfter past old → JudgesStall past st old new o) → o ≡ Some expected → found ≡ codes "blocked" → IsVerdict j (verdict.Wrong line expected found)
wrong_stall_at j i old new line st o expected found s l g judged is f =
    wrong_stall j (take i j.stalls) (drop (i + 1) j.stalls) old new line st expected found s (cut_at j.stalls i st l g) (subst (JudgesStall j.entries st old new) is (judged j.entries s.stands)) f

pub right_stall_at : (j : Journal) (i : ℕ) (old new : Judge) (line next : ℕ) (st : StallLine) (o : Option (List ℕ)) → StallsSoFar j (take i j.stalls) old line → i < length j.stalls → st ≡ get_or j.stalls i st → ((past : List Entry) → StandsAfter past old → JudgesStall past st old new o) → o ≡ None
    → new.world.providers ≡ old.world.providers → next ≡ line + 1 → StallsSoFar j (take (i + 1) j.stalls) new next
right_stall_at j i old new line next st o s l g judged is p n =
    let r : StallsSoFar j (take i j.stalls ++ st ∷ []) new (line + 1) = right_stall j (take i j.stalls) old new line st s (subst (JudgesStall j.entries st old new) is (judged j.entries s.stands)) p in
    subst (λ (ss : List StallLine). StallsSoFar j ss new next) (sym (more_at j.stalls i st l g)) (subst (StallsSoFar j (take i j.stalls ++ st ∷ []) new) (sym n) r)

pub next_stall : (j : Journal) (i : ℕ) (judge : Judge) (line : ℕ) → StallsSoFar j (take i j.stalls) judge line → i < length j.stalls → line ≡ 5 + (length j.entries + i)
next_stall j i judge line s l = s.place ∙ ap (λ (n : ℕ). 5 + (length j.entries + n)) (length-take-le i j.stalls (omega arith))
