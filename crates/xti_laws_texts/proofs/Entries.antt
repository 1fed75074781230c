-- The text of an entry that isn't the step of its call is another one than that of the step.
use Rattle.std.proofs.Common.{◌≡◌, ℕ, Bool, true, false, cond, eqb, List, [], ◌∷◌, ◌++◌, get_or, Option, Some, None, refl, sym, ap, subst, ◌∙◌, append_assoc}
use Rattle.std.specs.Prelude.{option_map}
use Rattle.std.proofs.lemmas.List.{append-nil}
use Rattle.std.proofs.lemmas.Option.{none-some}
use Rattle.xti_base.specs.declared.kinds.State.{State}
use Rattle.xti_model.specs.declared.call.Call.{Call}
use Rattle.xti_model.specs.declared.entry.Act.{Act}
use Rattle.xti_model.specs.declared.entry.Act.TheVariants.{Begin, More}
use Rattle.xti_model.specs.declared.entry.Entry.{Entry}
use Rattle.xti_model.specs.declared.entry.Outcome.{Outcome}
use Rattle.xti_model.specs.declared.entry.Outcome.TheVariants.{Done, Part}
use Rattle.xti_model.specs.declared.entry.Reply.TheVariants as reply
use Rattle.xti_model.specs.declared.profile.Providers.{Providers}
use Rattle.xti_model.specs.declared.profile.Version.{Version}
use Rattle.xti_model.specs.World.{World}
use Rattle.xti_model.specs.Step.{Step}
use Rattle.xti_model.specs.History.{Going, own, call_after, unfinished, made_by, doing, step_going}
use Rattle.xti_model.proofs.Working.{call_from, IsCallOf, call_of-from}
use Rattle.xti_journal_text.specs.JournalText.{answer_text}
use Rattle.xti_verbs.specs.declared.verb.Verb.{Verb}
use Rattle.xti_verbs.specs.Verbs.{verb_of}
use Rattle.xti_journal.specs.Grammar.{verb_after, verb_from, last_verb, IsAnswer, IsEntry, AreEntries}
use Rattle.xti_laws_texts.specs.Texts.{AreNumbers}
use Rattle.xti_laws.proofs.InForm.{in-form}
use Rattle.xti_laws_texts.proofs.Texts.{one-answer}

-- ---- the first letter of an answer: that of `ok`, `err` or `part`

abbrev pub is_answer_letter : List ℕ → Bool
is_answer_letter text = cond (eqb (get_or text 0 0) 111) true (cond (eqb (get_or text 0 0) 101) true (eqb (get_or text 0 0) 112))

pub answer-letter : (o : Outcome) (s : State) → is_answer_letter (answer_text o s) ≡ true
answer-letter (Part taken) s = refl
answer-letter (Done reply.Plain) s = refl
answer-letter (Done other) s = refl

pub no-answer : (text : List ℕ) (o : Outcome) (s : State) → is_answer_letter text ≡ false → text ≡ answer_text o s → ⊥
no-answer text o s f e = let c : false ≡ true = sym f ∙ ap is_answer_letter e ∙ answer-letter o s in absurd cc

-- ---- the worker's last call is the one that the entry makes a step of

verb-more : (c : Option Call) (a : Act) → verb_after (option_map verb_of c) a ≡ option_map verb_of (call_after c a)
verb-more c (Begin call) = refl
verb-more c More = refl

verbs-are : (c : Option Call) (worker : ℕ) (es : List Entry) → verb_from (option_map verb_of c) worker es ≡ option_map verb_of (call_from c (own es worker))
verbs-are c worker [] = refl
verbs-are c worker (e ∷ es) = go (eqb e.worker worker) (verbs-are (call_after c e.act) worker es) (verbs-are c worker es)
  where
    go : (b : Bool) → verb_from (option_map verb_of (call_after c e.act)) worker es ≡ option_map verb_of (call_from (call_after c e.act) (own es worker)) → verb_from (option_map verb_of c) worker es ≡ option_map verb_of (call_from c (own es worker))
        → verb_from (cond b (verb_after (option_map verb_of c) e.act) (option_map verb_of c)) worker es ≡ option_map verb_of (call_from c (cond b (e ∷ own es worker) (own es worker)))
    go true here later = ap (λ (v : Option Verb). verb_from v worker es) (verb-more c e.act) ∙ here
    go false here later = later

pub last-is : (past : List Entry) (worker : ℕ) → last_verb past worker ≡ option_map verb_of (call_from None (own past worker))
unfolding last_verb
last-is past worker = verbs-are None worker past

pub made-call : (u : Option Going) (c : Option Call) (a : Act) (g : Going) → IsCallOf c u → made_by u a ≡ Some g → call_after c a ≡ Some g.call
made-call None c (Begin x) g h e = ap (option_map (λ (y : Going). y.call)) e
made-call (Some u) c (Begin x) g h e = absurd (none-some g e)
made-call u c More g h e = subst (IsCallOf c) e h

pub verb-is : (past : List Entry) (e : Entry) (g : Going) → doing past e ≡ Some g → verb_after (last_verb past e.worker) e.act ≡ Some (verb_of g.call)
verb-is past e g d =
    let last : Option Call = call_from None (own past e.worker) in
    ap (λ (v : Option Verb). verb_after v e.act) (last-is past e.worker)
    ∙ verb-more last e.act
    ∙ ap (option_map verb_of) (made-call (unfinished past e.worker) last e.act g (call_of-from None None (own past e.worker) tt) d)

-- ---- entries

-- an entry with the text of the step has its outcome and its state
pub step-text : (version : Version) (p : Providers) (w : World) (past : List Entry) (e : Entry) (g : Going) (s : Step) → IsEntry version past e → doing past e ≡ Some g → step_going p w g ≡ Some s → AreNumbers s.outcome → answer_text s.outcome s.after ≡ answer_text e.outcome e.after → (e.outcome ≡ s.outcome) × (e.after ≡ s.after)
step-text version p w past e g s h d b n t =
    let answer : IsAnswer (Some (verb_of g.call)) e.outcome = subst (λ (v : Option Verb). IsAnswer v e.outcome) (verb-is past e g d) h.answer in
    let both = one-answer (verb_of g.call) s.outcome e.outcome s.after e.after (in-form p w g.call g.so_far s b) n answer t in
    (sym both.0, sym both.1)

-- each entry of a journal has a text after those before
pub entry-form : (version : Version) (done front others : List Entry) (e : Entry) → AreEntries version done (front ++ e ∷ others) → IsEntry version (done ++ front) e
entry-form version done [] others e h = subst (λ (l : List Entry). IsEntry version l e) (sym (append-nil done)) h.0
entry-form version done (x ∷ front) others e h = subst (λ (l : List Entry). IsEntry version l e) (append_assoc done (x ∷ []) front) (entry-form version (done ++ x ∷ []) front others e h.1)
