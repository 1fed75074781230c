-- The entries of a legal history are those of a journal, where its calls are written in journals and its answers have such values.
use Rattle.std.proofs.Common.{◌≡◌, ℕ, ◌≤◌, true, List, [], ◌∷◌, ◌++◌, Option, Some, None, refl, sym, ap, subst, ◌∙◌, arith}
use Rattle.std.specs.Prelude.{option_map, option_and_then, All}
use Rattle.std.specs.List.{list_all}
use Rattle.std.proofs.lemmas.Bool.{and_parts, ltb-true}
use Rattle.std.proofs.lemmas.List.Elements.{All-head, All-tail}
use Rattle.std.proofs.lemmas.Option.{none-some}
use Rattle.xti_model.specs.declared.call.Call.{Call}
use Rattle.xti_model.specs.declared.entry.Act.{Act}
use Rattle.xti_model.specs.declared.entry.Act.TheVariants.{Begin, More}
use Rattle.xti_model.specs.declared.entry.Entry.{Entry}
use Rattle.xti_model.specs.declared.entry.Go.{Go}
use Rattle.xti_model.specs.declared.profile.Providers.{Providers}
use Rattle.xti_model.specs.Complete.{is_worker}
use Rattle.xti_model.specs.World.{World}
use Rattle.xti_model.specs.Step.{Step, step}
use Rattle.xti_model.specs.History.{Going, own, unfinished, made_by, doing, step_going, step_at, left_by, Fits, LegalFrom}
use Rattle.xti_model.proofs.Working.{call_from, IsCallOf, call_of-from}
use Rattle.xti_model.specs.declared.profile.Version.{Version}
use Rattle.xti_verbs.specs.declared.verb.Verb.{Verb}
use Rattle.xti_verbs.specs.Verbs.{verb_of}
use Rattle.xti_journal.specs.Grammar.{last_verb, IsAct, IsAnswer, IsEntry, AreEntries}
use Rattle.xti_laws.specs.Given.{OfStep}
use Rattle.xti_laws.specs.Answers.{AnswersInForm}
use Rattle.xti_laws.specs.Values.{AnswersValues}
use Rattle.xti_laws_texts.proofs.Entries.{last-is, verb-is}
use Rattle.xti_laws_journals.proofs.FollowedCalls.{Begins, AllBegin}
use Rattle.xti_laws_journals.proofs.ValuedScripts.{IsWritable}
use Rattle.xti_laws_journals.proofs.AnswerFields.{is-answer}

-- ---- the worker's last call

-- a call that goes on is the last that was begun
pub going-verb : (past : List Entry) (worker : ℕ) (g : Going) → unfinished past worker ≡ Some g → last_verb past worker ≡ Some (verb_of g.call)
going-verb past worker g u = last-is past worker ∙ ap (option_map verb_of) (subst (IsCallOf (call_from None (own past worker))) u (call_of-from None None (own past worker) tt))

-- ---- entries

-- an act after this call, or a call that is written in journals
pub is-act : (version : Version) (o : Option Verb) (a : Act) (v : Verb) → Begins (IsWritable version) a → (a ≡ More → o ≡ Some v) → IsAct version o a
is-act version None (Begin c) v h k = h
is-act version (Some x) (Begin c) v h k = h
is-act version None More v h k = absurd (none-some v (k refl))
is-act version (Some x) More v h k = tt

begins-not : {A : Type 0} (c : Call) → Begin c ≡ More → A
begins-not c e = absurd cc

-- `more` goes on with the worker's call
more-goes : (past : List Entry) (e : Entry) (g : Going) → doing past e ≡ Some g → e.act ≡ More → last_verb past e.worker ≡ Some (verb_of g.call)
more-goes past e g d m = going-verb past e.worker g (ap (made_by (unfinished past e.worker)) (sym m) ∙ d)

one-entry : (version : Version) (p : Providers) (w : World) (past : List Entry) (e : Entry) → ((w : World) (c : Call) (g : Go) → OfStep p w c g (λ s. AnswersInForm (verb_of c) s.outcome))
    → Fits (step_at p w past e) e → Begins (IsWritable version) e.act → AnswersValues e → is_worker e ≡ true → IsEntry version past e
one-entry version p w past e form f b v i = go (doing past e) refl f
  where
    small : e.worker ≤ 32
    small = (let l = ltb-true e.worker 33 i in omega (arith, l))

    go : (o : Option Going) → doing past e ≡ o → Fits (option_and_then (step_going p w) o) e → IsEntry version past e
    go None d k = absurd k
    go (Some g) d k = stepped (step p w g.call g.so_far) refl k
      where
        stepped : (o : Option Step) → step p w g.call g.so_far ≡ o → Fits o e → IsEntry version past e
        stepped None j k = absurd k
        stepped (Some s) j k = record {
          worker = small;
          act = is-act version (last_verb past e.worker) e.act (verb_of g.call) b (more-goes past e g d);
          answer = subst (λ (v : Option Verb). IsAnswer v e.outcome) (sym (verb-is past e g d)) (is-answer (verb_of g.call) e.outcome (subst (AnswersInForm (verb_of g.call)) (sym k.0) (form w g.call g.so_far s j)) v);
        }

entries-from : (version : Version) (p : Providers) (w : World) (past es : List Entry) → ((w : World) (c : Call) (g : Go) → OfStep p w c g (λ s. AnswersInForm (verb_of c) s.outcome))
    → LegalFrom p w past es → AllBegin (IsWritable version) es → All AnswersValues es → list_all is_worker es ≡ true → AreEntries version past es
entries-from version p w past [] form l b v i = tt
entries-from version p w past (e ∷ es) form l b v i =
    let parts = and_parts (is_worker e) (list_all is_worker es) i in
    (one-entry version p w past e form l.0 b.0 (All-head AnswersValues e es v) parts.0, entries-from version p (left_by w (step_at p w past e)) (past ++ e ∷ []) es form l.1 b.1 (All-tail AnswersValues e es v) parts.1)

pub entries-are : (version : Version) (p : Providers) (w : World) (es : List Entry) → ((w : World) (c : Call) (g : Go) → OfStep p w c g (λ s. AnswersInForm (verb_of c) s.outcome))
    → LegalFrom p w [] es → AllBegin (IsWritable version) es → All AnswersValues es → list_all is_worker es ≡ true → AreEntries version [] es
entries-are version p w es form l b v i = entries-from version p w [] es form l b v i
