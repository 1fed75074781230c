-- A call that is unfinished after a legal history has taken no more than there is.
use Rattle.std.specs.Prelude.{ℕ, Bool, true, false, List, [], ◌∷◌, ◌++◌, Option, Some, None, IfSome, option_map, option_and_then, ◌≡◌}
use Rattle.std.proofs.Common.{refl, sym, ap, subst, ◌∙◌, append_assoc}
use Rattle.std.proofs.lemmas.Bool.{eq-eqb, eqb-true}
use Rattle.std.proofs.lemmas.List.{append-nil}
use Rattle.std.proofs.lemmas.Option.{none-some}
use Rattle.xti_model.specs.declared.call.Call.{Call}
use Rattle.xti_model.specs.declared.entry.Act.{Act}
use Rattle.xti_model.specs.declared.entry.Act.TheVariants as act
use Rattle.xti_model.specs.declared.entry.Entry.{Entry}
use Rattle.xti_model.specs.declared.profile.Providers.{Providers}
use Rattle.xti_model.specs.World.{World, opening}
use Rattle.xti_model.specs.Step.{Step}
use Rattle.xti_model.specs.History.{Going, is_own, own, call_after, going_after, unfinished, unfinished_from, made_by, doing, step_going, step_at, left_by, Fits, LegalFrom, Legal}
use Rattle.xti_model.proofs.Outcomes.{IsPossible, Falls, step-falls}
use Rattle.xti_model.proofs.Working.{call_from, unfinished_from-snoc, IsCallOf, call_of-from, possible-begin, IsPossibleGoing, going_after-falls, own-more}

-- the call that an entry makes is the last begun one after it
made-call : (u : Option Going) (c : Option Call) (a : Act) (g : Going) → IsCallOf c u → made_by u a ≡ Some g → call_after c a ≡ Some g.call
made-call None c (act.Begin x) g h e = ap (option_map (λ (y : Going). y.call)) e
made-call (Some u) c (act.Begin x) g h e = absurd (none-some g e)
made-call u c act.More g h e = subst (IsCallOf c) e h

made-possible : (u : Option Going) (a : Act) (g : Going) → IsPossibleGoing u → made_by u a ≡ Some g → IsPossible g.call g.so_far
made-possible None (act.Begin x) g k e = subst IsPossibleGoing e (possible-begin x)
made-possible (Some u) (act.Begin x) g k e = absurd (none-some g e)
made-possible u act.More g k e = subst IsPossibleGoing e k

pub possible-one : (p : Providers) (w : World) (past : List Entry) (e : Entry) → Fits (step_at p w past e) e → ((n : ℕ) → IsPossibleGoing (unfinished past n)) → (n : ℕ) → IsPossibleGoing (unfinished (past ++ e ∷ []) n)
possible-one p w past e f k n = by (is_own n e) refl
  where
    -- the entry's own worker
    made : (o : Option Going) → doing past e ≡ o → Fits (option_and_then (step_going p w) o) e → IsPossibleGoing (going_after (call_after (call_from None (own past e.worker)) e.act) e.outcome)
    made None d f = absurd f
    made (Some g) d f = stepped (step_going p w g) (step-falls p w g.call g.so_far (made-possible (unfinished past e.worker) e.act g (k e.worker) d)) f
      where
        call : call_after (call_from None (own past e.worker)) e.act ≡ Some g.call
        call = made-call (unfinished past e.worker) (call_from None (own past e.worker)) e.act g (call_of-from None None (own past e.worker) tt) d

        stepped : (s : Option Step) → IfSome s (λ s. Falls g.call g.so_far s.outcome) → Fits s e → IsPossibleGoing (going_after (call_after (call_from None (own past e.worker)) e.act) e.outcome)
        stepped None h f = absurd f
        stepped (Some s) h f = rw call (going_after-falls g.call g.so_far e.outcome (subst (Falls g.call g.so_far) (sym f.0) h)).1

    by : (b : Bool) → is_own n e ≡ b → IsPossibleGoing (unfinished (past ++ e ∷ []) n)
    by true h =
        subst (λ m. IsPossibleGoing (unfinished (past ++ e ∷ []) m)) (eqb-true e.worker n h)
        (subst IsPossibleGoing (sym (ap (unfinished_from None None) (own-more past e e.worker true (eq-eqb e.worker e.worker refl)) ∙ unfinished_from-snoc None None (own past e.worker) e)) (made (doing past e) refl f))
    by false h = subst (λ es. IsPossibleGoing (unfinished_from None None es)) (sym (own-more past e n false h)) (k n)

pub possible-from : (p : Providers) (w : World) (past es : List Entry) → LegalFrom p w past es → ((n : ℕ) → IsPossibleGoing (unfinished past n)) → (n : ℕ) → IsPossibleGoing (unfinished (past ++ es) n)
possible-from p w past [] l k n = subst (λ es. IsPossibleGoing (unfinished es n)) (sym (append-nil past)) (k n)
possible-from p w past (e ∷ es) l k n =
    subst (λ es. IsPossibleGoing (unfinished es n)) (append_assoc past (e ∷ []) es)
    (possible-from p (left_by w (step_at p w past e)) (past ++ e ∷ []) es l.1 (possible-one p w past e l.0 k) n)

pub possible-of_legal : (p : Providers) (past : List Entry) → Legal p past → (n : ℕ) → IsPossibleGoing (unfinished past n)
possible-of_legal p past l = possible-from p (opening p) [] past l (λ n. tt)
