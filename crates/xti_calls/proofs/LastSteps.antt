-- The last entry of a call that was answered is a step of the call.
use Rattle.std.proofs.Common.{◌≡◌, ℕ, Bool, true, false, List, [], ◌∷◌, ◌++◌, Option, Some, None, refl, sym, ap, ◌∙◌, subst, append_assoc}
use Rattle.std.specs.Prelude.{option_and_then}
use Rattle.std.specs.List.{AllByRecursion}
use Rattle.std.proofs.lemmas.Bool.{eqb-true, eq-eqb}
use Rattle.std.proofs.lemmas.List.{append-nil}
use Rattle.xti_model.specs.declared.call.Call.{Call}
use Rattle.xti_model.specs.declared.entry.Act.{Act}
use Rattle.xti_model.specs.declared.entry.Go.{Go}
use Rattle.xti_model.specs.declared.entry.Go.TheVariants as go
use Rattle.xti_model.specs.declared.entry.Entry.{Entry}
use Rattle.xti_model.specs.declared.entry.Outcome.{Outcome}
use Rattle.xti_model.specs.declared.entry.Outcome.TheVariants.{Done}
use Rattle.xti_model.specs.declared.entry.Reply.{Reply}
use Rattle.xti_model.specs.declared.profile.Providers.{Providers}
use Rattle.xti_model.specs.World.{World, opening}
use Rattle.xti_model.specs.Step.{Step, step}
use Rattle.xti_model.specs.History.{Going, is_own, own, call_after, unfinished, doing, step_going, step_at, left_by, after_from, after, Fits, LegalFrom, Legal}
use Rattle.xti_model.proofs.Working.{call_from, call_of-from, own-more}
use Rattle.xti_hall_rule.specs.declared.view.View.{View}
use Rattle.xti_calls.specs.Calling.{IsMore, AreSteps, Answered}
use Rattle.xti_calls.proofs.Unfinished.{made-call}

-- ---- the last of a worker's own entries is its own

keeps-own : (n : ℕ) (es : List Entry) → AllByRecursion (λ e. is_own n e ≡ true) (own es n)
keeps-own n [] = tt
keeps-own n (e ∷ es) = by (is_own n e) refl (keeps-own n es)
  where
    by : (b : Bool) → is_own n e ≡ b → AllByRecursion (λ x. is_own n x ≡ true) (own es n) → AllByRecursion (λ x. is_own n x ≡ true) (own (e ∷ es) n)
    by true h k = rw h (h, k)
    by false h k = rw h k

last-of-all : (P : Entry → Type 0) (xs : List Entry) (e : Entry) → AllByRecursion P (xs ++ e ∷ []) → P e
last-of-all P [] e h = h.0
last-of-all P (x ∷ xs) e h = last-of-all P xs e h.1

last-own : (n : ℕ) (es xs : List Entry) (e : Entry) → own es n ≡ xs ++ e ∷ [] → is_own n e ≡ true
last-own n es xs e h = last-of-all (λ x. is_own n x ≡ true) xs e (subst (AllByRecursion (λ x. is_own n x ≡ true)) h (keeps-own n es))

-- ---- the call that was begun last

call_from-append : (c : Option Call) (xs ys : List Entry) → call_from c (xs ++ ys) ≡ call_from (call_from c xs) ys
call_from-append c [] ys = refl
call_from-append c (x ∷ xs) ys = call_from-append (call_after c x.act) xs ys

call_from-more : (c : Option Call) (es : List Entry) → AllByRecursion IsMore es → call_from c es ≡ c
call_from-more c [] h = refl
call_from-more c (e ∷ es) h = ap (λ (a : Act). call_from (call_after c a) es) h.0 ∙ call_from-more c es h.1

call_from-steps : (o : Option Call) (c : Call) (xs : List Entry) (e : Entry) → AreSteps c go.Begin (xs ++ e ∷ []) → call_from o (xs ++ e ∷ []) ≡ Some c
call_from-steps o c [] e h = ap (call_after o) h.0
call_from-steps o c (x ∷ xs) e h = ap (λ (a : Act). call_from (call_after o a) (xs ++ e ∷ [])) h.0 ∙ call_from-more (Some c) (xs ++ e ∷ []) h.1

-- ---- the last entry of a legal history fits its step

last-fits : (p : Providers) (w : World) (past es : List Entry) (e : Entry) → LegalFrom p w past (es ++ e ∷ []) → Fits (step_at p (after_from p w past es) (past ++ es) e) e
last-fits p w past [] e l = subst (λ z. Fits (step_at p w z e) e) (sym (append-nil past)) l.0
last-fits p w past (x ∷ es) e l =
    subst (λ z. Fits (step_at p (after_from p (left_by w (step_at p w past x)) (past ++ x ∷ []) es) z e) e) (append_assoc past (x ∷ []) es)
    (last-fits p (left_by w (step_at p w past x)) (past ++ x ∷ []) es e l.1)

-- the outcome is that of a step of the call, after some entries
pub record IsStepOf (p : Providers) (c : Call) (o : Outcome) : Type 0 where
  pub past : List Entry
  pub so_far : Go
  pub made : Step
  pub is : step p (after p past) c so_far ≡ Some made
  pub outcome : o ≡ made.outcome

step-of : (p : Providers) (past : List Entry) (c : Call) (u : Option Going) (e : Entry) → ((g : Going) → u ≡ Some g → g.call ≡ c) → Fits (option_and_then (step_going p (after p past)) u) e → IsStepOf p c e.outcome
step-of p past c None e same f = absurd f
step-of p past c (Some g) e same f = by (step p (after p past) g.call g.so_far) refl f
  where
    by : (o : Option Step) → step p (after p past) g.call g.so_far ≡ o → Fits o e → IsStepOf p c e.outcome
    by None i f = absurd f
    by (Some s) i f = record {
      past = past;
      so_far = g.so_far;
      made = s;
      is = subst (λ (x : Call). step p (after p past) x g.so_far ≡ Some s) (same g refl) i;
      outcome = f.0;
    }

same-call : (a b : Call) → Some a ≡ Some b → b ≡ a
same-call a b e = cc

pub answered-step : (v : View) (c : Call) (v' : View) (r : Reply) → Legal v'.setting.providers v'.seen → own v'.seen v'.number ≡ v'.mine → Answered v c go.Begin v' r → IsStepOf v'.setting.providers c (Done r)
answered-step v c v' r legal mine a =
    let p : Providers = v'.setting.providers in
    let e : Entry = a.last in
    let w : ℕ = e.worker in
    let all : own (a.before ++ e ∷ []) v'.number ≡ v.mine ++ (a.parts ++ e ∷ []) = ap (λ h. own h v'.number) (sym a.ends) ∙ (mine ∙ a.mine) in
    let number : w ≡ v'.number = eqb-true w v'.number (last-own v'.number (a.before ++ e ∷ []) (v.mine ++ a.parts) e (all ∙ sym (append_assoc v.mine a.parts (e ∷ [])))) in
    let before : own a.before w ++ e ∷ [] ≡ v.mine ++ (a.parts ++ e ∷ []) = sym (own-more a.before e w true (eq-eqb w w refl)) ∙ (ap (own (a.before ++ e ∷ [])) number ∙ all) in
    let begun : call_after (call_from None (own a.before w)) e.act ≡ Some c =
    sym (call_from-append None (own a.before w) (e ∷ [])) ∙ (ap (call_from None) before ∙ (call_from-append None v.mine (a.parts ++ e ∷ []) ∙ call_from-steps (call_from None v.mine) c a.parts e a.steps)) in
    let fits : Fits (step_at p (after p a.before) a.before e) e = last-fits p (opening p) [] a.before e (subst (Legal p) a.ends legal) in
    let same : (g : Going) → doing a.before e ≡ Some g → g.call ≡ c =
    λ g d. same-call c g.call (sym begun ∙ made-call (unfinished a.before w) (call_from None (own a.before w)) e.act g (call_of-from None None (own a.before w) tt) d) in
    subst (IsStepOf p c) a.outcome (step-of p a.before c (doing a.before e) e same fits)
