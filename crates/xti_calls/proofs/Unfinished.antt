-- A send that is unfinished after a legal history has bytes left.
use Rattle.std.proofs.Common.{◌≡◌, ℕ, Bool, true, false, List, [], ◌∷◌, ◌++◌, Option, Some, None, refl, sym, ap, ◌∙◌, subst, arith, append_assoc}
use Rattle.std.specs.Prelude.{option_map, option_and_then}
use Rattle.std.proofs.lemmas.Bool.{eq-eqb, eqb-true}
use Rattle.std.proofs.lemmas.List.{append-nil}
use Rattle.std.proofs.lemmas.Option.{none-some}
use Rattle.xti_model.specs.declared.call.Call.{Call}
use Rattle.xti_model.specs.declared.call.Call.TheVariants as call
use Rattle.xti_model.specs.declared.entry.Act.{Act}
use Rattle.xti_model.specs.declared.entry.Act.TheVariants as act
use Rattle.xti_model.specs.declared.entry.Go.{Go}
use Rattle.xti_model.specs.declared.entry.Go.TheVariants as go
use Rattle.xti_model.specs.declared.entry.Outcome.{Outcome}
use Rattle.xti_model.specs.declared.entry.Outcome.TheVariants.{Done, Part}
use Rattle.xti_model.specs.declared.entry.Entry.{Entry}
use Rattle.xti_model.specs.declared.profile.Providers.{Providers}
use Rattle.xti_model.specs.World.{World, opening}
use Rattle.xti_model.specs.Step.{Step, step}
use Rattle.xti_model.specs.Wants.{HasLeft}
use Rattle.xti_model.specs.History.{Going, is_own, own, call_after, going_after, unfinished, unfinished_from, made_by, doing, step_going, step_at, left_by, Fits, LegalFrom, Legal}
use Rattle.xti_model.proofs.Working.{call_from, unfinished_from-snoc, IsCallOf, call_of-from, own-more}
use Rattle.xti_laws.specs.Progress.{Progress}
use Rattle.xti_laws.proofs.ProgressOfSteps.{progress}

pub begin-left : (c : Call) → HasLeft c go.Begin
begin-left (call.TSnd fd bytes flags) = tt
begin-left (call.TSndV fd parts flags) = tt
begin-left other = tt

-- a part of a send leaves bytes
pub part-left : (c : Call) (g : Go) (n : ℕ) → HasLeft c g → Progress c g (Part n) → HasLeft c (go.More n)
part-left (call.TSnd fd bytes flags) go.Begin n h k = (k (omega arith)).1
part-left (call.TSnd fd bytes flags) (go.More m) n h k = (k (omega (arith, h))).1
part-left (call.TSndV fd parts flags) go.Begin n h k = (k (omega arith)).1
part-left (call.TSndV fd parts flags) (go.More m) n h k = (k (omega (arith, h))).1
part-left other g n h k = tt

-- the same of the call that an entry leaves unfinished
abbrev pub GoingHasLeft : Option Going → Type 0
GoingHasLeft None = Unit {0}
GoingHasLeft (Some g) = HasLeft g.call g.so_far

-- the call that an entry makes is the last begun one after it
pub made-call : (u : Option Going) (c : Option Call) (a : Act) (g : Going) → IsCallOf c u → made_by u a ≡ Some g → call_after c a ≡ Some g.call
made-call None c (act.Begin x) g h e = ap (option_map (λ (y : Going). y.call)) e
made-call (Some u) c (act.Begin x) g h e = absurd (none-some g e)
made-call u c act.More g h e = subst (IsCallOf c) e h

made-left : (u : Option Going) (a : Act) (g : Going) → GoingHasLeft u → made_by u a ≡ Some g → HasLeft g.call g.so_far
made-left None (act.Begin x) g k e = subst GoingHasLeft e (begin-left x)
made-left (Some u) (act.Begin x) g k e = absurd (none-some g e)
made-left u act.More g k e = subst GoingHasLeft e k

-- the step that an entry fits tells how far its call has come
pub entry-left : (p : Providers) (w : World) (c : Call) (g : Go) (e : Entry) → Fits (step p w c g) e → HasLeft c g → GoingHasLeft (going_after (Some c) e.outcome)
entry-left p w c g e f h = go (step p w c g) refl f
  where
    tells : (o : Outcome) → Progress c g o → GoingHasLeft (going_after (Some c) o)
    tells (Done reply) k = tt
    tells (Part n) k = part-left c g n h k

    go : (o : Option Step) → step p w c g ≡ o → Fits o e → GoingHasLeft (going_after (Some c) e.outcome)
    go None i f = absurd f
    go (Some s) i f = subst (λ z. GoingHasLeft (going_after (Some c) z)) (sym f.0) (tells s.outcome (progress p w c g s i))

left-one : (p : Providers) (w : World) (past : List Entry) (e : Entry) → Fits (step_at p w past e) e → ((n : ℕ) → GoingHasLeft (unfinished past n)) → (n : ℕ) → GoingHasLeft (unfinished (past ++ e ∷ []) n)
left-one p w past e f k n = by (is_own n e) refl
  where
    made : (o : Option Going) → doing past e ≡ o → Fits (option_and_then (step_going p w) o) e → GoingHasLeft (going_after (call_after (call_from None (own past e.worker)) e.act) e.outcome)
    made None d f = absurd f
    made (Some g) d f =
        let c = made-call (unfinished past e.worker) (call_from None (own past e.worker)) e.act g (call_of-from None None (own past e.worker) tt) d in
        rw c (entry-left p w g.call g.so_far e f (made-left (unfinished past e.worker) e.act g (k e.worker) d))

    by : (b : Bool) → is_own n e ≡ b → GoingHasLeft (unfinished (past ++ e ∷ []) n)
    by true h =
        subst (λ m. GoingHasLeft (unfinished (past ++ e ∷ []) m)) (eqb-true e.worker n h)
        (subst GoingHasLeft (sym (ap (unfinished_from None None) (own-more past e e.worker true (eq-eqb e.worker e.worker refl)) ∙ unfinished_from-snoc None None (own past e.worker) e)) (made (doing past e) refl f))
    by false h = subst (λ es. GoingHasLeft (unfinished_from None None es)) (sym (own-more past e n false h)) (k n)

left-from : (p : Providers) (w : World) (past es : List Entry) → LegalFrom p w past es → ((n : ℕ) → GoingHasLeft (unfinished past n)) → (n : ℕ) → GoingHasLeft (unfinished (past ++ es) n)
left-from p w past [] l k n = subst (λ es. GoingHasLeft (unfinished es n)) (sym (append-nil past)) (k n)
left-from p w past (e ∷ es) l k n =
    subst (λ es. GoingHasLeft (unfinished es n)) (append_assoc past (e ∷ []) es)
    (left-from p (left_by w (step_at p w past e)) (past ++ e ∷ []) es l.1 (left-one p w past e l.0 k) n)

-- the unfinished call of each worker has bytes left, if it is a send
pub left-of_legal : (p : Providers) (past : List Entry) → Legal p past → (n : ℕ) → GoingHasLeft (unfinished past n)
left-of_legal p past l = left-from p (opening p) [] past l (λ n. tt)
