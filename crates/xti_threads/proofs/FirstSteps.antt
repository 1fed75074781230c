-- The first step of a call tells what its name stands for; where the call goes on, it defines none.
use Rattle.std.proofs.Common.{◌≡◌, ℕ, Bool, true, false, List, [], ◌∷◌, ◌++◌, Option, Some, None, refl, sym, ap, ◌∙◌, subst, arith, append_assoc}
use Rattle.std.specs.Prelude.{option_and_then, IfSome, if◌then◌else◌}
use Rattle.std.specs.List.{AllByRecursion}
use Rattle.std.proofs.lemmas.Bool.{eqb-true}
use Rattle.std.proofs.lemmas.List.{append-nil}
use Rattle.xti_model.specs.declared.call.Call.{Call}
use Rattle.xti_model.specs.declared.entry.Act.{Act}
use Rattle.xti_model.specs.declared.entry.Act.TheVariants as act
use Rattle.xti_model.specs.declared.entry.Go.TheVariants as go
use Rattle.xti_model.specs.declared.entry.Entry.{Entry}
use Rattle.xti_model.specs.declared.entry.Outcome.{Outcome}
use Rattle.xti_model.specs.declared.entry.Outcome.TheVariants.{Done, Part}
use Rattle.xti_model.specs.declared.entry.Reply.{Reply}
use Rattle.xti_model.specs.declared.script.NamedCall.{NamedCall}
use Rattle.xti_model.specs.declared.script.NamedCall.TheVariants as named
use Rattle.xti_model.specs.declared.profile.Providers.{Providers}
use Rattle.xti_model.specs.World.{World, opening}
use Rattle.xti_model.specs.Step.{Step, step}
use Rattle.xti_model.specs.History.{Going, is_own, own, call_after, going_after, unfinished_from, made_by, step_going, step_at, left_by, Fits, LegalFrom, Legal}
use Rattle.xti_model.specs.Resolve.{Meanings, with_numbers}
use Rattle.xti_model.proofs.Outcomes.{Falls, step-falls}
use Rattle.xti_model.proofs.Working.{call_from, unfinished_from-snoc, own-more, possible-begin}
use Rattle.xti_calls.specs.Calling.{IsMore, AreSteps}
use Rattle.xti_replay.specs.declared.names.Names.{Names}
use Rattle.xti_replay.specs.Known.{HasLearnt}

-- the entry is a step of what its worker's entries before it leave unfinished, or of the call that it begins
abbrev pub IsOwnStep : Providers → List Entry → Entry → Type 0
IsOwnStep p mine e = (v : World) × Fits (option_and_then (step_going p v) (made_by (unfinished_from None None mine) e.act)) e

-- wherever it stands among the worker's entries that come next
abbrev pub OwnSteps : Providers → List Entry → List Entry → ℕ → Entry → List Entry → Type 0
OwnSteps p past h k e back = (front : List Entry) → own h k ≡ front ++ e ∷ back → IsOwnStep p (own past k ++ front) e

not-empty : (front : List Entry) (e : Entry) (back : List Entry) → [] ≡ front ++ e ∷ back → ⊥
not-empty [] e back g = cc
not-empty (x ∷ front) e back g = cc

own-step : (p : Providers) (w : World) (past h front : List Entry) (e : Entry) (back : List Entry) (k : ℕ) → LegalFrom p w past h → own h k ≡ front ++ e ∷ back → IsOwnStep p (own past k ++ front) e
own-step p w past [] front e back k l g = absurd (not-empty front e back g)
own-step p w past (x ∷ h) front e back k l g = by (is_own k x) refl g (λ rest r. own-step p (left_by w (step_at p w past x)) (past ++ x ∷ []) h rest e back k l.1 r)
  where
    here : is_own k x ≡ true → x ≡ e → IsOwnStep p (own past k ++ []) e
    here i s =
        subst (λ (mine : List Entry). IsOwnStep p mine e) (sym (append-nil (own past k)))
        (subst (λ (y : Entry). IsOwnStep p (own past k) y) s
        (w, subst (λ (m : ℕ). Fits (option_and_then (step_going p w) (made_by (unfinished_from None None (own past m)) x.act)) x) (eqb-true x.worker k i) l.0))

    mine : is_own k x ≡ true → (front : List Entry) → x ∷ own h k ≡ front ++ e ∷ back → OwnSteps p (past ++ x ∷ []) h k e back → IsOwnStep p (own past k ++ front) e
    mine i [] g later = here i (let s : x ≡ e = cc in s)
    mine i (y ∷ rest) g later =
        let s : x ≡ y = cc in
        let r : own h k ≡ rest ++ e ∷ back = cc in
        subst (λ (es : List Entry). IsOwnStep p es e)
        (ap (λ (es : List Entry). es ++ rest) (own-more past x k true i) ∙ (append_assoc (own past k) (x ∷ []) rest ∙ ap (λ (z : Entry). own past k ++ z ∷ rest) s))
        (later rest r)

    by : (b : Bool) → is_own k x ≡ b → (if b then x ∷ own h k else own h k) ≡ front ++ e ∷ back → OwnSteps p (past ++ x ∷ []) h k e back → IsOwnStep p (own past k ++ front) e
    by true i g later = mine i front g later
    by false i g later = subst (λ (es : List Entry). IsOwnStep p (es ++ front) e) (own-more past x k false i) (later front g)

-- the first step of a call that goes on was a part
pub record IsFirstPart (c : Call) (o : Outcome) : Type 0 where
  pub taken : ℕ
  pub is : o ≡ Part taken
  pub falls : Falls c go.Begin (Part taken)

part-falls : (p : Providers) (v : World) (c : Call) (x : Entry) (n : ℕ) → Fits (step p v c go.Begin) x → x.outcome ≡ Part n → Falls c go.Begin (Part n)
part-falls p v c x n f e = by (step p v c go.Begin) f (step-falls p v c go.Begin (possible-begin c))
  where
    by : (o : Option Step) → Fits o x → IfSome o (λ s. Falls c go.Begin s.outcome) → Falls c go.Begin (Part n)
    by None f k = absurd f
    by (Some s) f k = subst (Falls c go.Begin) (sym f.0 ∙ e) k

first-part : (p : Providers) (h mine : List Entry) (k : ℕ) (c : Call) (x y : Entry) (rest : List Entry) → Legal p h → own h k ≡ mine ++ x ∷ y ∷ rest → unfinished_from None None mine ≡ None
    → x.act ≡ act.Begin c → y.act ≡ act.More → IsFirstPart c x.outcome
first-part p h mine k c x y rest legal g idle begins goes = by x.outcome refl second.1
  where
    first : IsOwnStep p mine x
    first = own-step p (opening p) [] h mine x (y ∷ rest) k legal g

    begun : Fits (step p first.0 c go.Begin) x
    begun =
        subst (λ (a : Act). Fits (option_and_then (step_going p first.0) (made_by None a)) x) begins
        (subst (λ (u : Option Going). Fits (option_and_then (step_going p first.0) (made_by u x.act)) x) idle first.1)

    left : unfinished_from None None (mine ++ x ∷ []) ≡ going_after (Some c) x.outcome
    left = unfinished_from-snoc None None mine x ∙ ap (λ (a : Act). going_after (call_after (call_from None mine) a) x.outcome) begins

    given : IsOwnStep p (mine ++ x ∷ []) y
    given = own-step p (opening p) [] h (mine ++ x ∷ []) y rest k legal (g ∙ sym (append_assoc mine (x ∷ []) (y ∷ rest)))

    second : (v : World) × Fits (option_and_then (step_going p v) (going_after (Some c) x.outcome)) y
    second = (
      given.0,
      subst (λ (u : Option Going). Fits (option_and_then (step_going p given.0) u) y) left
          (subst (λ (a : Act). Fits (option_and_then (step_going p given.0) (made_by (unfinished_from None None (mine ++ x ∷ [])) a)) y) goes given.1),
    )

    by : (o : Outcome) → x.outcome ≡ o → Fits (option_and_then (step_going p second.0) (going_after (Some c) o)) y → IsFirstPart c x.outcome
    by (Done reply) e f = absurd f
    by (Part n) e f = record { taken = n; is = e; falls = part-falls p first.0 c x n begun e }

-- a call of one step alone defines a name
learnt-part : (m : Meanings) (nc : NamedCall) (place n : ℕ) (o : Outcome) (old new : Names) → Falls (with_numbers m nc) go.Begin (Part n) → HasLearnt place nc o old new → HasLearnt place nc (Part n) old new
learnt-part m (named.TOpen name prov nonblock) place n o old new f h = absurd (omega (arith, f.1))
learnt-part m (named.TListen fd name amax omax umax) place n o old new f h = absurd (omega (arith, f.1))
learnt-part m other place n o old new f h = record { endpoints = h.endpoints; sequences = h.sequences }

-- the steps of a call, of which the first tells what the reply tells
pub record Begins (es : List Entry) (place : ℕ) (nc : NamedCall) (old new : Names) : Type 0 where
  pub first : Entry
  pub mores : List Entry
  pub are : es ≡ first ∷ mores
  pub learnt : HasLearnt place nc first.outcome old new

pub first-tells : (p : Providers) (h mine : List Entry) (k : ℕ) (c : Call) (parts : List Entry) (last : Entry) (reply : Reply) (m : Meanings) (nc : NamedCall) (place : ℕ) (old new : Names)
    → Legal p h → own h k ≡ mine ++ (parts ++ last ∷ []) → unfinished_from None None mine ≡ None → AreSteps c go.Begin (parts ++ last ∷ []) → last.outcome ≡ Done reply
    → c ≡ with_numbers m nc → HasLearnt place nc (Done reply) old new → Begins (parts ++ last ∷ []) place nc old new
first-tells p h mine k c [] last reply m nc place old new legal g idle steps outcome is learnt = record {
  first = last;
  mores = [];
  are = refl;
  learnt = subst (λ (o : Outcome). HasLearnt place nc o old new) (sym outcome) learnt;
}
first-tells p h mine k c (x ∷ parts) last reply m nc place old new legal g idle steps outcome is learnt = by parts g steps.1
  where
    begun : (y : Entry) (rest : List Entry) → own h k ≡ mine ++ x ∷ y ∷ rest → y.act ≡ act.More → HasLearnt place nc x.outcome old new
    begun y rest g goes =
        let f = first-part p h mine k c x y rest legal g idle steps.0 goes in
        subst (λ (o : Outcome). HasLearnt place nc o old new) (sym f.is)
        (learnt-part m nc place f.taken (Done reply) old new (subst (λ (d : Call). Falls d go.Begin (Part f.taken)) is f.falls) learnt)

    by : (parts : List Entry) → own h k ≡ mine ++ (x ∷ parts ++ last ∷ []) → AllByRecursion IsMore (parts ++ last ∷ []) → Begins (x ∷ parts ++ last ∷ []) place nc old new
    by [] g more = record { first = x; mores = last ∷ []; are = refl; learnt = begun last [] g more.0 }
    by (y ∷ rest) g more = record { first = x; mores = y ∷ rest ++ last ∷ []; are = refl; learnt = begun y (rest ++ last ∷ []) g more.0 }
