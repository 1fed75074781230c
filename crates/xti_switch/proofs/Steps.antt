-- What the steps of calls answer, by their plans.
use Rattle.std.proofs.Common.{◌≡◌, ℕ, Bool, true, false, ◌&&◌, List, [], Option, Some, None, Result, Ok, Err, IfOk, IsOk, refl, sym, ap, ◌∙◌, subst}
use Rattle.std.specs.Result.{OnErr}
use Rattle.xti_base.specs.declared.kinds.Fd.{Fd}
use Rattle.xti_base.specs.declared.kinds.Prov.{Prov}
use Rattle.xti_base.specs.declared.kinds.Seq.{Seq}
use Rattle.xti_model.specs.declared.call.Call.{Call}
use Rattle.xti_model.specs.declared.call.Call.TheVariants as call
use Rattle.xti_model.specs.declared.entry.Applied.{Applied}
use Rattle.xti_model.specs.declared.entry.Go.{Go}
use Rattle.xti_model.specs.declared.entry.Go.TheVariants as go
use Rattle.xti_model.specs.declared.entry.Outcome.TheVariants.{Done}
use Rattle.xti_model.specs.declared.entry.Reply.TheVariants.{Plain}
use Rattle.xti_model.specs.declared.profile.Providers.{Providers}
use Rattle.xti_model.specs.Calls.Bind as Bind
use Rattle.xti_model.specs.Calls.Close as Close
use Rattle.xti_model.specs.Calls.Connect as Connect
use Rattle.xti_model.specs.Calls.Disconnect as Disconnect
use Rattle.xti_model.specs.Calls.Listen as Listen
use Rattle.xti_model.specs.Calls.Open as Open
use Rattle.xti_model.specs.Endpoint.{Endpoint}
use Rattle.xti_model.specs.Memory.{has_others, takes_memory}
use Rattle.xti_model.specs.Plan.{Plan, first, has_effect, if_open, plan_of}
use Rattle.xti_model.specs.Step.{plan, step, step_of}
use Rattle.xti_model.specs.World.{World, endpoint}
use Rattle.xti_lent.specs.Answers.{AnswersBy, IsSureBy, IsUnchanged, MakesBy}
use Rattle.xti_lent.specs.Lending.{Lending, cells}
use Rattle.xti_switch.specs.Calls.{goes_through_switch, AnswersThroughSwitch, IsSureThroughSwitch}

-- such a step of a call has this plan
abbrev pub HasPlan : Providers → World → Call → Plan → Type 0
HasPlan p w c known = (g : Go) → goes_through_switch c g ≡ true → plan p w c g ≡ known

pub plan-open : (p : Providers) (w : World) (prov : Prov) (nonblock : Bool) → HasPlan p w (call.TOpen prov nonblock) (Open.plan p w prov nonblock)
unfolding plan
plan-open p w prov nonblock g t = refl

pub plan-close : (p : Providers) (w : World) (fd : Fd) → HasPlan p w (call.TClose fd) (Close.plan p w fd.0)
unfolding plan
plan-close p w fd g t = refl

pub plan-bind : (p : Providers) (w : World) (fd : Fd) (addr read : List ℕ) (qlen amax : ℕ) → read ≡ addr → HasPlan p w (call.TBind fd addr qlen amax) (Bind.plan p w fd.0 read qlen amax)
unfolding plan
plan-bind p w fd addr read qlen amax e g t = ap (λ (a : List ℕ). Bind.plan p w fd.0 a qlen amax) (sym e)

pub plan-unbind : (p : Providers) (w : World) (fd : Fd) → HasPlan p w (call.TUnbind fd) (Bind.unbind_plan p w fd.0)
unfolding plan
plan-unbind p w fd g t = refl

pub plan-connect : (p : Providers) (w : World) (fd : Fd) (addr opt udata a o u : List ℕ) (amax omax umax : ℕ) → a ≡ addr → o ≡ opt → u ≡ udata
    → HasPlan p w (call.TConnect fd addr opt udata amax omax umax) (Connect.plan p w fd.0 a o u)
unfolding plan
plan-connect p w fd addr opt udata a o u amax omax umax e f h go.Begin t =
    sym (ap (λ (x : List ℕ). Connect.plan p w fd.0 x o u) e ∙ ap (λ (x : List ℕ). Connect.plan p w fd.0 addr x u) f ∙ ap (λ (x : List ℕ). Connect.plan p w fd.0 addr opt x) h)
plan-connect p w fd addr opt udata a o u amax omax umax e f h (go.More n) t = cc

pub plan-accept : (p : Providers) (w : World) (fd resfd : Fd) (seq : Seq) (opt udata o u : List ℕ) → o ≡ opt → u ≡ udata
    → HasPlan p w (call.TAccept fd resfd seq opt udata) (Listen.accept_plan p w fd.0 resfd.0 seq.0 o u)
unfolding plan
plan-accept p w fd resfd seq opt udata o u e f g t =
    sym (ap (λ (x : List ℕ). Listen.accept_plan p w fd.0 resfd.0 seq.0 x u) e ∙ ap (λ (x : List ℕ). Listen.accept_plan p w fd.0 resfd.0 seq.0 opt x) f)

pub plan-disconnect : (p : Providers) (w : World) (fd : Fd) (seq : Seq) (udata u : List ℕ) → u ≡ udata → HasPlan p w (call.TSndDis fd seq udata) (Disconnect.send_plan p w fd.0 seq.0 u)
unfolding plan
plan-disconnect p w fd seq udata u e g t = ap (λ (x : List ℕ). Disconnect.send_plan p w fd.0 seq.0 x) (sym e)

-- so it answers by that plan, and memory doesn't run out where the plan has no effect
module _ (l : Lending) (c d : Call) (known : Plan) (e : c ≡ d) (h : HasPlan l.providers (cells l) d known) where
  by-step : (g : Go) → goes_through_switch d g ≡ true → step_of l.providers (cells l) known ≡ step l.providers (cells l) d g
  unfolding step
  by-step g t = ap (step_of l.providers (cells l)) (sym (h g t))

  pub step-through : (k : Lending) (a : Applied) → AnswersBy known l k a → AnswersThroughSwitch c l k a
  step-through k a n = subst (λ (x : Call). AnswersThroughSwitch x l k a) (sym e) (λ g t. n ∙ by-step g t)

  module _ {E : Type 0} (r : Result Applied E) where
    pub answers-through : (k : Lending) → MakesBy known l k r → IfOk r (AnswersThroughSwitch c l k)
    answers-through k m = by r m
      where
        by : (q : Result Applied E) → IfOk q (AnswersBy known l k) → IfOk q (AnswersThroughSwitch c l k)
        by (Ok a) n = step-through k a n
        by (Err x) n = tt

    pub sure-through : takes_memory l.providers (cells l) d ≡ true → IsSureBy known r → IsSureThroughSwitch c l r
    sure-through takes s =
        subst (λ (x : Call). IsSureThroughSwitch x l r) (sym e)
        (λ g t none. s (ap (λ (x : Plan). has_effect (first x.rows)) (sym (h g t)) ∙ (sym (ap (λ (b : Bool). b && has_effect (first (plan l.providers (cells l) d g).rows)) takes) ∙ none)))

-- a close takes memory where others hear of it
alone-or-not : (b : Bool) → (b && true) ≡ false → b ≡ false
alone-or-not true e = e
alone-or-not false e = refl

no-others : (p : Providers) (fd : ℕ) (o : Option Endpoint) → (has_others o && has_effect (first (if_open fd o (λ e. plan_of fd e [] (Close.changes p fd e) (Done Plain))).rows)) ≡ false → has_others o ≡ false
no-others p fd None h = refl
no-others p fd (Some e) h = alone-or-not (has_others (Some e)) h

pub close-sure : (l : Lending) (c : Call) (fd : Fd) {E : Type 0} (r : Result Applied E) → c ≡ call.TClose fd → (has_others (endpoint l.providers (cells l) fd.0) ≡ false → IsOk r) → IsSureThroughSwitch c l r
unfolding plan
close-sure l c fd r e s = subst (λ (x : Call). IsSureThroughSwitch x l r) (sym e) (λ g t none. s (no-others l.providers fd.0 (endpoint l.providers (cells l) fd.0) none))

-- what is as it was is unchanged
pub unchanged-on-err : {T E : Type 0} (l k : Lending) (r : Result T E) → OnErr r (k ≡ l) → OnErr r (IsUnchanged l k)
unchanged-on-err l k (Ok x) e = tt
unchanged-on-err l k (Err x) e = ap cells e
