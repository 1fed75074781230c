use Rattle.std.proofs.Common.{◌≡◌, ℕ, Bool, true, false, ◌&&◌, eqb, cond, List, [], ◌∷◌, Option, Some, None, ◌∙◌, refl, sym, ap}
use Rattle.std.specs.List.{list_any}
use Rattle.std.specs.Prelude.{is_some}
use Rattle.xti_base.specs.Options.{options_bytes}
use Rattle.xti_base.specs.declared.errno.Errno.TheVariants.{TBADF}
use Rattle.xti_model.specs.declared.entry.Outcome.TheVariants.{Done}
use Rattle.xti_model.specs.declared.entry.Reply.TheVariants.{Refused}
use Rattle.xti_model.specs.declared.profile.Providers.{Providers}
use Rattle.xti_model.specs.Calls.Show as Show
use Rattle.xti_model.specs.Endpoint.{Endpoint}
use Rattle.xti_model.specs.Plan.{Plan, field, first, has_effect, if_open, is_too_long, loses, on_open}
use Rattle.xti_model.specs.Step.{made, step_by, step_of}
use Rattle.xti_model.specs.World.{World, endpoint, generation_of, place_of}
use Rattle.xti_end.specs.Held.{Held, SameRoom, alone, is_open_as, parts}
use Rattle.xti_end.specs.Negotiating.{IsNegotiated, option_step}
use Rattle.xti_end.proofs.Rows.{alone-open, has-effect}
use Rattle.xti_end.proofs.endpoint.Endpoint.optmgmt.Goals as goal

-- no endpoint is open with the descriptor in the world of its cell alone
none-open : (o : Option Endpoint) → ((is_some o && true) && true) ≡ false → o ≡ None
none-open None h = refl
none-open (Some e) h = cc

alone-closed : (p : Providers) (fd : ℕ) (h : Held) → is_open_as p fd h ≡ false → endpoint p (alone h) fd ≡ None
alone-closed p fd h c = by (eqb h.place (place_of p fd)) refl (eqb h.generation (generation_of p fd)) refl
  where
    by : (b : Bool) → eqb h.place (place_of p fd) ≡ b → (a : Bool) → eqb h.generation (generation_of p fd) ≡ a → endpoint p (alone h) fd ≡ None
    by false e a f = rw e refl
    by true e false f = rw (e, f) refl
    by true e true f = rw (e, f) (none-open h.body (rw (e, f) at c))

-- then a call is refused
refused-closed : (p : Providers) (fd : ℕ) (h : Held) (plan : Endpoint → Plan) → is_open_as p fd h ≡ false
    → Some (made p fd (Done (Refused TBADF)) (alone h)) ≡ step_of p (alone h) (on_open p (alone h) fd plan)
refused-closed p fd h plan c = ap (λ x. step_of p (alone h) (if_open fd x plan)) (sym (alone-closed p fd h c))

-- what may only lose its answer is not blocked
never-blocked : {x y : Held} (p : Providers) (w : World) (plan : Plan) (b : Bool) → step_by p w plan (cond b (Some loses) None) ≡ None → x ≡ y
never-blocked p w plan true e = cc
never-blocked p w plan false e = cc

same-room : (h : Held) → SameRoom h h
same-room h = record { place = refl; generation = refl; pending = refl; outstanding = refl; disconnects = refl; normal = refl; expedited = refl; datagrams = refl; datagram_errors = refl }

-- the plan of the endpoint that is open
negotiation : Providers → ℕ → ℕ → List ℕ → ℕ → Endpoint → Plan
negotiation p fd action options omax e = Show.option_plan_of fd (Show.negotiated p action options e) action options omax e

module _ (p : Providers) (fd action : ℕ) (options : List ℕ) (omax : ℕ) (h : Held) (opened : is_open_as p fd h ≡ true) (fits : IsNegotiated action options) where
  option-told : option_step p (alone h) fd (Show.negotiated p action options (parts h)) action options omax (parts h)
      ≡ step_of p (alone h) (Show.option_plan p (alone h) fd action options omax)
  unfolding negotiation
  option-told =
      let plan = negotiation p fd action options omax in
      ap (step_by p (alone h) (plan (parts h))) (sym (fits (Show.negotiated p action options (parts h)) omax))
      ∙ ap (λ x. step_of p (alone h) (if_open fd x plan)) (sym (alone-open p fd h opened))

  option-effect : has_effect (first (Show.option_plan p (alone h) fd action options omax).rows) ≡ true
  unfolding negotiation
  option-effect =
      let n = Show.negotiated p action options (parts h) in
      ap (λ x. has_effect (first (if_open fd x (negotiation p fd action options omax)).rows)) (alone-open p fd h opened)
      ∙ (ap has_effect (fits n omax) ∙ has-effect (list_any is_too_long (field (options_bytes n.options) omax ∷ [])))

pub returns-then-not-is-clause-step : goal.returns-then-not-is-clause-step
unfolding negotiation
returns-then-not-is-clause-step c =
    c.refused.ensures ∙ refused-closed c.args.p.now c.args.fd.0 c.args.self.now
    (negotiation c.args.p.now c.args.fd.0 c.args.asked.action c.args.asked.options.now c.args.omax) (sym c.is.ensures ∙ c.if-not-is.true)

pub returns-then-not-is-clause-still : goal.returns-then-not-is-clause-still
returns-then-not-is-clause-still c = λ _. refl

pub returns-then-not-is-clause-room : goal.returns-then-not-is-clause-room
returns-then-not-is-clause-room c = same-room c.args.self.now

pub returns-then-not-is-clause-sure : goal.returns-then-not-is-clause-sure
returns-then-not-is-clause-sure c = λ _. refl

pub returns-in_err-room-in-Ok-clause-room : goal.returns-in_err-room-in-Ok-clause-room
returns-in_err-room-in-Ok-clause-room c = same-room c.args.self.now

pub returns-in_err-room-in-Ok-clause-sure : goal.returns-in_err-room-in-Ok-clause-sure
returns-in_err-room-in-Ok-clause-sure c =
    λ none.
    let no : true ≡ false = sym (option-effect c.args.p.now c.args.fd.0 c.args.asked.action c.args.asked.options.now c.args.omax c.args.self.now
    (sym c.is.ensures ∙ c.if-not-is.false) c.in-Ok.ensures.negotiated) ∙ none in
    cc no

pub negotiate-requires-clause-place : goal.negotiate-requires-clause-place
negotiate-requires-clause-place c = c.requires

pub negotiate-requires-clause-open : goal.negotiate-requires-clause-open
negotiate-requires-clause-open c = sym c.is.ensures ∙ c.if-not-is.false

pub negotiate-requires-clause-request : goal.negotiate-requires-clause-request
negotiate-requires-clause-request c = c.in-Ok.ensures.request

pub negotiate-requires-clause-empty : goal.negotiate-requires-clause-empty
negotiate-requires-clause-empty c = c.in_ok-room-in-Ok.ensures.bytes

pub negotiate-requires-clause-room : goal.negotiate-requires-clause-room
negotiate-requires-clause-room c = λ s. c.in_ok-room-in-Ok.ensures.spare ∙ c.in-Ok.ensures.size s

pub returns-in_ok-room-in-Ok-clause-step : goal.returns-in_ok-room-in-Ok-clause-step
returns-in_ok-room-in-Ok-clause-step c =
    c.negotiate.ensures.step ∙ option-told c.args.p.now c.args.fd.0 c.args.asked.action c.args.asked.options.now c.args.omax c.args.self.now
    (sym c.is.ensures ∙ c.if-not-is.false) c.in-Ok.ensures.negotiated

pub returns-in_ok-room-in-Ok-clause-still : goal.returns-in_ok-room-in-Ok-clause-still
returns-in_ok-room-in-Ok-clause-still c =
    let n = Show.negotiated c.args.p.now c.args.asked.action c.args.asked.options.now (parts c.args.self.now) in
    let plan = Show.option_plan_of c.args.fd.0 n c.args.asked.action c.args.asked.options.now c.args.omax (parts c.args.self.now) in
    λ none. never-blocked c.args.p.now (alone c.args.self.now) plan (list_any is_too_long (field (options_bytes n.options) c.args.omax ∷ [])) (sym c.negotiate.ensures.step ∙ none)

pub returns-in_ok-room-in-Ok-clause-room : goal.returns-in_ok-room-in-Ok-clause-room
returns-in_ok-room-in-Ok-clause-room c = c.negotiate.ensures.room

pub returns-in_ok-room-in-Ok-clause-sure : goal.returns-in_ok-room-in-Ok-clause-sure
returns-in_ok-room-in-Ok-clause-sure c = λ _. refl

pub returns-in-Err-clause-step : goal.returns-in-Err-clause-step
returns-in-Err-clause-step c =
    let opened = alone-open c.args.p.now c.args.fd.0 c.args.self.now (sym c.is.ensures ∙ c.if-not-is.false) in
    let n = Show.negotiated c.args.p.now c.args.asked.action c.args.asked.options.now (parts c.args.self.now) in
    c.refused-in-Err.ensures ∙ rw (opened, c.in-Err.ensures.refused n c.args.omax, opened) refl

pub returns-in-Err-clause-still : goal.returns-in-Err-clause-still
returns-in-Err-clause-still c = λ _. refl

pub returns-in-Err-clause-room : goal.returns-in-Err-clause-room
returns-in-Err-clause-room c = same-room c.args.self.now

pub returns-in-Err-clause-sure : goal.returns-in-Err-clause-sure
returns-in-Err-clause-sure c = λ _. refl
