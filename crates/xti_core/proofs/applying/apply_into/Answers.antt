use Rattle.std.proofs.Common.{◌≡◌, true, refl, rules, subst, sym, inl, inr}
use Rattle.xti_model.specs.declared.call.Call.{Call}
use Rattle.xti_model.specs.declared.entry.Go.{Go}
use Rattle.xti_switch.specs.Calls.{goes_through_switch}
use Rattle.xti_core.specs.Written.{told, Steps}
use Rattle.xti_core.proofs.AllLent.{own-lent}
use Rattle.xti_core.proofs.Families.{at-own, opens-by-switch, TouchesOwn}
use Rattle.xti_core.proofs.applying.apply_into.Goals as goal

pub returns-in_default-clause-step : goal.returns-in_default-clause-step
returns-in_default-clause-step c = c.switch_into.ensures.step c.args.go (opens-by-switch c.args.call.now c.args.go c.in_default.ensures)

pub local_into-requires-clause-lent : goal.local_into-requires-clause-lent
local_into-requires-clause-lent c = own-lent c.args.lent.now c.args.call.now c.in-Some.fd.0 (sym c.in-Some.ensures) c.requires.lent

pub local_into-requires-in_default-call : goal.local_into-requires-in_default-call
local_into-requires-in_default-call c =
    let t : TouchesOwn c.args.call.now = search rules in
    record {
      at = at-own c.args.lent.now.providers c.args.call.now c.args.go c.in-Some.fd.0 c.in-Some.ensures t;
      places = c.requires.fit.places;
      lent = own-lent c.args.lent.now c.args.call.now c.in-Some.fd.0 (sym c.in-Some.ensures) c.requires.lent;
    }

pub returns-in-Begin-clause-step : goal.returns-in-Begin-clause-step
returns-in-Begin-clause-step c =
    c.switch_into-in-Begin.ensures.step c.args.go (subst (λ (x : Call). goes_through_switch x c.args.go ≡ true) (sym c.in-TConnect.is) (subst (λ (g : Go). goes_through_switch (Call.TConnect c.in-TConnect.fd c.in-TConnect.addr c.in-TConnect.opt c.in-TConnect.udata c.in-TConnect.amax c.in-TConnect.omax c.in-TConnect.umax) g ≡ true) (sym c.in-Begin.is) refl))

pub returns-in-TLookAt-clause-step : goal.returns-in-TLookAt-clause-step
returns-in-TLookAt-clause-step c =
    subst (λ (x : Call). Steps x c.args.go c.args.lent.now c.seen_into.new.lent (told c.seen_into.result c.seen_into.new.outcome c.seen_into.new.after)) (sym c.in-TLookAt.is) (c.seen_into.ensures.step c.args.go)

pub returns-in-TSndUData-clause-step : goal.returns-in-TSndUData-clause-step
returns-in-TSndUData-clause-step c = c.dgram_into.ensures.step c.args.go

pub returns-in-TClose-clause-step : goal.returns-in-TClose-clause-step
returns-in-TClose-clause-step c =
    let is : (x : Call) → c.args.call.now ≡ x → goes_through_switch x c.args.go ≡ true → goes_through_switch c.args.call.now c.args.go ≡ true = λ x e h. subst (λ (y : Call). goes_through_switch y c.args.go ≡ true) (sym e) h in
    c.switch_into-in-TClose.ensures.step c.args.go (elim c.in-TClose.is [
      | inl h ↦ is _ h.1 refl
      | inr r ↦ elim r [
        | inl h ↦ is _ h.4 refl
        | inr r ↦ elim r [
          | inl h ↦ is _ h.1 refl
          | inr r ↦ elim r [
            | inl h ↦ is _ h.5 refl
            | inr h ↦ is _ h.3 refl
          ]
        ]
      ]
    ])
