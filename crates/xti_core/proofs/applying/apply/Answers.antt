use Rattle.std.proofs.Common.{◌≡◌, false, rules, subst, sym}
use Rattle.xti_model.specs.declared.call.Call.{Call}
use Rattle.xti_model.specs.Memory.{may_run_out}
use Rattle.xti_lent.specs.Lending.{cells}
use Rattle.xti_core.proofs.AllLent.{own-lent}
use Rattle.xti_core.proofs.Families.{at-own, TouchesOwn}
use Rattle.xti_core.proofs.applying.apply.Goals as goal

pub local-requires-clause-lent : goal.local-requires-clause-lent
local-requires-clause-lent c = own-lent c.args.lent.now c.args.call.now c.in-Some.fd.0 (sym c.in-Some.ensures) c.requires.lent

pub local-requires-in_default-call : goal.local-requires-in_default-call
local-requires-in_default-call c =
    let t : TouchesOwn c.args.call.now = search rules in
    record {
      at = at-own c.args.lent.now.providers c.args.call.now c.args.go c.in-Some.fd.0 c.in-Some.ensures t;
      places = c.requires.fit.places;
      lent = own-lent c.args.lent.now c.args.call.now c.in-Some.fd.0 (sym c.in-Some.ensures) c.requires.lent;
    }

pub returns-in-TLookAt-clause-still : goal.returns-in-TLookAt-clause-still
returns-in-TLookAt-clause-still c = (c.seen.ensures.step c.args.go).still

pub returns-in-TLookAt-clause-sure : goal.returns-in-TLookAt-clause-sure
returns-in-TLookAt-clause-sure c =
    let l = c.args.lent.now in
    λ h. (c.seen.ensures.step c.args.go).sure (subst (λ (x : Call). may_run_out l.providers (cells l) x c.args.go ≡ false) c.in-TLookAt.is h)
