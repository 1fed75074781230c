use Rattle.std.proofs.Common.{◌∙◌, Option, Some, sym, ap}
use Rattle.xti_base.specs.declared.kinds.Event.{Event}
use Rattle.xti_model.specs.Events.{events, is_pending}
use Rattle.xti_core.specs.Looks.{around_lent}
use Rattle.xti_end.specs.Held.{parts}
use Rattle.xti_core.proofs.Shown.{first_found}
use Rattle.xti_core.proofs.looking.sight_of.Goals as goal

pub returns : goal.returns
returns c =
    let e = parts c.in_ok-e.e.now in
    rw (sym c.in_ok-e.ensures.endpoint, c.state.ensures)
    (ap (λ (event : Option Event). Some (e.state, event)) (c.first_pending.ensures ∙ first_found (is_pending (around_lent c.args.lent.now c.args.fd.0 e) e) events))
