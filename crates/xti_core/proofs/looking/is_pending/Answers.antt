use Rattle.std.proofs.Common.{◌≡◌, ◌∙◌, ◌&&◌, false, refl, sym}
use Rattle.xti_model.specs.Events.{can_send_again}
use Rattle.xti_end.specs.Held.{parts}
use Rattle.xti_core.specs.Looks.{around_lent}
use Rattle.xti_core.proofs.looking.is_pending.Goals as goal
use Rattle.xti_core.proofs.looking.is_pending.Goals.{then-flow_normal, else-flow_normal}

pub returns-else-can_send_again : goal.returns-else-can_send_again
returns-else-can_send_again c =
    let e = parts c.args.e.now in
    let waits : (e.flow_normal && can_send_again (around_lent c.args.lent.now c.args.fd.0 e) false e) ≡ false = elim c.if-flow_normal.branch [
      | then-flow_normal w ↦ rw (sym c.flow_normal.ensures ∙ w.if-flow_normal.true) (sym w.can_send_again-then-flow_normal.ensures ∙ (sym w.value-is ∙ c.if-can_send_again.false))
      | else-flow_normal w ↦ rw (sym c.flow_normal.ensures ∙ w.if-flow_normal.false) refl
    ] in
    rw (c.in-T_GODATA.is, waits) (c.goes_again.ensures c.args.fd.0)
