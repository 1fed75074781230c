use Rattle.std.proofs.Common.{◌≡◌, ap, sym, subst, ◌∙◌}
use Rattle.std.specs.Prelude.{Err}
use Rattle.xti_model.specs.Profile.{valid}
use Rattle.xti_hall.specs.Seats.{SeatView}
use Rattle.xti_sock.specs.Calling.{Calls}
use Rattle.xti_copy.specs.Sharing.{sight_of}
use Rattle.xti_copy.proofs.Shares.{calls, mapped, stalled}
use Rattle.xti_copy.proofs.shared.Shared.make.Goals as goal
use Rattle.xti_copy.proofs.shared.Shared.make.Goals.{in-Ok, in-Err}

pub returns-clause-made : goal.returns-clause-made
returns-clause-made g c =
    let same : c.match-call.result ≡ mapped c.call.result =
    elim c.match-call.branch [ in-Ok w ↦ w.result-is ∙ sym (ap mapped w.in-Ok.is) | in-Err w ↦ w.result-is ∙ (ap Err w.end_of.ensures ∙ sym (ap mapped w.in-Err.is)) ] in
    let ok = ap (λ s. valid s.providers) (c.call.ensures.later.setting ∙ c.self.invariant.1) ∙ c.self.inside.xti.now.valid_providers in
    subst (λ (s : SeatView). Calls (sight_of s.view) c.args.made.now c.match-call.result (sight_of c.call.new.seat.view)) c.self.view_is
    (calls c.self.inside.seat.view c.call.new.seat.view c.args.made.now c.call.result c.match-call.result ok c.call.ensures.standing c.call.ensures.later c.call.ensures.made same)

pub returns-clause-stall : goal.returns-clause-stall
returns-clause-stall g c =
    let same : c.match-call.result ≡ mapped c.call.result =
    elim c.match-call.branch [ in-Ok w ↦ w.result-is ∙ sym (ap mapped w.in-Ok.is) | in-Err w ↦ w.result-is ∙ (ap Err w.end_of.ensures ∙ sym (ap mapped w.in-Err.is)) ] in
    stalled c.self.inside.seat.view c.call.new.seat.view c.args.made.now c.call.result c.match-call.result c.call.ensures.made same
