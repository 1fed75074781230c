use Rattle.std.proofs.Common.{refl, ap, sym, subst, ◌∙◌}
use Rattle.xti_hall_rule.specs.declared.view.View.{View}
use Rattle.xti_hall.specs.Seats.{HasTaken, SeatView}
use Rattle.xti_hall.proofs.Endings.{meets-at-end, met-whole, still-taken}
use Rattle.xti_hall.proofs.ended.Ended.meet.Goals as goal

pub invariant_of-self : goal.invariant_of-self
invariant_of-self g c =
    let taken = c.self.invariant.1 in let t = c.tell.ensures in let l = c.length-length.ensures in let o = c.meet.ensures.hall.2 in (
      (ap (λ (z : SeatView). z.hall) o ∙ (l.hall.0 ∙ (t.hall.0.0 ∙ c.self.invariant.0.0)), ap (λ (z : SeatView). z.view.setting) o ∙ (ap (λ (z : View). z.setting) l.seen.1 ∙ (ap (λ (z : View). z.setting) t.told ∙ c.self.invariant.0.1))),
      subst (λ (z : SeatView). HasTaken z.view c.self.inside.history) (sym o) (still-taken c.self.inside.seat.view c.args.other.view c.tell.new.seat.view c.length-length.new.seat.view _ l.seen.0 c.self.inside.history taken t.told l.seen.1 l.seen.2),
    )

pub returns-clause-whole : goal.returns-clause-whole
returns-clause-whole g c =
    let l = c.length-length.ensures.seen in
    met-whole c.self.inside.seat.view c.args.other.view c.tell.new.seat.view c.length-length.new.seat.view _ l.0 c.self.inside.history c.self.invariant.1 c.tell.ensures.told l.1 l.2 c.self.inside.seat c.args.self.now c.self.view_is refl

pub returns-clause-met : goal.returns-clause-met
returns-clause-met g c =
    let l = c.length-length.ensures.seen in
    meets-at-end c.self.inside.seat.view c.args.other.view c.tell.new.seat.view c.length-length.new.seat.view _ l.0 c.self.inside.history c.self.invariant.1 c.tell.ensures.told l.1 l.2 c.tell.new.other.view c.meet.result.view c.self.inside.seat c.args.self.now c.self.view_is refl (ap (λ (z : SeatView). z.view) c.tell.ensures.hall.1) c.meet.ensures.met
