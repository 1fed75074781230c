use Rattle.std.proofs.Common.{arith, ap, ◌∙◌}
use Rattle.xti_hall_rule.specs.declared.view.View.{View}
use Rattle.xti_hall_rule.proofs.Splits.{notes, joins_note}
use Rattle.xti_hall.proofs.hall.Hall.tell.Goals as goal

pub split_seat-note-requires : goal.split_seat-note-requires
split_seat-note-requires g c = let sized = c.args.self.now.sized in let is = ap (λ s. s.view) c.other.view_is in let s = c.other.invariant.1 in (
  ap (λ s. s.hall) c.other.view_is ∙ c.requires.hall.1.0,
  omega arith,
  notes (g.C.Stands.stands c.args.self.now.table.shared.key) c.args.self.now.table.shared.key _ c.other.inside.pass.me.0 s.live (ap (λ (z : View). z.setting) is ∙ c.requires.hall.1.1),
)

pub join_seat-requires : goal.join_seat-requires
join_seat-requires g c = let sized = c.args.self.now.sized in let e = c.split_seat-note.ensures in (
  ap (λ s. s.hall) c.seat.view_is ∙ c.requires.hall.0.0,
  e.3 ∙ (ap (λ s. s.hall) c.other.view_is ∙ c.requires.hall.1.0),
  ap (λ m. m.1) e.4,
  omega arith,
  joins_note (g.C.Stands.stands c.args.self.now.table.shared.key) c.args.self.now.table.shared.key _ _ _ c.other.inside.pass.me.0 c.split_seat-note.result.me.0 c.seat.invariant.1.live c.other.invariant.1.live (ap (λ m. m.0) e.4),
)
