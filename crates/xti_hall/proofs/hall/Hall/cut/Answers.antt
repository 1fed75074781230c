use Rattle.std.proofs.Common.{arith, ap, sym, ◌∙◌, subst, ◌<◌}
use Rattle.xti_hall_rule.specs.declared.view.View.{View}
use Rattle.xti_hall_rule.proofs.Splits.{splits}
use Rattle.xti_hall.proofs.hall.Hall.cut.Goals as goal

pub split_seat-pass-requires : goal.split_seat-pass-requires
split_seat-pass-requires g c = let sized = c.args.self.now.sized in let is = ap (λ s. s.view) c.seat.view_is in let s = c.seat.invariant.1 in (
  ap (λ s. s.hall) c.seat.view_is ∙ c.requires.hall.0,
  omega arith,
  splits (g.C.Stands.stands c.args.self.now.table.shared.key) c.args.self.now.table.shared.key _ c.seat.inside.pass.me.0 s.live s.numbered (subst (λ (z : View). z.next < 33) (sym is) c.requires.some) (ap (λ (z : View). z.setting) is ∙ c.requires.hall.1),
)
