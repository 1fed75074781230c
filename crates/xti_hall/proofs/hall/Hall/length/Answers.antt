use Rattle.std.proofs.Common.{arith, ap, ◌∙◌}
use Rattle.xti_hall_rule.proofs.Looks.{looks}
use Rattle.xti_hall.proofs.hall.Hall.length.Goals as goal

pub load-requires : goal.load-requires
load-requires g c = let sized = c.args.self.now.sized in (ap (λ s. s.hall) c.seat.view_is ∙ c.requires.hall.0, omega arith, looks (g.C.Stands.stands c.args.self.now.table.shared.key) c.args.self.now.table.shared.key _ _ c.seat.inside.pass.me c.seat.invariant.1.live)
