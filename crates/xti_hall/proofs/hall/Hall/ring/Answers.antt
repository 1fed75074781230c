use Rattle.std.proofs.Common.{arith, ap, sym, ◌∙◌}
use Rattle.xti_hall_rule.proofs.Looks.{rings_at}
use Rattle.xti_hall.proofs.hall.Hall.ring.Goals as goal

pub fetch_add-requires : goal.fetch_add-requires
fetch_add-requires g c = let sized = c.args.self.now.sized in
    (ap (λ s. s.hall) c.seat.view_is ∙ c.requires.hall.0, omega arith, rings_at (g.C.Stands.stands c.args.self.now.table.shared.key) c.args.self.now.table.shared.key _ _ _ c.seat.inside.pass.me _ (sym sized.2) c.requires.number c.seat.invariant.1.live)
