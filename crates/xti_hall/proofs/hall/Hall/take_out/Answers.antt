use Rattle.std.proofs.Common.{arith, ap, ◌∙◌}
use Rattle.xti_hall_rule.proofs.Turns.{settles}
use Rattle.xti_hall.proofs.hall.Hall.take_out.Goals as goal

pub store-requires : goal.store-requires
store-requires g c = let sized = c.args.self.now.sized in let f = c.exchange-value.ensures.3 in (
  c.exchange-value.ensures.0 ∙ c.requires.hall,
  omega arith,
  settles (g.C.Stands.stands c.args.self.now.table.shared.key) c.args.self.now.table.shared.key _ _ c.args.cell c.exchange-value.new.seat.me _ (ap (λ m. m.0.live) f ∙ c.requires.live) c.requires.cell (let z = ap (λ m. m.0.opened) f in omega (arith, z, c.requires.opened)) (ap (λ m. m.1) f),
)
