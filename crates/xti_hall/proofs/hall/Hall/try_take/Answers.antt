use Rattle.std.proofs.Common.{arith}
use Rattle.xti_hall_rule.proofs.Turns.{enters}
use Rattle.xti_hall.proofs.hall.Hall.try_take.Goals as goal

pub compare_exchange-requires : goal.compare_exchange-requires
compare_exchange-requires g c = let sized = c.args.self.now.sized in let s = c.requires.seat in
    (c.requires.hall, omega arith, enters g.C.Stands.stands c.args.self.now.table.shared.key _ _ _ c.args.pass.now.me s.live c.requires.cell s.shut)
