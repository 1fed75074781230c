use Rattle.std.proofs.Common.{◌≡◌, sym}
use Rattle.xti_lent.proofs.Written.{same-back}
use Rattle.xti_lent.proofs.lent.Lent.lend_room.Goals as goal

pub returns : goal.returns
returns c = rw (← c.self.view_is) (same-back _ c.place_of-place.result c.endpoint.result.now c.lend_room.new.self (sym c.endpoint.ensures.now) c.lend_room.ensures)
