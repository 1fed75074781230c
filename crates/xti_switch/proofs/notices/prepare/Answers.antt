use Rattle.std.proofs.Common.{sym, ap}
use Rattle.xti_end.specs.Held.{Held}
use Rattle.xti_switch.proofs.Hearings.{room-taken, prepared}
use Rattle.xti_switch.proofs.notices.prepare.Goals as goal

pub returns-in-Err-clause-room : goal.returns-in-Err-clause-room
returns-in-Err-clause-room c =
    room-taken c.args.lent.now c.place_of-place.result c.endpoint.result.now c.reserve_disconnects.new.self c.place_of-place.ensures.bound (sym c.endpoint.ensures.now) c.reserve_disconnects.ensures.same c.reserve_disconnects.ensures.kept

pub returns-clause-room : goal.returns-clause-room
returns-clause-room c =
    room-taken c.args.lent.now c.place_of-place.result c.endpoint.result.now c.reserve_disconnects.new.self c.place_of-place.ensures.bound (sym c.endpoint.ensures.now) c.reserve_disconnects.ensures.same c.reserve_disconnects.ensures.kept

pub returns-clause-ready : goal.returns-clause-ready
returns-clause-ready c =
    prepared c.args.lent.now c.place_of-place.result c.endpoint.result.now c.reserve_disconnects.new.self (record { to = c.args.to; news = c.args.news; frame = c.in_ok-frame.frame }) (sym c.endpoint.ensures.now)
    (ap (λ (x : Held). x.place) c.reserve_disconnects.ensures.same) c.in_ok-frame.ensures.kind c.place_of-place.ensures.place c.in-Ok.ensures.spare
