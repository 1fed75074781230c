use Rattle.std.proofs.Common.{arith}
use Rattle.xti_lent.proofs.Written.{own-kept}
use Rattle.xti_switch.proofs.Hearings.{no-room-taken, room-then}
use Rattle.xti_switch.proofs.GivingUp.{gathered-all, gathered-none, gathered-one, caller-held, unanswered-same}
use Rattle.xti_switch.proofs.callers.notices_to_callers.Goals as goal

pub loop-place-init : goal.loop-place-init
loop-place-init c = gathered-none c.args.lent.now c.args.fd.0 c.in_ok-notices.notices.items (no-room-taken c.args.lent.now) c.in_ok-notices.ensures.items

pub request-requires-clause-own : goal.request-requires-clause-own
request-requires-clause-own c = own-kept c.args.lent.now c.loop-place.lent c.loop-place.invariant.room.kept c.requires.fit.places

pub request-requires-clause-there : goal.request-requires-clause-there
request-requires-clause-there c =
    rw (unanswered-same c.args.lent.now c.loop-place.lent c.args.fd.0 c.loop-place.invariant.room) (omega (arith, c.loop-place-test.true, c.requests-count.ensures))

pub prepare-requires-clause-there : goal.prepare-requires-clause-there
prepare-requires-clause-there c = caller-held c.args.lent.now c.loop-place.lent c.args.fd.0 c.loop-place.place c.request.result c.loop-place.invariant.room c.request.ensures c.requires.reach

pub returns-in-Err-clause-room : goal.returns-in-Err-clause-room
returns-in-Err-clause-room c = room-then c.args.lent.now c.loop-place.lent c.prepare.new.lent c.loop-place.invariant.room c.prepare.ensures.room

pub returns-in-Err-push_back-clause-room : goal.returns-in-Err-push_back-clause-room
returns-in-Err-push_back-clause-room c = room-then c.args.lent.now c.loop-place.lent c.prepare.new.lent c.loop-place.invariant.room c.prepare.ensures.room

pub loop-place-preserved : goal.loop-place-preserved
loop-place-preserved c =
    rw c.in-Ok-push_back.ensures.items
    (gathered-one c.args.lent.now c.loop-place.lent c.prepare.new.lent c.args.fd c.loop-place.place c.loop-place.notices.items c.request.result c.in-Ok.made c.loop-place.invariant c.prepare.ensures.room c.request.ensures c.in-Ok.ensures.notice c.in-Ok.ensures.ready)

pub returns-clause-room : goal.returns-clause-room
returns-clause-room c = c.loop-place.invariant.room

pub returns-clause-notices : goal.returns-clause-notices
returns-clause-notices c = gathered-all c.args.lent.now c.loop-place.lent c.args.fd.0 c.loop-place.place c.loop-place.notices.items c.loop-place.invariant (omega (arith, c.loop-place-test.false, c.requests-count.ensures))

pub returns-clause-ready : goal.returns-clause-ready
returns-clause-ready c = c.loop-place.invariant.ready
