use Rattle.xti_threads.proofs.Between.{between-idle, between-next, between-takes}
use Rattle.xti_threads.proofs.Settings.{sets-between, sets-back, sets-on}
use Rattle.xti_threads.proofs.setting.make_line.Goals as goal

pub make_call-requires-clause-seat : goal.make_call-requires-clause-seat
make_call-requires-clause-seat g c κs within = (c.requires.sets.seat.of_x, between-idle (sets-between c.requires.sets c.requires.whole))

pub make_call-requires-clause-takes : goal.make_call-requires-clause-takes
make_call-requires-clause-takes g c κs within =
    let b = sets-between c.requires.sets c.requires.whole in
    between-takes b c.in-Some.next (between-next b c.in-Ok.next c.in-Some.next c.in-Some.is c.in-Ok.ensures)

pub returns-then-make_call-clause-sets : goal.returns-then-make_call-clause-sets
returns-then-make_call-clause-sets g c =
    let b = sets-between c.requires.sets c.requires.whole in
    let next = between-next b c.in-Ok.next c.in-Some.next c.in-Some.is c.in-Ok.ensures in
    let made = c.make_call in
    sets-back c.requires.sets b c.in-Some.next next made.new.seat made.ensures.seat made.ensures.standing made.ensures.made

pub returns-then-make_call-clause-made : goal.returns-then-make_call-clause-made
returns-then-make_call-clause-made g c = λ _.
    let b = sets-between c.requires.sets c.requires.whole in
    let next = between-next b c.in-Ok.next c.in-Some.next c.in-Some.is c.in-Ok.ensures in
    let made = c.make_call in
    let answer = made.ensures.begun c.if-make_call.true in
    (sets-on c.requires.sets b c.in-Some.next next made.new.seat made.ensures.seat made.ensures.standing made.new.worker answer, answer.begun.whole)

pub returns-else-make_call-clause-sets : goal.returns-else-make_call-clause-sets
returns-else-make_call-clause-sets g c =
    let b = sets-between c.requires.sets c.requires.whole in
    let next = between-next b c.in-Ok.next c.in-Some.next c.in-Some.is c.in-Ok.ensures in
    let made = c.make_call in
    sets-back c.requires.sets b c.in-Some.next next made.new.seat made.ensures.seat made.ensures.standing made.ensures.made
