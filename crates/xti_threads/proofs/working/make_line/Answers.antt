use Rattle.std.proofs.Common.{◌++◌}
use Rattle.xti_threads.proofs.Between.{between-idle, between-next, between-takes}
use Rattle.xti_threads.proofs.Works.{works-between, works-back, works-on}
use Rattle.xti_threads.proofs.working.make_line.Goals as goal

pub next_call-requires-clause-told : goal.next_call-requires-clause-told
next_call-requires-clause-told g c =
    let r = c.requires.works in
    let b = works-between r.1 r.2 c.requires.whole in
    (r.0 ++ c.args.seat.now.view.mine, c.args._number, b.told, b.setup_told)

pub make_call-requires-clause-seat : goal.make_call-requires-clause-seat
make_call-requires-clause-seat g c κs within =
    let r = c.requires.works in
    (r.2.back.of_x, between-idle (works-between r.1 r.2 c.requires.whole))

pub make_call-requires-clause-takes : goal.make_call-requires-clause-takes
make_call-requires-clause-takes g c κs within =
    let r = c.requires.works in
    let b = works-between r.1 r.2 c.requires.whole in
    between-takes b c.in-Some.next (between-next b c.in-Ok.next c.in-Some.next c.in-Some.is c.in-Ok.ensures)

pub returns-clause-on : goal.returns-clause-on
returns-clause-on g c = λ ok past z k.
    let b = works-between z k c.requires.whole in
    let next = between-next b c.in-Ok.next c.in-Some.next c.in-Some.is c.in-Ok.ensures in
    let made = c.make_call in
    works-on k b c.in-Some.next next made.new.seat made.ensures.seat made.ensures.standing made.new.worker (made.ensures.begun ok)

pub returns-clause-whole : goal.returns-clause-whole
returns-clause-whole g c = λ ok. (c.make_call.ensures.begun ok).begun.whole

pub returns-clause-back : goal.returns-clause-back
returns-clause-back g c = λ past z k.
    let b = works-between z k c.requires.whole in
    let next = between-next b c.in-Ok.next c.in-Some.next c.in-Some.is c.in-Ok.ensures in
    let made = c.make_call in
    works-back k b c.in-Some.next next made.new.seat made.ensures.seat made.ensures.standing made.ensures.made
