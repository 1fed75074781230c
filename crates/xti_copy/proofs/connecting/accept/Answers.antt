use Rattle.std.proofs.Common.{◌++◌, take, drop, refl}
use Rattle.xti_copy.specs.Ends.{listening, asking, accepting, listening_sock, asking_sock}
use Rattle.xti_copy.proofs.InStep.{step-at, step-back}
use Rattle.xti_copy.proofs.Rows.{then-comes}
use Rattle.xti_copy.proofs.Steps.{accept-goes, finish-goes}
use Rattle.xti_copy.proofs.connecting.accept.Goals as goal

pub accept-requires-clause-step : goal.accept-requires-clause-step
accept-requires-clause-step g c κs within =
    step-back c.args.listener.now listening_sock c.args.io.now.entries c.requires.listener
    (step-at listening_sock (listening ++ asking) c.args.io.now c.requires.at (record { own = λ h. refl; spare = tt }))

pub made-requires : goal.made-requires
made-requires g c =
    (accept-goes (listening ++ asking) c.args.listener.now c.args.io.now c.accept.new.io c.accept.result c.accept.new.self c.requires.listener c.requires.comes c.requires.at c.accept.ensures.made).fails

pub finish-requires-clause-step : goal.finish-requires-clause-step
finish-requires-clause-step g c κs within =
    let one = (accept-goes (listening ++ asking) c.args.listener.now c.args.io.now c.accept.new.io c.accept.result c.accept.new.self c.requires.listener c.requires.comes c.requires.at c.accept.ensures.made).holds _ c.in_ok-receiver.ensures in
    step-back c.args.client.now asking_sock c.accept.new.io.entries c.requires.client
    (step-at asking_sock ((listening ++ asking) ++ take 3 accepting) c.accept.new.io one.0 (record { own = λ h. refl; spare = tt }))

pub made-requires-2 : goal.made-requires-2
made-requires-2 g c =
    let one = (accept-goes (listening ++ asking) c.args.listener.now c.args.io.now c.accept.new.io c.accept.result c.accept.new.self c.requires.listener c.requires.comes c.requires.at c.accept.ensures.made).holds _ c.in_ok-receiver.ensures in
    (finish-goes ((listening ++ asking) ++ take 3 accepting) c.args.client.now c.accept.new.io c.finish.new.io c.finish.result c.finish.new.self c.requires.client (then-comes (listening ++ asking) (take 3 accepting) (drop 3 accepting) c.requires.comes) one.0 c.finish.ensures.made).fails

pub returns-clause-listener : goal.returns-clause-listener
returns-clause-listener g c =
    ((accept-goes (listening ++ asking) c.args.listener.now c.args.io.now c.accept.new.io c.accept.result c.accept.new.self c.requires.listener c.requires.comes c.requires.at c.accept.ensures.made).holds _ c.in_ok-receiver.ensures).1

pub returns-clause-client : goal.returns-clause-client
returns-clause-client g c =
    let one = (accept-goes (listening ++ asking) c.args.listener.now c.args.io.now c.accept.new.io c.accept.result c.accept.new.self c.requires.listener c.requires.comes c.requires.at c.accept.ensures.made).holds _ c.in_ok-receiver.ensures in
    let two = (finish-goes ((listening ++ asking) ++ take 3 accepting) c.args.client.now c.accept.new.io c.finish.new.io c.finish.result c.finish.new.self c.requires.client (then-comes (listening ++ asking) (take 3 accepting) (drop 3 accepting) c.requires.comes) one.0 c.finish.ensures.made).holds _ c.in_ok-made.ensures in
    two.1

pub returns-clause-receiver : goal.returns-clause-receiver
returns-clause-receiver g c =
    ((accept-goes (listening ++ asking) c.args.listener.now c.args.io.now c.accept.new.io c.accept.result c.accept.new.self c.requires.listener c.requires.comes c.requires.at c.accept.ensures.made).holds _ c.in_ok-receiver.ensures).2

pub returns-clause-at : goal.returns-clause-at
returns-clause-at g c =
    let one = (accept-goes (listening ++ asking) c.args.listener.now c.args.io.now c.accept.new.io c.accept.result c.accept.new.self c.requires.listener c.requires.comes c.requires.at c.accept.ensures.made).holds _ c.in_ok-receiver.ensures in
    let two = (finish-goes ((listening ++ asking) ++ take 3 accepting) c.args.client.now c.accept.new.io c.finish.new.io c.finish.result c.finish.new.self c.requires.client (then-comes (listening ++ asking) (take 3 accepting) (drop 3 accepting) c.requires.comes) one.0 c.finish.ensures.made).holds _ c.in_ok-made.ensures in
    two.0

pub finish-requires-clause-free : goal.finish-requires-clause-free
finish-requires-clause-free g c κs within =
    let one = (accept-goes (listening ++ asking) c.args.listener.now c.args.io.now c.accept.new.io c.accept.result c.accept.new.self c.requires.listener c.requires.comes c.requires.at c.accept.ensures.made).holds _ c.in_ok-receiver.ensures in
    one.0.free
