use Rattle.std.proofs.Common.{[], take, drop}
use Rattle.xti_base.specs.declared.kinds.State.TheVariants.{T_UNBND, T_IDLE}
use Rattle.xti_laws_streams.specs.Copying.{listener}
use Rattle.xti_copy.specs.Ends.{listening}
use Rattle.xti_copy.proofs.Rows.{then-comes}
use Rattle.xti_copy.proofs.Steps.{open-goes, bind-goes, listen-goes}
use Rattle.xti_copy.proofs.connecting.listen.Goals as goal

pub made-requires : goal.made-requires
made-requires g c = (open-goes [] (drop 1 listening) listener T_UNBND c.args.io.now c.socket.new.io c.socket.result c.requires.comes c.requires.at c.socket.ensures.made).fails

pub made-requires-2 : goal.made-requires-2
made-requires-2 g c =
    let one = (open-goes [] (drop 1 listening) listener T_UNBND c.args.io.now c.socket.new.io c.socket.result c.requires.comes c.requires.at c.socket.ensures.made).holds _ c.in_ok-sock.ensures in
    (bind-goes (take 1 listening) (drop 1 listening) c.in_ok-sock.sock c.socket.new.io c.bind.new.io c.bind.result c.bind.new.self one.1 (then-comes [] (take 1 listening) (drop 1 listening) c.requires.comes) one.0 c.bind.ensures.made).fails

pub made-requires-3 : goal.made-requires-3
made-requires-3 g c =
    let one = (open-goes [] (drop 1 listening) listener T_UNBND c.args.io.now c.socket.new.io c.socket.result c.requires.comes c.requires.at c.socket.ensures.made).holds _ c.in_ok-sock.ensures in
    let comes = then-comes [] (take 1 listening) (drop 1 listening) c.requires.comes in
    let two = (bind-goes (take 1 listening) (drop 1 listening) c.in_ok-sock.sock c.socket.new.io c.bind.new.io c.bind.result c.bind.new.self one.1 comes one.0 c.bind.ensures.made).holds _ c.in_ok-made.ensures in
    (listen-goes (take 1 listening) [] T_IDLE c.bind.new.self c.bind.new.io c.listen.new.io c.listen.result c.listen.new.self two.1 comes two.0 c.listen.ensures.made).fails

pub returns-clause-at : goal.returns-clause-at
returns-clause-at g c =
    let one = (open-goes [] (drop 1 listening) listener T_UNBND c.args.io.now c.socket.new.io c.socket.result c.requires.comes c.requires.at c.socket.ensures.made).holds _ c.in_ok-sock.ensures in
    let comes = then-comes [] (take 1 listening) (drop 1 listening) c.requires.comes in
    let two = (bind-goes (take 1 listening) (drop 1 listening) c.in_ok-sock.sock c.socket.new.io c.bind.new.io c.bind.result c.bind.new.self one.1 comes one.0 c.bind.ensures.made).holds _ c.in_ok-made.ensures in
    ((listen-goes (take 1 listening) [] T_IDLE c.bind.new.self c.bind.new.io c.listen.new.io c.listen.result c.listen.new.self two.1 comes two.0 c.listen.ensures.made).holds _ c.in_ok-made-2.ensures).0

pub returns-clause-sock : goal.returns-clause-sock
returns-clause-sock g c =
    let one = (open-goes [] (drop 1 listening) listener T_UNBND c.args.io.now c.socket.new.io c.socket.result c.requires.comes c.requires.at c.socket.ensures.made).holds _ c.in_ok-sock.ensures in
    let comes = then-comes [] (take 1 listening) (drop 1 listening) c.requires.comes in
    let two = (bind-goes (take 1 listening) (drop 1 listening) c.in_ok-sock.sock c.socket.new.io c.bind.new.io c.bind.result c.bind.new.self one.1 comes one.0 c.bind.ensures.made).holds _ c.in_ok-made.ensures in
    ((listen-goes (take 1 listening) [] T_IDLE c.bind.new.self c.bind.new.io c.listen.new.io c.listen.result c.listen.new.self two.1 comes two.0 c.listen.ensures.made).holds _ c.in_ok-made-2.ensures).1
