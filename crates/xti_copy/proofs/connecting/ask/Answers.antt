use Rattle.std.proofs.Common.{◌++◌, take, drop}
use Rattle.xti_base.specs.declared.kinds.State.TheVariants.{T_UNBND}
use Rattle.xti_laws_streams.specs.Copying.{client}
use Rattle.xti_copy.specs.Ends.{asking, listening}
use Rattle.xti_copy.proofs.Rows.{then-comes}
use Rattle.xti_copy.proofs.Steps.{open-goes, connect-goes}
use Rattle.xti_copy.proofs.connecting.ask.Goals as goal

pub made-requires : goal.made-requires
made-requires g c =
    (open-goes listening (drop 1 asking) client T_UNBND c.args.io.now c.socket.new.io c.socket.result c.requires.comes c.requires.at c.socket.ensures.made).fails

pub waiting-requires : goal.waiting-requires
waiting-requires g c =
    let one = (open-goes listening (drop 1 asking) client T_UNBND c.args.io.now c.socket.new.io c.socket.result c.requires.comes c.requires.at c.socket.ensures.made).holds _ c.in_ok-sock.ensures in
    (connect-goes (listening ++ take 1 asking) c.in_ok-sock.sock c.socket.new.io c.connect.new.io c.connect.result c.connect.new.self one.1 (then-comes listening (take 1 asking) (drop 1 asking) c.requires.comes) one.0 c.connect.ensures.made).fails

pub returns-clause-at : goal.returns-clause-at
returns-clause-at g c =
    let one = (open-goes listening (drop 1 asking) client T_UNBND c.args.io.now c.socket.new.io c.socket.result c.requires.comes c.requires.at c.socket.ensures.made).holds _ c.in_ok-sock.ensures in
    ((connect-goes (listening ++ take 1 asking) c.in_ok-sock.sock c.socket.new.io c.connect.new.io c.connect.result c.connect.new.self one.1 (then-comes listening (take 1 asking) (drop 1 asking) c.requires.comes) one.0 c.connect.ensures.made).holds c.in_ok-waiting.ensures).0

pub returns-clause-sock : goal.returns-clause-sock
returns-clause-sock g c =
    let one = (open-goes listening (drop 1 asking) client T_UNBND c.args.io.now c.socket.new.io c.socket.result c.requires.comes c.requires.at c.socket.ensures.made).holds _ c.in_ok-sock.ensures in
    ((connect-goes (listening ++ take 1 asking) c.in_ok-sock.sock c.socket.new.io c.connect.new.io c.connect.result c.connect.new.self one.1 (then-comes listening (take 1 asking) (drop 1 asking) c.requires.comes) one.0 c.connect.ensures.made).holds c.in_ok-waiting.ensures).1
