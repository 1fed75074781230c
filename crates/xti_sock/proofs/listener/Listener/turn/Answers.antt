use Rattle.std.proofs.Common.{sym}
use Rattle.xti_sock.proofs.Turning.{turn-taken}
use Rattle.xti_sock.proofs.listener.Listener.turn.Goals as goal

pub returns-in-None-take-clause-made : goal.returns-in-None-take-clause-made
returns-in-None-take-clause-made g c =
    let m = c.in-None-take.ensures in
    turn-taken c.args.nonblock c.args.self.now.fd c.args.self.now.kept.numbers c.args.self.now.spare _ _ _ c.take.new.self c.serve.result c.serve.new.self (sym c.in-None.ensures) m.made m.room.0 c.serve.ensures.made
