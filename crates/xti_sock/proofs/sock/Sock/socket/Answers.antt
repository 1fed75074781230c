use Rattle.xti_sock.proofs.NewSockets.{socket-in-step}
use Rattle.xti_sock.proofs.sock.Sock.socket.Goals as goal

pub returns-clause-step : goal.returns-clause-step
returns-clause-step g c = socket-in-step c.changes_are_named.ensures.kinds c.args.nonblock _ _ _ c.open_one.ensures.made
