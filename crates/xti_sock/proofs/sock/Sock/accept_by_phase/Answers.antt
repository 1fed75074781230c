use Rattle.std.proofs.Common.{inr, refl}
use Rattle.xti_sock.proofs.Turning.{accept-due}
use Rattle.xti_sock.proofs.sock.Sock.accept_by_phase.Goals as goal

pub returns-in_default-with_room : goal.returns-in_default-with_room
returns-in_default-with_room g c =
    record { made = inr (accept-due c.args.self.now c.args.nonblock c.in-Listening.kept c.in-Listening.spare c.in-Listening.is, refl, refl, refl) }
