use Rattle.xti_sock.proofs.Accepted.{accept-keeps, accepted-in-step}
use Rattle.xti_sock.proofs.sock.Sock.accept.Goals as goal

pub returns-clause-step : goal.returns-clause-step
returns-clause-step g c = (accept-keeps c.changes_are_named.ensures.kinds c.args.self.now c.args.nonblock _ _ _ _ c.requires.step c.accept_by_phase.ensures.made).0

pub returns-clause-accepted : goal.returns-clause-accepted
returns-clause-accepted g c =
    accepted-in-step c.accept_by_phase.result _ (accept-keeps c.changes_are_named.ensures.kinds c.args.self.now c.args.nonblock _ _ _ _ c.requires.step c.accept_by_phase.ensures.made).1
