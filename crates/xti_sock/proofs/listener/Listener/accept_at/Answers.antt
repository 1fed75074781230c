use Rattle.xti_sock.proofs.Turning.{accept-take, accept-forget}
use Rattle.xti_sock.proofs.listener.Listener.accept_at.Goals as goal

pub returns-in-Listen-clause-made : goal.returns-in-Listen-clause-made
returns-in-Listen-clause-made g c =
    accept-take c.args.self.now.fd c.args.resfd c.args.seq c.new.result c.new-2.result c.args.self.now.kept.numbers c.args.self.now.spare _ _ _ c.take.result c.take.new.self c.new.ensures c.new-2.ensures c.requires.spare c.in-Listen.ensures.asked c.take.ensures.made

pub returns-in-Disconnect-clause-made : goal.returns-in-Disconnect-clause-made
returns-in-Disconnect-clause-made g c =
    accept-forget c.args.self.now.fd c.args.resfd c.args.seq c.new.result c.new-2.result c.args.self.now.kept.numbers c.args.self.now.spare _ _ _ c.forget.result c.forget.new.self c.new.ensures c.new-2.ensures c.requires.spare c.in-Disconnect.ensures.asked c.forget.ensures.made
