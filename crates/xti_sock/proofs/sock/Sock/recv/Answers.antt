use Rattle.xti_sock.proofs.Ends.{recv-ends}
use Rattle.xti_sock.proofs.InStep.{recv-keeps}
use Rattle.xti_sock.proofs.Inputs.{recv-gives}
use Rattle.xti_sock.proofs.NoBytes.{recv-none}
use Rattle.xti_sock.proofs.sock.Sock.recv.Goals as goal

pub returns-clause-step : goal.returns-clause-step
returns-clause-step g c = recv-keeps c.args.self.now c.args.max _ _ _ _ c.requires.step c.recv_by_phase.ensures.made

pub returns-clause-input : goal.returns-clause-input
returns-clause-input g c = recv-gives c.args.self.now c.args.max _ _ _ _ c.recv_by_phase.ensures.made

pub returns-clause-end : goal.returns-clause-end
returns-clause-end g c = recv-ends c.args.self.now c.args.max _ _ _ _ c.requires.step c.recv_by_phase.ensures.made

pub returns-clause-none : goal.returns-clause-none
returns-clause-none g c = recv-none c.changes_are_named.ensures.kinds c.args.self.now c.args.max c.requires.max _ _ _ _ c.requires.step c.recv_by_phase.ensures.made
