use Rattle.std.proofs.Common.{false}
use Rattle.xti_replay.specs.Progress.{made_by}
use Rattle.xti_replay.proofs.Errors.{on_any_err}
use Rattle.xti_replay.proofs.OthersAsked.{next_in, stands-with, goes-out}
use Rattle.xti_replay.proofs.run.Run.step.Goals as goal

pub make-requires-clause-stands : goal.make-requires-clause-stands
make-requires-clause-stands c = (c.requires.0, stands-with c.requires.0 c.args.self.now (record c.args.self.now.entry { act = c.write_over.new.place }) false c.requires.1)

pub returns-clause-goes_on : goal.returns-clause-goes_on
returns-clause-goes_on c = λ past k.
    goes-out past c.args.self.now c.make.new.self c.make.new.self.entry (record c.args.self.now.entry { act = c.write_over.new.place }) c.in_ok-self.field-0 false (made_by c.in_ok-self.field-0 c.make.new.self.entry) (next_in past c.args.self.now)
    (c.in_ok-self.ensures.goes_on past (stands-with past c.args.self.now (record c.args.self.now.entry { act = c.write_over.new.place }) false k))

pub returns-in_err-self-clause-err : goal.returns-in_err-self-clause-err
returns-in_err-self-clause-err c = on_any_err c.from_residual.result (λ past k. c.in_err-self.ensures.err past (stands-with past c.args.self.now (record c.args.self.now.entry { act = c.write_over.new.place }) false k))
