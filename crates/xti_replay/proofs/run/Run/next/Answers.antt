use Rattle.std.proofs.Common.{ap, Option, subst}
use Rattle.std.specs.Prelude.{Bool}
use Rattle.xti_model.specs.declared.entry.Entry.{Entry}
use Rattle.xti_replay.specs.Progress.{made_by}
use Rattle.xti_replay.specs.Runs.{GoesOn}
use Rattle.xti_replay.proofs.OthersAsked.{next_in}
use Rattle.xti_replay.proofs.run.Run.next.Goals as goal

pub returns-clause-goes_on : goal.returns-clause-goes_on
returns-clause-goes_on c = λ past k.
    subst (λ (o : Option Entry). GoesOn past c.args.self.now c.step.new.self o (next_in past c.args.self.now)) (ap (λ (made : Bool). made_by made c.step.new.self.entry) c.if-self.false) (c.in_ok-step.ensures.goes_on past k)
