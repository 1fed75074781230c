use Rattle.std.proofs.Common.{◌∙◌, List, ap}
use Rattle.xti_poll.specs.Polls.{first_found}
use Rattle.xti_poll.specs.declared.asked.Asked.{Asked}
use Rattle.xti_poll.specs.Sums.{all_told}
use Rattle.xti_poll.proofs.Finds.{found-of}
use Rattle.xti_poll.proofs.set.PollSet.poll.Goals as goal

pub returns-clause-found : goal.returns-clause-found
returns-clause-found g c =
    c.first_told-found.ensures
    ∙ ap first_found (ap (λ (s : List Asked). all_told s c.as_slice.result.now) c.pairs.ensures.pairs ∙ found-of c.survey.new.caller.view c.args.self.now c.as_slice.result.now (c.as_slice.ensures.value ∙ c.in_ok-pending.ensures.pending))
