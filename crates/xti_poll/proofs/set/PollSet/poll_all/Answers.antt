use Rattle.std.proofs.Common.{◌++◌, ◌∙◌, List, ap}
use Rattle.xti_poll.specs.declared.found.Found.{Found}
use Rattle.xti_poll.specs.declared.asked.Asked.{Asked}
use Rattle.xti_poll.specs.Sums.{all_told}
use Rattle.xti_poll.proofs.Finds.{found-of}
use Rattle.xti_poll.proofs.set.PollSet.poll_all.Goals as goal

pub returns-clause-found : goal.returns-clause-found
returns-clause-found g c =
    c.add_told.ensures
    ∙ (ap (λ (xs : List Found). xs ++ all_told c.pairs-2.result.now c.as_slice.result.now) c.in_ok-finds.ensures.items
    ∙ (ap (λ (s : List Asked). all_told s c.as_slice.result.now) c.pairs-2.ensures.pairs ∙ found-of c.survey.new.caller.view c.args.self.now c.as_slice.result.now (c.as_slice.ensures.value ∙ c.in_ok-pending.ensures.pending)))
