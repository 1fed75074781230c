use Rattle.std.proofs.Common.{◌∙◌, List, map, ap}
use Rattle.std.proofs.lemmas.Result.{IfOk-weaker}
use Rattle.xti_poll.specs.declared.asked.Asked.{Asked}
use Rattle.xti_poll.proofs.Finds.{pending-of}
use Rattle.xti_poll.proofs.set.PollSet.survey.Goals as goal

pub returns-clause-pending : goal.returns-clause-pending
returns-clause-pending g c =
    let fds = c.as_slice.ensures.value ∙ (c.in_ok-fds.ensures ∙ ap (λ (s : List Asked). map (λ (a : Asked). a.fd) s) c.pairs.ensures.pairs) in
    IfOk-weaker c.survey-pending.result _ _ (λ x e. e ∙ pending-of c.survey-pending.new.self.view c.args.self.now c.as_slice.result.now fds) c.survey-pending.ensures.found
