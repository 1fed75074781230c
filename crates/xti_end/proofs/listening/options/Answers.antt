use Rattle.xti_end.proofs.Requests.{options-is}
use Rattle.xti_end.proofs.listening.options.Goals as goal

pub returns : goal.returns
returns c = options-is c.args.ind.now c.part.result.now c.requires c.part.ensures
