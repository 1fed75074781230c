use Rattle.xti_end.proofs.Requests.{data-is}
use Rattle.xti_end.proofs.listening.data.Goals as goal

pub returns : goal.returns
returns c = data-is c.args.ind.now c.user.result.now c.requires c.user.ensures.value
