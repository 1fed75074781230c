use Rattle.xti_end.proofs.Disconnects.{data-is}
use Rattle.xti_end.proofs.receiving_disconnects.data.Goals as goal

pub returns : goal.returns
returns c = data-is c.args.frame.now c.user.result.now c.requires c.user.ensures.value
