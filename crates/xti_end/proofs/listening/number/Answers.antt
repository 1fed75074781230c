use Rattle.xti_end.proofs.Requests.{number-is}
use Rattle.xti_end.proofs.listening.number.Goals as goal

pub returns : goal.returns
returns c = number-is c.args.ind.now c.seq.result c.requires c.seq.ensures
