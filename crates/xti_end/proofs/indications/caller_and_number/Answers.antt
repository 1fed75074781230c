use Rattle.std.proofs.Common.{◌<◌, length, arith}
use Rattle.std.proofs.lemmas.Bool.Decides.{nat_tests}
use Rattle.xti_end.proofs.Callers.{caller-at}
use Rattle.xti_end.proofs.indications.caller_and_number.Goals as goal

pub returns : goal.returns
returns c =
    let lt : c.args.place < length c.args.inds.now = grind (arith, nat_tests, c.in_ok-ind.ensures.lookup.0) in
    caller-at c.args.inds.now c.args.place c.in_ok-ind.ind.now c.seq.result c.requires lt c.in_ok-ind.ensures.lookup.1 c.seq.ensures
