use Rattle.std.proofs.Common.{◌∙◌, length, arith, ap}
use Rattle.xti_core.proofs.Listing.{one-more, few-with}
use Rattle.xti_core.proofs.touching.with.Goals as goal

pub returns-in-Some-clause-cells : goal.returns-in-Some-clause-cells
returns-in-Some-clause-cells c = λ ns e. rw c.in-Some.is (c.insert.ensures ∙ one-more c.in-Some.n c.args.cells ns e)

pub returns-in-Some-clause-few : goal.returns-in-Some-clause-few
returns-in-Some-clause-few c = let l = ap length c.insert.ensures in let f = few-with c.in-Some.n c.args.cells in omega (arith, l, f)
