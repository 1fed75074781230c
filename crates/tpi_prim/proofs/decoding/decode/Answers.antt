use Rattle.tpi_prim.proofs.Decodes.{value_means, value_back, none_back}
use Rattle.tpi_prim.proofs.decoding.decode.Goals as goal

pub returns-in-Short-clause-back : goal.returns-in-Short-clause-back
returns-in-Short-clause-back c = none_back c.args.input.now c.in-Short.ensures.1

pub returns-in-Bad-clause-back : goal.returns-in-Bad-clause-back
returns-in-Bad-clause-back c = none_back c.args.input.now c.in-Bad.ensures.3

pub returns-in-Ok-clause-means : goal.returns-in-Ok-clause-means
returns-in-Ok-clause-means c = value_means c.args.input.now c.in-Whole.used c.in-Ok.prim c.in-Whole.ensures.0 c.in-Whole.ensures.1 c.in-Ok.ensures

pub returns-in-Ok-clause-back : goal.returns-in-Ok-clause-back
returns-in-Ok-clause-back c = value_back c.args.input.now c.in-Whole.used c.in-Ok.prim c.in-Whole.ensures.0 c.in-Whole.ensures.1 c.in-Ok.ensures
