use Rattle.std.proofs.Common.{◌<◌, length, rules}
use Rattle.xti_copy.proofs.InStep.{connected-step}
use Rattle.xti_copy.proofs.Pieces.{next-pieces, piece-comes, piece-sent, all-sent}
use Rattle.xti_copy.proofs.copying.exchange_all.Goals as goal

pub exchange-requires-clause-step : goal.exchange-requires-clause-step
exchange-requires-clause-step g c κs within =
    connected-step c.loop-rest.invariant.1.sent c.loop-rest.io c.loop-rest.invariant.1.at

pub exchange-requires-clause-comes : goal.exchange-requires-clause-comes
exchange-requires-clause-comes g c κs within =
    let some : 0 < length c.loop-rest.rest.now = search rules in
    let next = next-pieces c.loop-rest.rest.now c.split_at.result.0.now c.split_at.result.1.now c.min.result some c.min.ensures c.split_at.ensures.front c.split_at.ensures.back in
    piece-comes c.split_at.result.1.now c.loop-rest.invariant.1 next

pub loop-rest-preserved : goal.loop-rest-preserved
loop-rest-preserved g c =
    let some : 0 < length c.loop-rest.rest.now = search rules in
    let next = next-pieces c.loop-rest.rest.now c.split_at.result.0.now c.split_at.result.1.now c.min.result some c.min.ensures c.split_at.ensures.front c.split_at.ensures.back in
    (c.in_ok-exchange.ensures.ends, piece-sent c.split_at.result.1.now c.loop-rest.invariant.1 next c.exchange.new.io c.in_ok-exchange.ensures.at)

pub returns-clause-at : goal.returns-clause-at
returns-clause-at g c =
    all-sent c.args.input.now c.loop-rest.rest.now c.loop-rest.io (search rules) c.loop-rest.invariant.1
