use Rattle.xti_lent.proofs.Written.{placed-by, rewritten_or_same}
use Rattle.xti_data.proofs.writes.push_data.Goals as goal

pub push_data-requires-clause-place : goal.push_data-requires-clause-place
push_data-requires-clause-place c = placed-by c.args.lent.now c.providers.result.now c.args.fd.0 c.place_of.result c.endpoint.result.now c.requires.own c.place_of.ensures.place c.endpoint.ensures.now

pub returns : goal.returns
returns c = let w = rewritten_or_same c.args.lent.now c.providers.result.now c.args.fd.0 c.place_of.result c.endpoint.result.now c.push_data.result c.push_data.new.at _ c.providers.ensures.providers c.place_of.ensures.place c.endpoint.ensures.now c.push_data.ensures.cell c.push_data.ensures.place c.push_data.ensures.err in record { ok = w.0; kept = w.1; err = w.2 }
