use Rattle.xti_lent.proofs.Written.{placed-by, rewritten_or_same}
use Rattle.xti_data.proofs.datagrams.writes.push_error.Goals as goal

pub push_error-requires-clause-place : goal.push_error-requires-clause-place
push_error-requires-clause-place c = placed-by c.args.lent.now c.providers.result.now c.args.fd.0 c.place_of.result c.endpoint.result.now c.requires.own c.place_of.ensures.place c.endpoint.ensures.now

pub returns : goal.returns
returns c = let w = rewritten_or_same c.args.lent.now c.providers.result.now c.args.fd.0 c.place_of.result c.endpoint.result.now c.push_error.result c.push_error.new.at _ c.providers.ensures.providers c.place_of.ensures.place c.endpoint.ensures.now c.push_error.ensures.cell c.push_error.ensures.place c.push_error.ensures.err in record { ok = w.0; kept = w.1; err = w.2 }
