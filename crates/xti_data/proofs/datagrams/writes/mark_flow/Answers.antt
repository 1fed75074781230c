use Rattle.xti_lent.proofs.Written.{placed-by, rewritten}
use Rattle.xti_data.proofs.datagrams.writes.mark_flow.Goals as goal

pub mark_flow-requires : goal.mark_flow-requires
mark_flow-requires c = placed-by c.args.lent.now c.providers.result.now c.args.fd.0 c.place_of.result c.endpoint.result.now c.requires.own c.place_of.ensures.place c.endpoint.ensures.now

pub returns : goal.returns
returns c = let w = rewritten c.args.lent.now c.providers.result.now c.args.fd.0 c.place_of.result c.endpoint.result.now c.mark_flow.new.at _ c.providers.ensures.providers c.place_of.ensures.place c.endpoint.ensures.now c.mark_flow.ensures.cell c.mark_flow.ensures.place in record { cells = w.0; kept = w.1 }
