use Rattle.xti_lent.proofs.Written.{placed-by, rewritten}
use Rattle.xti_switch.proofs.disconnect.make_idle.Goals as goal

pub make_idle_at-requires : goal.make_idle_at-requires
make_idle_at-requires c = placed-by c.args.lent.now c.providers.result.now c.args.fd.0 c.place_of.result c.endpoint.result.now c.requires.own c.place_of.ensures.place c.endpoint.ensures.now

pub returns : goal.returns
returns c = let w = rewritten c.args.lent.now c.providers.result.now c.args.fd.0 c.place_of.result c.endpoint.result.now c.make_idle_at.new.at _ c.providers.ensures.providers c.place_of.ensures.place c.endpoint.ensures.now c.make_idle_at.ensures.cell c.make_idle_at.ensures.place in record { cells = w.0; kept = w.1 }
