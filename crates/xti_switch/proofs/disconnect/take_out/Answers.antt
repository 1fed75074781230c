use Rattle.std.proofs.Common.{refl, sym}
use Rattle.xti_lent.proofs.Written.{placed-by, rewritten}
use Rattle.xti_switch.proofs.Hearings.{rejected-ready}
use Rattle.xti_switch.proofs.disconnect.take_out.Goals as goal

pub take_out_at-requires : goal.take_out_at-requires
take_out_at-requires c = placed-by c.args.lent.now c.providers.result.now c.args.fd.0 c.place_of.result c.endpoint.result.now c.requires.own c.place_of.ensures.place c.endpoint.ensures.now

pub returns : goal.returns
returns c = let w = rewritten c.args.lent.now c.providers.result.now c.args.fd.0 c.place_of.result c.endpoint.result.now c.take_out_at.new.at _ c.providers.ensures.providers c.place_of.ensures.place c.endpoint.ensures.now c.take_out_at.ensures.cell c.take_out_at.ensures.place in record { cells = w.0; kept = w.1; registry = refl; ready = λ n i r. rejected-ready c.args.lent.now c.place_of.result c.endpoint.result.now c.take_out_at.new.at n (sym c.endpoint.ensures.now) c.take_out_at.ensures.place c.take_out_at.ensures.room i r }
