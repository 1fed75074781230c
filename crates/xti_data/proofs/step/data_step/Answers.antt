use Rattle.std.proofs.Common.{◌≡◌, subst}
use Rattle.xti_model.specs.declared.call.Call.{Call}
use Rattle.xti_model.specs.Cells.{listed}
use Rattle.xti_model.specs.Touched.{touched}
use Rattle.xti_lent.specs.Lending.{Lending, cells}
use Rattle.xti_lent.specs.Fit.{AllLent}
use Rattle.xti_data.proofs.Reached.{reaches}
use Rattle.xti_data.proofs.step.data_step.Goals as goal

-- the cells of the call are lent, whatever its fields are
lent-for : (l : Lending) (c d : Call) → c ≡ d → AllLent l (touched l.providers (cells l) c) → AllLent l (touched l.providers (cells l) d)
lent-for l c d e h = subst (λ (call : Call). AllLent l (touched l.providers (cells l) call)) e h

pub sndrel-requires-clause-reach : goal.sndrel-requires-clause-reach
unfolding listed
sndrel-requires-clause-reach c = reaches c.args.lent.now c.in-TSndRel.fd.0 (lent-for c.args.lent.now _ _ c.in-TSndRel.is c.requires.lent)

pub sndrel-requires-in-TSndRelData-clause-reach : goal.sndrel-requires-in-TSndRelData-clause-reach
unfolding listed
sndrel-requires-in-TSndRelData-clause-reach c = reaches c.args.lent.now c.in-TSndRelData.fd.0 (lent-for c.args.lent.now _ _ c.in-TSndRelData.is c.requires.lent)

pub send-requires-clause-reach : goal.send-requires-clause-reach
unfolding listed
send-requires-clause-reach c = reaches c.args.lent.now c.in-TSnd.fd.0 (lent-for c.args.lent.now _ _ c.in-TSnd.is c.requires.lent)

pub send-requires-in-TSndV-clause-reach : goal.send-requires-in-TSndV-clause-reach
unfolding listed
send-requires-in-TSndV-clause-reach c = reaches c.args.lent.now c.in-TSndV.fd.0 (lent-for c.args.lent.now _ _ c.in-TSndV.is c.requires.lent)
