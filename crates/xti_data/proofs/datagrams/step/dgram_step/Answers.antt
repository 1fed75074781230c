use Rattle.std.proofs.Common.{subst}
use Rattle.xti_model.specs.declared.call.Call.{Call}
use Rattle.xti_model.specs.Cells.{listed}
use Rattle.xti_model.specs.Touched.{touched}
use Rattle.xti_lent.specs.Lending.{cells}
use Rattle.xti_lent.specs.Fit.{AllLent}
use Rattle.xti_data.proofs.DatagramReached.{reaches}
use Rattle.xti_data.proofs.datagrams.step.dgram_step.Goals as goal

pub send-requires-clause-reach : goal.send-requires-clause-reach
unfolding listed
send-requires-clause-reach c =
    rw c.as_slice.ensures (reaches c.args.lent.now c.in-TSndUData.fd.0 c.in-TSndUData.addr
    (subst (λ (call : Call). AllLent c.args.lent.now (touched c.args.lent.now.providers (cells c.args.lent.now) call)) c.in-TSndUData.is c.requires.lent))

pub send-requires-in-TSndVUData-clause-reach : goal.send-requires-in-TSndVUData-clause-reach
unfolding listed
send-requires-in-TSndVUData-clause-reach c =
    rw c.as_slice-in-TSndVUData.ensures (reaches c.args.lent.now c.in-TSndVUData.fd.0 c.in-TSndVUData.addr
    (subst (λ (call : Call). AllLent c.args.lent.now (touched c.args.lent.now.providers (cells c.args.lent.now) call)) c.in-TSndVUData.is c.requires.lent))
