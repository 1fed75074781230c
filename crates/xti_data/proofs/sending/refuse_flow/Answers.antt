use Rattle.std.proofs.Common.{sym, subst}
use Rattle.xti_base.specs.declared.errno.Errno.TheVariants.{TFLOW}
use Rattle.xti_model.specs.declared.entry.Go.{Go}
use Rattle.xti_model.specs.declared.entry.Go.TheVariants as go
use Rattle.xti_model.specs.declared.entry.Outcome.TheVariants.{Done}
use Rattle.xti_model.specs.declared.entry.Reply.TheVariants.{Refused}
use Rattle.xti_lent.specs.Answers.{IsDoneAfter}
use Rattle.xti_data.specs.Sends.{flow_marks, told}
use Rattle.xti_data.proofs.Changes.{made-after}
use Rattle.xti_data.proofs.sending.refuse_flow.Goals as goal

pub returns-in-Begin-clause-step : goal.returns-in-Begin-clause-step
returns-in-Begin-clause-step c =
    let l = c.args.lent.now in
    let m = c.mark_flow.new.lent in
    subst (λ (g : Go). IsDoneAfter (flow_marks c.args.fd.0 c.args.flags g) l m c.args.fd.0 (told g (Refused TFLOW)) c.refused.result) (sym c.in-Begin.is)
    (made-after l m c.args.fd.0 (flow_marks c.args.fd.0 c.args.flags go.Begin) (Done (Refused TFLOW)) c.refused.result c.mark_flow.ensures.kept (rw c.is_expedited.ensures at c.mark_flow.ensures.cells) c.refused.ensures)
