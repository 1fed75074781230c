use Rattle.std.specs.Prelude.{◌∷◌, ◌++◌, [], Option, Some, None, IfSome}
use Rattle.xti_base.specs.declared.reasons.TheConstants.{ABORTED}
use Rattle.xti_model.specs.Calls.Disconnect.{idle}
use Rattle.xti_model.specs.Endpoint.{Endpoint}
use Rattle.xti_model.specs.Links.{break}
use Rattle.xti_model.specs.World.{at_endpoint, endpoint}
use Rattle.xti_lent.specs.Answers.{Changed}
use Rattle.xti_lent.specs.Lending.{cells}
use Rattle.xti_lent.proofs.Sequences.{changed-then}
use Rattle.xti_lent.proofs.Open.{open-lent}
use Rattle.xti_switch.proofs.Reaching.{held-kept}
use Rattle.xti_switch.proofs.disconnect.end_own.Goals as goal

pub make_idle-requires-clause-there : goal.make_idle-requires-clause-there
make_idle-requires-clause-there c = held-kept c.args.lent.now c.break_off.new.lent c.args.fd.0 c.break_off.ensures.kept (open-lent c.args.lent.now c.args.fd.0 c.requires.«open»)

pub returns-clause-ok : goal.returns-clause-ok
returns-clause-ok c = ends (endpoint c.args.lent.now.providers (cells c.args.lent.now) c.args.fd.0) c.in_ok-break_off.ensures.ok
  where
    ends : (o : Option Endpoint) → IfSome o (λ e. Changed (break c.args.fd.0 e ABORTED c.args.udata.now) c.args.lent.now c.break_off.new.lent)
        → IfSome o (λ e. Changed (break c.args.fd.0 e ABORTED c.args.udata.now ++ at_endpoint c.args.fd.0 idle ∷ []) c.args.lent.now c.make_idle.new.lent)
    ends None h = tt
    ends (Some e) h = changed-then c.args.lent.now c.break_off.new.lent c.make_idle.new.lent (break c.args.fd.0 e ABORTED c.args.udata.now) (at_endpoint c.args.fd.0 idle ∷ []) c.break_off.ensures.kept h c.make_idle.ensures.cells
