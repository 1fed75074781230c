use Rattle.std.proofs.Common.{ap, drop, refl, ◌∙◌}
use Rattle.std.specs.Prelude.{is_some}
use Rattle.xti_model.specs.declared.call.Call.TheVariants as call
use Rattle.xti_model.specs.Touched.{others}
use Rattle.xti_model.specs.World.{endpoint, place_of, switch_number}
use Rattle.xti_lent.specs.Lending.{cells}
use Rattle.xti_lent.proofs.Open.{open-lent}
use Rattle.xti_switch.proofs.Closing.{callers-reached, close-reaches, closed, known-still, open-there}
use Rattle.xti_switch.proofs.Reaching.{held-kept}
use Rattle.xti_switch.proofs.Touches.{second-among, switch-lent}
use Rattle.xti_switch.proofs.close.close.Goals as goal

pub tell_others-requires-clause-links : goal.tell_others-requires-clause-links
tell_others-requires-clause-links c = close-reaches c.args.lent.now c.args.fd c.requires.lent

pub tell_others-requires-clause-callers : goal.tell_others-requires-clause-callers
tell_others-requires-clause-callers c = callers-reached c.args.lent.now c.args.fd c.requires.lent

pub close_own-requires-clause-there : goal.close_own-requires-clause-there
close_own-requires-clause-there c =
    let o = open-there c.open_endpoint.result (endpoint c.args.lent.now.providers (cells c.args.lent.now) c.args.fd.0) c.is_none.result c.open_endpoint.ensures.endpoint c.is_none.ensures c.if-is_none.false in
    held-kept c.args.lent.now c.tell_others.new.lent c.args.fd.0 c.tell_others.ensures.kept (open-lent c.args.lent.now c.args.fd.0 o)

pub close_own-requires-clause-switch : goal.close_own-requires-clause-switch
close_own-requires-clause-switch c =
    let t = call.TClose c.args.fd in
    ap is_some c.tell_others.ensures.registry
    ∙ switch-lent c.args.lent.now t t refl c.requires.lent (second-among (place_of c.args.lent.now.providers c.args.fd.0) (switch_number c.args.lent.now.providers) (drop 1 (others c.args.lent.now.providers (cells c.args.lent.now) t)))

pub close_own-requires-clause-known : goal.close_own-requires-clause-known
close_own-requires-clause-known c =
    let o = open-there c.open_endpoint.result (endpoint c.args.lent.now.providers (cells c.args.lent.now) c.args.fd.0) c.is_none.result c.open_endpoint.ensures.endpoint c.is_none.ensures c.if-is_none.false in
    known-still c.args.lent.now c.tell_others.new.lent c.args.fd.0 c.requires.fit o c.tell_others.ensures.kept c.tell_others.ensures.registry

pub returns-clause-step : goal.returns-clause-step
returns-clause-step c =
    let o = open-there c.open_endpoint.result (endpoint c.args.lent.now.providers (cells c.args.lent.now) c.args.fd.0) c.is_none.result c.open_endpoint.ensures.endpoint c.is_none.ensures c.if-is_none.false in
    closed c.args.lent.now c.tell_others.new.lent c.close_own.new.lent c.args.fd.0 c.done.result o c.in_ok-tell_others.ensures.ok c.tell_others.ensures.kept c.close_own.ensures.cells c.close_own.ensures.kept c.done.ensures
