use Rattle.std.proofs.Common.{◌∙◌, sym}
use Rattle.xti_model.specs.Switch.{is_listening}
use Rattle.xti_registry.specs.Links.{bindings_of}
use Rattle.xti_registry.proofs.Least.{least_beside}
use Rattle.xti_registry.proofs.registry.Registry.listener.Goals as goal

pub returns-in_err-least : goal.returns-in_err-least
returns-in_err-least c = rw c.from_residual.ensures (rw (← c.self.view_is) (sym c.in_err-least.was ∙ (c.least_at.ensures ∙ least_beside (is_listening c.args.prov c.args.addr.now) c.args.except.0 (bindings_of c.self.inside.addresses))))

pub returns : goal.returns
returns c = rw (← c.self.view_is) (sym c.in_ok-least.was ∙ (c.least_at.ensures ∙ least_beside (is_listening c.args.prov c.args.addr.now) c.args.except.0 (bindings_of c.self.inside.addresses)))
