use Rattle.std.proofs.Common.{sym, ap, ◌∙◌}
use Rattle.std.specs.Prelude.{is_some}
use Rattle.xti_model.specs.Switch.{is_listening}
use Rattle.xti_lent.proofs.Lookups.{some-map}
use Rattle.xti_switch.proofs.Binds.{least-any}
use Rattle.xti_switch.proofs.bind.has_listener.Goals as goal

pub returns : goal.returns
returns c =
    c.is_some.ensures ∙ (sym (some-map _ c.bound.result) ∙ (ap (λ o. is_some o) c.bound.ensures ∙ least-any (is_listening c.args.prov c.args.addr.now) c.args.registry.now.switch.bindings))
