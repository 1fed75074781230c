use Rattle.std.proofs.Common.{sym, false, ◌∷◌, []}
use Rattle.xti_model.specs.Switch.{give_address}
use Rattle.xti_model.specs.World.{at_endpoint, at_switch}
use Rattle.xti_lent.specs.Lending.{with_registry}
use Rattle.xti_lent.proofs.Lendings.{switch-written}
use Rattle.xti_lent.proofs.Opened.{then_changed}
use Rattle.xti_switch.specs.Accepts.{with_address}
use Rattle.xti_switch.proofs.links.give_address.Goals as goal

pub returns-clause-changed : goal.returns-clause-changed
returns-clause-changed c =
    then_changed c.args.lent.now c.bind.new.lent (with_registry c.bind.new.lent c.put.new.self) (at_endpoint c.args.resfd.0 (with_address c.args.given.address)) (at_switch (give_address c.args.given.prov c.args.given.known c.args.resfd.0 false) ∷ [])
    c.bind.ensures.changed c.bind.ensures.kept.providers
    (switch-written c.bind.new.lent c.registry.result.now c.put.new.self (give_address c.args.given.prov c.args.given.known c.args.resfd.0 false) (sym c.registry.ensures.now) c.put.ensures.switch)
