use Rattle.xti_model.specs.World.{the_switch}
use Rattle.xti_laws.proofs.Lent.{switch-there}
use Rattle.xti_laws.proofs.BoundAddresses.{bound-open, listener-open}
use Rattle.xti_laws.proofs.CountingBindings.{few-bindings, few-in-either, chosen-free, chosen-short}
use Rattle.xti_laws.proofs.sound.sound_switch_has_addresses.Goals as goal

pub returns-clause-there : goal.returns-clause-there
returns-clause-there c = switch-there

pub returns-clause-few : goal.returns-clause-few
returns-clause-few c p w h = few-bindings p w h.registered.agreement

pub returns-clause-bound : goal.returns-clause-bound
returns-clause-bound c p w h prov address fd = bound-open p w prov address fd h

pub returns-clause-free : goal.returns-clause-free
returns-clause-free c p w prov h = chosen-free (the_switch p w) prov (few-in-either p w h.registered.agreement)

pub returns-clause-short : goal.returns-clause-short
returns-clause-short c p w prov h = chosen-short (the_switch p w) prov (few-in-either p w h.registered.agreement)

pub returns-clause-listens : goal.returns-clause-listens
returns-clause-listens c p w h prov address from fd = listener-open p w prov address from fd h
