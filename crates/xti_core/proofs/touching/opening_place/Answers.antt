use Rattle.std.proofs.Common.{◌∙◌, ◌≡◌, sym, subst}
use Rattle.xti_model.specs.declared.profile.Providers.{Providers}
use Rattle.xti_model.specs.Switch.{free_place}
use Rattle.xti_model.specs.World.{the_switch}
use Rattle.xti_lent.specs.Lending.{cells}
use Rattle.xti_lent.proofs.Lendings.{switch-is, switch-not-lent}
use Rattle.xti_core.proofs.OpeningPlace.{opens-none, opens-of, opens-no-provider}
use Rattle.xti_core.proofs.touching.opening_place.Goals as goal

pub returns-then-not-is_provider : goal.returns-then-not-is_provider
returns-then-not-is_provider c = opens-no-provider c.args.lent.now.providers (the_switch c.args.lent.now.providers (cells c.args.lent.now)) c.args.prov (sym c.is_provider.ensures ∙ c.if-not-is_provider.true)

pub returns-in_err-registry : goal.returns-in_err-registry
returns-in_err-registry c =
    let l = c.args.lent.now in
    rw c.from_residual.ensures (opens-none l.providers (the_switch l.providers (cells l)) c.args.prov (switch-not-lent l (sym c.in_err-registry.ensures)))

pub returns : goal.returns
returns c =
    let l = c.args.lent.now in
    let k = c.in_ok-registry.registry.now in
    let f = subst (λ (q : Providers). c.free_place.result ≡ free_place q k.switch) c.providers.ensures.providers c.free_place.ensures.place in
    f ∙ opens-of l.providers k.switch (the_switch l.providers (cells l)) c.args.prov (switch-is l k (sym c.in_ok-registry.ensures)) (sym c.is_provider.ensures ∙ c.if-not-is_provider.false)
