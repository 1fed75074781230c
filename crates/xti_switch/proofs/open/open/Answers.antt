use Rattle.std.proofs.Common.{sym, subst, ◌∙◌, ◌≡◌, ◌<◌, true, Some, None}
use Rattle.xti_model.specs.declared.profile.Providers.{Providers}
use Rattle.xti_model.specs.Provider.{is_provider}
use Rattle.xti_model.specs.World.{the_switch, places}
use Rattle.xti_model.specs.Switch.{free_place}
use Rattle.xti_lent.specs.Lending.{cells}
use Rattle.xti_lent.proofs.Lendings.{switch-is}
use Rattle.xti_lent.proofs.Agreeing.{places-known}
use Rattle.xti_switch.proofs.Openings.{free-there, open-none, open-free}
use Rattle.xti_switch.proofs.Touches.{opening-lent}
use Rattle.xti_switch.proofs.open.open.Goals as goal

pub open_at-requires-clause-place : goal.open_at-requires-clause-place
open_at-requires-clause-place c = subst (λ n. c.in-Some.place < n) (places-known c.args.lent.now c.registry_ref.result.now c.requires.fit (sym c.registry_ref.ensures)) c.in-Some.ensures.bound

pub open_at-requires-clause-free : goal.open_at-requires-clause-free
open_at-requires-clause-free c =
    let f = subst (λ (q : Providers). Some c.in-Some.place ≡ free_place q c.registry_ref.result.now.switch) c.providers.ensures.providers c.in-Some.ensures.place in
    rw (switch-is c.args.lent.now c.registry_ref.result.now (sym c.registry_ref.ensures)) (free-there c.args.lent.now.providers c.registry_ref.result.now.switch c.in-Some.place f)

pub open_at-requires-clause-lent : goal.open_at-requires-clause-lent
open_at-requires-clause-lent c =
    let e : is_provider c.args.prov ≡ true = cc in
    let f = subst (λ (q : Providers). Some c.in-Some.place ≡ free_place q c.registry_ref.result.now.switch) c.providers.ensures.providers c.in-Some.ensures.place in
    let b : c.in-Some.place < places c.args.lent.now.providers = subst (λ n. c.in-Some.place < n) (places-known c.args.lent.now c.registry_ref.result.now c.requires.fit (sym c.registry_ref.ensures)) c.in-Some.ensures.bound in
    opening-lent c.args.lent.now c.args.prov c.args.nonblock c.registry_ref.result.now c.in-Some.place c.requires.lent (sym c.registry_ref.ensures) e f b

pub returns-in-None-clause-step : goal.returns-in-None-clause-step
returns-in-None-clause-step c =
    let l = c.args.lent.now in
    let e : is_provider c.args.prov ≡ true = cc in
    let n = subst (λ (q : Providers). None ≡ free_place q c.registry_ref.result.now.switch) c.providers.ensures.providers c.in-None.ensures.place in
    let f : free_place l.providers (the_switch l.providers (cells l)) ≡ None = rw (switch-is l c.registry_ref.result.now (sym c.registry_ref.ensures)) (sym n) in
    c.refused-in-None.ensures ∙ sym (open-none l.providers (cells l) c.args.prov c.args.nonblock e f)

pub returns-in-Some-clause-step : goal.returns-in-Some-clause-step
returns-in-Some-clause-step c =
    let l = c.args.lent.now in
    let e : is_provider c.args.prov ≡ true = cc in
    let s = subst (λ (q : Providers). Some c.in-Some.place ≡ free_place q c.registry_ref.result.now.switch) c.providers.ensures.providers c.in-Some.ensures.place in
    let f : free_place l.providers (the_switch l.providers (cells l)) ≡ Some c.in-Some.place = rw (switch-is l c.registry_ref.result.now (sym c.registry_ref.ensures)) (sym s) in
    c.open_at.ensures.step ∙ sym (open-free l.providers (cells l) c.args.prov c.args.nonblock c.in-Some.place e f)
