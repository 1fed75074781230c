use Rattle.std.proofs.Common.{true, sym, ap, subst, ◌≡◌, ◌<◌}
use Rattle.xti_model.specs.Endpoint.{opened}
use Rattle.xti_model.specs.Provider.{profile}
use Rattle.xti_model.specs.declared.profile.Providers.{Providers}
use Rattle.xti_model.specs.World.{open_cell, the_switch, last_generation, descriptor}
use Rattle.xti_model.specs.Switch.{mark_open, is_free, place_at}
use Rattle.xti_model.specs.Calls.Open as Open
use Rattle.xti_end.specs.Held.{Held, cell}
use Rattle.xti_lent.specs.Lending.{cells, with_held, with_registry}
use Rattle.xti_lent.proofs.Lendings.{switch-is}
use Rattle.xti_lent.proofs.Agreeing.{at-place, places-known}
use Rattle.xti_lent.proofs.Written.{both-written, both-same, own-kept}
use Rattle.xti_switch.proofs.Openings.{free-closed, free-counted, opened-cell, opened-step}
use Rattle.xti_switch.proofs.open.open_at.Goals as goal

pub open_place-fd-requires-clause-place : goal.open_place-fd-requires-clause-place
open_place-fd-requires-clause-place c = subst (λ n. c.args.place < n) (sym (places-known c.args.lent.now c.registry.result.now c.requires.fit (sym c.registry.ensures.now))) c.requires.place

pub open_place-fd-requires-clause-free : goal.open_place-fd-requires-clause-free
open_place-fd-requires-clause-free c =
    subst (λ (q : Providers). is_free q (place_at c.registry.result.now.switch c.args.place) ≡ true) (sym c.providers.ensures.providers) (rw (switch-is c.args.lent.now c.registry.result.now (sym c.registry.ensures.now)) at c.requires.free)

pub open-requires-clause-closed : goal.open-requires-clause-closed
open-requires-clause-closed c =
    let a = at-place c.args.lent.now c.args.place c.endpoint.result.now c.registry.result.now c.requires.fit (sym c.registry.ensures.now) (sym c.endpoint.ensures.now) in
    free-closed c.args.lent.now.providers c.registry.result.now c.args.place c.endpoint.result.now a (rw (switch-is c.args.lent.now c.registry.result.now (sym c.registry.ensures.now)) at c.requires.free)

pub open-requires-clause-counted : goal.open-requires-clause-counted
open-requires-clause-counted c =
    let a = at-place c.args.lent.now c.args.place c.endpoint.result.now c.registry.result.now c.requires.fit (sym c.registry.ensures.now) (sym c.endpoint.ensures.now) in
    subst (λ (q : Providers). c.endpoint.result.now.generation < last_generation q) (sym c.providers.ensures.providers) (free-counted c.args.lent.now.providers c.registry.result.now c.args.place c.endpoint.result.now a (rw (switch-is c.args.lent.now c.registry.result.now (sym c.registry.ensures.now)) at c.requires.free))

pub done-requires : goal.done-requires
done-requires c =
    let s = both-same c.args.lent.now c.args.place c.endpoint.result.now c.open.new.self c.open_place-fd.new.self (sym c.endpoint.ensures.now) (ap (λ (h : Held). h.place) c.open.ensures) in
    own-kept c.args.lent.now (with_registry (with_held c.args.lent.now c.args.place c.open.new.self) c.open_place-fd.new.self) s c.requires.fit.places

pub returns-clause-step : goal.returns-clause-step
returns-clause-step c =
    let l = c.args.lent.now in
    let k = c.registry.result.now in
    let h = c.endpoint.result.now in
    let e = opened (profile l.providers c.args.prov) c.args.prov c.args.nonblock in
    let w = switch-is l k (sym c.registry.ensures.now) in
    let a = at-place l c.args.place h k c.requires.fit (sym c.registry.ensures.now) (sym c.endpoint.ensures.now) in
    let b = free-closed l.providers k c.args.place h a (rw w at c.requires.free) in
    let n : cell c.open.new.self ≡ open_cell e (cell h) = opened-cell h c.open.new.self e b (rw c.providers.ensures.providers at c.open.ensures) in
    let v = both-written l c.args.place h c.open.new.self (open_cell e) k c.open_place-fd.new.self (mark_open c.args.place) c.requires.place (sym c.endpoint.ensures.now) n (sym c.registry.ensures.now) c.open_place-fd.ensures.switch in
    let f = subst (λ (q : Providers). c.open_place-fd.result.0 ≡ descriptor q (place_at k.switch c.args.place).generation c.args.place) c.providers.ensures.providers c.open_place-fd.ensures.descriptor in
    let d : c.open_place-fd.result.0 ≡ Open.fd_at l.providers (the_switch l.providers (cells l)) c.args.place = rw w f in
    opened-step l.providers c.open_place-fd.result.0 _ _ _ _ c.done.ensures d v

pub returns-clause-kept : goal.returns-clause-kept
returns-clause-kept c =
    both-same c.args.lent.now c.args.place c.endpoint.result.now c.open.new.self c.open_place-fd.new.self (sym c.endpoint.ensures.now) (ap (λ (h : Held). h.place) c.open.ensures)
