use Rattle.std.proofs.Common.{sym, ap, ◌∙◌, ◌≡◌}
use Rattle.xti_model.specs.World.{change_endpoint, generation_of}
use Rattle.xti_model.specs.Switch.{give_up_address}
use Rattle.xti_model.specs.Calls.Bind as Bind
use Rattle.xti_end.specs.Held.{Held, cell}
use Rattle.xti_lent.specs.Lending.{with_held, with_registry}
use Rattle.xti_lent.proofs.Open.{fd-lent, fd-open}
use Rattle.xti_lent.proofs.Written.{both-same, fd-both, parts-changed, own-kept}
use Rattle.xti_switch.proofs.Openings.{done-step}
use Rattle.xti_switch.proofs.unbind.unbind_open.Goals as goal

pub endpoint-requires : goal.endpoint-requires
endpoint-requires c = fd-lent c.args.lent.now c.args.fd.0 c.place_of-place.result c.requires.«open» c.place_of-place.ensures.place

pub unbind_endpoint-requires : goal.unbind_endpoint-requires
unbind_endpoint-requires c = (fd-open c.args.lent.now c.args.fd.0 c.place_of-place.result c.endpoint.result.now c.requires.fit.places c.requires.«open» c.place_of-place.ensures.place (sym c.endpoint.ensures.now)).is_there

pub done-requires : goal.done-requires
done-requires c =
    let s = both-same c.args.lent.now c.place_of-place.result c.endpoint.result.now c.unbind_endpoint.new.e c.remove.new.self (sym c.endpoint.ensures.now) (ap (λ (h : Held). h.place) c.unbind_endpoint.ensures) in
    own-kept c.args.lent.now (with_registry (with_held c.args.lent.now c.place_of-place.result c.unbind_endpoint.new.e) c.remove.new.self) s c.requires.fit.places

pub returns-clause-step : goal.returns-clause-step
returns-clause-step c =
    let l = c.args.lent.now in
    let h = c.endpoint.result.now in
    let o = fd-open l c.args.fd.0 c.place_of-place.result h c.requires.fit.places c.requires.«open» c.place_of-place.ensures.place (sym c.endpoint.ensures.now) in
    let n : cell c.unbind_endpoint.new.e ≡ change_endpoint (generation_of c.args.lent.now.providers c.args.fd.0) Bind.unbound (cell h) = ap (λ (x : Held). cell x) c.unbind_endpoint.ensures ∙ parts-changed l c.args.fd.0 h Bind.unbound o in
    let v = fd-both l c.args.fd.0 c.place_of-place.result h c.unbind_endpoint.new.e (change_endpoint (generation_of c.args.lent.now.providers c.args.fd.0) Bind.unbound) c.registry.result.now c.remove.new.self (give_up_address c.args.fd.0) c.place_of-place.ensures.place (sym c.endpoint.ensures.now) n (sym c.registry.ensures.now) c.remove.ensures.switch in
    done-step l.providers c.args.fd.0 _ _ _ _ c.done.ensures v

pub returns-clause-kept : goal.returns-clause-kept
returns-clause-kept c =
    both-same c.args.lent.now c.place_of-place.result c.endpoint.result.now c.unbind_endpoint.new.e c.remove.new.self (sym c.endpoint.ensures.now) (ap (λ (h : Held). h.place) c.unbind_endpoint.ensures)
