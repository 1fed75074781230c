use Rattle.std.proofs.Common.{sym, ap, ◌∙◌, ◌≡◌}
use Rattle.std.specs.Prelude.{nat_lt}
use Rattle.xti_model.specs.World.{change_endpoint, generation_of}
use Rattle.xti_model.specs.Switch.{give_address}
use Rattle.xti_model.specs.Calls.Bind as Bind
use Rattle.xti_end.specs.Held.{Held, cell}
use Rattle.xti_lent.proofs.Open.{fd-lent, fd-open}
use Rattle.xti_lent.proofs.Written.{both-same, fd-both, parts-changed}
use Rattle.xti_switch.proofs.Binds.{given}
use Rattle.xti_switch.proofs.bind.give.Goals as goal

pub endpoint-requires : goal.endpoint-requires
endpoint-requires c = fd-lent c.args.lent.now c.args.fd.0 c.place_of-place.result c.requires.«open» c.place_of-place.ensures.place

pub bind_endpoint-requires : goal.bind_endpoint-requires
bind_endpoint-requires c = (fd-open c.args.lent.now c.args.fd.0 c.place_of-place.result c.endpoint.result.now c.requires.fit.places c.requires.«open» c.place_of-place.ensures.place (sym c.endpoint.ensures.now)).is_there

pub returns-clause-ok : goal.returns-clause-ok
returns-clause-ok c =
    let l = c.args.lent.now in
    let h = c.endpoint.result.now in
    let f = Bind.bound_to c.args.address c.args.qlen in
    let o = fd-open l c.args.fd.0 c.place_of-place.result h c.requires.fit.places c.requires.«open» c.place_of-place.ensures.place (sym c.endpoint.ensures.now) in
    let n : cell c.bind_endpoint.new.e ≡ change_endpoint (generation_of c.args.lent.now.providers c.args.fd.0) f (cell h) = ap (λ (x : Held). cell x) c.bind_endpoint.ensures ∙ parts-changed l c.args.fd.0 h f o in
    let s = given c.args.prov c.in-Ok.made c.args.address c.args.fd.0 (nat_lt 0 c.args.qlen) c.put.new.self.switch c.registry.result.now c.reserve.new.self c.registry-2.result.now c.put.ensures.switch c.in-Ok.ensures.copy c.registry-2.ensures.now c.in-Ok-reserve.ensures.switch in
    fd-both l c.args.fd.0 c.place_of-place.result h c.bind_endpoint.new.e (change_endpoint (generation_of c.args.lent.now.providers c.args.fd.0) f) c.registry.result.now c.put.new.self (give_address c.args.prov c.args.address c.args.fd.0 (nat_lt 0 c.args.qlen)) c.place_of-place.ensures.place (sym c.endpoint.ensures.now) n (sym c.registry.ensures.now) s

pub returns-clause-kept : goal.returns-clause-kept
returns-clause-kept c =
    both-same c.args.lent.now c.place_of-place.result c.endpoint.result.now c.bind_endpoint.new.e c.put.new.self (sym c.endpoint.ensures.now) (ap (λ (h : Held). h.place) c.bind_endpoint.ensures)
