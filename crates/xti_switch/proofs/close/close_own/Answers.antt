use Rattle.std.proofs.Common.{sym, ap, ◌≡◌, ◌∙◌}
use Rattle.xti_model.specs.declared.profile.Providers.{Providers}
use Rattle.xti_model.specs.World.{close_cell, generation_of, place_of}
use Rattle.xti_model.specs.Calls.Close as Close
use Rattle.xti_end.specs.Held.{cell}
use Rattle.xti_lent.proofs.Open.{own-place}
use Rattle.xti_lent.proofs.Written.{both-same, fd-both}
use Rattle.xti_switch.proofs.Openings.{forgotten}
use Rattle.xti_switch.proofs.close.close_own.Goals as goal

pub close_at-requires : goal.close_at-requires
close_at-requires c = own-place c.args.lent.now.numbers c.args.lent.now.held c.place_of-place.result c.endpoint.result.now c.requires.own (sym c.endpoint.ensures.now) ∙ c.place_of-place.ensures.place

pub returns-clause-cells : goal.returns-clause-cells
returns-clause-cells c =
    let l = c.args.lent.now in
    let h = c.endpoint.result.now in
    let q : c.place_of-place.result ≡ place_of l.providers c.args.fd.0 = c.place_of-place.ensures.place ∙ ap (λ (p : Providers). place_of p c.args.fd.0) c.providers.ensures.providers in
    let n : cell c.close_at.new.at ≡ close_cell (generation_of l.providers c.args.fd.0) (cell h) = c.close_at.ensures.cell ∙ ap (λ (p : Providers). close_cell (generation_of p c.args.fd.0) (cell h)) c.providers.ensures.providers in
    let s = forgotten l.providers c.args.fd.0 c.place_of-place.result c.remove.new.self.switch c.close_place.new.self.switch c.registry-registry.result.now.switch c.close_place.ensures.switch c.remove.ensures.switch q in
    fd-both l c.args.fd.0 c.place_of-place.result h c.close_at.new.at (close_cell (generation_of l.providers c.args.fd.0)) c.registry-registry.result.now c.close_place.new.self (Close.forget l.providers c.args.fd.0) q (sym c.endpoint.ensures.now) n (sym c.registry-registry.ensures.now) s

pub returns-clause-kept : goal.returns-clause-kept
returns-clause-kept c = both-same c.args.lent.now c.place_of-place.result c.endpoint.result.now c.close_at.new.at c.close_place.new.self (sym c.endpoint.ensures.now) c.close_at.ensures.place
