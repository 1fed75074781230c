use Rattle.std.proofs.Common.{◌∙◌, sym, ap}
use Rattle.std.proofs.lemmas.List.Quantifiers.{position-Some}
use Rattle.xti_registry.specs.Links.{is_of}
use Rattle.xti_registry.proofs.Removal.{found_none}
use Rattle.xti_registry.proofs.addresses.Addresses.key_of.Goals as goal

pub returns-in_err-place-clause-none : goal.returns-in_err-place-clause-none
returns-in_err-place-clause-none c = rw c.from_residual.ensures (found_none (is_of c.args.self.now c.args.fd.0) c.args.self.now.order.items (sym c.in_err-place.ensures.place))

pub returns-clause-found : goal.returns-clause-found
returns-clause-found c =
    let keys = c.args.self.now.order.items in
    let at = position-Some (is_of c.args.self.now c.args.fd.0) keys c.in_ok-place.place c.index.result.now (sym c.in_ok-place.ensures.place) in
    record {
      listed = (c.in_ok-place.place, at.0, sym c.index.ensures);
      found = ap (is_of c.args.self.now c.args.fd.0) c.index.ensures ∙ at.1;
    }
