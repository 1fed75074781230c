use Rattle.std.proofs.Common.{◌∙◌, ℕ, List, ap, eqb, filter, map, not, sym}
use Rattle.slab.specs.Slab.{get}
use Rattle.xti_model.specs.World.{Binding}
use Rattle.xti_registry.specs.Links.{binding_at}
use Rattle.xti_registry.proofs.Removal.{fewer, filter_gone, none_left, not_left, of_known}
use Rattle.xti_registry.proofs.addresses.Addresses.remove.Goals as goal

pub take_out-requires-clause-known : goal.take_out-requires-clause-known
take_out-requires-clause-known c = of_known c.args.fd.0 (get c.loop-key.self.entries c.in-Some.key) c.in-Some.ensures.found.found

pub loop-key-smaller : goal.loop-key-smaller
loop-key-smaller c = rw c.take_out.ensures.order (fewer c.in-Some.key c.loop-key.self.order.items c.in-Some.ensures.found.listed)

pub loop-key-preserved : goal.loop-key-preserved
loop-key-preserved c =
    let a = c.loop-key.self in
    let test = λ (b : Binding). not (eqb b.fd c.args.fd.0) in
    record {
      chained = c.take_out.ensures.chained;
      left = ap (λ (keys : List ℕ). filter test (map (binding_at c.take_out.new.self) keys)) c.take_out.ensures.order ∙ (filter_gone test (binding_at c.take_out.new.self) (binding_at a) c.in-Some.key (not_left c.args.fd.0 (get a.entries c.in-Some.key) c.in-Some.ensures.found.found) c.take_out.ensures.bindings a.order.items ∙ c.loop-key.invariant.left);
      room = λ n h. c.take_out.ensures.room n (c.loop-key.invariant.room n h);
    }

pub returns-clause-removed : goal.returns-clause-removed
returns-clause-removed c = sym (none_left c.loop-key.self c.args.fd.0 c.loop-key.invariant.chained.known c.in_default.ensures.none) ∙ c.loop-key.invariant.left
