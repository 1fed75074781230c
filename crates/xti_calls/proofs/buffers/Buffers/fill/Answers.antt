use Rattle.std.proofs.Common.{◌≡◌, ◌∙◌, sym, arith, rules, ap, length, map, List, ℕ}
use Rattle.std.specs.Vec.Iter.{into_iter_items}
use Rattle.std.specs.List.{concat}
use Rattle.xti_calls.specs.declared.buffers.Buffer.{Buffer}
use Rattle.xti_calls.specs.Parts.{split_by}
use Rattle.xti_calls.proofs.Parts.{all-cut, joined, less-room}
use Rattle.xti_calls.proofs.buffers.Buffers.fill.Goals as goal

pub loop-size-init : goal.loop-size-init
loop-size-init c =
    let g = c.into_iter-size-iterator.ensures.into_iter_gives in
    let i = c.self.invariant in
    let most = ap (λ s. s.most) c.self.view_is in
    let k = c.self.inside.buffers.ok in
    let n = ap length g.0 in
    let none = ap length i.1 in
    record {
      can = tt;
      finite = tt;
      count = search rules;
      room = rw g.0 (less-room c.self.inside.most (length c.as_slice-rest.result.now) c.self.inside.buffers.items (omega (arith, c.requires, most, ap length c.as_slice-rest.ensures)) i.0);
      cut = search rules;
      spare = omega (arith, n, none, i.2, c.self.inside.parts.ok);
    }

-- all bytes were cut

cut-all : (c : goal.After-from_vec) → c.from_vec.result ≡ split_by c.args.self.sizes c.args.bytes.now
cut-all c =
    let i = c.loop-size.invariant in
    let sizes = ap (λ (bs : List Buffer). map (λ b. b.size) bs) c.into_iter-size-iterator.ensures.into_iter_gives.0 ∙ ap (λ s. s.sizes) c.self.view_is in
    let whole = ap (λ (ns : List ℕ). split_by ns c.as_slice-rest.result.now) sizes ∙ ap (split_by c.args.self.sizes) c.as_slice-rest.ensures in
    c.from_vec.ensures ∙ all-cut c.loop-size.parts.items (split_by c.args.self.sizes c.args.bytes.now) (into_iter_items c.loop-size.size-iterator) c.loop-size.rest.now (sym i.count ∙ c.in-None.ensures.steps.0) (i.cut ∙ whole)

pub returns-clause-parts : goal.returns-clause-parts
returns-clause-parts c = cut-all c

pub returns-clause-joined : goal.returns-clause-joined
returns-clause-joined c = ap concat (cut-all c) ∙ joined c.args.self.sizes c.args.bytes.now (omega (arith, c.requires))
