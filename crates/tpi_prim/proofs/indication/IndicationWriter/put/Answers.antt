use Rattle.std.proofs.Common.{◌≡◌, ◌≤◌, ◌+◌, ◌++◌, List, ℕ, length, drop, arith, ap, ◌∙◌}
use Rattle.tpi_prim.proofs.FilledIn.{are_bytes}
use Rattle.tpi_prim.proofs.Writing.{one-more, piece-after, whole}
use Rattle.tpi_prim.proofs.indication.IndicationWriter.put.Goals as goal

pub unwrap-requires : goal.unwrap-requires
unwrap-requires c =
    let i = c.self.inside in
    let fits : length (drop 16 i.bytes.items) + length c.args.piece.now ≤ i.len = rw (← c.self.view_is) at c.requires in
    let all = whole i.expedited i.more i.len i.bytes.items c.self.invariant.begins in
    c.extend_from_slice.ensures.succeeds (omega (arith, all, fits, c.self.invariant.room))

pub invariant_of-self : goal.invariant_of-self
invariant_of-self c =
    let i = c.self.inside in
    let bytes = are_bytes c.args.piece.now (λ i. omega (arith, c.type_inv.piece i)) in
    let more : c.extend_from_slice.new.self.items ≡ i.bytes.items ++ c.args.piece.now = rw c.unwrap.ensures at c.extend_from_slice.ensures.ok in
    rw more (one-more i.expedited i.more i.len i.bytes.items c.args.piece.now i.bytes.capacity c.extend_from_slice.new.self.capacity c.self.invariant bytes c.extend_from_slice.ensures.capacity)

pub returns : goal.returns
returns c =
    let i = c.self.inside in
    let more : c.extend_from_slice.new.self.items ≡ i.bytes.items ++ c.args.piece.now = rw c.unwrap.ensures at c.extend_from_slice.ensures.ok in
    let after = ap (drop 16) more ∙ piece-after i.expedited i.more i.len i.bytes.items c.args.piece.now c.self.invariant.begins in
    rw (← c.self.view_is) (ap (λ (bytes : List ℕ). record { expedited = i.expedited; more = i.more; length = i.len; bytes = bytes }) after)
