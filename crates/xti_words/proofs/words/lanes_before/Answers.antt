use Rattle.std.proofs.Common.{eqb, sym, ap, ◌∙◌, arith, w8}
use lib.Count.{count_trailing_zeros}
use lib.Lanes.{chunk}
use Rattle.std.proofs.lemmas.Simd.{length-chunk, bitmask_splat, leading_from_mask_l, trailing_mask_l}
use Rattle.xti_words.proofs.words.lanes_before.Goals as goal

pub returns-then-spaces-eq0 : goal.returns-then-spaces-eq0
returns-then-spaces-eq0 c =
    let v = chunk c.args.at 8 c.args.text.now in
    let long = length-chunk c.args.at 8 c.args.text.now c.requires in
    let hits = bitmask_splat w8 eqb v 8 32 long (omega arith) in
    sym (leading_from_mask_l (λ x. eqb x 32) v (sym hits ∙ c.if-spaces-eq0.true) ∙ long)

pub returns-else-spaces-eq0 : goal.returns-else-spaces-eq0
returns-else-spaces-eq0 c =
    let v = chunk c.args.at 8 c.args.text.now in
    let long = length-chunk c.args.at 8 c.args.text.now c.requires in
    let hits = bitmask_splat w8 eqb v 8 32 long (omega arith) in
    ap (count_trailing_zeros 64) hits ∙ trailing_mask_l (λ x. eqb x 32) 64 v (omega arith) (omega arith)
