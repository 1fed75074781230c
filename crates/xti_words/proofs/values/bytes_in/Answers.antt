use Rattle.std.proofs.Common.{◌≡◌, ℕ, Bool, true, false, cond, List, drop, None, nat_eq, sym, ap, refl, ◌∙◌}
use Rattle.std.specs.Prelude.{codes}
use Rattle.std.specs.List.{starts_with}
use Rattle.xti_words.specs.Values.{bytes_in, counted_bytes, hex_bytes, number_in, plain_bytes}
use Rattle.xti_words.proofs.Marks.{holds-mark, marked, past_mark, told}
use Rattle.xti_words.proofs.values.bytes_in.Goals as goal

-- the bytes by which of the three marks the word has
by-mark : (word : List ℕ) (text pairs count : Bool) → starts_with nat_eq word (codes "t:") ≡ text → starts_with nat_eq word (codes "x:") ≡ pairs → starts_with nat_eq word (codes "f:") ≡ count
    → bytes_in word ≡ cond text (plain_bytes (drop 2 word)) (cond pairs (hex_bytes (drop 2 word)) (cond count (counted_bytes (number_in (drop 2 word))) None))
unfolding bytes_in
by-mark word text pairs count t p n =
    λ k. cond (t k) (plain_bytes (drop 2 word)) (cond (p k) (hex_bytes (drop 2 word)) (cond (n k) (counted_bytes (number_in (drop 2 word))) None))

pub slice_bounds-plain_bytes-count : goal.slice_bounds-plain_bytes-count
slice_bounds-plain_bytes-count c = holds-mark c.args.word.now c.as_slice.result.now _ _ c.as_slice.ensures (c.if-starts_with.ensures.bound refl)

pub slice_bounds-hex_bytes-count : goal.slice_bounds-hex_bytes-count
slice_bounds-hex_bytes-count c =
    holds-mark c.args.word.now c.as_slice-else-starts_with.result.now _ _ c.as_slice-else-starts_with.ensures (c.if-starts_with-2.ensures.bound refl)

pub slice_bounds-counted_bytes-count : goal.slice_bounds-counted_bytes-count
slice_bounds-counted_bytes-count c =
    holds-mark c.args.word.now c.as_slice-else-starts_with-2.result.now _ _ c.as_slice-else-starts_with-2.ensures (c.if-starts_with-3.ensures.bound refl)

pub returns-then-starts_with : goal.returns-then-starts_with
returns-then-starts_with c =
    let word = c.args.word.now in
    let text = marked word c.as_slice.result.now (codes "t:") c.starts_with.result true c.as_slice.ensures c.starts_with.ensures.value c.if-starts_with.true in
    told c.plain_bytes.result _ _ (ap plain_bytes (past_mark word) ∙ sym (by-mark word true _ _ text refl refl)) c.plain_bytes.ensures

pub returns-then-starts_with-2 : goal.returns-then-starts_with-2
returns-then-starts_with-2 c =
    let word = c.args.word.now in
    let text = marked word c.as_slice.result.now (codes "t:") c.starts_with.result false c.as_slice.ensures c.starts_with.ensures.value c.if-starts_with.false in
    let pairs = marked word c.as_slice-else-starts_with.result.now (codes "x:") c.starts_with-else-starts_with.result true c.as_slice-else-starts_with.ensures
    c.starts_with-else-starts_with.ensures.value c.if-starts_with-2.true in
    told c.hex_bytes.result _ _ (ap hex_bytes (past_mark word) ∙ sym (by-mark word false true _ text pairs refl)) c.hex_bytes.ensures

pub returns-then-starts_with-3 : goal.returns-then-starts_with-3
returns-then-starts_with-3 c =
    let word = c.args.word.now in
    let text = marked word c.as_slice.result.now (codes "t:") c.starts_with.result false c.as_slice.ensures c.starts_with.ensures.value c.if-starts_with.false in
    let pairs = marked word c.as_slice-else-starts_with.result.now (codes "x:") c.starts_with-else-starts_with.result false c.as_slice-else-starts_with.ensures
    c.starts_with-else-starts_with.ensures.value c.if-starts_with-2.false in
    let count = marked word c.as_slice-else-starts_with-2.result.now (codes "f:") c.starts_with-else-starts_with-2.result true c.as_slice-else-starts_with-2.ensures
    c.starts_with-else-starts_with-2.ensures.value c.if-starts_with-3.true in
    told c.counted_bytes.result _ _ (ap (λ (xs : List ℕ). counted_bytes (number_in xs)) (past_mark word) ∙ sym (by-mark word false false true text pairs count)) c.counted_bytes.ensures

pub returns-else-starts_with-3 : goal.returns-else-starts_with-3
returns-else-starts_with-3 c =
    let word = c.args.word.now in
    let text = marked word c.as_slice.result.now (codes "t:") c.starts_with.result false c.as_slice.ensures c.starts_with.ensures.value c.if-starts_with.false in
    let pairs = marked word c.as_slice-else-starts_with.result.now (codes "x:") c.starts_with-else-starts_with.result false c.as_slice-else-starts_with.ensures
    c.starts_with-else-starts_with.ensures.value c.if-starts_with-2.false in
    let count = marked word c.as_slice-else-starts_with-2.result.now (codes "f:") c.starts_with-else-starts_with-2.result false c.as_slice-else-starts_with-2.ensures
    c.starts_with-else-starts_with-2.ensures.value c.if-starts_with-3.false in
    sym (by-mark word false false false text pairs count)
