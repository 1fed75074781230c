use Rattle.std.proofs.Common.{◌≡◌, ◌≤◌, ◌-◌, ◌+◌, ◌++◌, ◌∙◌, ℕ, List, sym, ap, subst, not, length, take, drop}
use Rattle.std.specs.Prelude.{min}
use Rattle.std.specs.List.{concat}
use Rattle.std.proofs.lemmas.List.{length-append, length-drop, take_rest}
use Rattle.std.proofs.lemmas.Result.{IfOk-from_err}
use Rattle.tpi_prim.specs.Indication.{PartIndication, data_ind}
use Rattle.xti_lent.proofs.Joined.{longer}
use Rattle.xti_data.proofs.Shares.{all-of-parts, all-taken, at-most-left, at-most-right, left-next, less-none, less-none-left, none-taken, piece-fits, portion-length, share, skip-next}
use Rattle.xti_data.specs.declared.portions.Portion.{Portion}
use Rattle.xti_data.specs.Portions.{bytes_of}
use Rattle.xti_data.proofs.portions.fill.Goals as goal

pub loop-part-preserved : goal.loop-part-preserved
loop-part-preserved c =
    let parts = c.args.parts.now in
    let i = c.loop-part.part-index in
    let x = c.part-item.result in
    let front : List ℕ = concat (take i parts) in
    let before = c.args.portion.before in
    let count = c.args.portion.count in
    let whole : concat (take (i + 1) parts) ≡ front ++ x = longer parts i x c.loop-part-test.true c.part-item.is in
    let k : c.min-skipped.result ≡ min c.loop-part.skip (length x) = rw c.as_slice-bytes.ensures at c.min-skipped.ensures in
    let rest : take (length x - c.min-skipped.result) (drop c.min-skipped.result x) ≡ drop c.min-skipped.result x = take_rest x c.min-skipped.result in
    let t : c.min-taken.result ≡ min c.loop-part.left (length (drop c.min-skipped.result x)) = rw (c.as_slice-bytes.ensures, rest) at c.min-taken.ensures in
    let put : c.put.new.self ≡ record c.loop-part.writer { bytes = c.loop-part.writer.bytes ++ take c.min-taken.result (drop c.min-skipped.result x) } = rw (c.as_slice-bytes.ensures, rest) at c.put.ensures in
    let size : length (front ++ x) ≡ length front + length x = length-append front x in
    let bytes : (take count (drop before front)) ++ take c.min-taken.result (drop c.min-skipped.result x) ≡ take count (drop before (concat (take (i + 1) parts))) =
    share before count front x c.loop-part.skip c.loop-part.left c.min-skipped.result c.min-taken.result c.loop-part.invariant.skip c.loop-part.invariant.left k t
    ∙ ap (λ (l : List ℕ). take count (drop before l)) (sym whole) in
    record {
      written = put
          ∙ (ap (λ (g : PartIndication). record g { bytes = g.bytes ++ take c.min-taken.result (drop c.min-skipped.result x) }) c.loop-part.invariant.written
          ∙ ap (λ (l : List ℕ). record { expedited = c.args.portion.expedited; more = not c.args.portion.ends; length = count; bytes = l }) bytes);
      skip = skip-next before (length front) (length x) c.loop-part.skip c.min-skipped.result c.loop-part.invariant.skip k
          ∙ ap (λ (n : ℕ). before - n) (sym size) ∙ ap (λ (l : List ℕ). before - length l) (sym whole);
      left = left-next before count (length front) (length x) c.loop-part.skip c.loop-part.left c.min-skipped.result c.min-taken.result c.loop-part.invariant.skip c.loop-part.invariant.left k (t ∙ ap (λ (n : ℕ). min c.loop-part.left n) (length-drop c.min-skipped.result x))
          ∙ ap (λ (n : ℕ). count - (n - before)) (sym size) ∙ ap (λ (l : List ℕ). count - (length l - before)) (sym whole);
    }

pub begin-requires : goal.begin-requires
begin-requires c = c.requires.few

pub returns-in_err-writer : goal.returns-in_err-writer
returns-in_err-writer c = IfOk-from_err _ _ c.from_residual.ensures.0

pub loop-part-init : goal.loop-part-init
loop-part-init c = record {
  written = c.in_ok-writer.ensures
      ∙ ap (λ (l : List ℕ). record { expedited = c.args.portion.expedited; more = not c.args.portion.ends; length = c.args.portion.count; bytes = l }) (none-taken c.args.portion.before c.args.portion.count);
  skip = less-none c.args.portion.before;
  left = less-none-left c.args.portion.count c.args.portion.before;
}

pub bounds-parts-part-index : goal.bounds-parts-part-index
bounds-parts-part-index c = c.loop-part-test.true

pub slice_bounds-rest-count : goal.slice_bounds-rest-count
slice_bounds-rest-count c = at-most-right c.min-skipped.result c.loop-part.skip (length c.as_slice-bytes.result.now) c.min-skipped.ensures

pub slice_bounds-put-end : goal.slice_bounds-put-end
slice_bounds-put-end c = all-taken c.min-taken.result c.loop-part.left (take (length c.as_slice-bytes.result.now - c.min-skipped.result) (drop c.min-skipped.result c.as_slice-bytes.result.now)) c.min-taken.ensures

pub put-requires : goal.put-requires
put-requires c =
    let rest = take (length c.as_slice-bytes.result.now - c.min-skipped.result) (drop c.min-skipped.result c.as_slice-bytes.result.now) in
    subst (λ (w : PartIndication). length w.bytes + length (take c.min-taken.result rest) ≤ w.length) (sym c.loop-part.invariant.written)
    (piece-fits c.args.portion.before c.args.portion.count (concat (take c.loop-part.part-index c.args.parts.now)) rest c.loop-part.left c.min-taken.result c.loop-part.invariant.left c.min-taken.ensures)

pub overflow_sub-skip : goal.overflow_sub-skip
overflow_sub-skip c = at-most-left c.min-skipped.result c.loop-part.skip (length c.as_slice-bytes.result.now) c.min-skipped.ensures

pub overflow_sub-left : goal.overflow_sub-left
overflow_sub-left c =
    at-most-left c.min-taken.result c.loop-part.left (length (take (length c.as_slice-bytes.result.now - c.min-skipped.result) (drop c.min-skipped.result c.as_slice-bytes.result.now))) c.min-taken.ensures

-- the indication once all parts were written
abbrev written : List (List ℕ) → Portion → PartIndication
written parts portion = record { expedited = portion.expedited; more = not portion.ends; length = portion.count; bytes = bytes_of (concat parts) portion }

all-written : (parts : List (List ℕ)) (portion : Portion) (i : ℕ) (w : PartIndication) → length parts ≤ i → w ≡ written (take i parts) portion → w ≡ written parts portion
all-written parts portion i w h e = e ∙ ap (λ (l : List ℕ). record { expedited = portion.expedited; more = not portion.ends; length = portion.count; bytes = bytes_of l portion }) (all-of-parts parts i h)

pub finish-requires : goal.finish-requires
finish-requires c =
    let whole = all-written c.args.parts.now c.args.portion c.loop-part.part-index c.loop-part.writer c.loop-part-test.false c.loop-part.invariant.written in
    subst (λ (w : PartIndication). length w.bytes ≡ w.length) (sym whole) (portion-length c.args.portion.before c.args.portion.count (concat c.args.parts.now) c.requires.there)

pub returns : goal.returns
returns c =
    let whole = all-written c.args.parts.now c.args.portion c.loop-part.part-index c.loop-part.writer c.loop-part-test.false c.loop-part.invariant.written in
    c.finish.ensures ∙ ap (λ (w : PartIndication). data_ind w.expedited w.more w.bytes) whole
