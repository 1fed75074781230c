use Rattle.std.proofs.Common.{rules, ◌≡◌, ◌≤◌, ◌<◌, ◌+◌, ◌-◌, length, drop, slice_index_or, arith, sym, ap, ◌∙◌, subst, length-drop}
use Rattle.xti_model.specs.Symbols.{front}
use Rattle.xti_queue.specs.Kept.{AllWait}
use Rattle.xti_queue.specs.Front.{symbols_in}
use Rattle.std.proofs.lemmas.List.{drop-drop}
use Rattle.xti_queue.proofs.Steps.{IsFirst, first_at, len_full, len_end, len_more, none_front, within_none, wait-drop}
use Rattle.xti_queue.proofs.front.run_len.Goals as goal

pub returns-then-max-count : goal.returns-then-max-count
returns-then-max-count c =
    let f = c.index-frame.result.now in
    let at : (0 < length (drop c.loop-i.i c.args.held.now.items)) × (f ≡ slice_index_or (drop c.loop-i.i c.args.held.now.items) 0 f) =
    first_at c.args.held.now.items c.loop-i.i f (search rules) c.index-frame.ensures in
    let first : IsFirst (drop c.loop-i.i c.args.held.now.items) f c.loop-i.skipped c.rest_of-len.result.now =
    record { some = at.0; is = at.1; wait = c.loop-i.invariant.wait; user = c.rest_of-len.ensures.rest; bytes = c.rest_of-len.ensures.bytes } in
    omega (arith, c.loop-i.invariant.front, c.loop-i.invariant.most, len_full (drop c.loop-i.i c.args.held.now.items) f c.loop-i.skipped (c.args.max - c.loop-i.count) c.rest_of-len.result.now first c.if-max-count.true)

pub returns-then-ends : goal.returns-then-ends
returns-then-ends c =
    let f = c.index-frame.result.now in
    let at : (0 < length (drop c.loop-i.i c.args.held.now.items)) × (f ≡ slice_index_or (drop c.loop-i.i c.args.held.now.items) 0 f) =
    first_at c.args.held.now.items c.loop-i.i f (search rules) c.index-frame.ensures in
    let first : IsFirst (drop c.loop-i.i c.args.held.now.items) f c.loop-i.skipped c.rest_of-len.result.now =
    record { some = at.0; is = at.1; wait = c.loop-i.invariant.wait; user = c.rest_of-len.ensures.rest; bytes = c.rest_of-len.ensures.bytes } in
    let all : length c.rest_of-len.result.now ≤ (c.args.max - c.loop-i.count) = omega (arith, c.if-max-count.false) in
    omega (arith, c.loop-i.invariant.front, len_end (drop c.loop-i.i c.args.held.now.items) f c.loop-i.skipped (c.args.max - c.loop-i.count) c.rest_of-len.result.now first all (sym c.ends.ensures ∙ c.if-ends.true))

pub loop-i-preserved : goal.loop-i-preserved
loop-i-preserved c =
    let f = c.index-frame.result.now in
    let at : (0 < length (drop c.loop-i.i c.args.held.now.items)) × (f ≡ slice_index_or (drop c.loop-i.i c.args.held.now.items) 0 f) =
    first_at c.args.held.now.items c.loop-i.i f (search rules) c.index-frame.ensures in
    let first : IsFirst (drop c.loop-i.i c.args.held.now.items) f c.loop-i.skipped c.rest_of-len.result.now =
    record { some = at.0; is = at.1; wait = c.loop-i.invariant.wait; user = c.rest_of-len.ensures.rest; bytes = c.rest_of-len.ensures.bytes } in
    let all : length c.rest_of-len.result.now ≤ (c.args.max - c.loop-i.count) = omega (arith, c.if-max-count.false) in
    let next : drop 1 (drop c.loop-i.i c.args.held.now.items) ≡ drop (c.loop-i.i + 1) c.args.held.now.items = drop-drop 1 c.loop-i.i c.args.held.now.items in
    let left : (c.args.max - c.loop-i.count) - length c.rest_of-len.result.now ≡ c.args.max - (c.loop-i.count + length c.rest_of-len.result.now) = omega arith in
    record {
      most = omega (arith, c.if-max-count.false, c.loop-i.invariant.most);
      wait = subst AllWait next (wait-drop (drop c.loop-i.i c.args.held.now.items) c.loop-i.invariant.wait);
      within = within_none (drop (c.loop-i.i + 1) c.args.held.now.items);
      front =
          let step : length (front (c.args.max - c.loop-i.count) (symbols_in c.loop-i.skipped (drop c.loop-i.i c.args.held.now.items))) ≡ length c.rest_of-len.result.now + length (front (c.args.max - (c.loop-i.count + length c.rest_of-len.result.now)) (symbols_in 0 (drop (c.loop-i.i + 1) c.args.held.now.items))) =
          len_more (drop c.loop-i.i c.args.held.now.items) f c.loop-i.skipped (c.args.max - c.loop-i.count) c.rest_of-len.result.now first all (sym c.ends.ensures ∙ c.if-ends.false)
          ∙ ap (λ k. length c.rest_of-len.result.now + length (front k (symbols_in 0 (drop 1 (drop c.loop-i.i c.args.held.now.items))))) left
          ∙ ap (λ l. length c.rest_of-len.result.now + length (front (c.args.max - (c.loop-i.count + length c.rest_of-len.result.now)) (symbols_in 0 l))) next in
          omega (arith, c.loop-i.invariant.front, step);
    }

pub returns : goal.returns
returns c =
    let past : length c.args.held.now.items ≤ c.loop-i.i = search rules in
    let none : length (drop c.loop-i.i c.args.held.now.items) ≤ 0 = omega (arith, length-drop c.loop-i.i c.args.held.now.items, past) in
    omega (arith, c.loop-i.invariant.front, none_front (drop c.loop-i.i c.args.held.now.items) c.loop-i.skipped (c.args.max - c.loop-i.count) none)
