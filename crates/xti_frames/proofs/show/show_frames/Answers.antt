use Rattle.std.proofs.Common.{◌≡◌, ◌==◌, length, drop, refl, sym, subst, false}
use Rattle.xti_frames.proofs.Shown.{ShownTo, shown_more, in_front, wrong_at, cut_at, not_empty}
use Rattle.xti_frames.proofs.show.show_frames.Goals as goal

pub loop-rest-preserved : goal.loop-rest-preserved
loop-rest-preserved c =
    let back : c.split_at.result.1.now ≡ drop c.in-Value.used c.loop-rest.rest.now = c.split_at.ensures.back in
    subst (λ r. ShownTo c.args.input.now r c.put_line-written.new.out.items) (sym back)
    (shown_more _ _ _ _ c.in-Value.prim c.in-Value.used c.loop-rest.invariant c.in-Value.ensures.means.1 c.in_ok-written-in-Value.ensures)

pub returns-in-Short-clause-wrong : goal.returns-in-Short-clause-wrong
returns-in-Short-clause-wrong c =
    let filled : (length c.loop-rest.rest.now == 0) ≡ false = cc in
    cut_at _ _ _ c.loop-rest.invariant (c.frames_law.ensures.cut_frame _ _ (in_front _ _ _ c.loop-rest.invariant) c.in-Short.ensures.means (not_empty c.loop-rest.rest.now filled))

pub returns-in-Bad-clause-wrong : goal.returns-in-Bad-clause-wrong
returns-in-Bad-clause-wrong c =
    wrong_at _ _ _ c.loop-rest.invariant c.in-Bad.at _ (c.frames_law.ensures.bad_frame _ _ c.in-Bad.at (in_front _ _ _ c.loop-rest.invariant) c.in-Bad.ensures.means) refl
