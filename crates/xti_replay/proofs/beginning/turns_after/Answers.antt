use Rattle.std.proofs.Common.{◌≡◌, ◌++◌, ◌+◌, ◌-◌, ℕ, List, arith, sym, subst, ap, ◌∙◌}
use Rattle.xti_base.specs.declared.limits.TheConstants.{WORKERS, LAST_WORKER}
use Rattle.xti_model.specs.Robin.{numbers, order_after, last_worker}
use Rattle.xti_replay.specs.Turns.{LeavesOutFinished}
use Rattle.xti_replay.proofs.Turns.{leaves-append}
use Rattle.xti_replay.proofs.beginning.turns_after.Goals as goal

pub returns : goal.returns
returns c = λ lines kept.
    let past = c.args.history.now in
    let first = c.in_ok-add_turns.ensures lines past kept in
    let second = c.in_ok-add_turns-2.ensures lines past kept in
    let at : c.last_worker.result ≡ last_worker 0 past = c.last_worker.ensures in
    let high : WORKERS - (c.last_worker.result + 1) ≡ LAST_WORKER - c.last_worker.result = omega arith in
    let low : c.last_worker.result + 1 - 1 ≡ c.last_worker.result = omega arith in
    let items : c.add_turns-2.new.turns.items ≡ first.0 ++ second.0 = second.1 ∙ ap (λ (l : List ℕ). l ++ second.0) (first.1 ∙ ap (λ (l : List ℕ). l ++ first.0) c.in_ok-turns.ensures.items) in
    subst (λ (n : ℕ). LeavesOutFinished lines past (order_after n) c.add_turns-2.new.turns.items) at
    (subst (LeavesOutFinished lines past (order_after c.last_worker.result)) (sym items)
    (leaves-append lines past (numbers (c.last_worker.result + 1) (LAST_WORKER - c.last_worker.result)) (numbers 1 c.last_worker.result) first.0 second.0
    (subst (λ (n : ℕ). LeavesOutFinished lines past (numbers (c.last_worker.result + 1) n) first.0) high first.2)
    (subst (λ (n : ℕ). LeavesOutFinished lines past (numbers 1 n) second.0) low second.2)))
