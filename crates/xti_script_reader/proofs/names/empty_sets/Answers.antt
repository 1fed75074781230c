use Rattle.std.proofs.Common.{◌≡◌, ℕ, ◌+◌, List, [], ◌∷◌, ◌++◌, length, ap, arith, length-append}
use Rattle.std.proofs.lemmas.Result.{IfOk-from_err}
use Rattle.xti_script_reader.specs.TextSets.{TextSet}
use Rattle.xti_script_reader.proofs.TextSets.{has_none}
use Rattle.xti_script_reader.proofs.Workers.{none_empty, one_more_empty}
use Rattle.xti_script_reader.proofs.names.empty_sets.Goals as goal

one_longer : (old new : List TextSet) (x : TextSet) (n : ℕ) → new ≡ old ++ x ∷ [] → length old ≡ n → length new ≡ n + 1
one_longer old new x n e count = omega (arith, ap length e, length-append old (x ∷ []))

pub returns-in_err-sets-clause-workers : goal.returns-in_err-sets-clause-workers
returns-in_err-sets-clause-workers c = IfOk-from_err _ _ c.from_residual.ensures.0

pub returns-in_err-sets-clause-empty : goal.returns-in_err-sets-clause-empty
returns-in_err-sets-clause-empty c = IfOk-from_err _ _ c.from_residual.ensures.0

pub returns-in_err-push-clause-workers : goal.returns-in_err-push-clause-workers
returns-in_err-push-clause-workers c = IfOk-from_err _ _ c.from_residual-in_err-push.ensures.0

pub returns-in_err-push-clause-empty : goal.returns-in_err-push-clause-empty
returns-in_err-push-clause-empty c = IfOk-from_err _ _ c.from_residual-in_err-push.ensures.0

pub loop-worker-init : goal.loop-worker-init
loop-worker-init c = record {
  count = ap length c.in_ok-sets.ensures.items;
  empty = none_empty _ c.in_ok-sets.ensures.items;
}

pub loop-worker-smaller : goal.loop-worker-smaller
loop-worker-smaller c = omega arith

pub loop-worker-preserved : goal.loop-worker-preserved
loop-worker-preserved c = record {
  count = one_longer _ _ _ _ c.in_ok-push.ensures.items c.loop-worker.invariant.count;
  empty = rw c.in_ok-push.ensures.items
      (one_more_empty _ c.new.result (λ other. has_none c.new.result other c.new.ensures.len) c.loop-worker.invariant.empty);
}

pub returns-clause-workers : goal.returns-clause-workers
returns-clause-workers c = omega arith

pub returns-clause-empty : goal.returns-clause-empty
returns-clause-empty c = c.loop-worker.invariant.empty
