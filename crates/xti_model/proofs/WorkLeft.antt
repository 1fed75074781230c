-- After a history that follows a script, no more work is left than at first.
use Rattle.std.specs.Prelude.{ℕ, ◌+◌, ◌≤◌, List, [], ◌∷◌, length, take, map, Option, Some, None, IfSome, ◌≡◌}
use Rattle.std.specs.List.{sum_by}
use Rattle.std.proofs.Common.{refl, sym, ap, subst, ◌∙◌, arith}
use Rattle.std.proofs.lemmas.List.Sums.{sum_by-cons, sum_by-take-drop}
use Rattle.xti_model.specs.declared.call.Call.{Call}
use Rattle.xti_model.specs.declared.call.Call.TheVariants as call
use Rattle.xti_model.specs.declared.entry.Act.{Act}
use Rattle.xti_model.specs.declared.entry.Act.TheVariants as act
use Rattle.xti_model.specs.declared.entry.Go.{Go}
use Rattle.xti_model.specs.declared.entry.Go.TheVariants as go
use Rattle.xti_model.specs.declared.entry.Entry.{Entry}
use Rattle.xti_model.specs.declared.script.Line.{Line}
use Rattle.xti_model.specs.History.{Going, own, unfinished}
use Rattle.xti_model.specs.Resolve.{Placed, placed, begun, meanings, lines_of}
use Rattle.xti_model.specs.Complete.{begun_calls, resolved_in, Follows, workers}
use Rattle.xti_model.specs.Work.{script_bytes}
use Rattle.xti_model.proofs.Outcomes.{left}
use Rattle.xti_model.proofs.Working.{call_from, IsCallOf, call_of-from, line_work, placed_work, going_work, lines_left, worker_work, left-named}
use Rattle.xti_model.proofs.Sums.{sum-at_most, placed-work, lines-all, lines-bytes}
use Rattle.xti_model.proofs.Completing.{all_work}

abbrev pub last_or : Option Call → List Call → Option Call
last_or c [] = c
last_or c (x ∷ xs) = last_or (Some x) xs

pub call-last : (c : Option Call) (es : List Entry) → call_from c es ≡ last_or c (begun_calls es)
call-last c [] = refl
call-last c (e ∷ es) = by e.act refl (λ d. call-last d es)
  where
    by : (a : Act) → e.act ≡ a → ((d : Option Call) → call_from d es ≡ last_or d (begun_calls es)) → call_from c (e ∷ es) ≡ last_or c (begun_calls (e ∷ es))
    by (act.Begin x) h ih = simp (h, ih (Some x)) refl
    by act.More h ih = simp (h, ih c) refl

abbrev AtMost : ℕ → Call → Type 0
AtMost m c = left c go.Begin ≤ m

-- the last call of these lines has no more steps than they have work
pub last-work : (past : List Entry) (c : Option Call) (ls : List Placed) (x : Call) (m : ℕ) → IfSome c (AtMost m) → last_or c (map (resolved_in past) ls) ≡ Some x →
    left x go.Begin ≤ m + sum_by placed_work ls
last-work past c [] x m h e = let b : AtMost m x = subst (λ o. IfSome o (AtMost m)) e h in omega (arith, b)
last-work past c (l ∷ ls) x m h e =
    let one : AtMost (placed_work l) (resolved_in past l) = left-named (meanings l.earlier l.line.worker past) l.line.call in
    omega (arith, last-work past (Some (resolved_in past l)) ls x (placed_work l) one e, sum_by-cons placed_work l ls)

pub left-more : (c : Call) (g : Go) → left c g ≤ left c go.Begin
left-more c go.Begin = omega arith
left-more (call.TConnect fd addr opt udata amax omax umax) (go.More n) = omega arith
left-more (call.TSnd fd bytes flags) (go.More n) = omega arith
left-more (call.TSndV fd parts flags) (go.More n) = omega arith
left-more other (go.More n) = omega arith

-- what is left to a worker is at most all its lines
pub worker-bound : (lines : List Line) (past : List Entry) (worker : ℕ) → Follows past lines worker → worker_work lines past worker ≤ sum_by placed_work (placed lines worker)
worker-bound lines past worker f = by (unfinished past worker) (call_of-from None None (own past worker) tt)
  where
    k : ℕ
    k = length (begun past worker)

    by : (u : Option Going) → IsCallOf (call_from None (own past worker)) u → lines_left lines past worker + going_work u ≤ sum_by placed_work (placed lines worker)
    by None h = omega (arith, sum_by-take-drop placed_work (placed lines worker) k)
    by (Some g) h =
        let last : last_or None (map (resolved_in past) (take k (placed lines worker))) ≡ Some g.call = ap (last_or None) (sym f) ∙ (sym (call-last None (own past worker)) ∙ h) in
        omega (arith, sum_by-take-drop placed_work (placed lines worker) k, last-work past None (take k (placed lines worker)) g.call 0 tt last, left-more g.call g.so_far)

pub history-work : (lines : List Line) (past : List Entry) → ((worker : ℕ) → Follows past lines worker) → all_work lines past ≤ length lines + script_bytes lines
history-work lines past f = omega (arith, sum-at_most (worker_work lines past) (λ worker. sum_by line_work (lines_of lines worker)) of_worker workers, lines-all lines 0 33, lines-bytes lines 0)
  where
    of_worker : (worker : ℕ) → worker_work lines past worker ≤ sum_by line_work (lines_of lines worker)
    of_worker worker = omega (arith, worker-bound lines past worker (f worker), placed-work [] lines worker)
