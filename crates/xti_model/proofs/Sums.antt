-- The work that is left to all workers: at first the lines of the script and the bytes of their arguments.
use Rattle.std.specs.Prelude.{ℕ, zero, suc, ◌+◌, ◌<◌, ◌≤◌, ◌≢◌, ◌==◌, nat_le, Bool, true, false, List, [], ◌∷◌, ◌++◌, length, filter, ◌≡◌, ◌⊎◌, if◌then◌else◌}
use Rattle.std.specs.List.{sum_by}
use Rattle.std.proofs.Common.{refl, sym, ap, subst, ◌∙◌, arith, eqb, inl, inr}
use Rattle.std.proofs.lemmas.Bool.Decides.{eqb_tells, nat_tests}
use Rattle.std.proofs.lemmas.List.Sums.{sum_by-cons}
use Rattle.xti_model.specs.declared.script.Line.{Line}
use Rattle.xti_model.specs.Resolve.{placed_from, if_own, is_of, lines_of}
use Rattle.xti_model.specs.Robin.{numbers}
use Rattle.xti_model.specs.Work.{argument_bytes, script_bytes}
use Rattle.xti_model.proofs.Working.{line_work, placed_work}

pub sum-at_most : (f g : ℕ → ℕ) → ((n : ℕ) → f n ≤ g n) → (ns : List ℕ) → sum_by f ns ≤ sum_by g ns
sum-at_most f g h [] = omega arith
sum-at_most f g h (n ∷ ns) = omega (arith, sum_by-cons f n ns, sum_by-cons g n ns, h n, sum-at_most f g h ns)

-- a sum falls where one of its terms does
pub sum-falls : (f g : ℕ → ℕ) → ((n : ℕ) → f n ≤ g n) → (at : ℕ) → f at < g at → (from n : ℕ) → from ≤ at → at < from + n →
    sum_by f (numbers from n) < sum_by g (numbers from n)
sum-falls f g h at lt from zero a b = absurd (omega arith)
sum-falls f g h at lt from (suc n) a b = by (eqb_tells from at) (sum-falls f g h at lt (from + 1) n)
  where
    by : ((eqb from at ≡ true) × (from ≡ at)) ⊎ ((eqb from at ≡ false) × (from ≢ at)) →
        (from + 1 ≤ at → at < from + 1 + n → sum_by f (numbers (from + 1) n) < sum_by g (numbers (from + 1) n)) →
        sum_by f (from ∷ numbers (from + 1) n) < sum_by g (from ∷ numbers (from + 1) n)
    by (inl e) later =
        let here : f from < g from = subst (λ k. f k < g k) (sym e.1) lt in
        omega (arith, sum_by-cons f from (numbers (from + 1) n), sum_by-cons g from (numbers (from + 1) n), here, sum-at_most f g h (numbers (from + 1) n))
    by (inr e) later =
        let rest : sum_by f (numbers (from + 1) n) < sum_by g (numbers (from + 1) n) = later (omega (arith, e.1)) (omega (arith, e.1)) in
        omega (arith, sum_by-cons f from (numbers (from + 1) n), sum_by-cons g from (numbers (from + 1) n), h from, rest)

pub placed-work : (earlier lines : List Line) (worker : ℕ) → sum_by placed_work (placed_from earlier lines worker) ≡ sum_by line_work (lines_of lines worker)
placed-work earlier [] worker = refl
placed-work earlier (line ∷ lines) worker = by (is_of worker line) (placed-work (earlier ++ line ∷ []) lines worker)
  where
    by : (b : Bool) → sum_by placed_work (placed_from (earlier ++ line ∷ []) lines worker) ≡ sum_by line_work (lines_of lines worker) →
        sum_by placed_work (if_own b (record { earlier = earlier; line = line }) (placed_from (earlier ++ line ∷ []) lines worker)) ≡ sum_by line_work (if b then line ∷ lines_of lines worker else lines_of lines worker)
    by true ih =
        sum_by-cons placed_work (record { earlier = earlier; line = line }) (placed_from (earlier ++ line ∷ []) lines worker)
        ∙ ap (λ n. line_work line + n) ih ∙ sym (sum_by-cons line_work line (lines_of lines worker))
    by false ih = ih

-- the lines of workers from a number on
abbrev pub lines_from : List Line → ℕ → List Line
lines_from lines from = filter (λ line. nat_le from line.worker) lines

pub sum-filter : (test : Line → Bool) (line : Line) (lines : List Line) → sum_by line_work (filter test (line ∷ lines)) ≡ (if test line then line_work line else 0) + sum_by line_work (filter test lines)
sum-filter test line lines = by (test line)
  where
    by : (b : Bool) → sum_by line_work (if b then line ∷ filter test lines else filter test lines) ≡ (if b then line_work line else 0) + sum_by line_work (filter test lines)
    by true = sum_by-cons line_work line (filter test lines)
    by false = omega arith

pub is_one_of : (x from w : ℕ) → (if x == from then w else 0) + (if nat_le (from + 1) x then w else 0) ≤ (if nat_le from x then w else 0)
is_one_of x from w = grind (arith, nat_tests)

pub part_of : (b : Bool) (w : ℕ) → (if b then w else 0) ≤ w
part_of true w = omega arith
part_of false w = omega arith

pub lines-split : (lines : List Line) (from : ℕ) → sum_by line_work (lines_of lines from) + sum_by line_work (lines_from lines (from + 1)) ≤ sum_by line_work (lines_from lines from)
lines-split [] from = omega arith
lines-split (line ∷ lines) from =
    omega (
      arith,
      sum-filter (is_of from) line lines,
      sum-filter (λ line. nat_le (from + 1) line.worker) line lines,
      sum-filter (λ line. nat_le from line.worker) line lines,
      is_one_of line.worker from (line_work line),
      lines-split lines from,
    )

pub lines-all : (lines : List Line) (from n : ℕ) → sum_by (λ worker. sum_by line_work (lines_of lines worker)) (numbers from n) ≤ sum_by line_work (lines_from lines from)
lines-all lines from zero = omega arith
lines-all lines from (suc n) =
    omega (arith, sum_by-cons (λ worker. sum_by line_work (lines_of lines worker)) from (numbers (from + 1) n), lines-split lines from, lines-all lines (from + 1) n)

pub lines-bytes : (lines : List Line) (from : ℕ) → sum_by line_work (lines_from lines from) ≤ length lines + script_bytes lines
lines-bytes [] from = omega arith
lines-bytes (line ∷ lines) from =
    omega (arith, sum-filter (λ line. nat_le from line.worker) line lines, part_of (nat_le from line.worker) (line_work line), sum_by-cons (λ line. argument_bytes line.call) line lines, lines-bytes lines from)
