-- Round robin goes on until each worker is finished or blocked.
use Rattle.std.specs.Prelude.{ℕ, ◌+◌, ◌-◌, ◌<◌, ◌≤◌, ◌==◌, ◌&&◌, ◌||◌, nat_lt, Bool, true, false, List, [], ◌∷◌, ◌++◌, length, drop, filter, Option, Some, None, IfSome, is_none, option_map, option_and_then, ◌≡◌, if◌then◌else◌, IsTrue}
use Rattle.std.specs.List.{AllByRecursion, list_all, sum_by}
use Rattle.std.proofs.Common.{refl, sym, ap, subst, ◌∙◌, arith, inl, inr}
use Rattle.std.proofs.lemmas.Bool.{eqb-true, false≢true}
use Rattle.std.proofs.lemmas.Bool.Decides.{nat_tests}
use Rattle.std.proofs.lemmas.List.Folds.{list_all-append}
use Rattle.std.proofs.lemmas.Option.{none-some}
use Rattle.xti_model.specs.declared.entry.Entry.{Entry}
use Rattle.xti_model.specs.declared.script.Line.{Line}
use Rattle.xti_model.specs.declared.profile.Providers.{Providers}
use Rattle.xti_model.specs.World.{World}
use Rattle.xti_model.specs.Step.{Step}
use Rattle.xti_model.specs.History.{Going, is_own, unfinished, unfinished_from, step_going, after}
use Rattle.xti_model.specs.Resolve.{placed, lines_of, is_begin}
use Rattle.xti_model.specs.Robin.{is_through, next_going, last_worker, numbers, order_after, Turn, turn_of, turn_going, turn, first_turn, next_turn}
use Rattle.xti_model.specs.Work.{script_bytes}
use Rattle.xti_model.specs.Complete.{workers, is_stuck, is_stuck_by, is_setup, is_worker, is_setup_stuck, is_rest_done}
use Rattle.xti_model.proofs.Appending.{all-split}
use Rattle.xti_model.proofs.Turns.{MayGo, next_turn-each, first_turn-none, all-numbers, at-numbers}
use Rattle.xti_model.proofs.Legality.{IsLegalAt, turn-legal}
use Rattle.xti_model.proofs.Working.{line_work, placed_work, going_work, worker_work, own-more, IsPossibleGoing, Lessens, turn-lessens}
use Rattle.xti_model.proofs.Sums.{sum-at_most, sum-falls, placed-work, lines-all, lines-bytes}
use Rattle.xti_model.proofs.Phases.{IsInPhase, phase-first, turn-phase}

-- the work that is left to all workers
abbrev pub all_work : List Line → List Entry → ℕ
all_work lines past = sum_by (worker_work lines past) workers

pub other-work : (lines : List Line) (past : List Entry) (e : Entry) (worker : ℕ) → is_own worker e ≡ false → worker_work lines (past ++ e ∷ []) worker ≡ worker_work lines past worker
other-work lines past e worker h =
    ap (λ es. sum_by placed_work (drop (length (filter (λ e. is_begin e.act) es)) (placed lines worker)) + going_work (unfinished_from None None es)) (own-more past e worker false h)

pub work-falls : (lines : List Line) (past : List Entry) (worker : ℕ) (t : Turn) → worker < 33 → Lessens lines past worker t → all_work lines (past ++ t.entry ∷ []) < all_work lines past
work-falls lines past worker t w h = sum-falls (worker_work lines (past ++ t.entry ∷ [])) (worker_work lines past) at_most worker h.1 0 33 (omega arith) (omega arith)
  where
    at_most : (n : ℕ) → worker_work lines (past ++ t.entry ∷ []) n ≤ worker_work lines past n
    at_most n = by (is_own n t.entry) refl
      where
        by : (b : Bool) → is_own n t.entry ≡ b → worker_work lines (past ++ t.entry ∷ []) n ≤ worker_work lines past n
        by true e = subst (λ k. worker_work lines (past ++ t.entry ∷ []) k ≤ worker_work lines past k) (sym h.0 ∙ eqb-true t.entry.worker n e) (omega (arith, h.1))
        by false e = omega (arith, other-work lines past t.entry n e)

pub possible-more : (lines : List Line) (past : List Entry) (worker : ℕ) (t : Turn) → Lessens lines past worker t → ((n : ℕ) → IsPossibleGoing (unfinished past n)) →
    (n : ℕ) → IsPossibleGoing (unfinished (past ++ t.entry ∷ []) n)
possible-more lines past worker t h k n = by (is_own n t.entry) refl
  where
    by : (b : Bool) → is_own n t.entry ≡ b → IsPossibleGoing (unfinished (past ++ t.entry ∷ []) n)
    by true e = subst (λ m. IsPossibleGoing (unfinished (past ++ t.entry ∷ []) m)) (sym h.0 ∙ eqb-true t.entry.worker n e) h.2
    by false e = subst (λ es. IsPossibleGoing (unfinished_from None None es)) (sym (own-more past t.entry n false e)) (k n)

-- what each turn keeps
pub record IsRun (p : Providers) (lines : List Line) (w : World) (past : List Entry) : Type 0 where
  pub legal : IsLegalAt p w past
  pub possible : (worker : ℕ) → IsPossibleGoing (unfinished past worker)
  pub phase : IsInPhase lines past
  pub within : list_all is_worker past ≡ true

pub last-within : (w : ℕ) (past : List Entry) → w < 33 → list_all is_worker past ≡ true → last_worker w past < 33
last-within w [] k h = k
last-within w (e ∷ past) k h = by (is_worker e) refl h (last-within e.worker past)
  where
    under : is_worker e ≡ true → e.worker < 33
    under i = grind (arith, nat_tests)

    by : (b : Bool) → is_worker e ≡ b → (b && list_all is_worker past) ≡ true → (e.worker < 33 → list_all is_worker past ≡ true → last_worker e.worker past < 33) → last_worker e.worker past < 33
    by true i h ih = ih (under i) h
    by false i h ih = absurd (false≢true h)

pub within-more : (past : List Entry) (e : Entry) → e.worker < 33 → list_all is_worker past ≡ true → list_all is_worker (past ++ e ∷ []) ≡ true
within-more past e k h = list_all-append is_worker past (e ∷ []) ∙ (λ i. h i && (is i && true))
  where
    is : is_worker e ≡ true
    is = grind (arith, nat_tests)

pub turn-run : (p : Providers) (lines : List Line) (w : World) (past : List Entry) → IsRun p lines w past →
    IfSome (next_turn p lines w past) (λ t. IsRun p lines t.world (past ++ t.entry ∷ []) × (all_work lines (past ++ t.entry ∷ []) < all_work lines past))
turn-run p lines w past k = next_turn-each p lines w past Next of_worker
  where
    Next : Turn → Type 0
    Next t = IsRun p lines t.world (past ++ t.entry ∷ []) × (all_work lines (past ++ t.entry ∷ []) < all_work lines past)

    joined : (worker : ℕ) → worker < 33 → (t : Option Turn) → IfSome t (λ t. IsLegalAt p t.world (past ++ t.entry ∷ [])) → IfSome t (λ t. IsInPhase lines (past ++ t.entry ∷ [])) → IfSome t (Lessens lines past worker) → IfSome t Next
    joined worker w None l f h = tt
    joined worker w (Some t) l f h =
        (record { legal = l; possible = possible-more lines past worker t h k.possible; phase = f; within = within-more past t.entry (subst (λ n. n < 33) (sym h.0) w) k.within }, work-falls lines past worker t w h)

    of_worker : (worker : ℕ) → MayGo lines past worker → IfSome (turn p lines w past worker) Next
    of_worker worker may = joined worker (may.within (last-within 0 past (omega arith) k.within)) (turn p lines w past worker)
        (turn-legal p lines w past worker k.legal) (turn-phase p lines w past worker may k.phase) (turn-lessens p lines w past worker (k.possible worker))

-- at first the work is that of all lines
pub first-work : (lines : List Line) → all_work lines [] ≤ length lines + script_bytes lines
first-work lines = omega (arith, sum-at_most (worker_work lines []) (λ worker. sum_by line_work (lines_of lines worker)) of_worker workers, lines-all lines 0 33, lines-bytes lines 0)
  where
    of_worker : (worker : ℕ) → worker_work lines [] worker ≤ sum_by line_work (lines_of lines worker)
    of_worker worker = omega (arith, placed-work [] lines worker)

-- a worker without a turn is finished or stuck
pub through_or_stuck : (p : Providers) (lines : List Line) (w : World) (past : List Entry) (worker : ℕ) → after p past ≡ w → turn p lines w past worker ≡ None →
    (is_through lines past worker || is_stuck p past lines worker) ≡ true
through_or_stuck p lines w past worker e n = subst (λ v. (is_through lines past worker || is_stuck_by p v (next_going lines past worker)) ≡ true) (sym e) (by (next_going lines past worker) n)
  where
    stepped : (g : Going) (s : Option Step) → option_map (turn_of worker g) s ≡ None → is_none s ≡ true
    stepped g None n = refl
    stepped g (Some s) n = absurd (none-some (turn_of worker g s) (sym n))

    by : (g : Option Going) → option_and_then (turn_going p w worker) g ≡ None → (is_none g || is_stuck_by p w g) ≡ true
    by None n = refl
    by (Some g) n = stepped g (step_going p w g) n

pub list_all-of : (f : ℕ → Bool) (ns : List ℕ) → AllByRecursion (λ n. f n ≡ true) ns → list_all f ns ≡ true
list_all-of f [] h = refl
list_all-of f (n ∷ ns) h = λ i. h.0 i && list_all-of f ns h.1 i

-- after the setup, workers 1 to 32 have been asked
pub none-of_order : (f : ℕ → Option Turn) (last : ℕ) → last < 33 → first_turn f (order_after last) ≡ None → (k : ℕ) → 1 ≤ k → k < 33 → f k ≡ None
none-of_order f last l n k a b = by (nat_lt last k) refl
  where
    parts : AllByRecursion (λ worker. f worker ≡ None) (numbers (last + 1) (32 - last)) × AllByRecursion (λ worker. f worker ≡ None) (numbers 1 last)
    parts = all-split (λ worker. f worker ≡ None) (numbers (last + 1) (32 - last)) (numbers 1 last) (first_turn-none f (order_after last) n)

    over : nat_lt last k ≡ true → last < k
    over h = grind (arith, nat_tests)

    under : nat_lt last k ≡ false → k ≤ last
    under h = grind (arith, nat_tests)

    by : (h : Bool) → nat_lt last k ≡ h → f k ≡ None
    by true h = let o = over h in at-numbers (λ worker. f worker ≡ None) (last + 1) (32 - last) parts.0 k (omega arith) (omega arith)
    by false h = let u = under h in at-numbers (λ worker. f worker ≡ None) 1 last parts.1 k (omega arith) (omega arith)

pub ends-so : (p : Providers) (lines : List Line) (w : World) (past : List Entry) → IsRun p lines w past → next_turn p lines w past ≡ None →
    IsTrue (if is_through lines past 0 then is_rest_done p past lines else is_setup_stuck p past lines)
ends-so p lines w past k n = by (is_through lines past 0) refl n
  where
    positive : (worker : ℕ) → (worker == 0) ≡ false → 1 ≤ worker
    positive worker z = grind (arith, nat_tests)

    setup : is_through lines past 0 ≡ false → IsInPhase lines past → list_all is_setup past ≡ true
    setup t (inl h) = h
    setup t (inr h) = absurd (false≢true (sym t ∙ h.1))

    by : (b : Bool) → is_through lines past 0 ≡ b → first_turn (turn p lines w past) (if b then order_after (last_worker 0 past) else 0 ∷ []) ≡ None →
        IsTrue (if b then is_rest_done p past lines else is_setup_stuck p past lines)
    by false t n =
        let stuck = subst (λ b. (b || is_stuck p past lines 0) ≡ true) t (through_or_stuck p lines w past 0 k.legal.1 (first_turn-none (turn p lines w past) (0 ∷ []) n).0) in
        (λ i. stuck i && setup t k.phase i)
    by true t n = λ i. phase-first lines past k.phase i && list_all-of (λ worker. is_through lines past worker || is_stuck p past lines worker) workers (all-numbers (λ worker. (is_through lines past worker || is_stuck p past lines worker) ≡ true) 0 33 done) i
      where
        of_number : (worker : ℕ) → worker < 33 → (b : Bool) → (worker == 0) ≡ b → (is_through lines past worker || is_stuck p past lines worker) ≡ true
        of_number worker w33 true z = subst (λ v. (is_through lines past v || is_stuck p past lines v) ≡ true) (sym (eqb-true worker 0 z)) (λ i. t i || is_stuck p past lines 0)
        of_number worker w33 false z = through_or_stuck p lines w past worker k.legal.1 (none-of_order (turn p lines w past) (last_worker 0 past) (last-within 0 past (omega arith) k.within) n worker (positive worker z) w33)

        done : (worker : ℕ) → 0 ≤ worker → worker < 33 → (is_through lines past worker || is_stuck p past lines worker) ≡ true
        done worker a b = of_number worker b (worker == 0) refl
