-- Round robin goes on from any history of its script.
use Rattle.std.specs.Prelude.{ℕ, zero, suc, ◌+◌, ◌<◌, ◌≤◌, ◌==◌, ◌&&◌, ◌≢◌, nat_lt, filter, Bool, true, false, List, [], ◌∷◌, length, take, slice_get, Some, IfSome, ◌≡◌, ◌⊎◌}
use Rattle.std.specs.List.{AllByRecursion, list_all}
use Rattle.std.proofs.Common.{refl, sym, ap, subst, ◌∙◌, arith, eqb, inl, inr}
use Rattle.std.proofs.lemmas.Bool.{eqb-true, false≢true, ne_eqb}
use Rattle.std.proofs.lemmas.Bool.Decides.{eqb_tells, nat_tests}
use Rattle.xti_model.specs.declared.entry.Entry.{Entry}
use Rattle.xti_model.specs.declared.script.Line.{Line}
use Rattle.xti_model.specs.declared.profile.Providers.{Providers}
use Rattle.xti_model.specs.History.{own, after}
use Rattle.xti_model.specs.Resolve.{Placed, placed, begun, is_begin}
use Rattle.xti_model.specs.Robin.{is_through, numbers, robin_from}
use Rattle.xti_model.specs.Work.{script_bytes}
use Rattle.xti_model.specs.Complete.{Follows, Each, workers, is_worker, is_setup, setup_first, Complete}
use Rattle.xti_model.specs.Following.{IsSettled, HasBegunAll, IsFollowed}
use Rattle.xti_model.proofs.Following.{IsPlace, IsWithin, placed-place, placed-within, placed-lines, through-begun, robin_from-follows, each-of_all}
use Rattle.xti_model.proofs.Turns.{robin_from-ends}
use Rattle.xti_model.proofs.Completing.{IsRun, all_work, turn-run, ends-so}
use Rattle.xti_model.specs.Complete.{IsHistoryOf}
use Rattle.xti_model.proofs.Unfinished.{possible-of_legal}
use Rattle.xti_model.proofs.WorkLeft.{history-work}

-- what holds of the first so many members
pub all-first : {X : Type 0} (P : X → Type 0) (xs : List X) (k : ℕ) → ((n : ℕ) (x : X) → n < k → slice_get xs n ≡ Some x → P x) → AllByRecursion P (take k xs)
all-first P xs zero h = tt
all-first P [] (suc k) h = tt
all-first P (x ∷ xs) (suc k) h = (h zero x (omega arith) refl, all-first P xs k (λ n y lt e. h (suc n) y (omega arith) e))

pub at-each : (P : ℕ → Type 0) (from n : ℕ) → Each P (numbers from n) → (k : ℕ) → from ≤ k → k < from + n → P k
at-each P from zero h k a b = absurd (omega arith)
at-each P from (suc n) h k a b = by (eqb_tells from k) (at-each P (from + 1) n h.1 k)
  where
    by : ((eqb from k ≡ true) × (from ≡ k)) ⊎ ((eqb from k ≡ false) × (from ≢ k)) → (from + 1 ≤ k → k < from + 1 + n → P k) → P k
    by (inl e) later = subst P e.1 h.0
    by (inr e) later = later (omega (arith, e.1)) (omega (arith, e.1))

-- no worker over 32 has entries
pub own-none : (past : List Entry) (worker : ℕ) → 33 ≤ worker → list_all is_worker past ≡ true → own past worker ≡ []
own-none [] worker over h = refl
own-none (e ∷ past) worker over h = by (is_worker e) refl h (own-none past worker over)
  where
    under : is_worker e ≡ true → e.worker < 33
    under i = grind (arith, nat_tests)

    by : (b : Bool) → is_worker e ≡ b → (b && list_all is_worker past) ≡ true → (list_all is_worker past ≡ true → own past worker ≡ []) → own (e ∷ past) worker ≡ []
    by true i h ih = let u = under i in rw (ne_eqb e.worker worker (λ x. omega (arith, x))) (ih h)
    by false i h ih = absurd (false≢true h)

-- nor a worker other than 0 where worker 0 alone has
pub own-alone : (past : List Entry) (worker : ℕ) → 1 ≤ worker → list_all is_setup past ≡ true → own past worker ≡ []
own-alone [] worker over h = refl
own-alone (e ∷ past) worker over h = by (is_setup e) refl h (own-alone past worker over)
  where
    by : (b : Bool) → is_setup e ≡ b → (b && list_all is_setup past) ≡ true → (list_all is_setup past ≡ true → own past worker ≡ []) → own (e ∷ past) worker ≡ []
    by true i h ih = let u = eqb-true e.worker 0 i in rw (ne_eqb e.worker worker (λ x. omega (arith, x, u))) (ih h)
    by false i h ih = absurd (false≢true h)

-- a script's run begins
pub history-begins : (p : Providers) (lines : List Line) → IsHistoryOf p lines []
history-begins p lines = record { legal = tt; workers_only = refl; follows = each-of_all (Follows [] lines) (λ worker. refl) workers; phase = inl refl }

module _ {p : Providers} {lines : List Line} {past : List Entry} (h : IsHistoryOf p lines past) where
  pub history-follows : (worker : ℕ) → Follows past lines worker
  history-follows worker = by (nat_lt worker 33) refl
    where
      by : (b : Bool) → nat_lt worker 33 ≡ b → Follows past lines worker
      by true i = let u : worker < 33 = grind (arith, nat_tests) in at-each (Follows past lines) 0 33 h.follows worker (omega arith) (omega arith)
      by false i = let u : 33 ≤ worker = grind (arith, nat_tests) in let none = own-none past worker u h.workers_only in rw none refl

  -- worker 0, a worker without entries, or one after the setup
  setup-begun : (worker n : ℕ) (l : Placed) → n < length (begun past worker) → slice_get (placed lines worker) n ≡ Some l → HasBegunAll l.earlier past l.line.worker → l.line.worker ≡ worker → HasBegunAll l.earlier past 0
  setup-begun worker n l lt e own_begun same = by_phase (worker == 0) refl h.phase
    where
      within : IsWithin lines 0 l
      within = subst (λ o. IfSome o (IsWithin lines 0)) e (placed-within [] lines worker 0 n)

      by_phase : (b : Bool) → (worker == 0) ≡ b → (list_all is_setup past ≡ true) ⊎ ((setup_first past ≡ true) × (is_through lines past 0 ≡ true)) → HasBegunAll l.earlier past 0
      by_phase true z f = subst (HasBegunAll l.earlier past) (same ∙ eqb-true worker 0 z) own_begun
      by_phase false z (inl all) =
          let u : 1 ≤ worker = grind (arith, nat_tests) in
          let none : length (begun past worker) ≡ 0 = ap (λ es. length (filter (λ e. is_begin e.act) es)) (own-alone past worker u all) in
          absurd (omega (arith, none))
      by_phase false z (inr t) = omega (arith, within, through-begun lines past 0 t.1, placed-lines [] lines 0)

  pub history-followed : (worker : ℕ) → IsFollowed lines past worker
  history-followed worker = record {
    follows = history-follows worker;
    settled = all-first (IsSettled past) (placed lines worker) (length (begun past worker)) settled;
  }
    where
      settled : (n : ℕ) (l : Placed) → n < length (begun past worker) → slice_get (placed lines worker) n ≡ Some l → IsSettled past l
      settled n l lt e =
          let place : IsPlace [] worker n l = subst (λ o. IfSome o (IsPlace [] worker n)) e (placed-place [] lines worker n) in
          let here : HasBegunAll l.earlier past worker = omega (arith, place.1) in
          let own_begun : HasBegunAll l.earlier past l.line.worker = subst (HasBegunAll l.earlier past) (sym place.0) here in
          (own_begun, setup-begun worker n l lt e own_begun place.0)

  pub history-run : IsRun p lines (after p past) past
  history-run = record { legal = (h.legal, refl); possible = possible-of_legal p past h.legal; phase = h.phase; within = h.workers_only }

  pub robin-follows : (n : ℕ) → Each (Follows (robin_from p lines n (after p past) past) lines) workers
  robin-follows n =
      each-of_all (Follows (robin_from p lines n (after p past) past) lines) (λ worker. (robin_from-follows p lines n (after p past) past history-followed worker).follows) workers

  pub robin-complete : (n : ℕ) → length lines + script_bytes lines ≤ n → Complete p (robin_from p lines n (after p past) past) lines
  robin-complete n le =
      let run = robin_from-ends p lines (IsRun p lines) (all_work lines) (turn-run p lines) n (after p past) past history-run (omega (arith, history-work lines past history-follows, le)) in
      record { workers_only = run.2.within; follows = robin-follows n; ends = ends-so p lines run.0 (robin_from p lines n (after p past) past) run.2 run.1 }
