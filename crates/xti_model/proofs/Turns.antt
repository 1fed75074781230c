-- What each turn of round robin keeps, the whole run keeps.
use Rattle.std.specs.Prelude.{ℕ, zero, suc, Bool, true, false, List, [], ◌∷◌, ◌++◌, Option, Some, None, IfSome, if◌then◌else◌, ◌≡◌, ◌⊎◌}
use Rattle.std.specs.List.{AllByRecursion}
use Rattle.std.proofs.Common.{refl, sym, subst, inl, inr, arith, eqb, ◌+◌, ◌-◌, ◌<◌, ◌≤◌, ◌≢◌}
use Rattle.std.proofs.lemmas.Bool.Decides.{eqb_tells}
use Rattle.std.proofs.lemmas.Option.{none-some}
use Rattle.xti_model.proofs.Appending.{all-append}
use Rattle.xti_model.specs.declared.entry.Entry.{Entry}
use Rattle.xti_model.specs.declared.script.Line.{Line}
use Rattle.xti_model.specs.declared.profile.Providers.{Providers}
use Rattle.xti_model.specs.World.{World}
use Rattle.xti_model.specs.Robin.{is_through, last_worker, numbers, order_after, Turn, turn, first_turn, next_turn, robin_from}

-- what holds of each worker's turn holds of the first turn
pub first_turn-each : (P : Turn → Type 0) (f : ℕ → Option Turn) (workers : List ℕ) → AllByRecursion (λ worker. IfSome (f worker) P) workers → IfSome (first_turn f workers) P
first_turn-each P f [] each = tt
first_turn-each P f (worker ∷ workers) each = pick (f worker) each.0 (first_turn-each P f workers each.1)
  where
    pick : (t : Option Turn) → IfSome t P → IfSome (first_turn f workers) P → IfSome (elim t [ None ↦ first_turn f workers | Some t ↦ Some t ]) P
    pick None h later = later
    pick (Some t) h later = h

-- where there is no first turn, no worker has one
pub first_turn-none : (f : ℕ → Option Turn) (workers : List ℕ) → first_turn f workers ≡ None → AllByRecursion (λ worker. f worker ≡ None) workers
first_turn-none f [] n = tt
first_turn-none f (worker ∷ workers) n = pick (f worker) refl n (first_turn-none f workers)
  where
    pick : (t : Option Turn) → f worker ≡ t → ◌≡◌ {A = Option Turn} (elim t [ None ↦ first_turn f workers | Some t ↦ Some t ]) None →
        (first_turn f workers ≡ None → AllByRecursion (λ worker. f worker ≡ None) workers) → (f worker ≡ None) × AllByRecursion (λ worker. f worker ≡ None) workers
    pick None e n later = (e, later n)
    pick (Some t) e n later = absurd (none-some t (sym n))

pub all-numbers : (P : ℕ → Type 0) (from n : ℕ) → ((k : ℕ) → from ≤ k → k < from + n → P k) → AllByRecursion P (numbers from n)
all-numbers P from zero h = tt
all-numbers P from (suc n) h = (h from (omega arith) (omega arith), all-numbers P (from + 1) n (λ k a b. h k (omega arith) (omega arith)))

pub at-numbers : (P : ℕ → Type 0) (from n : ℕ) → AllByRecursion P (numbers from n) → (k : ℕ) → from ≤ k → k < from + n → P k
at-numbers P from zero h k a b = absurd (omega arith)
at-numbers P from (suc n) h k a b = by (eqb_tells from k) (at-numbers P (from + 1) n h.1 k)
  where
    by : ((eqb from k ≡ true) × (from ≡ k)) ⊎ ((eqb from k ≡ false) × (from ≢ k)) → (from + 1 ≤ k → k < from + 1 + n → P k) → P k
    by (inl e) later = subst P e.1 h.0
    by (inr e) later = later (omega (arith, e.1)) (omega (arith, e.1))

-- another worker than 0 has a turn only where worker 0 is finished, and no worker over 32 has one
pub record MayGo (lines : List Line) (past : List Entry) (worker : ℕ) : Type 0 where
  pub setup : (worker ≡ 0) ⊎ (is_through lines past 0 ≡ true)
  pub within : last_worker 0 past < 33 → worker < 33

pub next_turn-each : (p : Providers) (lines : List Line) (w : World) (past : List Entry) (P : Turn → Type 0) →
    ((worker : ℕ) → MayGo lines past worker → IfSome (turn p lines w past worker) P) → IfSome (next_turn p lines w past) P
next_turn-each p lines w past P each = among (is_through lines past 0) refl
  where
    last : ℕ
    last = last_worker 0 past

    among : (b : Bool) → is_through lines past 0 ≡ b → IfSome (first_turn (turn p lines w past) (if b then order_after (last_worker 0 past) else 0 ∷ [])) P
    among true h = first_turn-each P (turn p lines w past) (order_after (last_worker 0 past))
        (all-append (λ worker. IfSome (turn p lines w past worker) P) (numbers (last + 1) (32 - last)) (numbers 1 last)
        (all-numbers (λ worker. IfSome (turn p lines w past worker) P) (last + 1) (32 - last) (λ k a b. each k (record { setup = inr h; within = λ l. omega arith })))
        (all-numbers (λ worker. IfSome (turn p lines w past worker) P) 1 last (λ k a b. each k (record { setup = inr h; within = λ l. omega arith }))))
    among false h = first_turn-each P (turn p lines w past) (0 ∷ []) (each 0 (record { setup = inl refl; within = λ l. omega arith }), tt)

-- what the turns keep holds in the end, with some world
pub robin_from-keeps : (p : Providers) (lines : List Line) (Keeps : World → List Entry → Type 0) →
    ((w : World) (past : List Entry) → Keeps w past → IfSome (next_turn p lines w past) (λ t. Keeps t.world (past ++ t.entry ∷ []))) →
    (n : ℕ) (w : World) (past : List Entry) → Keeps w past → (v : World) × Keeps v (robin_from p lines n w past)
robin_from-keeps p lines Keeps each zero w past k = (w, k)
robin_from-keeps p lines Keeps each (suc n) w past k = more (next_turn p lines w past) (each w past k) (λ v es. robin_from-keeps p lines Keeps each n v es)
  where
    more : (t : Option Turn) → IfSome t (λ t. Keeps t.world (past ++ t.entry ∷ [])) →
        ((v : World) (es : List Entry) → Keeps v es → (u : World) × Keeps u (robin_from p lines n v es)) →
        (v : World) × Keeps v (elim t [ None ↦ past | Some t ↦ robin_from p lines n t.world (past ++ t.entry ∷ []) ])
    more None h later = (w, k)
    more (Some t) h later = later t.world (past ++ t.entry ∷ []) h

-- where each turn leaves less work, the run goes on until no worker has a turn
pub robin_from-ends : (p : Providers) (lines : List Line) (Keeps : World → List Entry → Type 0) (work : List Entry → ℕ) →
    ((w : World) (past : List Entry) → Keeps w past → IfSome (next_turn p lines w past) (λ t. Keeps t.world (past ++ t.entry ∷ []) × (work (past ++ t.entry ∷ []) < work past))) →
    (n : ℕ) (w : World) (past : List Entry) → Keeps w past → work past ≤ n →
    (v : World) × (next_turn p lines v (robin_from p lines n w past) ≡ None) × Keeps v (robin_from p lines n w past)
robin_from-ends p lines Keeps work each zero w past k le = stop (next_turn p lines w past) refl (each w past k)
  where
    stop : (t : Option Turn) → next_turn p lines w past ≡ t → IfSome t (λ t. Keeps t.world (past ++ t.entry ∷ []) × (work (past ++ t.entry ∷ []) < work past)) →
        (v : World) × (next_turn p lines v past ≡ None) × Keeps v past
    stop None e h = (w, e, k)
    stop (Some t) e h = absurd (omega (arith, h.1))
robin_from-ends p lines Keeps work each (suc n) w past k le = more (next_turn p lines w past) refl (each w past k) (λ v es. robin_from-ends p lines Keeps work each n v es)
  where
    more : (t : Option Turn) → next_turn p lines w past ≡ t → IfSome t (λ t. Keeps t.world (past ++ t.entry ∷ []) × (work (past ++ t.entry ∷ []) < work past)) →
        ((v : World) (es : List Entry) → Keeps v es → work es ≤ n → (u : World) × (next_turn p lines u (robin_from p lines n v es) ≡ None) × Keeps u (robin_from p lines n v es)) →
        (v : World) × (next_turn p lines v (elim t [ None ↦ past | Some t ↦ robin_from p lines n t.world (past ++ t.entry ∷ []) ]) ≡ None)
        × Keeps v (elim t [ None ↦ past | Some t ↦ robin_from p lines n t.world (past ++ t.entry ∷ []) ])
    more None e h later = (w, e, k)
    more (Some t) e h later = later t.world (past ++ t.entry ∷ []) h.0 (omega (arith, h.1))
