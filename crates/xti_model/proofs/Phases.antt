-- The setup comes first: worker 0 alone has entries until it is finished, and then the others.
use Rattle.std.specs.Prelude.{ℕ, ◌==◌, ◌&&◌, not, Bool, true, false, List, [], ◌∷◌, ◌++◌, length, filter, slice_get, Option, Some, None, IfSome, is_none, option_map, option_and_then, ◌≡◌, ◌⊎◌, if◌then◌else◌}
use Rattle.std.specs.List.{list_any, list_all}
use Rattle.std.proofs.Common.{refl, sym, ap, subst, ◌∙◌, inl, inr}
use Rattle.std.proofs.lemmas.Bool.{eq-eqb, eqb-true, false≢true}
use Rattle.std.proofs.lemmas.List.Folds.{list_all-append}
use Rattle.xti_model.specs.declared.entry.Entry.{Entry}
use Rattle.xti_model.specs.declared.script.Line.{Line}
use Rattle.xti_model.specs.declared.profile.Providers.{Providers}
use Rattle.xti_model.specs.World.{World}
use Rattle.xti_model.specs.Step.{Step}
use Rattle.xti_model.specs.History.{Going, own, unfinished, unfinished_from, step_going}
use Rattle.xti_model.specs.Resolve.{Placed, placed, is_begin}
use Rattle.xti_model.specs.Robin.{begin_line, next_line, next_or, next_going, is_through, Turn, turn_of, turn_going, turn}
use Rattle.xti_model.specs.Complete.{is_setup, setup_first}
use Rattle.xti_model.proofs.Turns.{MayGo}
use Rattle.xti_model.proofs.Working.{own-more}

-- what holds of each possible entry holds of the turn
pub turn-each : (p : Providers) (lines : List Line) (w : World) (past : List Entry) (worker : ℕ) (P : Turn → Type 0) →
    ((g : Going) (s : Step) → P (turn_of worker g s)) → IfSome (turn p lines w past worker) P
turn-each p lines w past worker P h = next (next_going lines past worker)
  where
    stepped : (g : Going) (s : Option Step) → IfSome (option_map (turn_of worker g) s) P
    stepped g None = tt
    stepped g (Some s) = h g s

    next : (g : Option Going) → IfSome (option_and_then (turn_going p w worker) g) P
    next None = tt
    next (Some g) = stepped g (step_going p w g)

-- a worker that is finished has no turn
pub through-turn : (p : Providers) (lines : List Line) (w : World) (past : List Entry) (worker : ℕ) (P : Turn → Type 0) → is_through lines past worker ≡ true → IfSome (turn p lines w past worker) P
through-turn p lines w past worker P h = next (next_going lines past worker) h
  where
    next : (g : Option Going) → is_none g ≡ true → IfSome (option_and_then (turn_going p w worker) g) P
    next None h = tt
    next (Some g) h = absurd (false≢true h)

-- whether a worker is finished rests on its own entries
abbrev pub is_through_by : List Placed → List Entry → Option Going → Bool
is_through_by lines entries (Some g) = false
is_through_by lines entries None = is_none (slice_get lines (length (filter (λ e. is_begin e.act) entries)))

pub through-by : (lines : List Line) (past : List Entry) (worker : ℕ) → is_through lines past worker ≡ is_through_by (placed lines worker) (own past worker) (unfinished past worker)
through-by lines past worker = by (unfinished past worker)
  where
    line : (l : Option Placed) → is_none (option_map (begin_line past) l) ≡ is_none l
    line None = refl
    line (Some l) = refl

    by : (u : Option Going) → is_none (next_or lines past worker u) ≡ is_through_by (placed lines worker) (own past worker) u
    by (Some g) = refl
    by None = line (next_line lines past worker)

pub through-same : (lines : List Line) (past more : List Entry) (worker : ℕ) → own more worker ≡ own past worker → is_through lines more worker ≡ is_through lines past worker
through-same lines past more worker h =
    through-by lines more worker ∙ ap (λ es. is_through_by (placed lines worker) es (unfinished_from None None es)) h ∙ sym (through-by lines past worker)

pub setup_first-of_all : (past : List Entry) → list_all is_setup past ≡ true → setup_first past ≡ true
setup_first-of_all [] h = refl
setup_first-of_all (e ∷ past) h = by (is_setup e) h (setup_first-of_all past)
  where
    by : (b : Bool) → (b && list_all is_setup past) ≡ true → (list_all is_setup past ≡ true → setup_first past ≡ true) → (if b then setup_first past else not (list_any is_setup past)) ≡ true
    by true h ih = ih h
    by false h ih = absurd (false≢true h)

pub any_setup-more : (past : List Entry) (e : Entry) → is_setup e ≡ false → list_any is_setup (past ++ e ∷ []) ≡ list_any is_setup past
any_setup-more [] e h = simp h refl
any_setup-more (x ∷ past) e h = simp (any_setup-more past e h) refl

pub setup_first-more : (past : List Entry) (e : Entry) → is_setup e ≡ false → setup_first past ≡ true → setup_first (past ++ e ∷ []) ≡ true
setup_first-more [] e h f = simp h refl
setup_first-more (x ∷ past) e h f = by (is_setup x) f (setup_first-more past e h)
  where
    by : (b : Bool) → (if b then setup_first past else not (list_any is_setup past)) ≡ true → (setup_first past ≡ true → setup_first (past ++ e ∷ []) ≡ true) →
        (if b then setup_first (past ++ e ∷ []) else not (list_any is_setup (past ++ e ∷ []))) ≡ true
    by true f ih = ih f
    by false f ih = rw (any_setup-more past e h) f

-- worker 0 alone has entries; or it is finished, and its entries come first
abbrev pub IsInPhase : List Line → List Entry → Type 0
IsInPhase lines past = (list_all is_setup past ≡ true) ⊎ ((setup_first past ≡ true) × (is_through lines past 0 ≡ true))

pub phase-first : (lines : List Line) (past : List Entry) → IsInPhase lines past → setup_first past ≡ true
phase-first lines past (inl h) = setup_first-of_all past h
phase-first lines past (inr h) = h.0

pub all_setup-more : (past : List Entry) (e : Entry) → e.worker ≡ 0 → list_all is_setup past ≡ true → list_all is_setup (past ++ e ∷ []) ≡ true
all_setup-more past e z h = list_all-append is_setup past (e ∷ []) ∙ (λ i. h i && (eq-eqb e.worker 0 z i && true))

pub turn-phase : (p : Providers) (lines : List Line) (w : World) (past : List Entry) (worker : ℕ) → MayGo lines past worker → IsInPhase lines past →
    IfSome (turn p lines w past worker) (λ t. IsInPhase lines (past ++ t.entry ∷ []))
turn-phase p lines w past worker may phase = by (worker == 0) refl may.setup phase (is_through lines past 0) refl
  where
    Next : Turn → Type 0
    Next t = IsInPhase lines (past ++ t.entry ∷ [])

    by : (b : Bool) → (worker == 0) ≡ b → (worker ≡ 0) ⊎ (is_through lines past 0 ≡ true) → IsInPhase lines past → (h : Bool) → is_through lines past 0 ≡ h → IfSome (turn p lines w past worker) Next
    by true z m f true t = through-turn p lines w past worker Next (subst (λ n. is_through lines past n ≡ true) (sym (eqb-true worker 0 z)) t)
    by true z m (inl f) false t = turn-each p lines w past worker Next (λ g s. inl (all_setup-more past (turn_of worker g s).entry (eqb-true worker 0 z) f))
    by true z m (inr f) false t = absurd (false≢true (sym t ∙ f.1))
    by false z (inl m) f h t = absurd (false≢true (sym z ∙ eq-eqb worker 0 m))
    by false z (inr m) f h t = turn-each p lines w past worker Next (λ g s.
        inr (setup_first-more past (turn_of worker g s).entry z (phase-first lines past f), through-same lines past (past ++ (turn_of worker g s).entry ∷ []) 0 (own-more past (turn_of worker g s).entry 0 false z) ∙ m))
