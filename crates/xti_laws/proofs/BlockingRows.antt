-- Which rows of a plan make a step wait.
use Rattle.std.proofs.Common.{ℕ, Bool, true, false, List, [], ◌∷◌, ◌≡◌, refl, sym, ap, ◌∙◌, cond, not, ◌&&◌, map, Option, Some, None}
use Rattle.std.specs.Prelude.{is_none}
use Rattle.std.proofs.lemmas.Bool.{false≢true}
use Rattle.xti_model.specs.declared.profile.Providers.{Providers}
use Rattle.xti_model.specs.Endpoint.{Endpoint}
use Rattle.xti_model.specs.World.{World, endpoint}
use Rattle.xti_model.specs.Plan.{Row, Plan, Refusal, answers, waits, loses, first, later, later_row, if_open, on_open}
use Rattle.xti_model.specs.Step.{step_by, step_of}
use Rattle.xti_model.specs.Wants.{is_waiting}

-- the step of a plan is blocked where the first row that holds waits, in blocking mode
pub step_of-blocked : (p : Providers) (w : World) (x : Plan) → is_none (step_of p w x) ≡ (not x.nonblock && is_waiting (first x.rows))
step_of-blocked p w x = go (first x.rows) x.nonblock
  where
    go : (r : Option Refusal) (b : Bool) → is_none (step_by p w (record x { nonblock = b }) r) ≡ (not b && is_waiting r)
    go None true = refl
    go None false = refl
    go (Some (answers reply)) true = refl
    go (Some (answers reply)) false = refl
    go (Some (waits reply)) true = refl
    go (Some (waits reply)) false = refl
    go (Some loses) true = refl
    go (Some loses) false = refl

abbrev pub waits_at : (Endpoint → List Row) → Option Endpoint → Bool
waits_at rows None = false
waits_at rows (Some e) = not e.nonblock && is_waiting (first (rows e))

-- a call on an open endpoint waits as other rows do
pub on_open-blocked : (p : Providers) (w : World) (fd : ℕ) (f : Endpoint → Plan) (rows : Endpoint → List Row)
    → ((e : Endpoint) → ((f e).nonblock ≡ e.nonblock) × (is_waiting (first (f e).rows) ≡ is_waiting (first (rows e))))
    → is_none (step_of p w (on_open p w fd f)) ≡ waits_at rows (endpoint p w fd)
on_open-blocked p w fd f rows h = go (endpoint p w fd)
  where
    go : (o : Option Endpoint) → is_none (step_of p w (if_open fd o f)) ≡ waits_at rows o
    go None = refl
    go (Some e) = step_of-blocked p w (f e) ∙ (ap (λ b. not b && is_waiting (first (f e).rows)) (h e).0 ∙ ap (λ b. not e.nonblock && b) (h e).1)

-- no row waits
abbrev pub NoWait : List Row → Type 0
NoWait [] = Unit
NoWait (row ∷ rows) = (is_waiting (Some row.refusal) ≡ false) × NoWait rows

pub no_wait : (rows : List Row) → NoWait rows → is_waiting (first rows) ≡ false
no_wait [] h = refl
no_wait (row ∷ rows) h = go row.holds (no_wait rows h.1)
  where
    go : (b : Bool) → is_waiting (first rows) ≡ false → is_waiting (cond b (Some row.refusal) (first rows)) ≡ false
    go true k = h.0
    go false k = k

pub and-false : (b : Bool) → (b && false) ≡ false
and-false true = refl
and-false false = refl

pub on_open-never : (p : Providers) (w : World) (fd : ℕ) (f : Endpoint → Plan) → ((e : Endpoint) → NoWait (f e).rows) → is_none (step_of p w (on_open p w fd f)) ≡ false
on_open-never p w fd f h = go (endpoint p w fd)
  where
    go : (o : Option Endpoint) → is_none (step_of p w (if_open fd o f)) ≡ false
    go None = refl
    go (Some e) = step_of-blocked p w (f e) ∙ (ap (λ b. not (f e).nonblock && b) (no_wait (f e).rows (h e)) ∙ and-false (not (f e).nonblock))

-- both lists begin with the row
pub same_row : (row : Row) (xs ys : List Row) → is_waiting (first xs) ≡ is_waiting (first ys) → is_waiting (first (row ∷ xs)) ≡ is_waiting (first (row ∷ ys))
same_row row xs ys h = go row.holds
  where
    go : (b : Bool) → is_waiting (cond b (Some row.refusal) (first xs)) ≡ is_waiting (cond b (Some row.refusal) (first ys))
    go true = refl
    go false = h

-- what a test tells of each refusal of a later step as of the first step's, it tells of the rows
pub later-same : (test : Option Refusal → Bool) (n : ℕ) → ((r : Refusal) → test (Some (later n r)) ≡ test (Some r)) → (rows : List Row) → test (first (map (later_row n) rows)) ≡ test (first rows)
later-same test n h [] = refl
later-same test n h (row ∷ rows) = go row.holds (later-same test n h rows)
  where
    go : (b : Bool) → test (first (map (later_row n) rows)) ≡ test (first rows) → test (cond b (Some (later n row.refusal)) (first (map (later_row n) rows))) ≡ test (cond b (Some row.refusal) (first rows))
    go true k = h row.refusal
    go false k = k

-- a later step of a send waits where the first would
pub later-waits : (n : ℕ) (rows : List Row) → is_waiting (first (map (later_row n) rows)) ≡ is_waiting (first rows)
later-waits n rows = later-same is_waiting n (λ r. elim r as (λ k. is_waiting (Some (later n k)) ≡ is_waiting (Some k)) [ answers reply ↦ refl | waits reply ↦ refl | loses ↦ refl ]) rows

and-right : (a b : Bool) → (a && b) ≡ true → b ≡ true
and-right true b h = h
and-right false b h = absurd (false≢true h)

-- where the step of a plan is blocked, its first row that holds waits
pub blocked-waits : (p : Providers) (w : World) (x : Plan) → is_none (step_of p w x) ≡ true → is_waiting (first x.rows) ≡ true
blocked-waits p w x h = and-right (not x.nonblock) (is_waiting (first x.rows)) (sym (step_of-blocked p w x) ∙ h)

pub open-waits : (p : Providers) (w : World) (fd : ℕ) (f : Endpoint → Plan) (P : Type 0) → ((e : Endpoint) → is_waiting (first (f e).rows) ≡ true → P) → is_waiting (first (on_open p w fd f).rows) ≡ true → P
open-waits p w fd f P h = go (endpoint p w fd)
  where
    go : (o : Option Endpoint) → is_waiting (first (if_open fd o f).rows) ≡ true → P
    go None k = absurd (false≢true k)
    go (Some e) k = h e k
