-- The history in which the workers take turns.
use Rattle.std.specs.Prelude.{ℕ, zero, suc, ◌+◌, ◌-◌, Bool, List, [], ◌∷◌, ◌++◌, length, slice_get, Option, Some, None, is_none, option_map, option_and_then, if◌then◌else◌}
use Rattle.xti_base.specs.declared.limits.TheConstants.{LAST_WORKER, MOST_STEPS}
use Rattle.xti_model.specs.declared.call.Call.{Call}
use Rattle.xti_model.specs.declared.entry.Act.{Act}
use Rattle.xti_model.specs.declared.entry.Act.TheVariants as act
use Rattle.xti_model.specs.declared.entry.Go.{Go}
use Rattle.xti_model.specs.declared.entry.Go.TheVariants as go
use Rattle.xti_model.specs.declared.entry.Entry.{Entry}
use Rattle.xti_model.specs.declared.script.Line.{Line}
use Rattle.xti_model.specs.declared.script.Script.{Script}
use Rattle.xti_model.specs.declared.profile.Providers.{Providers}
use Rattle.xti_model.specs.World.{World, opening}
use Rattle.xti_model.specs.Step.{Step}
use Rattle.xti_model.specs.History.{Going, unfinished, step_going}
use Rattle.xti_model.specs.Resolve.{Placed, placed, resolved, begun}

-- the first line that the worker has not begun
abbrev pub next_line : List Line → List Entry → ℕ → Option Placed
next_line lines past worker = slice_get (placed lines worker) (length (begun past worker))

-- its call, with what its names stand for now
abbrev pub begin_line : List Entry → Placed → Going
begin_line past l = record { call = resolved l.earlier l.line past; so_far = go.Begin }

-- the next step of a worker: its unfinished call goes on, or its next line begins; none where it is finished
abbrev pub next_or : List Line → List Entry → ℕ → Option Going → Option Going
next_or lines past worker None = option_map (begin_line past) (next_line lines past worker)
next_or lines past worker (Some g) = Some g

-- the next step of a worker
abbrev pub next_going : List Line → List Entry → ℕ → Option Going
next_going lines past worker = next_or lines past worker (unfinished past worker)

-- the worker has made all its calls
abbrev pub is_through : List Line → List Entry → ℕ → Bool
is_through lines past worker = is_none (next_going lines past worker)

-- how an entry shows the step
abbrev pub act_of : Go → Call → Act
act_of go.Begin c = act.Begin c
act_of (go.More n) c = act.More

-- a step of a worker, and its entry
pub record Turn : Type 0 where
  pub entry : Entry
  pub world : World

-- the entry of a step
abbrev pub turn_of : ℕ → Going → Step → Turn
turn_of worker g s = record { entry = record { worker = worker; act = act_of g.so_far g.call; outcome = s.outcome; after = s.after }; world = s.world }

-- none where the step is blocked
abbrev pub turn_going : Providers → World → ℕ → Going → Option Turn
turn_going p w worker g = option_map (turn_of worker g) (step_going p w g)

-- none where the worker is finished or blocked
abbrev pub turn : Providers → List Line → World → List Entry → ℕ → Option Turn
turn p lines w past worker = option_and_then (turn_going p w worker) (next_going lines past worker)

-- the first worker of a list that makes a step
abbrev pub first_turn : (ℕ → Option Turn) → List ℕ → Option Turn
first_turn turn_of [] = None
first_turn turn_of (worker ∷ workers) = elim (turn_of worker) [ None ↦ first_turn turn_of workers | Some t ↦ Some t ]

-- so many numbers, from the first on
abbrev pub numbers : ℕ → ℕ → List ℕ
numbers from zero = []
numbers from (suc n) = from ∷ numbers (from + 1) n

-- the workers but 0, from the one after the last that made a step
abbrev pub order_after : ℕ → List ℕ
order_after last = numbers (last + 1) (LAST_WORKER - last) ++ numbers 1 last

-- the worker of the last entry
abbrev pub last_worker : ℕ → List Entry → ℕ
last_worker w [] = w
last_worker w (e ∷ es) = last_worker e.worker es

-- worker 0 alone until it is finished, then the others in turn
abbrev pub whose_turn : List Line → List Entry → List ℕ
whose_turn lines past = if is_through lines past 0 then order_after (last_worker 0 past) else 0 ∷ []

-- the next step of all
abbrev pub next_turn : Providers → List Line → World → List Entry → Option Turn
next_turn p lines w past = first_turn (turn p lines w past) (whose_turn lines past)

-- at most so many steps more
abbrev pub robin_from : Providers → List Line → ℕ → World → List Entry → List Entry
robin_from p lines zero w past = past
robin_from p lines (suc more) w past = elim (next_turn p lines w past) [ None ↦ past | Some t ↦ robin_from p lines more t.world (past ++ t.entry ∷ []) ]

-- a bound on the steps of a script
abbrev pub most_steps : ℕ
most_steps = MOST_STEPS

-- the whole run of a script, from the opening world
abbrev pub robin : Script → List Entry
robin s = robin_from s.providers s.lines most_steps (opening s.providers) []
