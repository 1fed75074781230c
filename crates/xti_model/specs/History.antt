-- Entries one after the other: the world that they leave, and whether they are right.
use Rattle.std.specs.Prelude.{ℕ, ◌==◌, Bool, List, [], ◌∷◌, ◌++◌, filter, Option, Some, None, ◌≡◌, option_and_then}
use Rattle.xti_model.specs.declared.call.Call.{Call}
use Rattle.xti_model.specs.declared.entry.Act.{Act}
use Rattle.xti_model.specs.declared.entry.Act.TheVariants as act
use Rattle.xti_model.specs.declared.entry.Go.{Go}
use Rattle.xti_model.specs.declared.entry.Go.TheVariants as go
use Rattle.xti_model.specs.declared.entry.Outcome.{Outcome}
use Rattle.xti_model.specs.declared.entry.Outcome.TheVariants.{Done, Part}
use Rattle.xti_model.specs.declared.entry.Entry.{Entry}
use Rattle.xti_model.specs.declared.profile.Providers.{Providers}
use Rattle.xti_model.specs.World.{World, opening}
use Rattle.xti_model.specs.Step.{Step, step}

-- a call that goes on, and how far it has come
pub record Going : Type 0 where
  pub call : Call
  pub so_far : Go

-- how many bytes earlier steps took
abbrev pub taken_before : Go → ℕ
taken_before go.Begin = 0
taken_before (go.More n) = n

-- the entry is of this worker
abbrev pub is_own : ℕ → Entry → Bool
is_own worker e = e.worker == worker

-- the entries of one worker, in their order
abbrev pub own : List Entry → ℕ → List Entry
own entries worker = filter (is_own worker) entries

-- what a worker's call is after one more entry, where it was this one before
abbrev pub call_after : Option Call → Act → Option Call
call_after c (act.Begin begun) = Some begun
call_after c act.More = c

-- what is left of a call after this outcome: nothing, or the rest of it
abbrev pub going_after : Option Call → Outcome → Option Going
going_after None outcome = None
going_after (Some c) (Done reply) = None
going_after (Some c) (Part n) = Some (record { call = c; so_far = go.More n })

-- the call of a worker that is not finished, by its own entries
abbrev pub unfinished_from : Option Call → Option Going → List Entry → Option Going
unfinished_from c going [] = going
unfinished_from c going (e ∷ es) = unfinished_from (call_after c e.act) (going_after (call_after c e.act) e.outcome) es

-- the call that a worker has begun and not finished
abbrev pub unfinished : List Entry → ℕ → Option Going
unfinished past worker = unfinished_from None None (own past worker)

-- what an entry does: it begins a call where none is unfinished, or goes on with the unfinished one
abbrev pub begins : Option Going → Call → Option Going
begins None c = Some (record { call = c; so_far = go.Begin })
begins (Some g) c = None

-- the call that an entry makes a step of
abbrev pub made_by : Option Going → Act → Option Going
made_by going (act.Begin c) = begins going c
made_by going act.More = going

-- the same, by the entries before
abbrev pub doing : List Entry → Entry → Option Going
doing past e = made_by (unfinished past e.worker) e.act

-- the next step of a call that goes on
abbrev pub step_going : Providers → World → Going → Option Step
step_going p w g = step p w g.call g.so_far

-- the step that an entry is, after these entries
abbrev pub step_at : Providers → World → List Entry → Entry → Option Step
step_at p w past e = option_and_then (step_going p w) (doing past e)

-- a blocked step leaves the world as it is
abbrev pub left_by : World → Option Step → World
left_by w None = w
left_by w (Some s) = s.world

-- the world after the entries, from a world and a past
abbrev pub after_from : Providers → World → List Entry → List Entry → World
after_from p w past [] = w
after_from p w past (e ∷ es) = after_from p (left_by w (step_at p w past e)) (past ++ e ∷ []) es

-- the world after the entries, from the opening world
abbrev pub after : Providers → List Entry → World
after p entries = after_from p (opening p) [] entries

-- the entry has the outcome and the state of the step
abbrev pub Fits : Option Step → Entry → Type 0
Fits None e = ⊥
Fits (Some s) e = (e.outcome ≡ s.outcome) × (e.after ≡ s.after)

-- each entry is the step of its call
abbrev pub LegalFrom : Providers → World → List Entry → List Entry → Type 0
LegalFrom p w past [] = Unit
LegalFrom p w past (e ∷ es) = Fits (step_at p w past e) e × LegalFrom p (left_by w (step_at p w past e)) (past ++ e ∷ []) es

-- a history: each entry has what the step of its call gives there
abbrev pub Legal : Providers → List Entry → Type 0
Legal p entries = LegalFrom p (opening p) [] entries
