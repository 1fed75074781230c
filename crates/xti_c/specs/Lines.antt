-- What C is told of a journal.
use Rattle.std.specs.Prelude.{◌≡◌, ◌<◌, ◌≤◌, ℕ, List, [], length, Option, Some, None}
use Rattle.xti_base.specs.declared.kinds.State.{State}
use Rattle.xti_model.specs.declared.call.Call.{Call}
use Rattle.xti_model.specs.declared.entry.Act.{Act}
use Rattle.xti_model.specs.declared.entry.Act.TheVariants as act
use Rattle.xti_model.specs.declared.entry.Entry.{Entry}
use Rattle.xti_model.specs.declared.entry.Go.{Go}
use Rattle.xti_model.specs.declared.entry.Go.TheVariants.{Begin, More}
use Rattle.xti_model.specs.declared.entry.Outcome.{Outcome}
use Rattle.xti_model.specs.declared.script.Journal.{Journal}
use Rattle.xti_model.specs.Step.{Step, step}
use Rattle.xti_core.specs.Standing.{Standing}
use Rattle.xti_flat.specs.declared.asked.Asked.{Asked}
use Rattle.xti_flat.specs.declared.bytes.Bytes.{Bytes}
use Rattle.xti_flat.specs.Calls.{Asks, go_of}
use Rattle.xti_flat.specs.Answers.{given}
use Rattle.xti_journal_text.specs.JournalText.{entry_text}
use Rattle.xti_c.specs.Opening.{c_providers}
use Rattle.xti_c.specs.declared.recording.Place.{Place}
use Rattle.xti_c.specs.declared.stepping.Ended.{Ended}

-- what a step of the call does: the call begins, or goes on
abbrev pub act_of : Call → Go → Act
act_of c Begin = act.Begin c
act_of c (More taken) = act.More

-- the entry of a step of the call, at this place of the journal
abbrev pub entry_of : Place → Call → Go → Outcome → State → Entry
entry_of p c g o after = record { worker = p.worker; act = act_of c g; outcome = o; after = after }

-- a run in which no step is made
abbrev pub no_steps : Journal
no_steps = record { providers = c_providers; entries = []; stalls = [] }

-- The text is told: its whole length, and as much of it as the room holds. A length of 0: it isn't, and the room is as before.
pub record TellsText (text : List ℕ) (size : ℕ) (room room' : List ℕ) : Type 0 where
  pub told : 0 < size → (size ≡ length text) × (room' ≡ given text room)
  pub untold : size ≡ 0 → room' ≡ room

-- the line of the step that the call makes, at this place of the journal; of no step nothing is told
abbrev pub TellsEntry : Place → Call → Go → Option Step → ℕ → List ℕ → List ℕ → Type 0
TellsEntry p c g None size room room' = (size ≡ 0) × (room' ≡ room)
TellsEntry p c g (Some s) size room room' = TellsText (entry_text p.number (entry_of p c g s.outcome s.after)) size room room'

-- The line of the step, where one is made. Out of memory: nothing is told.
pub record TellsStep (p : Place) (c : Call) (g : Go) (w : Standing) (e : Ended) (room room' : List ℕ) : Type 0 where
  pub made : e.end < 3 → TellsEntry p c g (step w.providers w.cells c g) e.line room room'
  pub not_made : 3 ≤ e.end → (e.line ≡ 0) × (room' ≡ room)

-- The line of the step of the call that was asked for, where one is made. Out of memory, and no such call: nothing is told.
pub record TellsLine (p : Place) (a : Asked) (b : Bytes) (w : Standing) (e : Ended) (room room' : List ℕ) : Type 0 where
  pub made : e.end < 3 → (c : Call) × Asks c a b × TellsEntry p c (go_of a) (step w.providers w.cells c (go_of a)) e.line room room'
  pub not_made : 3 ≤ e.end → (e.line ≡ 0) × (room' ≡ room)
