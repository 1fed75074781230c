-- What a step leaves for C.
use Rattle.std.specs.Prelude.{◌≡◌, ◌<◌, ◌≤◌, ℕ, List, false, Option, Some, None}
use Rattle.std.specs.Borrow.{Bor}
use Rattle.xti_model.specs.declared.call.Call.{Call}
use Rattle.xti_model.specs.declared.entry.Go.{Go}
use Rattle.xti_model.specs.Memory.{may_run_out}
use Rattle.xti_model.specs.Step.{Step, step}
use Rattle.xti_core.specs.Standing.{Standing}
use Rattle.xti_flat.specs.declared.asked.Asked.{Asked}
use Rattle.xti_flat.specs.declared.bytes.Bytes.{Bytes}
use Rattle.xti_flat.specs.declared.told.Told.{Told}
use Rattle.xti_flat.specs.Calls.{Asks, AsksNoCall, CopiesTakeNone, go_of}
use Rattle.xti_flat.specs.Answers.{Rooms, rooms_of, told_of, end_of, filled}

-- where C reads an answer
pub record Places : Type 0 where
  pub told : Told
  pub rooms : Rooms

-- what was told, and what stands in each room
abbrev pub places_of : Told → List ℕ → List ℕ → List ℕ → Places
places_of told addr opt udata = record { told = told; rooms = rooms_of addr opt udata }

-- the bytes of a call, each in a slice of its own
abbrev pub bytes_of : Bor (List ℕ) → Bor (List ℕ) → Bor (List ℕ) → Bor (List ℕ) → Bytes
bytes_of addr opt udata sizes = record { addr = addr; opt = opt; udata = udata; sizes = sizes }

-- the step was made: the world that it left, the number that was answered, and what C was told; or it is blocked, and all is as before
abbrev pub Leaves : Option Step → Standing → Standing → ℕ → Places → Places → Type 0
Leaves (Some s) w w' n t t' = (w'.cells ≡ s.world) × (n ≡ end_of s.outcome) × (t'.told ≡ told_of s.outcome s.after) × (t'.rooms ≡ filled s.outcome t.rooms)
Leaves None w w' n t t' = (w' ≡ w) × (n ≡ 2) × (t' ≡ t)

-- Below 3 the step of the call, by the definitions. 3: out of memory, which leaves all as it was.
pub record Steps (c : Call) (g : Go) (w w' : Standing) (n : ℕ) (t t' : Places) : Type 0 where
  pub made : n < 3 → Leaves (step w.providers w.cells c g) w w' n t t'
  pub not_made : 3 ≤ n → (w' ≡ w) × (t' ≡ t)
  pub end : n ≤ 3
  pub providers : w'.providers ≡ w.providers

-- out of memory is answered only where the step may take some
abbrev pub IsSure : Call → Go → Standing → ℕ → Type 0
IsSure c g w n = may_run_out w.providers w.cells c g ≡ false → n ≡ 3 → ⊥

-- Below 3 the step of the call that was asked for, by the definitions. 3: out of memory. 4: no call has the number. Both leave all as it was.
pub record Answers (a : Asked) (b : Bytes) (w w' : Standing) (n : ℕ) (t t' : Places) : Type 0 where
  pub made : n < 3 → (c : Call) × Asks c a b × Leaves (step w.providers w.cells c (go_of a)) w w' n t t'
  pub not_made : 3 ≤ n → (w' ≡ w) × (t' ≡ t)
  pub no_call : n ≡ 4 → AsksNoCall a
  pub end : n ≤ 4
  pub providers : w'.providers ≡ w.providers

-- no step of the call that is asked for may run out of memory
abbrev pub StepTakesNone : Standing → Asked → Bytes → Type 0
StepTakesNone w a b = (c : Call) → Asks c a b → may_run_out w.providers w.cells c (go_of a) ≡ false

-- out of memory is answered only where the step or a copy of an argument may take some
abbrev pub RunsOutRightly : Standing → Asked → Bytes → ℕ → Type 0
RunsOutRightly w a b n = CopiesTakeNone a b → StepTakesNone w a b → n ≡ 3 → ⊥

-- where no call has the number, that is answered
abbrev pub TellsNoCall : Asked → ℕ → Type 0
TellsNoCall a n = AsksNoCall a → n ≡ 4
