-- What is kept of a worker, beside its script and the entries so far.
use Rattle.std.specs.Prelude.{Result, IfOk, ℕ, ◌≡◌, ◌+◌, ◌<◌, ◌⊎◌, ◌&&◌, Bool, true, List, [], ◌∷◌, ◌++◌, length, slice_get, slice_index, slice_index_or, is_none, option_and_then, nat_le, Option, Some, None, if◌then◌else◌}
use Rattle.xti_base.specs.declared.limits.TheConstants.{WORKERS}
use Rattle.xti_model.specs.declared.call.Call.{Call}
use Rattle.xti_model.specs.declared.entry.Act.{Act}
use Rattle.xti_model.specs.declared.entry.Act.TheVariants as act
use Rattle.xti_model.specs.declared.entry.Go.{Go}
use Rattle.xti_model.specs.declared.entry.Go.TheVariants as go
use Rattle.xti_model.specs.declared.entry.Outcome.{Outcome}
use Rattle.xti_model.specs.declared.entry.Entry.{Entry}
use Rattle.xti_model.specs.declared.script.Line.{Line}
use Rattle.xti_model.specs.History.{Going, unfinished, going_after, call_after, left_by, step_going}
use Rattle.xti_model.specs.Resolve.{begun}
use Rattle.xti_model.specs.Robin.{next_going, is_through, Turn}
use Rattle.xti_model.specs.Step.{step}
use Rattle.xti_model.specs.World.{World}
use Rattle.xti_core.specs.Standing.{Standing}
use Rattle.xti_replay.specs.declared.workers.Part.{Part}
use Rattle.xti_replay.specs.declared.workers.Worker.{Worker}
use Rattle.xti_replay.specs.declared.names.Names.{Names}
use Rattle.xti_replay.specs.Spots.{places_of}
use Rattle.xti_replay.specs.Known.{Knows, HasLearnt, TellSame}

-- a call that is part way, as the definitions have it
abbrev pub part_going : Option Part → Option Going
part_going None = None
part_going (Some p) = Some (record { call = p.call; so_far = go.More p.taken })

abbrev pub part_call : Option Part → Option Call
part_call None = None
part_call (Some p) = Some p.call

-- this is what the worker has of a call that is part way
abbrev pub HasPart : Worker → Option Going → Type 0
HasPart w going = part_going w.part ≡ going

-- a call that has taken so many bytes
abbrev pub under_way : Call → ℕ → Going
under_way c taken = record { call = c; so_far = go.More taken }

-- a call that begins
abbrev pub pending : Option Call → Option Going
pending None = None
pending (Some c) = Some (record { call = c; so_far = go.Begin })

-- the first of two, where there is one
abbrev pub or_going : Option Going → Option Going → Option Going
or_going None other = other
or_going (Some g) other = Some g

-- the worker's next step, as far as it is known
abbrev pub going_of : Worker → Option Going
going_of w = or_going (pending w.next) (part_going w.part)

-- its call, and how far that has come
abbrev pub call_of : Option Going → Option Call
call_of None = None
call_of (Some g) = Some g.call

abbrev pub so_far_of : Option Going → Go
so_far_of None = go.Begin
so_far_of (Some g) = g.so_far

-- the worker has made all its calls
abbrev pub is_finished : Worker → Bool
is_finished w = is_none w.part && nat_le (length w.places.items) w.begun

-- these numbers, and the worker's last where it isn't finished
abbrev pub turns_with : Worker → ℕ → List ℕ → List ℕ
turns_with w number turns = if is_finished w then turns else turns ++ number ∷ []

-- where the worker's next line stands, if it has one
abbrev pub next_place : Worker → ℕ
next_place w = slice_index w.places.items w.begun

-- how an entry shows the worker's next step
abbrev pub act_by : Option Call → Act
act_by (Some c) = act.Begin c
act_by None = act.More

abbrev pub next_act : Worker → Act
next_act w = act_by w.next

-- the call that an entry begins
abbrev pub begun_call : Act → Option Call
begun_call (act.Begin c) = Some c
begun_call act.More = None

-- the worker, with the call that the act begins as its next
abbrev pub with_begun : Worker → Act → Worker
with_begun w a = record w { next = begun_call a }

-- the entry of a step, where one was made
abbrev pub made_by : Bool → Entry → Option Entry
made_by made e = if made then Some e else None

-- this holds of the entry of the step, if one was made
abbrev pub OfMade : {E : Type 0} → Result Bool E → Entry → (Option Entry → Type 0) → Type 0
OfMade result entry holds = IfOk result (λ made. holds (made_by made entry))

-- the worker's lines, how many of them it has begun, what its names stand for, and its call that is part way
pub record Told (lines : List Line) (past : List Entry) (number : ℕ) (w : Worker) : Type 0 where
  pub places : w.places.items ≡ places_of lines number
  pub count : w.begun ≡ length (begun past number)
  pub names : Knows lines past number w.names
  pub part : part_going w.part ≡ unfinished past number

-- the worker's next call
abbrev pub IsNext : List Line → List Entry → ℕ → Option Call → Type 0
IsNext lines past number next = pending next ≡ next_going lines past number

-- some history of the lines has the worker and worker 0 as they are
abbrev pub HaveHistory : List Line → Worker → Worker → Type 0
HaveHistory lines w setup = (past : List Entry) × (number : ℕ) × Told lines past number w × Told lines past 0 setup

-- it is the worker's next call after each history that has the worker and worker 0 as they are
abbrev pub IsNextCall : List Line → Worker → Worker → Option Call → Type 0
IsNextCall lines w setup next = (past : List Entry) (number : ℕ) → Told lines past number w → Told lines past 0 setup → IsNext lines past number next

-- worker 0 may always be asked, another one once worker 0 is finished
abbrev pub MayAsk : List Line → List Entry → ℕ → Type 0
MayAsk lines past number = (number ≡ 0) ⊎ (is_through lines past 0 ≡ true)

-- a next call that is known is right, and of a worker that may be asked
abbrev pub IsKnown : List Line → List Entry → ℕ → Option Call → Type 0
IsKnown lines past number None = Unit
IsKnown lines past number (Some c) = IsNext lines past number (Some c) × MayAsk lines past number

-- the worker stands as the entries so far have it
pub record IsKept (lines : List Line) (past : List Entry) (number : ℕ) (w : Worker) : Type 0 where
  pub told : Told lines past number w
  pub known : IsKnown lines past number w.next

-- of each worker
abbrev pub Of : (ℕ → Worker → Type 0) → List Worker → Type 0
Of P ws = (number : ℕ) (d : Worker) → number < length ws → P number (slice_index_or ws number d)

-- each of the workers stands as the entries so far have it
pub record AreKept (lines : List Line) (past : List Entry) (ws : List Worker) : Type 0 where
  pub many : length ws ≡ WORKERS
  pub each : Of (IsKept lines past) ws

-- some history has the workers as they are, and lets this one be asked
abbrev pub MayBeAsked : List Line → ℕ → List Worker → Type 0
MayBeAsked lines number ws = (past : List Entry) × AreKept lines past ws × MayAsk lines past number

-- a worker that has begun no line
pub record IsFresh (lines : List Line) (number : ℕ) (w : Worker) : Type 0 where
  pub told : Told lines [] number w
  pub idle : w.next ≡ None

pub record AreFresh (lines : List Line) (ws : List Worker) : Type 0 where
  pub many : length ws ≡ WORKERS
  pub each : Of (IsFresh lines) ws

-- the worker's next step is known
pub record IsReady (lines : List Line) (past : List Entry) (number : ℕ) (w : Worker) : Type 0 where
  pub kept : IsKept lines past number w
  pub going : going_of w ≡ next_going lines past number

-- it is after some history
abbrev pub IsReadyNow : List Line → ℕ → Worker → Type 0
IsReadyNow lines number w = (past : List Entry) × IsReady lines past number w

pub record IsFound (lines : List Line) (past : List Entry) (number : ℕ) (ws : List Worker) : Type 0 where
  pub kept : AreKept lines past ws
  pub ready : (d : Worker) → IsReady lines past number (slice_index_or ws number d)

-- all of the worker but its lines stays
abbrev pub KeepsAllButLines : Worker → Worker → Type 0
KeepsAllButLines old new = (new.begun ≡ old.begun) × (new.names ≡ old.names) × (new.part ≡ old.part) × (new.next ≡ old.next)

-- the worker's lines stay, its call that is part way, and its next call
abbrev pub KeepsLinesAndCalls : Worker → Worker → Type 0
KeepsLinesAndCalls old new = (new.places ≡ old.places) × (new.part ≡ old.part) × (new.next ≡ old.next)

abbrev pub KeepsAllButPart : Worker → Worker → Type 0
KeepsAllButPart old new = (new.places ≡ old.places) × (new.begun ≡ old.begun) × (new.names ≡ old.names) × (new.next ≡ old.next)

-- the worker has a next line for an entry that begins one
abbrev pub MayTake : List Line → Worker → Act → Type 0
MayTake lines w (act.Begin c) = (w.begun < length w.places.items) × (next_place w < length lines)
MayTake lines w act.More = Unit

-- how many lines the entry begins
abbrev pub begun_by : Act → ℕ
begun_by (act.Begin c) = 1
begun_by act.More = 0

-- what is left of a call that was part way, or of the one that the entry begins
abbrev pub left_after : Option Part → Act → Outcome → Option Going
left_after part a outcome = going_after (call_after (part_call part) a) outcome

-- after an entry of the worker this has what is left of its call
abbrev pub KeepsLeft : Worker → Act → Outcome → Worker → Type 0
KeepsLeft old a outcome new = HasPart new (left_after old.part a outcome)

-- the names have what the entry of the line at this place tells, beside what they had
abbrev pub LearnsLine : List Line → ℕ → Outcome → Names → Names → Type 0
LearnsLine lines place outcome old new = (line : Line) → slice_get lines place ≡ Some line → HasLearnt place line.call outcome old new

-- the names have what an entry tells that begins the line at this place, beside what they had; one that goes on tells nothing
abbrev pub Learns : List Line → ℕ → Act → Outcome → Names → Names → Type 0
Learns lines place (act.Begin c) outcome old new = LearnsLine lines place outcome old new
Learns lines place act.More outcome old new = new ≡ old

-- the worker's names have what the entry of its next line tells
abbrev pub LearnsNextLine : List Line → Outcome → Worker → Worker → Type 0
LearnsNextLine lines outcome old new = LearnsLine lines (next_place old) outcome old.names new.names

-- the worker's names have what its next entry tells
abbrev pub LearnsEntry : List Line → Act → Outcome → Worker → Worker → Type 0
LearnsEntry lines a outcome old new = Learns lines (next_place old) a outcome old.names new.names

-- no line was begun, and each name stands for what it did
abbrev pub HasBegunNone : Worker → Worker → Type 0
HasBegunNone old new = (new.begun ≡ old.begun) × TellSame old.names new.names

-- the same; or the entry's line was begun, and what that tells was learnt
abbrev pub HasBegunOrNot : List Line → Act → Outcome → Worker → Worker → Type 0
HasBegunOrNot lines a outcome old new = HasBegunNone old new ⊎ ((new.begun ≡ old.begun + begun_by a) × LearnsEntry lines a outcome old new)

-- what an entry of a worker makes of what is told of it
pub record IsAdvance (lines : List Line) (w new : Worker) (a : Act) (outcome : Outcome) : Type 0 where
  pub places : new.places ≡ w.places
  pub count : new.begun ≡ w.begun + begun_by a
  pub part : part_going new.part ≡ left_after w.part a outcome
  pub names : LearnsEntry lines a outcome w new

-- the call that a worker's entry makes a step of
abbrev pub going_in : Option Part → Act → Option Going
going_in part (act.Begin c) = Some (record { call = c; so_far = go.Begin })
going_in part act.More = part_going part

-- the cells after a step of the call
abbrev pub cells_after : Standing → Call → Go → World
cells_after old c g = left_by old.cells (step old.providers old.cells c g)

-- the step of a worker's entry was made once more
pub record Repeats (part : Option Part) (a : Act) (old new : Standing) : Type 0 where
  pub cells : new.cells ≡ left_by old.cells (option_and_then (step_going old.providers old.cells) (going_in part a))
  pub providers : new.providers ≡ old.providers

-- one worker's step was made, or there was none
abbrev pub Makes : List Line → ℕ → List Entry → Standing → Standing → Worker → Worker → Option Entry → Option Turn → Type 0
Makes lines number past before after old new entry None = (entry ≡ None) × (after ≡ before) × (new ≡ old)
Makes lines number past before after old new entry (Some t) =
    (entry ≡ Some t.entry) × (after.cells ≡ t.world) × (t.entry.worker ≡ number) × Told lines (past ++ t.entry ∷ []) number new × (new.next ≡ None)

-- the worker was asked: its step was made, or there was none
abbrev pub Asked : List Line → ℕ → List Entry → Standing → Standing → List Worker → Option Entry → Option Turn → Type 0
Asked lines number past before after ws entry None = (entry ≡ None) × (after ≡ before) × AreKept lines past ws
Asked lines number past before after ws entry (Some t) =
    (entry ≡ Some t.entry) × (after.cells ≡ t.world) × (t.entry.worker ≡ number) × AreKept lines (past ++ t.entry ∷ []) ws
