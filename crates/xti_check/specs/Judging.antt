-- What is kept while a journal is judged.
use Rattle.std.specs.Prelude.{◌≡◌, ℕ, ◌<◌, ◌≤◌, List, [], ◌∷◌, ◌++◌, length, slice_index_or, Option, Some, None}
use Rattle.xti_base.specs.declared.limits.TheConstants.{WORKERS, LAST_WORKER}
use Rattle.xti_base.specs.declared.kinds.State.{State}
use Rattle.xti_model.specs.declared.entry.Entry.{Entry}
use Rattle.xti_model.specs.declared.entry.Outcome.{Outcome}
use Rattle.xti_model.specs.declared.script.StallLine.{StallLine}
use Rattle.xti_model.specs.Step.{Step}
use Rattle.xti_model.specs.History.{unfinished, doing, step_at, after, Fits, Legal}
use Rattle.xti_check.specs.Parts.{going_of}
use Rattle.xti_journal_text.specs.JournalText.{answer_text}
use Rattle.xti_model.specs.declared.script.Journal.{Journal}
use Rattle.xti_check.specs.declared.judging.Judge.{Judge}
use Rattle.xti_check.specs.declared.verdict.Verdict.{Verdict}
use Rattle.xti_laws_texts.specs.Texts.{AreNumbers}
use Rattle.xti_check.specs.Verdicts.{wanted, stalling, IsRightStall, IsVerdict}

-- it stands after these entries: at the world that they leave, and with the unfinished call of each worker
pub record StandsAfter (past : List Entry) (judge : Judge) : Type 0 where
  pub count : length judge.parts ≡ WORKERS
  pub world : judge.world.cells ≡ after judge.world.providers past
  pub own : (worker : ℕ) → worker < WORKERS → going_of judge.entries.now (slice_index_or judge.parts worker None) ≡ unfinished past worker

-- the numbers of what the step answers have 32 bits
abbrev pub HasNumbers : Option Step → Type 0
HasNumbers None = Unit {0}
HasNumbers (Some s) = AreNumbers s.outcome

-- what an entry is after these: right, and the judge stands after it; or this should stand there, of numbers that have 32 bits
abbrev pub JudgesEntry : List Entry → Entry → Judge → Judge → Option (List ℕ) → Type 0
JudgesEntry past e old new None = Fits (step_at old.world.providers (after old.world.providers past) past e) e × StandsAfter (past ++ e ∷ []) new
JudgesEntry past e old new (Some text) = (Fits (step_at old.world.providers (after old.world.providers past) past e) e → ⊥) × (text ≡ wanted old.world.providers (after old.world.providers past) e.act (doing past e)) × HasNumbers (step_at old.world.providers (after old.world.providers past) past e)

-- what a stall line is after all entries: right, and all is as before; or this should stand there
abbrev pub JudgesStall : List Entry → StallLine → Judge → Judge → Option (List ℕ) → Type 0
JudgesStall entries s old new None = IsRightStall old.world.providers entries s × StandsAfter entries new
JudgesStall entries s old new (Some text) = (IsRightStall old.world.providers entries s → ⊥) × (text ≡ wanted old.world.providers (after old.world.providers entries) s.act (stalling entries s))

-- what the stall line is after all entries, whatever these are
abbrev pub JudgesLine : StallLine → Judge → Judge → Option (List ℕ) → Type 0
JudgesLine s old new wanted = (entries : List Entry) → StandsAfter entries old → JudgesStall entries s old new wanted

-- nothing, where the entry has this outcome and this state; else their text, of numbers that have 32 bits
abbrev pub Compares : Outcome → State → Entry → Option (List ℕ) → Type 0
Compares outcome after e None = (e.outcome ≡ outcome) × (e.after ≡ after)
Compares outcome after e (Some text) = ((e.outcome ≡ outcome) × (e.after ≡ after) → ⊥) × (text ≡ answer_text outcome after) × AreNumbers outcome

-- the entries are right, and the judge stands after them; or this is the verdict
abbrev pub JudgesEntries : Journal → Judge → Option Verdict → Type 0
JudgesEntries j new None = Legal j.providers j.entries × StandsAfter j.entries new × (new.world.providers ≡ j.providers)
JudgesEntries j new (Some verdict) = IsVerdict j verdict

-- each worker has one of the numbers
abbrev pub HaveWorkers : List Entry → Type 0
HaveWorkers entries = (place : ℕ) (other : Entry) → place < length entries → (slice_index_or entries place other).worker ≤ LAST_WORKER

-- what the entry at this place is after those before it
abbrev pub JudgesPlace : ℕ → Judge → Judge → Option (List ℕ) → Type 0
JudgesPlace place old new wanted = (past others : List Entry) (e : Entry) → old.entries.now ≡ past ++ e ∷ others → length past ≡ place → StandsAfter past old → JudgesEntry past e old new wanted
