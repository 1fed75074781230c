-- What is right of a journal, and what is said of the first line that isn't.
use Rattle.std.specs.Prelude.{◌≡◌, ◌⊎◌, ℕ, ◌+◌, List, [], ◌∷◌, ◌++◌, length, codes, Option, Some, None}
use Rattle.xti_model.specs.declared.entry.Act.{Act}
use Rattle.xti_model.specs.declared.entry.Act.TheVariants.{Begin, More}
use Rattle.xti_model.specs.declared.entry.Entry.{Entry}
use Rattle.xti_model.specs.declared.profile.Providers.{Providers}
use Rattle.xti_model.specs.declared.script.Journal.{Journal}
use Rattle.xti_model.specs.declared.script.StallLine.{StallLine}
use Rattle.xti_model.specs.World.{World}
use Rattle.xti_model.specs.Step.{Step}
use Rattle.xti_model.specs.History.{Going, unfinished, made_by, doing, step_going, step_at, after, Fits, Legal}
use Rattle.xti_journal_text.specs.JournalText.{answer_text}
use Rattle.xti_check.specs.declared.verdict.Verdict.{Verdict}
use Rattle.xti_check.specs.declared.verdict.Verdict.TheVariants as verdict

-- ---- stall lines

-- the call whose step the stall line says is blocked
abbrev pub stalling : List Entry → StallLine → Option Going
stalling entries s = made_by (unfinished entries s.worker) s.act

-- its step is blocked after the entries
abbrev pub IsBlockedAt : Providers → World → Option Going → Type 0
IsBlockedAt p w None = ⊥
IsBlockedAt p w (Some g) = step_going p w g ≡ None

abbrev pub IsRightStall : Providers → List Entry → StallLine → Type 0
IsRightStall p entries s = IsBlockedAt p (after p entries) (stalling entries s)

abbrev pub AreRightStalls : Providers → List Entry → List StallLine → Type 0
AreRightStalls p entries [] = Unit {0}
AreRightStalls p entries (s ∷ stalls) = IsRightStall p entries s × AreRightStalls p entries stalls

-- each entry is the step of its call, and each stall line's step is blocked at the end
pub record IsLegal (j : Journal) : Type 0 where
  pub entries : Legal j.providers j.entries
  pub stalls : AreRightStalls j.providers j.entries j.stalls

-- ---- what should stand in a line

-- an act that goes with the worker's call: `more` where one is unfinished
abbrev pub wanted_act : Act → List ℕ
wanted_act (Begin call) = codes "more"
wanted_act More = codes "no unfinished call"

-- the outcome and the state of a step, or that it is blocked
abbrev pub step_text : Option Step → List ℕ
step_text None = codes "blocked"
step_text (Some s) = answer_text s.outcome s.after

-- what the definitions give for an act on this call
abbrev pub wanted : Providers → World → Act → Option Going → List ℕ
wanted p w act None = wanted_act act
wanted p w act (Some g) = step_text (step_going p w g)

-- ---- verdicts

-- the first entry that isn't the step of its call: another text should stand there
pub record IsWrongEntry (j : Journal) (line : ℕ) (expected found : List ℕ) : Type 0 where
  pub past : List Entry
  pub entry : Entry
  pub others : List Entry
  pub entries : j.entries ≡ past ++ entry ∷ others
  pub place : line ≡ 5 + length past
  pub right_before : Legal j.providers past
  pub wrong : Fits (step_at j.providers (after j.providers past) past entry) entry → ⊥
  pub expected_is : expected ≡ wanted j.providers (after j.providers past) entry.act (doing past entry)
  pub found_is : found ≡ answer_text entry.outcome entry.after
  pub differ : expected ≡ found → ⊥

-- the first stall line whose step isn't blocked, after right entries: another text should stand there
pub record IsWrongStall (j : Journal) (line : ℕ) (expected found : List ℕ) : Type 0 where
  pub before : List StallLine
  pub stall : StallLine
  pub others : List StallLine
  pub stalls : j.stalls ≡ before ++ stall ∷ others
  pub place : line ≡ 5 + (length j.entries + length before)
  pub right_entries : Legal j.providers j.entries
  pub right_before : AreRightStalls j.providers j.entries before
  pub wrong : IsRightStall j.providers j.entries stall → ⊥
  pub expected_is : expected ≡ wanted j.providers (after j.providers j.entries) stall.act (stalling j.entries stall)
  pub found_is : found ≡ codes "blocked"
  pub differ : expected ≡ found → ⊥

abbrev pub IsVerdict : Journal → Verdict → Type 0
IsVerdict j verdict.Legal = IsLegal j
IsVerdict j (verdict.Wrong line expected found) = IsWrongEntry j line expected found ⊎ IsWrongStall j line expected found
