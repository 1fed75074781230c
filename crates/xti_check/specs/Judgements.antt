-- What is said of an input.
use Rattle.std.specs.Prelude.{◌≡◌, ℕ, List, ◌++◌, length, codes, decimal}
use Rattle.xti_model.specs.declared.script.Journal.{Journal}
use Rattle.xti_journal.specs.Grammar.{IsJournal}
use Rattle.xti_journal.specs.Refused.{IsRefusedAt}
use Rattle.xti_check.specs.declared.judgement.Judgement.{Judgement}
use Rattle.xti_check.specs.declared.judgement.Judgement.TheVariants.{Legal, Wrong, Refused}
use Rattle.xti_check.specs.declared.verdict.Verdict.TheVariants as verdict
use Rattle.xti_check.specs.Verdicts.{IsLegal, IsVerdict}

-- of a legal journal with so many entries
unfoldable pub legal_text : ℕ → List ℕ
legal_text count = codes "legal " ++ decimal count ++ codes "\n"

-- of a line that is wrong: what should stand there, and what stands there
unfoldable pub wrong_text : ℕ → List ℕ → List ℕ → List ℕ
wrong_text line expected found = codes "wrong line " ++ decimal line ++ codes "\nexpected " ++ expected ++ codes "\nfound " ++ found ++ codes "\n"

-- the text tells of the first wrong line of the journal
pub record TellsWrong (j : Journal) (text : List ℕ) : Type 0 where
  pub line : ℕ
  pub expected : List ℕ
  pub found : List ℕ
  pub wrong : IsVerdict j (verdict.Wrong line expected found)
  pub told : text ≡ wrong_text line expected found

-- what is said of this journal is its verdict
abbrev pub IsOfJournal : Journal → Judgement → Type 0
IsOfJournal j (Legal text) = IsLegal j × (text ≡ legal_text (length j.entries))
IsOfJournal j (Wrong text) = TellsWrong j text
IsOfJournal j (Refused line) = ⊥

-- what is said of an input: of the journal that it is, or that it is none and from which line on
abbrev pub IsJudgement : List ℕ → Judgement → Type 0
IsJudgement input (Refused line) = IsRefusedAt input line
IsJudgement input said = (j : Journal) × IsJournal j input × IsOfJournal j said
