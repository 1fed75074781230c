-- What is kept beside a journal that is read.
use Rattle.std.specs.Prelude.{◌≡◌, ℕ, ◌<◌, List, [], ◌∷◌, ◌++◌, length, slice_index_or, Option, None}
use Rattle.xti_base.specs.declared.limits.TheConstants.{WORKERS}
use Rattle.xti_model.specs.declared.entry.Entry.{Entry}
use Rattle.xti_model.specs.declared.script.Journal.{Journal}
use Rattle.xti_model.specs.declared.script.StallLine.{StallLine}
use Rattle.xti_verbs.specs.declared.verb.Verb.{Verb}
use Rattle.xti_journal.specs.Grammar.{last_verb}
use Rattle.xti_journal.specs.Reading.{last_worker}

-- the call that each worker began last, and the worker of the last stall line
pub record Knows (entries : List Entry) (stalls : List StallLine) (verbs : List (Option Verb)) (last : Option ℕ) : Type 0 where
  pub count : length verbs ≡ WORKERS
  pub own : (worker : ℕ) → worker < WORKERS → slice_index_or verbs worker None ≡ last_verb entries worker
  pub worker : last ≡ last_worker stalls

-- one entry more
abbrev pub Entered : Journal → Entry → Journal → Type 0
Entered old e new = new ≡ record { providers = old.providers; entries = old.entries ++ e ∷ []; stalls = old.stalls }

-- one stall line more
abbrev pub Stalled : Journal → StallLine → Journal → Type 0
Stalled old s new = new ≡ record { providers = old.providers; entries = old.entries; stalls = old.stalls ++ s ∷ [] }
