-- The form of journals, as a relation between a journal and its text. An entry is judged after the earlier entries.
use Rattle.std.specs.Prelude.{◌≡◌, ℕ, ◌≤◌, ◌<◌, ◌==◌, true, List, [], ◌∷◌, ◌++◌, Option, Some, None, if◌then◌else◌}
use Rattle.xti_base.specs.declared.limits.TheConstants.{LAST_WORKER}
use Rattle.xti_model.specs.declared.entry.Act.{Act}
use Rattle.xti_model.specs.declared.entry.Act.TheVariants.{Begin, More}
use Rattle.xti_model.specs.declared.entry.Outcome.{Outcome}
use Rattle.xti_model.specs.declared.entry.Entry.{Entry}
use Rattle.xti_model.specs.declared.script.Journal.{Journal}
use Rattle.xti_model.specs.declared.script.StallLine.{StallLine}
use Rattle.xti_model.specs.declared.profile.Version.{Version}
use Rattle.xti_model.specs.Profile.{valid, releases_told}
use Rattle.xti_journal_text.specs.JournalText.{journal_text}
use Rattle.xti_verbs.specs.declared.verb.Verb.{Verb}
use Rattle.xti_journal.specs.Fields.{AreFields}
use Rattle.xti_verbs.specs.Verbs.{is_in_texts, verb_of, answer_to, MayAnswer}
use Rattle.xti_journal.specs.Calls.{form, call_values, answer_form, answer_values}

-- ---- the last call that a worker began

abbrev pub verb_after : Option Verb → Act → Option Verb
verb_after before (Begin call) = Some (verb_of call)
verb_after before More = before

abbrev pub verb_from : Option Verb → ℕ → List Entry → Option Verb
verb_from before worker [] = before
verb_from before worker (e ∷ es) = verb_from (if e.worker == worker then verb_after before e.act else before) worker es

-- which call the worker began last in these entries, if any
unfoldable pub last_verb : List Entry → ℕ → Option Verb
last_verb past worker = verb_from None worker past

-- ---- entries

-- a call that journals of the version have, with its values; or `more` after a call
abbrev pub IsAct : Version → Option Verb → Act → Type 0
IsAct version before (Begin call) = (is_in_texts version (verb_of call) ≡ true) × AreFields (form (verb_of call)) (call_values call)
IsAct version None More = ⊥
IsAct version (Some verb) More = Unit {0}

-- an answer of the call
abbrev pub IsAnswer : Option Verb → Outcome → Type 0
IsAnswer None outcome = ⊥
IsAnswer (Some verb) outcome = MayAnswer verb (answer_to outcome) × AreFields (answer_form (answer_to outcome)) (answer_values outcome)

pub record IsEntry (version : Version) (past : List Entry) (e : Entry) : Type 0 where
  pub worker : e.worker ≤ LAST_WORKER
  pub act : IsAct version (last_verb past e.worker) e.act
  pub answer : IsAnswer (verb_after (last_verb past e.worker) e.act) e.outcome

abbrev pub AreEntries : Version → List Entry → List Entry → Type 0
AreEntries version past [] = Unit {0}
AreEntries version past (e ∷ es) = IsEntry version past e × AreEntries version (past ++ e ∷ []) es

-- ---- stall lines

pub record IsStall (version : Version) (entries : List Entry) (s : StallLine) : Type 0 where
  pub worker : s.worker ≤ LAST_WORKER
  pub act : IsAct version (last_verb entries s.worker) s.act

-- each worker is above the one before; that of worker 0 has no other after it
abbrev pub AreStallsAfter : Version → List Entry → StallLine → List StallLine → Type 0
AreStallsAfter version entries before [] = Unit {0}
AreStallsAfter version entries before (s ∷ stalls) = ((0 < before.worker) × (before.worker < s.worker)) × IsStall version entries s × AreStallsAfter version entries s stalls

abbrev pub AreStalls : Version → List Entry → List StallLine → Type 0
AreStalls version entries [] = Unit {0}
AreStalls version entries (s ∷ stalls) = IsStall version entries s × AreStallsAfter version entries s stalls

-- ---- journals

-- a journal that has a text: its values are within their bounds and can be said, each call is answered in its form, and each call that goes on was begun
pub record HasText (j : Journal) : Type 0 where
  pub providers : valid j.providers ≡ true
  pub releases : releases_told j.providers ≡ true
  pub entries : AreEntries j.providers.version [] j.entries
  pub stalls : AreStalls j.providers.version j.entries j.stalls

-- a journal and its text
pub record IsJournal (j : Journal) (text : List ℕ) : Type 0 where
  pub has_text : HasText j
  pub written : text ≡ journal_text j

-- where the text is that of both journals, they are the same
abbrev pub AreSame : List ℕ → Journal → Journal → Type 0
AreSame text j k = IsJournal j text → IsJournal k text → j ≡ k
