-- What is reported of a run, while its entries come.
use Rattle.std.specs.Prelude.{◌≡◌, ℕ, Bool, true, false, List, [], ◌∷◌, ◌++◌}
use Rattle.xti_journal_text.specs.JournalText.{head_text}
use Rattle.xti_journal_text.specs.Writing.{Took}
use Rattle.xti_model.specs.declared.entry.Entry.{Entry}
use Rattle.xti_model.specs.declared.profile.Providers.{Providers}
use Rattle.xti_model.specs.declared.script.Journal.{Journal}
use Rattle.xti_model.specs.declared.script.Script.{Script}
use Rattle.xti_model.specs.declared.script.StallLine.{StallLine}
use Rattle.xti_journal_text.specs.Counting.{Counts}
use Rattle.xti_replay.specs.declared.run.Run.{Run}
use Rattle.xti_replay.specs.Runs.{IsRunOf, IsWhole}
use Rattle.xti_outputs.specs.declared.report.Report.{Report}
use Rattle.xti_outputs.specs.declared.report.Report.TheVariants as report
use Rattle.xti_outputs.specs.Outputs.{printed_of}

-- these entries were reported, as a journal with these providers or as a summary
abbrev pub Reports : Bool → Providers → List Entry → Report → Type 0
Reports false p past (report.Journal writer) = Took (head_text p, 0) past writer
Reports true p past (report.Summary summary) = Counts past summary
Reports summary p past other = ⊥

-- whatever entries were reported before, this one is after theirs
abbrev pub ReportsOneMore : Report → Entry → Report → Type 0
ReportsOneMore old e new = (summary : Bool) (p : Providers) (past : List Entry) → Reports summary p past old → Reports summary p (past ++ e ∷ []) new

-- the text is what is printed of the journal whose entries were reported, with these stall lines
abbrev pub IsReport : Report → List StallLine → List ℕ → Type 0
IsReport r stalls text = (summary : Bool) (j : Journal) → Reports summary j.providers j.entries r → stalls ≡ j.stalls → text ≡ printed_of summary j

-- whatever entries were reported before, these are after theirs
abbrev pub ReportsMore : Report → List Entry → Report → Type 0
ReportsMore old entries new = (summary : Bool) (p : Providers) (past : List Entry) → Reports summary p past old → Reports summary p (past ++ entries) new

-- the run is one of some script, after some of its entries
abbrev pub IsOfSomeScript : Run → Type 0
IsOfSomeScript r = (s : Script) × (all : List Entry) × (past : List Entry) × IsRunOf s all past r

-- whatever script the run was one of, after whatever entries: where these were reported, all entries of that are, and the run stands after them
abbrev pub ReportsAll : Run → Run → Report → Report → Type 0
ReportsAll old new before now =
    (s : Script) (all past : List Entry) → IsRunOf s all past old
    → ((summary : Bool) (p : Providers) → Reports summary p past before → Reports summary p all now) × IsWhole s all new
