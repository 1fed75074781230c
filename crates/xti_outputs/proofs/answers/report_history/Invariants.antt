use Rattle.std.proofs.Common.{◌++◌, Bool, List, take}
use Rattle.xti_model.specs.declared.entry.Entry.{Entry}
use Rattle.xti_model.specs.declared.profile.Providers.{Providers}
use Rattle.xti_outputs.specs.Entries.{Reports}
use Rattle.xti_outputs.proofs.answers.report_history.Given as goal

abbrev pub invariant-loop-entry : goal.invariant-loop-entry
invariant-loop-entry l = (summary : Bool) (p : Providers) (past : List Entry) → Reports summary p past l.fn.report → Reports summary p (past ++ take l.entry-index l.history) l.report
