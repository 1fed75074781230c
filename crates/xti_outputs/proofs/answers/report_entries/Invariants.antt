use Rattle.std.proofs.Common.{◌-◌, Bool, List}
use Rattle.xti_model.specs.declared.entry.Entry.{Entry}
use Rattle.xti_model.specs.declared.profile.Providers.{Providers}
use Rattle.xti_model.specs.declared.script.Script.{Script}
use Rattle.xti_model.specs.Robin.{most_steps}
use Rattle.xti_replay.specs.Runs.{IsRunOf, Leads}
use Rattle.xti_outputs.specs.Entries.{Reports}
use Rattle.xti_outputs.proofs.answers.report_entries.Given as goal

abbrev pub invariant-loop-step : goal.invariant-loop-step
invariant-loop-step l =
    (s : Script) (all past : List Entry) → IsRunOf s all past l.fn.run
    → (now : List Entry) × ((summary : Bool) (p : Providers) → Reports summary p past l.fn.report → Reports summary p now l.report) × Leads s all (most_steps - l._step) now l.run
