use Rattle.std.proofs.Common.{◌-◌, List}
use Rattle.xti_model.specs.declared.entry.Entry.{Entry}
use Rattle.xti_model.specs.declared.script.Script.{Script}
use Rattle.xti_model.specs.Robin.{most_steps}
use Rattle.xti_replay.specs.Runs.{IsRunOf, Leads}
use Rattle.xti_replay.proofs.replaying.take_entries.Given as goal

abbrev pub invariant-loop-step : goal.invariant-loop-step
invariant-loop-step l = (s : Script) (all : List Entry) → IsRunOf s all l.fn.entries l.fn.run → Leads s all (most_steps - l._step) l.entries l.run
