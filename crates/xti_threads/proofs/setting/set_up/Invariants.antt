use Rattle.std.proofs.Common.{◌≡◌, None}
use Rattle.xti_threads.specs.Setting.{SetsUp}
use Rattle.xti_threads.proofs.setting.set_up.Given as goal

abbrev pub invariant-loop : goal.invariant-loop
invariant-loop g l = record {
  sets : SetsUp l.fn.xti l.fn.stage.lines.now l.main l.worker;
  whole : l.worker.part ≡ None;
}
