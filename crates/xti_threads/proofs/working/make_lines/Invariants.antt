use Rattle.std.proofs.Common.{◌≡◌, List, None}
use Rattle.xti_model.specs.declared.entry.Entry.{Entry}
use Rattle.xti_threads.specs.Working.{AfterSetup, Works}
use Rattle.xti_threads.proofs.working.make_lines.Given as goal

abbrev pub invariant-loop : goal.invariant-loop
invariant-loop g l = record {
  works : (past : List Entry) → AfterSetup l.fn.shared.stage.lines.now past l.fn.shared.setup.now → Works l.fn.shared.xti.now l.fn.shared.stage.lines.now past l.fn.number l.initial.seat l.initial.worker → Works l.fn.shared.xti.now l.fn.shared.stage.lines.now past l.fn.number l.seat l.worker;
  whole : l.worker.part ≡ None;
}
