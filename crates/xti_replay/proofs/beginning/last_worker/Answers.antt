use Rattle.std.proofs.Common.{sym}
use Rattle.xti_replay.proofs.Histories.{last-at}
use Rattle.xti_replay.proofs.beginning.last_worker.Goals as goal

pub returns-in-Some : goal.returns-in-Some
returns-in-Some c = sym (last-at 0 c.args.history.now c.in-Some.entry.now (sym c.in-Some.ensures.value))
