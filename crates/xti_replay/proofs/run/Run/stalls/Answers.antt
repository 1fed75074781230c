use Rattle.std.proofs.lemmas.Result.{IfOk-weaker}
use Rattle.xti_replay.proofs.run.Run.stalls.Goals as goal

pub returns : goal.returns
returns c = IfOk-weaker c.stall_lines-stalls.result _ _ (λ stalls told past k. told past k.kept) c.stall_lines-stalls.ensures
