use Rattle.std.proofs.Common.{rules}
use Rattle.std.proofs.lemmas.Result.{IfOk-weaker}
use Rattle.xti_replay.specs.Stalls.{gone_on}
use Rattle.xti_outputs.proofs.answers.threaded.Goals as goal

pub play-requires : goal.play-requires
play-requires g c = search (rules, c.texts_are_playable.ensures c.args.script.now c.requires)

pub returns : goal.returns
returns g c = IfOk-weaker c.whole_run.result _ _ (λ a whole. record { entries = gone_on c.args.script.now c.as_slice.result.now; whole = whole }) c.whole_run.ensures
