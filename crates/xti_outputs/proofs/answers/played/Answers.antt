use Rattle.std.proofs.Common.{List, subst}
use Rattle.std.proofs.lemmas.Result.{IfOk-weaker}
use Rattle.xti_model.specs.declared.entry.Entry.{Entry}
use Rattle.xti_model.proofs.GoingOn.{history-begins}
use Rattle.xti_replay.proofs.WholeRuns.{gone-from_start}
use Rattle.xti_outputs.specs.Outputs.{IsWholeRun}
use Rattle.xti_outputs.proofs.answers.played.Goals as goal

pub whole_run-requires-clause-history : goal.whole_run-requires-clause-history
whole_run-requires-clause-history c = history-begins c.args.script.now.providers c.args.script.now.lines

pub returns : goal.returns
returns c = IfOk-weaker c.whole_run.result _ _ (λ a whole. record {
  whole = subst (λ (entries : List Entry). IsWholeRun c.args.summary c.args.script.now entries a.status a.text) (gone-from_start c.args.script.now) whole;
}) c.whole_run.ensures
