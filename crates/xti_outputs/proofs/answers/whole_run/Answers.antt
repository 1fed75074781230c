use Rattle.std.proofs.Common.{refl, []}
use Rattle.xti_model.specs.Robin.{most_steps}
use Rattle.xti_script_reader.specs.Grammar.{HasText}
use Rattle.xti_replay.specs.Stalls.{gone_on}
use Rattle.xti_replay.proofs.WholeRuns.{ends}
use Rattle.xti_outputs.proofs.Answered.{legal-run, whole-run}
use Rattle.xti_outputs.proofs.answers.whole_run.Goals as goal

pub report_history-requires : goal.report_history-requires
report_history-requires c = c.requires.history.workers_only

pub after-requires-clause-script : goal.after-requires-clause-script
after-requires-clause-script c = c.texts_are_playable.ensures c.args.script.now c.requires.text

pub report_entries-requires : goal.report_entries-requires
report_entries-requires c = (c.args.script.now, gone_on c.args.script.now c.args.history.now, c.args.history.now, c.in-Ok-after.ensures)

pub stalls-requires : goal.stalls-requires
stalls-requires c = (gone_on c.args.script.now c.args.history.now, (c.in-Ok-report_entries.ensures c.args.script.now (gone_on c.args.script.now c.args.history.now) c.args.history.now c.in-Ok-after.ensures).1.stands)

pub returns : goal.returns
unfolding gone_on
returns c =
    let s = c.args.script.now in
    let history = c.args.history.now in
    let all = gone_on s history in
    let whole = c.in-Ok-report_entries.ensures s all history c.in-Ok-after.ensures in
    let end = ends s all c.in-Ok-stalls.made c.report_entries.new.run.lines.now whole.1.lines (c.in-Ok-stalls.ensures all whole.1.stands) in
    let text : HasText s = c.requires.text in
    let legal = c.robin_is_legal.ensures.goes_on s.providers s.lines most_steps history c.requires.history.legal in
    let complete = c.robin_goes_on.ensures.complete s.providers s.lines most_steps history c.requires.history (c.texts_are_playable.ensures s text).bound in
    let r = legal-run s all legal complete in
    let reported = whole.0 c.args.summary s.providers (c.in-Ok.ensures c.args.summary s.providers [] c.in_ok-report.ensures) in
    whole-run c.args.summary s all c.in_ok-text.field-0 c.in-Ok-stalls.made c.journal_status-status.result end c.journal_status-status.ensures
    (c.in_ok-text.ensures c.args.summary (record { providers = s.providers; entries = all; stalls = c.in-Ok-stalls.made }) reported refl)
    legal complete (c.runs_make_journals.ensures.has_text s all text r) (c.runs_make_journals.ensures.only s all text r) (c.whole_runs_make_legal_journals.ensures s all r complete) (c.runs_have_few_entries.ensures s all r)
    (c.scripts_keep_order.ensures.prefix s all text r) (c.scripts_keep_order.ensures.waiting s all text r) (c.scripts_keep_order.ensures.release s all text r)
