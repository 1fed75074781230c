use Rattle.std.proofs.Common.{ap, sym, ◌∙◌}
use Rattle.xti_model.specs.declared.profile.Version.{Version}
use Rattle.xti_journal.specs.Grammar.{verb_after, last_verb}
use Rattle.xti_journal.specs.Reading.{step_in}
use Rattle.xti_journal.proofs.LineLaws.{stall_yes, stall_no}
use Rattle.xti_journal.proofs.lines.read_stall.Goals as goal

pub returns-then-is_whole : goal.returns-then-is_whole
returns-then-is_whole c = rw c.replace.ensures.value (stall_yes c.args.draft.now.providers.version (last_verb c.args.draft.now.entries) _ _ c.in_ok-worker.worker c.read_step.new.act _ _ (ap (λ (v : Version). step_in v c.args.fields.now.words) (sym c.version.ensures) ∙ c.in_ok-worker.ensures.value) (c.verb_after-verb.ensures ∙ ap (λ x. verb_after x c.read_step.new.act) c.verb.ensures) c.is_whole.ensures c.if-is_whole.true)

pub returns-else-is_whole : goal.returns-else-is_whole
returns-else-is_whole c = stall_no c.args.draft.now.providers.version (last_verb c.args.draft.now.entries) _ _ c.in_ok-worker.worker c.read_step.new.act _ _ (ap (λ (v : Version). step_in v c.args.fields.now.words) (sym c.version.ensures) ∙ c.in_ok-worker.ensures.value) (c.verb_after-verb.ensures ∙ ap (λ x. verb_after x c.read_step.new.act) c.verb.ensures) c.is_whole.ensures c.if-is_whole.false
