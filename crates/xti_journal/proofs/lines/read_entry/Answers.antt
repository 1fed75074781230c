use Rattle.std.proofs.Common.{sym, ap, ◌∙◌}
use Rattle.xti_model.specs.declared.profile.Version.{Version}
use Rattle.xti_journal.specs.Grammar.{verb_after, last_verb}
use Rattle.xti_journal.specs.Reading.{step_in}
use Rattle.xti_journal.proofs.LineLaws.{entry_ok, entry_err}
use Rattle.xti_journal.proofs.lines.read_entry.Goals as goal

pub returns-in-Ok : goal.returns-in-Ok
returns-in-Ok c = record { read = entry_ok c.args.draft.now.providers.version c.args.n (last_verb c.args.draft.now.entries) _ _ _ c.in_ok-entry.field-0 c.read_step.new.act _ _ _ (sym c.is_number.ensures ∙ c.if-not-is_number.false) (ap (λ (v : Version). step_in v c.args.fields.now.words) (sym c.version.ensures) ∙ c.in_ok-entry.ensures.value) (c.verb_after-verb.ensures ∙ ap (λ x. verb_after x c.read_step.new.act) c.verb.ensures) c.in-Ok.ensures }

pub returns-in-Err : goal.returns-in-Err
returns-in-Err c = record { read = entry_err c.args.draft.now.providers.version c.args.n (last_verb c.args.draft.now.entries) _ _ _ c.in_ok-entry.field-0 c.read_step.new.act _ c.in-Err.fail (sym c.is_number.ensures ∙ c.if-not-is_number.false) (ap (λ (v : Version). step_in v c.args.fields.now.words) (sym c.version.ensures) ∙ c.in_ok-entry.ensures.value) (c.verb_after-verb.ensures ∙ ap (λ x. verb_after x c.read_step.new.act) c.verb.ensures) c.in-Err.ensures }
