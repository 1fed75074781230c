use Rattle.std.proofs.Common.{sym, ◌∙◌}
use Rattle.xti_head.specs.Head.{is_setting}
use Rattle.xti_head.proofs.Keys.{keys_pass-entries}
use Rattle.xti_head.proofs.settings.sets_only.Goals as goal

pub returns : goal.returns
returns c = c.all_settings.ensures ∙ sym (keys_pass-entries (is_setting c.args.version c.args.prov) c.args.members.now.entries)
