use Rattle.std.proofs.Common.{sym, ◌∙◌}
use Rattle.xti_head.specs.Head.{is_provider}
use Rattle.xti_head.proofs.Keys.{keys_pass-entries}
use Rattle.xti_head.proofs.head.names_only.Goals as goal

pub returns : goal.returns
returns c = c.all_providers.ensures ∙ sym (keys_pass-entries is_provider c.args.tables.now.entries)
