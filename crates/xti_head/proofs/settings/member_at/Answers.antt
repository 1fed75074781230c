use Rattle.toml.proofs.Views.{table_get}
use Rattle.xti_head.proofs.settings.member_at.Goals as goal

pub returns : goal.returns
returns c = table_get c.get.result c.args.key.now c.args.members.now.entries c.get.ensures.value
