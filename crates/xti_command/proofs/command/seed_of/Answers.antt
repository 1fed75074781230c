use Rattle.std.proofs.Common.{rules}
use Rattle.xti_command.proofs.Seeds.{seed_parsed}
use Rattle.xti_command.proofs.command.seed_of.Goals as goal

pub returns : goal.returns
returns c = search (rules, seed_parsed)
