use Rattle.std.proofs.Common.{rules}
use Rattle.xti_command.proofs.Commands.{found, refused}
use Rattle.xti_command.proofs.words.Words.command.Goals as goal

pub returns-in_err-matches-clause-refused : goal.returns-in_err-matches-clause-refused
returns-in_err-matches-clause-refused c = search (rules, refused)

pub returns-clause-found : goal.returns-clause-found
returns-clause-found c = search (rules, found)

pub returns-clause-refused : goal.returns-clause-refused
returns-clause-refused c = search (rules, found)
