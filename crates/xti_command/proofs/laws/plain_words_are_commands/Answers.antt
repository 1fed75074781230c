use Rattle.xti_command.proofs.Commands.{plain_command, plain_taken}
use Rattle.xti_command.proofs.laws.plain_words_are_commands.Goals as goal

pub returns-clause-command : goal.returns-clause-command
returns-clause-command c = plain_command

pub returns-clause-taken : goal.returns-clause-taken
returns-clause-taken c = plain_taken
