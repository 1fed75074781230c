use Rattle.xti_journal.specs.Read.{ReadsText}
use Rattle.std.proofs.Common.{sym, subst, arith}
use Rattle.xti_journal.proofs.Whole.{read_as}
use Rattle.xti_journal.proofs.journal_text.read_journal.Goals as goal

pub returns-in-Ok-clause-only : goal.returns-in-Ok-clause-only
returns-in-Ok-clause-only c = read_as c.args.text.now _ (omega arith) (subst (λ t. ReadsText t c.read_body.result) (sym c.in-Ok.ensures.1) c.read_body.ensures)
