use Rattle.xti_journal.proofs.HeadLaws.{valid_line, invalid_line, wrong_line, no_line}
use Rattle.xti_journal.proofs.journal_text.read_provider.Goals as goal

pub returns-in_default : goal.returns-in_default
returns-in_default c = no_line c.args.version c.args.prov c.args.text.now c.in_default.ensures.none

pub returns-in-Ok : goal.returns-in-Ok
returns-in-Ok c = valid_line c.args.version c.args.prov c.in-Some.line.now _ _ c.in-Ok.profile _ c.in-Ok.ensures.told c.in-Some.ensures.some.1 c.in-Ok.ensures.read c.valid_profile.ensures c.if-valid_profile.true

pub returns-in-Ok-2 : goal.returns-in-Ok-2
returns-in-Ok-2 c = invalid_line c.args.version c.args.prov c.in-Some.line.now _ _ c.in-Ok.profile _ c.in-Ok.ensures.told c.in-Some.ensures.some.1 c.in-Ok.ensures.read c.valid_profile.ensures c.if-valid_profile.false

pub returns-in-Err : goal.returns-in-Err
returns-in-Err c = wrong_line c.args.version c.args.prov c.in-Some.line.now _ _ c.in-Err.fail c.in-Some.ensures.some.0 c.in-Some.ensures.some.1 c.in-Err.ensures.read
