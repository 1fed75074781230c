use Rattle.std.proofs.Common.{sym, ◌∙◌}
use Rattle.xti_head.proofs.Ascii.{is_utf8}
use Rattle.xti_head.proofs.head.read_head.Goals as goal

pub returns-in_default-clause-bad : goal.returns-in_default-clause-bad
returns-in_default-clause-bad c = λ bad. absurd (c.in_default.ensures.cases.0 (is_utf8 c.args.text.now (sym c.is_ascii.ensures ∙ c.if-not-is_ascii.false)))
