use Rattle.std.proofs.Common.{rules}
use Rattle.xti_outputs.proofs.Reported.{journal_more}
use Rattle.xti_outputs.proofs.report.Report.add.Goals as goal

pub returns-in-Journal : goal.returns-in-Journal
returns-in-Journal c = search (rules, journal_more)
