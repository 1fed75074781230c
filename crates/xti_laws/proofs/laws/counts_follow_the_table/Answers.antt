use Rattle.xti_laws.proofs.TableWalk.{counts-by-the-table}
use Rattle.xti_laws.proofs.OtherStates.{keeps-every-count, keeps-other-counts}
use Rattle.xti_laws.proofs.laws.counts_follow_the_table.Goals as goal

pub returns-clause-counted : goal.returns-clause-counted
returns-clause-counted c = counts-by-the-table

pub returns-clause-refused : goal.returns-clause-refused
returns-clause-refused c = keeps-every-count

pub returns-clause-others : goal.returns-clause-others
returns-clause-others c = keeps-other-counts
