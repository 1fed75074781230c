use Rattle.xti_laws.proofs.TableWalk.{by-the-table, passes-by-the-table}
use Rattle.xti_laws.proofs.OtherStates.{keeps-every, keeps-others}
use Rattle.xti_laws.proofs.Initialised.{after-initialised}
use Rattle.xti_laws.proofs.laws.states_follow_the_table.Goals as goal

pub returns-clause-taken : goal.returns-clause-taken
returns-clause-taken c = by-the-table

pub returns-clause-passed : goal.returns-clause-passed
returns-clause-passed c = passes-by-the-table

pub returns-clause-refused : goal.returns-clause-refused
returns-clause-refused c = keeps-every

pub returns-clause-others : goal.returns-clause-others
returns-clause-others c = keeps-others

pub returns-clause-begun : goal.returns-clause-begun
returns-clause-begun c = after-initialised
