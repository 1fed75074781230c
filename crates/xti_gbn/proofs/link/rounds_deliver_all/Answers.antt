use Rattle.xti_gbn.proofs.Rounds.{one-round, rounds-done}
use Rattle.xti_gbn.proofs.link.rounds_deliver_all.Goals as goal

pub returns-clause-one : goal.returns-clause-one
returns-clause-one c = one-round

pub returns-clause-rounds : goal.returns-clause-rounds
returns-clause-rounds c = λ events count h. rounds-done count events h
