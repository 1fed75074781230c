use Rattle.xti_opt.proofs.Negotiating.{negotiate-append, places_kept, result_is_worst, result_is_one}
use Rattle.xti_opt.proofs.laws.negotiation_order.Goals as goal

pub returns-clause-in_order : goal.returns-clause-in_order
returns-clause-in_order c = λ s action os more. negotiate-append s action os more

pub returns-clause-places : goal.returns-clause-places
returns-clause-places c = λ s action os. places_kept s action os

pub returns-clause-worst : goal.returns-clause-worst
returns-clause-worst c = λ s action os. result_is_worst s action os

pub returns-clause-among : goal.returns-clause-among
returns-clause-among c = λ s action os. result_is_one s action os
