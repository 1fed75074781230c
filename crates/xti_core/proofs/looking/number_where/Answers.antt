use Rattle.std.proofs.Common.{◌≡◌, ◌≤◌, true, false, arith, sym, ◌∙◌, refl, ap}
use Rattle.xti_base.specs.Kinds.{event_number}
use Rattle.xti_base.specs.declared.kinds.Event.{Event}
use Rattle.xti_core.proofs.Sums.{number-small}
use Rattle.xti_core.proofs.looking.number_where.Goals as goal

pub returns-then-is_pending-clause-small : goal.returns-then-is_pending-clause-small
returns-then-is_pending-clause-small c = let l = number-small c.args.event in let e = c.number.ensures in omega (arith, l, e)
