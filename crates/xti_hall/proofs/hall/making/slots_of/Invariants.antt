use Rattle.std.proofs.Common.{◌≡◌, map, Some}
use Rattle.xti_hall_rule.specs.declared.view.Held.TheVariants.{Cell}
use Rattle.xti_hall.proofs.hall.making.slots_of.Given as goal

abbrev pub invariant-loop-cell : goal.invariant-loop-cell
invariant-loop-cell g l = l.slots.items ≡ map (λ x. Some (Cell x)) l.yielded
