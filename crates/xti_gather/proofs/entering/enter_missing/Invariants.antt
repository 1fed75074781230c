use Rattle.xti_gather.proofs.Orders.{SoFar}
use Rattle.xti_gather.proofs.Staying.{Stays}
use Rattle.xti_gather.proofs.entering.enter_missing.Given as goal

abbrev pub invariant-loop-place : goal.invariant-loop-place
invariant-loop-place g l = record {
  stays : Stays l.initial.seat l.seat l.lent;
  so_far : SoFar l.lent l.cells l.place;
}
