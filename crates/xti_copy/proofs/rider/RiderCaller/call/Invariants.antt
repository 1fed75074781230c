use Rattle.xti_model.proofs.Outcomes.{left}
use Rattle.xti_sock.specs.Sights.{IsStanding}
use Rattle.xti_copy.specs.Rides.{sight_of}
use Rattle.xti_copy.proofs.Calling.{Goes}
use Rattle.xti_copy.proofs.rider.RiderCaller.call.Given as goal

abbrev pub invariant-loop-self : goal.invariant-loop-self
invariant-loop-self g l = record {
  standing : IsStanding (sight_of l.self);
  goes : Goes l.initial.self l.made l.go l.self;
}

abbrev pub decreases-loop-self : goal.decreases-loop-self
decreases-loop-self g l = left l.made l.go
