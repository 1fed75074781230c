use Rattle.std.proofs.Common.{◌≡◌, ◌+◌, ℕ, vec_len}
use Rattle.xti_calls.specs.declared.shared.Xti.{Xti}
use Rattle.xti_threads.specs.Working.{CameBack}
use Rattle.xti_threads.specs.Starting.{EachFrom}
use Rattle.xti_threads.specs.Meeting.{AllPlayed}
use Rattle.xti_threads.proofs.Meetings.{AllFollow}
use Rattle.xti_threads.proofs.meeting.meet_main.Given as goal

abbrev pub invariant-loop-seat : goal.invariant-loop-seat
invariant-loop-seat l = record {
  ended : l.ended ≡ l.initial.ended;
  known : (n : ℕ) × (n + l.seat-iterator.rest.len ≡ vec_len l.fn.seats)
      × ((x : Xti) (p : AllPlayed x l.fn._lines l.initial.ended l.fn.seats) → EachFrom (CameBack x l.fn._lines p.past) (n + 1) l.seat-iterator.rest.items × AllFollow l.fn._lines l.initial.ended.view.seen n);
}
