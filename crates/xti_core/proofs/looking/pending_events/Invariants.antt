use Rattle.std.proofs.Common.{◌≡◌, ◌≤◌, ◌*◌, take}
use Rattle.std.specs.Prelude.{sum_by}
use Rattle.xti_core.specs.Looks.{is_pending_among, number_where}
use Rattle.xti_end.specs.Held.{parts}
use Rattle.xti_core.proofs.looking.pending_events.Given as goal

-- the sum of the numbers of the events so far
abbrev pub invariant-loop-event : goal.invariant-loop-event
invariant-loop-event l = record {
  so_far : l.sum ≡ sum_by (number_where (is_pending_among l.lent l.fd.0 (parts l.e))) (take l.event-index l.event-items);
  small : l.sum ≤ 512 * l.event-index;
}
