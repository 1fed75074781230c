use Rattle.std.proofs.Common.{◌≡◌, ◌+◌, ◌≤◌, List, vec_len, vec_capacity}
use Rattle.xti_calls.specs.declared.shared.Xti.{Xti}
use Rattle.xti_model.specs.declared.entry.Entry.{Entry}
use Rattle.xti_model.specs.declared.script.Line.{Line}
use Rattle.xti_threads.specs.Starting.{AllBack, AllStarted}
use Rattle.xti_threads.proofs.starting.join_all.Given as goal

abbrev pub invariant-loop-one : goal.invariant-loop-one
invariant-loop-one g l = record {
  many : vec_len l.seats + l.one-iterator.rest.len ≡ vec_len l.fn.started;
  room : vec_len l.fn.started ≤ vec_capacity l.seats;
  known : (xti : Xti) (lines : List Line) (setup : List Entry) → AllStarted xti lines setup 1 l.fn.started.items
      → AllStarted xti lines setup (vec_len l.seats + 1) l.one-iterator.rest.items × AllBack xti lines setup l.seats.items;
}
