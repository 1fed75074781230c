use Rattle.std.proofs.Common.{List, ◌++◌, [], rules, subst, sym}
use Rattle.std.proofs.lemmas.List.{take_more, map-append, append-nil}
use Rattle.xti_calls.specs.declared.buffers.Buffer.{Buffer}
use Rattle.xti_calls.specs.Parts.{HaveRoom}
use Rattle.xti_calls.proofs.Parts.{more-room}
use Rattle.xti_calls.proofs.buffers.rooms_for.Goals as goal

pub loop-size-preserved : goal.loop-size-preserved
loop-size-preserved c = record {
  sizes = search (rules, take_more, map-append);
  room = λ cs h.
      subst (λ (bs : List Buffer). HaveRoom c.args.most (bs ++ cs)) (sym c.in_ok-push.ensures.items)
      (more-room c.args.most c.loop-size.left c.min-taken.result c.loop-size.buffers.items (record { size = _; room = c.in_ok-room.room }) c.loop-size.invariant.room
      c.in_ok-room.ensures.bytes c.in_ok-room.ensures.spare c.min-taken.ensures cs h);
}

pub returns-clause-room : goal.returns-clause-room
returns-clause-room c = subst (HaveRoom c.args.most) (append-nil c.loop-size.buffers.items) (c.loop-size.invariant.room [] tt)
