use Rattle.std.proofs.Common.{◌≡◌, List, ◌++◌, map, take}
use Rattle.xti_calls.specs.declared.buffers.Buffer.{Buffer}
use Rattle.xti_calls.specs.Parts.{HaveRoom}
use Rattle.xti_calls.proofs.buffers.rooms_for.Given as goal

abbrev pub invariant-loop-size : goal.invariant-loop-size
invariant-loop-size l = record {
  sizes : map (λ b. b.size) l.buffers.items ≡ take l.size-index l.sizes;
  room : (bs : List Buffer) → HaveRoom l.left bs → HaveRoom l.most (l.buffers.items ++ bs);
}
