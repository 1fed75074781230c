use Rattle.std.proofs.Common.{rules, ◌∙◌, ◌++◌, ◌∷◌, [], ap}
use Rattle.std.specs.Slice.Iter as slice
use Rattle.std.proofs.lemmas.Iterator.Consumers.{YieldsList-end}
use Rattle.std.proofs.lemmas.Iterator.Splits.{YieldsList-from_slice_split}
use Rattle.xti_journal.proofs.values.pieces_of.Goals as goal

pub loop-piece-init : goal.loop-piece-init
loop-piece-init c = c.new-pieces.ensures.items

pub loop-piece-preserved : goal.loop-piece-preserved
loop-piece-preserved c = c.in_ok-push.ensures.items ∙ ap (λ xs. xs ++ c.in-Some.piece ∷ []) c.loop-piece.invariant

pub returns : goal.returns
returns c =
    let same = c.into_iter-piece-iterator.ensures.into_iter_gives in
    let t = YieldsList-end (YieldsList-from_slice_split {s = c.into_iter-piece-iterator.result} _ _ c.args.word.now (rw same c.split-piece-items.ensures.rest) (rw same c.split-piece-items.ensures.done) (ap slice.split_callee same ∙ c.split-piece-items.ensures.closure) (search rules)) c.loop-piece.yielded _ c.loop-piece.yielded_by _ _ c.in-None.is c.next.ensures.steps in
    rw c.loop-piece.invariant t.0
