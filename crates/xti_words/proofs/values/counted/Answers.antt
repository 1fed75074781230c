use Rattle.std.proofs.Common.{◌≡◌, ◌-◌, ◌∙◌, [], refl, arith}
use Rattle.std.proofs.lemmas.Result.{IfOk-weaker}
use Rattle.xti_words.specs.Values.{counted}
use Rattle.xti_words.proofs.Counting.{one_more}
use Rattle.xti_words.proofs.values.counted.Goals as goal

pub loop-left-preserved : goal.loop-left-preserved
loop-left-preserved c =
    (one_more c.loop-left.bytes.items _ _ (c.args.count - c.loop-left.left) 256 _ c.loop-left.invariant.0 c.loop-left.invariant.2 (omega arith) c.as_slice.ensures c.in_ok-extend_from_slice.ensures.items (omega arith), omega arith, omega arith)

pub returns-then-count-le256 : goal.returns-then-count-le256
returns-then-count-le256 c =
    IfOk-weaker c.copy_of.result _ (λ bytes. bytes ≡ counted c.args.count) (λ bytes e. one_more [] bytes _ 0 c.args.count c.args.count refl refl (omega (arith, c.if-count-le256.true)) refl e (omega arith)) c.copy_of.ensures.copy

pub returns : goal.returns
returns c =
    c.from_vec.ensures ∙ one_more c.loop-left.bytes.items _ _ (c.args.count - c.loop-left.left) c.loop-left.left c.args.count c.loop-left.invariant.0 c.loop-left.invariant.2 (omega arith) refl c.in_ok-extend_from_slice-2.ensures.items (omega arith)
