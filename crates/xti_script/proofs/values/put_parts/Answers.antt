use Rattle.std.proofs.Common.{rules, ◌≡◌, ◌∷◌, ◌++◌, arith}
use Rattle.xti_script.specs.Canonical.{bytes_text}
use Rattle.xti_script.proofs.Pieces.{listed_by_loop}
use Rattle.xti_script.proofs.values.put_parts.Goals as goal

pub returns-after-loop-part : goal.returns-after-loop-part
returns-after-loop-part c =
    let whole : c.args.parts.now ≡ c.in-Some.first.now ∷ c.in-Some.others.now = search rules in
    listed_by_loop bytes_text (c.args.out.now.items ++ c.args.key.now) _ _ c.in-Some.first.now c.in-Some.others.now c.args.parts.now c.loop-part.part-index
    whole (omega (arith, c.loop-part-test.false)) c.in_ok-put_bytes-in-Some.ensures c.loop-part.invariant
