use Rattle.std.proofs.Common.{◌≡◌, ◌++◌, true, false, rules}
use Rattle.std.specs.List.{list_all}
use Rattle.xti_words.specs.Texts.{is_text_byte}
use Rattle.xti_words.proofs.TextBytes.{behind_pass, front_fails}
use Rattle.xti_words.proofs.texts.are_text_bytes.Goals as goal

pub returns-then-not-are_marked : goal.returns-then-not-are_marked
returns-then-not-are_marked c =
    let parts : c.loop-eight.rest.now ≡ c.in-Some.eight.now ++ c.in-Some.others.now = search rules in
    let fails : list_all is_text_byte c.in-Some.eight.now ≡ false = search rules in
    front_fails c.in-Some.eight.now c.in-Some.others.now c.loop-eight.rest.now _ parts fails c.loop-eight.invariant

pub loop-eight-preserved : goal.loop-eight-preserved
loop-eight-preserved c =
    let parts : c.loop-eight.rest.now ≡ c.in-Some.eight.now ++ c.in-Some.others.now = search rules in
    let pass : list_all is_text_byte c.in-Some.eight.now ≡ true = search rules in
    behind_pass c.in-Some.eight.now c.in-Some.others.now c.loop-eight.rest.now _ parts pass c.loop-eight.invariant
