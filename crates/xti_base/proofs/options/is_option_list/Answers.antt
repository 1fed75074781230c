use Rattle.std.proofs.Common.{◌≡◌, ◌≤◌, ◌∙◌, ◌==◌, ap, sym, arith, length, drop, true, false}
use Rattle.xti_base.specs.Options.{is_option_list}
use Rattle.xti_base.proofs.OptionLists.{front_within, rest_decides, no_option, no_bytes}
use Rattle.xti_base.proofs.options.is_option_list.Goals as goal

pub split_at-requires : goal.split_at-requires
split_at-requires c = rw c.in-Some.ensures.1 ((front_within c.loop-rest.rest.now c.in-Some.ensures.0).1)

pub loop-rest-smaller : goal.loop-rest-smaller
loop-rest-smaller c =
    let least : 16 ≤ c.in-Some.size = rw c.in-Some.ensures.1 ((front_within c.loop-rest.rest.now c.in-Some.ensures.0).0) in
    omega (arith, least, c.split_at.ensures.back_len)

pub loop-rest-preserved : goal.loop-rest-preserved
loop-rest-preserved c =
    let filled : (length c.loop-rest.rest.now == 0) ≡ false = cc in
    ap is_option_list (c.split_at.ensures.back ∙ ap (λ n. drop n c.loop-rest.rest.now) c.in-Some.ensures.1) ∙ rest_decides c.loop-rest.rest.now filled c.in-Some.ensures.0 ∙ c.loop-rest.invariant

pub returns-in-None : goal.returns-in-None
returns-in-None c =
    let filled : (length c.loop-rest.rest.now == 0) ≡ false = cc in
    sym (no_option c.loop-rest.rest.now filled c.in-None.ensures) ∙ c.loop-rest.invariant

pub returns : goal.returns
returns c =
    let empty : (length c.loop-rest.rest.now == 0) ≡ true = cc in
    sym (no_bytes c.loop-rest.rest.now empty) ∙ c.loop-rest.invariant
