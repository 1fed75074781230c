use Rattle.std.proofs.Common.{◌∙◌, ap, sym, arith}
use Rattle.std.specs.List.{list_all}
use Rattle.xti_base.specs.Negotiation.{has_level, is_one_level}
use Rattle.xti_opt.proofs.Lists.{no_more}
use Rattle.xti_opt.proofs.InBytes.{rest_is_list, rest_is_shorter, level_of_first, another_level, same_level}
use Rattle.xti_opt.proofs.requests.is_one_level.Goals as goal

pub returns-in_default : goal.returns-in_default
returns-in_default c = sym (ap is_one_level (no_more c.args.request.now c.requires c.in_default.ensures))

pub loop-option-init : goal.loop-option-init
loop-option-init c =
    (rest_is_list c.args.request.now c.in-Some.first c.in-Some.ensures c.requires, level_of_first c.args.request.now c.in-Some.first c.in-Some.ensures c.requires)

pub returns-then-option-first : goal.returns-then-option-first
returns-then-option-first c =
    sym (another_level c.in-Some.first.level c.loop-option.rest.now c.in-Some-split_first.option c.in-Some-split_first.ensures c.loop-option.invariant.0 c.if-option-first.true) ∙ c.loop-option.invariant.1

pub loop-option-smaller : goal.loop-option-smaller
loop-option-smaller c = omega (arith, rest_is_shorter c.loop-option.rest.now c.in-Some-split_first.option c.in-Some-split_first.ensures)

pub loop-option-preserved : goal.loop-option-preserved
loop-option-preserved c =
    let rest = c.loop-option.rest.now in
    let option = c.in-Some-split_first.option in (
      rest_is_list rest option c.in-Some-split_first.ensures c.loop-option.invariant.0,
      same_level c.in-Some.first.level rest option c.in-Some-split_first.ensures c.loop-option.invariant.0 c.if-option-first.false ∙ c.loop-option.invariant.1,
    )

pub returns : goal.returns
returns c =
    sym (ap (list_all (has_level c.in-Some.first.level)) (no_more c.loop-option.rest.now c.loop-option.invariant.0 c.in_default-split_first.ensures)) ∙ c.loop-option.invariant.1
