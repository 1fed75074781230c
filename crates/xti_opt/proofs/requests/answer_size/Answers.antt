use Rattle.std.proofs.Common.{ap, arith, length}
use Rattle.xti_base.specs.Options.{options_bytes}
use Rattle.xti_base.specs.Negotiation.{negotiate}
use Rattle.xti_opt.proofs.Lists.{no_more}
use Rattle.xti_opt.proofs.InBytes.{rest_is_list, rest_is_shorter, length_behind}
use Rattle.xti_opt.proofs.requests.answer_size.Goals as goal

pub loop-option-smaller : goal.loop-option-smaller
loop-option-smaller c = omega (arith, rest_is_shorter c.loop-option.rest.now c.in-Some.option c.in-Some.ensures)

pub loop-option-preserved : goal.loop-option-preserved
loop-option-preserved c =
    let rest = c.loop-option.rest.now in
    let option = c.in-Some.option in (
      rest_is_list rest option c.in-Some.ensures c.loop-option.invariant.0,
      λ s. omega (arith, c.loop-option.invariant.1 s, c.size_of_answer-size.ensures.size s, length_behind s c.args.action rest option c.in-Some.ensures c.loop-option.invariant.0),
      omega (arith, rest_is_shorter rest option c.in-Some.ensures),
    )

pub returns-clause-size : goal.returns-clause-size
returns-clause-size c =
    λ s. omega (
      arith,
      c.loop-option.invariant.1 s,
      ap (λ os. length (options_bytes (negotiate s c.args.action os).options)) (no_more c.loop-option.rest.now c.loop-option.invariant.0 c.in_default.ensures),
    )
