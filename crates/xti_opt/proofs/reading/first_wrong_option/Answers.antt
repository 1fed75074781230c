use Rattle.std.proofs.Common.{◌≡◌, ◌+◌, [], ◌∙◌, ap, sym, arith, length-drop, take, drop, true, refl}
use Rattle.std.proofs.lemmas.List.{take_rest}
use Rattle.xti_base.specs.Options.{begins_option, front_size, is_option_list}
use Rattle.xti_base.proofs.OptionLists.{front_within, no_bytes}
use Rattle.xti_opt.proofs.Lists.{one_more}
use Rattle.xti_opt.proofs.reading.first_wrong_option.Goals as goal

pub loop-at-init : goal.loop-at-init
loop-at-init c = (omega arith, no_bytes [] refl)

pub loop-at-smaller : goal.loop-at-smaller
loop-at-smaller c =
    let rest = take_rest c.args.bytes.now c.loop-at.at in
    let begins : begins_option (drop c.loop-at.at c.args.bytes.now) ≡ true = sym (ap begins_option rest) ∙ c.in-Some.ensures.0 in
    let size : c.in-Some.size ≡ front_size (drop c.loop-at.at c.args.bytes.now) = c.in-Some.ensures.1 ∙ ap front_size rest in
    let sizes = front_within (drop c.loop-at.at c.args.bytes.now) begins in
    omega (arith, size, sizes.0, sizes.1, length-drop c.loop-at.at c.args.bytes.now)

pub loop-at-preserved : goal.loop-at-preserved
loop-at-preserved c =
    let rest = take_rest c.args.bytes.now c.loop-at.at in
    let begins : begins_option (drop c.loop-at.at c.args.bytes.now) ≡ true = sym (ap begins_option rest) ∙ c.in-Some.ensures.0 in
    let size : c.in-Some.size ≡ front_size (drop c.loop-at.at c.args.bytes.now) = c.in-Some.ensures.1 ∙ ap front_size rest in
    let sizes = front_within (drop c.loop-at.at c.args.bytes.now) begins in (
      omega (arith, size, sizes.0, sizes.1, length-drop c.loop-at.at c.args.bytes.now),
      ap (λ k. is_option_list (take (c.loop-at.at + k) c.args.bytes.now)) size ∙ one_more c.args.bytes.now c.loop-at.at c.loop-at.invariant.1 begins,
    )
