use Rattle.std.proofs.Common.{◌≡◌, ◌≤◌, ◌++◌, ◌∷◌, [], ◌∙◌, ap, sym, arith, drop, append_assoc, append-nil, true}
use Rattle.xti_base.specs.Options.{begins_option, front_option, behind_option, is_option_list, the_options}
use Rattle.xti_base.proofs.OptionLists.{front_within}
use Rattle.xti_opt.proofs.Fronts.{length_within}
use Rattle.xti_opt.proofs.Lists.{options_front, behind_is_list, no_more}
use Rattle.xti_opt.proofs.reading.read_whole.Goals as goal

pub first_option-requires-clause-header : goal.first_option-requires-clause-header
first_option-requires-clause-header c = (length_within c.loop-size.rest.now c.in-Some.ensures.0).0

pub first_option-requires-clause-value : goal.first_option-requires-clause-value
first_option-requires-clause-value c = (length_within c.loop-size.rest.now c.in-Some.ensures.0).1

pub split_at-requires : goal.split_at-requires
split_at-requires c = rw c.in-Some.ensures.1 ((front_within c.loop-size.rest.now c.in-Some.ensures.0).1)

pub loop-size-smaller : goal.loop-size-smaller
loop-size-smaller c =
    let least : 16 ≤ c.in-Some.size = rw c.in-Some.ensures.1 ((front_within c.loop-size.rest.now c.in-Some.ensures.0).0) in
    omega (arith, least, c.split_at.ensures.back_len)

pub loop-size-preserved : goal.loop-size-preserved
loop-size-preserved c =
    let rest = c.loop-size.rest.now in
    let begins : begins_option rest ≡ true = c.in-Some.ensures.0 in
    let is : is_option_list rest ≡ true = c.loop-size.invariant.0 in
    let behind : c.split_at.result.1.now ≡ behind_option rest = c.split_at.ensures.back ∙ ap (λ n. drop n rest) c.in-Some.ensures.1 in
    let pushed : c.push.new.self ≡ c.loop-size.list ++ front_option rest ∷ [] = c.in_ok-push.ensures.ok ∙ ap (λ o. c.loop-size.list ++ o ∷ []) c.in_ok-first_option.ensures in (
      ap is_option_list behind ∙ behind_is_list rest begins is,
      ap (λ l. l ++ the_options c.split_at.result.1.now) pushed
          ∙ ap (λ l. (c.loop-size.list ++ front_option rest ∷ []) ++ the_options l) behind
          ∙ append_assoc c.loop-size.list (front_option rest ∷ []) (the_options (behind_option rest))
          ∙ ap (λ l. c.loop-size.list ++ l) (sym (options_front rest begins is))
          ∙ c.loop-size.invariant.1,
    )

pub returns : goal.returns
returns c =
    let rest = c.loop-size.rest.now in
    sym (append-nil c.loop-size.list)
    ∙ ap (λ l. c.loop-size.list ++ l) (sym (no_more rest c.loop-size.invariant.0 c.in_default.ensures))
    ∙ c.loop-size.invariant.1
