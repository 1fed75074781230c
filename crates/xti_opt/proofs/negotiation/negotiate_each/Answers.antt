use Rattle.std.proofs.Common.{◌≡◌, ◌++◌, ◌∷◌, [], ◌∙◌, ap, arith}
use Rattle.xti_base.specs.Negotiation.{answer_meant, meaning}
use Rattle.xti_opt.specs.Answers.{answer_of}
use Rattle.xti_opt.proofs.Negotiating.{negotiated, next, negotiate_more, next_is}
use Rattle.xti_opt.proofs.negotiation.negotiate_each.Goals as goal

pub loop-option-preserved : goal.loop-option-preserved
loop-option-preserved c =
    let o = c.option-item.result in
    let answer = answer_of c.negotiate_one-answer.result in
    let n = negotiated c.loop-option.settings c.loop-option.answers.items c.loop-option.overall in
    let value : answer ≡ answer_meant c.loop-option.settings c.args.action o.value (meaning o) =
    c.negotiate_one-answer.ensures.answer ∙ ap (λ v. answer_meant c.loop-option.settings c.args.action v (meaning o)) c.as_slice.ensures in
    negotiate_more c.args.settings.now c.args.action c.args.options.now c.loop-option.option-index o (omega arith) c.option-item.is
    ∙ ap (λ before. next c.args.action before o) c.loop-option.invariant
    ∙ next_is c.args.action n o answer c.negotiate_one-answer.new.self c.push.new.self.items c.worse-overall.result
    value c.negotiate_one-answer.ensures.settings
    (c.in_ok-push.ensures.items ∙ ap (λ told. c.loop-option.answers.items ++ told ∷ []) c.in_ok-answered.ensures) c.worse-overall.ensures
