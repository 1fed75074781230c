use Rattle.std.proofs.Common.{◌∙◌, ap}
use Rattle.xti_model.specs.Profile.{valid}
use Rattle.xti_hall_rule.specs.declared.setting.Setting.{Setting}
use Rattle.xti_calls.proofs.Replied.{answered_may_be, answered_short}
use Rattle.xti_calls.proofs.shared.Xti.reply.Goals as goal

pub returns-in-Ok-clause-kind : goal.returns-in-Ok-clause-kind
returns-in-Ok-clause-kind g c =
    answered_may_be c.steps_answer_in_form.ensures.form c.args.seat.now.view c.args.call c.call-reply.new.seat.view c.in-Ok.reply c.call-reply.ensures.standing c.in-Ok.ensures.made

pub returns-in-Ok-clause-short : goal.returns-in-Ok-clause-short
returns-in-Ok-clause-short g c =
    let ok = ap (λ (a : Setting). valid a.providers) (c.call-reply.ensures.later.setting ∙ c.requires.seat.1) ∙ c.args.self.now.valid_providers in
    answered_short c.args.seat.now.view c.args.call c.call-reply.new.seat.view c.in-Ok.reply ok c.call-reply.ensures.standing c.in-Ok.ensures.made
