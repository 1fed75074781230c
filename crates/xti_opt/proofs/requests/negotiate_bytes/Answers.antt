use Rattle.std.proofs.Common.{◌≡◌, ◌++◌, ◌&&◌, ◌∙◌, ap, arith, true, refl}
use Rattle.xti_base.specs.Options.{options_bytes}
use Rattle.xti_base.specs.Negotiation.{is_action}
use Rattle.xti_opt.specs.Answers.{answer_of}
use Rattle.xti_opt.specs.Requests.{is_request}
use Rattle.xti_opt.proofs.InBytes.{rest_is_shorter, space_left, one_further, all_negotiated}
use Rattle.xti_opt.proofs.requests.negotiate_bytes.Goals as goal

pub write_answer-requires : goal.write_answer-requires
write_answer-requires c =
    let fine : (is_action c.args.action && is_request c.args.request.now) ≡ true = rw (c.in_ok-look_at.ensures.fine.0, c.in_ok-look_at.ensures.fine.1) refl in
    space_left c.args.settings.now c.args.room.now c.args.action c.args.request.now c.loop-option.settings c.loop-option.overall c.loop-option.room c.loop-option.rest.now
    c.loop-option.invariant (c.requires.space fine) c.in-Some.option (answer_of c.negotiate_one-answer.result) c.in-Some.ensures c.negotiate_one-answer.ensures.answer

pub loop-option-smaller : goal.loop-option-smaller
loop-option-smaller c = omega (arith, rest_is_shorter c.loop-option.rest.now c.in-Some.option c.in-Some.ensures)

pub loop-option-preserved : goal.loop-option-preserved
loop-option-preserved c =
    one_further c.args.settings.now c.args.room.now c.args.action c.args.request.now c.loop-option.settings c.loop-option.overall c.loop-option.room c.loop-option.rest.now
    c.loop-option.invariant c.in-Some.option (answer_of c.negotiate_one-answer.result) c.negotiate_one-answer.new.self c.worse-overall.result c.write_answer.new.room
    c.in-Some.ensures c.negotiate_one-answer.ensures.answer c.negotiate_one-answer.ensures.settings c.worse-overall.ensures c.write_answer.ensures.bytes c.write_answer.ensures.spare

pub returns-clause-bytes : goal.returns-clause-bytes
returns-clause-bytes c =
    c.loop-option.invariant.bytes
    ∙ ap (λ n. c.args.room.now.bytes ++ options_bytes n.options) (all_negotiated c.args.settings.now c.args.room.now c.args.action c.args.request.now c.loop-option.settings c.loop-option.overall c.loop-option.room c.loop-option.rest.now
    c.loop-option.invariant c.in_default.ensures)

pub returns-clause-overall : goal.returns-clause-overall
returns-clause-overall c =
    ap (λ n. n.result) (all_negotiated c.args.settings.now c.args.room.now c.args.action c.args.request.now c.loop-option.settings c.loop-option.overall c.loop-option.room c.loop-option.rest.now
    c.loop-option.invariant c.in_default.ensures)

pub returns-clause-settings : goal.returns-clause-settings
returns-clause-settings c =
    ap (λ n. n.settings) (all_negotiated c.args.settings.now c.args.room.now c.args.action c.args.request.now c.loop-option.settings c.loop-option.overall c.loop-option.room c.loop-option.rest.now
    c.loop-option.invariant c.in_default.ensures)
