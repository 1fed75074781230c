use Rattle.std.proofs.Common.{refl, ap, get_or, ◌∙◌}
use Rattle.std.proofs.lemmas.Result.{IfOk-weaker}
use Rattle.xti_check.specs.Parts.{left_after}
use Rattle.xti_check.proofs.Standing.{act_place, blocked_place, compared_place}
use Rattle.xti_check.proofs.judging.Judge.entry.Goals as goal

pub returns-in-Ok-Step-clause-judged : goal.returns-in-Ok-Step-clause-judged
returns-in-Ok-Step-clause-judged c =
    let e = get_or c.args.self.now.entries.now c.args.place c.index-self-place.result in
    IfOk-weaker c.compare.result _ _
    (λ text h. compared_place c.args.self.now _ c.args.place e _ _ c.made_by.result c.in-Some.going c.in-Ok-Step.field-0 _ c.in-Ok-Step.outcome c.in-Ok-Step.after _ text c.requires.place c.requires.worker (ap (get_or c.args.self.now.entries.now c.args.place) c.index-self-place.is) refl c.going_of.ensures c.made_by.ensures c.in-Some.is c.in-Ok-Step.ensures.step c.in-Ok-Step.field-0-is h c.in-Ok-Step.ensures.providers refl refl refl (c.left_after.ensures ∙ ap (λ b. left_after b e.outcome) c.begun_at-begun.ensures))
    c.compare.ensures

pub returns-in_default-clause-judged : goal.returns-in_default-clause-judged
returns-in_default-clause-judged c =
    let e = get_or c.args.self.now.entries.now c.args.place c.index-self-place.result in
    IfOk-weaker c.wanted_act.result _ _
    (λ text h. act_place c.args.self.now c.args.self.now c.args.place e _ _ c.made_by.result text c.requires.place c.requires.worker (ap (get_or c.args.self.now.entries.now c.args.place) c.index-self-place.is) refl c.going_of.ensures c.made_by.ensures c.in_default.is h)
    c.wanted_act.ensures

pub returns-in-Ok-Blocked-clause-judged : goal.returns-in-Ok-Blocked-clause-judged
returns-in-Ok-Blocked-clause-judged c =
    let e = get_or c.args.self.now.entries.now c.args.place c.index-self-place.result in
    IfOk-weaker c.wanted.result _ _
    (λ text h. blocked_place c.args.self.now _ c.args.place e _ _ c.made_by.result c.in-Some.going c.in-Ok-Blocked.field-0 _ text c.requires.place c.requires.worker (ap (get_or c.args.self.now.entries.now c.args.place) c.index-self-place.is) refl c.going_of.ensures c.made_by.ensures c.in-Some.is c.in-Ok-Blocked.ensures.step c.in-Ok-Blocked.field-0-is h)
    c.wanted.ensures
