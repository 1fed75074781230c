use Rattle.std.proofs.Common.{refl, sym, subst, inl, inr, ◌∙◌}
use Rattle.xti_model.specs.declared.entry.Act.{Act}
use Rattle.xti_replay.specs.Progress.{MayTake, going_of}
use Rattle.xti_replay.proofs.Errors.{on_any_err}
use Rattle.xti_replay.proofs.Steps.{can-take, fills, has-stepped, step-going}
use Rattle.xti_replay.proofs.asking.make.Goals as goal

pub advance-requires : goal.advance-requires
advance-requires c =
    subst (λ (a : Act). MayTake c.args.lines.now c.take_act.new.self a) (sym (c.replace.ensures.after ∙ c.take_act.ensures.act))
    (can-take c.args.lines.now c.requires.ready.0 c.args.number c.args.worker.now c.take_act.new.self c.requires.ready.1 c.take_act.ensures.left)

pub returns-clause-makes : goal.returns-clause-makes
returns-clause-makes c = λ past ready.
    fills c.args.world.now.providers c.args.lines.now c.args.number past c.args.world.now c.step_into.new.self c.args.worker.now c.take_act.new.self c.advance.new.self _ c.replace.new.dest c.step_into.new.outcome c.step_into.new.after ready refl
    ((rw c.if-not-branch.false at c.in_ok-step_into.ensures.step) ∙ step-going c.args.world.now.providers c.args.world.now.cells (going_of c.args.worker.now) c.in-Some.call.now c.so_far.result c.in-Some.ensures c.so_far.ensures)
    (c.replace.ensures.after ∙ c.take_act.ensures.act) c.take_act.ensures.left c.advance.ensures.next
    (record { places = c.advance.ensures.places; count = c.in_ok-advance.ensures.count; part = c.in_ok-advance.ensures.part; names = c.in_ok-advance.ensures.names })

pub returns-in_err-step_into-clause-err : goal.returns-in_err-step_into-clause-err
returns-in_err-step_into-clause-err c = on_any_err c.from_residual.result (λ past ready. inl (c.in_err-step_into.ensures.err, refl))

pub returns-in_err-advance-clause-err : goal.returns-in_err-advance-clause-err
returns-in_err-advance-clause-err c = on_any_err c.from_residual-in_err-advance.result (λ past ready.
    inr (has-stepped c.args.world.now.providers c.args.lines.now c.args.number past c.args.world.now c.step_into.new.self c.args.worker.now c.step_into.new.outcome c.step_into.new.after ready
    ((rw c.if-not-branch.false at c.in_ok-step_into.ensures.step) ∙ step-going c.args.world.now.providers c.args.world.now.cells (going_of c.args.worker.now) c.in-Some.call.now c.so_far.result c.in-Some.ensures c.so_far.ensures)))
