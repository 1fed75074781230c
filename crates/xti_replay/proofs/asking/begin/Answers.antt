use Rattle.std.proofs.Common.{◌≡◌, ◌∙◌, Option, None, Some, inl, inr, refl, ap, sym, subst}
use Rattle.std.specs.Prelude.{option_and_then}
use Rattle.xti_model.specs.declared.entry.Act.{Act}
use Rattle.xti_model.specs.declared.entry.Go.TheVariants as go
use Rattle.xti_model.specs.History.{step_going}
use Rattle.xti_model.specs.Robin.{turn}
use Rattle.xti_model.specs.declared.call.Call.{Call}
use Rattle.xti_replay.specs.declared.workers.Worker.{Worker}
use Rattle.xti_replay.specs.Progress.{Makes, MayTake, begun_call, going_of}
use Rattle.xti_replay.proofs.Errors.{on_any_err}
use Rattle.xti_replay.proofs.Steps.{can-take, fills, has-stepped, begun-act, begins-none, set-idle}
use Rattle.xti_replay.proofs.asking.begin.Goals as goal

pub returns-in_default-clause-makes : goal.returns-in_default-clause-makes
returns-in_default-clause-makes c = λ past ready.
    let begun : Worker = record c.args.worker.now { next = begun_call c.args.entry.now.act } in
    let none : begun_call c.args.entry.now.act ≡ None = ap begun_call c.in_default.is in
    let same : begun ≡ c.args.worker.now = ap (λ (o : Option Call). let w : Worker = record c.args.worker.now { next = o } in w) (none ∙ sym c.requires.idle) in
    subst (λ (w : Worker). Makes c.args.lines.now c.args.number past c.args.world.now c.args.world.now begun w None (turn c.args.world.now.providers c.args.lines.now c.args.world.now.cells past c.args.number)) same
    (begins-none c.args.world.now.providers c.args.lines.now c.args.number past c.args.world.now begun ready none c.requires.whole)

pub advance-requires : goal.advance-requires
advance-requires c =
    subst (λ (a : Act). MayTake c.args.lines.now c.args.worker.now a) (sym (begun-act c.args.entry.now.act))
    (can-take c.args.lines.now c.requires.ready.0 c.args.number (record c.args.worker.now { next = begun_call c.args.entry.now.act }) c.args.worker.now c.requires.ready.1 (set-idle c.args.worker.now (begun_call c.args.entry.now.act) c.requires.idle))

pub returns-clause-makes : goal.returns-clause-makes
returns-clause-makes c = λ past ready.
    let begun : Worker = record c.args.worker.now { next = begun_call c.args.entry.now.act } in
    let begins : begun_call c.args.entry.now.act ≡ Some c.in-Begin.call = ap begun_call c.in-Begin.is in
    let going : step_going c.args.world.now.providers c.args.world.now.cells (record { call = c.in-Begin.call; so_far = go.Begin }) ≡ option_and_then (step_going c.args.world.now.providers c.args.world.now.cells) (going_of begun) =
    ap (λ (o : Option Call). option_and_then (step_going c.args.world.now.providers c.args.world.now.cells) (going_of (record c.args.worker.now { next = o }))) (sym begins) in
    fills c.args.world.now.providers c.args.lines.now c.args.number past c.args.world.now c.step_into.new.self begun c.args.worker.now c.advance.new.self _ c.args.entry.now.act c.step_into.new.outcome c.step_into.new.after ready refl
    ((rw c.if-not-branch.false at c.in_ok-step_into.ensures.step) ∙ going) (begun-act c.args.entry.now.act) (set-idle c.args.worker.now (begun_call c.args.entry.now.act) c.requires.idle) c.advance.ensures.next
    (record { places = c.advance.ensures.places; count = c.in_ok-advance.ensures.count; part = c.in_ok-advance.ensures.part; names = c.in_ok-advance.ensures.names })

pub returns-in_err-step_into-clause-err : goal.returns-in_err-step_into-clause-err
returns-in_err-step_into-clause-err c = on_any_err c.from_residual.result (λ past ready. inl (c.in_err-step_into.ensures.err, refl))

pub returns-in_err-advance-clause-err : goal.returns-in_err-advance-clause-err
returns-in_err-advance-clause-err c = on_any_err c.from_residual-in_err-advance.result (λ past ready.
    let begun : Worker = record c.args.worker.now { next = begun_call c.args.entry.now.act } in
    let begins : begun_call c.args.entry.now.act ≡ Some c.in-Begin.call = ap begun_call c.in-Begin.is in
    let going : step_going c.args.world.now.providers c.args.world.now.cells (record { call = c.in-Begin.call; so_far = go.Begin }) ≡ option_and_then (step_going c.args.world.now.providers c.args.world.now.cells) (going_of begun) =
    ap (λ (o : Option Call). option_and_then (step_going c.args.world.now.providers c.args.world.now.cells) (going_of (record c.args.worker.now { next = o }))) (sym begins) in
    inr (has-stepped c.args.world.now.providers c.args.lines.now c.args.number past c.args.world.now c.step_into.new.self begun c.step_into.new.outcome c.step_into.new.after ready
    ((rw c.if-not-branch.false at c.in_ok-step_into.ensures.step) ∙ going)))
