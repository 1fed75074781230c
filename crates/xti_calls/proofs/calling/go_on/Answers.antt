use Rattle.std.proofs.Common.{◌∙◌, ap, sym, subst}
use Rattle.std.specs.Prelude.{is_none}
use Rattle.xti_hall.specs.Stalls.{waits}
use Rattle.xti_gather.specs.Cells.{IsWhole}
use Rattle.xti_hall.specs.Words.{setting_of}
use Rattle.xti_hall_rule.specs.Histories.{after}
use Rattle.xti_hall_rule.specs.declared.setting.Setting.{Setting}
use Rattle.xti_model.specs.Profile.{valid}
use Rattle.xti_model.specs.declared.entry.Applied.{Applied}
use Rattle.xti_step.specs.Steps.{Tells, SeenAt}
use Rattle.xti_calls.proofs.Going.{goes-done, goes-may, goes-part, goes-on, goes-stopped, later-still, looks-idle, looks-later, still-blocked, waits-no-more, was-blocked}
use Rattle.xti_calls.proofs.calling.go_on.Goals as goal

pub returns-in-Done-clause-made : goal.returns-in-Done-clause-made
returns-in-Done-clause-made g c =
    let b = c.in-Ok-Step-default in
    let m = subst (λ (a : Applied). Tells c.loop.seat.view c.args.call.now c.loop.go c.step.new.seat.view a) b.field-0-0-is b.ensures.ok in
    goes-done c.loop.invariant.goes m c.step.ensures.later c.in-Done.reply c.in-Done.is b.ensures.free

pub loop-preserved-in-Part : goal.loop-preserved-in-Part
loop-preserved-in-Part g c =
    let b = c.in-Ok-Step-default in
    let m = subst (λ (a : Applied). Tells c.loop.seat.view c.args.call.now c.loop.go c.step.new.seat.view a) b.field-0-0-is b.ensures.ok in record {
      hall = c.step.ensures.hall.0 ∙ c.loop.invariant.hall;
      id = c.step.ensures.hall.1 ∙ c.loop.invariant.id;
      idle = c.step.ensures.idle;
      empty = c.step.ensures.empty.0;
      providers = c.step.ensures.empty.1 ∙ c.loop.invariant.providers;
      first = c.step.ensures.first;
      mark = λ _. ap waits b.ensures.free;
      goes = goes-part c.loop.invariant.goes m c.step.ensures.later c.in-Part.taken c.in-Part.is;
    }

pub loop-preserved : goal.loop-preserved
loop-preserved g c =
    let b = c.in-Ok-Blocked-default in
    let v = c.step.new.seat.view in
    let v' = c.wait.new.seat.view in
    let w = subst (λ (a : Applied). Tells c.loop.seat.view c.args.call.now c.loop.go v a) b.field-0-0-is b.ensures.ok in
    let one = goes-on c.loop.invariant.goes w.mine c.step.ensures.later in record {
      hall = c.wait.ensures.hall.0 ∙ (c.step.ensures.hall.0 ∙ c.loop.invariant.hall);
      id = c.wait.ensures.hall.1 ∙ (c.step.ensures.hall.1 ∙ c.loop.invariant.id);
      idle = looks-idle v v' c.step.ensures.idle c.wait.ensures.looks;
      empty = c.step.ensures.empty.0;
      providers = c.step.ensures.empty.1 ∙ c.loop.invariant.providers;
      first = c.step.ensures.first;
      mark = λ _. ap waits c.in-Again.ensures.waited.1;
      goes = goes-on one c.wait.ensures.looks.mine (looks-later v v' c.wait.ensures.looks);
    }

pub returns-in-Stalled-clause-made : goal.returns-in-Stalled-clause-made
returns-in-Stalled-clause-made g c =
    let b = c.in-Ok-Blocked-default in
    let v = c.step.new.seat.view in
    let v' = c.wait.new.seat.view in
    let w = subst (λ (a : Applied). Tells c.loop.seat.view c.args.call.now c.loop.go v a) b.field-0-0-is b.ensures.ok in
    let at = subst (λ (a : Applied). SeenAt a b.at v) b.field-0-0-is b.ensures.at in
    let one = goes-on c.loop.invariant.goes w.mine c.step.ensures.later in
    let two = goes-on one c.wait.ensures.looks.mine (looks-later v v' c.wait.ensures.looks) in
    let stall = c.in-Stalled.ensures.waited in record {
      stopped = goes-stopped two c.taken_before-in-Stalled.result c.taken_before-in-Stalled.ensures;
      blocked = still-blocked v v' c.args.call.now c.loop.go c.wait.ensures.looks (sym stall.0.at ∙ (stall.1 ∙ sym at)) w.blocked;
      want = c.in-Some-want_of.want;
      want_is = c.in-Some-want_of.ensures;
      stall = stall.0;
      rests = stall.2;
    }

pub returns-in-Err-clause-mark : goal.returns-in-Err-clause-mark
returns-in-Err-clause-mark g c = λ w. waits-no-more c.loop.seat.view.mark c.step.new.seat.view.mark c.in-Err.ensures.mark (c.loop.invariant.mark w)

pub returns-in-Err-clause-hall : goal.returns-in-Err-clause-hall
returns-in-Err-clause-hall g c = (c.step.ensures.hall.0 ∙ c.loop.invariant.hall, c.step.ensures.hall.1 ∙ c.loop.invariant.id)

pub returns-in-Err-clause-idle : goal.returns-in-Err-clause-idle
returns-in-Err-clause-idle g c = c.step.ensures.idle

pub returns-in-Err-clause-empty : goal.returns-in-Err-clause-empty
returns-in-Err-clause-empty g c = (c.step.ensures.empty.0, c.step.ensures.empty.1 ∙ c.loop.invariant.providers)

pub returns-in-Err-clause-first : goal.returns-in-Err-clause-first
returns-in-Err-clause-first g c = c.step.ensures.first

pub returns-in-Err-clause-later : goal.returns-in-Err-clause-later
returns-in-Err-clause-later g c = later-still c.args.seat.now.view c.loop.seat.view c.step.new.seat.view c.loop.invariant.goes.later c.step.ensures.later

pub returns-in-Err-clause-standing : goal.returns-in-Err-clause-standing
returns-in-Err-clause-standing g c = c.step.ensures.standing

pub returns-in-Done-clause-hall : goal.returns-in-Done-clause-hall
returns-in-Done-clause-hall g c = (c.step.ensures.hall.0 ∙ c.loop.invariant.hall, c.step.ensures.hall.1 ∙ c.loop.invariant.id)

pub returns-in-Done-clause-idle : goal.returns-in-Done-clause-idle
returns-in-Done-clause-idle g c = c.step.ensures.idle

pub returns-in-Done-clause-empty : goal.returns-in-Done-clause-empty
returns-in-Done-clause-empty g c = (c.step.ensures.empty.0, c.step.ensures.empty.1 ∙ c.loop.invariant.providers)

pub returns-in-Done-clause-first : goal.returns-in-Done-clause-first
returns-in-Done-clause-first g c = c.step.ensures.first

pub returns-in-Done-clause-later : goal.returns-in-Done-clause-later
returns-in-Done-clause-later g c = later-still c.args.seat.now.view c.loop.seat.view c.step.new.seat.view c.loop.invariant.goes.later c.step.ensures.later

pub returns-in-Done-clause-standing : goal.returns-in-Done-clause-standing
returns-in-Done-clause-standing g c = c.step.ensures.standing

pub returns-in-Err-clause-made : goal.returns-in-Err-clause-made
returns-in-Err-clause-made g c = goes-stopped (goes-on c.loop.invariant.goes c.in-Err.ensures.err c.step.ensures.later) c.taken_before.result c.taken_before.ensures

pub returns-in-Done-clause-mark : goal.returns-in-Done-clause-mark
returns-in-Done-clause-mark g c = λ _. ap waits c.in-Ok-Step-default.ensures.free

pub returns-in-Stalled-clause-hall : goal.returns-in-Stalled-clause-hall
returns-in-Stalled-clause-hall g c =
    (c.wait.ensures.hall.0 ∙ (c.step.ensures.hall.0 ∙ c.loop.invariant.hall), c.wait.ensures.hall.1 ∙ (c.step.ensures.hall.1 ∙ c.loop.invariant.id))

pub returns-in-Stalled-clause-idle : goal.returns-in-Stalled-clause-idle
returns-in-Stalled-clause-idle g c = looks-idle c.step.new.seat.view c.wait.new.seat.view c.step.ensures.idle c.wait.ensures.looks

pub returns-in-Stalled-clause-empty : goal.returns-in-Stalled-clause-empty
returns-in-Stalled-clause-empty g c = (c.step.ensures.empty.0, c.step.ensures.empty.1 ∙ c.loop.invariant.providers)

pub returns-in-Stalled-clause-first : goal.returns-in-Stalled-clause-first
returns-in-Stalled-clause-first g c = c.step.ensures.first

pub returns-in-Stalled-clause-later : goal.returns-in-Stalled-clause-later
returns-in-Stalled-clause-later g c =
    let v = c.step.new.seat.view in
    let v' = c.wait.new.seat.view in
    later-still c.args.seat.now.view v v' (later-still c.args.seat.now.view c.loop.seat.view v c.loop.invariant.goes.later c.step.ensures.later) (looks-later v v' c.wait.ensures.looks)

pub returns-in-Stalled-clause-standing : goal.returns-in-Stalled-clause-standing
returns-in-Stalled-clause-standing g c = c.wait.ensures.standing

pub returns-in-Stalled-clause-mark : goal.returns-in-Stalled-clause-mark
returns-in-Stalled-clause-mark g c = λ _. ap waits c.in-Stalled.ensures.waited.2

pub wait-requires-clause-hall : goal.wait-requires-clause-hall
wait-requires-clause-hall g c =
    (c.step.ensures.hall.0 ∙ (c.loop.invariant.hall ∙ c.requires.hall.0.0), c.step.ensures.later.setting ∙ (c.loop.invariant.goes.later.setting ∙ c.requires.hall.0.1))

pub wait-requires-clause-free : goal.wait-requires-clause-free
wait-requires-clause-free g c = c.step.ensures.idle.0

pub wait-requires-clause-nothing : goal.wait-requires-clause-nothing
wait-requires-clause-nothing g c = c.step.ensures.idle.1

pub step-requires-clause-hall : goal.step-requires-clause-hall
step-requires-clause-hall g c =
    let i = c.loop.invariant in
    λ _ _.
    ((i.hall ∙ c.requires.hall.0.0, i.goes.later.setting ∙ c.requires.hall.0.1), subst (IsWhole (setting_of c.args.hall.now)) (sym i.providers) c.requires.hall.1)

pub step-requires-clause-idle : goal.step-requires-clause-idle
step-requires-clause-idle g c = λ _ _. c.loop.invariant.idle

pub step-requires-clause-empty : goal.step-requires-clause-empty
step-requires-clause-empty g c = λ _ _. c.loop.invariant.empty

pub step-requires-clause-first : goal.step-requires-clause-first
step-requires-clause-first g c = λ _ _. c.loop.invariant.first

pub step-requires-clause-go : goal.step-requires-clause-go
step-requires-clause-go g c = λ _ _. goes-may c.loop.invariant.goes

pub unreachable-requires : goal.unreachable-requires
unreachable-requires g c =
    let b = c.in-Ok-Blocked-default in
    let v = c.step.new.seat.view in
    let w = subst (λ (a : Applied). Tells c.loop.seat.view c.args.call.now c.loop.go v a) b.field-0-0-is b.ensures.ok in
    c.blocked_calls_have_wants.ensures.has v.setting.providers (after v.setting v.seen) c.args.call.now c.loop.go c.loop.invariant.goes.left (ap is_none w.blocked) c.in_default.ensures

pub wait-requires-clause-want : goal.wait-requires-clause-want
wait-requires-clause-want g c =
    let b = c.in-Ok-Blocked-default in
    let v = c.step.new.seat.view in
    let w = subst (λ (a : Applied). Tells c.loop.seat.view c.args.call.now c.loop.go v a) b.field-0-0-is b.ensures.ok in
    let at = subst (λ (a : Applied). SeenAt a b.at v) b.field-0-0-is b.ensures.at in
    let ok =
    ap (λ (a : Setting). valid a.providers) (c.step.ensures.later.setting ∙ (c.loop.invariant.goes.later.setting ∙ (c.requires.hall.0.1 ∙ c.requires.hall.1)))
    ∙ c.requires.empty.loan.kept.valid_providers in
    was-blocked v c.in-Some-want_of.want b.at at
    (c.blocked_calls_have_wants.ensures.blocked v.setting.providers (after v.setting v.seen) c.args.call.now c.loop.go ok c.loop.invariant.goes.left (ap is_none w.blocked) c.in-Some-want_of.want c.in-Some-want_of.ensures)

pub unreachable-requires-2 : goal.unreachable-requires-2
unreachable-requires-2 g c = let e = c.in-None.ensures.steps in cc
