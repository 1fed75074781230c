use Rattle.std.proofs.Common.{◌≡◌, ◌∙◌, ap, subst, sym, None}
use Rattle.xti_model.specs.declared.entry.Applied.{Applied}
use Rattle.xti_model.specs.History.{after}
use Rattle.xti_model.specs.Step.{step}
use Rattle.xti_sock.specs.Sights.{IsStanding}
use Rattle.xti_copy.specs.Rides.{Ride, Steps, is_done, sight_of}
use Rattle.xti_copy.proofs.Calling.{Goes, goes-first, goes-still, goes-made, goes-done, goes-part, goes-stalled}
use Rattle.xti_copy.proofs.rider.RiderCaller.call.Goals as goal

pub loop-self-init : goal.loop-self-init
loop-self-init g c =
    let k = subst (λ (r : Ride). IsStanding (sight_of r)) c.self.view_is c.self.invariant.standing in
    record { standing = k; goes = goes-first c.args.self.now c.args.made.now k c.requires.free }

pub returns-in-Ok-Blocked : goal.returns-in-Ok-Blocked
returns-in-Ok-Blocked g c =
    let w = subst (λ (a : Applied). Steps c.loop-self.self c.args.made.now c.loop-self.go c.step.new.self a) c.in-Ok-Blocked.field-0-is c.in-Ok-Blocked.ensures.steps in
    let s : Ride = c.args.self.now in
    let t : Ride = c.step.new.self in
    let same : c.loop-self.self ≡ t = sym w.is in
    let goes : Goes s c.args.made.now c.loop-self.go t = subst (λ (r : Ride). Goes s c.args.made.now c.loop-self.go r) same c.loop-self.invariant.goes in
    let blocked : step t.providers (after t.providers t.entries) c.args.made.now c.loop-self.go ≡ None =
    subst (λ (r : Ride). step r.providers (after r.providers r.entries) c.args.made.now c.loop-self.go ≡ None) same w.blocked in
    record {
      made = record {
        later = goes-still goes;
        standing = c.in-Ok-Blocked.ensures.standing;
        made = goes-stalled goes c.taken_before-in-Ok-Blocked.result c.count.result c.taken_before-in-Ok-Blocked.ensures c.count.ensures blocked;
        free = tt;
      };
    }

pub returns-in-Done : goal.returns-in-Done
returns-in-Done g c =
    let m = subst (λ (a : Applied). Steps c.loop-self.self c.args.made.now c.loop-self.go c.step.new.self a) c.in-Ok-Step.field-0-is c.in-Ok-Step.ensures.steps in
    record {
      made = record {
        later = goes-made c.loop-self.invariant.goes m;
        standing = c.in-Ok-Step.ensures.standing;
        made = goes-done c.loop-self.invariant.goes m c.in-Done.reply c.in-Done.is;
        free = ap (λ (r : Ride). r.free) m.is ∙ ap is_done c.in-Done.is;
      };
    }

pub loop-self-smaller : goal.loop-self-smaller
loop-self-smaller g c =
    let m = subst (λ (a : Applied). Steps c.loop-self.self c.args.made.now c.loop-self.go c.step.new.self a) c.in-Ok-Step.field-0-is c.in-Ok-Step.ensures.steps in
    (goes-part c.loop-self.invariant.goes m c.in-Part.taken c.in-Part.is).1

pub loop-self-preserved : goal.loop-self-preserved
loop-self-preserved g c =
    let m = subst (λ (a : Applied). Steps c.loop-self.self c.args.made.now c.loop-self.go c.step.new.self a) c.in-Ok-Step.field-0-is c.in-Ok-Step.ensures.steps in
    record { standing = c.in-Ok-Step.ensures.standing; goes = (goes-part c.loop-self.invariant.goes m c.in-Part.taken c.in-Part.is).0 }
