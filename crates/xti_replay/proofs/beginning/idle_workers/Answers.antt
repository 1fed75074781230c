use Rattle.std.proofs.Common.{◌∙◌, [], ap, length, subst, sym}
use Rattle.xti_replay.specs.Progress.{IsFresh, Of}
use Rattle.xti_replay.proofs.Fresh.{fresh-push}
use Rattle.xti_replay.proofs.beginning.idle_workers.Goals as goal

pub loop-number-preserved : goal.loop-number-preserved
loop-number-preserved c =
    let items = c.in_ok-push.ensures.items in
    let more = fresh-push c.loop-number._number c.loop-number.workers.items c.idle.result c.loop-number.invariant.many c.loop-number.invariant.fresh c.idle.ensures.places c.idle.ensures.begun c.idle.ensures.endpoints c.idle.ensures.sequences c.idle.ensures.part
    c.idle.ensures.next in
    record { many = ap length items ∙ more.0; fresh = subst (Of (IsFresh [])) (sym items) more.1 }
