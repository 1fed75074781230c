use Rattle.std.proofs.Common.{arith}
use Rattle.xti_lent.proofs.Written.{own-kept}
use Rattle.xti_switch.proofs.GivingUp.{told-none, told-one, no-first, all-told}
use Rattle.xti_switch.proofs.callers.tell_all.Goals as goal

pub loop-notice-init : goal.loop-notice-init
loop-notice-init c = told-none c.args.lent.now c.args.notices.items c.requires.ready

pub tell-requires-clause-own : goal.tell-requires-clause-own
tell-requires-clause-own c = own-kept c.args.lent.now c.loop-notice.lent c.loop-notice.invariant.kept c.requires.own

pub tell-requires-clause-ready : goal.tell-requires-clause-ready
tell-requires-clause-ready c = let s = rw c.in-Some.ensures.items at c.loop-notice.invariant.ready in s.0.ready

pub loop-notice-smaller : goal.loop-notice-smaller
loop-notice-smaller c = rw c.in-Some.ensures.items (omega arith)

pub loop-notice-preserved : goal.loop-notice-preserved
loop-notice-preserved c =
    told-one c.args.lent.now c.args.notices.items c.loop-notice.lent c.tell.new.lent c.in-Some.notice c.pop_front.new.self.items (rw c.in-Some.ensures.items at c.loop-notice.invariant) c.tell.ensures.kept c.tell.ensures.registry c.tell.ensures.cells c.tell.ensures.ready

pub returns-clause-cells : goal.returns-clause-cells
returns-clause-cells c = all-told c.args.lent.now c.args.notices.items c.loop-notice.lent c.loop-notice.notices.items c.loop-notice.invariant (no-first c.loop-notice.notices.items c.pop_front.new.self.items c.in_default.ensures.items c.in_default.ensures.rest)

pub returns-clause-kept : goal.returns-clause-kept
returns-clause-kept c = c.loop-notice.invariant.kept

pub returns-clause-registry : goal.returns-clause-registry
returns-clause-registry c = c.loop-notice.invariant.registry
