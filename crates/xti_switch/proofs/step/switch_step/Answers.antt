use Rattle.std.proofs.Common.{subst, drop, refl}
use Rattle.xti_model.specs.declared.call.Call.{Call}
use Rattle.xti_model.specs.declared.call.Call.TheVariants as call
use Rattle.xti_model.specs.Touched.{touched, others}
use Rattle.xti_model.specs.Calls.Bind as Bind
use Rattle.xti_model.specs.Calls.Close as Close
use Rattle.xti_model.specs.Calls.Connect as Connect
use Rattle.xti_model.specs.Calls.Disconnect as Disconnect
use Rattle.xti_model.specs.Calls.Listen as Listen
use Rattle.xti_model.specs.Calls.Open as Open
use Rattle.xti_lent.specs.Lending.{cells}
use Rattle.xti_lent.specs.Fit.{AllLent}
use Rattle.xti_model.specs.World.{place_of, switch_number}
use Rattle.xti_switch.proofs.Steps.{answers-through, close-sure, plan-accept, plan-bind, plan-close, plan-connect, plan-disconnect, plan-open, plan-unbind, step-through, sure-through, unchanged-on-err}
use Rattle.xti_switch.proofs.Touches.{switch-lent, second-among}
use Rattle.xti_lent.proofs.Named.{first-among}
use Rattle.xti_switch.proofs.step.switch_step.Goals as goal

pub open-requires-clause-switch : goal.open-requires-clause-switch
open-requires-clause-switch c = switch-lent c.args.lent.now c.args.call.now (call.TOpen c.in-TOpen.prov c.in-TOpen.nonblock) c.in-TOpen.is c.requires.lent (first-among (switch_number c.args.lent.now.providers) (drop 1 (others c.args.lent.now.providers (cells c.args.lent.now) (call.TOpen c.in-TOpen.prov c.in-TOpen.nonblock))))

pub open-requires-clause-lent : goal.open-requires-clause-lent
open-requires-clause-lent c = subst (λ (x : Call). AllLent c.args.lent.now (touched c.args.lent.now.providers (cells c.args.lent.now) x)) c.in-TOpen.is c.requires.lent

pub close-requires-clause-lent : goal.close-requires-clause-lent
close-requires-clause-lent c = subst (λ (x : Call). AllLent c.args.lent.now (touched c.args.lent.now.providers (cells c.args.lent.now) x)) c.in-TClose.is c.requires.lent

pub snddis-requires-clause-lent : goal.snddis-requires-clause-lent
snddis-requires-clause-lent c =
    subst (λ (x : Call). AllLent c.args.lent.now (touched c.args.lent.now.providers (cells c.args.lent.now) x)) c.in-TSndDis.is c.requires.lent

pub bind-requires-clause-switch : goal.bind-requires-clause-switch
bind-requires-clause-switch c = switch-lent c.args.lent.now c.args.call.now (call.TBind c.in-TBind.fd c.in-TBind.addr c.in-TBind.qlen c.in-TBind.amax) c.in-TBind.is c.requires.lent (second-among (place_of c.args.lent.now.providers c.in-TBind.fd.0) (switch_number c.args.lent.now.providers) (drop 1 (others c.args.lent.now.providers (cells c.args.lent.now) (call.TBind c.in-TBind.fd c.in-TBind.addr c.in-TBind.qlen c.in-TBind.amax))))

pub unbind-requires-clause-switch : goal.unbind-requires-clause-switch
unbind-requires-clause-switch c = switch-lent c.args.lent.now c.args.call.now (call.TUnbind c.in-TUnbind.fd) c.in-TUnbind.is c.requires.lent (second-among (place_of c.args.lent.now.providers c.in-TUnbind.fd.0) (switch_number c.args.lent.now.providers) (drop 1 (others c.args.lent.now.providers (cells c.args.lent.now) (call.TUnbind c.in-TUnbind.fd))))

pub connect-requires-clause-switch : goal.connect-requires-clause-switch
connect-requires-clause-switch c =
    let d = (call.TConnect c.in-TConnect.fd c.in-TConnect.addr c.in-TConnect.opt c.in-TConnect.udata c.in-TConnect.amax c.in-TConnect.omax c.in-TConnect.umax) in
    switch-lent c.args.lent.now c.args.call.now d c.in-TConnect.is c.requires.lent (second-among (place_of c.args.lent.now.providers c.in-TConnect.fd.0) (switch_number c.args.lent.now.providers) (drop 1 (others c.args.lent.now.providers (cells c.args.lent.now) d)))

pub accept-requires-clause-switch : goal.accept-requires-clause-switch
accept-requires-clause-switch c =
    let d = (call.TAccept c.in-TAccept.fd c.in-TAccept.resfd c.in-TAccept.seq c.in-TAccept.opt c.in-TAccept.udata) in
    switch-lent c.args.lent.now c.args.call.now d c.in-TAccept.is c.requires.lent (second-among (place_of c.args.lent.now.providers c.in-TAccept.fd.0) (switch_number c.args.lent.now.providers) (drop 1 (others c.args.lent.now.providers (cells c.args.lent.now) d)))

pub open-requires-clause-fit : goal.open-requires-clause-fit
open-requires-clause-fit c = c.requires.fit

pub close-requires-clause-fit : goal.close-requires-clause-fit
close-requires-clause-fit c = c.requires.fit

pub bind-requires-clause-fit : goal.bind-requires-clause-fit
bind-requires-clause-fit c = c.requires.fit

pub unbind-requires-clause-fit : goal.unbind-requires-clause-fit
unbind-requires-clause-fit c = c.requires.fit

pub connect-requires-clause-fit : goal.connect-requires-clause-fit
connect-requires-clause-fit c = c.requires.fit

pub accept-requires-clause-fit : goal.accept-requires-clause-fit
accept-requires-clause-fit c = c.requires.fit

pub snddis-requires-clause-fit : goal.snddis-requires-clause-fit
snddis-requires-clause-fit c = c.requires.fit

pub returns-in-TOpen-clause-step : goal.returns-in-TOpen-clause-step
returns-in-TOpen-clause-step c =
    step-through c.args.lent.now c.args.call.now (call.TOpen c.in-TOpen.prov c.in-TOpen.nonblock) (Open.plan c.args.lent.now.providers (cells c.args.lent.now) c.in-TOpen.prov c.in-TOpen.nonblock) c.in-TOpen.is
    (plan-open c.args.lent.now.providers (cells c.args.lent.now) c.in-TOpen.prov c.in-TOpen.nonblock) c.open.new.lent c.open.result c.open.ensures.step

pub returns-in-TOpen-clause-still : goal.returns-in-TOpen-clause-still
returns-in-TOpen-clause-still c = c.open.ensures.still

pub returns-in-TOpen-clause-kept : goal.returns-in-TOpen-clause-kept
returns-in-TOpen-clause-kept c = c.open.ensures.kept

pub returns-in-TOpen-clause-err : goal.returns-in-TOpen-clause-err
returns-in-TOpen-clause-err c = tt

pub returns-in-TOpen-clause-sure : goal.returns-in-TOpen-clause-sure
returns-in-TOpen-clause-sure c = λ _ _ _. refl

pub returns-in-TClose-clause-step : goal.returns-in-TClose-clause-step
returns-in-TClose-clause-step c =
    answers-through c.args.lent.now c.args.call.now (call.TClose c.in-TClose.fd) (Close.plan c.args.lent.now.providers (cells c.args.lent.now) c.in-TClose.fd.0) c.in-TClose.is
    (plan-close c.args.lent.now.providers (cells c.args.lent.now) c.in-TClose.fd) c.close.result c.close.new.lent c.close.ensures.step

pub returns-in-TClose-clause-still : goal.returns-in-TClose-clause-still
returns-in-TClose-clause-still c = c.close.ensures.still

pub returns-in-TClose-clause-kept : goal.returns-in-TClose-clause-kept
returns-in-TClose-clause-kept c = c.close.ensures.kept

pub returns-in-TClose-clause-err : goal.returns-in-TClose-clause-err
returns-in-TClose-clause-err c = c.close.ensures.err

pub returns-in-TClose-clause-sure : goal.returns-in-TClose-clause-sure
returns-in-TClose-clause-sure c = close-sure c.args.lent.now c.args.call.now c.in-TClose.fd c.close.result c.in-TClose.is c.close.ensures.sure

pub returns-in-TBind-clause-step : goal.returns-in-TBind-clause-step
returns-in-TBind-clause-step c =
    answers-through c.args.lent.now c.args.call.now (call.TBind c.in-TBind.fd c.in-TBind.addr c.in-TBind.qlen c.in-TBind.amax) (Bind.plan c.args.lent.now.providers (cells c.args.lent.now) c.in-TBind.fd.0 c.as_slice.result.now c.in-TBind.qlen c.in-TBind.amax) c.in-TBind.is
    (plan-bind c.args.lent.now.providers (cells c.args.lent.now) c.in-TBind.fd c.in-TBind.addr c.as_slice.result.now c.in-TBind.qlen c.in-TBind.amax c.as_slice.ensures) c.bind.result c.bind.new.lent c.bind.ensures.step

pub returns-in-TBind-clause-still : goal.returns-in-TBind-clause-still
returns-in-TBind-clause-still c = c.bind.ensures.still

pub returns-in-TBind-clause-kept : goal.returns-in-TBind-clause-kept
returns-in-TBind-clause-kept c = c.bind.ensures.kept

pub returns-in-TBind-clause-err : goal.returns-in-TBind-clause-err
returns-in-TBind-clause-err c = unchanged-on-err c.args.lent.now c.bind.new.lent c.bind.result c.bind.ensures.err

pub returns-in-TBind-clause-sure : goal.returns-in-TBind-clause-sure
returns-in-TBind-clause-sure c =
    sure-through c.args.lent.now c.args.call.now (call.TBind c.in-TBind.fd c.in-TBind.addr c.in-TBind.qlen c.in-TBind.amax) (Bind.plan c.args.lent.now.providers (cells c.args.lent.now) c.in-TBind.fd.0 c.as_slice.result.now c.in-TBind.qlen c.in-TBind.amax) c.in-TBind.is
    (plan-bind c.args.lent.now.providers (cells c.args.lent.now) c.in-TBind.fd c.in-TBind.addr c.as_slice.result.now c.in-TBind.qlen c.in-TBind.amax c.as_slice.ensures) c.bind.result refl c.bind.ensures.sure

pub returns-in-TUnbind-clause-step : goal.returns-in-TUnbind-clause-step
returns-in-TUnbind-clause-step c =
    step-through c.args.lent.now c.args.call.now (call.TUnbind c.in-TUnbind.fd) (Bind.unbind_plan c.args.lent.now.providers (cells c.args.lent.now) c.in-TUnbind.fd.0) c.in-TUnbind.is
    (plan-unbind c.args.lent.now.providers (cells c.args.lent.now) c.in-TUnbind.fd) c.unbind.new.lent c.unbind.result c.unbind.ensures.step

pub returns-in-TUnbind-clause-still : goal.returns-in-TUnbind-clause-still
returns-in-TUnbind-clause-still c = c.unbind.ensures.still

pub returns-in-TUnbind-clause-kept : goal.returns-in-TUnbind-clause-kept
returns-in-TUnbind-clause-kept c = c.unbind.ensures.kept

pub returns-in-TUnbind-clause-err : goal.returns-in-TUnbind-clause-err
returns-in-TUnbind-clause-err c = tt

pub returns-in-TUnbind-clause-sure : goal.returns-in-TUnbind-clause-sure
returns-in-TUnbind-clause-sure c = λ _ _ _. refl

pub returns-in-TConnect-clause-step : goal.returns-in-TConnect-clause-step
returns-in-TConnect-clause-step c =
    answers-through c.args.lent.now c.args.call.now (call.TConnect c.in-TConnect.fd c.in-TConnect.addr c.in-TConnect.opt c.in-TConnect.udata c.in-TConnect.amax c.in-TConnect.omax c.in-TConnect.umax) (Connect.plan c.args.lent.now.providers (cells c.args.lent.now) c.in-TConnect.fd.0 c.as_slice-in-TConnect.result.now c.as_slice-in-TConnect-2.result.now c.as_slice-in-TConnect-3.result.now) c.in-TConnect.is
    (plan-connect c.args.lent.now.providers (cells c.args.lent.now) c.in-TConnect.fd c.in-TConnect.addr c.in-TConnect.opt c.in-TConnect.udata c.as_slice-in-TConnect.result.now c.as_slice-in-TConnect-2.result.now c.as_slice-in-TConnect-3.result.now c.in-TConnect.amax c.in-TConnect.omax c.in-TConnect.umax c.as_slice-in-TConnect.ensures c.as_slice-in-TConnect-2.ensures c.as_slice-in-TConnect-3.ensures) c.connect.result c.connect.new.lent c.connect.ensures.step

pub returns-in-TConnect-clause-still : goal.returns-in-TConnect-clause-still
returns-in-TConnect-clause-still c = c.connect.ensures.still

pub returns-in-TConnect-clause-kept : goal.returns-in-TConnect-clause-kept
returns-in-TConnect-clause-kept c = c.connect.ensures.kept

pub returns-in-TConnect-clause-err : goal.returns-in-TConnect-clause-err
returns-in-TConnect-clause-err c = unchanged-on-err c.args.lent.now c.connect.new.lent c.connect.result c.connect.ensures.err

pub returns-in-TConnect-clause-sure : goal.returns-in-TConnect-clause-sure
returns-in-TConnect-clause-sure c =
    sure-through c.args.lent.now c.args.call.now (call.TConnect c.in-TConnect.fd c.in-TConnect.addr c.in-TConnect.opt c.in-TConnect.udata c.in-TConnect.amax c.in-TConnect.omax c.in-TConnect.umax) (Connect.plan c.args.lent.now.providers (cells c.args.lent.now) c.in-TConnect.fd.0 c.as_slice-in-TConnect.result.now c.as_slice-in-TConnect-2.result.now c.as_slice-in-TConnect-3.result.now) c.in-TConnect.is
    (plan-connect c.args.lent.now.providers (cells c.args.lent.now) c.in-TConnect.fd c.in-TConnect.addr c.in-TConnect.opt c.in-TConnect.udata c.as_slice-in-TConnect.result.now c.as_slice-in-TConnect-2.result.now c.as_slice-in-TConnect-3.result.now c.in-TConnect.amax c.in-TConnect.omax c.in-TConnect.umax c.as_slice-in-TConnect.ensures c.as_slice-in-TConnect-2.ensures c.as_slice-in-TConnect-3.ensures) c.connect.result refl c.connect.ensures.sure

pub returns-in-TAccept-clause-step : goal.returns-in-TAccept-clause-step
returns-in-TAccept-clause-step c =
    answers-through c.args.lent.now c.args.call.now (call.TAccept c.in-TAccept.fd c.in-TAccept.resfd c.in-TAccept.seq c.in-TAccept.opt c.in-TAccept.udata) (Listen.accept_plan c.args.lent.now.providers (cells c.args.lent.now) c.in-TAccept.fd.0 c.in-TAccept.resfd.0 c.in-TAccept.seq.0 c.as_slice-in-TAccept.result.now c.as_slice-in-TAccept-2.result.now) c.in-TAccept.is
    (plan-accept c.args.lent.now.providers (cells c.args.lent.now) c.in-TAccept.fd c.in-TAccept.resfd c.in-TAccept.seq c.in-TAccept.opt c.in-TAccept.udata c.as_slice-in-TAccept.result.now c.as_slice-in-TAccept-2.result.now c.as_slice-in-TAccept.ensures c.as_slice-in-TAccept-2.ensures) c.accept.result c.accept.new.lent c.accept.ensures.step

pub returns-in-TAccept-clause-still : goal.returns-in-TAccept-clause-still
returns-in-TAccept-clause-still c = c.accept.ensures.still

pub returns-in-TAccept-clause-kept : goal.returns-in-TAccept-clause-kept
returns-in-TAccept-clause-kept c = c.accept.ensures.kept

pub returns-in-TAccept-clause-err : goal.returns-in-TAccept-clause-err
returns-in-TAccept-clause-err c = unchanged-on-err c.args.lent.now c.accept.new.lent c.accept.result c.accept.ensures.err

pub returns-in-TAccept-clause-sure : goal.returns-in-TAccept-clause-sure
returns-in-TAccept-clause-sure c =
    sure-through c.args.lent.now c.args.call.now (call.TAccept c.in-TAccept.fd c.in-TAccept.resfd c.in-TAccept.seq c.in-TAccept.opt c.in-TAccept.udata) (Listen.accept_plan c.args.lent.now.providers (cells c.args.lent.now) c.in-TAccept.fd.0 c.in-TAccept.resfd.0 c.in-TAccept.seq.0 c.as_slice-in-TAccept.result.now c.as_slice-in-TAccept-2.result.now) c.in-TAccept.is
    (plan-accept c.args.lent.now.providers (cells c.args.lent.now) c.in-TAccept.fd c.in-TAccept.resfd c.in-TAccept.seq c.in-TAccept.opt c.in-TAccept.udata c.as_slice-in-TAccept.result.now c.as_slice-in-TAccept-2.result.now c.as_slice-in-TAccept.ensures c.as_slice-in-TAccept-2.ensures) c.accept.result refl c.accept.ensures.sure

pub returns-in-TSndDis-clause-step : goal.returns-in-TSndDis-clause-step
returns-in-TSndDis-clause-step c =
    answers-through c.args.lent.now c.args.call.now (call.TSndDis c.in-TSndDis.fd c.in-TSndDis.seq c.in-TSndDis.udata) (Disconnect.send_plan c.args.lent.now.providers (cells c.args.lent.now) c.in-TSndDis.fd.0 c.in-TSndDis.seq.0 c.as_slice-in-TSndDis.result.now) c.in-TSndDis.is
    (plan-disconnect c.args.lent.now.providers (cells c.args.lent.now) c.in-TSndDis.fd c.in-TSndDis.seq c.in-TSndDis.udata c.as_slice-in-TSndDis.result.now c.as_slice-in-TSndDis.ensures) c.snddis.result c.snddis.new.lent c.snddis.ensures.step

pub returns-in-TSndDis-clause-still : goal.returns-in-TSndDis-clause-still
returns-in-TSndDis-clause-still c = c.snddis.ensures.still

pub returns-in-TSndDis-clause-kept : goal.returns-in-TSndDis-clause-kept
returns-in-TSndDis-clause-kept c = c.snddis.ensures.kept

pub returns-in-TSndDis-clause-err : goal.returns-in-TSndDis-clause-err
returns-in-TSndDis-clause-err c = c.snddis.ensures.err

pub returns-in-TSndDis-clause-sure : goal.returns-in-TSndDis-clause-sure
returns-in-TSndDis-clause-sure c =
    sure-through c.args.lent.now c.args.call.now (call.TSndDis c.in-TSndDis.fd c.in-TSndDis.seq c.in-TSndDis.udata) (Disconnect.send_plan c.args.lent.now.providers (cells c.args.lent.now) c.in-TSndDis.fd.0 c.in-TSndDis.seq.0 c.as_slice-in-TSndDis.result.now) c.in-TSndDis.is
    (plan-disconnect c.args.lent.now.providers (cells c.args.lent.now) c.in-TSndDis.fd c.in-TSndDis.seq c.in-TSndDis.udata c.as_slice-in-TSndDis.result.now c.as_slice-in-TSndDis.ensures) c.snddis.result refl c.snddis.ensures.sure
