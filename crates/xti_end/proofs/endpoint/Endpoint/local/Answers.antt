use Rattle.std.proofs.Common.{◌≡◌, ℕ, Bool, true, false, ◌&&◌, List, Option, None, Result, Ok, Err, IsOk, inl, inr, sym, ap, subst, refl, ◌∙◌}
use Rattle.xti_base.specs.declared.kinds.Fd.{Fd}
use Rattle.xti_model.specs.declared.call.Call.{Call}
use Rattle.xti_model.specs.declared.call.Call.TheVariants as call
use Rattle.xti_model.specs.declared.entry.Applied.{Applied}
use Rattle.xti_model.specs.declared.entry.Go.{Go}
use Rattle.xti_model.specs.declared.entry.Go.TheVariants as go
use Rattle.xti_model.specs.declared.profile.Providers.{Providers}
use Rattle.xti_model.specs.Calls.Connect as Connect
use Rattle.xti_model.specs.Calls.Show as Show
use Rattle.xti_model.specs.Memory.{may_run_out, takes_memory}
use Rattle.xti_model.specs.Plan.{Plan, first, has_effect}
use Rattle.xti_model.specs.Step.{Step, plan, step, step_of}
use Rattle.xti_model.specs.World.{World, place_of}
use Rattle.xti_end.specs.declared.receiving.Sizes.{Sizes}
use Rattle.xti_end.specs.Held.{Held, SameRoom, alone}
use Rattle.xti_end.specs.Negotiating.{negotiating}
use Rattle.xti_end.specs.Taken.{confirming, filling, filling_data, listening, receiving, receiving_data, receiving_disconnect, receiving_error, receiving_release, receiving_release_data, setting_mode, showing_addresses, showing_limits, showing_state, taken, AnswersBy, IsAt, IsSureBy, Makes, MakesBy, StillBlocked}
use Rattle.xti_end.proofs.Rooms.{as_before, on_any_err, same_room}
use Rattle.xti_end.proofs.endpoint.Endpoint.local.Goals as goal
use Rattle.xti_end.proofs.endpoint.Endpoint.local.Goals.{in-TRcvRel, in-TGetInfo, in-SetMode, in-TGetState2}

-- the cell is that of the call, which is this one
place-at : (p : Providers) (place : ℕ) (c d : Call) (g : Go) → c ≡ d → IsAt p place c g → IsAt p place d g
place-at p place c d g e h = subst (λ (call : Call). IsAt p place call g) e h

-- the step is that of the plan of this call
by-plan : {E : Type 0} (p : Providers) (old new : Held) (r : Result Applied E) (c d : Call) (g : Go) (f : Providers → Held → Plan) → c ≡ d → plan p (alone old) d g ≡ f p old → MakesBy p f old new r
    → Makes (step p (alone old) c g) new r
unfolding step
by-plan p old new r c d g f e s h =
    subst (λ (x : Option Step). Makes x new r) (ap (step_of p (alone old)) (sym s ∙ ap (λ (call : Call). plan p (alone old) call g) (sym e))) h

-- memory does not run out where that plan has no effect
sure-by : {E : Type 0} (p : Providers) (old : Held) (r : Result Applied E) (c d : Call) (g : Go) (f : Providers → Held → Plan) → c ≡ d → takes_memory p (alone old) d ≡ true → plan p (alone old) d g ≡ f p old
    → IsSureBy p f old r → may_run_out p (alone old) c g ≡ false → IsOk r
sure-by p old r c d g f e t s h none =
    let here : may_run_out p (alone old) d g ≡ false = subst (λ (call : Call). may_run_out p (alone old) call g ≡ false) e none in
    let effect : has_effect (first (plan p (alone old) d g).rows) ≡ false = subst (λ (b : Bool). (b && has_effect (first (plan p (alone old) d g).rows)) ≡ false) t here in
    h (subst (λ (x : Plan). has_effect (first x.rows) ≡ false) s effect)

-- a cell that does not change is as before
as-is : {E : Type 0} (h : Held) (r : Result Applied E) → StillBlocked h h r
as-is h (Ok a) = λ none. refl
as-is h (Err e) = tt

-- a later step of t_connect is that of t_rcvconnect
later-plan : (p : Providers) (place : ℕ) (w : World) (fd : Fd) (addr opt udata : List ℕ) (amax omax umax : ℕ) (g : Go) → IsAt p place (call.TConnect fd addr opt udata amax omax umax) g
    → plan p w (call.TConnect fd addr opt udata amax omax umax) g ≡ Connect.confirm_plan p w fd.0 amax omax umax
unfolding plan
later-plan p place w fd addr opt udata amax omax umax go.Begin h = absurd h
later-plan p place w fd addr opt udata amax omax umax (go.More n) h = refl

later-place : (p : Providers) (place : ℕ) (fd : Fd) (addr opt udata : List ℕ) (amax omax umax : ℕ) (g : Go) → IsAt p place (call.TConnect fd addr opt udata amax omax umax) g → place_of p fd.0 ≡ place
later-place p place fd addr opt udata amax omax umax go.Begin h = absurd h
later-place p place fd addr opt udata amax omax umax (go.More n) h = h

-- what is shown is the step of the plan of this call
shown-by : (p : Providers) (old new self : Held) (shown a : Applied) (c d : Call) (g : Go) (f : Providers → Held → Plan) → self ≡ new → shown ≡ a → c ≡ d → plan p (alone old) d g ≡ f p old → AnswersBy p f old new a
    → taken shown (alone self) ≡ step p (alone old) c g
unfolding step
shown-by p old new self shown a c d g f n t e s h =
    ap (λ (x : Held). taken shown (alone x)) n ∙ ap (λ (x : Applied). taken x (alone new)) t ∙ h
    ∙ ap (step_of p (alone old)) (sym s ∙ ap (λ (call : Call). plan p (alone old) call g) (sym e))

shown-still : {old new self : Held} {shown a : Applied} → self ≡ new → shown ≡ a → (taken a (alone new) ≡ None → new ≡ old) → taken shown (alone self) ≡ None → self ≡ old
shown-still {new = new} {shown = shown} n t h none =
    n ∙ h (ap (λ (x : Applied). taken x (alone new)) (sym t) ∙ ap (λ (x : Held). taken shown (alone x)) (sym n) ∙ none)

pub listen-requires : goal.listen-requires
listen-requires c = place-at c.args.p.now c.args.self.now.place c.args.call.now _ c.args._go c.in-TListen.is c.requires

pub returns-in-TListen-clause-step : goal.returns-in-TListen-clause-step
unfolding plan
returns-in-TListen-clause-step c = by-plan c.args.p.now c.args.self.now c.listen.new.self c.listen.result c.args.call.now _ c.args._go (listening c.in-TListen.fd.0 c.in-TListen.amax c.in-TListen.omax c.in-TListen.umax) c.in-TListen.is refl c.listen.ensures.step

pub returns-in-TListen-clause-still : goal.returns-in-TListen-clause-still
returns-in-TListen-clause-still c = c.listen.ensures.still

pub returns-in-TListen-clause-room : goal.returns-in-TListen-clause-room
returns-in-TListen-clause-room c = c.listen.ensures.room

pub returns-in-TListen-clause-err : goal.returns-in-TListen-clause-err
returns-in-TListen-clause-err c = c.listen.ensures.err

pub returns-in-TListen-clause-sure : goal.returns-in-TListen-clause-sure
unfolding plan
returns-in-TListen-clause-sure c = sure-by c.args.p.now c.args.self.now c.listen.result c.args.call.now _ c.args._go (listening c.in-TListen.fd.0 c.in-TListen.amax c.in-TListen.omax c.in-TListen.umax) c.in-TListen.is refl refl c.listen.ensures.sure

pub rcv-requires : goal.rcv-requires
rcv-requires c = place-at c.args.p.now c.args.self.now.place c.args.call.now _ c.args._go c.in-TRcv.is c.requires

pub returns-in-TRcv-clause-step : goal.returns-in-TRcv-clause-step
unfolding plan
returns-in-TRcv-clause-step c = by-plan c.args.p.now c.args.self.now c.rcv.new.self c.rcv.result c.args.call.now _ c.args._go (receiving_data c.in-TRcv.fd.0 c.one.result) c.in-TRcv.is (ap (λ (s : Sizes). receiving_data c.in-TRcv.fd.0 s c.args.p.now c.args.self.now) (sym c.one.ensures)) c.rcv.ensures.step

pub returns-in-TRcv-clause-still : goal.returns-in-TRcv-clause-still
returns-in-TRcv-clause-still c = c.rcv.ensures.still

pub returns-in-TRcv-clause-room : goal.returns-in-TRcv-clause-room
returns-in-TRcv-clause-room c = c.rcv.ensures.room

pub returns-in-TRcv-clause-err : goal.returns-in-TRcv-clause-err
returns-in-TRcv-clause-err c = c.rcv.ensures.err

pub returns-in-TRcv-clause-sure : goal.returns-in-TRcv-clause-sure
unfolding plan
returns-in-TRcv-clause-sure c = sure-by c.args.p.now c.args.self.now c.rcv.result c.args.call.now _ c.args._go (receiving_data c.in-TRcv.fd.0 c.one.result) c.in-TRcv.is refl (ap (λ (s : Sizes). receiving_data c.in-TRcv.fd.0 s c.args.p.now c.args.self.now) (sym c.one.ensures)) c.rcv.ensures.sure

pub rcvv-requires : goal.rcvv-requires
rcvv-requires c = place-at c.args.p.now c.args.self.now.place c.args.call.now _ c.args._go c.in-TRcvV.is c.requires

pub returns-in-TRcvV-clause-step : goal.returns-in-TRcvV-clause-step
unfolding plan
returns-in-TRcvV-clause-step c = by-plan c.args.p.now c.args.self.now c.rcvv.new.self c.rcvv.result c.args.call.now _ c.args._go (filling_data c.in-TRcvV.fd.0 c.as_slice.result.now) c.in-TRcvV.is (ap (λ (s : List ℕ). filling_data c.in-TRcvV.fd.0 s c.args.p.now c.args.self.now) (sym c.as_slice.ensures)) c.rcvv.ensures.step

pub returns-in-TRcvV-clause-still : goal.returns-in-TRcvV-clause-still
returns-in-TRcvV-clause-still c = c.rcvv.ensures.still

pub returns-in-TRcvV-clause-room : goal.returns-in-TRcvV-clause-room
returns-in-TRcvV-clause-room c = c.rcvv.ensures.room

pub returns-in-TRcvV-clause-err : goal.returns-in-TRcvV-clause-err
returns-in-TRcvV-clause-err c = c.rcvv.ensures.err

pub returns-in-TRcvV-clause-sure : goal.returns-in-TRcvV-clause-sure
unfolding plan
returns-in-TRcvV-clause-sure c = sure-by c.args.p.now c.args.self.now c.rcvv.result c.args.call.now _ c.args._go (filling_data c.in-TRcvV.fd.0 c.as_slice.result.now) c.in-TRcvV.is refl (ap (λ (s : List ℕ). filling_data c.in-TRcvV.fd.0 s c.args.p.now c.args.self.now) (sym c.as_slice.ensures)) c.rcvv.ensures.sure

pub rcvdis-requires : goal.rcvdis-requires
rcvdis-requires c = place-at c.args.p.now c.args.self.now.place c.args.call.now _ c.args._go c.in-TRcvDis.is c.requires

pub returns-in-TRcvDis-clause-step : goal.returns-in-TRcvDis-clause-step
unfolding plan
returns-in-TRcvDis-clause-step c = by-plan c.args.p.now c.args.self.now c.rcvdis.new.self c.rcvdis.result c.args.call.now _ c.args._go (receiving_disconnect c.in-TRcvDis.fd.0 c.in-TRcvDis.umax) c.in-TRcvDis.is refl c.rcvdis.ensures.step

pub returns-in-TRcvDis-clause-still : goal.returns-in-TRcvDis-clause-still
returns-in-TRcvDis-clause-still c = c.rcvdis.ensures.still

pub returns-in-TRcvDis-clause-room : goal.returns-in-TRcvDis-clause-room
returns-in-TRcvDis-clause-room c = c.rcvdis.ensures.room

pub returns-in-TRcvDis-clause-err : goal.returns-in-TRcvDis-clause-err
returns-in-TRcvDis-clause-err c = c.rcvdis.ensures.err

pub returns-in-TRcvDis-clause-sure : goal.returns-in-TRcvDis-clause-sure
unfolding plan
returns-in-TRcvDis-clause-sure c = sure-by c.args.p.now c.args.self.now c.rcvdis.result c.args.call.now _ c.args._go (receiving_disconnect c.in-TRcvDis.fd.0 c.in-TRcvDis.umax) c.in-TRcvDis.is refl refl c.rcvdis.ensures.sure

pub rcvreldata-requires : goal.rcvreldata-requires
rcvreldata-requires c = place-at c.args.p.now c.args.self.now.place c.args.call.now _ c.args._go c.in-TRcvRelData.is c.requires

pub returns-in-TRcvRelData-clause-step : goal.returns-in-TRcvRelData-clause-step
unfolding plan
returns-in-TRcvRelData-clause-step c = by-plan c.args.p.now c.args.self.now c.rcvreldata.new.self c.rcvreldata.result c.args.call.now _ c.args._go (receiving_release_data c.in-TRcvRelData.fd.0 c.in-TRcvRelData.umax) c.in-TRcvRelData.is refl c.rcvreldata.ensures.step

pub returns-in-TRcvRelData-clause-still : goal.returns-in-TRcvRelData-clause-still
returns-in-TRcvRelData-clause-still c = c.rcvreldata.ensures.still

pub returns-in-TRcvRelData-clause-room : goal.returns-in-TRcvRelData-clause-room
returns-in-TRcvRelData-clause-room c = c.rcvreldata.ensures.room

pub returns-in-TRcvRelData-clause-err : goal.returns-in-TRcvRelData-clause-err
returns-in-TRcvRelData-clause-err c = c.rcvreldata.ensures.err

pub returns-in-TRcvRelData-clause-sure : goal.returns-in-TRcvRelData-clause-sure
unfolding plan
returns-in-TRcvRelData-clause-sure c = sure-by c.args.p.now c.args.self.now c.rcvreldata.result c.args.call.now _ c.args._go (receiving_release_data c.in-TRcvRelData.fd.0 c.in-TRcvRelData.umax) c.in-TRcvRelData.is refl refl c.rcvreldata.ensures.sure

pub rcvudata-requires : goal.rcvudata-requires
rcvudata-requires c = place-at c.args.p.now c.args.self.now.place c.args.call.now _ c.args._go c.in-TRcvUData.is c.requires

pub returns-in-TRcvUData-clause-step : goal.returns-in-TRcvUData-clause-step
unfolding plan
returns-in-TRcvUData-clause-step c = by-plan c.args.p.now c.args.self.now c.rcvudata.new.self c.rcvudata.result c.args.call.now _ c.args._go (receiving c.in-TRcvUData.fd.0 c.one-in-TRcvUData.result c.in-TRcvUData.amax c.in-TRcvUData.omax) c.in-TRcvUData.is (ap (λ (s : Sizes). receiving c.in-TRcvUData.fd.0 s c.in-TRcvUData.amax c.in-TRcvUData.omax c.args.p.now c.args.self.now) (sym c.one-in-TRcvUData.ensures)) c.rcvudata.ensures.step

pub returns-in-TRcvUData-clause-still : goal.returns-in-TRcvUData-clause-still
returns-in-TRcvUData-clause-still c = c.rcvudata.ensures.still

pub returns-in-TRcvUData-clause-room : goal.returns-in-TRcvUData-clause-room
returns-in-TRcvUData-clause-room c = c.rcvudata.ensures.room

pub returns-in-TRcvUData-clause-err : goal.returns-in-TRcvUData-clause-err
returns-in-TRcvUData-clause-err c = c.rcvudata.ensures.err

pub returns-in-TRcvUData-clause-sure : goal.returns-in-TRcvUData-clause-sure
unfolding plan
returns-in-TRcvUData-clause-sure c = sure-by c.args.p.now c.args.self.now c.rcvudata.result c.args.call.now _ c.args._go (receiving c.in-TRcvUData.fd.0 c.one-in-TRcvUData.result c.in-TRcvUData.amax c.in-TRcvUData.omax) c.in-TRcvUData.is refl (ap (λ (s : Sizes). receiving c.in-TRcvUData.fd.0 s c.in-TRcvUData.amax c.in-TRcvUData.omax c.args.p.now c.args.self.now) (sym c.one-in-TRcvUData.ensures)) c.rcvudata.ensures.sure

pub rcvvudata-requires : goal.rcvvudata-requires
rcvvudata-requires c = place-at c.args.p.now c.args.self.now.place c.args.call.now _ c.args._go c.in-TRcvVUData.is c.requires

pub returns-in-TRcvVUData-clause-step : goal.returns-in-TRcvVUData-clause-step
unfolding plan
returns-in-TRcvVUData-clause-step c = by-plan c.args.p.now c.args.self.now c.rcvvudata.new.self c.rcvvudata.result c.args.call.now _ c.args._go (filling c.in-TRcvVUData.fd.0 c.as_slice-in-TRcvVUData.result.now c.in-TRcvVUData.amax c.in-TRcvVUData.omax) c.in-TRcvVUData.is (ap (λ (s : List ℕ). filling c.in-TRcvVUData.fd.0 s c.in-TRcvVUData.amax c.in-TRcvVUData.omax c.args.p.now c.args.self.now) (sym c.as_slice-in-TRcvVUData.ensures)) c.rcvvudata.ensures.step

pub returns-in-TRcvVUData-clause-still : goal.returns-in-TRcvVUData-clause-still
returns-in-TRcvVUData-clause-still c = c.rcvvudata.ensures.still

pub returns-in-TRcvVUData-clause-room : goal.returns-in-TRcvVUData-clause-room
returns-in-TRcvVUData-clause-room c = c.rcvvudata.ensures.room

pub returns-in-TRcvVUData-clause-err : goal.returns-in-TRcvVUData-clause-err
returns-in-TRcvVUData-clause-err c = c.rcvvudata.ensures.err

pub returns-in-TRcvVUData-clause-sure : goal.returns-in-TRcvVUData-clause-sure
unfolding plan
returns-in-TRcvVUData-clause-sure c = sure-by c.args.p.now c.args.self.now c.rcvvudata.result c.args.call.now _ c.args._go (filling c.in-TRcvVUData.fd.0 c.as_slice-in-TRcvVUData.result.now c.in-TRcvVUData.amax c.in-TRcvVUData.omax) c.in-TRcvVUData.is refl (ap (λ (s : List ℕ). filling c.in-TRcvVUData.fd.0 s c.in-TRcvVUData.amax c.in-TRcvVUData.omax c.args.p.now c.args.self.now) (sym c.as_slice-in-TRcvVUData.ensures)) c.rcvvudata.ensures.sure

pub rcvuderr-requires : goal.rcvuderr-requires
rcvuderr-requires c = place-at c.args.p.now c.args.self.now.place c.args.call.now _ c.args._go c.in-TRcvUDErr.is c.requires

pub returns-in-TRcvUDErr-clause-step : goal.returns-in-TRcvUDErr-clause-step
unfolding plan
returns-in-TRcvUDErr-clause-step c = by-plan c.args.p.now c.args.self.now c.rcvuderr.new.self c.rcvuderr.result c.args.call.now _ c.args._go (receiving_error c.in-TRcvUDErr.fd.0 c.in-TRcvUDErr.amax c.in-TRcvUDErr.omax) c.in-TRcvUDErr.is refl c.rcvuderr.ensures.step

pub returns-in-TRcvUDErr-clause-still : goal.returns-in-TRcvUDErr-clause-still
returns-in-TRcvUDErr-clause-still c = c.rcvuderr.ensures.still

pub returns-in-TRcvUDErr-clause-room : goal.returns-in-TRcvUDErr-clause-room
returns-in-TRcvUDErr-clause-room c = c.rcvuderr.ensures.room

pub returns-in-TRcvUDErr-clause-err : goal.returns-in-TRcvUDErr-clause-err
returns-in-TRcvUDErr-clause-err c = c.rcvuderr.ensures.err

pub returns-in-TRcvUDErr-clause-sure : goal.returns-in-TRcvUDErr-clause-sure
unfolding plan
returns-in-TRcvUDErr-clause-sure c = sure-by c.args.p.now c.args.self.now c.rcvuderr.result c.args.call.now _ c.args._go (receiving_error c.in-TRcvUDErr.fd.0 c.in-TRcvUDErr.amax c.in-TRcvUDErr.omax) c.in-TRcvUDErr.is refl refl c.rcvuderr.ensures.sure

pub getprotaddr-requires : goal.getprotaddr-requires
getprotaddr-requires c = place-at c.args.p.now c.args.self.now.place c.args.call.now _ c.args._go c.in-TGetProtAddr.is c.requires

pub returns-in-TGetProtAddr-clause-step : goal.returns-in-TGetProtAddr-clause-step
unfolding plan
returns-in-TGetProtAddr-clause-step c = by-plan c.args.p.now c.args.self.now c.args.self.now c.getprotaddr.result c.args.call.now _ c.args._go (showing_addresses c.in-TGetProtAddr.fd.0 c.in-TGetProtAddr.amax c.in-TGetProtAddr.pmax) c.in-TGetProtAddr.is refl c.getprotaddr.ensures.step

pub returns-in-TGetProtAddr-clause-still : goal.returns-in-TGetProtAddr-clause-still
returns-in-TGetProtAddr-clause-still c = as-is c.args.self.now c.getprotaddr.result

pub returns-in-TGetProtAddr-clause-room : goal.returns-in-TGetProtAddr-clause-room
returns-in-TGetProtAddr-clause-room c = same_room c.args.self.now

pub returns-in-TGetProtAddr-clause-err : goal.returns-in-TGetProtAddr-clause-err
returns-in-TGetProtAddr-clause-err c = on_any_err c.getprotaddr.result refl

pub returns-in-TGetProtAddr-clause-sure : goal.returns-in-TGetProtAddr-clause-sure
unfolding plan
returns-in-TGetProtAddr-clause-sure c = sure-by c.args.p.now c.args.self.now c.getprotaddr.result c.args.call.now _ c.args._go (showing_addresses c.in-TGetProtAddr.fd.0 c.in-TGetProtAddr.amax c.in-TGetProtAddr.pmax) c.in-TGetProtAddr.is refl refl c.getprotaddr.ensures.sure

pub optmgmt-requires : goal.optmgmt-requires
optmgmt-requires c = place-at c.args.p.now c.args.self.now.place c.args.call.now _ c.args._go c.in-TOptMgmt.is c.requires

pub returns-in-TOptMgmt-clause-step : goal.returns-in-TOptMgmt-clause-step
unfolding plan
returns-in-TOptMgmt-clause-step c = by-plan c.args.p.now c.args.self.now c.optmgmt.new.self c.optmgmt.result c.args.call.now _ c.args._go (negotiating c.in-TOptMgmt.fd.0 (record { action = c.in-TOptMgmt.action; options = c.as_slice-in-TOptMgmt.result }) c.in-TOptMgmt.omax) c.in-TOptMgmt.is (ap (λ (s : List ℕ). Show.option_plan c.args.p.now (alone c.args.self.now) c.in-TOptMgmt.fd.0 c.in-TOptMgmt.action s c.in-TOptMgmt.omax) (sym c.as_slice-in-TOptMgmt.ensures)) c.optmgmt.ensures.step

pub returns-in-TOptMgmt-clause-still : goal.returns-in-TOptMgmt-clause-still
returns-in-TOptMgmt-clause-still c = c.optmgmt.ensures.still

pub returns-in-TOptMgmt-clause-room : goal.returns-in-TOptMgmt-clause-room
returns-in-TOptMgmt-clause-room c = c.optmgmt.ensures.room

pub returns-in-TOptMgmt-clause-err : goal.returns-in-TOptMgmt-clause-err
returns-in-TOptMgmt-clause-err c = c.optmgmt.ensures.err

pub returns-in-TOptMgmt-clause-sure : goal.returns-in-TOptMgmt-clause-sure
unfolding plan
returns-in-TOptMgmt-clause-sure c = sure-by c.args.p.now c.args.self.now c.optmgmt.result c.args.call.now _ c.args._go (negotiating c.in-TOptMgmt.fd.0 (record { action = c.in-TOptMgmt.action; options = c.as_slice-in-TOptMgmt.result }) c.in-TOptMgmt.omax) c.in-TOptMgmt.is refl (ap (λ (s : List ℕ). Show.option_plan c.args.p.now (alone c.args.self.now) c.in-TOptMgmt.fd.0 c.in-TOptMgmt.action s c.in-TOptMgmt.omax) (sym c.as_slice-in-TOptMgmt.ensures)) c.optmgmt.ensures.sure

pub rcvrel-shown-requires : goal.rcvrel-shown-requires
rcvrel-shown-requires c = place-at c.args.p.now c.args.self.now.place c.args.call.now _ c.args._go c.in-TRcvRel.is c.requires

pub getinfo-shown-requires : goal.getinfo-shown-requires
getinfo-shown-requires c = place-at c.args.p.now c.args.self.now.place c.args.call.now _ c.args._go c.in-TGetInfo.is c.requires

pub set_mode-shown-requires : goal.set_mode-shown-requires
set_mode-shown-requires c = place-at c.args.p.now c.args.self.now.place c.args.call.now _ c.args._go c.in-SetMode.is c.requires

pub returns-in-TRcvConnect-clause-still : goal.returns-in-TRcvConnect-clause-still
returns-in-TRcvConnect-clause-still c = c.rcvconnect.ensures.still

pub returns-in-TRcvConnect-clause-room : goal.returns-in-TRcvConnect-clause-room
returns-in-TRcvConnect-clause-room c = c.rcvconnect.ensures.room

pub returns-in-TRcvConnect-clause-err : goal.returns-in-TRcvConnect-clause-err
returns-in-TRcvConnect-clause-err c = c.rcvconnect.ensures.err

pub rcvconnect-requires : goal.rcvconnect-requires
rcvconnect-requires c = elim c.in-TRcvConnect.is [
  | inl e ↦ place-at c.args.p.now c.args.self.now.place c.args.call.now _ c.args._go e c.requires
  | inr h ↦ later-place c.args.p.now c.args.self.now.place c.in-TRcvConnect.fd h.0 h.1 h.2 c.in-TRcvConnect.amax c.in-TRcvConnect.omax c.in-TRcvConnect.umax c.args._go (place-at c.args.p.now c.args.self.now.place c.args.call.now _ c.args._go h.3 c.requires)
]

pub returns-in-TRcvConnect-clause-step : goal.returns-in-TRcvConnect-clause-step
unfolding plan
returns-in-TRcvConnect-clause-step c = elim c.in-TRcvConnect.is [
  | inl e ↦ by-plan c.args.p.now c.args.self.now c.rcvconnect.new.self c.rcvconnect.result c.args.call.now _ c.args._go (confirming c.in-TRcvConnect.fd.0 c.in-TRcvConnect.amax c.in-TRcvConnect.omax c.in-TRcvConnect.umax) e refl c.rcvconnect.ensures.step
  | inr h ↦ by-plan c.args.p.now c.args.self.now c.rcvconnect.new.self c.rcvconnect.result c.args.call.now _ c.args._go (confirming c.in-TRcvConnect.fd.0 c.in-TRcvConnect.amax c.in-TRcvConnect.omax c.in-TRcvConnect.umax) h.3
      (later-plan c.args.p.now c.args.self.now.place (alone c.args.self.now) c.in-TRcvConnect.fd h.0 h.1 h.2 c.in-TRcvConnect.amax c.in-TRcvConnect.omax c.in-TRcvConnect.umax c.args._go (place-at c.args.p.now c.args.self.now.place c.args.call.now _ c.args._go h.3 c.requires)) c.rcvconnect.ensures.step
]

pub returns-in-TRcvConnect-clause-sure : goal.returns-in-TRcvConnect-clause-sure
unfolding plan
returns-in-TRcvConnect-clause-sure c = elim c.in-TRcvConnect.is [
  | inl e ↦ sure-by c.args.p.now c.args.self.now c.rcvconnect.result c.args.call.now _ c.args._go (confirming c.in-TRcvConnect.fd.0 c.in-TRcvConnect.amax c.in-TRcvConnect.omax c.in-TRcvConnect.umax) e refl refl c.rcvconnect.ensures.sure
  | inr h ↦ sure-by c.args.p.now c.args.self.now c.rcvconnect.result c.args.call.now _ c.args._go (confirming c.in-TRcvConnect.fd.0 c.in-TRcvConnect.amax c.in-TRcvConnect.omax c.in-TRcvConnect.umax) h.3 refl
      (later-plan c.args.p.now c.args.self.now.place (alone c.args.self.now) c.in-TRcvConnect.fd h.0 h.1 h.2 c.in-TRcvConnect.amax c.in-TRcvConnect.omax c.in-TRcvConnect.umax c.args._go (place-at c.args.p.now c.args.self.now.place c.args.call.now _ c.args._go h.3 c.requires)) c.rcvconnect.ensures.sure
]

pub getstate-shown-requires : goal.getstate-shown-requires
getstate-shown-requires c = elim c.in-TGetState.is [
  | inl e ↦ place-at c.args.p.now c.args.self.now.place c.args.call.now _ c.args._go e c.requires
  | inr e ↦ place-at c.args.p.now c.args.self.now.place c.args.call.now _ c.args._go e c.requires
]

pub returns-clause-step : goal.returns-clause-step
unfolding plan
returns-clause-step c = elim c.match-call.branch [
  | in-TRcvRel w ↦ shown-by c.args.p.now c.args.self.now w.rcvrel-shown.new.self c.match-call.self c.match-call.shown w.rcvrel-shown.result c.args.call.now _ c.args._go (receiving_release w.in-TRcvRel.fd.0) w.self-is w.shown-is w.in-TRcvRel.is refl w.rcvrel-shown.ensures.step
  | in-TGetInfo w ↦ shown-by c.args.p.now c.args.self.now c.args.self.now c.match-call.self c.match-call.shown w.getinfo-shown.result c.args.call.now _ c.args._go (showing_limits w.in-TGetInfo.fd.0) w.self-is w.shown-is w.in-TGetInfo.is refl w.getinfo-shown.ensures
  | in-SetMode w ↦ shown-by c.args.p.now c.args.self.now w.set_mode-shown.new.self c.match-call.self c.match-call.shown w.set_mode-shown.result c.args.call.now _ c.args._go (setting_mode w.in-SetMode.fd.0 w.in-SetMode.nonblock) w.self-is w.shown-is w.in-SetMode.is refl w.set_mode-shown.ensures.step
  | in-TGetState2 w ↦ elim w.in-TGetState.is [
    | inl e ↦ shown-by c.args.p.now c.args.self.now c.args.self.now c.match-call.self c.match-call.shown w.getstate-shown.result c.args.call.now _ c.args._go (showing_state w.in-TGetState.fd.0) w.self-is w.shown-is e refl w.getstate-shown.ensures
    | inr e ↦ shown-by c.args.p.now c.args.self.now c.args.self.now c.match-call.self c.match-call.shown w.getstate-shown.result c.args.call.now _ c.args._go (showing_state w.in-TGetState.fd.0) w.self-is w.shown-is e refl w.getstate-shown.ensures
  ]
]

pub returns-clause-still : goal.returns-clause-still
returns-clause-still c = elim c.match-call.branch [
  | in-TRcvRel w ↦ shown-still w.self-is w.shown-is w.rcvrel-shown.ensures.still
  | in-TGetInfo w ↦ λ none. w.self-is
  | in-SetMode w ↦ shown-still w.self-is w.shown-is w.set_mode-shown.ensures.still
  | in-TGetState2 w ↦ λ none. w.self-is
]

pub returns-clause-room : goal.returns-clause-room
returns-clause-room c = elim c.match-call.branch [
  | in-TRcvRel w ↦ subst (λ (h : Held). SameRoom c.args.self.now h) (sym w.self-is) w.rcvrel-shown.ensures.room
  | in-TGetInfo w ↦ as_before w.self-is
  | in-SetMode w ↦ subst (λ (h : Held). SameRoom c.args.self.now h) (sym w.self-is) w.set_mode-shown.ensures.room
  | in-TGetState2 w ↦ as_before w.self-is
]

pub returns-clause-sure : goal.returns-clause-sure
returns-clause-sure c = λ none. refl

pub unreachable-requires : goal.unreachable-requires
unreachable-requires c = by c.args.call.now refl c.requires
  where
    by : (x : Call) → c.args.call.now ≡ x → IsAt c.args.p.now c.args.self.now.place x c.args._go → ⊥
    by (call.TConnect fd addr opt udata amax omax umax) e h = c.in_default.not-TConnect fd addr opt udata amax omax umax e
    by (call.TRcvConnect fd amax omax umax) e h = c.in_default.not-TRcvConnect fd amax omax umax e
    by (call.TListen fd amax omax umax) e h = c.in_default.not-TListen fd amax omax umax e
    by (call.TRcv fd max) e h = c.in_default.not-TRcv fd max e
    by (call.TRcvV fd sizes) e h = c.in_default.not-TRcvV fd sizes e
    by (call.TRcvDis fd umax) e h = c.in_default.not-TRcvDis fd umax e
    by (call.TRcvRel fd) e h = c.in_default.not-TRcvRel fd e
    by (call.TRcvRelData fd umax) e h = c.in_default.not-TRcvRelData fd umax e
    by (call.TRcvUData fd max amax omax) e h = c.in_default.not-TRcvUData fd max amax omax e
    by (call.TRcvVUData fd sizes amax omax) e h = c.in_default.not-TRcvVUData fd sizes amax omax e
    by (call.TRcvUDErr fd amax omax) e h = c.in_default.not-TRcvUDErr fd amax omax e
    by (call.TGetState fd) e h = c.in_default.not-TGetState fd e
    by (call.TSync fd) e h = c.in_default.not-TSync fd e
    by (call.TGetInfo fd) e h = c.in_default.not-TGetInfo fd e
    by (call.TGetProtAddr fd amax pmax) e h = c.in_default.not-TGetProtAddr fd amax pmax e
    by (call.TOptMgmt fd action opt omax) e h = c.in_default.not-TOptMgmt fd action opt omax e
    by (call.SetMode fd nonblock) e h = c.in_default.not-SetMode fd nonblock e
    by (call.TOpen prov nonblock) e h = h
    by (call.TClose fd) e h = h
    by (call.TBind fd addr qlen amax) e h = h
    by (call.TUnbind fd) e h = h
    by (call.TAccept fd resfd seq opt udata) e h = h
    by (call.TSnd fd bytes flags) e h = h
    by (call.TSndV fd parts flags) e h = h
    by (call.TSndDis fd seq udata) e h = h
    by (call.TSndRel fd) e h = h
    by (call.TSndRelData fd udata) e h = h
    by (call.TSndUData fd addr opt bytes) e h = h
    by (call.TSndVUData fd addr opt parts) e h = h
    by (call.TLookAt fd) e h = h
