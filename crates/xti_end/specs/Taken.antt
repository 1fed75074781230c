-- What a step answered, and the world that it left.
use Rattle.std.specs.Prelude.{◌≡◌, ℕ, Bool, false, List, [], ◌∷◌, length, sum, take, Option, Some, None, option_map, Result, IfOk, IsOk}
use Rattle.std.specs.List.{list_any}
use Rattle.xti_model.specs.declared.call.Call.{Call}
use Rattle.xti_model.specs.declared.call.Call.TheVariants as call
use Rattle.xti_model.specs.declared.profile.Providers.{Providers}
use Rattle.xti_model.specs.declared.entry.Applied.{Applied}
use Rattle.xti_model.specs.declared.entry.Go.{Go}
use Rattle.xti_model.specs.declared.entry.Go.TheVariants as go
use Rattle.xti_model.specs.declared.entry.Applied.TheVariants as applied
use Rattle.xti_model.specs.declared.entry.Outcome.TheVariants.{Done}
use Rattle.xti_model.specs.declared.entry.Reply.{Reply}
use Rattle.xti_model.specs.declared.entry.Reply.TheVariants.{RelData}
use Rattle.xti_model.specs.Events.{some_wait}
use Rattle.xti_model.specs.Touched.{fd_of}
use Rattle.xti_model.specs.World.{World, place_of, at_endpoint}
use Rattle.xti_model.specs.Endpoint.{Endpoint, Confirmation}
use Rattle.xti_model.specs.Plan.{Plan, Field, answers, field, first, has_effect, is_too_long, overflows, plan_of, trimmed, Refusal}
use Rattle.xti_model.specs.Step.{Step, made, step_by, step_of}
use Rattle.xti_model.specs.Calls.Datagrams as Datagrams
use Rattle.xti_model.specs.Calls.Connect as Connect
use Rattle.xti_model.specs.Calls.Disconnect as Disconnect
use Rattle.xti_model.specs.Calls.Listen as Listen
use Rattle.xti_model.specs.Calls.Receive as Receive
use Rattle.xti_model.specs.Calls.Release as Release
use Rattle.xti_model.specs.Calls.Show as Show
use Rattle.xti_end.specs.declared.receiving.Sizes.{Sizes}
use Rattle.xti_end.specs.Held.{Held, alone, parts}

abbrev pub taken : Applied → World → Option Step
taken (applied.Step outcome after) w = Some (record { outcome = outcome; after = after; world = w })
taken applied.Blocked w = None

-- what refuses a call, where its reply is this one
abbrev pub answered : Option Reply → Option Refusal
answered reply = option_map (λ r. answers r) reply

-- the answer is this reply, and the cell is as it is
abbrev pub Replies : Providers → ℕ → Reply → Held → Applied → Type 0
Replies p fd reply h a = taken a (alone h) ≡ Some (made p fd (Done reply) (alone h))

-- the endpoint of the descriptor has this place
abbrev pub LiesAt : Providers → ℕ → Option ℕ → Type 0
LiesAt p place None = ⊥
LiesAt p place (Some fd) = place_of p fd ≡ place

-- the step is one of a call that touches its own endpoint alone, which has this place; of t_connect only a later step is
abbrev pub IsAt : Providers → ℕ → Call → Go → Type 0
IsAt p place (call.TClose fd) go = ⊥
IsAt p place (call.TBind fd addr qlen amax) go = ⊥
IsAt p place (call.TUnbind fd) go = ⊥
IsAt p place (call.TConnect fd addr opt udata amax omax umax) go.Begin = ⊥
IsAt p place (call.TAccept fd resfd seq opt udata) go = ⊥
IsAt p place (call.TSnd fd bytes flags) go = ⊥
IsAt p place (call.TSndV fd parts flags) go = ⊥
IsAt p place (call.TSndDis fd seq udata) go = ⊥
IsAt p place (call.TSndRel fd) go = ⊥
IsAt p place (call.TSndRelData fd udata) go = ⊥
IsAt p place (call.TSndUData fd addr opt bytes) go = ⊥
IsAt p place (call.TSndVUData fd addr opt parts) go = ⊥
IsAt p place (call.TLookAt fd) go = ⊥
IsAt p place c go = LiesAt p place (fd_of c)

-- the first datagram of the endpoint is there: it is received in so many sizes, or lost where a field is too long
abbrev pub receive_step : Providers → World → ℕ → ℕ → ℕ → ℕ → ℕ → Endpoint → Option Step
receive_step p w fd sizes max amax omax e =
    step_by p w (Datagrams.receive_from fd sizes max amax omax e) (first (overflows (Datagrams.fields (Datagrams.told e) amax omax) ∷ []))

-- what is told of the first error
abbrev pub error_fields : ℕ → ℕ → Endpoint → List Field
error_fields amax omax e = field (Datagrams.first_error e).destination amax ∷ field (Datagrams.first_error e).options omax ∷ []

abbrev pub told_error : ℕ → ℕ → Endpoint → Reply
told_error amax omax e = Datagrams.error_reply (Datagrams.first_error e) amax omax

-- the first error of the endpoint is there: it is told, or lost where a field is too long
abbrev pub error_step : Providers → World → ℕ → ℕ → ℕ → Endpoint → Option Step
error_step p w fd amax omax e =
    step_by p w (plan_of fd e (Datagrams.error_rows amax omax e) (at_endpoint fd Datagrams.without_error ∷ []) (Done (told_error amax omax e)))
    (first (overflows (error_fields amax omax e) ∷ []))

-- whether a field of the oldest request is longer than the caller takes, and what is told of it
abbrev pub request_overflows : ℕ → ℕ → ℕ → Endpoint → Bool
request_overflows amax omax umax e = list_any is_too_long (Listen.fields (Listen.oldest e) amax omax umax)

abbrev pub told_request : ℕ → ℕ → ℕ → Endpoint → Reply
told_request amax omax umax e = Listen.listen_reply (Listen.oldest e) amax omax umax

-- a request is pending: it is told, or its number alone where a field is too long
abbrev pub request_step : Providers → World → ℕ → ℕ → ℕ → ℕ → Endpoint → Option Step
request_step p w fd amax omax umax e =
    step_by p w (record (plan_of fd e (Listen.listen_rows amax omax umax e) (at_endpoint fd Listen.listened ∷ []) (Done (told_request amax omax umax e))) { lost_number = (Listen.oldest e).number })
    (first (overflows (Listen.fields (Listen.oldest e) amax omax umax) ∷ []))

-- the confirmation of an endpoint; an empty one where there is none
abbrev pub confirmation_of : Endpoint → Confirmation
confirmation_of e = Connect.confirmation_or e.confirmation

-- whether a field of it is longer than the caller takes, and what is told of it
abbrev pub confirmation_overflows : ℕ → ℕ → ℕ → Endpoint → Bool
confirmation_overflows amax omax umax e = list_any is_too_long (Connect.fields (confirmation_of e) amax omax umax)

abbrev pub told_confirmation : ℕ → ℕ → ℕ → Endpoint → Reply
told_confirmation amax omax umax e = Connect.connected (confirmation_of e) amax omax umax

-- a confirmation is there: it is told, or taken without being told where a field is too long
abbrev pub confirmation_step : Providers → World → ℕ → ℕ → ℕ → ℕ → Endpoint → Option Step
confirmation_step p w fd amax omax umax e =
    step_by p w (plan_of fd e (Connect.confirm_rows amax omax umax e) (at_endpoint fd Connect.confirmed ∷ []) (Done (told_confirmation amax omax umax e)))
    (first (overflows (Connect.fields (confirmation_of e) amax omax umax) ∷ []))

-- what is told of the oldest disconnect
abbrev pub told_disconnect : ℕ → Endpoint → Reply
told_disconnect umax e = Disconnect.receive_reply (Disconnect.oldest e) umax

-- a disconnect is there: it is told, or taken without its data where they are too long
abbrev pub disconnect_step : Providers → World → ℕ → ℕ → Endpoint → Option Step
disconnect_step p w fd umax e =
    step_by p w (plan_of fd e (Disconnect.receive_rows umax e) (at_endpoint fd Disconnect.received ∷ []) (Done (told_disconnect umax e)))
    (first (overflows (field (Disconnect.oldest e).udata umax ∷ []) ∷ []))

-- what is told of the data of the release that waits
abbrev pub told_release : ℕ → Endpoint → Reply
told_release umax e = RelData (trimmed (Release.release_data e) umax)

-- a release is to be told: it is taken with its data, or without them where they are too long
abbrev pub release_step : Providers → World → ℕ → ℕ → Endpoint → Option Step
release_step p w fd umax e =
    step_by p w (plan_of fd e (Release.receive_rows umax e) (at_endpoint fd Release.after_receive ∷ []) (Done (told_release umax e)))
    (first (overflows (field (Release.release_data e) umax ∷ []) ∷ []))

-- the answer, and the cell that is left, are those of the plan's step
abbrev pub AnswersBy : Providers → (Providers → Held → Plan) → Held → Held → Applied → Type 0
AnswersBy p plan old new a = taken a (alone new) ≡ step_of p (alone old) (plan p old)

-- the answer, if there is one, and the cell that is left are those of this step
abbrev pub Makes : {E : Type 0} → Option Step → Held → Result Applied E → Type 0
Makes s new r = IfOk r (λ a. taken a (alone new) ≡ s)

-- where it is blocked, the cell is as before
abbrev pub StillBlocked : {E : Type 0} → Held → Held → Result Applied E → Type 0
StillBlocked old new r = IfOk r (λ a. taken a (alone new) ≡ None → new ≡ old)

-- memory does not run out where the plan's first row that holds changes nothing
abbrev pub IsSureBy : {E : Type 0} → Providers → (Providers → Held → Plan) → Held → Result Applied E → Type 0
IsSureBy p plan old r = has_effect (first (plan p old).rows) ≡ false → IsOk r

-- the answer, if there is one, is that of the plan
abbrev pub MakesBy : {E : Type 0} → Providers → (Providers → Held → Plan) → Held → Held → Result Applied E → Type 0
MakesBy p plan old new r = IfOk r (AnswersBy p plan old new)

-- so many sizes, and their sum
abbrev pub all_of : List ℕ → Sizes
all_of sizes = record { count = length sizes; total = sum sizes }

-- how a datagram is received, and how an error is
abbrev pub receiving : ℕ → Sizes → ℕ → ℕ → Providers → Held → Plan
receiving fd sizes amax omax p h = Datagrams.receive_plan p (alone h) fd sizes.count sizes.total amax omax

-- the same in all these sizes
abbrev pub filling : ℕ → List ℕ → ℕ → ℕ → Providers → Held → Plan
filling fd sizes amax omax = receiving fd (all_of sizes) amax omax

abbrev pub receiving_error : ℕ → ℕ → ℕ → Providers → Held → Plan
receiving_error fd amax omax p h = Datagrams.error_plan p (alone h) fd amax omax

-- how a request is listened for
abbrev pub listening : ℕ → ℕ → ℕ → ℕ → Providers → Held → Plan
listening fd amax omax umax p h = Listen.listen_plan p (alone h) fd amax omax umax

-- how a confirmation is received
abbrev pub confirming : ℕ → ℕ → ℕ → ℕ → Providers → Held → Plan
confirming fd amax omax umax p h = Connect.confirm_plan p (alone h) fd amax omax umax

-- how data are received in so many sizes, and in all these sizes
abbrev pub receiving_data : ℕ → Sizes → Providers → Held → Plan
receiving_data fd sizes p h = Receive.plan p (alone h) fd sizes.count sizes.total

abbrev pub filling_data : ℕ → List ℕ → Providers → Held → Plan
filling_data fd sizes = receiving_data fd (all_of sizes)

-- how a disconnect is received, and how a release is
abbrev pub receiving_disconnect : ℕ → ℕ → Providers → Held → Plan
receiving_disconnect fd umax p h = Disconnect.receive_plan p (alone h) fd umax

abbrev pub receiving_release : ℕ → Providers → Held → Plan
receiving_release fd p h = Release.receive_plan p (alone h) fd

-- the same with its data
abbrev pub receiving_release_data : ℕ → ℕ → Providers → Held → Plan
receiving_release_data fd umax p h = Release.receive_data_plan p (alone h) fd umax

-- how the mode is set
abbrev pub setting_mode : ℕ → Bool → Providers → Held → Plan
setting_mode fd nonblock p h = Show.mode_plan p (alone h) fd nonblock

-- how the state of an endpoint is shown, its limits, and its and its peer's addresses
abbrev pub showing_state : ℕ → Providers → Held → Plan
showing_state fd p h = Show.state_plan p (alone h) fd

abbrev pub showing_limits : ℕ → Providers → Held → Plan
showing_limits fd p h = Show.info_plan p (alone h) fd

abbrev pub showing_addresses : ℕ → ℕ → ℕ → Providers → Held → Plan
showing_addresses fd amax pmax p h = Show.addresses_plan p (alone h) fd amax pmax

-- the next bytes of the first datagram, and whether more of it are left then
abbrev pub first_bytes : ℕ → Endpoint → List ℕ
first_bytes max e = take max (Datagrams.first_of e).bytes

abbrev pub first_has_rest : ℕ → Endpoint → Bool
first_has_rest max e = Datagrams.has_rest max (Datagrams.first_of e)

-- the first datagram was received or lost, in however many sizes
abbrev pub Receives : {E : Type 0} → Providers → ℕ → ℕ → ℕ → ℕ → Held → Held → Result Applied E → Type 0
Receives p fd max amax omax old new r = IfOk r (λ a. (sizes : ℕ) → taken a (alone new) ≡ receive_step p (alone old) fd sizes max amax omax (parts old))

-- the oldest request was told, or lost but for its number
abbrev pub TellsRequest : {E : Type 0} → Providers → ℕ → ℕ → ℕ → ℕ → Held → Held → Result Applied E → Type 0
TellsRequest p fd amax omax umax old new r = Makes (request_step p (alone old) fd amax omax umax (parts old)) new r

-- the confirmation was told or lost
abbrev pub TellsConfirmation : {E : Type 0} → Providers → ℕ → ℕ → ℕ → ℕ → Held → Held → Result Applied E → Type 0
TellsConfirmation p fd amax omax umax old new r = Makes (confirmation_step p (alone old) fd amax omax umax (parts old)) new r

-- the oldest disconnect was told, or taken without its data
abbrev pub TellsDisconnect : {E : Type 0} → Providers → ℕ → ℕ → Held → Held → Result Applied E → Type 0
TellsDisconnect p fd umax old new r = Makes (disconnect_step p (alone old) fd umax (parts old)) new r

-- the release was taken with its data, or without them
abbrev pub TellsRelease : {E : Type 0} → Providers → ℕ → ℕ → Held → Held → Result Applied E → Type 0
TellsRelease p fd umax old new r = Makes (release_step p (alone old) fd umax (parts old)) new r

-- the first error was told or lost
abbrev pub TellsError : {E : Type 0} → Providers → ℕ → ℕ → ℕ → Held → Held → Result Applied E → Type 0
TellsError p fd amax omax old new r = Makes (error_step p (alone old) fd amax omax (parts old)) new r

-- what is told of data: expedited ones where there are any
abbrev pub data_reply : Providers → ℕ → Held → Reply
data_reply p max h = Receive.got p (some_wait (parts h).expedited) max (parts h)
