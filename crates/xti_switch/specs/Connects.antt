-- How connections are asked for, and what is made of lent cells.
use Rattle.std.specs.Prelude.{◌≡◌, ◌+◌, ℕ, Bool, List, [], ◌∷◌, ◌++◌, not, Option, Some, None, IfSome, Result, Ok, Err, OnOk, if◌then◌else◌}
use Rattle.xti_base.specs.declared.kinds.Fd.{Fd}
use Rattle.xti_base.specs.declared.kinds.Seq.{Seq}
use Rattle.xti_base.specs.declared.reasons.TheConstants.{NO_LISTENER, QUEUE_FULL}
use Rattle.xti_base.specs.declared.errno.Errno.TheVariants.{TNODATA}
use Rattle.xti_base.specs.declared.kinds.State.TheVariants.{T_OUTCON}
use Rattle.xti_model.specs.declared.entry.Applied.{Applied}
use Rattle.xti_model.specs.declared.entry.Outcome.{Outcome}
use Rattle.xti_model.specs.declared.entry.Outcome.TheVariants.{Done, Part}
use Rattle.xti_model.specs.declared.entry.Reply.TheVariants.{Refused}
use Rattle.xti_model.specs.Endpoint.{Endpoint, Indication, address_of}
use Rattle.xti_model.specs.Plan.{Plan}
use Rattle.xti_model.specs.World.{Change, at_endpoint}
use Rattle.xti_model.specs.Calls.Connect as Connect
use Rattle.xti_end.specs.Frames.{disconnect_in, request_in}
use Rattle.xti_end.specs.Held.{Held, cell, with_disconnect, with_parts}
use Rattle.xti_lent.specs.Answers.{Changed, MakesBy}
use Rattle.xti_lent.specs.Lending.{Lending, cells, number_of, open_at}

-- how a connection is asked for
abbrev pub connecting : Lending → ℕ → List ℕ → List ℕ → List ℕ → Plan
connecting l fd address options udata = Connect.plan l.providers (cells l) fd address options udata

-- the answer, if there is one, is that of asking for it
abbrev pub IsConnecting : {E : Type 0} → Lending → Lending → ℕ → List ℕ → List ℕ → List ℕ → Result Applied E → Type 0
IsConnecting old new fd address options udata r = MakesBy (connecting old fd address options udata) old new r

-- a caller that waits goes on with a second step
abbrev pub first_outcome : Bool → Outcome
first_outcome nonblock = if nonblock then Done (Refused TNODATA) else Part 0

-- the number that the endpoint gives the next request, or why it takes none
abbrev pub number_for : Option Endpoint → Result Seq ℕ
number_for None = Err NO_LISTENER
number_for (Some l) =
    if not (Connect.is_listening l) then Err NO_LISTENER else
    if Connect.is_full l then Err QUEUE_FULL else
    Ok (record { 0 = l.last_number + 1 })

-- the frame is the request of the endpoint, under this number
abbrev pub IsRequestOf : Option Endpoint → ℕ → ℕ → List ℕ → List ℕ → List ℕ → Type 0
IsRequestOf o fd number options udata frame =
    IfSome o (λ e. request_in fd frame ≡ record { number = number; caller = fd; address = address_of e; options = options; udata = udata })

-- of the endpoint that is open with the descriptor
abbrev pub IsRequestAt : Lending → ℕ → ℕ → List ℕ → List ℕ → List ℕ → Type 0
IsRequestAt l fd number options udata frame = IsRequestOf (open_at l fd) fd number options udata frame

-- one more request is pending, and this number is the last one that was given
abbrev pub queued : Indication → ℕ → Endpoint → Endpoint
queued i number l = record l { last_number = number; pending = l.pending ++ i ∷ [] }

-- it is that of the frame: so an open endpoint changes, and so lent cells do
abbrev pub Queues : ℕ → ℕ → List ℕ → Held → Held → Type 0
Queues caller number frame old new = cell new ≡ cell (with_parts (queued (request_in caller frame) number) old)

abbrev pub queuing : ℕ → ℕ → ℕ → List ℕ → List Change
queuing listener caller number frame = at_endpoint listener (queued (request_in caller frame) number) ∷ []

-- the disconnect of the frame answers the request of an open endpoint
abbrev pub TurnsAway : List ℕ → Held → Held → Type 0
TurnsAway frame old new = cell new ≡ cell (with_parts (λ e. record (with_disconnect (disconnect_in frame) e) { state = T_OUTCON }) old)

-- a disconnect with the reason does
abbrev pub turning_away : ℕ → ℕ → List Change
turning_away fd reason = at_endpoint fd (Connect.turned_away reason) ∷ []

-- the request of the endpoint is pending at the listener, under this number
abbrev pub Asks : Lending → Lending → ℕ → ℕ → ℕ → List ℕ → List ℕ → Type 0
Asks old new fd listener number options udata =
    IfSome (open_at old fd) (λ e. Changed (at_endpoint listener (Connect.asked fd (address_of e) options udata) ∷ at_endpoint fd (Connect.asking listener number) ∷ []) old new)

-- the request of the endpoint went to this listener, or to nobody
abbrev pub Requests : Lending → Lending → ℕ → Option ℕ → List ℕ → List ℕ → Type 0
Requests old new fd listener options udata =
    IfSome (open_at old fd) (λ e. Changed (Connect.request fd options udata e (Connect.found_at old.providers (cells old) listener)) old new)

-- so it is where memory doesn't run out
abbrev pub IsRequested : {A E : Type 0} → Lending → Lending → ℕ → Option Fd → List ℕ → List ℕ → Result A E → Type 0
IsRequested old new fd listener options udata r = OnOk r (Requests old new fd (number_of listener) options udata)
