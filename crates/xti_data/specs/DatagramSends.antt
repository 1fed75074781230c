-- The calls that send datagrams, and what they make of lent cells.
use Rattle.std.specs.Prelude.{◌≡◌, ◌∷◌, ℕ, List, [], Option, None, IfSome, Result, OnOk, length, option_map, option_and_then}
use Rattle.std.specs.List.{concat}
use Rattle.xti_base.specs.declared.kinds.Fd.{Fd}
use Rattle.xti_model.specs.declared.call.Call.{Call}
use Rattle.xti_model.specs.declared.call.Call.TheVariants as call
use Rattle.xti_model.specs.Calls.Datagrams.{datagram_from, send_changes, send_plan, send_rows, with_datagram, with_error_unmarked, mark_flow}
use Rattle.xti_model.specs.Endpoint.{Endpoint, Datagram, DatagramError}
use Rattle.xti_model.specs.Plan.{Plan, Refusal, first}
use Rattle.xti_model.specs.Spot.{spot_bytes}
use Rattle.xti_model.specs.declared.entry.Applied.{Applied}
use Rattle.xti_model.specs.World.{Change, endpoint, at_endpoint}
use Rattle.xti_model.specs.declared.profile.Providers.{Providers}
use Rattle.xti_model.specs.declared.spot.Spot.{Spot}
use Rattle.xti_end.specs.Frames.{datagram_in, error_in}
use Rattle.xti_end.specs.Held.{Held, parts_of}
use Rattle.xti_lent.specs.Answers.{Changed, MakesBy}
use Rattle.xti_lent.specs.Lending.{Lending, cells, number_of}
use Rattle.xti_lent.specs.Lends.{ChangesAt}

abbrev pub IsSend : Call → Type 0
IsSend (call.TSndUData fd addr opt bytes) = Unit {0}
IsSend (call.TSndVUData fd addr opt parts) = Unit {0}
IsSend _ = ⊥

-- how these parts are sent as one datagram
abbrev pub sending : Lending → ℕ → List ℕ → List ℕ → List (List ℕ) → Plan
sending l fd address options parts = send_plan l.providers (cells l) fd address options (length parts) (concat parts)

-- the answer, if there is one, is that of their sending
abbrev pub IsSent : {E : Type 0} → Lending → Lending → ℕ → List ℕ → List ℕ → List (List ℕ) → Result Applied E → Type 0
IsSent old new fd address options parts r = MakesBy (sending old fd address options parts) old new r

-- what refuses them at the open endpoint, whoever is bound to the address
abbrev pub refusal_of : Providers → List ℕ → List ℕ → List (List ℕ) → Held → Option Refusal
refusal_of p address options parts h = first (send_rows p address options (length parts) (concat parts) None (parts_of h.body))

-- the endpoint that is open with the descriptor among lent cells
abbrev pub sender : Lending → ℕ → Option Endpoint
sender l fd = endpoint l.providers (cells l) fd

-- whoever is open with the descriptor, if there is one
abbrev pub receiver_at : Lending → Option Fd → Option Endpoint
receiver_at l to = option_and_then (sender l) (number_of to)

-- these are the parts of a datagram
abbrev pub IsDatagram : List ℕ → List ℕ → List ℕ → Datagram → Type 0
IsDatagram source options bytes d = d ≡ record { source = source; options = options; bytes = bytes }

-- the frame has these parts
abbrev pub HoldsDatagram : List ℕ → List ℕ → List ℕ → List ℕ → Type 0
HoldsDatagram source options bytes frame = IsDatagram source options bytes (datagram_in frame)

-- the frame is the datagram that the endpoint sends
abbrev pub IsDatagramOf : Option Endpoint → List ℕ → List (List ℕ) → List ℕ → Type 0
IsDatagramOf o options parts frame = IfSome o (λ e. datagram_in frame ≡ datagram_from e options (concat parts))

-- the parts were sent to this receiver, or to nobody
abbrev pub Delivers : Lending → Lending → ℕ → List ℕ → List ℕ → List (List ℕ) → Option Fd → Type 0
Delivers old new fd address options parts to = IfSome (sender old fd) (λ e. Changed (send_changes fd address options (concat parts) (number_of to) e) old new)

-- so it is where memory doesn't run out
abbrev pub IsDelivered : {A E : Type 0} → Lending → Lending → ℕ → List ℕ → List ℕ → List (List ℕ) → Option Fd → Result A E → Type 0
IsDelivered old new fd address options parts to r = OnOk r (Delivers old new fd address options parts to)

-- the flow mark of the endpoint is set to this address, or cleared
abbrev pub marking : ℕ → Option Spot → List Change
marking fd to = at_endpoint fd (mark_flow (option_map spot_bytes to)) ∷ []

-- the datagram of the frame waits at the endpoint
abbrev pub receiving : ℕ → List ℕ → List Change
receiving fd frame = at_endpoint fd (with_datagram (datagram_in frame)) ∷ []

-- so the endpoint at a place changes
abbrev pub TakesDatagram : Providers → ℕ → List ℕ → Held → Held → Type 0
TakesDatagram p fd frame old new = ChangesAt p fd (with_datagram (datagram_in frame)) old new

-- the error of the frame waits at the endpoint at a place, and its flow mark is cleared
abbrev pub TakesError : Providers → ℕ → List ℕ → Held → Held → Type 0
TakesError p fd frame old new = ChangesAt p fd (with_error_unmarked (error_in frame)) old new

-- the datagram waits at the receiver, and the sender's flow mark is cleared
abbrev pub giving : ℕ → ℕ → Datagram → List Change
giving fd to d = at_endpoint to (with_datagram d) ∷ at_endpoint fd (mark_flow None) ∷ []

-- an error waits at the sender, and its flow mark is cleared
abbrev pub failing : ℕ → DatagramError → List Change
failing fd error = at_endpoint fd (with_error_unmarked error) ∷ []
