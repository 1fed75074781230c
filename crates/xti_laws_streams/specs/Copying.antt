-- A copy: one worker connects an endpoint of its own to another, sends an input there in pieces, and releases the connection in order.
use Rattle.std.specs.Prelude.{ℕ, zero, suc, ◌≡◌, true, List, [], ◌∷◌, ◌++◌, length, take, drop, map, flat_map, codes}
use Rattle.std.specs.List.{list_all}
use Rattle.xti_base.specs.declared.errno.Errno.TheVariants.{TNODATA}
use Rattle.xti_base.specs.declared.kinds.Event.TheVariants.{T_ORDREL}
use Rattle.xti_base.specs.declared.kinds.Prov.TheVariants.{Ticotsord}
use Rattle.xti_base.specs.declared.kinds.State.{State}
use Rattle.xti_base.specs.declared.kinds.State.TheVariants.{T_UNINIT, T_UNBND, T_IDLE, T_OUTCON, T_INCON, T_DATAXFER, T_OUTREL, T_INREL}
use Rattle.xti_base.specs.declared.kinds.Fd.{Fd}
use Rattle.xti_base.specs.declared.kinds.Seq.{Seq}
use Rattle.xti_model.specs.declared.call.Call.{Call}
use Rattle.xti_model.specs.declared.call.Call.TheVariants as call
use Rattle.xti_model.specs.declared.entry.Act.TheVariants as act
use Rattle.xti_model.specs.declared.entry.Entry.{Entry}
use Rattle.xti_model.specs.declared.entry.Outcome.TheVariants.{Done}
use Rattle.xti_model.specs.declared.entry.Reply.{Reply}
use Rattle.xti_model.specs.declared.entry.Reply.TheVariants.{Plain, Opened, Bound, Connected, Listened, Sent, Got, Refused, Look}
use Rattle.xti_model.specs.declared.script.Journal.{Journal}
use Rattle.xti_model.specs.History.{is_own}
use Rattle.xti_model.specs.Profile.{usual}
use Rattle.xti_sock.specs.Socks.{taking_release}
use Rattle.xti_laws_streams.specs.declared.copies.TheConstants.{PIECE}

-- ---- the pieces

-- at most so many
unfoldable pub pieces_within : ℕ → List ℕ → List (List ℕ)
pieces_within most [] = []
pieces_within zero (b ∷ bytes) = []
pieces_within (suc most) (b ∷ bytes) = take PIECE (b ∷ bytes) ∷ pieces_within most (drop PIECE (b ∷ bytes))

-- the bytes cut into pieces, each as long as a piece may be but the last, which may be shorter; none is empty
abbrev pub pieces : List ℕ → List (List ℕ)
pieces bytes = pieces_within (length bytes) bytes

-- ---- the calls

-- the descriptors: of the listener, of the client, and of the end that accepts
abbrev pub listener : Fd
listener = record { 0 = 0 }

abbrev pub client : Fd
client = record { 0 = 1 }

abbrev pub receiver : Fd
receiver = record { 0 = 2 }

-- the indication that is accepted
abbrev pub indication : Seq
indication = record { 0 = 1 }

-- the listener's address
abbrev pub service : List ℕ
service = codes "srv"

-- the two ends are made and connected
abbrev pub connecting_calls : List Call
connecting_calls =
    call.TOpen Ticotsord true ∷
    call.TBind listener service 1 0 ∷
    call.TOpen Ticotsord true ∷
    call.TBind client [] 0 0 ∷
    call.TConnect client service [] [] 0 0 0 ∷
    call.TListen listener 0 0 0 ∷
    call.TOpen Ticotsord true ∷
    call.TAccept listener receiver indication [] [] ∷
    call.TRcvConnect client 0 0 0 ∷
    []

-- a piece is sent and received
abbrev pub exchange_calls : List ℕ → List Call
exchange_calls piece =
    call.TSnd client piece 0 ∷
    call.TRcv receiver PIECE ∷
    []

-- each end releases the connection and takes the other's release, and all is closed
abbrev pub ending_calls : List Call
ending_calls =
    call.TSndRel client ∷
    call.TRcv receiver PIECE ∷
    taking_release receiver ∷
    call.TSndRel receiver ∷
    call.TRcv client PIECE ∷
    taking_release client ∷
    call.TClose receiver ∷
    call.TClose client ∷
    call.TClose listener ∷
    []

-- all calls, in their order
abbrev pub copy_calls : List ℕ → List Call
copy_calls input = connecting_calls ++ flat_map exchange_calls (pieces input) ++ ending_calls

-- ---- the entries

-- a call of worker 0 that is done in one step, its answer, and the state after it
abbrev pub answered : Call → Reply → State → Entry
answered c reply after = record { worker = 0; act = act.Begin c; outcome = Done reply; after = after }

-- nonblocking, the request is not answered at once
abbrev pub before : List Entry
before =
    answered (call.TOpen Ticotsord true) (Opened listener) T_UNBND ∷
    answered (call.TBind listener service 1 0) (Bound [] 1) T_IDLE ∷
    answered (call.TOpen Ticotsord true) (Opened client) T_UNBND ∷
    answered (call.TBind client [] 0 0) (Bound [] 0) T_IDLE ∷
    answered (call.TConnect client service [] [] 0 0 0) (Refused TNODATA) T_OUTCON ∷
    answered (call.TListen listener 0 0 0) (Listened indication [] [] []) T_INCON ∷
    answered (call.TOpen Ticotsord true) (Opened receiver) T_UNBND ∷
    answered (call.TAccept listener receiver indication [] []) Plain T_IDLE ∷
    answered (call.TRcvConnect client 0 0 0) (Connected [] [] []) T_DATAXFER ∷
    []

-- the whole piece is sent, and received with no flags
abbrev pub exchange : List ℕ → List Entry
exchange piece =
    answered (call.TSnd client piece 0) (Sent (length piece)) T_DATAXFER ∷
    answered (call.TRcv receiver PIECE) (Got piece 0) T_DATAXFER ∷
    []

-- at either end a receive answers that the release waits
abbrev pub ending : List Entry
ending =
    answered (call.TSndRel client) Plain T_OUTREL ∷
    answered (call.TRcv receiver PIECE) (Look T_ORDREL) T_DATAXFER ∷
    answered (taking_release receiver) Plain T_INREL ∷
    answered (call.TSndRel receiver) Plain T_IDLE ∷
    answered (call.TRcv client PIECE) (Look T_ORDREL) T_OUTREL ∷
    answered (taking_release client) Plain T_IDLE ∷
    answered (call.TClose receiver) Plain T_UNINIT ∷
    answered (call.TClose client) Plain T_UNINIT ∷
    answered (call.TClose listener) Plain T_UNINIT ∷
    []

-- the entries of a copy
abbrev pub copied : List ℕ → List Entry
copied input = before ++ flat_map exchange (pieces input) ++ ending

-- the journal of a copy: nothing is blocked at its end
abbrev pub copy_journal : List ℕ → Journal
copy_journal input = record { providers = usual; entries = copied input; stalls = [] }

-- ---- entries of calls

-- the entries are the worker's, and begin these calls, in this order, each once
pub record AreCalls (worker : ℕ) (calls : List Call) (entries : List Entry) : Type 0 where
  pub own : list_all (is_own worker) entries ≡ true
  pub acts : map (λ e. e.act) entries ≡ map (λ c. act.Begin c) calls
