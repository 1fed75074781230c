-- The state table (XNS, state tables): the states that a call takes an endpoint from, and to.
use Rattle.std.specs.Prelude.{ℕ, ◌==◌, ◌&&◌, not, nat_lt, Bool, true, List, [], ◌∷◌, if◌then◌else◌}
use Rattle.std.specs.List.{list_any}
use Rattle.xti_base.specs.Kinds.{same_state}
use Rattle.xti_base.specs.declared.kinds.State.{State}
use Rattle.xti_base.specs.declared.kinds.State.TheVariants.{T_UNINIT, T_UNBND, T_IDLE, T_OUTCON, T_INCON, T_DATAXFER, T_OUTREL, T_INREL}
use Rattle.xti_model.specs.declared.call.Call.{Call}
use Rattle.xti_model.specs.declared.call.Call.TheVariants as call
use Rattle.xti_model.specs.declared.entry.Go.{Go}
use Rattle.xti_model.specs.declared.entry.Go.TheVariants as go

-- what moves an endpoint: a call of it, a step of one, or for `passed` the accept of a listener
pub data Move : Type 0 where
  by_open by_bind by_unbind by_connect by_rcvconnect by_listen : Move
  -- accept at the listener, where it is the responding endpoint itself, and where another is
  by_accept_here by_accept_there : Move
  -- accept at the other responding endpoint
  passed : Move
  by_snd by_rcv by_snddis by_rcvdis by_sndrel by_rcvrel by_datagram by_show by_close : Move

-- how many indications are outstanding before
pub data Count : Type 0 where
  any_count just_one over_one not_one : Count

-- the state after a move: this one, or the same
pub data Next : Type 0 where
  becomes : State → Next
  stays : Next

-- from these states, at these counts, the move leads there
pub record TableRow : Type 0 where
  pub move : Move
  pub from : List State
  pub count : Count
  pub to : Next

-- a row of the table
abbrev pub row : Move → List State → Count → Next → TableRow
row move from count to = record { move = move; from = from; count = count; to = to }

-- every state but T_UNINIT
abbrev pub any_open : List State
any_open = T_UNBND ∷ T_IDLE ∷ T_OUTCON ∷ T_INCON ∷ T_DATAXFER ∷ T_OUTREL ∷ T_INREL ∷ []

-- a connection or a request of one's own
abbrev pub with_connection : List State
with_connection = T_OUTCON ∷ T_DATAXFER ∷ T_OUTREL ∷ T_INREL ∷ []

-- A listener in T_INCON has an indication outstanding in every legal history, so that `not_one` is there `over_one`.
abbrev pub state_table : List TableRow
state_table =
    row by_open (T_UNINIT ∷ []) any_count (becomes T_UNBND) ∷
    row by_bind (T_UNBND ∷ []) any_count (becomes T_IDLE) ∷
    row by_unbind (T_IDLE ∷ []) any_count (becomes T_UNBND) ∷
    row by_connect (T_IDLE ∷ []) any_count (becomes T_OUTCON) ∷
    row by_rcvconnect (T_OUTCON ∷ []) any_count (becomes T_DATAXFER) ∷
    row by_listen (T_IDLE ∷ T_INCON ∷ []) any_count (becomes T_INCON) ∷
    row by_accept_here (T_INCON ∷ []) just_one (becomes T_DATAXFER) ∷
    row by_accept_there (T_INCON ∷ []) just_one (becomes T_IDLE) ∷
    row by_accept_there (T_INCON ∷ []) over_one (becomes T_INCON) ∷
    row passed (T_UNBND ∷ T_IDLE ∷ []) any_count (becomes T_DATAXFER) ∷
    row by_snd (T_DATAXFER ∷ T_INREL ∷ []) any_count stays ∷
    row by_rcv (T_DATAXFER ∷ T_OUTREL ∷ []) any_count stays ∷
    row by_snddis with_connection any_count (becomes T_IDLE) ∷
    row by_snddis (T_INCON ∷ []) just_one (becomes T_IDLE) ∷
    row by_snddis (T_INCON ∷ []) over_one (becomes T_INCON) ∷
    row by_rcvdis with_connection any_count (becomes T_IDLE) ∷
    row by_rcvdis (T_INCON ∷ []) just_one (becomes T_IDLE) ∷
    row by_rcvdis (T_INCON ∷ []) not_one (becomes T_INCON) ∷
    row by_sndrel (T_DATAXFER ∷ []) any_count (becomes T_OUTREL) ∷
    row by_sndrel (T_INREL ∷ []) any_count (becomes T_IDLE) ∷
    row by_rcvrel (T_DATAXFER ∷ []) any_count (becomes T_INREL) ∷
    row by_rcvrel (T_OUTREL ∷ []) any_count (becomes T_IDLE) ∷
    row by_datagram (T_IDLE ∷ []) any_count stays ∷
    row by_show any_open any_count stays ∷
    row by_close any_open any_count (becomes T_UNINIT) ∷ []

-- moves as numbers, to be compared
abbrev pub move_number : Move → ℕ
move_number by_open = 0
move_number by_bind = 1
move_number by_unbind = 2
move_number by_connect = 3
move_number by_rcvconnect = 4
move_number by_listen = 5
move_number by_accept_here = 6
move_number by_accept_there = 7
move_number passed = 8
move_number by_snd = 9
move_number by_rcv = 10
move_number by_snddis = 11
move_number by_rcvdis = 12
move_number by_sndrel = 13
move_number by_rcvrel = 14
move_number by_datagram = 15
move_number by_show = 16
move_number by_close = 17

-- whether there are so many outstanding indications
abbrev pub counts : Count → ℕ → Bool
counts any_count ocnt = true
counts just_one ocnt = ocnt == 1
counts over_one ocnt = nat_lt 1 ocnt
counts not_one ocnt = not (ocnt == 1)

-- whether the state follows
abbrev pub leads : Next → State → State → Bool
leads (becomes state) from to = same_state to state
leads stays from to = same_state to from

-- whether the row allows it
abbrev pub is_row : Move → State → ℕ → State → TableRow → Bool
is_row move from ocnt to r = (move_number r.move == move_number move) && list_any (same_state from) r.from && counts r.count ocnt && leads r.to from to

-- whether the table takes an endpoint from a state to a state, where so many indications are outstanding before
abbrev pub is_in_table : Move → State → ℕ → State → Bool
is_in_table move from ocnt to = list_any (is_row move from ocnt to) state_table

-- the two steps of connect are two moves
abbrev pub connect_move : Go → Move
connect_move go.Begin = by_connect
connect_move (go.More n) = by_rcvconnect

-- what a step of a call does to the call's own endpoint
abbrev pub move_of : Call → Go → Move
move_of (call.TOpen prov nonblock) g = by_open
move_of (call.TClose fd) g = by_close
move_of (call.TBind fd addr qlen amax) g = by_bind
move_of (call.TUnbind fd) g = by_unbind
move_of (call.TConnect fd addr opt udata amax omax umax) g = connect_move g
move_of (call.TRcvConnect fd amax omax umax) g = by_rcvconnect
move_of (call.TListen fd amax omax umax) g = by_listen
move_of (call.TAccept fd resfd seq opt udata) g = if fd.0 == resfd.0 then by_accept_here else by_accept_there
move_of (call.TSnd fd bytes flags) g = by_snd
move_of (call.TSndV fd parts flags) g = by_snd
move_of (call.TRcv fd max) g = by_rcv
move_of (call.TRcvV fd sizes) g = by_rcv
move_of (call.TSndDis fd seq udata) g = by_snddis
move_of (call.TRcvDis fd umax) g = by_rcvdis
move_of (call.TSndRel fd) g = by_sndrel
move_of (call.TRcvRel fd) g = by_rcvrel
move_of (call.TSndRelData fd udata) g = by_sndrel
move_of (call.TRcvRelData fd umax) g = by_rcvrel
move_of (call.TSndUData fd addr opt bytes) g = by_datagram
move_of (call.TSndVUData fd addr opt parts) g = by_datagram
move_of (call.TRcvUData fd max amax omax) g = by_datagram
move_of (call.TRcvVUData fd sizes amax omax) g = by_datagram
move_of (call.TRcvUDErr fd amax omax) g = by_datagram
move_of (call.TLookAt fd) g = by_show
move_of (call.TGetState fd) g = by_show
move_of (call.TSync fd) g = by_show
move_of (call.TGetInfo fd) g = by_show
move_of (call.TGetProtAddr fd amax pmax) g = by_show
move_of (call.TOptMgmt fd action opt omax) g = by_show
move_of (call.SetMode fd nonblock) g = by_show
