-- What C is told of a step's outcome.
use Rattle.std.specs.Prelude.{ℕ, List, [], ◌++◌, length, take, drop, pos, Some}
use Rattle.xti_base.specs.declared.kinds.State.{State}
use Rattle.xti_base.specs.Errno.{errno_number}
use Rattle.xti_base.specs.Kinds.{event_number, state_number, service_number}
use Rattle.xti_base.specs.Limit.{limit_number}
use Rattle.xti_model.specs.declared.entry.Outcome.{Outcome}
use Rattle.xti_model.specs.declared.entry.Outcome.TheVariants.{Done, Part}
use Rattle.xti_model.specs.declared.entry.Reply.{Reply}
use Rattle.xti_model.specs.declared.entry.Reply.TheVariants.{Plain, Opened, Bound, Connected, Listened, Sent, Got, Discon, RelData, UData, UDErr, Seen, Stands, Limits, Addresses, Options, Refused, Look, Overflow}
use Rattle.xti_flat.specs.declared.told.Told.{Told}
use Rattle.xti_flat.specs.declared.told.InfoNumbers.{InfoNumbers}

abbrev pub place_of_reply : Reply → ℕ
place_of_reply Plain = 0
place_of_reply (Opened fd) = 1
place_of_reply (Bound addr qlen) = 2
place_of_reply (Connected addr opt udata) = 3
place_of_reply (Listened seq addr opt udata) = 4
place_of_reply (Sent n) = 5
place_of_reply (Got bytes flags) = 6
place_of_reply (Discon reason seq udata) = 7
place_of_reply (UData addr opt bytes flags) = 8
place_of_reply (UDErr addr opt code) = 9
place_of_reply (Seen event) = 10
place_of_reply (Stands state) = 11
place_of_reply (Limits info) = 12
place_of_reply (Addresses local peer) = 13
place_of_reply (Options result opt) = 14
place_of_reply (Refused errno) = 15
place_of_reply (Look event) = 16
place_of_reply (Overflow seq) = 17
place_of_reply (RelData udata) = 19

abbrev pub fd_of : Reply → ℕ
fd_of (Opened fd) = fd.0
fd_of other = 0

abbrev pub error_of : Reply → ℕ
error_of (Refused errno) = errno_number errno
error_of other = 0

abbrev pub event_of : Reply → ℕ
event_of (Seen (Some event)) = event_number event
event_of (Look event) = event_number event
event_of other = 0

abbrev pub seq_of : Reply → ℕ
seq_of (Listened seq addr opt udata) = seq.0
seq_of (Discon reason seq udata) = seq.0
seq_of (Overflow seq) = seq.0
seq_of other = 0

abbrev pub number_of : Reply → ℕ
number_of (Bound addr qlen) = qlen
number_of (Sent n) = n
number_of (Discon reason seq udata) = reason
number_of (UDErr addr opt code) = code
number_of (Stands state) = state_number state
number_of (Options result opt) = result
number_of other = 0

abbrev pub flags_of : Reply → ℕ
flags_of (Got bytes flags) = flags
flags_of (UData addr opt bytes flags) = flags
flags_of other = 0

abbrev pub no_info : InfoNumbers
no_info = record { addr = pos 0; options = pos 0; tsdu = pos 0; etsdu = pos 0; connect = pos 0; discon = pos 0; servtype = 0; flags = 0 }

abbrev pub info_of : Reply → InfoNumbers
info_of (Limits i) = record { addr = limit_number i.addr; options = limit_number i.options; tsdu = limit_number i.tsdu; etsdu = limit_number i.etsdu; connect = limit_number i.connect; discon = limit_number i.discon; servtype = service_number i.servtype; flags = i.flags }
info_of other = no_info

-- the address; of t_getprotaddr the endpoint's own
abbrev pub addr_of : Reply → List ℕ
addr_of (Bound addr qlen) = addr
addr_of (Connected addr opt udata) = addr
addr_of (Listened seq addr opt udata) = addr
addr_of (UData addr opt bytes flags) = addr
addr_of (UDErr addr opt code) = addr
addr_of (Addresses local peer) = local
addr_of other = []

abbrev pub opt_of : Reply → List ℕ
opt_of (Connected addr opt udata) = opt
opt_of (Listened seq addr opt udata) = opt
opt_of (UData addr opt bytes flags) = opt
opt_of (UDErr addr opt code) = opt
opt_of (Options result opt) = opt
opt_of other = []

-- the data; of t_getprotaddr the peer's address
abbrev pub data_of : Reply → List ℕ
data_of (Connected addr opt udata) = udata
data_of (Listened seq addr opt udata) = udata
data_of (Got bytes flags) = bytes
data_of (Discon reason seq udata) = udata
data_of (RelData udata) = udata
data_of (UData addr opt bytes flags) = bytes
data_of (Addresses local peer) = peer
data_of other = []

-- the numbers that are told of an outcome; 18 in the place of a reply stands for a part
abbrev pub told_of : Outcome → State → Told
told_of (Done r) after = record { reply = place_of_reply r; state = state_number after; fd = fd_of r; error = error_of r; event = event_of r; seq = seq_of r; number = number_of r; flags = flags_of r; addr = length (addr_of r); opt = length (opt_of r); udata = length (data_of r); info = info_of r }
told_of (Part taken) after = record { reply = 18; state = state_number after; fd = 0; error = 0; event = 0; seq = 0; number = taken; flags = 0; addr = 0; opt = 0; udata = 0; info = no_info }

-- the bytes that fit, and what stood in the room behind them
abbrev pub given : List ℕ → List ℕ → List ℕ
given bytes room = take (length room) bytes ++ drop (length bytes) room

-- the rooms for the bytes of an answer
pub record Rooms : Type 0 where
  pub addr : List ℕ
  pub opt : List ℕ
  pub udata : List ℕ

-- these rooms
abbrev pub rooms_of : List ℕ → List ℕ → List ℕ → Rooms
rooms_of addr opt udata = record { addr = addr; opt = opt; udata = udata }

-- the number that a step answers: 0 where the call is done, 1 where a part of it is made
abbrev pub end_of : Outcome → ℕ
end_of (Done r) = 0
end_of (Part taken) = 1

-- each of the bytes that fit
abbrev pub filled : Outcome → Rooms → Rooms
filled (Done r) old = record { addr = given (addr_of r) old.addr; opt = given (opt_of r) old.opt; udata = given (data_of r) old.udata }
filled (Part taken) old = old
