-- Families of calls and of replies.
use Rattle.std.specs.Prelude.{Bool, true, false}
use Rattle.xti_model.specs.declared.call.Call.{Call}
use Rattle.xti_model.specs.declared.call.Call.TheVariants.{TBind, TConnect, TRcvConnect, TListen, TAccept, TSnd, TSndV, TRcv, TRcvV, TSndDis, TRcvDis, TSndRelData, TRcvRelData, TSndUData, TSndVUData, TRcvUData, TRcvVUData, TRcvUDErr, TGetProtAddr, TOptMgmt}
use Rattle.xti_model.specs.declared.entry.Reply.{Reply}
use Rattle.xti_model.specs.declared.entry.Reply.TheVariants.{Connected, Listened, Got, Discon, RelData, UData, UDErr, Refused, Look, Overflow}

-- calls

-- names an address, asks for addresses or settles options
abbrev pub is_address_or_options : Call → Bool
is_address_or_options (TBind fd addr qlen amax) = true
is_address_or_options (TGetProtAddr fd amax pmax) = true
is_address_or_options (TOptMgmt fd action opt omax) = true
is_address_or_options other = false

-- asks for a connection, takes one or ends one
abbrev pub is_connection_request : Call → Bool
is_connection_request (TConnect fd addr opt udata amax omax umax) = true
is_connection_request (TAccept fd resfd seq opt udata) = true
is_connection_request (TSndDis fd seq udata) = true
is_connection_request (TSndRelData fd udata) = true
is_connection_request other = false

-- takes what the other side asked or answered about a connection
abbrev pub is_connection_receipt : Call → Bool
is_connection_receipt (TRcvConnect fd amax omax umax) = true
is_connection_receipt (TListen fd amax omax umax) = true
is_connection_receipt (TRcvDis fd umax) = true
is_connection_receipt (TRcvRelData fd umax) = true
is_connection_receipt other = false

-- sends data or a datagram
abbrev pub is_send : Call → Bool
is_send (TSnd fd bytes flags) = true
is_send (TSndV fd parts flags) = true
is_send (TSndUData fd addr opt bytes) = true
is_send (TSndVUData fd addr opt parts) = true
is_send other = false

-- takes data, a datagram or the error of a datagram
abbrev pub is_receive : Call → Bool
is_receive (TRcv fd max) = true
is_receive (TRcvV fd sizes) = true
is_receive (TRcvUData fd max amax omax) = true
is_receive (TRcvVUData fd sizes amax omax) = true
is_receive (TRcvUDErr fd amax omax) = true
is_receive other = false

-- replies

-- what the other side asked or answered about a connection
abbrev pub is_connection_news : Reply → Bool
is_connection_news (Connected addr opt udata) = true
is_connection_news (Listened seq addr opt udata) = true
is_connection_news (Discon reason seq udata) = true
is_connection_news (RelData udata) = true
is_connection_news other = false

-- data, a datagram or the error of a datagram
abbrev pub is_received : Reply → Bool
is_received (Got bytes flags) = true
is_received (UData addr opt bytes flags) = true
is_received (UDErr addr opt code) = true
is_received other = false

-- the error of a call that failed
abbrev pub is_error : Reply → Bool
is_error (Refused errno) = true
is_error (Look event) = true
is_error (Overflow seq) = true
is_error other = false
