-- Families of calls, with names in place of numbers.
use Rattle.std.specs.Prelude.{Bool, true, false}
use Rattle.xti_model.specs.declared.script.NamedCall.{NamedCall}
use Rattle.xti_model.specs.declared.script.NamedCall.TheVariants.{TBind, TConnect, TRcvConnect, TListen, TAccept, TSnd, TSndV, TRcv, TRcvV, TSndDis, TRcvDis, TSndRelData, TRcvRelData, TSndUData, TSndVUData, TRcvUData, TRcvVUData, TRcvUDErr, TGetProtAddr, TOptMgmt}

-- names an address, asks for addresses or settles options
abbrev pub is_address_or_options : NamedCall → Bool
is_address_or_options (TBind fd addr qlen amax) = true
is_address_or_options (TGetProtAddr fd amax pmax) = true
is_address_or_options (TOptMgmt fd action opt omax) = true
is_address_or_options other = false

-- asks for a connection, takes one, ends one or sends data with its release
abbrev pub is_connection_request : NamedCall → Bool
is_connection_request (TConnect fd addr opt udata amax omax umax) = true
is_connection_request (TAccept fd resfd seq opt udata) = true
is_connection_request (TSndDis fd seq udata) = true
is_connection_request (TSndRelData fd udata) = true
is_connection_request other = false

-- takes what the other side asked or answered about a connection
abbrev pub is_connection_receipt : NamedCall → Bool
is_connection_receipt (TRcvConnect fd amax omax umax) = true
is_connection_receipt (TListen fd name amax omax umax) = true
is_connection_receipt (TRcvDis fd umax) = true
is_connection_receipt (TRcvRelData fd umax) = true
is_connection_receipt other = false

-- sends data or a datagram
abbrev pub is_send : NamedCall → Bool
is_send (TSnd fd bytes flags) = true
is_send (TSndV fd parts flags) = true
is_send (TSndUData fd addr opt bytes) = true
is_send (TSndVUData fd addr opt parts) = true
is_send other = false

-- takes data, a datagram or the error of a datagram
abbrev pub is_receive : NamedCall → Bool
is_receive (TRcv fd max) = true
is_receive (TRcvV fd sizes) = true
is_receive (TRcvUData fd max amax omax) = true
is_receive (TRcvVUData fd sizes amax omax) = true
is_receive (TRcvUDErr fd amax omax) = true
is_receive other = false
