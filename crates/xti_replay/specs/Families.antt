-- Families of a script's calls; Verbs.antt of xti_verbs has those that say no more than which endpoint.
use Rattle.std.specs.Prelude.{Bool, true, false}
use Rattle.xti_model.specs.declared.script.NamedCall.{NamedCall}
use Rattle.xti_model.specs.declared.script.NamedCall.TheVariants as named

-- names an address, asks for addresses or settles options
abbrev pub is_address_or_options : NamedCall → Bool
is_address_or_options (named.TBind fd addr qlen amax) = true
is_address_or_options (named.TGetProtAddr fd amax pmax) = true
is_address_or_options (named.TOptMgmt fd action opt omax) = true
is_address_or_options other = false

-- asks for a connection
abbrev pub is_connect : NamedCall → Bool
is_connect (named.TConnect fd addr opt udata amax omax umax) = true
is_connect other = false

-- accepts a connection, refuses or breaks one, or sends data with its release
abbrev pub is_connection_answer : NamedCall → Bool
is_connection_answer (named.TAccept fd resfd seq opt udata) = true
is_connection_answer (named.TSndDis fd seq udata) = true
is_connection_answer (named.TSndRelData fd udata) = true
is_connection_answer other = false

-- takes what the other side asked or answered about a connection
abbrev pub is_connection_receipt : NamedCall → Bool
is_connection_receipt (named.TRcvConnect fd amax omax umax) = true
is_connection_receipt (named.TListen fd name amax omax umax) = true
is_connection_receipt (named.TRcvDis fd umax) = true
is_connection_receipt (named.TRcvRelData fd umax) = true
is_connection_receipt other = false

-- sends or receives data on a connection
abbrev pub moves_data : NamedCall → Bool
moves_data (named.TSnd fd bytes flags) = true
moves_data (named.TSndV fd parts flags) = true
moves_data (named.TRcv fd max) = true
moves_data (named.TRcvV fd sizes) = true
moves_data other = false

abbrev pub sends_datagram : NamedCall → Bool
sends_datagram (named.TSndUData fd addr opt bytes) = true
sends_datagram (named.TSndVUData fd addr opt parts) = true
sends_datagram other = false

-- receives a datagram, or the error of one
abbrev pub receives_datagram : NamedCall → Bool
receives_datagram (named.TRcvUData fd max amax omax) = true
receives_datagram (named.TRcvVUData fd sizes amax omax) = true
receives_datagram (named.TRcvUDErr fd amax omax) = true
receives_datagram other = false
