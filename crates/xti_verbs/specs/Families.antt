-- Families of calls and of answers; Verbs.antt has those calls that say no more than which endpoint.
use Rattle.std.specs.Prelude.{Bool, true, false}
use Rattle.xti_verbs.specs.declared.verb.Verb.{Verb}
use Rattle.xti_verbs.specs.declared.verb.Verb.TheVariants.{Open, Bind, Connect, RcvConnect, Listen, Accept, Snd, SndV, Rcv, RcvV, SndDis, RcvDis, SndRelData, RcvRelData, SndUData, SndVUData, RcvUData, RcvVUData, RcvUDErr, GetProtAddr, OptMgmt, SetMode}
use Rattle.xti_verbs.specs.declared.answer.Answer.{Answer}
use Rattle.xti_verbs.specs.declared.answer.Answer.TheVariants as answer

-- opens an endpoint, or sets or asks what belongs to it
abbrev pub is_local : Verb → Bool
is_local Open = true
is_local Bind = true
is_local SetMode = true
is_local GetProtAddr = true
is_local OptMgmt = true
is_local other = false

-- makes a connection, breaks it or sends data with its release
abbrev pub is_connecting : Verb → Bool
is_connecting Connect = true
is_connecting RcvConnect = true
is_connecting Listen = true
is_connecting Accept = true
is_connecting SndDis = true
is_connecting RcvDis = true
is_connecting SndRelData = true
is_connecting RcvRelData = true
is_connecting other = false

-- sends or receives on a connection
abbrev pub is_data : Verb → Bool
is_data Snd = true
is_data SndV = true
is_data Rcv = true
is_data RcvV = true
is_data other = false

-- sends or receives a datagram, or the error of one
abbrev pub is_datagram : Verb → Bool
is_datagram SndUData = true
is_datagram SndVUData = true
is_datagram RcvUData = true
is_datagram RcvVUData = true
is_datagram RcvUDErr = true
is_datagram other = false

-- tells of an endpoint, or of a provider
abbrev pub is_report : Answer → Bool
is_report answer.Opened = true
is_report answer.Bound = true
is_report answer.Seen = true
is_report answer.Stands = true
is_report answer.Limits = true
is_report answer.Addresses = true
is_report answer.Options = true
is_report other = false

-- an error
abbrev pub is_error : Answer → Bool
is_error answer.Refused = true
is_error answer.Look = true
is_error answer.Overflow = true
is_error other = false

-- tells of a connection, of data or of a datagram
abbrev pub is_news : Answer → Bool
is_news answer.Connected = true
is_news answer.Listened = true
is_news answer.Sent = true
is_news answer.Got = true
is_news answer.Discon = true
is_news answer.RelData = true
is_news answer.UData = true
is_news answer.UDErr = true
is_news other = false
