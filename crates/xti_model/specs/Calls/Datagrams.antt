-- sndudata, rcvudata, their vector forms, and rcvuderr
use Rattle.std.specs.Prelude.{ℕ, ◌==◌, ◌&&◌, ◌||◌, not, nat_lt, Bool, true, false, List, [], ◌∷◌, ◌++◌, length, take, drop, slice_get, option_and_then, Option, Some, None, if◌then◌else◌}
use Rattle.xti_base.specs.declared.reasons.TheConstants.{UNDELIVERABLE}
use Rattle.xti_base.specs.declared.limit.Limit.{Limit}
use Rattle.xti_base.specs.declared.limit.Limit.TheVariants.{At, Infinite, Invalid}
use Rattle.xti_base.specs.declared.kinds.State.TheVariants.{T_IDLE}
use Rattle.xti_base.specs.declared.errno.Errno.TheVariants.{TBADDATA, TFLOW, TNODATA, TNOUDERR}
use Rattle.xti_model.specs.declared.profile.Profile.{Profile}
use Rattle.xti_model.specs.declared.profile.Providers.{Providers}
use Rattle.xti_model.specs.declared.entry.Outcome.TheVariants.{Done}
use Rattle.xti_model.specs.declared.entry.Reply.{Reply}
use Rattle.xti_model.specs.declared.entry.Reply.TheVariants.{Plain, UData, UDErr}
use Rattle.xti_model.specs.Provider.{profile}
use Rattle.xti_model.specs.Endpoint.{Endpoint, Datagram, DatagramError, address_of}
use Rattle.xti_model.specs.World.{World, Change, endpoint, the_switch, at_endpoint}
use Rattle.xti_model.specs.Switch.{bound}
use Rattle.xti_model.specs.Sending.{takes_datagram}
use Rattle.xti_model.specs.Events.{some_wait, looks_datagrams}
use Rattle.xti_model.specs.Arguments.{bad_address, bad_options, is_too_many}
use Rattle.xti_model.specs.Plan.{Row, Plan, Field, refuses, without_datagrams, outside, looks, not_ready, overflows, field, trimmed, plan_of, on_open}

-- more bytes than the limit
abbrev pub is_over : Limit → ℕ → Bool
is_over (At limit) n = nat_lt limit n
is_over Infinite n = false
is_over Invalid n = true

-- bytes that the provider does not send as one datagram
abbrev pub is_bad_datagram : Profile → List ℕ → Bool
is_bad_datagram profile bytes = is_over profile.tsdu (length bytes) || ((length bytes == 0) && not profile.sendzero)

-- the destination for which the sender waits, or none
abbrev pub mark_flow : Option (List ℕ) → Endpoint → Endpoint
mark_flow to e = record e { flow_datagram = to }

-- when a send is refused, in order
abbrev pub send_rows : Providers → List ℕ → List ℕ → ℕ → List ℕ → Option Endpoint → Endpoint → List Row
send_rows p address options parts bytes there e =
    without_datagrams e ∷
    outside (T_IDLE ∷ []) e ∷
    bad_address address ∷
    bad_options options ∷
    refuses (is_too_many parts) TBADDATA ∷
    refuses (is_bad_datagram (profile p e.prov) bytes) TBADDATA ∷
    looks looks_datagrams e ∷
    not_ready (not (takes_datagram there)) TFLOW ∷ []

-- one datagram more waits
abbrev pub with_datagram : Datagram → Endpoint → Endpoint
with_datagram d e = record e { datagrams = e.datagrams ++ d ∷ [] }

-- one error more waits
abbrev pub with_error : DatagramError → Endpoint → Endpoint
with_error d e = record e { datagram_errors = e.datagram_errors ++ d ∷ [] }

-- the sender's flow mark is cleared; where nobody is bound, an error waits at the sender
abbrev pub with_error_unmarked : DatagramError → Endpoint → Endpoint
with_error_unmarked d e = mark_flow None (with_error d e)

-- a datagram waits where the address is bound, and else an error at the sender
abbrev pub deliver : ℕ → Option ℕ → Datagram → DatagramError → List Change
deliver fd None d err = at_endpoint fd (with_error_unmarked err) ∷ []
deliver fd (Some to) d err = at_endpoint to (with_datagram d) ∷ at_endpoint fd (mark_flow None) ∷ []

-- the datagram as its receiver sees it
abbrev pub datagram_from : Endpoint → List ℕ → List ℕ → Datagram
datagram_from e options bytes = record { source = address_of e; options = options; bytes = bytes }

-- the error as its sender sees it
abbrev pub error_to : List ℕ → List ℕ → DatagramError
error_to address options = record { destination = address; options = options; code = UNDELIVERABLE }

-- the receiver gets the datagram, or the sender an error
abbrev pub send_changes : ℕ → List ℕ → List ℕ → List ℕ → Option ℕ → Endpoint → List Change
send_changes fd address options bytes to e = deliver fd to (datagram_from e options bytes) (error_to address options)

-- where it is not ready and does not wait, the sender is marked with the address
abbrev pub send_to : Providers → ℕ → List ℕ → List ℕ → ℕ → List ℕ → Endpoint → Option ℕ → Option Endpoint → Plan
send_to p fd address options parts bytes e to there =
    record (plan_of fd e (send_rows p address options parts bytes there e) (send_changes fd address options bytes to e) (Done Plain)) { marks = at_endpoint fd (mark_flow (Some address)) ∷ [] }

-- to the endpoint that is bound to the address, if there is one
abbrev pub send_from : Providers → World → ℕ → List ℕ → List ℕ → ℕ → List ℕ → Endpoint → Option ℕ → Plan
send_from p w fd address options parts bytes e to = send_to p fd address options parts bytes e to (option_and_then (endpoint p w) to)

-- sndudata, and sndvudata with all parts in one
abbrev pub send_plan : Providers → World → ℕ → List ℕ → List ℕ → ℕ → List ℕ → Plan
send_plan p w fd address options parts bytes = on_open p w fd (λ e. send_from p w fd address options parts bytes e (bound (the_switch p w) e.prov address))

-- nothing is meant where none waits
abbrev pub datagram_or : Option Datagram → Datagram
datagram_or None = record { source = []; options = []; bytes = [] }
datagram_or (Some d) = d

-- the first datagram; where it was begun its source and options are no longer told
abbrev pub first_of : Endpoint → Datagram
first_of e = datagram_or (slice_get e.datagrams 0)

-- the rest of a datagram comes without source and options
abbrev pub told : Endpoint → Datagram
told e = if e.begun then record (first_of e) { source = []; options = [] } else first_of e

-- what the receiver is told beside the bytes, and how much of each it has room for
abbrev pub fields : Datagram → ℕ → ℕ → List Field
fields d amax omax = field d.source amax ∷ field d.options omax ∷ []

-- when a receive is refused, in order
abbrev pub receive_rows : ℕ → ℕ → ℕ → Endpoint → List Row
receive_rows sizes amax omax e =
    without_datagrams e ∷
    outside (T_IDLE ∷ []) e ∷
    refuses (is_too_many sizes) TBADDATA ∷
    looks looks_datagrams e ∷
    not_ready (not (some_wait e.datagrams)) TNODATA ∷
    overflows (fields (told e) amax omax) ∷ []

-- the first datagram is gone
abbrev pub dropped : Endpoint → Endpoint
dropped e = record e { datagrams = drop 1 e.datagrams; begun = false }

-- the datagram has more bytes than are asked for
abbrev pub has_rest : ℕ → Datagram → Bool
has_rest max d = nat_lt max (length d.bytes)

-- the bytes that are left
abbrev pub shortened : ℕ → Datagram → Datagram
shortened max d = record d { bytes = drop max d.bytes }

-- the first datagram goes, or its rest stays first
abbrev pub received : ℕ → Endpoint → Endpoint
received max e = if has_rest max (first_of e) then record e { datagrams = shortened max (first_of e) ∷ drop 1 e.datagrams; begun = true } else dropped e

-- T_MORE where a rest is left
abbrev pub got : Datagram → ℕ → ℕ → ℕ → Reply
got d max amax omax = UData (trimmed d.source amax) (trimmed d.options omax) (take max d.bytes) (if has_rest max d then 1 else 0)

-- where a field is too long the whole datagram is gone
abbrev pub receive_from : ℕ → ℕ → ℕ → ℕ → ℕ → Endpoint → Plan
receive_from fd sizes max amax omax e =
    record (plan_of fd e (receive_rows sizes amax omax e) (at_endpoint fd (received max) ∷ []) (Done (got (told e) max amax omax))) { lost = at_endpoint fd dropped ∷ [] }

-- rcvudata, and rcvvudata with all sizes together
abbrev pub receive_plan : Providers → World → ℕ → ℕ → ℕ → ℕ → ℕ → Plan
receive_plan p w fd sizes max amax omax = on_open p w fd (receive_from fd sizes max amax omax)

-- nothing is meant where none waits
abbrev pub error_or : Option DatagramError → DatagramError
error_or None = record { destination = []; options = []; code = 0 }
error_or (Some d) = d

-- errors are told in their order
abbrev pub first_error : Endpoint → DatagramError
first_error e = error_or (slice_get e.datagram_errors 0)

-- when rcvuderr is refused, in order
abbrev pub error_rows : ℕ → ℕ → Endpoint → List Row
error_rows amax omax e =
    without_datagrams e ∷
    outside (T_IDLE ∷ []) e ∷
    refuses (not (some_wait e.datagram_errors)) TNOUDERR ∷
    overflows (field (first_error e).destination amax ∷ field (first_error e).options omax ∷ []) ∷ []

-- the first error is gone
abbrev pub without_error : Endpoint → Endpoint
without_error e = record e { datagram_errors = drop 1 e.datagram_errors }

-- what the sender is told
abbrev pub error_reply : DatagramError → ℕ → ℕ → Reply
error_reply d amax omax = UDErr (trimmed d.destination amax) (trimmed d.options omax) d.code

-- rcvuderr
abbrev pub error_plan : Providers → World → ℕ → ℕ → ℕ → Plan
error_plan p w fd amax omax = on_open p w fd (λ e. plan_of fd e (error_rows amax omax e) (at_endpoint fd without_error ∷ []) (Done (error_reply (first_error e) amax omax)))
