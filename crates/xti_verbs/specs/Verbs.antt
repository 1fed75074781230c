-- The calls: their words, and what they answer.
use Rattle.std.specs.Prelude.{◌≡◌, ◌==◌, ℕ, Bool, true, false, List, [], ◌∷◌, length, codes, find, Option, Some, None, option_and_then, if◌then◌else◌}
use Rattle.std.specs.Str.{bytes_eq}
use Rattle.xti_base.specs.declared.kinds.Fd.{Fd}
use Rattle.xti_model.specs.Profile.{has_release_data}
use Rattle.xti_model.specs.declared.profile.Version.{Version}
use Rattle.xti_model.specs.declared.call.Call.{Call}
use Rattle.xti_model.specs.declared.call.Call.TheVariants as call
use Rattle.xti_model.specs.declared.script.NamedCall.{NamedCall}
use Rattle.xti_model.specs.declared.script.NamedCall.TheVariants as named
use Rattle.xti_model.specs.declared.entry.Outcome.{Outcome}
use Rattle.xti_model.specs.declared.entry.Outcome.TheVariants.{Done, Part}
use Rattle.xti_model.specs.declared.entry.Reply.TheVariants as reply
use Rattle.xti_verbs.specs.declared.verb.Verb.{Verb}
use Rattle.xti_verbs.specs.declared.verb.Verb.TheVariants.{Open, Close, Bind, Unbind, Connect, RcvConnect, Listen, Accept, Snd, SndV, Rcv, RcvV, SndDis, RcvDis, SndRel, RcvRel, SndRelData, RcvRelData, SndUData, SndVUData, RcvUData, RcvVUData, RcvUDErr, Look, GetState, Sync, GetInfo, GetProtAddr, OptMgmt, SetMode}
use Rattle.xti_verbs.specs.declared.answer.Answer.{Answer}
use Rattle.xti_verbs.specs.declared.answer.Answer.TheVariants as answer

-- a call's word in scripts and journals, and what it answers where it is done
pub record Row : Type 0 where
  pub word : List ℕ
  pub answer : Answer

-- the table of calls
unfoldable pub row_of : Verb → Row
row_of Open = record { word = codes "open"; answer = answer.Opened }
row_of Close = record { word = codes "close"; answer = answer.Plain }
row_of Bind = record { word = codes "bind"; answer = answer.Bound }
row_of Unbind = record { word = codes "unbind"; answer = answer.Plain }
row_of Connect = record { word = codes "connect"; answer = answer.Connected }
row_of RcvConnect = record { word = codes "rcvconnect"; answer = answer.Connected }
row_of Listen = record { word = codes "listen"; answer = answer.Listened }
row_of Accept = record { word = codes "accept"; answer = answer.Plain }
row_of Snd = record { word = codes "snd"; answer = answer.Sent }
row_of SndV = record { word = codes "sndv"; answer = answer.Sent }
row_of Rcv = record { word = codes "rcv"; answer = answer.Got }
row_of RcvV = record { word = codes "rcvv"; answer = answer.Got }
row_of SndDis = record { word = codes "snddis"; answer = answer.Plain }
row_of RcvDis = record { word = codes "rcvdis"; answer = answer.Discon }
row_of SndRel = record { word = codes "sndrel"; answer = answer.Plain }
row_of RcvRel = record { word = codes "rcvrel"; answer = answer.Plain }
row_of SndRelData = record { word = codes "sndreldata"; answer = answer.Plain }
row_of RcvRelData = record { word = codes "rcvreldata"; answer = answer.RelData }
row_of SndUData = record { word = codes "sndudata"; answer = answer.Plain }
row_of SndVUData = record { word = codes "sndvudata"; answer = answer.Plain }
row_of RcvUData = record { word = codes "rcvudata"; answer = answer.UData }
row_of RcvVUData = record { word = codes "rcvvudata"; answer = answer.UData }
row_of RcvUDErr = record { word = codes "rcvuderr"; answer = answer.UDErr }
row_of Look = record { word = codes "look"; answer = answer.Seen }
row_of GetState = record { word = codes "getstate"; answer = answer.Stands }
row_of Sync = record { word = codes "sync"; answer = answer.Stands }
row_of GetInfo = record { word = codes "getinfo"; answer = answer.Limits }
row_of GetProtAddr = record { word = codes "getprotaddr"; answer = answer.Addresses }
row_of OptMgmt = record { word = codes "optmgmt"; answer = answer.Options }
row_of SetMode = record { word = codes "mode"; answer = answer.Plain }

abbrev pub verb_word : Verb → List ℕ
verb_word verb = (row_of verb).word

abbrev pub answer_of : Verb → Answer
answer_of verb = (row_of verb).answer

-- ---- the call that a word is

-- scripts and journals of the version have the call; sndreldata and rcvreldata stand in version 2 alone
abbrev pub is_in_texts : Version → Verb → Bool
is_in_texts version SndRelData = has_release_data version
is_in_texts version RcvRelData = has_release_data version
is_in_texts version other = true

-- the calls whose words have this length
unfoldable pub verbs_of_length : ℕ → List Verb
verbs_of_length n =
    if n == 3 then Snd ∷ Rcv ∷ [] else
    if n == 4 then Open ∷ Bind ∷ SndV ∷ RcvV ∷ Look ∷ Sync ∷ SetMode ∷ [] else
    if n == 5 then Close ∷ [] else
    if n == 6 then Unbind ∷ Listen ∷ Accept ∷ SndDis ∷ RcvDis ∷ SndRel ∷ RcvRel ∷ [] else
    if n == 7 then Connect ∷ GetInfo ∷ OptMgmt ∷ [] else
    if n == 8 then SndUData ∷ RcvUData ∷ RcvUDErr ∷ GetState ∷ [] else
    if n == 9 then SndVUData ∷ RcvVUData ∷ [] else
    if n == 10 then RcvConnect ∷ SndRelData ∷ RcvRelData ∷ [] else
    if n == 11 then GetProtAddr ∷ [] else []

-- the first of these calls that has the word
abbrev pub verb_among : List ℕ → List Verb → Option Verb
verb_among word verbs = find (λ verb. bytes_eq word (verb_word verb)) verbs

-- the call that has the word
unfoldable pub verb_with : List ℕ → Option Verb
verb_with word = verb_among word (verbs_of_length (length word))

-- the call of texts of the version that has the word
abbrev pub verb_in : Version → List ℕ → Option Verb
verb_in version word = option_and_then (λ verb. if is_in_texts version verb then Some verb else None) (verb_with word)

-- ---- the number of a call, by which the library for C asks for it

-- the call with this number; none where no call has it
unfoldable pub verb_at : ℕ → Option Verb
verb_at n =
    if n == 0 then Some Open else
    if n == 1 then Some Close else
    if n == 2 then Some Bind else
    if n == 3 then Some Unbind else
    if n == 4 then Some Connect else
    if n == 5 then Some RcvConnect else
    if n == 6 then Some Listen else
    if n == 7 then Some Accept else
    if n == 8 then Some Snd else
    if n == 9 then Some SndV else
    if n == 10 then Some Rcv else
    if n == 11 then Some RcvV else
    if n == 12 then Some SndDis else
    if n == 13 then Some RcvDis else
    if n == 14 then Some SndRel else
    if n == 15 then Some RcvRel else
    if n == 16 then Some SndUData else
    if n == 17 then Some SndVUData else
    if n == 18 then Some RcvUData else
    if n == 19 then Some RcvVUData else
    if n == 20 then Some RcvUDErr else
    if n == 21 then Some Look else
    if n == 22 then Some GetState else
    if n == 23 then Some Sync else
    if n == 24 then Some GetInfo else
    if n == 25 then Some GetProtAddr else
    if n == 26 then Some OptMgmt else
    if n == 27 then Some SetMode else
    if n == 28 then Some SndRelData else
    if n == 29 then Some RcvRelData else None

-- ---- which call it is

-- which call it is
abbrev pub verb_of : Call → Verb
verb_of (call.TOpen prov nonblock) = Open
verb_of (call.TClose fd) = Close
verb_of (call.TBind fd addr qlen amax) = Bind
verb_of (call.TUnbind fd) = Unbind
verb_of (call.TConnect fd addr opt udata amax omax umax) = Connect
verb_of (call.TRcvConnect fd amax omax umax) = RcvConnect
verb_of (call.TListen fd amax omax umax) = Listen
verb_of (call.TAccept fd resfd seq opt udata) = Accept
verb_of (call.TSnd fd bytes flags) = Snd
verb_of (call.TSndV fd parts flags) = SndV
verb_of (call.TRcv fd max) = Rcv
verb_of (call.TRcvV fd sizes) = RcvV
verb_of (call.TSndDis fd seq udata) = SndDis
verb_of (call.TRcvDis fd umax) = RcvDis
verb_of (call.TSndRel fd) = SndRel
verb_of (call.TRcvRel fd) = RcvRel
verb_of (call.TSndRelData fd udata) = SndRelData
verb_of (call.TRcvRelData fd umax) = RcvRelData
verb_of (call.TSndUData fd addr opt bytes) = SndUData
verb_of (call.TSndVUData fd addr opt parts) = SndVUData
verb_of (call.TRcvUData fd max amax omax) = RcvUData
verb_of (call.TRcvVUData fd sizes amax omax) = RcvVUData
verb_of (call.TRcvUDErr fd amax omax) = RcvUDErr
verb_of (call.TLookAt fd) = Look
verb_of (call.TGetState fd) = GetState
verb_of (call.TSync fd) = Sync
verb_of (call.TGetInfo fd) = GetInfo
verb_of (call.TGetProtAddr fd amax pmax) = GetProtAddr
verb_of (call.TOptMgmt fd action opt omax) = OptMgmt
verb_of (call.SetMode fd nonblock) = SetMode

-- which call of a script it is
abbrev pub verb_of_named : NamedCall → Verb
verb_of_named (named.TOpen name prov nonblock) = Open
verb_of_named (named.TClose fd) = Close
verb_of_named (named.TBind fd addr qlen amax) = Bind
verb_of_named (named.TUnbind fd) = Unbind
verb_of_named (named.TConnect fd addr opt udata amax omax umax) = Connect
verb_of_named (named.TRcvConnect fd amax omax umax) = RcvConnect
verb_of_named (named.TListen fd name amax omax umax) = Listen
verb_of_named (named.TAccept fd resfd seq opt udata) = Accept
verb_of_named (named.TSnd fd bytes flags) = Snd
verb_of_named (named.TSndV fd parts flags) = SndV
verb_of_named (named.TRcv fd max) = Rcv
verb_of_named (named.TRcvV fd sizes) = RcvV
verb_of_named (named.TSndDis fd seq udata) = SndDis
verb_of_named (named.TRcvDis fd umax) = RcvDis
verb_of_named (named.TSndRel fd) = SndRel
verb_of_named (named.TRcvRel fd) = RcvRel
verb_of_named (named.TSndRelData fd udata) = SndRelData
verb_of_named (named.TRcvRelData fd umax) = RcvRelData
verb_of_named (named.TSndUData fd addr opt bytes) = SndUData
verb_of_named (named.TSndVUData fd addr opt parts) = SndVUData
verb_of_named (named.TRcvUData fd max amax omax) = RcvUData
verb_of_named (named.TRcvVUData fd sizes amax omax) = RcvVUData
verb_of_named (named.TRcvUDErr fd amax omax) = RcvUDErr
verb_of_named (named.TLookAt fd) = Look
verb_of_named (named.TGetState fd) = GetState
verb_of_named (named.TSync fd) = Sync
verb_of_named (named.TGetInfo fd) = GetInfo
verb_of_named (named.TGetProtAddr fd amax pmax) = GetProtAddr
verb_of_named (named.TOptMgmt fd action opt omax) = OptMgmt
verb_of_named (named.SetMode fd nonblock) = SetMode

-- ---- calls that say no more than which endpoint

-- says no more than which endpoint
abbrev pub is_plain : Verb → Bool
is_plain Close = true
is_plain Unbind = true
is_plain SndRel = true
is_plain RcvRel = true
is_plain Look = true
is_plain GetState = true
is_plain Sync = true
is_plain GetInfo = true
is_plain other = false

-- this call of the endpoint with the descriptor
abbrev pub plain_call : Verb → Fd → Option Call
plain_call Close fd = Some (call.TClose fd)
plain_call Unbind fd = Some (call.TUnbind fd)
plain_call SndRel fd = Some (call.TSndRel fd)
plain_call RcvRel fd = Some (call.TRcvRel fd)
plain_call Look fd = Some (call.TLookAt fd)
plain_call GetState fd = Some (call.TGetState fd)
plain_call Sync fd = Some (call.TSync fd)
plain_call GetInfo fd = Some (call.TGetInfo fd)
plain_call other fd = None

-- this call of the endpoint with the name
abbrev pub plain_named_call : Verb → List ℕ → Option NamedCall
plain_named_call Close name = Some (named.TClose name)
plain_named_call Unbind name = Some (named.TUnbind name)
plain_named_call SndRel name = Some (named.TSndRel name)
plain_named_call RcvRel name = Some (named.TRcvRel name)
plain_named_call Look name = Some (named.TLookAt name)
plain_named_call GetState name = Some (named.TGetState name)
plain_named_call Sync name = Some (named.TSync name)
plain_named_call GetInfo name = Some (named.TGetInfo name)
plain_named_call other name = None

-- the name in such a call
abbrev pub plain_name : NamedCall → Option (List ℕ)
plain_name (named.TClose name) = Some name
plain_name (named.TUnbind name) = Some name
plain_name (named.TSndRel name) = Some name
plain_name (named.TRcvRel name) = Some name
plain_name (named.TLookAt name) = Some name
plain_name (named.TGetState name) = Some name
plain_name (named.TSync name) = Some name
plain_name (named.TGetInfo name) = Some name
plain_name other = None

-- ---- answers

-- which answer it is
abbrev pub answer_to : Outcome → Answer
answer_to (Part taken) = answer.Part
answer_to (Done reply.Plain) = answer.Plain
answer_to (Done (reply.Opened fd)) = answer.Opened
answer_to (Done (reply.Bound addr qlen)) = answer.Bound
answer_to (Done (reply.Connected addr opt udata)) = answer.Connected
answer_to (Done (reply.Listened seq addr opt udata)) = answer.Listened
answer_to (Done (reply.Sent n)) = answer.Sent
answer_to (Done (reply.Got bytes flags)) = answer.Got
answer_to (Done (reply.Discon reason seq udata)) = answer.Discon
answer_to (Done (reply.RelData udata)) = answer.RelData
answer_to (Done (reply.UData addr opt bytes flags)) = answer.UData
answer_to (Done (reply.UDErr addr opt code)) = answer.UDErr
answer_to (Done (reply.Seen event)) = answer.Seen
answer_to (Done (reply.Stands state)) = answer.Stands
answer_to (Done (reply.Limits info)) = answer.Limits
answer_to (Done (reply.Addresses local peer)) = answer.Addresses
answer_to (Done (reply.Options result opt)) = answer.Options
answer_to (Done (reply.Refused errno)) = answer.Refused
answer_to (Done (reply.Look event)) = answer.Look
answer_to (Done (reply.Overflow seq)) = answer.Overflow

-- a call may answer each error and a part; where it is done, what the table says
abbrev pub MayAnswer : Verb → Answer → Type 0
MayAnswer verb answer.Part = Unit {0}
MayAnswer verb answer.Refused = Unit {0}
MayAnswer verb answer.Look = Unit {0}
MayAnswer verb answer.Overflow = Unit {0}
MayAnswer verb given = given ≡ answer_of verb
