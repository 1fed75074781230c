-- The fields of calls and of answers: their keys and their values.
use Rattle.std.specs.Prelude.{List, [], ◌∷◌, map, option_to_list}
use Rattle.xti_model.specs.declared.call.Call.{Call}
use Rattle.xti_model.specs.declared.call.Call.TheVariants as call
use Rattle.xti_model.specs.Touched.{fd_of}
use Rattle.xti_model.specs.declared.entry.Outcome.{Outcome}
use Rattle.xti_model.specs.declared.entry.Outcome.TheVariants.{Done, Part}
use Rattle.xti_model.specs.declared.entry.Reply.TheVariants as reply
use Rattle.xti_journal.specs.FieldValue.{Value}
use Rattle.xti_journal.specs.FieldValue.Value.{Number, Bytes, Parts, Sizes, Provider, Mode, Limit, Service, State, Event, EventOrNone, Errno}
use Rattle.xti_journal.specs.declared.fields.Key.{Key}
use Rattle.xti_journal.specs.declared.fields.Key.TheVariants as key
use Rattle.xti_verbs.specs.declared.verb.Verb.{Verb}
use Rattle.xti_verbs.specs.declared.verb.Verb.TheVariants.{Open, Bind, Connect, RcvConnect, Listen, Accept, Snd, SndV, Rcv, RcvV, SndDis, RcvDis, SndRelData, RcvRelData, SndUData, SndVUData, RcvUData, RcvVUData, RcvUDErr, GetProtAddr, OptMgmt, SetMode}
use Rattle.xti_verbs.specs.declared.answer.Answer.{Answer}
use Rattle.xti_verbs.specs.declared.answer.Answer.TheVariants as answer

-- the keys of the fields of a call, in their order; those calls that are not named here say no more than which endpoint
unfoldable pub form : Verb → List Key
form Open = key.Provider ∷ key.Mode ∷ []
form Bind = key.Number ∷ key.Addr ∷ key.Qlen ∷ key.Amax ∷ []
form Connect = key.Number ∷ key.Addr ∷ key.Opt ∷ key.UData ∷ key.Amax ∷ key.Omax ∷ key.Umax ∷ []
form RcvConnect = key.Number ∷ key.Amax ∷ key.Omax ∷ key.Umax ∷ []
form Listen = key.Number ∷ key.Amax ∷ key.Omax ∷ key.Umax ∷ []
form Accept = key.Number ∷ key.Number ∷ key.Number ∷ key.Opt ∷ key.UData ∷ []
form Snd = key.Number ∷ key.Data ∷ key.Flags ∷ []
form SndV = key.Number ∷ key.Parts ∷ key.Flags ∷ []
form Rcv = key.Number ∷ key.Max ∷ []
form RcvV = key.Number ∷ key.Sizes ∷ []
form SndDis = key.Number ∷ key.Number ∷ key.UData ∷ []
form RcvDis = key.Number ∷ key.Umax ∷ []
form SndRelData = key.Number ∷ key.UData ∷ []
form RcvRelData = key.Number ∷ key.Umax ∷ []
form SndUData = key.Number ∷ key.Addr ∷ key.Opt ∷ key.Data ∷ []
form SndVUData = key.Number ∷ key.Addr ∷ key.Opt ∷ key.Parts ∷ []
form RcvUData = key.Number ∷ key.Max ∷ key.Amax ∷ key.Omax ∷ []
form RcvVUData = key.Number ∷ key.Sizes ∷ key.Amax ∷ key.Omax ∷ []
form RcvUDErr = key.Number ∷ key.Amax ∷ key.Omax ∷ []
form GetProtAddr = key.Number ∷ key.Amax ∷ key.Pmax ∷ []
form OptMgmt = key.Number ∷ key.Number ∷ key.Opt ∷ key.Omax ∷ []
form SetMode = key.Number ∷ key.Mode ∷ []
form plain = key.Number ∷ []

-- the values of a call's fields
abbrev pub call_values : Call → List Value
call_values (call.TOpen prov nonblock) = Provider prov ∷ Mode nonblock ∷ []
call_values (call.TBind fd addr qlen amax) = Number fd.0 ∷ Bytes addr ∷ Number qlen ∷ Number amax ∷ []
call_values (call.TConnect fd addr opt udata amax omax umax) = Number fd.0 ∷ Bytes addr ∷ Bytes opt ∷ Bytes udata ∷ Number amax ∷ Number omax ∷ Number umax ∷ []
call_values (call.TRcvConnect fd amax omax umax) = Number fd.0 ∷ Number amax ∷ Number omax ∷ Number umax ∷ []
call_values (call.TListen fd amax omax umax) = Number fd.0 ∷ Number amax ∷ Number omax ∷ Number umax ∷ []
call_values (call.TAccept fd resfd seq opt udata) = Number fd.0 ∷ Number resfd.0 ∷ Number seq.0 ∷ Bytes opt ∷ Bytes udata ∷ []
call_values (call.TSnd fd bytes flags) = Number fd.0 ∷ Bytes bytes ∷ Number flags ∷ []
call_values (call.TSndV fd parts flags) = Number fd.0 ∷ Parts parts ∷ Number flags ∷ []
call_values (call.TRcv fd max) = Number fd.0 ∷ Number max ∷ []
call_values (call.TRcvV fd sizes) = Number fd.0 ∷ Sizes sizes ∷ []
call_values (call.TSndDis fd seq udata) = Number fd.0 ∷ Number seq.0 ∷ Bytes udata ∷ []
call_values (call.TRcvDis fd umax) = Number fd.0 ∷ Number umax ∷ []
call_values (call.TSndRelData fd udata) = Number fd.0 ∷ Bytes udata ∷ []
call_values (call.TRcvRelData fd umax) = Number fd.0 ∷ Number umax ∷ []
call_values (call.TSndUData fd addr opt bytes) = Number fd.0 ∷ Bytes addr ∷ Bytes opt ∷ Bytes bytes ∷ []
call_values (call.TSndVUData fd addr opt parts) = Number fd.0 ∷ Bytes addr ∷ Bytes opt ∷ Parts parts ∷ []
call_values (call.TRcvUData fd max amax omax) = Number fd.0 ∷ Number max ∷ Number amax ∷ Number omax ∷ []
call_values (call.TRcvVUData fd sizes amax omax) = Number fd.0 ∷ Sizes sizes ∷ Number amax ∷ Number omax ∷ []
call_values (call.TRcvUDErr fd amax omax) = Number fd.0 ∷ Number amax ∷ Number omax ∷ []
call_values (call.TGetProtAddr fd amax pmax) = Number fd.0 ∷ Number amax ∷ Number pmax ∷ []
call_values (call.TOptMgmt fd action opt omax) = Number fd.0 ∷ Number action ∷ Bytes opt ∷ Number omax ∷ []
call_values (call.SetMode fd nonblock) = Number fd.0 ∷ Mode nonblock ∷ []
call_values plain = map Number (option_to_list (fd_of plain))

-- the keys of the fields of an answer
unfoldable pub answer_form : Answer → List Key
answer_form answer.Plain = []
answer_form answer.Opened = key.Number ∷ []
answer_form answer.Bound = key.Bytes ∷ key.Number ∷ []
answer_form answer.Connected = key.Bytes ∷ key.Bytes ∷ key.Bytes ∷ []
answer_form answer.Listened = key.Number ∷ key.Bytes ∷ key.Bytes ∷ key.Bytes ∷ []
answer_form answer.Sent = key.Number ∷ []
answer_form answer.Got = key.Bytes ∷ key.Number ∷ []
answer_form answer.Discon = key.Number ∷ key.Number ∷ key.Bytes ∷ []
answer_form answer.RelData = key.Bytes ∷ []
answer_form answer.UData = key.Bytes ∷ key.Bytes ∷ key.Bytes ∷ key.Number ∷ []
answer_form answer.UDErr = key.Bytes ∷ key.Bytes ∷ key.Number ∷ []
answer_form answer.Seen = key.EventOrNone ∷ []
answer_form answer.Stands = key.State ∷ []
answer_form answer.Limits = key.Limit ∷ key.Limit ∷ key.Limit ∷ key.Limit ∷ key.Limit ∷ key.Limit ∷ key.Service ∷ key.Number ∷ []
answer_form answer.Addresses = key.Bytes ∷ key.Bytes ∷ []
answer_form answer.Options = key.Number ∷ key.Bytes ∷ []
answer_form answer.Refused = key.Errno ∷ []
answer_form answer.Look = key.Event ∷ []
answer_form answer.Overflow = key.Number ∷ []
answer_form answer.Part = key.Number ∷ []

-- the values of an answer's fields
abbrev pub answer_values : Outcome → List Value
answer_values (Part taken) = Number taken ∷ []
answer_values (Done reply.Plain) = []
answer_values (Done (reply.Opened fd)) = Number fd.0 ∷ []
answer_values (Done (reply.Bound addr qlen)) = Bytes addr ∷ Number qlen ∷ []
answer_values (Done (reply.Connected addr opt udata)) = Bytes addr ∷ Bytes opt ∷ Bytes udata ∷ []
answer_values (Done (reply.Listened seq addr opt udata)) = Number seq.0 ∷ Bytes addr ∷ Bytes opt ∷ Bytes udata ∷ []
answer_values (Done (reply.Sent n)) = Number n ∷ []
answer_values (Done (reply.Got bytes flags)) = Bytes bytes ∷ Number flags ∷ []
answer_values (Done (reply.Discon reason seq udata)) = Number reason ∷ Number seq.0 ∷ Bytes udata ∷ []
answer_values (Done (reply.RelData udata)) = Bytes udata ∷ []
answer_values (Done (reply.UData addr opt bytes flags)) = Bytes addr ∷ Bytes opt ∷ Bytes bytes ∷ Number flags ∷ []
answer_values (Done (reply.UDErr addr opt code)) = Bytes addr ∷ Bytes opt ∷ Number code ∷ []
answer_values (Done (reply.Seen event)) = EventOrNone event ∷ []
answer_values (Done (reply.Stands state)) = State state ∷ []
answer_values (Done (reply.Limits info)) = Limit info.addr ∷ Limit info.options ∷ Limit info.tsdu ∷ Limit info.etsdu ∷ Limit info.connect ∷ Limit info.discon ∷ Service info.servtype ∷ Number info.flags ∷ []
answer_values (Done (reply.Addresses local peer)) = Bytes local ∷ Bytes peer ∷ []
answer_values (Done (reply.Options result opt)) = Number result ∷ Bytes opt ∷ []
answer_values (Done (reply.Refused errno)) = Errno errno ∷ []
answer_values (Done (reply.Look event)) = Event event ∷ []
answer_values (Done (reply.Overflow seq)) = Number seq.0 ∷ []
