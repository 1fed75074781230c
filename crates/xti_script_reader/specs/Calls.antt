-- The fields of calls, and the calls that these make.
use Rattle.std.specs.Prelude.{List, [], ◌∷◌, Option, Some, None}
use Rattle.xti_model.specs.declared.script.NamedCall.{NamedCall}
use Rattle.xti_model.specs.declared.script.NamedCall.TheVariants as call
use Rattle.xti_script_reader.specs.FieldValue.{Value}
use Rattle.xti_script_reader.specs.FieldValue.Value.{Bytes, Number, Parts, Sizes, Name, NameOrNone, Provider, Mode}
use Rattle.xti_script_reader.specs.declared.fields.Key.{Key}
use Rattle.xti_script_reader.specs.declared.fields.Key.TheVariants as key
use Rattle.xti_verbs.specs.declared.verb.Verb.{Verb}
use Rattle.xti_verbs.specs.declared.verb.Verb.TheVariants.{Open, Bind, Connect, RcvConnect, Listen, Accept, Snd, SndV, Rcv, RcvV, SndDis, RcvDis, SndRelData, RcvRelData, SndUData, SndVUData, RcvUData, RcvVUData, RcvUDErr, GetProtAddr, OptMgmt, SetMode}
use Rattle.xti_verbs.specs.Verbs.{plain_named_call}

-- the keys of the fields of a call, in their order; those calls that are not named here say no more than which endpoint
unfoldable pub form : Verb → List Key
form Open = key.NewEndpoint ∷ key.Provider ∷ key.ModeOrBlock ∷ []
form Bind = key.Endpoint ∷ key.Addr ∷ key.Qlen ∷ key.Amax ∷ []
form Connect = key.Endpoint ∷ key.Addr ∷ key.Opt ∷ key.UData ∷ key.Amax ∷ key.Omax ∷ key.Umax ∷ []
form RcvConnect = key.Endpoint ∷ key.Amax ∷ key.Omax ∷ key.Umax ∷ []
form Listen = key.Endpoint ∷ key.NewSequence ∷ key.Amax ∷ key.Omax ∷ key.Umax ∷ []
form Accept = key.Endpoint ∷ key.Endpoint ∷ key.Sequence ∷ key.Opt ∷ key.UData ∷ []
form Snd = key.Endpoint ∷ key.Data ∷ key.Flags ∷ []
form SndV = key.Endpoint ∷ key.Parts ∷ key.Flags ∷ []
form Rcv = key.Endpoint ∷ key.Max ∷ []
form RcvV = key.Endpoint ∷ key.Sizes ∷ []
form SndDis = key.Endpoint ∷ key.SequenceOrNone ∷ key.UData ∷ []
form RcvDis = key.Endpoint ∷ key.Umax ∷ []
form SndRelData = key.Endpoint ∷ key.UData ∷ []
form RcvRelData = key.Endpoint ∷ key.Umax ∷ []
form SndUData = key.Endpoint ∷ key.Addr ∷ key.Opt ∷ key.Data ∷ []
form SndVUData = key.Endpoint ∷ key.Addr ∷ key.Opt ∷ key.Parts ∷ []
form RcvUData = key.Endpoint ∷ key.Max ∷ key.Amax ∷ key.Omax ∷ []
form RcvVUData = key.Endpoint ∷ key.Sizes ∷ key.Amax ∷ key.Omax ∷ []
form RcvUDErr = key.Endpoint ∷ key.Amax ∷ key.Omax ∷ []
form GetProtAddr = key.Endpoint ∷ key.Amax ∷ key.Pmax ∷ []
form OptMgmt = key.Endpoint ∷ key.Action ∷ key.Opt ∷ key.Omax ∷ []
form SetMode = key.Endpoint ∷ key.Mode ∷ []
form plain = key.Endpoint ∷ []

-- the call with the values of its fields
unfoldable pub call_with : Verb → List Value → Option NamedCall
call_with Open (Name name ∷ Provider prov ∷ Mode nonblock ∷ []) = Some (call.TOpen name prov nonblock)
call_with Bind (Name fd ∷ Bytes addr ∷ Number qlen ∷ Number amax ∷ []) = Some (call.TBind fd addr qlen amax)
call_with Connect (Name fd ∷ Bytes addr ∷ Bytes opt ∷ Bytes udata ∷ Number amax ∷ Number omax ∷ Number umax ∷ []) = Some (call.TConnect fd addr opt udata amax omax umax)
call_with RcvConnect (Name fd ∷ Number amax ∷ Number omax ∷ Number umax ∷ []) = Some (call.TRcvConnect fd amax omax umax)
call_with Listen (Name fd ∷ Name name ∷ Number amax ∷ Number omax ∷ Number umax ∷ []) = Some (call.TListen fd name amax omax umax)
call_with Accept (Name fd ∷ Name resfd ∷ Name seq ∷ Bytes opt ∷ Bytes udata ∷ []) = Some (call.TAccept fd resfd seq opt udata)
call_with Snd (Name fd ∷ Bytes bytes ∷ Number flags ∷ []) = Some (call.TSnd fd bytes flags)
call_with SndV (Name fd ∷ Parts parts ∷ Number flags ∷ []) = Some (call.TSndV fd parts flags)
call_with Rcv (Name fd ∷ Number max ∷ []) = Some (call.TRcv fd max)
call_with RcvV (Name fd ∷ Sizes sizes ∷ []) = Some (call.TRcvV fd sizes)
call_with SndDis (Name fd ∷ NameOrNone seq ∷ Bytes udata ∷ []) = Some (call.TSndDis fd seq udata)
call_with RcvDis (Name fd ∷ Number umax ∷ []) = Some (call.TRcvDis fd umax)
call_with SndRelData (Name fd ∷ Bytes udata ∷ []) = Some (call.TSndRelData fd udata)
call_with RcvRelData (Name fd ∷ Number umax ∷ []) = Some (call.TRcvRelData fd umax)
call_with SndUData (Name fd ∷ Bytes addr ∷ Bytes opt ∷ Bytes bytes ∷ []) = Some (call.TSndUData fd addr opt bytes)
call_with SndVUData (Name fd ∷ Bytes addr ∷ Bytes opt ∷ Parts parts ∷ []) = Some (call.TSndVUData fd addr opt parts)
call_with RcvUData (Name fd ∷ Number max ∷ Number amax ∷ Number omax ∷ []) = Some (call.TRcvUData fd max amax omax)
call_with RcvVUData (Name fd ∷ Sizes sizes ∷ Number amax ∷ Number omax ∷ []) = Some (call.TRcvVUData fd sizes amax omax)
call_with RcvUDErr (Name fd ∷ Number amax ∷ Number omax ∷ []) = Some (call.TRcvUDErr fd amax omax)
call_with GetProtAddr (Name fd ∷ Number amax ∷ Number pmax ∷ []) = Some (call.TGetProtAddr fd amax pmax)
call_with OptMgmt (Name fd ∷ Number action ∷ Bytes opt ∷ Number omax ∷ []) = Some (call.TOptMgmt fd action opt omax)
call_with SetMode (Name fd ∷ Mode nonblock ∷ []) = Some (call.SetMode fd nonblock)
call_with plain (Name fd ∷ []) = plain_named_call plain fd
call_with verb values = None
