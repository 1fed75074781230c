-- What is read is of one entry, and of one stall line.
use Rattle.std.proofs.Common.{◌≡◌, ℕ, Bool, true, false, List, [], ◌∷◌, Option, Some, None, refl, sym, ap, ◌∙◌}
use Rattle.xti_base.specs.declared.kinds.State.{State as StateOf}
use Rattle.xti_model.specs.declared.call.Call.{Call}
use Rattle.xti_model.specs.declared.call.Call.TheVariants as call
use Rattle.xti_model.specs.declared.entry.Act.{Act}
use Rattle.xti_model.specs.declared.entry.Act.TheVariants as act
use Rattle.xti_model.specs.declared.entry.Outcome.{Outcome}
use Rattle.xti_model.specs.declared.entry.Outcome.TheVariants as outcome
use Rattle.xti_model.specs.declared.entry.Reply.TheVariants as reply
use Rattle.xti_model.specs.declared.entry.Entry.{Entry}
use Rattle.xti_model.specs.declared.profile.Profile.{Profile}
use Rattle.xti_model.specs.declared.script.StallLine.{StallLine}
use Rattle.xti_journal.specs.FieldValue.{Value}
use Rattle.xti_journal.specs.FieldValue.Value.{Number, Bytes, Parts, Sizes, Truth, Provider, Mode, Limit, Service, State, Event, EventOrNone, Errno}
use Rattle.xti_verbs.specs.declared.verb.Verb.{Verb}
use Rattle.xti_verbs.specs.declared.verb.Verb.TheVariants.{Open, Close, Bind, Unbind, Connect, RcvConnect, Listen, Accept, Snd, SndV, Rcv, RcvV, SndDis, RcvDis, SndRel, RcvRel, SndRelData, RcvRelData, SndUData, SndVUData, RcvUData, RcvVUData, RcvUDErr, Look, GetState, Sync, GetInfo, GetProtAddr, OptMgmt, SetMode}
use Rattle.xti_verbs.specs.declared.answer.Answer.{Answer}
use Rattle.xti_verbs.specs.declared.answer.Answer.TheVariants as answer
use Rattle.xti_verbs.specs.Verbs.{verb_of, answer_to}
use Rattle.xti_journal.specs.Calls.{call_values, answer_values}
use Rattle.xti_journal.specs.Reading.{ActRead, Begins, Goes, act_read, AnswerRead, outcome_read, StepRead, EntryRead, entry_read, stall_read, profile_values}

-- the call that the values make
abbrev call_with : Verb → List Value → Option Call
call_with Open (Provider prov ∷ Mode nonblock ∷ []) = Some (call.TOpen prov nonblock)
call_with Close (Number fd ∷ []) = Some (call.TClose (record { 0 = fd }))
call_with Bind (Number fd ∷ Bytes addr ∷ Number qlen ∷ Number amax ∷ []) = Some (call.TBind (record { 0 = fd }) addr qlen amax)
call_with Unbind (Number fd ∷ []) = Some (call.TUnbind (record { 0 = fd }))
call_with Connect (Number fd ∷ Bytes addr ∷ Bytes opt ∷ Bytes udata ∷ Number amax ∷ Number omax ∷ Number umax ∷ []) = Some (call.TConnect (record { 0 = fd }) addr opt udata amax omax umax)
call_with RcvConnect (Number fd ∷ Number amax ∷ Number omax ∷ Number umax ∷ []) = Some (call.TRcvConnect (record { 0 = fd }) amax omax umax)
call_with Listen (Number fd ∷ Number amax ∷ Number omax ∷ Number umax ∷ []) = Some (call.TListen (record { 0 = fd }) amax omax umax)
call_with Accept (Number fd ∷ Number resfd ∷ Number seq ∷ Bytes opt ∷ Bytes udata ∷ []) = Some (call.TAccept (record { 0 = fd }) (record { 0 = resfd }) (record { 0 = seq }) opt udata)
call_with Snd (Number fd ∷ Bytes bytes ∷ Number flags ∷ []) = Some (call.TSnd (record { 0 = fd }) bytes flags)
call_with SndV (Number fd ∷ Parts parts ∷ Number flags ∷ []) = Some (call.TSndV (record { 0 = fd }) parts flags)
call_with Rcv (Number fd ∷ Number max ∷ []) = Some (call.TRcv (record { 0 = fd }) max)
call_with RcvV (Number fd ∷ Sizes sizes ∷ []) = Some (call.TRcvV (record { 0 = fd }) sizes)
call_with SndDis (Number fd ∷ Number seq ∷ Bytes udata ∷ []) = Some (call.TSndDis (record { 0 = fd }) (record { 0 = seq }) udata)
call_with RcvDis (Number fd ∷ Number umax ∷ []) = Some (call.TRcvDis (record { 0 = fd }) umax)
call_with SndRel (Number fd ∷ []) = Some (call.TSndRel (record { 0 = fd }))
call_with RcvRel (Number fd ∷ []) = Some (call.TRcvRel (record { 0 = fd }))
call_with SndRelData (Number fd ∷ Bytes udata ∷ []) = Some (call.TSndRelData (record { 0 = fd }) udata)
call_with RcvRelData (Number fd ∷ Number umax ∷ []) = Some (call.TRcvRelData (record { 0 = fd }) umax)
call_with SndUData (Number fd ∷ Bytes addr ∷ Bytes opt ∷ Bytes bytes ∷ []) = Some (call.TSndUData (record { 0 = fd }) addr opt bytes)
call_with SndVUData (Number fd ∷ Bytes addr ∷ Bytes opt ∷ Parts parts ∷ []) = Some (call.TSndVUData (record { 0 = fd }) addr opt parts)
call_with RcvUData (Number fd ∷ Number max ∷ Number amax ∷ Number omax ∷ []) = Some (call.TRcvUData (record { 0 = fd }) max amax omax)
call_with RcvVUData (Number fd ∷ Sizes sizes ∷ Number amax ∷ Number omax ∷ []) = Some (call.TRcvVUData (record { 0 = fd }) sizes amax omax)
call_with RcvUDErr (Number fd ∷ Number amax ∷ Number omax ∷ []) = Some (call.TRcvUDErr (record { 0 = fd }) amax omax)
call_with Look (Number fd ∷ []) = Some (call.TLookAt (record { 0 = fd }))
call_with GetState (Number fd ∷ []) = Some (call.TGetState (record { 0 = fd }))
call_with Sync (Number fd ∷ []) = Some (call.TSync (record { 0 = fd }))
call_with GetInfo (Number fd ∷ []) = Some (call.TGetInfo (record { 0 = fd }))
call_with GetProtAddr (Number fd ∷ Number amax ∷ Number pmax ∷ []) = Some (call.TGetProtAddr (record { 0 = fd }) amax pmax)
call_with OptMgmt (Number fd ∷ Number action ∷ Bytes opt ∷ Number omax ∷ []) = Some (call.TOptMgmt (record { 0 = fd }) action opt omax)
call_with SetMode (Number fd ∷ Mode nonblock ∷ []) = Some (call.SetMode (record { 0 = fd }) nonblock)
call_with verb values = None

call_back : (c : Call) → call_with (verb_of c) (call_values c) ≡ Some c
call_back (call.TOpen prov nonblock) = refl
call_back (call.TClose fd) = refl
call_back (call.TBind fd addr qlen amax) = refl
call_back (call.TUnbind fd) = refl
call_back (call.TConnect fd addr opt udata amax omax umax) = refl
call_back (call.TRcvConnect fd amax omax umax) = refl
call_back (call.TListen fd amax omax umax) = refl
call_back (call.TAccept fd resfd seq opt udata) = refl
call_back (call.TSnd fd bytes flags) = refl
call_back (call.TSndV fd parts flags) = refl
call_back (call.TRcv fd max) = refl
call_back (call.TRcvV fd sizes) = refl
call_back (call.TSndDis fd seq udata) = refl
call_back (call.TRcvDis fd umax) = refl
call_back (call.TSndRel fd) = refl
call_back (call.TRcvRel fd) = refl
call_back (call.TSndRelData fd udata) = refl
call_back (call.TRcvRelData fd umax) = refl
call_back (call.TSndUData fd addr opt bytes) = refl
call_back (call.TSndVUData fd addr opt parts) = refl
call_back (call.TRcvUData fd max amax omax) = refl
call_back (call.TRcvVUData fd sizes amax omax) = refl
call_back (call.TRcvUDErr fd amax omax) = refl
call_back (call.TLookAt fd) = refl
call_back (call.TGetState fd) = refl
call_back (call.TSync fd) = refl
call_back (call.TGetInfo fd) = refl
call_back (call.TGetProtAddr fd amax pmax) = refl
call_back (call.TOptMgmt fd action opt omax) = refl
call_back (call.SetMode fd nonblock) = refl

-- the outcome that the values make
abbrev outcome_with : Answer → List Value → Option Outcome
outcome_with answer.Part (Number taken ∷ []) = Some (outcome.Part taken)
outcome_with answer.Plain [] = Some (outcome.Done reply.Plain)
outcome_with answer.Opened (Number fd ∷ []) = Some (outcome.Done (reply.Opened (record { 0 = fd })))
outcome_with answer.Bound (Bytes addr ∷ Number qlen ∷ []) = Some (outcome.Done (reply.Bound addr qlen))
outcome_with answer.Connected (Bytes addr ∷ Bytes opt ∷ Bytes udata ∷ []) = Some (outcome.Done (reply.Connected addr opt udata))
outcome_with answer.Listened (Number seq ∷ Bytes addr ∷ Bytes opt ∷ Bytes udata ∷ []) = Some (outcome.Done (reply.Listened (record { 0 = seq }) addr opt udata))
outcome_with answer.Sent (Number n ∷ []) = Some (outcome.Done (reply.Sent n))
outcome_with answer.Got (Bytes bytes ∷ Number flags ∷ []) = Some (outcome.Done (reply.Got bytes flags))
outcome_with answer.Discon (Number reason ∷ Number seq ∷ Bytes udata ∷ []) = Some (outcome.Done (reply.Discon reason (record { 0 = seq }) udata))
outcome_with answer.RelData (Bytes udata ∷ []) = Some (outcome.Done (reply.RelData udata))
outcome_with answer.UData (Bytes addr ∷ Bytes opt ∷ Bytes bytes ∷ Number flags ∷ []) = Some (outcome.Done (reply.UData addr opt bytes flags))
outcome_with answer.UDErr (Bytes addr ∷ Bytes opt ∷ Number code ∷ []) = Some (outcome.Done (reply.UDErr addr opt code))
outcome_with answer.Seen (EventOrNone event ∷ []) = Some (outcome.Done (reply.Seen event))
outcome_with answer.Stands (State state ∷ []) = Some (outcome.Done (reply.Stands state))
outcome_with answer.Limits (Limit addr ∷ Limit options ∷ Limit tsdu ∷ Limit etsdu ∷ Limit connect ∷ Limit discon ∷ Service servtype ∷ Number flags ∷ []) = Some (outcome.Done (reply.Limits (record { addr = addr; options = options; tsdu = tsdu; etsdu = etsdu; connect = connect; discon = discon; servtype = servtype; flags = flags })))
outcome_with answer.Addresses (Bytes local ∷ Bytes peer ∷ []) = Some (outcome.Done (reply.Addresses local peer))
outcome_with answer.Options (Number result ∷ Bytes opt ∷ []) = Some (outcome.Done (reply.Options result opt))
outcome_with answer.Refused (Errno errno ∷ []) = Some (outcome.Done (reply.Refused errno))
outcome_with answer.Look (Event event ∷ []) = Some (outcome.Done (reply.Look event))
outcome_with answer.Overflow (Number seq ∷ []) = Some (outcome.Done (reply.Overflow (record { 0 = seq })))
outcome_with given values = None

outcome_back : (o : Outcome) → outcome_with (answer_to o) (answer_values o) ≡ Some o
outcome_back (outcome.Part taken) = refl
outcome_back (outcome.Done reply.Plain) = refl
outcome_back (outcome.Done (reply.Opened fd)) = refl
outcome_back (outcome.Done (reply.Bound addr qlen)) = refl
outcome_back (outcome.Done (reply.Connected addr opt udata)) = refl
outcome_back (outcome.Done (reply.Listened seq addr opt udata)) = refl
outcome_back (outcome.Done (reply.Sent n)) = refl
outcome_back (outcome.Done (reply.Got bytes flags)) = refl
outcome_back (outcome.Done (reply.Discon reason seq udata)) = refl
outcome_back (outcome.Done (reply.RelData udata)) = refl
outcome_back (outcome.Done (reply.UData addr opt bytes flags)) = refl
outcome_back (outcome.Done (reply.UDErr addr opt code)) = refl
outcome_back (outcome.Done (reply.Seen event)) = refl
outcome_back (outcome.Done (reply.Stands state)) = refl
outcome_back (outcome.Done (reply.Limits info)) = refl
outcome_back (outcome.Done (reply.Addresses local peer)) = refl
outcome_back (outcome.Done (reply.Options result opt)) = refl
outcome_back (outcome.Done (reply.Refused errno)) = refl
outcome_back (outcome.Done (reply.Look event)) = refl
outcome_back (outcome.Done (reply.Overflow seq)) = refl

abbrev begin : Option Call → Option Act
begin None = None
begin (Some c) = Some (act.Begin c)

abbrev act_with : ActRead → Option Act
act_with (Begins verb values) = begin (call_with verb values)
act_with Goes = Some act.More

act_back : (a : Act) → act_with (act_read a) ≡ Some a
act_back (act.Begin c) = ap begin (call_back c)
act_back act.More = refl

some_is : {A : Type 0} (a b : A) → Some a ≡ Some b → a ≡ b
some_is a b e = cc

one_act : (a b : Act) → act_read a ≡ act_read b → a ≡ b
one_act a b e = some_is a b (sym (act_back a) ∙ ap act_with e ∙ act_back b)

one_outcome : (o p : Outcome) → outcome_read o ≡ outcome_read p → o ≡ p
one_outcome o p e = some_is o p (sym (outcome_back o) ∙ ap (λ (r : AnswerRead). outcome_with r.answer r.values) e ∙ outcome_back p)

pub one_entry : (e f : Entry) → entry_read e ≡ entry_read f → e ≡ f
one_entry e f h =
    let w : e.worker ≡ f.worker = ap (λ (r : EntryRead). r.step.worker) h in
    let a : e.act ≡ f.act = one_act e.act f.act (ap (λ (r : EntryRead). r.step.act) h) in
    let o : e.outcome ≡ f.outcome = one_outcome e.outcome f.outcome (ap (λ (r : EntryRead). r.answer) h) in
    let s : e.after ≡ f.after = ap (λ (r : EntryRead). r.after) h in
    ap (λ (x : ℕ). record { worker = x; act = e.act; outcome = e.outcome; after = e.after }) w
    ∙ ap (λ (x : Act). record { worker = f.worker; act = x; outcome = e.outcome; after = e.after }) a
    ∙ ap (λ (x : Outcome). record { worker = f.worker; act = f.act; outcome = x; after = e.after }) o
    ∙ ap (λ (x : StateOf). record { worker = f.worker; act = f.act; outcome = f.outcome; after = x }) s

pub one_stall : (s t : StallLine) → stall_read s ≡ stall_read t → s ≡ t
one_stall s t h =
    let w : s.worker ≡ t.worker = ap (λ (r : StepRead). r.worker) h in
    let a : s.act ≡ t.act = one_act s.act t.act (ap (λ (r : StepRead). r.act) h) in
    ap (λ (x : ℕ). record { worker = x; act = s.act }) w ∙ ap (λ (x : Act). record { worker = t.worker; act = x }) a

-- the profile of the values, with this where they don't tell whether data may go with a release
abbrev profile_with : Bool → List Value → Option Profile
profile_with r (Limit tsdu ∷ Truth sendzero ∷ Truth same_addr ∷ Number sndbuf ∷ Number rcvbuf ∷ []) = Some (record { tsdu = tsdu; sendzero = sendzero; same_addr = same_addr; sndbuf = sndbuf; rcvbuf = rcvbuf; reldata = r })
profile_with r (Limit tsdu ∷ Truth sendzero ∷ Truth same_addr ∷ Number sndbuf ∷ Number rcvbuf ∷ Truth reldata ∷ []) = Some (record { tsdu = tsdu; sendzero = sendzero; same_addr = same_addr; sndbuf = sndbuf; rcvbuf = rcvbuf; reldata = reldata })
profile_with r values = None

pub one_profile : (told : Bool) (p q : Profile) → (told ≡ false → p.reldata ≡ q.reldata) → profile_values told p ≡ profile_values told q → p ≡ q
one_profile true p q r h = some_is p q (ap (profile_with true) h)
one_profile false p q r h = some_is p q (ap (λ (d : Bool). profile_with d (profile_values false p)) (r refl) ∙ ap (profile_with q.reldata) h)
