-- The words of a call and of an answer, joined by spaces, are what is written of them.
use Rattle.std.proofs.Common.{◌≡◌, ℕ, true, ltb, List, [], ◌∷◌, ◌++◌, map, Some, None, refl, ap, ◌∙◌, append_assoc}
use Rattle.std.specs.Prelude.{codes, decimal, All}
use Rattle.std.specs.List.{join_with_byte, flat_map, list_all}
use Rattle.std.proofs.lemmas.List.{append-nil}
use Rattle.std.proofs.lemmas.List.Elements.{All-nil, All-cons}
use Rattle.xti_base.specs.Kinds.{service_number}
use Rattle.xti_words.specs.WrittenWords.{octets_word, number_word}
use Rattle.xti_model.specs.declared.call.Call.{Call}
use Rattle.xti_model.specs.declared.call.Call.TheVariants as call
use Rattle.xti_model.specs.declared.entry.Outcome.{Outcome}
use Rattle.xti_model.specs.declared.entry.Outcome.TheVariants.{Done, Part}
use Rattle.xti_model.specs.declared.entry.Reply.TheVariants as reply
use Rattle.xti_journal_text.specs.JournalText.{call_text, outcome_text, parts_word, sizes_word, limit_word, most_words}
use Rattle.xti_verbs.specs.declared.verb.Verb.{Verb}
use Rattle.xti_verbs.specs.declared.verb.Verb.TheVariants.{Open, Close, Bind, Unbind, Connect, RcvConnect, Listen, Accept, Snd, SndV, Rcv, RcvV, SndDis, RcvDis, SndRel, RcvRel, SndRelData, RcvRelData, SndUData, SndVUData, RcvUData, RcvVUData, RcvUDErr, Look, GetState, Sync, GetInfo, GetProtAddr, OptMgmt, SetMode}
use Rattle.xti_verbs.specs.declared.answer.Answer.{Answer}
use Rattle.xti_verbs.specs.declared.answer.Answer.TheVariants as answer
use Rattle.xti_journal.specs.Fields.{field}
use Rattle.xti_verbs.specs.Verbs.{row_of, verb_word, verb_of, answer_to}
use Rattle.xti_journal.specs.Calls.{form, call_values, answer_form, answer_values}
use Rattle.xti_journal.proofs.NumberLaws.{Above}
use Rattle.xti_journal.proofs.ValueLaws.{known, octets_text, members_text}
use Rattle.xti_journal.proofs.FieldLaws.{texts}

abbrev pub call_words : Call → List (List ℕ)
call_words c = verb_word (verb_of c) ∷ texts (form (verb_of c)) (call_values c)

-- the words of an answer before its fields
abbrev pub answer_words : Answer → List (List ℕ)
answer_words answer.Part = codes "part" ∷ []
answer_words answer.Refused = codes "err" ∷ []
answer_words answer.Look = codes "err" ∷ codes "TLOOK" ∷ []
answer_words answer.Overflow = codes "err" ∷ codes "TBUFOVFLW" ∷ []
answer_words other = codes "ok" ∷ []

abbrev pub outcome_words : Outcome → List (List ℕ)
outcome_words o = answer_words (answer_to o) ++ texts (answer_form (answer_to o)) (answer_values o)

-- ---- words one after the other

pub n3 : (a b c : List ℕ) → a ++ b ++ c ≡ a ++ (b ++ c)
n3 a b c = append_assoc a b c

pub n4 : (a b c d : List ℕ) → a ++ b ++ c ++ d ≡ a ++ (b ++ (c ++ d))
n4 a b c d = n3 (a ++ b) c d ∙ append_assoc a b (c ++ d)

pub n5 : (a b c d e : List ℕ) → a ++ b ++ c ++ d ++ e ≡ a ++ (b ++ (c ++ (d ++ e)))
n5 a b c d e = n4 (a ++ b) c d e ∙ append_assoc a b (c ++ (d ++ e))

pub n6 : (a b c d e f : List ℕ) → a ++ b ++ c ++ d ++ e ++ f ≡ a ++ (b ++ (c ++ (d ++ (e ++ f))))
n6 a b c d e f = n5 (a ++ b) c d e f ∙ append_assoc a b (c ++ (d ++ (e ++ f)))

pub n7 : (a b c d e f g : List ℕ) → a ++ b ++ c ++ d ++ e ++ f ++ g ≡ a ++ (b ++ (c ++ (d ++ (e ++ (f ++ g)))))
n7 a b c d e f g = n6 (a ++ b) c d e f g ∙ append_assoc a b (c ++ (d ++ (e ++ (f ++ g))))

pub n8 : (a b c d e f g h : List ℕ) → a ++ b ++ c ++ d ++ e ++ f ++ g ++ h ≡ a ++ (b ++ (c ++ (d ++ (e ++ (f ++ (g ++ h))))))
n8 a b c d e f g h = n7 (a ++ b) c d e f g h ∙ append_assoc a b (c ++ (d ++ (e ++ (f ++ (g ++ h)))))

-- ---- several values

joined : {A : Type 0} (text : A → List ℕ) (x : A) (xs : List A) → text x ++ flat_map (λ y. 44 ∷ text y) xs ≡ join_with_byte 44 (map text (x ∷ xs))
joined text x [] = append-nil (text x)
joined text x (y ∷ ys) = ap (λ (l : List ℕ). text x ++ 44 ∷ l) (joined text y ys)

parts_are : (parts : List (List ℕ)) → parts_word [] parts ≡ members_text octets_text parts
parts_are [] = refl
parts_are (p ∷ ps) = joined octets_text p ps

sizes_are : (sizes : List ℕ) → sizes_word [] sizes ≡ members_text decimal sizes
sizes_are [] = refl
sizes_are (n ∷ ns) = joined decimal n ns

behind_parts : (key : List ℕ) (parts : List (List ℕ)) → parts_word key parts ≡ key ++ parts_word [] parts
behind_parts key [] = refl
behind_parts key (p ∷ ps) = simp append_assoc refl

behind_sizes : (key : List ℕ) (sizes : List ℕ) → sizes_word key sizes ≡ key ++ sizes_word [] sizes
behind_sizes key [] = refl
behind_sizes key (n ∷ ns) = simp append_assoc refl

-- ---- calls

pub call_is : (c : Call) → call_text c ≡ join_with_byte 32 (call_words c)
unfolding form row_of field
call_is (call.TOpen prov nonblock) = refl
call_is (call.TClose fd) = refl
call_is (call.TBind fd addr qlen amax) = n4 (number_word (codes "bind ") fd.0) (octets_word (codes " addr=") addr) (number_word (codes " qlen=") qlen) (number_word (codes " amax=") amax)
call_is (call.TUnbind fd) = refl
call_is (call.TConnect fd addr opt udata amax omax umax) = n5 (number_word (codes "connect ") fd.0) (octets_word (codes " addr=") addr) (octets_word (codes " opt=") opt) (octets_word (codes " udata=") udata) (most_words amax omax umax) ∙ ap (λ (l : List ℕ). number_word (codes "connect ") fd.0 ++ (octets_word (codes " addr=") addr ++ (octets_word (codes " opt=") opt ++ (octets_word (codes " udata=") udata ++ l)))) (n3 (number_word (codes " amax=") amax) (number_word (codes " omax=") omax) (number_word (codes " umax=") umax))
call_is (call.TRcvConnect fd amax omax umax) = ap (λ (l : List ℕ). number_word (codes "rcvconnect ") fd.0 ++ l) (n3 (number_word (codes " amax=") amax) (number_word (codes " omax=") omax) (number_word (codes " umax=") umax))
call_is (call.TListen fd amax omax umax) = ap (λ (l : List ℕ). number_word (codes "listen ") fd.0 ++ l) (n3 (number_word (codes " amax=") amax) (number_word (codes " omax=") omax) (number_word (codes " umax=") umax))
call_is (call.TAccept fd resfd seq opt udata) = n5 (number_word (codes "accept ") fd.0) (number_word (codes " ") resfd.0) (number_word (codes " ") seq.0) (octets_word (codes " opt=") opt) (octets_word (codes " udata=") udata)
call_is (call.TSnd fd bytes flags) = n3 (number_word (codes "snd ") fd.0) (octets_word (codes " data=") bytes) (number_word (codes " flags=") flags)
call_is (call.TSndV fd parts flags) = ap (λ (l : List ℕ). number_word (codes "sndv ") fd.0 ++ l ++ number_word (codes " flags=") flags) (behind_parts (codes " parts=") parts ∙ ap (λ (l : List ℕ). codes " parts=" ++ l) (parts_are parts)) ∙ n3 (number_word (codes "sndv ") fd.0) (codes " parts=" ++ members_text octets_text parts) (number_word (codes " flags=") flags)
call_is (call.TRcv fd max) = refl
call_is (call.TRcvV fd sizes) = ap (λ (l : List ℕ). number_word (codes "rcvv ") fd.0 ++ l) (behind_sizes (codes " sizes=") sizes ∙ ap (λ (l : List ℕ). codes " sizes=" ++ l) (sizes_are sizes))
call_is (call.TSndDis fd seq udata) = n3 (number_word (codes "snddis ") fd.0) (number_word (codes " ") seq.0) (octets_word (codes " udata=") udata)
call_is (call.TRcvDis fd umax) = refl
call_is (call.TSndRel fd) = refl
call_is (call.TRcvRel fd) = refl
call_is (call.TSndRelData fd udata) = refl
call_is (call.TRcvRelData fd umax) = refl
call_is (call.TSndUData fd addr opt bytes) = n4 (number_word (codes "sndudata ") fd.0) (octets_word (codes " addr=") addr) (octets_word (codes " opt=") opt) (octets_word (codes " data=") bytes)
call_is (call.TSndVUData fd addr opt parts) = ap (λ (l : List ℕ). number_word (codes "sndvudata ") fd.0 ++ octets_word (codes " addr=") addr ++ octets_word (codes " opt=") opt ++ l) (behind_parts (codes " parts=") parts ∙ ap (λ (l : List ℕ). codes " parts=" ++ l) (parts_are parts)) ∙ n4 (number_word (codes "sndvudata ") fd.0) (octets_word (codes " addr=") addr) (octets_word (codes " opt=") opt) (codes " parts=" ++ members_text octets_text parts)
call_is (call.TRcvUData fd max amax omax) = n4 (number_word (codes "rcvudata ") fd.0) (number_word (codes " max=") max) (number_word (codes " amax=") amax) (number_word (codes " omax=") omax)
call_is (call.TRcvVUData fd sizes amax omax) = ap (λ (l : List ℕ). number_word (codes "rcvvudata ") fd.0 ++ l ++ number_word (codes " amax=") amax ++ number_word (codes " omax=") omax) (behind_sizes (codes " sizes=") sizes ∙ ap (λ (l : List ℕ). codes " sizes=" ++ l) (sizes_are sizes)) ∙ n4 (number_word (codes "rcvvudata ") fd.0) (codes " sizes=" ++ members_text decimal sizes) (number_word (codes " amax=") amax) (number_word (codes " omax=") omax)
call_is (call.TRcvUDErr fd amax omax) = n3 (number_word (codes "rcvuderr ") fd.0) (number_word (codes " amax=") amax) (number_word (codes " omax=") omax)
call_is (call.TLookAt fd) = refl
call_is (call.TGetState fd) = refl
call_is (call.TSync fd) = refl
call_is (call.TGetInfo fd) = refl
call_is (call.TGetProtAddr fd amax pmax) = n3 (number_word (codes "getprotaddr ") fd.0) (number_word (codes " amax=") amax) (number_word (codes " pmax=") pmax)
call_is (call.TOptMgmt fd action opt omax) = n4 (number_word (codes "optmgmt ") fd.0) (number_word (codes " ") action) (octets_word (codes " opt=") opt) (number_word (codes " omax=") omax)
call_is (call.SetMode fd nonblock) = refl

-- ---- answers

pub outcome_is : (o : Outcome) → outcome_text o ≡ join_with_byte 32 (outcome_words o)
unfolding answer_form field
outcome_is (Part taken) = refl
outcome_is (Done reply.Plain) = refl
outcome_is (Done (reply.Opened fd)) = refl
outcome_is (Done (reply.Bound addr qlen)) = refl
outcome_is (Done (reply.Connected addr opt udata)) = n3 (octets_word (codes "ok ") addr) (octets_word (codes " ") opt) (octets_word (codes " ") udata)
outcome_is (Done (reply.Listened seq addr opt udata)) = n4 (number_word (codes "ok ") seq.0) (octets_word (codes " ") addr) (octets_word (codes " ") opt) (octets_word (codes " ") udata)
outcome_is (Done (reply.Sent n)) = refl
outcome_is (Done (reply.Got bytes flags)) = refl
outcome_is (Done (reply.Discon reason seq udata)) = n3 (number_word (codes "ok ") reason) (number_word (codes " ") seq.0) (octets_word (codes " ") udata)
outcome_is (Done (reply.RelData udata)) = refl
outcome_is (Done (reply.UData addr opt bytes flags)) = n4 (octets_word (codes "ok ") addr) (octets_word (codes " ") opt) (octets_word (codes " ") bytes) (number_word (codes " ") flags)
outcome_is (Done (reply.UDErr addr opt code)) = n3 (octets_word (codes "ok ") addr) (octets_word (codes " ") opt) (number_word (codes " ") code)
outcome_is (Done (reply.Seen (Some event))) = refl
outcome_is (Done (reply.Seen None)) = refl
outcome_is (Done (reply.Stands state)) = refl
outcome_is (Done (reply.Limits info)) = ap (λ (l : List ℕ). codes "ok" ++ l) (n8 (limit_word (codes " ") info.addr) (limit_word (codes " ") info.options) (limit_word (codes " ") info.tsdu) (limit_word (codes " ") info.etsdu) (limit_word (codes " ") info.connect) (limit_word (codes " ") info.discon) (number_word (codes " ") (service_number info.servtype)) (number_word (codes " ") info.flags))
outcome_is (Done (reply.Addresses local peer)) = refl
outcome_is (Done (reply.Options result opt)) = refl
outcome_is (Done (reply.Refused errno)) = refl
outcome_is (Done (reply.Look event)) = refl
outcome_is (Done (reply.Overflow seq)) = refl

-- ---- no space in a word

verb_above : (v : Verb) → list_all (ltb 32) (verb_word v) ≡ true
unfolding row_of
verb_above Open = refl
verb_above Close = refl
verb_above Bind = refl
verb_above Unbind = refl
verb_above Connect = refl
verb_above RcvConnect = refl
verb_above Listen = refl
verb_above Accept = refl
verb_above Snd = refl
verb_above SndV = refl
verb_above Rcv = refl
verb_above RcvV = refl
verb_above SndDis = refl
verb_above RcvDis = refl
verb_above SndRel = refl
verb_above RcvRel = refl
verb_above SndRelData = refl
verb_above RcvRelData = refl
verb_above SndUData = refl
verb_above SndVUData = refl
verb_above RcvUData = refl
verb_above RcvVUData = refl
verb_above RcvUDErr = refl
verb_above Look = refl
verb_above GetState = refl
verb_above Sync = refl
verb_above GetInfo = refl
verb_above GetProtAddr = refl
verb_above OptMgmt = refl
verb_above SetMode = refl

pub verb_word_above : (v : Verb) → Above 32 (verb_word v)
verb_word_above v = known (verb_word v) (verb_above v)

ok_above : All (Above 32) (codes "ok" ∷ [])
ok_above = All-cons (Above 32) (codes "ok") [] (known (codes "ok") refl) (All-nil (Above 32))

pub answer_above : (a : Answer) → All (Above 32) (answer_words a)
answer_above answer.Part = All-cons (Above 32) (codes "part") [] (known (codes "part") refl) (All-nil (Above 32))
answer_above answer.Refused = All-cons (Above 32) (codes "err") [] (known (codes "err") refl) (All-nil (Above 32))
answer_above answer.Look = All-cons (Above 32) (codes "err") (codes "TLOOK" ∷ []) (known (codes "err") refl) (All-cons (Above 32) (codes "TLOOK") [] (known (codes "TLOOK") refl) (All-nil (Above 32)))
answer_above answer.Overflow = All-cons (Above 32) (codes "err") (codes "TBUFOVFLW" ∷ []) (known (codes "err") refl) (All-cons (Above 32) (codes "TBUFOVFLW") [] (known (codes "TBUFOVFLW") refl) (All-nil (Above 32)))
answer_above answer.Plain = ok_above
answer_above answer.Opened = ok_above
answer_above answer.Bound = ok_above
answer_above answer.Connected = ok_above
answer_above answer.Listened = ok_above
answer_above answer.Sent = ok_above
answer_above answer.Got = ok_above
answer_above answer.Discon = ok_above
answer_above answer.RelData = ok_above
answer_above answer.UData = ok_above
answer_above answer.UDErr = ok_above
answer_above answer.Seen = ok_above
answer_above answer.Stands = ok_above
answer_above answer.Limits = ok_above
answer_above answer.Addresses = ok_above
answer_above answer.Options = ok_above
