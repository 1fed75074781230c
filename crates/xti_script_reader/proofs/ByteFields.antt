-- What fields say in bytes is bytes, and so is each argument of a call that is made of them.
use Rattle.std.proofs.Common.{◌≡◌, ℕ, ◌<◌, Bool, true, false, List, [], ◌∷◌, ◌++◌, inl, inr, Option, Some, None, refl, subst}
use Rattle.std.specs.Prelude.{codes, option_map}
use Rattle.std.specs.List.{concat}
use Rattle.std.specs.Str.{bytes_eq}
use Rattle.std.proofs.lemmas.List.Elements.{All-nil}
use Rattle.xti_model.specs.declared.profile.Version.{Version}
use Rattle.xti_model.specs.Resolve.{listens}
use Rattle.xti_base.specs.declared.limits.TheConstants.{MOST_SEND, MOST_ADDRESS, MOST_OPTIONS, MOST_CONNECT_DATA}
use Rattle.xti_model.specs.declared.script.NamedCall.{NamedCall}
use Rattle.xti_model.specs.declared.script.NamedCall.TheVariants as call
use Rattle.xti_model.specs.declared.script.Line.{Line}
use Rattle.xti_model.specs.declared.script.Script.{Script}
use Rattle.xti_model.specs.SentBytes.{AreBytes, HasByteArguments, NamedSendsBytes, AllHaveByteArguments, LinesSendBytes}
use Rattle.xti_script_reader.specs.Kinds.{Kind}
use Rattle.xti_script_reader.specs.Kinds.{Kind as kind}
use Rattle.xti_script_reader.specs.FieldValue.{Value}
use Rattle.xti_script_reader.specs.FieldValue.Value.{Bytes, Number, Parts, Sizes, Name, NameOrNone, Provider, Mode}
use Rattle.xti_script_reader.specs.declared.fields.Key.{Key}
use Rattle.xti_script_reader.specs.declared.fields.Key.TheVariants as key
use Rattle.xti_verbs.specs.declared.verb.Verb.{Verb}
use Rattle.xti_verbs.specs.declared.verb.Verb.TheVariants.{Open, Close, Bind, Unbind, Connect, RcvConnect, Listen, Accept, Snd, SndV, Rcv, RcvV, SndDis, RcvDis, SndRel, RcvRel, SndRelData, RcvRelData, SndUData, SndVUData, RcvUData, RcvVUData, RcvUDErr, Look, GetState, Sync, GetInfo, GetProtAddr, OptMgmt, SetMode}
use Rattle.xti_words.proofs.WordBytes.{some-is, none-is, word-bytes, option-bytes, part-bytes}
use Rattle.xti_script_reader.specs.Names.{Spot, after, is_defined, can_name}
use Rattle.xti_words.specs.Values.{number_in, bytes_in, list_in, options_in, provider_in, mode_in, action_in}
use Rattle.xti_script_reader.specs.Values.{named, sequence_or_none, value_in}
use Rattle.xti_script_reader.specs.Fields.{field, kind_of, usual_value, AreFields}
use Rattle.xti_script_reader.specs.Calls.{call_with}
use Rattle.xti_script_reader.specs.Grammar.{IsCall, AreLines, calls_in, HasText}

-- ---- values

-- the numbers of a value that stands for bytes are below 256
abbrev IsOfBytes : Value → Type 0
IsOfBytes (Bytes bytes) = AreBytes bytes
IsOfBytes (Parts parts) = AreBytes (concat parts)
IsOfBytes other = Unit {0}

abbrev AllOfBytes : List Value → Type 0
AllOfBytes [] = Unit {0}
AllOfBytes (value ∷ values) = IsOfBytes value × AllOfBytes values

mapped : {A : Type 0} (f : A → Value) (o : Option A) (v : Value) → ((a : A) → o ≡ Some a → IsOfBytes (f a)) → option_map f o ≡ Some v → IsOfBytes v
mapped f None v k h = absurd (none-is v h)
mapped f (Some a) v k h = subst IsOfBytes (some-is (f a) v h) (k a refl)

named-bytes : (b : Bool) (text : List ℕ) (v : Value) → named b text ≡ Some v → IsOfBytes v
named-bytes true text v h = subst IsOfBytes (some-is (Name text) v h) tt
named-bytes false text v h = absurd (none-is v h)

sequence-bytes : (a b : Bool) (text : List ℕ) (v : Value) → sequence_or_none a b text ≡ Some v → IsOfBytes v
sequence-bytes true b text v h = subst IsOfBytes (some-is (NameOrNone None) v h) tt
sequence-bytes false true text v h = subst IsOfBytes (some-is (NameOrNone (Some text)) v h) tt
sequence-bytes false false text v h = absurd (none-is v h)

written-bytes : (s : Spot) (k : Kind) (text : List ℕ) (v : Value) → value_in s k text ≡ Some v → IsOfBytes v
written-bytes s kind.Bytes text v h = mapped Bytes (bytes_in text) v (word-bytes text) h
written-bytes s kind.Options text v h = mapped Bytes (options_in text) v (option-bytes text) h
written-bytes s kind.Number text v h = mapped Number (number_in text) v (λ n i. tt) h
written-bytes s kind.Parts text v h = mapped Parts (list_in bytes_in text) v (part-bytes text) h
written-bytes s kind.Sizes text v h = mapped Sizes (list_in number_in text) v (λ n i. tt) h
written-bytes s kind.NewEndpoint text v h = named-bytes (can_name s kind.NewEndpoint text) text v h
written-bytes s kind.Endpoint text v h = named-bytes (can_name s kind.Endpoint text) text v h
written-bytes s kind.NewSequence text v h = named-bytes (can_name s kind.NewSequence text) text v h
written-bytes s kind.Sequence text v h = named-bytes (can_name s kind.Sequence text) text v h
written-bytes s kind.SequenceOrNone text v h = sequence-bytes (bytes_eq text (codes "-")) (is_defined listens s text) text v h
written-bytes s kind.Provider text v h = mapped Provider (provider_in text) v (λ n i. tt) h
written-bytes s kind.Mode text v h = mapped Mode (mode_in text) v (λ n i. tt) h
written-bytes s kind.Action text v h = mapped Number (action_in text) v (λ n i. tt) h

usual-bytes : (k : Key) (v : Value) → usual_value k ≡ Some v → IsOfBytes v
unfolding field
usual-bytes key.NewEndpoint v h = absurd (none-is v h)
usual-bytes key.Endpoint v h = absurd (none-is v h)
usual-bytes key.NewSequence v h = absurd (none-is v h)
usual-bytes key.Sequence v h = absurd (none-is v h)
usual-bytes key.SequenceOrNone v h = absurd (none-is v h)
usual-bytes key.Provider v h = absurd (none-is v h)
usual-bytes key.Mode v h = absurd (none-is v h)
usual-bytes key.ModeOrBlock v h = subst IsOfBytes (some-is (Mode false) v h) tt
usual-bytes key.Action v h = absurd (none-is v h)
usual-bytes key.Addr v h = subst IsOfBytes (some-is (Bytes []) v h) (All-nil (λ b. b < 256))
usual-bytes key.Opt v h = subst IsOfBytes (some-is (Bytes []) v h) (All-nil (λ b. b < 256))
usual-bytes key.UData v h = subst IsOfBytes (some-is (Bytes []) v h) (All-nil (λ b. b < 256))
usual-bytes key.Data v h = absurd (none-is v h)
usual-bytes key.Parts v h = absurd (none-is v h)
usual-bytes key.Sizes v h = absurd (none-is v h)
usual-bytes key.Qlen v h = subst IsOfBytes (some-is (Number 0) v h) tt
usual-bytes key.Flags v h = subst IsOfBytes (some-is (Number 0) v h) tt
usual-bytes key.Max v h = subst IsOfBytes (some-is (Number MOST_SEND) v h) tt
usual-bytes key.Amax v h = subst IsOfBytes (some-is (Number MOST_ADDRESS) v h) tt
usual-bytes key.Pmax v h = subst IsOfBytes (some-is (Number MOST_ADDRESS) v h) tt
usual-bytes key.Omax v h = subst IsOfBytes (some-is (Number MOST_OPTIONS) v h) tt
usual-bytes key.Umax v h = subst IsOfBytes (some-is (Number MOST_CONNECT_DATA) v h) tt

-- the values of any fields
field-bytes : (s : Spot) (keys : List Key) (values : List Value) (words : List (List ℕ)) → AreFields s keys values words → AllOfBytes values
field-bytes s [] [] [] h = tt
field-bytes s [] [] (word ∷ words) h = tt
field-bytes s [] (v ∷ vs) words h = absurd h
field-bytes s (k ∷ ks) [] words h = tt
field-bytes s (k ∷ ks) (v ∷ vs) [] h = (usual-bytes k v h.0, field-bytes s ks vs [] h.1)
field-bytes s (k ∷ ks) (v ∷ vs) (word ∷ words) (inl h) = (written-bytes s (kind_of k) h.0.text v h.0.stands_for, field-bytes s ks vs words h.1)
field-bytes s (k ∷ ks) (v ∷ vs) (word ∷ words) (inr h) = (usual-bytes k v h.0, field-bytes s ks vs (word ∷ words) h.1)

-- ---- calls

same : (c d : NamedCall) → HasByteArguments c → Some c ≡ Some d → HasByteArguments d
same c d h e = subst HasByteArguments (some-is c d e) h

call-bytes : (verb : Verb) (values : List Value) (d : NamedCall) → AllOfBytes values → call_with verb values ≡ Some d → HasByteArguments d
unfolding call_with
call-bytes Open (Name v1 ∷ Provider v2 ∷ Mode v3 ∷ []) d h e = same (call.TOpen v1 v2 v3) d tt e
call-bytes Close (Name v1 ∷ []) d h e = same (call.TClose v1) d tt e
call-bytes Bind (Name v1 ∷ Bytes v2 ∷ Number v3 ∷ Number v4 ∷ []) d h e = same (call.TBind v1 v2 v3 v4) d h.1.0 e
call-bytes Unbind (Name v1 ∷ []) d h e = same (call.TUnbind v1) d tt e
call-bytes Connect (Name v1 ∷ Bytes v2 ∷ Bytes v3 ∷ Bytes v4 ∷ Number v5 ∷ Number v6 ∷ Number v7 ∷ []) d h e = same (call.TConnect v1 v2 v3 v4 v5 v6 v7) d (h.1.0, h.1.1.0, h.1.1.1.0) e
call-bytes RcvConnect (Name v1 ∷ Number v2 ∷ Number v3 ∷ Number v4 ∷ []) d h e = same (call.TRcvConnect v1 v2 v3 v4) d tt e
call-bytes Listen (Name v1 ∷ Name v2 ∷ Number v3 ∷ Number v4 ∷ Number v5 ∷ []) d h e = same (call.TListen v1 v2 v3 v4 v5) d tt e
call-bytes Accept (Name v1 ∷ Name v2 ∷ Name v3 ∷ Bytes v4 ∷ Bytes v5 ∷ []) d h e = same (call.TAccept v1 v2 v3 v4 v5) d (h.1.1.1.0, h.1.1.1.1.0) e
call-bytes Snd (Name v1 ∷ Bytes v2 ∷ Number v3 ∷ []) d h e = same (call.TSnd v1 v2 v3) d h.1.0 e
call-bytes SndV (Name v1 ∷ Parts v2 ∷ Number v3 ∷ []) d h e = same (call.TSndV v1 v2 v3) d h.1.0 e
call-bytes Rcv (Name v1 ∷ Number v2 ∷ []) d h e = same (call.TRcv v1 v2) d tt e
call-bytes RcvV (Name v1 ∷ Sizes v2 ∷ []) d h e = same (call.TRcvV v1 v2) d tt e
call-bytes SndDis (Name v1 ∷ NameOrNone v2 ∷ Bytes v3 ∷ []) d h e = same (call.TSndDis v1 v2 v3) d h.1.1.0 e
call-bytes RcvDis (Name v1 ∷ Number v2 ∷ []) d h e = same (call.TRcvDis v1 v2) d tt e
call-bytes SndRel (Name v1 ∷ []) d h e = same (call.TSndRel v1) d tt e
call-bytes RcvRel (Name v1 ∷ []) d h e = same (call.TRcvRel v1) d tt e
call-bytes SndRelData (Name v1 ∷ Bytes v2 ∷ []) d h e = same (call.TSndRelData v1 v2) d h.1.0 e
call-bytes RcvRelData (Name v1 ∷ Number v2 ∷ []) d h e = same (call.TRcvRelData v1 v2) d tt e
call-bytes SndUData (Name v1 ∷ Bytes v2 ∷ Bytes v3 ∷ Bytes v4 ∷ []) d h e = same (call.TSndUData v1 v2 v3 v4) d (h.1.0, h.1.1.0, h.1.1.1.0) e
call-bytes SndVUData (Name v1 ∷ Bytes v2 ∷ Bytes v3 ∷ Parts v4 ∷ []) d h e = same (call.TSndVUData v1 v2 v3 v4) d (h.1.0, h.1.1.0, h.1.1.1.0) e
call-bytes RcvUData (Name v1 ∷ Number v2 ∷ Number v3 ∷ Number v4 ∷ []) d h e = same (call.TRcvUData v1 v2 v3 v4) d tt e
call-bytes RcvVUData (Name v1 ∷ Sizes v2 ∷ Number v3 ∷ Number v4 ∷ []) d h e = same (call.TRcvVUData v1 v2 v3 v4) d tt e
call-bytes RcvUDErr (Name v1 ∷ Number v2 ∷ Number v3 ∷ []) d h e = same (call.TRcvUDErr v1 v2 v3) d tt e
call-bytes Look (Name v1 ∷ []) d h e = same (call.TLookAt v1) d tt e
call-bytes GetState (Name v1 ∷ []) d h e = same (call.TGetState v1) d tt e
call-bytes Sync (Name v1 ∷ []) d h e = same (call.TSync v1) d tt e
call-bytes GetInfo (Name v1 ∷ []) d h e = same (call.TGetInfo v1) d tt e
call-bytes GetProtAddr (Name v1 ∷ Number v2 ∷ Number v3 ∷ []) d h e = same (call.TGetProtAddr v1 v2 v3) d tt e
call-bytes OptMgmt (Name v1 ∷ Number v2 ∷ Bytes v3 ∷ Number v4 ∷ []) d h e = same (call.TOptMgmt v1 v2 v3 v4) d h.1.1.0 e
call-bytes SetMode (Name v1 ∷ Mode v2 ∷ []) d h e = same (call.SetMode v1 v2) d tt e
call-bytes verb values d h e = absurd (none-is d e)

argument-bytes : (version : Version) (s : Spot) (c : NamedCall) (words : List (List ℕ)) → IsCall version s c words → HasByteArguments c
argument-bytes version s c words h = call-bytes h.verb h.values c (field-bytes s _ h.values h.fields h.are_fields) h.made

-- ---- scripts

lines-bytes : (version : Version) (earlier lines : List Line) (texts : List (List ℕ)) → AreLines version earlier lines texts → AllHaveByteArguments lines
lines-bytes version earlier [] texts h = tt
lines-bytes version earlier (line ∷ lines) [] h = absurd h
lines-bytes version earlier (line ∷ lines) (text ∷ texts) h = (argument-bytes version (after earlier line.worker) line.call h.0.words h.0.call, lines-bytes version (earlier ++ line ∷ []) lines texts h.1)

pub script_has_byte_arguments : (s : Script) → HasText s → AllHaveByteArguments s.lines
script_has_byte_arguments s h = lines-bytes s.providers.version [] s.lines (calls_in h.1.form.rest) h.1.form.lines

-- a call whose arguments are of bytes sends bytes
named-sends : (c : NamedCall) → HasByteArguments c → NamedSendsBytes c
named-sends (call.TSnd fd bytes flags) h = h
named-sends (call.TSndV fd parts flags) h = h
named-sends other h = tt

lines-send : (lines : List Line) → AllHaveByteArguments lines → LinesSendBytes lines
lines-send [] h = tt
lines-send (line ∷ lines) h = (named-sends line.call h.0, lines-send lines h.1)

pub script_sends_bytes : (s : Script) → HasText s → LinesSendBytes s.lines
script_sends_bytes s h = lines-send s.lines (script_has_byte_arguments s h)
