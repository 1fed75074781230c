-- The values of a script's fields are as wide as a journal's: bytes, and numbers of 32 bits.
use Rattle.std.proofs.Common.{◌≡◌, ℕ, ◌<◌, Bool, true, false, cond, List, [], ◌∷◌, ◌++◌, length, Option, Some, None, inl, inr, refl, subst, arith, ltb, leb, ◌&&◌}
use Rattle.std.specs.Prelude.{codes, option_map, All}
use Rattle.std.specs.Str.{bytes_eq}
use Rattle.std.proofs.lemmas.Bool.{ltb-true}
use Rattle.std.proofs.lemmas.List.Elements.{All-nil, All-cons}
use Rattle.xti_base.specs.declared.limits.TheConstants.{MOST_SEND, MOST_ADDRESS, MOST_OPTIONS, MOST_CONNECT_DATA}
use Rattle.xti_base.specs.Negotiation.{t_negotiate, t_check, t_default, t_current}
use Rattle.xti_model.specs.declared.call.Call.{Call}
use Rattle.xti_model.specs.declared.script.NamedCall.{NamedCall}
use Rattle.xti_model.specs.declared.script.NamedCall.TheVariants as call
use Rattle.xti_model.specs.declared.script.Line.{Line}
use Rattle.xti_model.specs.declared.script.Script.{Script}
use Rattle.xti_model.specs.Resolve.{Meanings, with_numbers, seq_or_none, listens}
use Rattle.xti_model.specs.SentBytes.{AreBytes}
use Rattle.xti_words.specs.Texts.{pieces_of}
use Rattle.xti_words.specs.Values.{decimal, is_decimal, number_in, bytes_in, onto, each_in, list_in, options_in, provider_in, mode_in, action_in}
use Rattle.xti_words.specs.declared.values.TheConstants.{MOST_PIECES}
use Rattle.xti_words.proofs.WordBytes.{some-is, none-is, word-bytes, option-bytes}
use Rattle.xti_script_reader.specs.Kinds.{Kind}
use Rattle.xti_script_reader.specs.Kinds.{Kind as kind}
use Rattle.xti_script_reader.specs.FieldValue.{Value}
use Rattle.xti_script_reader.specs.FieldValue.Value.{Bytes, Number, Parts, Sizes, Name, NameOrNone, Provider, Mode}
use Rattle.xti_script_reader.specs.declared.fields.Key.{Key}
use Rattle.xti_script_reader.specs.declared.fields.Key.TheVariants as key
use Rattle.xti_model.specs.declared.profile.Version.{Version}
use Rattle.xti_verbs.specs.declared.verb.Verb.{Verb}
use Rattle.xti_verbs.specs.declared.verb.Verb.TheVariants.{Open, Close, Bind, Unbind, Connect, RcvConnect, Listen, Accept, Snd, SndV, Rcv, RcvV, SndDis, RcvDis, SndRel, RcvRel, SndRelData, RcvRelData, SndUData, SndVUData, RcvUData, RcvVUData, RcvUDErr, Look, GetState, Sync, GetInfo, GetProtAddr, OptMgmt, SetMode}
use Rattle.xti_script_reader.specs.Names.{Spot, after, is_defined, can_name}
use Rattle.xti_script_reader.specs.Values.{named, sequence_or_none, value_in}
use Rattle.xti_script_reader.specs.Fields.{field, kind_of, usual_value, AreFields}
use Rattle.xti_script_reader.specs.Calls.{call_with}
use Rattle.xti_script_reader.specs.Grammar.{IsCall, AreLines, calls_in, HasText}
use Rattle.xti_journal.specs.Fields.{field as journal_field, AreFields as AreJournalFields}
use Rattle.xti_verbs.specs.Verbs.{is_in_texts, verb_of}
use Rattle.xti_journal.specs.Calls.{form, call_values}
use Rattle.xti_laws.specs.Values.{IsNumber}
use Rattle.xti_laws_journals.proofs.FollowedCalls.{AllLines}

-- ---- words

number-small : (word : List ℕ) (n : ℕ) → number_in word ≡ Some n → IsNumber n
unfolding number_in
number-small word n h = go (is_decimal word) (ltb (decimal word) 4294967296) refl h
  where
    go : (a b : Bool) → ltb (decimal word) 4294967296 ≡ b → cond (a && b) (Some (decimal word)) None ≡ Some n → IsNumber n
    go true true e h = (let same : decimal word ≡ n = some-is (decimal word) n h in let l = ltb-true (decimal word) 4294967296 e in omega (arith, same, l))
    go true false e h = absurd (none-is n h)
    go false b e h = absurd (none-is n h)

action-small : (word : List ℕ) (n : ℕ) → action_in word ≡ Some n → IsNumber n
unfolding action_in
action-small word n h = go (bytes_eq word (codes "negotiate")) (bytes_eq word (codes "check")) (bytes_eq word (codes "default")) (bytes_eq word (codes "current")) h
  where
    is : (m : ℕ) → m < 4294967296 → Some m ≡ Some n → IsNumber n
    is m l e = (let same : m ≡ n = some-is m n e in omega (arith, same, l))

    go : (a b c d : Bool) → cond a (Some t_negotiate) (cond b (Some t_check) (cond c (Some t_default) (cond d (Some t_current) (number_in word)))) ≡ Some n → IsNumber n
    go true b c d e = is t_negotiate (omega arith) e
    go false true c d e = is t_check (omega arith) e
    go false false true d e = is t_default (omega arith) e
    go false false false true e = is t_current (omega arith) e
    go false false false false e = number-small word n e

-- each member stands for such a thing
each-such : {A : Type 0} (f : List ℕ → Option A) (P : A → Type 0) → ((word : List ℕ) (a : A) → f word ≡ Some a → P a) → (pieces : List (List ℕ)) (xs : List A) → each_in f pieces ≡ Some xs → All P xs
each-such f P k [] xs h = subst (All P) (some-is [] xs h) (All-nil P)
each-such {A} f P k (piece ∷ pieces) xs h = go (f piece) refl (each_in f pieces) (λ ys i. each-such f P k pieces ys i) refl h
  where
    go : (o : Option A) → f piece ≡ o → (rest : Option (List A)) → ((ys : List A) → each_in f pieces ≡ Some ys → All P ys) → each_in f pieces ≡ rest → onto o rest ≡ Some xs → All P xs
    go None i rest ih j e = absurd (none-is xs e)
    go (Some a) i None ih j e = absurd (none-is xs e)
    go (Some a) i (Some ys) ih j e = subst (All P) (some-is (a ∷ ys) xs e) (All-cons P a ys (k piece a i) (ih ys j))

list-such : {A : Type 0} (f : List ℕ → Option A) (P : A → Type 0) → ((word : List ℕ) (a : A) → f word ≡ Some a → P a) → (word : List ℕ) (xs : List A) → list_in f word ≡ Some xs → All P xs
unfolding list_in
list-such {A} f P k word xs h = go (leb (length (pieces_of 44 word)) MOST_PIECES) h
  where
    go : (b : Bool) → cond b (each_in f (pieces_of 44 word)) None ≡ Some xs → All P xs
    go true e = each-such f P k (pieces_of 44 word) xs e
    go false e = absurd (none-is xs e)

-- ---- values

abbrev IsValued : Value → Type 0
IsValued (Bytes bytes) = AreBytes bytes
IsValued (Number n) = IsNumber n
IsValued (Parts parts) = All AreBytes parts
IsValued (Sizes sizes) = All IsNumber sizes
IsValued other = Unit {0}

abbrev AllValued : List Value → Type 0
AllValued [] = Unit {0}
AllValued (value ∷ values) = IsValued value × AllValued values

mapped : {A : Type 0} (f : A → Value) (o : Option A) (v : Value) → ((a : A) → o ≡ Some a → IsValued (f a)) → option_map f o ≡ Some v → IsValued v
mapped f None v k h = absurd (none-is v h)
mapped f (Some a) v k h = subst IsValued (some-is (f a) v h) (k a refl)

named-valued : (b : Bool) (text : List ℕ) (v : Value) → named b text ≡ Some v → IsValued v
named-valued true text v h = subst IsValued (some-is (Name text) v h) tt
named-valued false text v h = absurd (none-is v h)

sequence-valued : (a b : Bool) (text : List ℕ) (v : Value) → sequence_or_none a b text ≡ Some v → IsValued v
sequence-valued true b text v h = subst IsValued (some-is (NameOrNone None) v h) tt
sequence-valued false true text v h = subst IsValued (some-is (NameOrNone (Some text)) v h) tt
sequence-valued false false text v h = absurd (none-is v h)

written-valued : (s : Spot) (k : Kind) (text : List ℕ) (v : Value) → value_in s k text ≡ Some v → IsValued v
written-valued s kind.Bytes text v h = mapped Bytes (bytes_in text) v (word-bytes text) h
written-valued s kind.Options text v h = mapped Bytes (options_in text) v (option-bytes text) h
written-valued s kind.Number text v h = mapped Number (number_in text) v (number-small text) h
written-valued s kind.Parts text v h = mapped Parts (list_in bytes_in text) v (list-such bytes_in AreBytes word-bytes text) h
written-valued s kind.Sizes text v h = mapped Sizes (list_in number_in text) v (list-such number_in IsNumber number-small text) h
written-valued s kind.NewEndpoint text v h = named-valued (can_name s kind.NewEndpoint text) text v h
written-valued s kind.Endpoint text v h = named-valued (can_name s kind.Endpoint text) text v h
written-valued s kind.NewSequence text v h = named-valued (can_name s kind.NewSequence text) text v h
written-valued s kind.Sequence text v h = named-valued (can_name s kind.Sequence text) text v h
written-valued s kind.SequenceOrNone text v h = sequence-valued (bytes_eq text (codes "-")) (is_defined listens s text) text v h
written-valued s kind.Provider text v h = mapped Provider (provider_in text) v (λ n i. tt) h
written-valued s kind.Mode text v h = mapped Mode (mode_in text) v (λ n i. tt) h
written-valued s kind.Action text v h = mapped Number (action_in text) v (action-small text) h

usual-number : (n : ℕ) (v : Value) → n < 4294967296 → Some (Number n) ≡ Some v → IsValued v
usual-number n v l h = subst IsValued (some-is (Number n) v h) (omega (arith, l))

usual-none : (v : Value) → Some (Bytes []) ≡ Some v → IsValued v
usual-none v h = subst IsValued (some-is (Bytes []) v h) (All-nil (λ b. b < 256))

usual-valued : (k : Key) (v : Value) → usual_value k ≡ Some v → IsValued v
unfolding field
usual-valued key.NewEndpoint v h = absurd (none-is v h)
usual-valued key.Endpoint v h = absurd (none-is v h)
usual-valued key.NewSequence v h = absurd (none-is v h)
usual-valued key.Sequence v h = absurd (none-is v h)
usual-valued key.SequenceOrNone v h = absurd (none-is v h)
usual-valued key.Provider v h = absurd (none-is v h)
usual-valued key.Mode v h = absurd (none-is v h)
usual-valued key.ModeOrBlock v h = subst IsValued (some-is (Mode false) v h) tt
usual-valued key.Action v h = absurd (none-is v h)
usual-valued key.Addr v h = usual-none v h
usual-valued key.Opt v h = usual-none v h
usual-valued key.UData v h = usual-none v h
usual-valued key.Data v h = absurd (none-is v h)
usual-valued key.Parts v h = absurd (none-is v h)
usual-valued key.Sizes v h = absurd (none-is v h)
usual-valued key.Qlen v h = usual-number 0 v (omega arith) h
usual-valued key.Flags v h = usual-number 0 v (omega arith) h
usual-valued key.Max v h = usual-number MOST_SEND v (omega arith) h
usual-valued key.Amax v h = usual-number MOST_ADDRESS v (omega arith) h
usual-valued key.Pmax v h = usual-number MOST_ADDRESS v (omega arith) h
usual-valued key.Omax v h = usual-number MOST_OPTIONS v (omega arith) h
usual-valued key.Umax v h = usual-number MOST_CONNECT_DATA v (omega arith) h

field-valued : (s : Spot) (keys : List Key) (values : List Value) (words : List (List ℕ)) → AreFields s keys values words → AllValued values
field-valued s [] [] [] h = tt
field-valued s [] [] (word ∷ words) h = tt
field-valued s [] (v ∷ vs) words h = absurd h
field-valued s (k ∷ ks) [] words h = tt
field-valued s (k ∷ ks) (v ∷ vs) [] h = (usual-valued k v h.0, field-valued s ks vs [] h.1)
field-valued s (k ∷ ks) (v ∷ vs) (word ∷ words) (inl h) = (written-valued s (kind_of k) h.0.text v h.0.stands_for, field-valued s ks vs words h.1)
field-valued s (k ∷ ks) (v ∷ vs) (word ∷ words) (inr h) = (usual-valued k v h.0, field-valued s ks vs (word ∷ words) h.1)

-- ---- calls

-- the numbers for which names stand have 32 bits
abbrev pub AreNumbered : Meanings → Type 0
AreNumbered m = ((name : List ℕ) → IsNumber (m.fd name).0) × ((name : List ℕ) → IsNumber (m.seq name).0)

-- a journal has the call
abbrev pub IsWritable : Version → Call → Type 0
IsWritable version c = (is_in_texts version (verb_of c) ≡ true) × AreJournalFields (form (verb_of c)) (call_values c)

-- with such numbers for its names, a journal has the call
abbrev pub IsWritableNamed : Version → NamedCall → Type 0
IsWritableNamed version c = (m : Meanings) → AreNumbered m → IsWritable version (with_numbers m c)

same : (version : Version) (c d : NamedCall) → IsWritableNamed version c → Some c ≡ Some d → IsWritableNamed version d
same version c d h e = subst (IsWritableNamed version) (some-is c d e) h

or-none : (m : Meanings) (o : Option (List ℕ)) → AreNumbered m → IsNumber (seq_or_none m o).0
or-none m None k = omega arith
or-none m (Some name) k = k.1 name

call-fields : (version : Version) (verb : Verb) (values : List Value) (d : NamedCall) → is_in_texts version verb ≡ true → AllValued values → call_with verb values ≡ Some d → IsWritableNamed version d
unfolding call_with form journal_field
call-fields version Open (Name v1 ∷ Provider v2 ∷ Mode v3 ∷ []) d t h e = same version (call.TOpen v1 v2 v3) d (λ m k. (refl, (tt, (tt, tt)))) e
call-fields version Close (Name v1 ∷ []) d t h e = same version (call.TClose v1) d (λ m k. (refl, (k.0 v1, tt))) e
call-fields version Bind (Name v1 ∷ Bytes v2 ∷ Number v3 ∷ Number v4 ∷ []) d t h e = same version (call.TBind v1 v2 v3 v4) d (λ m k. (refl, (k.0 v1, h.1))) e
call-fields version Unbind (Name v1 ∷ []) d t h e = same version (call.TUnbind v1) d (λ m k. (refl, (k.0 v1, tt))) e
call-fields version Connect (Name v1 ∷ Bytes v2 ∷ Bytes v3 ∷ Bytes v4 ∷ Number v5 ∷ Number v6 ∷ Number v7 ∷ []) d t h e = same version (call.TConnect v1 v2 v3 v4 v5 v6 v7) d (λ m k. (refl, (k.0 v1, h.1))) e
call-fields version RcvConnect (Name v1 ∷ Number v2 ∷ Number v3 ∷ Number v4 ∷ []) d t h e = same version (call.TRcvConnect v1 v2 v3 v4) d (λ m k. (refl, (k.0 v1, h.1))) e
call-fields version Listen (Name v1 ∷ Name v2 ∷ Number v3 ∷ Number v4 ∷ Number v5 ∷ []) d t h e = same version (call.TListen v1 v2 v3 v4 v5) d (λ m k. (refl, (k.0 v1, h.1.1))) e
call-fields version Accept (Name v1 ∷ Name v2 ∷ Name v3 ∷ Bytes v4 ∷ Bytes v5 ∷ []) d t h e = same version (call.TAccept v1 v2 v3 v4 v5) d (λ m k. (refl, (k.0 v1, (k.0 v2, (k.1 v3, h.1.1.1))))) e
call-fields version Snd (Name v1 ∷ Bytes v2 ∷ Number v3 ∷ []) d t h e = same version (call.TSnd v1 v2 v3) d (λ m k. (refl, (k.0 v1, h.1))) e
call-fields version SndV (Name v1 ∷ Parts v2 ∷ Number v3 ∷ []) d t h e = same version (call.TSndV v1 v2 v3) d (λ m k. (refl, (k.0 v1, h.1))) e
call-fields version Rcv (Name v1 ∷ Number v2 ∷ []) d t h e = same version (call.TRcv v1 v2) d (λ m k. (refl, (k.0 v1, h.1))) e
call-fields version RcvV (Name v1 ∷ Sizes v2 ∷ []) d t h e = same version (call.TRcvV v1 v2) d (λ m k. (refl, (k.0 v1, h.1))) e
call-fields version SndDis (Name v1 ∷ NameOrNone v2 ∷ Bytes v3 ∷ []) d t h e = same version (call.TSndDis v1 v2 v3) d (λ m k. (refl, (k.0 v1, (or-none m v2 k, h.1.1)))) e
call-fields version RcvDis (Name v1 ∷ Number v2 ∷ []) d t h e = same version (call.TRcvDis v1 v2) d (λ m k. (refl, (k.0 v1, h.1))) e
call-fields version SndRel (Name v1 ∷ []) d t h e = same version (call.TSndRel v1) d (λ m k. (refl, (k.0 v1, tt))) e
call-fields version RcvRel (Name v1 ∷ []) d t h e = same version (call.TRcvRel v1) d (λ m k. (refl, (k.0 v1, tt))) e
call-fields version SndRelData (Name v1 ∷ Bytes v2 ∷ []) d t h e = same version (call.TSndRelData v1 v2) d (λ m k. (t, (k.0 v1, h.1))) e
call-fields version RcvRelData (Name v1 ∷ Number v2 ∷ []) d t h e = same version (call.TRcvRelData v1 v2) d (λ m k. (t, (k.0 v1, h.1))) e
call-fields version SndUData (Name v1 ∷ Bytes v2 ∷ Bytes v3 ∷ Bytes v4 ∷ []) d t h e = same version (call.TSndUData v1 v2 v3 v4) d (λ m k. (refl, (k.0 v1, h.1))) e
call-fields version SndVUData (Name v1 ∷ Bytes v2 ∷ Bytes v3 ∷ Parts v4 ∷ []) d t h e = same version (call.TSndVUData v1 v2 v3 v4) d (λ m k. (refl, (k.0 v1, h.1))) e
call-fields version RcvUData (Name v1 ∷ Number v2 ∷ Number v3 ∷ Number v4 ∷ []) d t h e = same version (call.TRcvUData v1 v2 v3 v4) d (λ m k. (refl, (k.0 v1, h.1))) e
call-fields version RcvVUData (Name v1 ∷ Sizes v2 ∷ Number v3 ∷ Number v4 ∷ []) d t h e = same version (call.TRcvVUData v1 v2 v3 v4) d (λ m k. (refl, (k.0 v1, h.1))) e
call-fields version RcvUDErr (Name v1 ∷ Number v2 ∷ Number v3 ∷ []) d t h e = same version (call.TRcvUDErr v1 v2 v3) d (λ m k. (refl, (k.0 v1, h.1))) e
call-fields version Look (Name v1 ∷ []) d t h e = same version (call.TLookAt v1) d (λ m k. (refl, (k.0 v1, tt))) e
call-fields version GetState (Name v1 ∷ []) d t h e = same version (call.TGetState v1) d (λ m k. (refl, (k.0 v1, tt))) e
call-fields version Sync (Name v1 ∷ []) d t h e = same version (call.TSync v1) d (λ m k. (refl, (k.0 v1, tt))) e
call-fields version GetInfo (Name v1 ∷ []) d t h e = same version (call.TGetInfo v1) d (λ m k. (refl, (k.0 v1, tt))) e
call-fields version GetProtAddr (Name v1 ∷ Number v2 ∷ Number v3 ∷ []) d t h e = same version (call.TGetProtAddr v1 v2 v3) d (λ m k. (refl, (k.0 v1, h.1))) e
call-fields version OptMgmt (Name v1 ∷ Number v2 ∷ Bytes v3 ∷ Number v4 ∷ []) d t h e = same version (call.TOptMgmt v1 v2 v3 v4) d (λ m k. (refl, (k.0 v1, h.1))) e
call-fields version SetMode (Name v1 ∷ Mode v2 ∷ []) d t h e = same version (call.SetMode v1 v2) d (λ m k. (refl, (k.0 v1, (tt, tt)))) e
call-fields version verb values d t h e = absurd (none-is d e)

writable-call : (version : Version) (s : Spot) (c : NamedCall) (words : List (List ℕ)) → IsCall version s c words → IsWritableNamed version c
writable-call version s c words h = call-fields version h.verb h.values c h.in_texts (field-valued s _ h.values h.fields h.are_fields) h.made

-- ---- scripts

writable-lines : (version : Version) (earlier lines : List Line) (texts : List (List ℕ)) → AreLines version earlier lines texts → AllLines (IsWritableNamed version) lines
writable-lines version earlier [] texts h = tt
writable-lines version earlier (line ∷ lines) [] h = absurd h
writable-lines version earlier (line ∷ lines) (text ∷ texts) h = (writable-call version (after earlier line.worker) line.call h.0.words h.0.call, writable-lines version (earlier ++ line ∷ []) lines texts h.1)

pub script-writable : (s : Script) → HasText s → AllLines (IsWritableNamed s.providers.version) s.lines
script-writable s h = writable-lines s.providers.version [] s.lines (calls_in h.1.form.rest) h.1.form.lines
