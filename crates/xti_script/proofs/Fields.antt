-- The fields of a call that are all written are those of the call.
use Rattle.std.proofs.Common.{◌≡◌, refl, ap, subst, ℕ, ◌<◌, inl, inr, true, false, not, eqb, List, [], ◌∷◌, ◌++◌, Some, arith}
use Rattle.std.specs.List.{list_all}
use Rattle.std.proofs.lemmas.List.Elements.{All-nil}
use Rattle.xti_base.specs.declared.limits.TheConstants.{MOST_SEND, MOST_ADDRESS, MOST_OPTIONS, MOST_CONNECT_DATA}
use Rattle.xti_script_reader.specs.Kinds.{Kind as kind}
use Rattle.xti_script_reader.specs.FieldValue.{Value}
use Rattle.xti_script_reader.specs.FieldValue.Value.{Bytes, Number, Mode}
use Rattle.xti_script_reader.specs.declared.fields.Key.{Key}
use Rattle.xti_script_reader.specs.declared.fields.Key.TheVariants.{NewEndpoint, Endpoint, NewSequence, Sequence, SequenceOrNone, Provider, Mode as ModeKey, ModeOrBlock, Action, Addr, Opt, UData, Data, Parts, Sizes, Qlen, Flags, Max, Amax, Pmax, Omax, Umax}
use Rattle.xti_script_reader.specs.Names.{Spot}
use Rattle.xti_script_reader.specs.Fields.{field, key_word, kind_of, usual_value, IsWritten, AreFields}
use Rattle.xti_script.specs.Canonical.{value_text, field_text, fields_text}
use Rattle.xti_script.proofs.Numbers.{Lacks}
use Rattle.xti_script.proofs.Pieces.{AllLack, after_each, lacks_by, lacks_both, lacks_rest}
use Rattle.xti_script.proofs.ValueTexts.{Reads, value_reads, bytes_reads, options_reads, number_reads, mode_reads}

-- ---- usual values

usual_bytes : (s : Spot) (v : Value) → Some (Bytes []) ≡ Some v → Reads s kind.Bytes v
usual_bytes s v h = let is : Bytes [] ≡ v = cc in subst (Reads s kind.Bytes) is (bytes_reads s [] (All-nil (λ b. b < 256)))

usual_options : (s : Spot) (v : Value) → Some (Bytes []) ≡ Some v → Reads s kind.Options v
usual_options s v h = let is : Bytes [] ≡ v = cc in subst (Reads s kind.Options) is (options_reads s [] (All-nil (λ b. b < 256)))

usual_number : (s : Spot) (n : ℕ) (v : Value) → n < 4294967296 → Some (Number n) ≡ Some v → Reads s kind.Number v
usual_number s n v l h = let is : Number n ≡ v = cc in subst (Reads s kind.Number) is (number_reads s n l)

usual_mode : (s : Spot) (v : Value) → Some (Mode false) ≡ Some v → Reads s kind.Mode v
usual_mode s v h = let is : Mode false ≡ v = cc in subst (Reads s kind.Mode) is (mode_reads s false)

usual_reads : (s : Spot) (key : Key) (v : Value) → usual_value key ≡ Some v → Reads s (kind_of key) v
unfolding field
usual_reads s NewEndpoint v h = absurd (cc)
usual_reads s Endpoint v h = absurd (cc)
usual_reads s NewSequence v h = absurd (cc)
usual_reads s Sequence v h = absurd (cc)
usual_reads s SequenceOrNone v h = absurd (cc)
usual_reads s Provider v h = absurd (cc)
usual_reads s ModeKey v h = absurd (cc)
usual_reads s ModeOrBlock v h = usual_mode s v h
usual_reads s Action v h = absurd (cc)
usual_reads s Addr v h = usual_bytes s v h
usual_reads s Opt v h = usual_options s v h
usual_reads s UData v h = usual_bytes s v h
usual_reads s Data v h = absurd (cc)
usual_reads s Parts v h = absurd (cc)
usual_reads s Sizes v h = absurd (cc)
usual_reads s Qlen v h = usual_number s 0 v (omega arith) h
usual_reads s Flags v h = usual_number s 0 v (omega arith) h
usual_reads s Max v h = usual_number s MOST_SEND v (omega arith) h
usual_reads s Amax v h = usual_number s MOST_ADDRESS v (omega arith) h
usual_reads s Pmax v h = usual_number s MOST_ADDRESS v (omega arith) h
usual_reads s Omax v h = usual_number s MOST_OPTIONS v (omega arith) h
usual_reads s Umax v h = usual_number s MOST_CONNECT_DATA v (omega arith) h

-- a key has no space and no end of a line
record KeyFits (key : Key) : Type 0 where
  spaceless : Lacks 32 (key_word key)
  endless : Lacks 10 (key_word key)

fits_by : (key : Key) → list_all (λ c. not (eqb c 32)) (key_word key) ≡ true → list_all (λ c. not (eqb c 10)) (key_word key) ≡ true → KeyFits key
fits_by key h i = record { spaceless = lacks_by 32 (key_word key) h; endless = lacks_by 10 (key_word key) i }

key_fits : (key : Key) → KeyFits key
unfolding field
key_fits NewEndpoint = fits_by NewEndpoint refl refl
key_fits Endpoint = fits_by Endpoint refl refl
key_fits NewSequence = fits_by NewSequence refl refl
key_fits Sequence = fits_by Sequence refl refl
key_fits SequenceOrNone = fits_by SequenceOrNone refl refl
key_fits Provider = fits_by Provider refl refl
key_fits ModeKey = fits_by ModeKey refl refl
key_fits ModeOrBlock = fits_by ModeOrBlock refl refl
key_fits Action = fits_by Action refl refl
key_fits Addr = fits_by Addr refl refl
key_fits Opt = fits_by Opt refl refl
key_fits UData = fits_by UData refl refl
key_fits Data = fits_by Data refl refl
key_fits Parts = fits_by Parts refl refl
key_fits Sizes = fits_by Sizes refl refl
key_fits Qlen = fits_by Qlen refl refl
key_fits Flags = fits_by Flags refl refl
key_fits Max = fits_by Max refl refl
key_fits Amax = fits_by Amax refl refl
key_fits Pmax = fits_by Pmax refl refl
key_fits Omax = fits_by Omax refl refl
key_fits Umax = fits_by Umax refl refl

-- ---- the fields of a call

-- the words of fields that are all written
abbrev pub field_words : List Key → List Value → List (List ℕ)
field_words [] values = []
field_words (key ∷ keys) [] = []
field_words (key ∷ keys) (value ∷ values) = field_text key value ∷ field_words keys values

pub words_are_text : (keys : List Key) (values : List Value) → fields_text keys values ≡ after_each 32 (field_words keys values)
words_are_text [] values = refl
words_are_text (key ∷ keys) [] = refl
words_are_text (key ∷ keys) (value ∷ values) = ap (λ text. 32 ∷ (field_text key value ++ text)) (words_are_text keys values)

-- each value's text is read as it there
abbrev pub AllReads : Spot → List Key → List Value → Type 0
AllReads s [] [] = Unit {0}
AllReads s [] (value ∷ values) = ⊥
AllReads s (key ∷ keys) [] = ⊥
AllReads s (key ∷ keys) (value ∷ values) = Reads s (kind_of key) value × AllReads s keys values

written_fields : (s : Spot) (keys : List Key) (values : List Value) → AllReads s keys values → AreFields s keys values (field_words keys values)
written_fields s [] [] h = tt
written_fields s [] (value ∷ values) h = absurd h
written_fields s (key ∷ keys) [] h = absurd h
written_fields s (key ∷ keys) (value ∷ values) h =
    inl (record { text = value_text value; spelled = refl; stands_for = h.0.read }, written_fields s keys values h.1)

spaceless : (s : Spot) (keys : List Key) (values : List Value) → AllReads s keys values → AllLack 32 (field_words keys values)
spaceless s [] [] h = tt
spaceless s [] (value ∷ values) h = absurd h
spaceless s (key ∷ keys) [] h = absurd h
spaceless s (key ∷ keys) (value ∷ values) h = (lacks_both 32 (key_word key) (value_text value) (key_fits key).spaceless h.0.spaceless, spaceless s keys values h.1)

endless : (s : Spot) (keys : List Key) (values : List Value) → AllReads s keys values → AllLack 10 (field_words keys values)
endless s [] [] h = tt
endless s [] (value ∷ values) h = absurd h
endless s (key ∷ keys) [] h = absurd h
endless s (key ∷ keys) (value ∷ values) h = (lacks_both 10 (key_word key) (value_text value) (key_fits key).endless h.0.endless, endless s keys values h.1)

-- fields that are all written: they are fields of these values, of words without a space or an end of a line
pub record FieldsWritten (s : Spot) (keys : List Key) (values : List Value) : Type 0 where
  pub are_fields : AreFields s keys values (field_words keys values)
  pub spaceless : AllLack 32 (field_words keys values)
  pub endless : AllLack 10 (field_words keys values)

pub fields_written : (s : Spot) (keys : List Key) (values : List Value) → AllReads s keys values → FieldsWritten s keys values
fields_written s keys values h = record { are_fields = written_fields s keys values h; spaceless = spaceless s keys values h; endless = endless s keys values h }

-- ---- fields that were read

written_reads : (s : Spot) (key : Key) (value : Value) (word : List ℕ) → Lacks 32 word → Lacks 10 word → IsWritten s key value word → Reads s (kind_of key) value
written_reads s key value word space line w =
    value_reads s (kind_of key) w.text value w.stands_for (lacks_rest 32 (key_word key) w.text (subst (Lacks 32) w.spelled space))
    (lacks_rest 10 (key_word key) w.text (subst (Lacks 10) w.spelled line))

pub fields_read : (s : Spot) (keys : List Key) (values : List Value) (words : List (List ℕ)) → AllLack 32 words → AllLack 10 words → AreFields s keys values words → AllReads s keys values
fields_read s [] [] [] space line h = tt
fields_read s [] [] (word ∷ words) space line h = absurd h
fields_read s [] (value ∷ values) words space line h = absurd h
fields_read s (key ∷ keys) [] words space line h = absurd h
fields_read s (key ∷ keys) (value ∷ values) [] space line h = (usual_reads s key value h.0, fields_read s keys values [] tt tt h.1)
fields_read s (key ∷ keys) (value ∷ values) (word ∷ words) space line (inl h) = (written_reads s key value word space.0 line.0 h.0, fields_read s keys values words space.1 line.1 h.1)
fields_read s (key ∷ keys) (value ∷ values) (word ∷ words) space line (inr h) = (usual_reads s key value h.0, fields_read s keys values (word ∷ words) space line h.1)
