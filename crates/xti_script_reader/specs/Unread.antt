-- Fields that are read one after the other, and the call that their values make.
use Rattle.std.specs.Prelude.{◌≡◌, ℕ, Bool, true, false, List, [], ◌∷◌, ◌⊎◌, Option, Some, None, Result, Ok, Err}
use Rattle.xti_model.specs.declared.script.NamedCall.{NamedCall}
use Rattle.xti_script_reader.specs.Kinds.{Kind}
use Rattle.xti_script_reader.specs.Kinds.{Kind as kind}
use Rattle.xti_script_reader.specs.FieldValue.{Value}
use Rattle.xti_script_reader.specs.FieldValue.{Value as value}
use Rattle.xti_script_reader.specs.declared.fields.Key.{Key}
use Rattle.xti_script_reader.specs.declared.fields.Usual.{Usual}
use Rattle.xti_script_reader.specs.declared.fields.Usual.TheVariants as usual
use Rattle.xti_script_reader.specs.declared.fields.Fields.{Fields}
use Rattle.xti_words.specs.declared.noted.FieldFail.{FieldFail}
use Rattle.xti_words.specs.declared.noted.FieldFail.TheVariants.{Wrong, OutOfMemory}
use Rattle.xti_words.specs.Noted.{left, Keeps}
use Rattle.xti_script_reader.specs.Names.{Spot, after}
use Rattle.xti_words.specs.Values.{onto}
use Rattle.xti_verbs.specs.declared.verb.Verb.{Verb}
use Rattle.xti_script_reader.specs.Reading.{written_value, fields_of, with_values}

abbrev pub usual_is : Usual → Value
usual_is usual.Empty = value.Bytes []
usual_is (usual.Number number) = value.Number number
usual_is usual.Blocking = value.Mode false

-- where the line stands whose fields these are
abbrev pub spot_of : Fields → Spot
spot_of fields = after fields.draft.now fields.worker

-- the values that the words give the fields that are not read yet, or none after one that is wrong
abbrev pub unread : Fields → Option (List Value)
unread fields = left fields.noted.is_wrong (fields_of (spot_of fields) fields.keys.now fields.words)

-- the next field was taken, with this key and this word: its value is the first of those that were not read
pub record TakesField (old new : Fields) (key : Key) (text : Option (List ℕ)) : Type 0 where
  pub spot : spot_of new ≡ spot_of old
  pub keys : old.keys.now ≡ key ∷ new.keys.now
  pub noted : new.noted ≡ old.noted
  pub value : unread old ≡ onto (written_value (spot_of old) key text) (unread new)

-- the next field has this key
abbrev pub IsNext : Key → List Key → Type 0
IsNext key [] = ⊥
IsNext key (next ∷ keys) = next ≡ key

-- a name is of one of these kinds
abbrev pub is_naming : Kind → Bool
is_naming kind.NewEndpoint = true
is_naming kind.Endpoint = true
is_naming kind.NewSequence = true
is_naming kind.Sequence = true
is_naming other = false

-- these are written as bytes
abbrev pub are_bytes : Kind → Bool
are_bytes kind.Bytes = true
are_bytes kind.Options = true
are_bytes other = false

-- these are numbers
abbrev pub are_number : Kind → Bool
are_number kind.Number = true
are_number kind.Action = true
are_number other = false

-- the value is the first of those that were not read, which the others follow; or memory ran out
abbrev pub Reads : Value → Fields → Fields → Type 0
Reads value old new = Keeps old.noted new.noted (unread old ≡ onto (Some value) (unread new))

-- the call, where no value is left
abbrev pub alone : NamedCall → Option (List Value) → Option NamedCall
alone call None = None
alone call (Some []) = Some call
alone call (Some (value ∷ values)) = None

-- the call is the one that the values make, where no value is left; or memory ran out
abbrev pub Makes : Verb → NamedCall → Fields → Fields → Type 0
Makes verb call old new = Keeps old.noted new.noted (with_values verb (unread old) ≡ alone call (unread new))

-- no value is left; or there are none; or memory ran out
abbrev pub EndsAs : {A : Type 0} → Fields → Result A FieldFail → Type 0
EndsAs fields (Ok read) = (fields.noted.ran_out ≡ false) × (unread fields ≡ Some [])
EndsAs fields (Err Wrong) = (fields.noted.ran_out ≡ false) × (unread fields ≡ None)
EndsAs fields (Err OutOfMemory) = Unit {0}
