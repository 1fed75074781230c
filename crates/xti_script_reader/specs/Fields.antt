-- The fields of calls, in a fixed order: words without a key, and words `key=value`. Those with a usual value may be left out.
use Rattle.std.specs.Prelude.{◌≡◌, ℕ, false, List, [], ◌∷◌, ◌++◌, codes, ◌⊎◌, Option, Some, None}
use Rattle.xti_base.specs.declared.limits.TheConstants.{MOST_SEND, MOST_ADDRESS, MOST_OPTIONS, MOST_CONNECT_DATA}
use Rattle.xti_script_reader.specs.Kinds.{Kind}
use Rattle.xti_script_reader.specs.Kinds.{Kind as kind}
use Rattle.xti_script_reader.specs.FieldValue.{Value}
use Rattle.xti_script_reader.specs.FieldValue.{Value as value}
use Rattle.xti_script_reader.specs.declared.fields.Key.{Key}
use Rattle.xti_script_reader.specs.declared.fields.Key.TheVariants.{NewEndpoint, Endpoint, NewSequence, Sequence, SequenceOrNone, Provider, Mode, ModeOrBlock, Action, Addr, Opt, UData, Data, Parts, Sizes, Qlen, Flags, Max, Amax, Pmax, Omax, Umax}
use Rattle.xti_script_reader.specs.Names.{Spot}
use Rattle.xti_script_reader.specs.Values.{value_in}

-- a field: its key with the sign, or nothing; the kind of its value; the value where it is left out, none where it must stand
pub record Field : Type 0 where
  pub word : List ℕ
  pub kind : Kind
  pub usual : Option Value

-- the table of fields
unfoldable pub field : Key → Field
field NewEndpoint = record { word = []; kind = kind.NewEndpoint; usual = None }
field Endpoint = record { word = []; kind = kind.Endpoint; usual = None }
field NewSequence = record { word = []; kind = kind.NewSequence; usual = None }
field Sequence = record { word = []; kind = kind.Sequence; usual = None }
field SequenceOrNone = record { word = []; kind = kind.SequenceOrNone; usual = None }
field Provider = record { word = []; kind = kind.Provider; usual = None }
field Mode = record { word = []; kind = kind.Mode; usual = None }
field ModeOrBlock = record { word = []; kind = kind.Mode; usual = Some (value.Mode false) }
field Action = record { word = []; kind = kind.Action; usual = None }
field Addr = record { word = codes "addr="; kind = kind.Bytes; usual = Some (value.Bytes []) }
field Opt = record { word = codes "opt="; kind = kind.Options; usual = Some (value.Bytes []) }
field UData = record { word = codes "udata="; kind = kind.Bytes; usual = Some (value.Bytes []) }
field Data = record { word = codes "data="; kind = kind.Bytes; usual = None }
field Parts = record { word = codes "parts="; kind = kind.Parts; usual = None }
field Sizes = record { word = codes "sizes="; kind = kind.Sizes; usual = None }
field Qlen = record { word = codes "qlen="; kind = kind.Number; usual = Some (value.Number 0) }
field Flags = record { word = codes "flags="; kind = kind.Number; usual = Some (value.Number 0) }
field Max = record { word = codes "max="; kind = kind.Number; usual = Some (value.Number MOST_SEND) }
field Amax = record { word = codes "amax="; kind = kind.Number; usual = Some (value.Number MOST_ADDRESS) }
field Pmax = record { word = codes "pmax="; kind = kind.Number; usual = Some (value.Number MOST_ADDRESS) }
field Omax = record { word = codes "omax="; kind = kind.Number; usual = Some (value.Number MOST_OPTIONS) }
field Umax = record { word = codes "umax="; kind = kind.Number; usual = Some (value.Number MOST_CONNECT_DATA) }

abbrev pub key_word : Key → List ℕ
key_word key = (field key).word

abbrev pub kind_of : Key → Kind
kind_of key = (field key).kind

abbrev pub usual_value : Key → Option Value
usual_value key = (field key).usual

-- the word of a line there is the field with this value
pub record IsWritten (s : Spot) (key : Key) (value : Value) (word : List ℕ) : Type 0 where
  pub text : List ℕ
  pub spelled : word ≡ key_word key ++ text
  pub stands_for : value_in s (kind_of key) text ≡ Some value

abbrev pub IsLeftOut : Key → Value → Type 0
IsLeftOut key value = usual_value key ≡ Some value

-- the words are the fields with these values in order, each written or left out
abbrev pub AreFields : Spot → List Key → List Value → List (List ℕ) → Type 0
AreFields s [] [] [] = Unit {0}
AreFields s [] [] (word ∷ words) = ⊥
AreFields s [] (value ∷ values) words = ⊥
AreFields s (key ∷ keys) [] words = ⊥
AreFields s (key ∷ keys) (value ∷ values) [] = IsLeftOut key value × AreFields s keys values []
AreFields s (key ∷ keys) (value ∷ values) (word ∷ words) =
    (IsWritten s key value word × AreFields s keys values words) ⊎ (IsLeftOut key value × AreFields s keys values (word ∷ words))
