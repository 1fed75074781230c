-- The fields of lines: each is one word, with a key or without.
use Rattle.std.specs.Prelude.{ℕ, ◌<◌, All, List, [], ◌∷◌, codes}
use Rattle.xti_base.specs.declared.limit.Limit.TheVariants as limit
use Rattle.xti_base.specs.declared.errno.Errno.TheVariants as errno
use Rattle.xti_journal.specs.Kinds.{Kind}
use Rattle.xti_journal.specs.Kinds.{Kind as kind}
use Rattle.xti_journal.specs.FieldValue.{Value}
use Rattle.xti_journal.specs.FieldValue.{Value as value}
use Rattle.xti_journal.specs.declared.fields.Key.{Key}
use Rattle.xti_journal.specs.declared.fields.Key.TheVariants as key

-- a field: its key with the sign, or nothing, and the kind of its value
pub record Field : Type 0 where
  pub word : List ℕ
  pub kind : Kind

-- the table of fields
unfoldable pub field : Key → Field
field key.Number = record { word = []; kind = kind.Number }
field key.Bytes = record { word = []; kind = kind.Bytes }
field key.Provider = record { word = []; kind = kind.Provider }
field key.Mode = record { word = []; kind = kind.Mode }
field key.Limit = record { word = []; kind = kind.Limit }
field key.Service = record { word = []; kind = kind.Service }
field key.State = record { word = []; kind = kind.State }
field key.Event = record { word = []; kind = kind.Event }
field key.EventOrNone = record { word = []; kind = kind.EventOrNone }
field key.Errno = record { word = []; kind = kind.Errno }
field key.Addr = record { word = codes "addr="; kind = kind.Bytes }
field key.Opt = record { word = codes "opt="; kind = kind.Bytes }
field key.UData = record { word = codes "udata="; kind = kind.Bytes }
field key.Data = record { word = codes "data="; kind = kind.Bytes }
field key.Parts = record { word = codes "parts="; kind = kind.Parts }
field key.Sizes = record { word = codes "sizes="; kind = kind.Sizes }
field key.Qlen = record { word = codes "qlen="; kind = kind.Number }
field key.Flags = record { word = codes "flags="; kind = kind.Number }
field key.Max = record { word = codes "max="; kind = kind.Number }
field key.Amax = record { word = codes "amax="; kind = kind.Number }
field key.Pmax = record { word = codes "pmax="; kind = kind.Number }
field key.Omax = record { word = codes "omax="; kind = kind.Number }
field key.Umax = record { word = codes "umax="; kind = kind.Number }
field key.Tsdu = record { word = codes "tsdu="; kind = kind.Limit }
field key.SendZero = record { word = codes "sendzero="; kind = kind.Truth }
field key.SameAddr = record { word = codes "same_addr="; kind = kind.Truth }
field key.SndBuf = record { word = codes "sndbuf="; kind = kind.Number }
field key.RcvBuf = record { word = codes "rcvbuf="; kind = kind.Number }
field key.RelData = record { word = codes "reldata="; kind = kind.Truth }

abbrev pub key_word : Key → List ℕ
key_word key = (field key).word

abbrev pub kind_of : Key → Kind
kind_of key = (field key).kind

-- a number of 32 bits
abbrev pub IsNumber : ℕ → Type 0
IsNumber n = n < 4294967296

abbrev pub AreBytes : List ℕ → Type 0
AreBytes bytes = All (λ b. b < 256) bytes

-- the value is one of this kind: numbers have 32 bits, and TLOOK and TBUFOVFLW stand with a field of their own
abbrev pub IsOfKind : Kind → Value → Type 0
IsOfKind kind.Number (value.Number n) = IsNumber n
IsOfKind kind.Bytes (value.Bytes bytes) = AreBytes bytes
IsOfKind kind.Parts (value.Parts parts) = All AreBytes parts
IsOfKind kind.Sizes (value.Sizes sizes) = All IsNumber sizes
IsOfKind kind.Truth (value.Truth t) = Unit {0}
IsOfKind kind.Provider (value.Provider prov) = Unit {0}
IsOfKind kind.Mode (value.Mode nonblock) = Unit {0}
IsOfKind kind.Limit (value.Limit (limit.At n)) = IsNumber n
IsOfKind kind.Limit (value.Limit other) = Unit {0}
IsOfKind kind.Service (value.Service service) = Unit {0}
IsOfKind kind.State (value.State state) = Unit {0}
IsOfKind kind.Event (value.Event event) = Unit {0}
IsOfKind kind.EventOrNone (value.EventOrNone event) = Unit {0}
IsOfKind kind.Errno (value.Errno errno.TLOOK) = ⊥
IsOfKind kind.Errno (value.Errno errno.TBUFOVFLW) = ⊥
IsOfKind kind.Errno (value.Errno other) = Unit {0}
IsOfKind other value = ⊥

-- the values are those of fields with these keys, in their order
abbrev pub AreFields : List Key → List Value → Type 0
AreFields [] [] = Unit {0}
AreFields (key ∷ keys) (value ∷ values) = IsOfKind (kind_of key) value × AreFields keys values
AreFields keys values = ⊥
