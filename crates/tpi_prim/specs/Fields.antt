-- The primitive of a frame, by the frame's bytes. Of bytes that are no frame nothing is meant.
use Rattle.std.specs.Prelude.{◌≤◌, ◌+◌, ℕ, Bool, true, false, List, [], ◌∷◌, length, take, drop, nat_eq, not}
use Rattle.std.specs.Int.{w32, from_be_bytes}
use Rattle.tpi_grammar.specs.Frame.{Slot, upto, part}
use Rattle.tpi_grammar.specs.declared.kind.Kind.{Kind}
use Rattle.tpi_grammar.specs.declared.kind.Kind.TheVariants as kind
use Rattle.tpi_prim.specs.declared.primitive.Prim.{Prim}
use Rattle.tpi_prim.specs.declared.primitive.Prim.TheVariants as prim
use Rattle.tpi_prim.specs.declared.primitive.Part.{Part}
use Rattle.tpi_prim.specs.declared.primitive.Part.TheVariants.{Opt}
use Rattle.tpi_prim.specs.Primitive.{numbered}

-- the word at a place
unfoldable pub word_in : List ℕ → ℕ → ℕ
word_in bs place = from_be_bytes w32 (take 4 (drop place bs))

-- the part whose length stands at a place, and its offset after it
unfoldable pub part_in : List ℕ → ℕ → List ℕ
part_in bs place = take (word_in bs place) (drop (8 + word_in bs (place + 4)) bs)

-- what stands after the control part
unfoldable pub user_in : List ℕ → List ℕ
user_in bs = drop (8 + word_in bs 0) bs

-- the two parts whose words stand first, and the user data
abbrev pub address_options_user : List ℕ → List ℕ × List ℕ × List ℕ
address_options_user bs = (part_in bs 12, part_in bs 20, user_in bs)

abbrev pub flag_in : List ℕ → Bool
flag_in bs = not (nat_eq (word_in bs 12) 0)

-- the primitive of a frame of this kind
abbrev pub read_as : Kind → List ℕ → Prim
read_as kind.T_CONN_REQ bs = prim.T_CONN_REQ (part_in bs 12) (part_in bs 20) (user_in bs)
read_as kind.T_CONN_RES bs = prim.T_CONN_RES (word_in bs 12) (part_in bs 16) (word_in bs 24) (user_in bs)
read_as kind.T_DISCON_REQ bs = prim.T_DISCON_REQ (word_in bs 12) (user_in bs)
read_as kind.T_DATA_REQ bs = prim.T_DATA_REQ (flag_in bs) (user_in bs)
read_as kind.T_EXDATA_REQ bs = prim.T_EXDATA_REQ (flag_in bs) (user_in bs)
read_as kind.T_BIND_REQ bs = prim.T_BIND_REQ (part_in bs 12) (word_in bs 20)
read_as kind.T_UNBIND_REQ bs = prim.T_UNBIND_REQ
read_as kind.T_UNITDATA_REQ bs = prim.T_UNITDATA_REQ (part_in bs 12) (part_in bs 20) (user_in bs)
read_as kind.T_ORDREL_REQ bs = prim.T_ORDREL_REQ (user_in bs)
read_as kind.T_CONN_IND bs = prim.T_CONN_IND (part_in bs 12) (part_in bs 20) (word_in bs 28) (user_in bs)
read_as kind.T_CONN_CON bs = prim.T_CONN_CON (part_in bs 12) (part_in bs 20) (user_in bs)
read_as kind.T_DISCON_IND bs = prim.T_DISCON_IND (word_in bs 12) (word_in bs 16) (user_in bs)
read_as kind.T_DATA_IND bs = prim.T_DATA_IND (flag_in bs) (user_in bs)
read_as kind.T_EXDATA_IND bs = prim.T_EXDATA_IND (flag_in bs) (user_in bs)
read_as kind.T_BIND_ACK bs = prim.T_BIND_ACK (part_in bs 12) (word_in bs 20)
read_as kind.T_ERROR_ACK bs = prim.T_ERROR_ACK (word_in bs 12) (word_in bs 16) (word_in bs 20)
read_as kind.T_OK_ACK bs = prim.T_OK_ACK (word_in bs 12)
read_as kind.T_UNITDATA_IND bs = prim.T_UNITDATA_IND (part_in bs 12) (part_in bs 20) (user_in bs)
read_as kind.T_UDERROR_IND bs = prim.T_UDERROR_IND (part_in bs 12) (part_in bs 20) (word_in bs 28)
read_as kind.T_ORDREL_IND bs = prim.T_ORDREL_IND (user_in bs)

-- primitives of an address, options and user data
abbrev pub is_addressed : Kind → Bool
is_addressed kind.T_CONN_REQ = true
is_addressed kind.T_UNITDATA_REQ = true
is_addressed kind.T_CONN_IND = true
is_addressed kind.T_CONN_CON = true
is_addressed kind.T_UNITDATA_IND = true
is_addressed other = false

-- primitives of numbers and user data
abbrev pub has_no_part : Kind → Bool
has_no_part kind.T_DISCON_REQ = true
has_no_part kind.T_DATA_REQ = true
has_no_part kind.T_EXDATA_REQ = true
has_no_part kind.T_DISCON_IND = true
has_no_part kind.T_DATA_IND = true
has_no_part kind.T_EXDATA_IND = true
has_no_part other = false

-- primitives of an address and a number
abbrev pub is_binding : Kind → Bool
is_binding kind.T_BIND_REQ = true
is_binding kind.T_BIND_ACK = true
is_binding other = false

-- primitives of numbers alone, or of none
abbrev pub has_numbers_alone : Kind → Bool
has_numbers_alone kind.T_UNBIND_REQ = true
has_numbers_alone kind.T_ERROR_ACK = true
has_numbers_alone kind.T_OK_ACK = true
has_numbers_alone other = false

-- the kind of a frame
unfoldable pub kind_in : List ℕ → Kind
kind_in bs = numbered (word_in bs 8)

-- the primitive of a frame
unfoldable pub primitive_in : List ℕ → Prim
primitive_in bs = read_as (kind_in bs) bs

-- the part whose length stands at a place, and its offset after it, lies within the bytes
abbrev pub HasPartAt : List ℕ → ℕ → Type 0
HasPartAt bs place = 8 + word_in bs (place + 4) + word_in bs place ≤ length bs

-- the words of the slots from a place on, and the parts that they name, lie within the bytes; each word is within its slot
abbrev pub LiesIn : List Slot → ℕ → List ℕ → Type 0
LiesIn [] place bs = place ≤ length bs
LiesIn (upto m ∷ ss) place bs = (word_in bs place ≤ m) × LiesIn ss (place + 4) bs
LiesIn (part ∷ ss) place bs = HasPartAt bs place × LiesIn ss (place + 8) bs

-- where the words of fields stand
abbrev pub seq_place : Kind → ℕ
seq_place kind.T_CONN_RES = 24
seq_place kind.T_CONN_IND = 28
seq_place kind.T_DISCON_IND = 16
seq_place _ = 12

abbrev pub reason_place : Kind → ℕ
reason_place kind.T_UDERROR_IND = 28
reason_place _ = 12

abbrev pub part_place : Part → Kind → ℕ
part_place Opt kind.T_CONN_RES = 16
part_place Opt _ = 20
part_place _ _ = 12
