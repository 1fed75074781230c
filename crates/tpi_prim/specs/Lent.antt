-- A primitive whose fields are lent, and which primitives get no frame.
use Rattle.std.specs.Prelude.{◌≡◌, ◌<◌, ◌≤◌, ◌⊎◌, ◌↔◌, ℕ, List, [], ◌∷◌, ◌++◌, length, flat_map, Result, IfOk, IsErrOf}
use Rattle.tpi_grammar.specs.Frame.{Slot, upto, part, Row, Value, num, text, Filled, parts, words, head, be, control_size, spelling}
use Rattle.tpi_grammar.specs.declared.kind.TheConstants.{MOST_CONTROL, MOST_DATA}
use Rattle.tpi_grammar.specs.Kinds.{row_of}
use Rattle.tpi_prim.specs.Fields.{primitive_in}
use Rattle.tpi_prim.specs.Primitive.{filled, of_kind, Spells}
use Rattle.tpi_prim.specs.declared.primitive.Prim.{Prim}
use Rattle.tpi_prim.specs.declared.encoding.EncodeFail.{EncodeFail}
use Rattle.tpi_prim.specs.declared.encoding.EncodeFail.TheVariants.{TooBig}
use Rattle.tpi_prim.specs.declared.encoding.Field.{Field}
use Rattle.tpi_prim.specs.declared.encoding.Field.TheVariants.{Number, Bytes, Nothing}
use Rattle.tpi_prim.specs.declared.encoding.Lent.{Lent}

abbrev pub value_of : Field → List Value
value_of (Number n) = num n ∷ []
value_of (Bytes bs) = text bs.now ∷ []
value_of Nothing = []

abbrev pub values_of : List Field → List Value
values_of = flat_map value_of

-- how many bytes the parts have
abbrev pub parts_size : List Field → ℕ
parts_size fields = length (parts (values_of fields))

abbrev pub filled_by : Lent → Filled
filled_by lent = of_kind lent.kind (values_of lent.fields) lent.user.now

-- the length of its control part, and its frame
abbrev pub control_of : Lent → ℕ
control_of lent = control_size (filled_by lent)

abbrev pub frame_of : Lent → List ℕ
frame_of lent = spelling (filled_by lent)

-- user data that are not too long for any primitive are not too long for the row
abbrev pub FitsRow : List ℕ → Row → Type 0
FitsRow user r = length user ≤ MOST_DATA → length user ≤ r.most_data

-- what stands before the parts, with this length of the control part: the two lengths, PRIM_type and the words
abbrev pub front_of : ℕ → Lent → List ℕ
front_of control lent = be control ++ be (length lent.user.now) ++ be (row_of lent.kind).number ++ words (head (row_of lent.kind).slots) (values_of lent.fields)

-- a number or a part at each slot, and numbers within theirs
abbrev pub HasShape : List Slot → List Value → Type 0
HasShape [] [] = Unit {0}
HasShape (upto m ∷ ss) (num n ∷ vs) = (n ≤ m) × HasShape ss vs
HasShape (part ∷ ss) (text bs ∷ vs) = HasShape ss vs
HasShape _ _ = ⊥

-- the control part or the user data are over their limits
abbrev pub IsTooBig : Filled → Type 0
IsTooBig f = (MOST_CONTROL < control_size f) ⊎ (MOST_DATA < length f.user)

-- what is made of a primitive: a frame of it, a frame that it is read from, or a failure just where it is too big
abbrev pub IsSpelled : Prim → Result (List ℕ) EncodeFail → Type 0
IsSpelled p r = IfOk r (λ frame. Spells p frame)

abbrev pub ReadsBack : Prim → Result (List ℕ) EncodeFail → Type 0
ReadsBack p r = IfOk r (λ frame. primitive_in frame ≡ p)

abbrev pub FailsWhereTooBig : Prim → Result (List ℕ) EncodeFail → Type 0
FailsWhereTooBig p r = IsErrOf r TooBig ↔ IsTooBig (filled p)
