-- Frames of TPI: the table of the primitives, how a frame is encoded, and the form in which it is read.
use Rattle.std.specs.Prelude.{◌≡◌, ◌≤◌, ◌<◌, ◌+◌, ◌⊎◌, ℕ, suc, zero, Bool, true, false, List, [], ◌∷◌, ◌++◌, length, map, filter, Option, Some, None, flat_map, nat_lt, nat_eq, ◌-◌, ◌&&◌, drop, if◌then◌else◌}
use Rattle.std.specs.Int.{w32, to_be_bytes}
use Rattle.std.specs.List.{AllByRecursion, list_any}
use Rattle.tpi_grammar.specs.Form.{Form, done, byte, Outcome, scan}
use Rattle.tpi_grammar.specs.Word.{meets, word, after_head}
use Rattle.tpi_grammar.specs.declared.kind.TheConstants.{MOST_CONTROL, MOST_DATA}
use Rattle.tpi_grammar.specs.declared.word.Range.{Range}

-- what stands after PRIM_type: a word up to a greatest value; or a part, by two words, its length and its offset
pub data Slot : Type 0 where
  upto : ℕ → Slot
  part : Slot

-- a row of the table: PRIM_type, what stands after it, and the most bytes of user data
pub record Row : Type 0 where
  pub number : ℕ
  pub slots : List Slot
  pub most_data : ℕ

abbrev pub any : Slot
any = upto 4294967295

-- MORE_flag
abbrev pub flag : Slot
flag = upto 1

abbrev pub row : ℕ → List Slot → ℕ → Row
row n ss d = record { number = n; slots = ss; most_data = d }

-- the primitives that may be sent as frames, by rising numbers
unfoldable pub table : List Row
table =
    row 0 (part ∷ part ∷ []) MOST_DATA
    ∷ row 1 (any ∷ part ∷ any ∷ []) MOST_DATA
    ∷ row 2 (any ∷ []) MOST_DATA
    ∷ row 3 (flag ∷ []) MOST_DATA
    ∷ row 4 (flag ∷ []) MOST_DATA
    ∷ row 6 (part ∷ any ∷ []) 0
    ∷ row 7 [] 0
    ∷ row 8 (part ∷ part ∷ []) MOST_DATA
    ∷ row 10 [] MOST_DATA
    ∷ row 11 (part ∷ part ∷ any ∷ []) MOST_DATA
    ∷ row 12 (part ∷ part ∷ []) MOST_DATA
    ∷ row 13 (any ∷ any ∷ []) MOST_DATA
    ∷ row 14 (flag ∷ []) MOST_DATA
    ∷ row 15 (flag ∷ []) MOST_DATA
    ∷ row 17 (part ∷ any ∷ []) 0
    ∷ row 18 (any ∷ any ∷ any ∷ []) 0
    ∷ row 19 (any ∷ []) 0
    ∷ row 20 (part ∷ part ∷ []) MOST_DATA
    ∷ row 21 (part ∷ part ∷ any ∷ []) 0
    ∷ row 23 [] MOST_DATA
    ∷ []

-- what a frame has at a slot
pub data Value : Type 0 where
  num : ℕ → Value
  text : List ℕ → Value

-- a row filled in: with its values, and the user data after them
pub record Filled : Type 0 where
  pub row : Row
  pub values : List Value
  pub user : List ℕ

abbrev pub AreBytes : List ℕ → Type 0
AreBytes = AllByRecursion (λ b. b < 256)

-- the values are as the slots want them
abbrev pub Fit : List Slot → List Value → Type 0
Fit [] [] = Unit {0}
Fit (upto m ∷ ss) (num n ∷ vs) = (n ≤ m) × Fit ss vs
Fit (part ∷ ss) (text bs ∷ vs) = AreBytes bs × Fit ss vs
Fit _ _ = ⊥

abbrev pub slot_size : Slot → ℕ
slot_size (upto m) = 4
slot_size part = 8

abbrev pub slots_size : List Slot → ℕ
slots_size [] = 0
slots_size (s ∷ ss) = slot_size s + slots_size ss

-- how long PRIM_type and the words are; the first part that isn't empty begins there
abbrev pub head : List Slot → ℕ
head ss = 4 + slots_size ss

-- what lies after the words, part after part
abbrev pub part_of : Value → List ℕ
part_of (num n) = []
part_of (text bs) = bs

abbrev pub parts : List Value → List ℕ
parts = flat_map part_of

-- the offset of a part of n bytes that is due at this place; an empty one has the offset 0
abbrev pub offset : ℕ → ℕ → ℕ
offset n place = if nat_eq n 0 then 0 else place

-- a word: four bytes, high byte first
abbrev pub be : ℕ → List ℕ
be = to_be_bytes w32

-- the words of the values, where the parts lie from this place on
abbrev pub words : ℕ → List Value → List ℕ
words place [] = []
words place (num n ∷ vs) = be n ++ words place vs
words place (text bs ∷ vs) = be (length bs) ++ be (offset (length bs) place) ++ words (place + length bs) vs

-- how long the control part is
abbrev pub control_size : Filled → ℕ
control_size f = head f.row.slots + length (parts f.values)

abbrev pub IsIn : Row → List Row → Type 0
IsIn r [] = ⊥
IsIn r (x ∷ xs) = (x ≡ r) ⊎ IsIn r xs

-- the row is one of the table, its values fit, and control part and user data are within their limits
pub record IsFilled (f : Filled) : Type 0 where
  pub row : IsIn f.row table
  pub values : Fit f.row.slots f.values
  pub user : AreBytes f.user
  pub room : length f.user ≤ f.row.most_data
  pub control : control_size f ≤ MOST_CONTROL

-- the length of the control part, that of the user data, the control part, and the user data
abbrev pub spelling : Filled → List ℕ
spelling f = be (control_size f) ++ be (length f.user)
    ++ be f.row.number ++ words (head f.row.slots) f.values ++ parts f.values ++ f.user

-- ---- the form in which a frame is read

abbrev pub exactly : ℕ → Range
exactly n = record { low = n; high = n }

abbrev pub at_most : ℕ → Range
at_most n = record { low = 0; high = n }

-- n bytes of any value
abbrev pub tail : ℕ → Form
tail zero = done
tail (suc n) = byte (λ b. nat_lt b 256) (λ _. tail n)

abbrev pub is_part : Slot → Bool
is_part (upto m) = false
is_part part = true

abbrev pub has_part : List Slot → Bool
has_part ss = list_any is_part ss

-- how long a part may be where these slots follow: the last part has all the bytes that are left
abbrev pub part_range : List Slot → ℕ → Range
part_range ss left = if has_part ss then at_most left else exactly left

-- the words of the slots, where parts lie from this place on and have so many bytes left
abbrev pub slots_form : List Slot → ℕ → ℕ → Form → Form
slots_form [] place left next = next
slots_form (upto m ∷ ss) place left next = word (at_most m ∷ []) (λ _. slots_form ss place left next)
slots_form (part ∷ ss) place left next = word (part_range ss left ∷ [])
    (λ n. word (exactly (offset n place) ∷ []) (λ _. slots_form ss (place + n) (left - n) next))

-- what stands after PRIM_type of this row, in a frame with these lengths of control part and user data
abbrev pub row_form : ℕ → ℕ → Row → Form
row_form size count r = slots_form r.slots (head r.slots) (size - head r.slots) (tail (size - head r.slots + count))

abbrev pub first_row : List Row → Option Row
first_row [] = None
first_row (r ∷ rs) = Some r

abbrev pub form_of : ℕ → ℕ → Option Row → Form
form_of size count None = done
form_of size count (Some r) = row_form size count r

-- the lengths of the control part that a row may have
abbrev pub size_range : Row → Range
size_range r = if has_part r.slots then record { low = head r.slots; high = MOST_CONTROL } else exactly (head r.slots)

-- the lengths of the user data that a row may have
abbrev pub data_range : Row → Range
data_range r = at_most r.most_data

abbrev pub number_range : Row → Range
number_range r = exactly r.number

-- the rows that a value of a word leaves
abbrev pub left : (Row → Range) → ℕ → List Row → List Row
left range n = filter (λ r. meets 1 n (range r))

-- a word in some row's range, and what follows for the rows that its value leaves
abbrev pub chosen : (Row → Range) → (ℕ → List Row → Form) → List Row → Form
chosen range next rows = word (map range rows) (λ n. next n (left range n rows))

-- PRIM_type, and what follows it, where these rows may have the two lengths
abbrev pub number_form : ℕ → ℕ → List Row → Form
number_form size count = chosen number_range (λ _ rs. form_of size count (first_row rs))

-- the length of the user data, and then PRIM_type, where these rows may have the length of the control part
abbrev pub count_form : ℕ → List Row → Form
count_form size = chosen data_range (λ count. number_form size count)

-- the two lengths, and then PRIM_type
unfoldable pub frame : Form
frame = chosen size_range (λ size. chosen data_range (λ count. number_form size count)) table

-- the rows whose control part may have this length
abbrev pub rows_of_size : ℕ → List Row
rows_of_size size = left size_range size table

-- those whose user data may have this length too
abbrev pub rows_of_lengths : ℕ → ℕ → List Row
rows_of_lengths size count = left data_range count (rows_of_size size)

-- the one of them with this PRIM_type
abbrev pub row_of_number : ℕ → ℕ → ℕ → Option Row
row_of_number size count number = first_row (left number_range number (rows_of_lengths size count))

-- whether the control part may have this length, and the user data one of the `unit` lengths from x * unit on
abbrev pub may_count : ℕ → ℕ → ℕ → Row → Bool
may_count size unit x r = meets 1 size (size_range r) && meets unit x (data_range r)

-- whether both may have these lengths, and PRIM_type is one of the `unit` numbers from x * unit on
abbrev pub may_number : ℕ → ℕ → ℕ → ℕ → Row → Bool
may_number size count unit x r = may_count size 1 count r && meets unit x (number_range r)

-- how a frame with these first three words is read after them
abbrev pub scan_behind : ℕ → ℕ → Row → List ℕ → Outcome
scan_behind size count r bs = after_head (scan (row_form size count r) (drop 12 bs))
