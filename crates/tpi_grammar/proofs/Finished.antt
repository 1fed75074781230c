-- Each start of a frame can be finished.
use Rattle.std.proofs.Common.{◌≡◌, ◌≤◌, ◌<◌, ◌+◌, ◌*◌, ◌-◌, ℕ, suc, zero, Bool, true, false, ◌&&◌, ◌||◌, nat_lt, nat_le, nat_eq, List, [], ◌∷◌, map, cond, refl, arith}
use Rattle.std.specs.List.{list_all, AllByRecursion}
use Rattle.std.proofs.lemmas.Bool.{lt-ltb, ltb-true, leb-true, le-leb}
use Rattle.tpi_grammar.specs.Form.{Form, Live}
use Rattle.tpi_grammar.specs.Word.{meets, viable, word}
use Rattle.tpi_grammar.specs.Frame.{Row, Slot, upto, part, table, tail, slots_form, part_range, offset, has_part, head, form_of, first_row, at_most, exactly, left, chosen, size_range, data_range, number_range, frame}
use Rattle.tpi_grammar.specs.declared.word.Range.{Range}
use Rattle.tpi_grammar.proofs.WordForms.{IsRange, and_true, both, word_live}

pub is_exactly : (n k : ℕ) → meets 1 n (exactly k) ≡ true → n ≡ k
is_exactly n k e =
    let low : k < (n + 1) * 1 = ltb-true _ _ (and_true _ (nat_le (n * 1) k) e).0 in
    let high : n * 1 ≤ k = leb-true _ _ (and_true (nat_lt k ((n + 1) * 1)) _ e).1 in
    omega arith

pub meets_exactly : (n : ℕ) → meets 1 n (exactly n) ≡ true
meets_exactly n = both _ _ (lt-ltb n ((n + 1) * 1) (omega arith)) (le-leb (n * 1) n (omega arith))

pub is_at_most : (n k : ℕ) → meets 1 n (at_most k) ≡ true → n ≤ k
is_at_most n k e = let high : n * 1 ≤ k = leb-true _ _ (and_true (nat_lt 0 ((n + 1) * 1)) _ e).1 in omega arith

pub meets_at_most : (n k : ℕ) → n ≤ k → meets 1 n (at_most k) ≡ true
meets_at_most n k h = both _ _ (lt-ltb 0 ((n + 1) * 1) (omega arith)) (le-leb (n * 1) k (omega (arith, h)))

pub alone : (r : Range) (n : ℕ) → viable (r ∷ []) 1 n ≡ true → meets 1 n r ≡ true
alone r n e = go (meets 1 n r) e
  where
    go : (t : Bool) → (t || false) ≡ true → t ≡ true
    go true e = refl
    go false e = cc

pub tail_live : (n : ℕ) → Live (tail n)
tail_live zero = tt
tail_live (suc n) = ((0, refl), λ _ _. tail_live n)

abbrev pub IsSlot : Slot → Type 0
IsSlot (upto m) = m < 4294967296
IsSlot part = Unit {0}

part_sound : (t : Bool) (left : ℕ) → left < 4294967296 → IsRange (cond t (at_most left) (exactly left))
part_sound true left lt = (omega arith, lt)
part_sound false left lt = (omega arith, lt)

pub part_within : (t : Bool) (left n : ℕ) → viable (cond t (at_most left) (exactly left) ∷ []) 1 n ≡ true → n ≤ left
part_within true left n e = is_at_most n left (alone (at_most left) n e)
part_within false left n e = let is = is_exactly n left (alone (exactly left) n e) in omega arith

offset_small : (n place : ℕ) → place < 4294967296 → offset n place < 4294967296
offset_small n place lt = go (nat_eq n 0)
  where
    go : (t : Bool) → cond t 0 place < 4294967296
    go true = omega arith
    go false = lt

slots_live : (ss : List Slot) (place left : ℕ) (next : Form) → AllByRecursion IsSlot ss → place + left < 4294967296 → Live next → Live (slots_form ss place left next)
slots_live [] place left next h lt live = live
slots_live (upto m ∷ ss) place left next h lt live =
    word_live (at_most m) [] (λ _. slots_form ss place left next) ((omega arith, h.0), tt) (λ _ _. slots_live ss place left next h.1 lt live)
slots_live (part ∷ ss) place left next h lt live =
    word_live (part_range ss left) [] (λ n. word (exactly (offset n place) ∷ []) (λ _. slots_form ss (place + n) (left - n) next))
    (part_sound (has_part ss) left (omega (arith, lt)), tt)
    (λ n e. let within : n ≤ left = part_within (has_part ss) left n e in
    word_live (exactly (offset n place)) [] (λ _. slots_form ss (place + n) (left - n) next) ((omega arith, offset_small n place (omega (arith, lt))), tt)
    (λ _ _. slots_live ss (place + n) (left - n) next h.1 (omega (arith, lt, within)) live))

-- rows for which each choice leaves a form that can be finished
kept_ranges : (range : Row → Range) (n : ℕ) (rows : List Row) (P : Row → Type 0) → AllByRecursion P rows → AllByRecursion P (left range n rows)
kept_ranges range n [] P h = tt
kept_ranges range n (r ∷ rs) P h = go (meets 1 n (range r)) (kept_ranges range n rs P h.1)
  where
    go : (t : Bool) → AllByRecursion P (left range n rs) → AllByRecursion P (cond t (r ∷ left range n rs) (left range n rs))
    go true more = (h.0, more)
    go false more = more

ranges_of : (range : Row → Range) (rows : List Row) → AllByRecursion (λ r. IsRange (range r)) rows → AllByRecursion IsRange (map range rows)
ranges_of range [] h = tt
ranges_of range (r ∷ rs) h = (h.0, ranges_of range rs h.1)

pub data Some_left : List Row → Type 0 where
  some : (r : Row) (rs : List Row) → Some_left (r ∷ rs)

pub some_left : (range : Row → Range) (n : ℕ) (rows : List Row) → viable (map range rows) 1 n ≡ true → Some_left (left range n rows)
some_left range n [] e = absurd (cc)
some_left range n (r ∷ rs) e = go (meets 1 n (range r)) refl (λ h. some_left range n rs h)
  where
    go : (t : Bool) → meets 1 n (range r) ≡ t → (viable (map range rs) 1 n ≡ true → Some_left (left range n rs)) → Some_left (cond t (r ∷ left range n rs) (left range n rs))
    go true is again = some r _
    go false is again = again (rw is at e)

small_in : (rs : List Range) (n : ℕ) → AllByRecursion IsRange rs → viable rs 1 n ≡ true → n < 4294967296
small_in [] n h e = absurd (cc)
small_in (r ∷ rs) n h e = go (meets 1 n r) refl (λ g. small_in rs n h.1 g)
  where
    go : (t : Bool) → meets 1 n r ≡ t → (viable rs 1 n ≡ true → n < 4294967296) → n < 4294967296
    go true is again = let high : n * 1 ≤ r.high = leb-true _ _ (and_true (nat_lt r.low ((n + 1) * 1)) _ is).1 in omega (arith, high, h.0.1)
    go false is again = again (rw is at e)

chosen_live : (range : Row → Range) (next : ℕ → List Row → Form) (P : Row → Type 0) (rows : List Row) → Some_left rows
    → AllByRecursion P rows → ((r : Row) → P r → IsRange (range r))
    → ((n : ℕ) (rs : List Row) → n < 4294967296 → Some_left rs → AllByRecursion P rs → Live (next n rs))
    → Live (chosen range next rows)
chosen_live range next P rows (some r rs) h sound live =
    let ranges = ranges_of range (r ∷ rs) (weaken (r ∷ rs) h) in
    word_live (range r) (map range rs) (λ n. next n (left range n (r ∷ rs))) ranges
    (λ n e. live n (left range n (r ∷ rs)) (small_in (map range (r ∷ rs)) n ranges e) (some_left range n (r ∷ rs) e) (kept_ranges range n (r ∷ rs) P h))
  where
    weaken : (xs : List Row) → AllByRecursion P xs → AllByRecursion (λ r. IsRange (range r)) xs
    weaken [] g = tt
    weaken (x ∷ xs) g = (sound x g.0, weaken xs g.1)

-- a row's numbers are of 32 bits
pub record IsRow (r : Row) : Type 0 where
  pub size : head r.slots ≤ 1024
  pub number : r.number < 4294967296
  pub slots : AllByRecursion IsSlot r.slots
  pub most_data : r.most_data < 4294967296

abbrev is_slot : Slot → Bool
is_slot (upto m) = nat_lt m 4294967296
is_slot part = true

abbrev is_row : Row → Bool
is_row r = nat_le (head r.slots) 1024 && (nat_lt r.number 4294967296 && (list_all is_slot r.slots && nat_lt r.most_data 4294967296))

slots_by_test : (ss : List Slot) → list_all is_slot ss ≡ true → AllByRecursion IsSlot ss
slots_by_test [] e = tt
slots_by_test (upto m ∷ ss) e = let p = and_true (nat_lt m 4294967296) _ e in (ltb-true m _ p.0, slots_by_test ss p.1)
slots_by_test (part ∷ ss) e = (tt, slots_by_test ss e)

row_by_test : (r : Row) → is_row r ≡ true → IsRow r
row_by_test r e =
    let p = and_true (nat_le (head r.slots) 1024) _ e in
    let q = and_true (nat_lt r.number 4294967296) _ p.1 in
    let s = and_true (list_all is_slot r.slots) _ q.1 in
    record { size = leb-true _ _ p.0; number = ltb-true _ _ q.0; slots = slots_by_test r.slots s.0; most_data = ltb-true _ _ s.1 }

rows_by_test : (rs : List Row) → list_all is_row rs ≡ true → AllByRecursion IsRow rs
rows_by_test [] e = tt
rows_by_test (r ∷ rs) e = let p = and_true (is_row r) _ e in (row_by_test r p.0, rows_by_test rs p.1)

-- the test computes over the whole table
pub table_is : AllByRecursion IsRow table
unfolding table
table_is = rows_by_test table refl

size_sound : (r : Row) → IsRow r → IsRange (size_range r)
size_sound r h = go (has_part r.slots)
  where
    go : (t : Bool) → IsRange (cond t (record { low = head r.slots; high = 1024 }) (exactly (head r.slots)))
    go true = (h.size, omega arith)
    go false = (omega arith, omega (arith, h.size))

first_live : (c d : ℕ) (rs : List Row) → c < 4294967296 → Some_left rs → AllByRecursion IsRow rs → Live (form_of c d (first_row rs))
first_live c d rs lt (some r more) h =
    slots_live r.slots (head r.slots) (c - head r.slots) (tail (c - head r.slots + d)) h.0.slots (omega (arith, lt, h.0.size)) (tail_live (c - head r.slots + d))

table_some : Some_left table
unfolding table
table_some = some _ _

pub frame_live : Live frame
unfolding frame
frame_live = chosen_live size_range _ IsRow table table_some table_is size_sound
    (λ c rs lt more h. chosen_live data_range _ IsRow rs more h (λ r g. (omega arith, g.most_data))
    (λ d ss _ still g. chosen_live number_range _ IsRow ss still g (λ r k. (omega arith, k.number))
    (λ _ ts _ last k. first_live c d ts lt last k)))
