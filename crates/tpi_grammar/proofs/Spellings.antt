-- The form of a frame has the encodings of primitives, and nothing else.
use Rattle.std.proofs.Common.{◌≡◌, ◌≤◌, ◌<◌, ◌+◌, ◌*◌, ℕ, suc, zero, Bool, true, false, ◌&&◌, nat_lt, nat_le, List, [], ◌∷◌, ◌++◌, length, take, drop, length-drop, take-append-drop, length-append, map, nat_eq, ◌-◌, cond, refl, sym, ◌∙◌, ap, arith, inl, inr, subst, append_assoc}
use Rattle.std.specs.List.{list_all, AllByRecursion}
use Rattle.std.proofs.lemmas.Bool.{lt-ltb, ltb-true, leb-true, le-leb}
use Rattle.std.proofs.lemmas.List.{length-take-le}
use Rattle.tpi_grammar.specs.Form.{Form, In}
use Rattle.tpi_grammar.specs.Word.{meets, viable, word}
use Rattle.tpi_grammar.specs.Frame.{Row, Slot, upto, part, Value, num, text, table, Filled, IsFilled, IsIn, Fit, AreBytes, spelling, be, words, parts, tail, slots_form, part_range, offset, has_part, head, row_form, form_of, first_row, number_form, at_most, exactly, left, chosen, size_range, data_range, number_range, control_size, frame}
use Rattle.tpi_grammar.specs.declared.word.Range.{Range}
use Rattle.tpi_grammar.proofs.WordForms.{and_true, both, or_left, or_right}
use Rattle.tpi_grammar.proofs.SpelledWords.{word_is, word_has}
use Rattle.tpi_grammar.proofs.Finished.{is_exactly, meets_exactly, is_at_most, meets_at_most, alone, part_within, Some_left, some, some_left, IsSlot, IsRow, table_is}

-- ---- which rows a value leaves

pub left_in : (range : Row → Range) (n : ℕ) (r : Row) (rows : List Row) → IsIn r (left range n rows) → (meets 1 n (range r) ≡ true) × IsIn r rows
left_in range n r [] i = absurd i
left_in range n r (x ∷ xs) i = go (meets 1 n (range x)) refl i (λ h. left_in range n r xs h)
  where
    go : (t : Bool) → meets 1 n (range x) ≡ t → IsIn r (cond t (x ∷ left range n xs) (left range n xs))
        → (IsIn r (left range n xs) → (meets 1 n (range r) ≡ true) × IsIn r xs) → (meets 1 n (range r) ≡ true) × IsIn r (x ∷ xs)
    go true is (inl e) again = (subst (λ y. meets 1 n (range y) ≡ true) e is, inl e)
    go true is (inr h) again = ((again h).0, inr (again h).1)
    go false is h again = ((again h).0, inr (again h).1)

pub left_has : (range : Row → Range) (n : ℕ) (r : Row) (rows : List Row) → IsIn r rows → meets 1 n (range r) ≡ true → IsIn r (left range n rows)
left_has range n r [] i met = elim i [ ]
left_has range n r (x ∷ xs) (inl e) met = go (meets 1 n (range x)) (subst (λ y. meets 1 n (range y) ≡ true) (sym e) met)
  where
    go : (t : Bool) → t ≡ true → IsIn r (cond t (x ∷ left range n xs) (left range n xs))
    go true is = inl e
    go false is = absurd (cc)
left_has range n r (x ∷ xs) (inr h) met = go (meets 1 n (range x)) (left_has range n r xs h met)
  where
    go : (t : Bool) → IsIn r (left range n xs) → IsIn r (cond t (x ∷ left range n xs) (left range n xs))
    go true more = inr more
    go false more = more

pub viable_in : (range : Row → Range) (n : ℕ) (r : Row) (rows : List Row) → IsIn r rows → meets 1 n (range r) ≡ true → viable (map range rows) 1 n ≡ true
viable_in range n r [] i met = elim i [ ]
viable_in range n r (x ∷ xs) (inl e) met = or_left _ _ (subst (λ y. meets 1 n (range y) ≡ true) (sym e) met)
viable_in range n r (x ∷ xs) (inr h) met = or_right _ _ (viable_in range n r xs h met)

-- ---- the words and the tail

abbrev FitLens : List Slot → List ℕ → Type 0
FitLens [] [] = Unit {0}
FitLens (upto m ∷ ss) (n ∷ ns) = (n ≤ m) × FitLens ss ns
FitLens (part ∷ ss) (n ∷ ns) = FitLens ss ns
FitLens _ _ = ⊥

-- the words, by the numbers and the lengths of the parts
abbrev lens_words : List Slot → ℕ → List ℕ → List ℕ
lens_words (upto m ∷ ss) place (n ∷ ns) = be n ++ lens_words ss place ns
lens_words (part ∷ ss) place (n ∷ ns) = be n ++ be (offset n place) ++ lens_words ss (place + n) ns
lens_words _ place _ = []

abbrev total : List Slot → List ℕ → ℕ
total (upto m ∷ ss) (n ∷ ns) = total ss ns
total (part ∷ ss) (n ∷ ns) = n + total ss ns
total _ _ = 0

abbrev cut : List Slot → List ℕ → List ℕ → List Value
cut (upto m ∷ ss) (n ∷ ns) bs = num n ∷ cut ss ns bs
cut (part ∷ ss) (n ∷ ns) bs = text (take n bs) ∷ cut ss ns (drop n bs)
cut _ _ bs = []

record HasSlots (ss : List Slot) (place left : ℕ) (next : Form) (ws : List ℕ) : Type 0 where
  lens : List ℕ
  rest : List ℕ
  fit : FitLens ss lens
  sum : total ss lens ≡ left
  text : ws ≡ lens_words ss place lens ++ rest
  inner : In next rest

-- the length that the range allows, and what is left after it
part_rest : (ss : List Slot) (left n : ℕ) → viable (part_range ss left ∷ []) 1 n ≡ true → (n ≤ left) × (has_part ss ≡ false → left - n ≡ 0)
part_rest ss left n e = (part_within (has_part ss) left n e, λ none. last (rw none at e))
  where
    last : viable (exactly left ∷ []) 1 n ≡ true → left - n ≡ 0
    last h = let is = is_exactly n left (alone (exactly left) n h) in omega arith

slots_is : (ss : List Slot) (place left : ℕ) (next : Form) (ws : List ℕ) → (has_part ss ≡ false → left ≡ 0)
    → In (slots_form ss place left next) ws → HasSlots ss place left next ws
slots_is [] place left next ws none i = record { lens = []; rest = ws; fit = tt; sum = sym (none refl); text = refl; inner = i }
slots_is (upto m ∷ ss) place left next ws none i =
    let w = word_is (at_most m ∷ []) (λ _. slots_form ss place left next) ws i in
    let more = slots_is ss place left next w.rest none w.inner in
    record {
      lens = w.value ∷ more.lens;
      rest = more.rest;
      fit = (is_at_most w.value m (alone (at_most m) w.value w.met), more.fit);
      sum = more.sum;
      text = w.text ∙ ap (λ bs. be w.value ++ bs) more.text ∙ sym (append_assoc (be w.value) (lens_words ss place more.lens) more.rest);
      inner = more.inner;
    }
slots_is (part ∷ ss) place left next ws none i =
    let w = word_is (part_range ss left ∷ []) (λ n. word (exactly (offset n place) ∷ []) (λ _. slots_form ss (place + n) (left - n) next)) ws i in
    let o = word_is (exactly (offset w.value place) ∷ []) (λ _. slots_form ss (place + w.value) (left - w.value) next) w.rest w.inner in
    let within = part_rest ss left w.value w.met in
    let more = slots_is ss (place + w.value) (left - w.value) next o.rest within.1 o.inner in
    let at : o.value ≡ offset w.value place = is_exactly o.value _ (alone (exactly (offset w.value place)) o.value o.met) in
    record {
      lens = w.value ∷ more.lens;
      rest = more.rest;
      fit = more.fit;
      sum = omega (arith, more.sum, within.0);
      text = two ws (be w.value) (be o.value) (be (offset w.value place)) w.rest o.rest (lens_words ss (place + w.value) more.lens) more.rest w.text o.text more.text (ap be at);
      inner = more.inner;
    }
  where
    two : (ws a b b' w1 w2 l r : List ℕ) → ws ≡ a ++ w1 → w1 ≡ b ++ w2 → w2 ≡ l ++ r → b ≡ b' → ws ≡ a ++ b' ++ l ++ r
    two ws a b b' w1 w2 l r e1 e2 e3 e4 = e1 ∙ rw (e2, e3, e4) (simp append_assoc)

-- ---- the parts, cut by their lengths

take_bytes : (n : ℕ) (bs : List ℕ) → AreBytes bs → AreBytes (take n bs)
take_bytes zero bs h = tt
take_bytes (suc n) [] h = tt
take_bytes (suc n) (b ∷ bs) h = (h.0, take_bytes n bs h.1)

drop_bytes : (n : ℕ) (bs : List ℕ) → AreBytes bs → AreBytes (drop n bs)
drop_bytes zero bs h = h
drop_bytes (suc n) [] h = h
drop_bytes (suc n) (b ∷ bs) h = drop_bytes n bs h.1

cut_fit : (ss : List Slot) (ns bs : List ℕ) → FitLens ss ns → AreBytes bs → Fit ss (cut ss ns bs)
cut_fit [] [] bs h all = tt
cut_fit [] (n ∷ ns) bs h all = elim h [ ]
cut_fit (upto m ∷ ss) [] bs h all = elim h [ ]
cut_fit (part ∷ ss) [] bs h all = elim h [ ]
cut_fit (upto m ∷ ss) (n ∷ ns) bs h all = (h.0, cut_fit ss ns bs h.1 all)
cut_fit (part ∷ ss) (n ∷ ns) bs h all = (take_bytes n bs all, cut_fit ss ns (drop n bs) h (drop_bytes n bs all))

cut_parts : (ss : List Slot) (ns bs : List ℕ) → FitLens ss ns → length bs ≡ total ss ns → parts (cut ss ns bs) ≡ bs
cut_parts [] [] [] h e = refl
cut_parts [] [] (b ∷ bs) h e = absurd (omega (arith, e))
cut_parts [] (n ∷ ns) bs h e = elim h [ ]
cut_parts (upto m ∷ ss) [] bs h e = elim h [ ]
cut_parts (part ∷ ss) [] bs h e = elim h [ ]
cut_parts (upto m ∷ ss) (n ∷ ns) bs h e = cut_parts ss ns bs h.1 e
cut_parts (part ∷ ss) (n ∷ ns) bs h e =
    ap (λ cs. take n bs ++ cs) (cut_parts ss ns (drop n bs) h (omega (arith, e, length-drop n bs))) ∙ take-append-drop n bs

cut_words : (ss : List Slot) (ns bs : List ℕ) (place : ℕ) → FitLens ss ns → length bs ≡ total ss ns → words place (cut ss ns bs) ≡ lens_words ss place ns
cut_words [] [] bs place h e = refl
cut_words [] (n ∷ ns) bs place h e = elim h [ ]
cut_words (upto m ∷ ss) [] bs place h e = elim h [ ]
cut_words (part ∷ ss) [] bs place h e = elim h [ ]
cut_words (upto m ∷ ss) (n ∷ ns) bs place h e = ap (λ cs. be n ++ cs) (cut_words ss ns bs place h.1 e)
cut_words (part ∷ ss) (n ∷ ns) bs place h e =
    let long : length (take n bs) ≡ n = length-take-le n bs (omega (arith, e)) in
    rw long (ap (λ cs. be n ++ be (offset n place) ++ cs) (cut_words ss ns (drop n bs) (place + n) h (omega (arith, e, length-drop n bs))))

tail_is : (n : ℕ) (ws : List ℕ) → In (tail n) ws → (length ws ≡ n) × AreBytes ws
tail_is zero [] i = (refl, tt)
tail_is zero (b ∷ bs) i = absurd i
tail_is (suc n) [] i = absurd i
tail_is (suc n) (b ∷ bs) i = let more = tail_is n bs i.1 in (ap suc more.0, (ltb-true b 256 i.0, more.1))

tail_has : (ws : List ℕ) → AreBytes ws → In (tail (length ws)) ws
tail_has [] h = tt
tail_has (b ∷ bs) h = (lt-ltb b 256 h.0, tail_has bs h.1)

-- ---- rows are known by their numbers

abbrev pub rising : List Row → Bool
rising [] = true
rising (r ∷ rs) = list_all (λ (x : Row). nat_lt r.number x.number) rs && rising rs

above : (n : ℕ) (y : Row) (rs : List Row) → list_all (λ (x : Row). nat_lt n x.number) rs ≡ true → IsIn y rs → n < y.number
above n y [] e i = elim i [ ]
above n y (x ∷ xs) e (inl is) = subst (λ (z : Row). n < z.number) is (ltb-true n x.number (and_true (nat_lt n x.number) _ e).0)
above n y (x ∷ xs) e (inr h) = above n y xs (and_true (nat_lt n x.number) _ e).1 h

pub one_row : (x y : Row) (rs : List Row) → rising rs ≡ true → IsIn x rs → IsIn y rs → x.number ≡ y.number → x ≡ y
one_row x y [] e a b same = elim a [ ]
one_row x y (r ∷ rs) e (inl a) (inl b) same = sym a ∙ b
one_row x y (r ∷ rs) e (inl a) (inr b) same =
    let h = above r.number y rs (and_true (list_all (λ (x : Row). nat_lt r.number x.number) rs) _ e).0 b in
    let is : r.number ≡ x.number = ap (λ (z : Row). z.number) a in absurd (omega arith)
one_row x y (r ∷ rs) e (inr a) (inl b) same =
    let h = above r.number x rs (and_true (list_all (λ (x : Row). nat_lt r.number x.number) rs) _ e).0 a in
    let is : r.number ≡ y.number = ap (λ (z : Row). z.number) b in absurd (omega arith)
one_row x y (r ∷ rs) e (inr a) (inr b) same = one_row x y rs (and_true (list_all (λ (x : Row). nat_lt r.number x.number) rs) _ e).1 a b same

-- ---- the other way

no_parts : (ss : List Slot) (vs : List Value) → Fit ss vs → has_part ss ≡ false → parts vs ≡ []
no_parts [] [] h e = refl
no_parts [] (v ∷ vs) h e = elim h [ ]
no_parts (upto m ∷ ss) [] h e = elim h [ ]
no_parts (part ∷ ss) [] h e = elim h [ ]
no_parts (upto m ∷ ss) (num n ∷ vs) h e = no_parts ss vs h.1 e
no_parts (upto m ∷ ss) (text bs ∷ vs) h e = elim h [ ]
no_parts (part ∷ ss) (num n ∷ vs) h e = elim h [ ]
no_parts (part ∷ ss) (text bs ∷ vs) h e = absurd (cc)

part_allowed : (ss : List Slot) (vs : List Value) (n left : ℕ) → Fit ss vs → left ≡ n + length (parts vs) → viable (part_range ss left ∷ []) 1 n ≡ true
part_allowed ss vs n left fit e = go (has_part ss) refl
  where
    go : (t : Bool) → has_part ss ≡ t → viable (cond t (at_most left) (exactly left) ∷ []) 1 n ≡ true
    go true is = or_left _ _ (meets_at_most n left (omega (arith, e)))
    go false is =
        let same : n ≡ left = omega (arith, e, ap length (no_parts ss vs fit is)) in
        subst (λ k. viable (exactly k ∷ []) 1 n ≡ true) same (or_left _ _ (meets_exactly n))

offset_below : (n place : ℕ) → place < 4294967296 → offset n place < 4294967296
offset_below n place lt = go (nat_eq n 0)
  where
    go : (t : Bool) → cond t 0 place < 4294967296
    go true = omega arith
    go false = lt

slots_has : (ss : List Slot) (vs : List Value) (place left : ℕ) (next : Form) (rest : List ℕ) → AllByRecursion IsSlot ss → Fit ss vs
    → left ≡ length (parts vs) → place + left < 4294967296 → In next rest → In (slots_form ss place left next) (words place vs ++ rest)
slots_has [] [] place left next rest small fit e lt inner = inner
slots_has [] (v ∷ vs) place left next rest small fit e lt inner = elim fit [ ]
slots_has (upto m ∷ ss) [] place left next rest small fit e lt inner = elim fit [ ]
slots_has (part ∷ ss) [] place left next rest small fit e lt inner = elim fit [ ]
slots_has (upto m ∷ ss) (text bs ∷ vs) place left next rest small fit e lt inner = elim fit [ ]
slots_has (part ∷ ss) (num n ∷ vs) place left next rest small fit e lt inner = elim fit [ ]
slots_has (upto m ∷ ss) (num n ∷ vs) place left next rest small fit e lt inner =
    rw (append_assoc (be n) (words place vs) rest)
    (word_has (at_most m ∷ []) (λ _. slots_form ss place left next) n _ (omega (arith, small.0, fit.0)) (or_left _ _ (meets_at_most n m fit.0))
    (slots_has ss vs place left next rest small.1 fit.1 e lt inner))
slots_has (part ∷ ss) (text bs ∷ vs) place left next rest small fit e lt inner =
    let n : ℕ = length bs in
    let sum : left ≡ n + length (parts vs) = e ∙ length-append bs (parts vs) in
    let more = slots_has ss vs (place + n) (left - n) next rest small.1 fit.1 (omega (arith, sum)) (omega (arith, sum, lt)) inner in
    let at_offset = word_has (exactly (offset n place) ∷ []) (λ _. slots_form ss (place + n) (left - n) next) (offset n place) _ (offset_below n place (omega (arith, lt)))
    (or_left _ _ (meets_exactly (offset n place))) more in
    let at_length = word_has (part_range ss left ∷ []) (λ k. word (exactly (offset k place) ∷ []) (λ _. slots_form ss (place + k) (left - k) next)) n _
    (omega (arith, sum, lt)) (part_allowed ss vs n left fit.1 sum) at_offset in
    subst (λ ws. In (slots_form (part ∷ ss) place left next) ws) (grouped (be n) (be (offset n place)) (words (place + n) vs) rest) at_length
  where
    grouped : (a b c d : List ℕ) → a ++ (b ++ (c ++ d)) ≡ a ++ b ++ c ++ d
    grouped a b c d = simp append_assoc

-- ---- the grammar

-- the text is the encoding of a row filled in
pub record IsSpelled (ws : List ℕ) : Type 0 where
  pub filled : Filled
  pub good : IsFilled filled
  pub spelled : ws ≡ spelling filled

not_both : true ≡ false → ⊥
not_both x = cc

record SizeMet (c : ℕ) (r : Row) : Type 0 where
  low : head r.slots ≤ c
  high : c ≤ 1024
  whole : has_part r.slots ≡ false → c - head r.slots ≡ 0

size_met : (c : ℕ) (r : Row) → IsRow r → meets 1 c (size_range r) ≡ true → SizeMet c r
size_met c r h e = go (has_part r.slots) refl e
  where
    go : (t : Bool) → has_part r.slots ≡ t → meets 1 c (cond t (record { low = head r.slots; high = 1024 }) (exactly (head r.slots))) ≡ true → SizeMet c r
    go true is m =
        let low : head r.slots < (c + 1) * 1 = ltb-true _ _ (and_true _ (nat_le (c * 1) 1024) m).0 in
        let high : c * 1 ≤ 1024 = leb-true _ _ (and_true (nat_lt (head r.slots) ((c + 1) * 1)) _ m).1 in
        record { low = omega (arith, low); high = omega (arith, high); whole = λ none. absurd (not_both (sym is ∙ none)) }
    go false is m = let same = is_exactly c (head r.slots) m in
        record { low = omega (arith, same); high = omega (arith, same, h.size); whole = λ none. omega (arith, same) }

size_meets : (p : Filled) → IsFilled p → meets 1 (control_size p) (size_range p.row) ≡ true
size_meets p h = go (has_part p.row.slots) refl
  where
    go : (t : Bool) → has_part p.row.slots ≡ t → meets 1 (control_size p) (cond t (record { low = head p.row.slots; high = 1024 }) (exactly (head p.row.slots))) ≡ true
    go true is = both _ _ (lt-ltb (head p.row.slots) ((control_size p + 1) * 1) (omega arith)) (le-leb (control_size p * 1) 1024 (omega (arith, h.control)))
    go false is =
        let same : head p.row.slots ≡ control_size p = omega (arith, ap length (no_parts p.row.slots p.values h.values is)) in
        subst (λ k. meets 1 (control_size p) (exactly k) ≡ true) (sym same) (meets_exactly (control_size p))

pub row_is : (r : Row) (rows : List Row) → AllByRecursion IsRow rows → IsIn r rows → IsRow r
row_is r [] h i = elim i [ ]
row_is r (x ∷ xs) h (inl e) = subst IsRow e h.0
row_is r (x ∷ xs) h (inr i) = row_is r xs h.1 i

first_is : (c d : ℕ) (rows : List Row) (ws : List ℕ) → Some_left rows → In (form_of c d (first_row rows)) ws → (r : Row) × IsIn r rows × In (row_form c d r) ws
first_is c d rows ws (some r rs) i = (r, inl refl, i)

pub joined : (a b c d e f : List ℕ) → a ++ (b ++ (c ++ (d ++ (e ++ f)))) ≡ a ++ b ++ c ++ d ++ e ++ f
joined a b c d e f = simp append_assoc

-- what stands after the number, by the sizes
record IsBody (c d : ℕ) (r : Row) (ws : List ℕ) : Type 0 where
  values : List Value
  user : List ℕ
  fit : Fit r.slots values
  bytes : AreBytes user
  long : length user ≡ d
  control : length (parts values) ≡ c - head r.slots
  spelled : ws ≡ words (head r.slots) values ++ (parts values ++ user)

body_is : (c d : ℕ) (r : Row) (ws : List ℕ) → (has_part r.slots ≡ false → c - head r.slots ≡ 0) → In (row_form c d r) ws → IsBody c d r ws
body_is c d r ws none i =
    let k : ℕ = c - head r.slots in
    let s = slots_is r.slots (head r.slots) k (tail (k + d)) ws none i in
    let t = tail_is (k + d) s.rest s.inner in
    let bs : List ℕ = take k s.rest in
    let long : length bs ≡ k = length-take-le k s.rest (omega (arith, t.0)) in
    let sum : length bs ≡ total r.slots s.lens = long ∙ sym s.sum in
    let these : parts (cut r.slots s.lens bs) ≡ bs = cut_parts r.slots s.lens bs s.fit sum in
    record {
      values = cut r.slots s.lens bs;
      user = drop k s.rest;
      fit = cut_fit r.slots s.lens bs s.fit (take_bytes k s.rest t.1);
      bytes = drop_bytes k s.rest t.1;
      long = omega (arith, length-drop k s.rest, t.0);
      control = ap length these ∙ long;
      spelled = s.text ∙ rw (cut_words r.slots s.lens bs (head r.slots) s.fit sum, these, take-append-drop k s.rest) refl;
    }

pub frame_is : (ws : List ℕ) → In frame ws → IsSpelled ws
unfolding frame
frame_is ws i =
    let c = word_is (map size_range table) (λ n. chosen data_range (λ d. number_form n d) (left size_range n table)) ws i in
    let rows : List Row = left size_range c.value table in
    let d = word_is (map data_range rows) (λ n. number_form c.value n (left data_range n rows)) c.rest c.inner in
    let rows' : List Row = left data_range d.value rows in
    let n = word_is (map number_range rows') (λ n. form_of c.value d.value (first_row (left number_range n rows'))) d.rest d.inner in
    let f = first_is c.value d.value (left number_range n.value rows') n.rest (some_left number_range n.value rows' n.met) n.inner in
    let r : Row = f.0 in
    let by_number = left_in number_range n.value r rows' f.1 in
    let by_data = left_in data_range d.value r rows by_number.1 in
    let by_size = left_in size_range c.value r table by_data.1 in
    let size = size_met c.value r (row_is r table table_is by_size.1) by_size.0 in
    let body = body_is c.value d.value r n.rest size.whole f.2 in
    let number : n.value ≡ r.number = is_exactly n.value r.number by_number.0 in
    let room : d.value ≤ r.most_data = is_at_most d.value r.most_data by_data.0 in
    let control : head r.slots + length (parts body.values) ≡ c.value = omega (arith, body.control, size.low) in
    record {
      filled = record { row = r; values = body.values; user = body.user };
      good = record { row = by_size.1; values = body.fit; user = body.bytes; room = rw body.long room; control = rw control size.high };
      spelled = whole ws c.value d.value n.value (words (head r.slots) body.values) (parts body.values) body.user c.rest d.rest n.rest
          (head r.slots + length (parts body.values)) (length body.user) r.number c.text d.text n.text body.spelled control body.long number;
    }
  where
    whole : (ws : List ℕ) (c d n : ℕ) (head parts user w1 w2 w3 : List ℕ) (c' d' n' : ℕ)
        → ws ≡ be c ++ w1 → w1 ≡ be d ++ w2 → w2 ≡ be n ++ w3 → w3 ≡ head ++ (parts ++ user) → c' ≡ c → d' ≡ d → n ≡ n'
        → ws ≡ be c' ++ be d' ++ be n' ++ head ++ parts ++ user
    whole ws c d n head parts user w1 w2 w3 c' d' n' e1 e2 e3 e4 ec ed en =
        e1 ∙ rw (e2, e3, e4, ec, ed, en) (joined (be c) (be d) (be n') head parts user)

first_has : (c d : ℕ) (r : Row) (rows : List Row) (ws : List ℕ) → IsIn r rows → ((x : Row) → IsIn x rows → x ≡ r) → In (row_form c d r) ws → In (form_of c d (first_row rows)) ws
first_has c d r [] ws i only h = elim i [ ]
first_has c d r (x ∷ xs) ws i only h = subst (λ (y : Row). In (row_form c d y) ws) (sym (only x (inl refl))) h

joined_bytes : (a b : List ℕ) → AreBytes a → AreBytes b → AreBytes (a ++ b)
joined_bytes [] b ha hb = hb
joined_bytes (x ∷ a) b ha hb = (ha.0, joined_bytes a b ha.1 hb)

parts_bytes : (ss : List Slot) (vs : List Value) → Fit ss vs → AreBytes (parts vs)
parts_bytes [] [] h = tt
parts_bytes [] (v ∷ vs) h = elim h [ ]
parts_bytes (upto m ∷ ss) [] h = elim h [ ]
parts_bytes (part ∷ ss) [] h = elim h [ ]
parts_bytes (upto m ∷ ss) (num n ∷ vs) h = parts_bytes ss vs h.1
parts_bytes (upto m ∷ ss) (text bs ∷ vs) h = elim h [ ]
parts_bytes (part ∷ ss) (num n ∷ vs) h = elim h [ ]
parts_bytes (part ∷ ss) (text bs ∷ vs) h = joined_bytes bs (parts vs) h.0 (parts_bytes ss vs h.1)

pub table_rises : rising table ≡ true
unfolding table
table_rises = refl

pub frame_has : (p : Filled) → IsFilled p → In frame (spelling p)
unfolding frame
frame_has p h =
    let r : Row = p.row in
    let good = row_is r table table_is h.row in
    let c : ℕ = control_size p in
    let d : ℕ = length p.user in
    let in_size = left_has size_range c r table h.row (size_meets p h) in
    let rows : List Row = left size_range c table in
    let in_data = left_has data_range d r rows in_size (meets_at_most d r.most_data h.room) in
    let rows' : List Row = left data_range d rows in
    let in_number = left_has number_range r.number r rows' in_data (meets_exactly r.number) in
    let only : (x : Row) → IsIn x (left number_range r.number rows') → x ≡ r = λ x i.
    let a = left_in number_range r.number x rows' i in
    let b = left_in data_range d x rows a.1 in
    let e = left_in size_range c x table b.1 in
    one_row x r table table_rises e.1 h.row (sym (is_exactly r.number x.number a.0)) in
    let k : ℕ = c - head r.slots in
    let is_k : k ≡ length (parts p.values) = omega arith in
    let long : k + d ≡ length (parts p.values ++ p.user) = omega (arith, is_k, length-append (parts p.values) p.user) in
    let ends : In (tail (k + d)) (parts p.values ++ p.user) =
    subst (λ n. In (tail n) (parts p.values ++ p.user)) (sym long) (tail_has (parts p.values ++ p.user) (joined_bytes (parts p.values) p.user (parts_bytes r.slots p.values h.values) h.user)) in
    let inner = slots_has r.slots p.values (head r.slots) k (tail (k + d)) (parts p.values ++ p.user) good.slots h.values is_k (omega (arith, h.control, good.size)) ends in
    let at_number = word_has (map number_range rows') (λ n. form_of c d (first_row (left number_range n rows'))) r.number _ good.number (viable_in number_range r.number r rows' in_data (meets_exactly r.number))
    (first_has c d r (left number_range r.number rows') _ in_number only inner) in
    let at_data = word_has (map data_range rows) (λ n. number_form c n (left data_range n rows)) d _ (omega (arith, h.room, good.most_data))
    (viable_in data_range d r rows in_size (meets_at_most d r.most_data h.room)) at_number in
    let at_size = word_has (map size_range table) (λ n. chosen data_range (λ d. number_form n d) (left size_range n table)) c _ (omega (arith, h.control))
    (viable_in size_range c r table h.row (size_meets p h)) at_data in
    subst (λ ws. In frame ws) (joined (be c) (be d) (be r.number) (words (head r.slots) p.values) (parts p.values) p.user) at_size
