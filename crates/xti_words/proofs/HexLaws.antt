-- Hexadecimal digits that are read many at once.
use Rattle.std.proofs.Common.{◌≡◌, ◌≢◌, ℕ, zero, suc, ◌+◌, ◌-◌, ◌*◌, ◌/◌, ◌%◌, ◌<◌, ◌≤◌, Bool, true, false, cond, eqb, ltb, List, [], ◌∷◌, ◌++◌, length, take, drop, get_or, set, Option, Some, None, refl, sym, ap, ◌∙◌, append_assoc, take_all, take-append-drop, drop-cons, drop-drop, length-drop, length-take-le, length-set, arith}
use Rattle.std.specs.Prelude.{option_map}
use Rattle.std.specs.declared.cmp.Ordering.TheVariants.{Less, Equal, Greater}
use Rattle.std.specs.Ordering.{ord_max, nat_cmp, is_lt}
use Rattle.std.proofs.lemmas.Bool.{ltb-true, ltb-false, lt-ltb, eqb-true, eq-eqb}
use Rattle.std.proofs.lemmas.Grind.{get_or-set_at}
use Rattle.std.proofs.lemmas.List.{get_or-set_other, take_more_set, drop_all}
use Rattle.xti_words.specs.Values.{hex_digit, hex_pair, hex_bytes, onto}
use Rattle.xti_words.proofs.WordLaws.{before, before-nil, before-end, before-onto}

onto_none : (o : Option ℕ) → onto o None ≡ None
onto_none None = refl
onto_none (Some x) = refl

front : (x : ℕ) (qs : List ℕ) (t : Option (List ℕ)) → onto (Some x) (before qs t) ≡ before (x ∷ qs) t
front x qs None = refl
front x qs (Some ts) = refl

some_step : (o : Option ℕ) (q others all : Option (List ℕ)) (bs : List ℕ) → ((qs : List ℕ) → q ≡ Some qs → all ≡ before qs others) → onto o q ≡ Some bs → onto o all ≡ before bs others
some_step None q others all bs h f = absurd cc
some_step (Some x) None others all bs h f = absurd cc
some_step (Some x) (Some qs) others all bs h f =
    let same : x ∷ qs ≡ bs = cc in
    ap (λ (t : Option (List ℕ)). onto (Some x) t) (h qs refl) ∙ front x qs others ∙ ap (λ (z : List ℕ). before z others) same

-- the bytes of the first digits, where they are there, are before those of the others
pub split_some : (xs ys bs : List ℕ) → hex_bytes xs ≡ Some bs → hex_bytes (xs ++ ys) ≡ before bs (hex_bytes ys)
split_some [] ys bs e = let n : bs ≡ [] = cc in sym (before-nil bs (hex_bytes ys) n)
split_some (c ∷ []) ys bs e = absurd cc
split_some (c ∷ d ∷ cs) ys bs e = some_step (hex_pair (hex_digit c) (hex_digit d)) (hex_bytes cs) (hex_bytes ys) (hex_bytes (cs ++ ys)) bs (λ qs s. split_some cs ys qs s) e

none_step : (o : Option ℕ) (q all : Option (List ℕ)) → (q ≡ None → all ≡ None) → onto o q ≡ None → onto o all ≡ None
none_step None q all h f = refl
none_step (Some x) None all h f = ap (λ (t : Option (List ℕ)). onto (Some x) t) (h refl)
none_step (Some x) (Some qs) all h f = absurd cc

pub split_none : (n : ℕ) (xs ys : List ℕ) → length xs ≡ 2 * n → hex_bytes xs ≡ None → hex_bytes (xs ++ ys) ≡ None
split_none n [] ys l e = absurd cc
split_none n (c ∷ []) ys l e = absurd (omega (arith, l))
split_none zero (c ∷ d ∷ cs) ys l e = absurd (omega (arith, l))
split_none (suc n) (c ∷ d ∷ cs) ys l e = none_step (hex_pair (hex_digit c) (hex_digit d)) (hex_bytes cs) (hex_bytes (cs ++ ys)) (λ s. split_none n cs ys (omega (arith, l)) s) e

pub before-before : (xs ys : List ℕ) (o : Option (List ℕ)) → before xs (before ys o) ≡ before (xs ++ ys) o
before-before xs ys None = refl
before-before xs ys (Some zs) = ap (λ (z : List ℕ). Some z) (sym (append_assoc xs ys zs))

-- where one is no digit there are no bytes
pub no_digit : (digits : List ℕ) (k : ℕ) → k < length digits → hex_digit (get_or digits k 0) ≡ None → hex_bytes digits ≡ None
no_digit [] k h e = absurd (omega arith)
no_digit (c ∷ []) k h e = refl
no_digit (c ∷ d ∷ cs) zero h e = ap (λ (o : Option ℕ). onto (hex_pair o (hex_digit d)) (hex_bytes cs)) e
no_digit (c ∷ d ∷ cs) (suc zero) h e = ap (λ (o : Option ℕ). onto (hex_pair (hex_digit c) o) (hex_bytes cs)) e ∙ second (hex_digit c)
  where
    second : (o : Option ℕ) → onto (hex_pair o None) (hex_bytes cs) ≡ None
    second None = refl
    second (Some x) = refl
no_digit (c ∷ d ∷ cs) (suc (suc k)) h e = ap (λ (t : Option (List ℕ)). onto (hex_pair (hex_digit c) (hex_digit d)) t) (no_digit cs k (omega arith) e) ∙ onto_none (hex_pair (hex_digit c) (hex_digit d))

-- ---- digits whose worths are known

-- below 16, or of no digit
abbrev pub valued : ℕ → Option ℕ
valued w = cond (ltb w 16) (Some w) None

pub valued_small : (w : ℕ) (o : Option ℕ) → o ≡ valued w → w < 16 → o ≡ Some w
valued_small w o e h = e ∙ ap (λ (b : Bool). cond b (Some w) None) (lt-ltb w 16 h)

not_below : (w : ℕ) (b : Bool) → ltb w 16 ≡ b → 16 ≤ w → b ≡ false
not_below w true e h = let below : w < 16 = ltb-true w 16 e in absurd (omega arith)
not_below w false e h = refl

pub valued_large : (w : ℕ) (o : Option ℕ) → o ≡ valued w → 16 ≤ w → o ≡ None
valued_large w o e h = e ∙ ap (λ (b : Bool). cond b (Some w) None) (not_below w (ltb w 16) refl h)

-- so many digits have these worths, none of them above the most
pub record AreWorths (digits worths : List ℕ) (n most : ℕ) : Type 0 where
  pub size : length worths ≡ 32
  pub each : (k : ℕ) → k < n → hex_digit (get_or digits k 0) ≡ valued (get_or worths k 0)
  pub below : (k : ℕ) → k < n → get_or worths k 0 ≤ most
  pub none : 16 ≤ most → hex_bytes digits ≡ None

pub no_worths : (digits worths : List ℕ) → length worths ≡ 32 → AreWorths digits worths 0 0
no_worths digits worths s = record {
  size = s;
  each = λ k h. absurd (omega arith);
  below = λ k h. absurd (omega arith);
  none = λ h. absurd (omega arith);
}

pub worths_more : (digits worths : List ℕ) (i most w more : ℕ) → AreWorths digits worths i most → i < length digits → i < 32 → hex_digit (get_or digits i 0) ≡ valued w → most ≤ more → w ≤ more → (16 ≤ more → w < 16 → 16 ≤ most) → AreWorths digits (set worths i w) (i + 1) more
worths_more digits worths i most w more a long room e h g m = record {
  size = length-set worths i w ∙ a.size;
  each = λ k h. each k h (eqb k i) refl;
  below = λ k h. below k h (eqb k i) refl;
  none = λ h. none h (ltb w 16) refl;
}
  where
    here : (k : ℕ) → eqb k i ≡ true → get_or (set worths i w) k 0 ≡ w
    here k s = get_or-set_at worths i k w 0 (eqb-true k i s) (omega (arith, a.size))

    differ : (k : ℕ) → eqb k i ≡ false → k ≡ i → ⊥
    differ k s q = let t : eqb k i ≡ true = eq-eqb k i q in let c : true ≡ false = sym t ∙ s in cc

    other : (k : ℕ) → eqb k i ≡ false → get_or (set worths i w) k 0 ≡ get_or worths k 0
    other k s = get_or-set_other worths i k w 0 (differ k s)

    less : (k : ℕ) → k < i + 1 → eqb k i ≡ false → k < i
    less k h s = let d : k ≢ i = differ k s in omega arith

    each : (k : ℕ) → k < i + 1 → (b : Bool) → eqb k i ≡ b → hex_digit (get_or digits k 0) ≡ valued (get_or (set worths i w) k 0)
    each k h true s = ap (λ (j : ℕ). hex_digit (get_or digits j 0)) (eqb-true k i s) ∙ e ∙ ap valued (sym (here k s))
    each k h false s = a.each k (less k h s) ∙ ap valued (sym (other k s))

    below : (k : ℕ) → k < i + 1 → (b : Bool) → eqb k i ≡ b → get_or (set worths i w) k 0 ≤ more
    below k l true s = let t = here k s in omega (arith, t)
    below k l false s = let t = other k s in let u : get_or worths k 0 ≤ most = a.below k (less k l s) in omega (arith, t, u)

    none : 16 ≤ more → (b : Bool) → ltb w 16 ≡ b → hex_bytes digits ≡ None
    none l true s = a.none (m l (ltb-true w 16 s))
    none l false s = no_digit digits i long (valued_large w (hex_digit (get_or digits i 0)) e (ltb-false w 16 s))

picks : (x y : Bool) (a b : ℕ) → cond (is_lt (cond x Less (cond y Equal Greater))) a b ≡ cond x a b
picks true y a b = refl
picks false true a b = refl
picks false false a b = refl

-- the larger of two
pub record IsLarger (a b m : ℕ) : Type 0 where
  pub left : a ≤ m
  pub right : b ≤ m
  pub one : 16 ≤ m → b < 16 → 16 ≤ a

pub larger : (a b m : ℕ) → m ≡ ord_max nat_cmp a b → IsLarger a b m
larger a b m e = go (ltb b a) refl (e ∙ picks (ltb b a) (eqb b a) a b)
  where
    go : (x : Bool) → ltb b a ≡ x → m ≡ cond x a b → IsLarger a b m
    go true t s = let l : b < a = ltb-true b a t in record { left = omega (arith, s); right = omega (arith, s, l); one = λ h g. omega (arith, s, h) }
    go false t s = let l : a ≤ b = ltb-false b a t in record { left = omega (arith, s, l); right = omega (arith, s); one = λ h g. absurd (omega (arith, s, h, g)) }

two_more : (digits : List ℕ) (i : ℕ) → 2 * i + 1 < length digits → drop (2 * i) digits ≡ get_or digits (2 * i) 0 ∷ get_or digits (2 * i + 1) 0 ∷ drop (2 * (i + 1)) digits
two_more digits i h =
    let one : suc (2 * i) ≡ 2 * i + 1 = omega arith in
    let two : suc (2 * i + 1) ≡ 2 * (i + 1) = omega arith in
    let a : drop (2 * i) digits ≡ get_or digits (2 * i) 0 ∷ drop (2 * i + 1) digits = drop-cons digits (2 * i) 0 (omega arith) ∙ ap (λ (n : ℕ). get_or digits (2 * i) 0 ∷ drop n digits) one in
    let b : drop (2 * i + 1) digits ≡ get_or digits (2 * i + 1) 0 ∷ drop (2 * (i + 1)) digits = drop-cons digits (2 * i + 1) 0 h ∙ ap (λ (n : ℕ). get_or digits (2 * i + 1) 0 ∷ drop n digits) two in
    a ∙ ap (λ (ds : List ℕ). get_or digits (2 * i) 0 ∷ ds) b

-- so many bytes are read of the digits
pub record AreBytesOf (digits bytes : List ℕ) (i : ℕ) : Type 0 where
  pub size : length bytes ≡ 16
  pub so_far : before (take i bytes) (hex_bytes (drop (2 * i) digits)) ≡ hex_bytes digits

pub no_bytes : (digits bytes : List ℕ) → length bytes ≡ 16 → AreBytesOf digits bytes 0
no_bytes digits bytes s = record { size = s; so_far = before-nil (take 0 bytes) (hex_bytes digits) refl }

pub one_more : (digits bytes : List ℕ) (i high low : ℕ) → hex_digit (get_or digits (2 * i) 0) ≡ valued high → hex_digit (get_or digits (2 * i + 1) 0) ≡ valued low → high < 16 → low < 16 → 2 * i + 1 < length digits → i < 16 → AreBytesOf digits bytes i
    → AreBytesOf digits (set bytes i (high * 16 + low)) (i + 1)
one_more digits bytes i high low p q h l room few b =
    let x : hex_digit (get_or digits (2 * i) 0) ≡ Some high = valued_small high _ p h in
    let y : hex_digit (get_or digits (2 * i + 1) 0) ≡ Some low = valued_small low _ q l in
    let pair : hex_pair (hex_digit (get_or digits (2 * i) 0)) (hex_digit (get_or digits (2 * i + 1) 0)) ≡ Some (high * 16 + low) = ap (λ (o : Option ℕ). hex_pair o (hex_digit (get_or digits (2 * i + 1) 0))) x ∙ ap (λ (o : Option ℕ). hex_pair (Some high) o) y in
    let cut : hex_bytes (drop (2 * i) digits) ≡ onto (Some (high * 16 + low)) (hex_bytes (drop (2 * (i + 1)) digits)) = ap hex_bytes (two_more digits i room) ∙ ap (λ (o : Option ℕ). onto o (hex_bytes (drop (2 * (i + 1)) digits))) pair in
    record {
      size = length-set bytes i (high * 16 + low) ∙ b.size;
      so_far = ap (λ (xs : List ℕ). before xs (hex_bytes (drop (2 * (i + 1)) digits))) (take_more_set bytes i (high * 16 + low) (omega (arith, b.size))) ∙ sym (before-onto (take i bytes) (high * 16 + low) (hex_bytes (drop (2 * (i + 1)) digits))) ∙ ap (λ (o : Option (List ℕ)). before (take i bytes) o) (sym cut) ∙ b.so_far;
    }

pub bytes_more : (digits worths bytes : List ℕ) (n i most : ℕ) → AreWorths digits worths n most → 32 ≤ n → most < 16 → length digits ≡ 32 → i < 16 → AreBytesOf digits bytes i
    → AreBytesOf digits (set bytes i (get_or worths (2 * i) 0 * 16 + get_or worths (2 * i + 1) 0)) (i + 1)
bytes_more digits worths bytes n i most a all small l h b =
    let high : get_or worths (2 * i) 0 ≤ most = a.below (2 * i) (omega arith) in
    let low : get_or worths (2 * i + 1) 0 ≤ most = a.below (2 * i + 1) (omega arith) in
    one_more digits bytes i (get_or worths (2 * i) 0) (get_or worths (2 * i + 1) 0) (a.each (2 * i) (omega arith)) (a.each (2 * i + 1) (omega arith)) (omega arith) (omega arith) (omega (arith, l)) h b

pub all_bytes : (digits bytes : List ℕ) (i : ℕ) → 16 ≤ i → length digits ≡ 32 → AreBytesOf digits bytes i → Some bytes ≡ hex_bytes digits
all_bytes digits bytes i h l b =
    let t : take i bytes ≡ bytes = take_all i bytes (omega (arith, b.size)) in
    let d : drop (2 * i) digits ≡ [] = drop_all (2 * i) digits (omega (arith, l)) in
    sym (before-end bytes) ∙ ap (λ (ds : List ℕ). before bytes (hex_bytes ds)) (sym d) ∙ ap (λ (xs : List ℕ). before xs (hex_bytes (drop (2 * i) digits))) (sym t) ∙ b.so_far

-- ---- many digits after others

-- as many bytes more as the first digits have
pub many_more : (bytes more first others sixteen rest : List ℕ) (total : Option (List ℕ)) → rest ≡ first ++ others → hex_bytes first ≡ Some sixteen → more ≡ bytes ++ sixteen → before bytes (hex_bytes rest) ≡ total → before more (hex_bytes others) ≡ total
many_more bytes more first others sixteen rest total cut e m so_far =
    ap (λ (xs : List ℕ). before xs (hex_bytes others)) m ∙ sym (before-before bytes sixteen (hex_bytes others)) ∙ ap (λ (o : Option (List ℕ)). before bytes o) (sym (ap hex_bytes cut ∙ split_some first others sixteen e)) ∙ so_far

pub many_none : (bytes first others rest : List ℕ) (n : ℕ) (total : Option (List ℕ)) → rest ≡ first ++ others → length first ≡ 2 * n → hex_bytes first ≡ None → before bytes (hex_bytes rest) ≡ total → None ≡ total
many_none bytes first others rest n total cut l e so_far = ap (λ (o : Option (List ℕ)). before bytes o) (sym (ap hex_bytes cut ∙ split_none n first others l e)) ∙ so_far

-- ---- few digits

pub few_of : (digits bytes : List ℕ) (i : ℕ) → length digits / 2 ≤ i → i ≤ length digits / 2 → length digits % 2 ≡ 0 → AreBytesOf digits bytes i → hex_bytes digits ≡ option_map (take (length digits / 2)) (Some bytes)
few_of digits bytes i h g even b =
    let e : i ≡ length digits / 2 = omega arith in
    let d : drop (2 * i) digits ≡ [] = drop_all (2 * i) digits (omega (arith, e, even)) in
    sym b.so_far ∙ ap (λ (ds : List ℕ). before (take i bytes) (hex_bytes ds)) d ∙ before-end (take i bytes) ∙ ap (λ (n : ℕ). Some (take n bytes)) e

length_step : (n : ℕ) (o : Option ℕ) (q : Option (List ℕ)) (bs : List ℕ) → ((qs : List ℕ) → q ≡ Some qs → n ≡ 2 * length qs) → onto o q ≡ Some bs → n + 2 ≡ 2 * length bs
length_step n None q bs h f = absurd cc
length_step n (Some x) None bs h f = absurd cc
length_step n (Some x) (Some qs) bs h f =
    let same : x ∷ qs ≡ bs = cc in
    let l : n ≡ 2 * length qs = h qs refl in
    let m : suc (length qs) ≡ length bs = ap length same in
    omega (arith, l, m)

pub hex_length : (ds bs : List ℕ) → hex_bytes ds ≡ Some bs → length ds ≡ 2 * length bs
hex_length [] bs e = let n : bs ≡ [] = cc in ap (λ (xs : List ℕ). 2 * length xs) (sym n)
hex_length (c ∷ []) bs e = absurd cc
hex_length (c ∷ d ∷ cs) bs e =
    let l : length cs + 2 ≡ 2 * length bs = length_step (length cs) (hex_pair (hex_digit c) (hex_digit d)) (hex_bytes cs) bs (λ qs s. hex_length cs qs s) e in
    omega (arith, l)

pub odd_digits : (ds : List ℕ) → length ds % 2 ≢ 0 → hex_bytes ds ≡ None
odd_digits ds h = go (hex_bytes ds) refl
  where
    go : (q : Option (List ℕ)) → hex_bytes ds ≡ q → hex_bytes ds ≡ None
    go None e = e
    go (Some bs) e = let l = hex_length ds bs e in absurd (h (omega (arith, l)))

-- ---- the last digits, of which some were read before

after_one : (o : Option ℕ) (q : Option (List ℕ)) (bs : List ℕ) → onto o q ≡ Some bs → q ≡ Some (drop 1 bs)
after_one None q bs e = absurd cc
after_one (Some x) None bs e = absurd cc
after_one (Some x) (Some qs) bs e = let same : x ∷ qs ≡ bs = cc in ap (λ (z : List ℕ). Some (drop 1 z)) same

-- the bytes of the digits after these
after_some : (n : ℕ) (xs ys bs : List ℕ) → length xs ≡ 2 * n → hex_bytes (xs ++ ys) ≡ Some bs → hex_bytes ys ≡ Some (drop n bs)
after_some zero [] ys bs l e = e
after_some (suc n) [] ys bs l e = absurd (omega (arith, l))
after_some n (c ∷ []) ys bs l e = absurd (omega (arith, l))
after_some zero (c ∷ d ∷ cs) ys bs l e = absurd (omega (arith, l))
after_some (suc n) (c ∷ d ∷ cs) ys bs l e =
    after_some n cs ys (drop 1 bs) (omega (arith, l)) (after_one (hex_pair (hex_digit c) (hex_digit d)) (hex_bytes (cs ++ ys)) bs e) ∙ ap (λ (z : List ℕ). Some z) (drop-drop n 1 bs) ∙ ap (λ (k : ℕ). Some (drop k bs)) one
  where
    one : 1 + n ≡ suc n
    one = omega arith

after_none : (n : ℕ) (xs ys : List ℕ) → length xs ≡ 2 * n → hex_bytes ys ≡ None → hex_bytes (xs ++ ys) ≡ None
after_none n [] ys l e = e
after_none n (c ∷ []) ys l e = absurd (omega (arith, l))
after_none zero (c ∷ d ∷ cs) ys l e = absurd (omega (arith, l))
after_none (suc n) (c ∷ d ∷ cs) ys l e = ap (λ (t : Option (List ℕ)). onto (hex_pair (hex_digit c) (hex_digit d)) t) (after_none n cs ys (omega (arith, l)) e) ∙ onto_none (hex_pair (hex_digit c) (hex_digit d))

-- the rest of the digits is the end of the last 32 of them
module _ (digits rest last : List ℕ) (end : rest ≡ drop (length digits - length rest) digits) (few : length rest < 32) (even : length rest % 2 ≡ 0) (is_last : last ≡ drop (length digits - 32) digits) (whole : length last ≡ 32) where
  long : 32 ≤ length digits
  long = let a : length (drop (length digits - 32) digits) ≡ length digits - (length digits - 32) = length-drop (length digits - 32) digits in let b : length last ≡ length (drop (length digits - 32) digits) = ap length is_last in omega (arith, a, b, whole)

  cut : take (2 * (16 - length rest / 2)) last ++ rest ≡ last
  cut =
      let n : length digits - 32 + 2 * (16 - length rest / 2) ≡ length digits - length rest = let h = long in omega (arith, h, few, even) in
      let a : drop (2 * (16 - length rest / 2)) last ≡ rest = ap (drop (2 * (16 - length rest / 2))) is_last ∙ drop-drop (2 * (16 - length rest / 2)) (length digits - 32) digits ∙ ap (λ (k : ℕ). drop k digits) n ∙ sym end in
      ap (λ (zs : List ℕ). take (2 * (16 - length rest / 2)) last ++ zs) (sym a) ∙ take-append-drop (2 * (16 - length rest / 2)) last

  pub last_some : (bytes more out : List ℕ) → before bytes (hex_bytes rest) ≡ hex_bytes digits → hex_bytes last ≡ Some more → out ≡ bytes ++ take (16 - (16 - length rest / 2)) (drop (16 - length rest / 2) more) → Some out ≡ hex_bytes digits
  last_some bytes more out so_far e o =
      let l : length (take (2 * (16 - length rest / 2)) last) ≡ 2 * (16 - length rest / 2) = length-take-le (2 * (16 - length rest / 2)) last (omega (arith, whole)) in
      let r : hex_bytes rest ≡ Some (drop (16 - length rest / 2) more) = after_some (16 - length rest / 2) (take (2 * (16 - length rest / 2)) last) rest more l (ap hex_bytes cut ∙ e) in
      let n : length last ≡ 2 * length more = hex_length last more e in
      let whole_end : take (16 - (16 - length rest / 2)) (drop (16 - length rest / 2) more) ≡ drop (16 - length rest / 2) more = take_all (16 - (16 - length rest / 2)) (drop (16 - length rest / 2) more) (let d = length-drop (16 - length rest / 2) more in omega (arith, d, n, whole)) in
      ap (λ (z : List ℕ). Some z) o ∙ ap (λ (z : List ℕ). Some (bytes ++ z)) whole_end ∙ ap (λ (t : Option (List ℕ)). before bytes t) (sym r) ∙ so_far

  pub last_none : length digits % 2 ≡ 0 → hex_bytes last ≡ None → None ≡ hex_bytes digits
  last_none pairs e =
      let h = long in
      let l : length (take (length digits - 32) digits) ≡ 2 * ((length digits - 32) / 2) = length-take-le (length digits - 32) digits (omega arith) ∙ omega (arith, h, pairs) in
      sym (after_none ((length digits - 32) / 2) (take (length digits - 32) digits) last l e) ∙ ap (λ (zs : List ℕ). hex_bytes (take (length digits - 32) digits ++ zs)) is_last ∙ ap hex_bytes (take-append-drop (length digits - 32) digits)

-- all digits are the end of all
pub end_first : (digits : List ℕ) → digits ≡ drop (length digits - length digits) digits
end_first digits = let z : 0 ≡ length digits - length digits = omega arith in ap (λ (k : ℕ). drop k digits) z

-- what is left of the rest after 32 digits is the end of all as well
pub end_more : (digits rest others : List ℕ) → rest ≡ drop (length digits - length rest) digits → others ≡ drop 32 rest → 32 ≤ length rest → others ≡ drop (length digits - length others) digits
end_more digits rest others end o h =
    let few : length rest ≡ length digits - (length digits - length rest) = ap length end ∙ length-drop (length digits - length rest) digits in
    let l : length others ≡ length rest - 32 = ap length o ∙ length-drop 32 rest in
    let n : length digits - length rest + 32 ≡ length digits - length others = omega (arith, l, h, few) in
    o ∙ ap (drop 32) end ∙ drop-drop 32 (length digits - length rest) digits ∙ ap (λ (k : ℕ). drop k digits) n
