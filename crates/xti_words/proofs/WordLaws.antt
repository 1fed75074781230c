-- Reading numbers, bytes and several values from left to right.
use Rattle.std.proofs.Common.{◌≡◌, ℕ, suc, ◌+◌, ◌-◌, ◌*◌, ◌<◌, ◌≤◌, Bool, true, false, cond, not, ◌&&◌, eqb, ltb, List, [], ◌∷◌, ◌++◌, length, get_or, drop, Option, Some, None, refl, sym, ap, ◌∙◌, append_assoc, drop-cons, arith}
use Rattle.std.specs.List.{list_all}
use Rattle.std.proofs.lemmas.Bool.{ltb-true, ltb-false, lt-ltb}
use Rattle.std.proofs.lemmas.List.{append-nil, drop_all}
use Rattle.xti_words.specs.Texts.{is_digit}
use Rattle.xti_words.specs.Values.{decimal_behind, number_in, onto}
use Rattle.xti_words.specs.Numbers.{with_digit, digits_behind, can_begin}

-- ---- numbers

grows : (n : ℕ) (cs : List ℕ) → n ≤ decimal_behind n cs
grows n [] = omega arith
grows n (c ∷ cs) = let h : n * 10 + (c - 48) ≤ decimal_behind (n * 10 + (c - 48)) cs = grows (n * 10 + (c - 48)) cs in omega arith

abbrev answer : ℕ → List ℕ → Option ℕ
answer n cs = cond (list_all is_digit cs && ltb (decimal_behind n cs) 4294967296) (Some (decimal_behind n cs)) None

and_false : (b : Bool) (n : ℕ) → cond (b && false) (Some n) None ≡ None
and_false true n = refl
and_false false n = refl

not_below : (n m : ℕ) (b : Bool) → ltb n m ≡ b → m ≤ n → b ≡ false
not_below n m true e h = let below : n < m = ltb-true n m e in absurd (omega arith)
not_below n m false e h = refl

digit_step : (m : ℕ) (cs : List ℕ) (d s : Bool) → ltb m 4294967296 ≡ s → (m < 4294967296 → digits_behind (Some m) cs ≡ answer m cs)
    → digits_behind (cond (d && s) (Some m) None) cs ≡ cond ((d && list_all is_digit cs) && ltb (decimal_behind m cs) 4294967296) (Some (decimal_behind m cs)) None
digit_step m cs false s q r = refl
digit_step m cs true true q r = r (ltb-true _ _ q)
digit_step m cs true false q r =
    let low : 4294967296 ≤ m = ltb-false _ _ q in
    let more : m ≤ decimal_behind m cs = grows m cs in
    let big : ltb (decimal_behind m cs) 4294967296 ≡ false = not_below (decimal_behind m cs) 4294967296 (ltb (decimal_behind m cs) 4294967296) refl (omega arith) in
    sym (rw big (and_false (list_all is_digit cs) (decimal_behind m cs)))

digits : (n : ℕ) (cs : List ℕ) → n < 4294967296 → digits_behind (Some n) cs ≡ answer n cs
digits n [] h =
    let t : ltb n 4294967296 ≡ true = lt-ltb _ _ h in
    rw t refl
digits n (c ∷ cs) h = digit_step (n * 10 + (c - 48)) cs (is_digit c) (ltb (n * 10 + (c - 48)) 4294967296) refl (λ below. digits (n * 10 + (c - 48)) cs below)

and_true : (b : Bool) → (b && true) ≡ b
and_true true = refl
and_true false = refl

pub number_is : (word : List ℕ) (b : Bool) → b ≡ true → b ≡ can_begin word → digits_behind (Some 0) word ≡ number_in word
unfolding number_in
number_is [] b t e = let f : true ≡ false = sym t ∙ e in absurd cc
number_is (c ∷ []) b t e = digits 0 (c ∷ []) (omega arith) ∙ rw (and_true (is_digit c)) refl
number_is (c ∷ d ∷ cs) b t e =
    let begins : not (eqb c 48) ≡ true = sym e ∙ t in
    digits 0 (c ∷ d ∷ cs) (omega arith) ∙ rw begins refl

pub number_none : (word : List ℕ) (b : Bool) → b ≡ false → b ≡ can_begin word → None ≡ number_in word
unfolding number_in
number_none [] b t e = refl
number_none (c ∷ []) b t e = let f : true ≡ false = sym e ∙ t in absurd cc
number_none (c ∷ d ∷ cs) b t e =
    let begins : not (eqb c 48) ≡ false = sym e ∙ t in
    rw begins refl

-- one digit after the other

digit_next : (word : List ℕ) (i n : ℕ) → i < length word → digits_behind (Some n) (drop i word) ≡ digits_behind (with_digit n (get_or word i 0)) (drop (i + 1) word)
digit_next word i n h = let next : i + 1 ≡ suc i = omega arith in rw next (ap (digits_behind (Some n)) (drop-cons word i 0 h))

pub digit_more : (word : List ℕ) (i n m : ℕ) (total : Option ℕ) → i < length word → with_digit n (get_or word i 0) ≡ Some m → digits_behind (Some n) (drop i word) ≡ total → digits_behind (Some m) (drop (i + 1) word) ≡ total
digit_more word i n m total h e so_far = ap (λ o. digits_behind o (drop (i + 1) word)) (sym e) ∙ sym (digit_next word i n h) ∙ so_far

pub digit_none : (word : List ℕ) (i n : ℕ) (total : Option ℕ) → i < length word → with_digit n (get_or word i 0) ≡ None → digits_behind (Some n) (drop i word) ≡ total → None ≡ total
digit_none word i n total h e so_far = ap (λ o. digits_behind o (drop (i + 1) word)) (sym e) ∙ sym (digit_next word i n h) ∙ so_far

pub digit_last : (word : List ℕ) (i n : ℕ) (total : Option ℕ) → length word ≤ i → digits_behind (Some n) (drop i word) ≡ total → Some n ≡ total
digit_last word i n total h so_far = ap (digits_behind (Some n)) (sym (drop_all i word h)) ∙ so_far

-- ---- one value after the other

-- these values, and others after them where there are some
abbrev pub before : {A : Type 0} → List A → Option (List A) → Option (List A)
before xs None = None
before xs (Some ys) = Some (xs ++ ys)

pub before-nil : {A : Type 0} → (xs : List A) (o : Option (List A)) → xs ≡ [] → before xs o ≡ o
before-nil xs None e = refl
before-nil xs (Some ys) e = rw e refl

abbrev done : {A : Type 0} → List A → Option (List A)
done xs = Some xs

pub before-end : {A : Type 0} → (xs : List A) → before xs (Some []) ≡ Some xs
before-end xs = ap done (append-nil xs)

pub before-onto : {A : Type 0} → (xs : List A) (x : A) (o : Option (List A)) → before xs (onto (Some x) o) ≡ before (xs ++ x ∷ []) o
before-onto xs x None = refl
before-onto xs x (Some ys) = ap done (sym (append_assoc xs (x ∷ []) ys))
