-- A word in a form is the encoding of its value.
use Rattle.std.proofs.Common.{◌≡◌, ◌≤◌, ◌<◌, ◌+◌, ◌*◌, ◌/◌, ◌%◌, ℕ, suc, zero, Bool, true, false, nat_lt, nat_le, List, [], ◌∷◌, ◌++◌, get_or, refl, sym, ◌∙◌, ap, arith, subst, zero-add}
use Rattle.std.specs.Int.{w32, to_be_bytes, from_be_bytes}
use Rattle.std.proofs.lemmas.Bool.{lt-ltb, ltb-true, leb-true, le-leb}
use Rattle.std.proofs.lemmas.Nat.{be_bytes_4}
use Rattle.std.proofs.Math.Nat.{mul-le-mul_right}
use Rattle.tpi_grammar.specs.Form.{Form, In, scan}
use Rattle.tpi_grammar.specs.Word.{meets, viable, may_follow, word, after_word}
use Rattle.tpi_grammar.specs.declared.word.Range.{Range}
use Rattle.tpi_grammar.proofs.WordForms.{and_true, both, or_left, or_right, at_byte}

abbrev horner : ℕ → ℕ → ℕ → ℕ → ℕ
horner a b c d = 256 * (256 * (256 * a + b) + c) + d

value_of : (a b c d : ℕ) → horner a b c d ≡ from_be_bytes w32 (a ∷ b ∷ c ∷ d ∷ [])
value_of a b c d = omega arith

bytes_of : (a b c d : ℕ) → a < 256 → b < 256 → c < 256 → d < 256 → to_be_bytes w32 (horner a b c d) ≡ a ∷ b ∷ c ∷ d ∷ []
bytes_of a b c d ha hb hc hd = be_bytes_4 (a ∷ b ∷ c ∷ d ∷ []) _ refl each (value_of a b c d)
  where
    each : (i : ℕ) → get_or (a ∷ b ∷ c ∷ d ∷ []) i 0 < 256
    each zero = ha
    each (suc zero) = hb
    each (suc (suc zero)) = hc
    each (suc (suc (suc zero))) = hd
    each (suc (suc (suc (suc i)))) = omega arith

-- what a word is
pub record IsWord (rs : List Range) (next : ℕ → Form) (ws : List ℕ) : Type 0 where
  pub value : ℕ
  pub rest : List ℕ
  pub small : value < 4294967296
  pub met : viable rs 1 value ≡ true
  pub text : ws ≡ to_be_bytes w32 value ++ rest
  pub inner : In (next value) rest

met_by : (rs : List Range) (m x b : ℕ) → may_follow rs m x b ≡ true → (b < 256) × (viable rs m (256 * x + b) ≡ true)
met_by rs m x b e = let p = and_true (nat_lt b 256) _ e in (ltb-true b 256 p.0, p.1)

pub word_is : (rs : List Range) (next : ℕ → Form) (ws : List ℕ) → In (word rs next) ws → IsWord rs next ws
unfolding word
word_is rs next [] i = absurd i
word_is rs next (a ∷ []) i = absurd i.1
word_is rs next (a ∷ b ∷ []) i = absurd i.1.1
word_is rs next (a ∷ b ∷ c ∷ []) i = absurd i.1.1.1
word_is rs next (a ∷ b ∷ c ∷ d ∷ rest) i =
    let pa = met_by rs 16777216 0 a i.0 in
    let pb = met_by rs 65536 a b i.1.0 in
    let pc = met_by rs 256 (256 * a + b) c i.1.1.0 in
    let pd = met_by rs 1 (256 * (256 * a + b) + c) d i.1.1.1.0 in
    record {
      value = horner a b c d;
      rest = rest;
      small = omega (arith, pa.0, pb.0, pc.0, pd.0);
      met = pd.1;
      text = sym (ap (λ bs. bs ++ rest) (bytes_of a b c d pa.0 pb.0 pc.0 pd.0));
      inner = i.1.1.1.1;
    }

all_bytes : (m x : ℕ) → (256 * x + 256) * m ≡ (x + 1) * (256 * m)
all_bytes m x = grind arith

meets_up : (m x b : ℕ) (r : Range) → b < 256 → meets m (256 * x + b) r ≡ true → meets (256 * m) x r ≡ true
meets_up m x b r lt e =
    let low : r.low < (256 * x + b + 1) * m = ltb-true _ _ (and_true _ (nat_le ((256 * x + b) * m) r.high) e).0 in
    let high : (256 * x + b) * m ≤ r.high = leb-true _ _ (and_true (nat_lt r.low ((256 * x + b + 1) * m)) _ e).1 in
    both _ _ (lt-ltb r.low ((x + 1) * (256 * m)) (under m x b r.low lt low)) (le-leb (x * (256 * m)) r.high (over m x b r.high high))
  where
    under : (m x b n : ℕ) → b < 256 → n < (256 * x + b + 1) * m → n < (x + 1) * (256 * m)
    under m x b n lt h = let le : 256 * x + b + 1 ≤ 256 * x + 256 = omega (arith, lt) in omega (arith, h, mul-le-mul_right m le, all_bytes m x)

    over : (m x b n : ℕ) → (256 * x + b) * m ≤ n → x * (256 * m) ≤ n
    over m x b n h = omega (arith, h, at_byte m x b)

viable_up : (rs : List Range) (m x b : ℕ) → b < 256 → viable rs m (256 * x + b) ≡ true → viable rs (256 * m) x ≡ true
viable_up [] m x b lt e = e
viable_up (r ∷ rs) m x b lt e = go (meets m (256 * x + b) r) refl (λ h. viable_up rs m x b lt h)
  where
    go : (t : Bool) → meets m (256 * x + b) r ≡ t → (viable rs m (256 * x + b) ≡ true → viable rs (256 * m) x ≡ true) → viable (r ∷ rs) (256 * m) x ≡ true
    go true is again = or_left _ _ (meets_up m x b r lt is)
    go false is again = or_right _ _ (again (rw is at e))

may_step : (rs : List Range) (m x b : ℕ) → b < 256 → viable rs m (256 * x + b) ≡ true → may_follow rs m x b ≡ true
may_step rs m x b lt e = both _ _ (lt-ltb b 256 lt) e

word_of_bytes : (rs : List Range) (next : ℕ → Form) (a b c d : ℕ) (rest : List ℕ) → a < 256 → b < 256 → c < 256 → d < 256
    → viable rs 1 (horner a b c d) ≡ true → In (next (horner a b c d)) rest → In (word rs next) (a ∷ b ∷ c ∷ d ∷ rest)
unfolding word
word_of_bytes rs next a b c d rest ha hb hc hd met inner =
    let m3 = viable_up rs 1 (256 * (256 * a + b) + c) d hd met in
    let m2 = viable_up rs 256 (256 * a + b) c hc m3 in
    let m1 = viable_up rs 65536 a b hb m2 in (
      may_step rs 16777216 0 a ha (subst (λ n. viable rs 16777216 n ≡ true) (sym (zero-add a)) m1),
      (may_step rs 65536 a b hb m2, (may_step rs 256 (256 * a + b) c hc m3, (may_step rs 1 (256 * (256 * a + b) + c) d hd met, inner))),
    )

-- the encoding of a value in the ranges, and what follows it, is of the form
pub word_has : (rs : List Range) (next : ℕ → Form) (v : ℕ) (rest : List ℕ) → v < 4294967296 → viable rs 1 v ≡ true → In (next v) rest
    → In (word rs next) (to_be_bytes w32 v ++ rest)
word_has rs next v rest small met inner =
    let a : ℕ = v / 16777216 in
    let b : ℕ = v / 65536 % 256 in
    let c : ℕ = v / 256 % 256 in
    let d : ℕ = v % 256 in
    let is : v ≡ horner a b c d = omega arith in
    let ha : a < 256 = omega arith in
    let hb : b < 256 = omega arith in
    let hc : c < 256 = omega arith in
    let hd : d < 256 = omega arith in
    let text : to_be_bytes w32 v ≡ a ∷ b ∷ c ∷ d ∷ [] = ap (to_be_bytes w32) is ∙ bytes_of a b c d ha hb hc hd in
    subst (λ (bs : List ℕ). In (word rs next) (bs ++ rest)) (sym text)
    (word_of_bytes rs next a b c d rest ha hb hc hd (subst (λ n. viable rs 1 n ≡ true) is met) (subst (λ n. In (next n) rest) is inner))

-- a word in the ranges is read whole
scan_bytes : (rs : List Range) (next : ℕ → Form) (a b c d : ℕ) (rest : List ℕ) → a < 256 → b < 256 → c < 256 → d < 256
    → viable rs 1 (horner a b c d) ≡ true → scan (word rs next) (a ∷ b ∷ c ∷ d ∷ rest) ≡ after_word (scan (next (horner a b c d)) rest)
unfolding word
scan_bytes rs next a b c d rest ha hb hc hd met =
    let m3 = viable_up rs 1 (256 * (256 * a + b) + c) d hd met in
    let m2 = viable_up rs 256 (256 * a + b) c hc m3 in
    let m1 = viable_up rs 65536 a b hb m2 in
    rw (
      may_step rs 16777216 0 a ha (subst (λ n. viable rs 16777216 n ≡ true) (sym (zero-add a)) m1),
      may_step rs 65536 a b hb m2,
      may_step rs 256 (256 * a + b) c hc m3,
      may_step rs 1 (256 * (256 * a + b) + c) d hd met,
    ) refl

pub word_scan : (rs : List Range) (next : ℕ → Form) (v : ℕ) (rest : List ℕ) → v < 4294967296 → viable rs 1 v ≡ true
    → scan (word rs next) (to_be_bytes w32 v ++ rest) ≡ after_word (scan (next v) rest)
word_scan rs next v rest small met =
    let a : ℕ = v / 16777216 in
    let b : ℕ = v / 65536 % 256 in
    let c : ℕ = v / 256 % 256 in
    let d : ℕ = v % 256 in
    let is : v ≡ horner a b c d = omega arith in
    let ha : a < 256 = omega arith in
    let hb : b < 256 = omega arith in
    let hc : c < 256 = omega arith in
    let hd : d < 256 = omega arith in
    let text : to_be_bytes w32 v ≡ a ∷ b ∷ c ∷ d ∷ [] = ap (to_be_bytes w32) is ∙ bytes_of a b c d ha hb hc hd in
    ap (λ (bs : List ℕ). scan (word rs next) (bs ++ rest)) text
    ∙ scan_bytes rs next a b c d rest ha hb hc hd (subst (λ n. viable rs 1 n ≡ true) is met)
    ∙ ap (λ n. after_word (scan (next n) rest)) (sym is)
