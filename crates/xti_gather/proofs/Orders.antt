-- The order of cells that are lent and of those that are missing.
use Rattle.std.proofs.Common.{length, ◌≡◌, ◌≢◌, ℕ, zero, suc, ◌+◌, ◌<◌, ◌≤◌, ltb, Bool, true, false, not, ◌||◌, eqb, List, [], ◌∷◌, ⊎_elim, Some, None, refl, sym, ap, ◌∙◌, subst, arith}
use Rattle.std.specs.Prelude.{slice_get, is_some, nat_lt, filter, MatchBool}
use Rattle.std.specs.List.{find, list_all}
use Rattle.std.proofs.lemmas.Bool.{eqb-true}
use Rattle.std.proofs.lemmas.Bool.Decides.{nat_tests}
use Rattle.xti_model.specs.Cells.{listed}
use Rattle.xti_model.specs.Robin.{numbers}
use Rattle.xti_model.specs.World.{is_among, places, switch_number}
use Rattle.xti_lent.specs.Lending.{Lending, cell_lent, is_lent}
use Rattle.xti_core.specs.Standing.{IsLoan}
use Rattle.xti_gather.specs.Orders.{AllBelow, LentWithin, IsLeastMissing, InOrder}
use Rattle.xti_gather.proofs.Numbers.{StandsAt, stands-at, among-get, rises, not-both, one-get, cases, found-beside, none-beside, lower-all, one-not-lower}
use Rattle.xti_gather.proofs.Loans.{place-lent, lent-either, lent-number}

-- the first of rising numbers that is missing is the least
pub least-missing : (l : Lending) (ns : List ℕ) (k n : ℕ) → ns ≡ listed ns → slice_get ns k ≡ Some n → is_lent l n ≡ false → ((j m : ℕ) → j < k → slice_get ns j ≡ Some m → is_lent l m ≡ true) → IsLeastMissing l ns n
least-missing l ns k n rising here gone before = record {
  among = among-get ns k n here;
  gone = gone;
  least = λ m i f. not-less m f (stands-at ns m i);
}
  where
    not-less : (m : ℕ) → is_lent l m ≡ false → StandsAt ns m → n ≤ m
    not-less m f s = go (ltb s.place k) refl (eqb k s.place) refl
      where
        go : (b : Bool) → ltb s.place k ≡ b → (d : Bool) → eqb k s.place ≡ d → n ≤ m
        go true e d g = absurd (not-both (is_lent l m) (before s.place m (grind (arith, nat_tests)) s.is) f)
        go false e true g = let q : n ≡ m = one-get ns k s.place n m (eqb-true k s.place g) here s.is in omega (arith, q)
        go false e false g = let lt : k < s.place = grind (arith, nat_tests) in let r : n < m = rises ns k s.place n m rising lt here s.is in omega (arith, r)

-- every lent cell is one of these, or one is not
pub none-beside-lent : (l : Lending) (ns : List ℕ) → find (λ n. not (is_among ns n)) l.numbers ≡ None → (is_lent l (switch_number l.providers) ≡ true → is_among ns (switch_number l.providers) ≡ true) → LentWithin l ns
none-beside-lent l ns e s n i = ⊎_elim
    (λ (q : n ≡ switch_number l.providers). subst (λ z. is_among ns z ≡ true) (sym q) (s (subst (λ z. is_lent l z ≡ true) q i)))
    (λ (a : is_among l.numbers n ≡ true). none-beside l.numbers ns n e a)
    (lent-either l n i)

pub beside-lent : (l : Lending) (ns : List ℕ) (n : ℕ) → IsLoan l → find (λ n. not (is_among ns n)) l.numbers ≡ Some n → (is_lent l n ≡ true) × (is_among ns n ≡ false)
beside-lent l ns n loan e = let f = found-beside l.numbers ns n e in (place-lent l n loan f.0, f.1)

-- every lent cell has a lower number, or one has not
pub lower-lent : (l : Lending) (k : ℕ) (b : Bool) → IsLoan l → is_lent l (switch_number l.providers) ≡ false → b ≡ list_all (λ n. nat_lt n k) l.numbers → MatchBool b (AllBelow l k) ((n : ℕ) × (is_lent l n ≡ true) × (k ≤ n))
lower-lent l k true loan s e = λ n i. ⊎_elim
    (λ (q : n ≡ switch_number l.providers). absurd (not-both (is_lent l n) i (subst (λ z. is_lent l z ≡ false) (sym q) s)))
    (λ (a : is_among l.numbers n ≡ true). lower-all l.numbers k n (sym e) a)
    (lent-either l n i)
lower-lent l k false loan s e = let r = one-not-lower l.numbers k (sym e) in (r.0, place-lent l r.0 loan r.1, r.2)

-- Fewer cells are lent once one was given back.
no-more : (f g : ℕ → Bool) (ns : List ℕ) → ((n : ℕ) → g n ≡ true → f n ≡ true) → length (filter g ns) ≤ length (filter f ns)
no-more f g [] h = omega arith
no-more f g (n ∷ ns) h = go (g n) refl (f n) refl (no-more f g ns h)
  where
    go : (b : Bool) → g n ≡ b → (a : Bool) → f n ≡ a → length (filter g ns) ≤ length (filter f ns) → length (filter g (n ∷ ns)) ≤ length (filter f (n ∷ ns))
    go true i true j le = rw (i, j) (omega arith)
    go true i false j le = absurd (not-both (f n) (h n i) j)
    go false i true j le = rw (i, j) (omega arith)
    go false i false j le = rw (i, j) le

one-fewer : (f g : ℕ → Bool) (ns : List ℕ) (k : ℕ) → ((n : ℕ) → g n ≡ true → f n ≡ true) → f k ≡ true → g k ≡ false → is_among ns k ≡ true → length (filter g ns) < length (filter f ns)
one-fewer f g [] k h a b i = absurd (cc)
one-fewer f g (n ∷ ns) k h a b i = go (eqb n k) refl i (g n) refl (f n) refl (no-more f g ns h) (one-fewer f g ns k h a b)
  where
    go : (d : Bool) → eqb n k ≡ d → (d || is_among ns k) ≡ true → (p : Bool) → g n ≡ p → (q : Bool) → f n ≡ q → length (filter g ns) ≤ length (filter f ns) → (is_among ns k ≡ true → length (filter g ns) < length (filter f ns)) → length (filter g (n ∷ ns)) < length (filter f (n ∷ ns))
    go true d e true i q j le later = let s : n ≡ k = eqb-true n k d in absurd (not-both (g k) (subst (λ z. g z ≡ true) s i) b)
    go true d e false i false j le later = let s : n ≡ k = eqb-true n k d in absurd (not-both (f k) a (subst (λ z. f z ≡ false) s j))
    go true d e false i true j le later = rw (i, j) (omega arith)
    go false d e true i true j le later = let lt = later e in rw (i, j) (omega arith)
    go false d e true i false j le later = absurd (not-both (f n) (h n i) j)
    go false d e false i true j le later = let lt = later e in rw (i, j) (omega arith)
    go false d e false i false j le later = rw (i, j) (later e)

among-numbers : (from k n : ℕ) → from ≤ n → n < from + k → is_among (numbers from k) n ≡ true
among-numbers from zero n le lt = absurd (omega arith)
among-numbers from (suc k) n le lt = go (eqb from n) refl (λ a. among-numbers (from + 1) k n a (omega arith))
  where
    go : (b : Bool) → eqb from n ≡ b → (from + 1 ≤ n → is_among (numbers (from + 1) k) n ≡ true) → (b || is_among (numbers (from + 1) k) n) ≡ true
    go true e later = refl
    go false e later = later (grind (arith, nat_tests))

-- how many cells are lent
abbrev pub count_lent : Lending → ℕ
count_lent l = length (filter (is_lent l) (numbers 0 (places l.providers + 1)))

pub fewer-lent : (l l' : Lending) (k : ℕ) → IsLoan l → l'.providers ≡ l.providers → is_lent l k ≡ true → cell_lent l' k ≡ None → ((n : ℕ) → n ≢ k → cell_lent l' n ≡ cell_lent l n) → count_lent l' < count_lent l
fewer-lent l l' k loan p here gone others =
    let still : (n : ℕ) → is_lent l' n ≡ true → is_lent l n ≡ true = λ n i. cases n k (is_lent l n ≡ true) (λ s. subst (λ z. is_lent l z ≡ true) (sym s) here) (λ ne. sym (ap is_some (others n ne)) ∙ i) in
    let lt = lent-number l k loan here in
    let r : length (filter (is_lent l') (numbers 0 (places l.providers + 1))) < length (filter (is_lent l) (numbers 0 (places l.providers + 1))) = one-fewer (is_lent l) (is_lent l') (numbers 0 (places l.providers + 1)) k still here (ap is_some gone) (among-numbers 0 (places l.providers + 1) k (omega arith) (omega (arith, lt))) in
    subst (λ z. length (filter (is_lent l') (numbers 0 (places z + 1))) < length (filter (is_lent l) (numbers 0 (places l.providers + 1)))) (sym p) r

-- What is lent while the missing cells are entered in rising order.
pub record SoFar (l : Lending) (ns : List ℕ) (k : ℕ) : Type 0 where
  pub before : (j n : ℕ) → j < k → slice_get ns j ≡ Some n → is_lent l n ≡ true
  pub order : (n j m : ℕ) → k ≤ j → is_lent l n ≡ true → slice_get ns j ≡ Some m → is_lent l m ≡ false → n < m

pub so-far-none : (l : Lending) (ns : List ℕ) → InOrder l ns → SoFar l ns 0
so-far-none l ns order = record {
  before = λ j n lt e. absurd (omega (arith, lt));
  order = λ n j m le i e g. order n m i (among-get ns j m e) g;
}

-- all that are lent have lower numbers than the next that is missing
pub so-far-below : (l : Lending) (ns : List ℕ) (k n : ℕ) → SoFar l ns k → slice_get ns k ≡ Some n → is_lent l n ≡ false → AllBelow l n
so-far-below l ns k n e i g m h = e.order m k n (omega arith) h i g

pub so-far-one : (l l' : Lending) (ns : List ℕ) (k n : ℕ) → ns ≡ listed ns → SoFar l ns k → slice_get ns k ≡ Some n → is_lent l' n ≡ true → ((m : ℕ) → m ≢ n → cell_lent l' m ≡ cell_lent l m) → SoFar l' ns (k + 1)
so-far-one l l' ns k n rising e here now others = record {
  before = λ j m lt i. cases m n (is_lent l' m ≡ true) (λ s. subst (λ z. is_lent l' z ≡ true) (sym s) now)
      (λ ne. ap is_some (others m ne) ∙ cases j k (is_lent l m ≡ true) (λ s. absurd (ne (one-get ns j k m n s i here))) (λ nj. e.before j m (omega (arith, lt, nj)) i));
  order = λ m j q le h i g. let ne : q ≢ n = λ s. absurd (not-both (is_lent l' n) now (subst (λ z. is_lent l' z ≡ false) s g)) in
      cases m n (m < q) (λ s. let r : n < q = rises ns k j n q rising (omega (arith, le)) here i in omega (arith, r, s))
      (λ nm. e.order m j q (omega (arith, le)) (sym (ap is_some (others m nm)) ∙ h) i (sym (ap is_some (others q ne)) ∙ g));
}
