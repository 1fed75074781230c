-- The least descriptor of bindings, whatever their order.
use Rattle.std.proofs.Common.{◌≡◌, ◌∙◌, ℕ, Bool, true, false, not, ◌&&◌, cond, List, [], ◌∷◌, ◌++◌, map, filter, take, drop, Option, Some, None, min, refl, sym, ap, arith}
use Rattle.std.specs.Prelude.{◌==◌}
use Rattle.std.specs.List.{AllByRecursion}
use Rattle.std.proofs.lemmas.List.{take-append-drop}
use Rattle.xti_model.specs.World.{Binding}
use Rattle.xti_model.specs.Switch.{less, least}

-- the least of what was found and of what is left
abbrev pub both : Option ℕ → Option ℕ → Option ℕ
both None o = o
both (Some n) o = less n o

abbrev pub least_of : (Binding → Bool) → List Binding → Option ℕ
least_of test bs = least (map (λ (b : Binding). b.fd) (filter test bs))

abbrev pub one_if : Bool → ℕ → Option ℕ
one_if b n = cond b (Some n) None

abbrev pub one : (Binding → Bool) → Binding → Option ℕ
one test b = one_if (test b) b.fd

min_comm : (m n : ℕ) → Some (min m n) ≡ Some (min n m)
min_comm m n = let e : min m n ≡ min n m = omega arith in ap (λ (k : ℕ). Some k) e

min_assoc : (k m n : ℕ) → Some (min (min k m) n) ≡ Some (min k (min m n))
min_assoc k m n = let e : min (min k m) n ≡ min k (min m n) = omega arith in ap (λ (j : ℕ). Some j) e

min_same : (n : ℕ) → Some (min n n) ≡ Some n
min_same n = let e : min n n ≡ n = omega arith in ap (λ (j : ℕ). Some j) e

pub both_none : (o : Option ℕ) → both o None ≡ o
both_none None = refl
both_none (Some n) = refl

pub both_comm : (o p : Option ℕ) → both o p ≡ both p o
both_comm None None = refl
both_comm None (Some n) = refl
both_comm (Some m) None = refl
both_comm (Some m) (Some n) = min_comm m n

pub both_assoc : (o p q : Option ℕ) → both (both o p) q ≡ both o (both p q)
both_assoc None p q = refl
both_assoc (Some k) None q = refl
both_assoc (Some k) (Some m) None = refl
both_assoc (Some k) (Some m) (Some n) = min_assoc k m n

pub both_same : (o : Option ℕ) → both o o ≡ o
both_same None = refl
both_same (Some n) = min_same n

cons_by : (c : Bool) (b : Binding) (bs : List Binding) → least (map (λ (x : Binding). x.fd) (cond c (b ∷ bs) bs)) ≡ both (one_if c b.fd) (least (map (λ (x : Binding). x.fd) bs))
cons_by true b bs = refl
cons_by false b bs = refl

pub least_cons : (test : Binding → Bool) (b : Binding) (bs : List Binding) → least_of test (b ∷ bs) ≡ both (one test b) (least_of test bs)
least_cons test b bs = cons_by (test b) b (filter test bs)

pub least_none : (test : Binding → Bool) (bs : List Binding) → AllByRecursion (λ b. test b ≡ false) bs → least_of test bs ≡ None
least_none test [] h = refl
least_none test (b ∷ bs) h = rw (least_cons test b bs, h.0) (least_none test bs h.1)

-- of two lists, one after the other
pub least_append : (test : Binding → Bool) (bs cs : List Binding) → least_of test (bs ++ cs) ≡ both (least_of test bs) (least_of test cs)
least_append test [] cs = refl
least_append test (b ∷ bs) cs =
    rw (least_cons test b (bs ++ cs), least_append test bs cs, least_cons test b bs, both_assoc (one test b) (least_of test bs) (least_of test cs)) refl

-- what stands after isn't asked for
pub least_front : (test : Binding → Bool) (bs : List Binding) (n : ℕ) → AllByRecursion (λ b. test b ≡ false) (drop n bs) → least_of test (take n bs) ≡ least_of test bs
least_front test bs n h =
    let all : least_of test (take n bs ++ drop n bs) ≡ least_of test bs = ap (least_of test) (take-append-drop n bs) in
    let rest = least_append test (take n bs) (drop n bs) ∙ (ap (both (least_of test (take n bs))) (least_none test (drop n bs) h) ∙ both_none (least_of test (take n bs))) in
    sym rest ∙ all

-- the least of those that are another's
others_of : (test : Binding → Bool) (fd : ℕ) (bs : List Binding) → map (λ (b : Binding). b.fd) (filter (λ b. not (b.fd == fd) && test b) bs) ≡ filter (λ other. not (other == fd)) (map (λ (b : Binding). b.fd) (filter test bs))
others_of test fd [] = refl
others_of test fd (b ∷ bs) = by_tests (b.fd == fd) (test b) refl (others_of test fd bs)
  where
    by_tests : (s t : Bool) → (b.fd == fd) ≡ s → map (λ (x : Binding). x.fd) (filter (λ x. not (x.fd == fd) && test x) bs) ≡ filter (λ other. not (other == fd)) (map (λ (x : Binding). x.fd) (filter test bs))
        → map (λ (x : Binding). x.fd) (cond (not s && t) (b ∷ filter (λ x. not (x.fd == fd) && test x) bs) (filter (λ x. not (x.fd == fd) && test x) bs)) ≡ filter (λ other. not (other == fd)) (map (λ (x : Binding). x.fd) (cond t (b ∷ filter test bs) (filter test bs)))
    by_tests true true e h = rw e h
    by_tests true false e h = h
    by_tests false true e h = rw e (ap (λ ns. b.fd ∷ ns) h)
    by_tests false false e h = h

pub least_beside : (test : Binding → Bool) (fd : ℕ) (bs : List Binding) → least_of (λ b. not (b.fd == fd) && test b) bs ≡ least (filter (λ other. not (other == fd)) (map (λ (b : Binding). b.fd) (filter test bs)))
least_beside test fd bs = ap least (others_of test fd bs)
