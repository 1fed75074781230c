-- Each call that fails is a listed one, and none fails twice.
use Rattle.std.proofs.Common.{◌≡◌, ◌<◌, ℕ, ◌+◌, ◌-◌, ◌^◌, ◌≤◌, ◌==◌, List, [], ◌∷◌, true, false, inl, inr, min, subst, nat_le, if◌then◌else◌, arith}
use Rattle.std.proofs.lemmas.Bool.{cases_lt, or_cases, both_ways}
use Rattle.std.proofs.lemmas.Bool.Decides.{nat_tests}
use Rattle.std.proofs.lemmas.List.Sums.{sum_by-cons}
use Rattle.xti_io.specs.Turns.{is_listed, count_from, IsCounted}

count_from-cons : (n m : ℕ) (ns : List ℕ) → count_from n (m ∷ ns) ≡ (if nat_le n m then 1 else 0) + count_from n ns
count_from-cons n m ns = sum_by-cons (λ y. if nat_le n y then 1 else 0) m ns

passing : (n m a b : ℕ) → b ≤ a → (if nat_le (n + 1) m then 1 else 0) + b ≤ (if nat_le n m then 1 else 0) + a
passing n m a b h = grind (arith, nat_tests)

passing-same : (n m a b : ℕ) → (m == n) ≡ true → b ≤ a → (if nat_le (n + 1) m then 1 else 0) + b + 1 ≤ (if nat_le n m then 1 else 0) + a
passing-same n m a b e h = grind (arith, nat_tests)

count_from-next : (n : ℕ) (ns : List ℕ) → count_from (n + 1) ns ≤ count_from n ns
count_from-next n [] = omega arith
count_from-next n (m ∷ ns) =
    rw (count_from-cons (n + 1) m ns, count_from-cons n m ns) (passing n m (count_from n ns) (count_from (n + 1) ns) (count_from-next n ns))

-- a listed number is no more among those from the next on
count_from-listed : (n : ℕ) (ns : List ℕ) → is_listed n ns ≡ true → count_from (n + 1) ns + 1 ≤ count_from n ns
count_from-listed n [] h = absurd cc
count_from-listed n (m ∷ ns) h =
    rw (count_from-cons (n + 1) m ns, count_from-cons n m ns)
    (elim (or_cases (m == n) (is_listed n ns) h) [
      | inl e ↦ passing-same n m (count_from n ns) (count_from (n + 1) ns) e (count_from-next n ns)
      | inr l ↦ let k = passing n m (count_from n ns) (count_from (n + 1) ns + 1) (count_from-listed n ns l) in omega arith
    ])

not_last : (n : ℕ) (fails : List ℕ) → n ≤ 2 ^ 64 - 1 → is_listed n fails ≡ true → is_listed (2 ^ 64 - 1) fails ≡ false → n < 2 ^ 64 - 1
not_last n fails b h e = elim (cases_lt n (2 ^ 64 - 1)) [
  | inl l ↦ l
  | inr g ↦
      let same : n ≡ 2 ^ 64 - 1 = omega arith in
      absurd (both_ways (is_listed (2 ^ 64 - 1) fails) e (subst (λ (k : ℕ). is_listed k fails ≡ true) same h))
]

-- after a call that failed
pub IsCounted-failed : (fails : List ℕ) (number faults next : ℕ) → next ≡ min (number + 1) (2 ^ 64 - 1) → is_listed number fails ≡ true →
    IsCounted (record { fails = fails; number = number; faults = faults }) → IsCounted (record { fails = fails; number = next; faults = faults + 1 })
IsCounted-failed fails number faults next e h c =
    let lt = not_last number fails c.within h c.end in
    let same : next ≡ number + 1 = omega (arith, lt) in
    let fewer = count_from-listed number fails h in
    record { within = omega arith; passed = rw same (omega (arith, fewer, c.passed)); few = c.few; end = c.end }

-- after a call that did not fail
pub IsCounted-passed : (fails : List ℕ) (number faults next : ℕ) → next ≡ min (number + 1) (2 ^ 64 - 1) →
    IsCounted (record { fails = fails; number = number; faults = faults }) → IsCounted (record { fails = fails; number = next; faults = faults })
IsCounted-passed fails number faults next e c = elim (cases_lt number (2 ^ 64 - 1)) [
  | inl l ↦
      let same : next ≡ number + 1 = omega arith in
      let fewer = count_from-next number fails in
      record { within = omega arith; passed = rw same (omega (arith, fewer, c.passed)); few = c.few; end = c.end }
  | inr g ↦
      let same : next ≡ number = omega arith in
      record { within = omega arith; passed = rw same c.passed; few = c.few; end = c.end }
]

pub faults-few : (fails : List ℕ) (number faults : ℕ) → IsCounted (record { fails = fails; number = number; faults = faults }) → faults < 2 ^ 64 - 1
faults-few fails number faults c = omega (arith, c.passed, c.few)
