-- The bits of a sum of events' numbers are the events that were summed.
use Rattle.std.proofs.Common.{◌≡◌, ◌∙◌, ℕ, ◌+◌, ◌*◌, ◌^◌, ◌≤◌, min, Bool, true, false, not, ◌&&◌, ◌==◌, cond, eqb, List, [], ◌∷◌, Some, bit_and, refl, sym, ap, subst, arith}
use Rattle.std.specs.Prelude.{filter, find, sum_by}
use Rattle.std.specs.Int.{bit_at}
use Rattle.std.proofs.lemmas.Bool.{eqb-true}
use Rattle.std.proofs.lemmas.Nat.Bits.{and_pow, bit_at_and}
use Rattle.xti_base.specs.declared.kinds.Event.{Event}
use Rattle.xti_base.specs.declared.kinds.Event.TheVariants.{T_LISTEN, T_CONNECT, T_DATA, T_EXDATA, T_DISCONNECT, T_UDERR, T_ORDREL, T_GODATA, T_GOEXDATA}
use Rattle.xti_base.specs.Kinds.{event_number}
use Rattle.xti_model.specs.Events.{events}
use Rattle.xti_core.proofs.Sums.{sum-where}
use Rattle.xti_poll.specs.Polls.{is_asked}
use Rattle.xti_poll.specs.Sums.{first_in_both}

abbrev mark : Bool → ℕ
mark true = 1
mark false = 0

-- the numbers of those events that are chosen, in the order of events
abbrev total : Bool → Bool → Bool → Bool → Bool → Bool → Bool → Bool → Bool → ℕ
total d l c u x n o g h = 0 + cond d 16 0 + cond l 1 0 + cond c 2 0 + cond u 64 0 + cond x 8 0 + cond n 4 0 + cond o 128 0 + cond g 512 0 + cond h 256 0

-- its bits say which are chosen
abbrev right : Bool → Bool → Bool → Bool → Bool → Bool → Bool → Bool → Bool → Bool
right d l c u x n o g h =
    let s = total d l c u x n o g h in
    eqb (bit_at s 4) (mark d) && (eqb (bit_at s 0) (mark l) && (eqb (bit_at s 1) (mark c) && (eqb (bit_at s 6) (mark u) && (eqb (bit_at s 3) (mark x) && (eqb (bit_at s 2) (mark n) && (eqb (bit_at s 7) (mark o) && (eqb (bit_at s 9) (mark g) && eqb (bit_at s 8) (mark h))))))))

every : (Bool → Bool) → Bool
every f = f true && f false

every-is : (f : Bool → Bool) → every f ≡ true → (b : Bool) → f b ≡ true
unfolding every
every-is f e true = go (f true) e
  where
    go : (a : Bool) → (a && f false) ≡ true → a ≡ true
    go true e = refl
    go false e = absurd (cc)
every-is f e false = go (f true) e
  where
    go : (a : Bool) → (a && f false) ≡ true → f false ≡ true
    go true e = e
    go false e = absurd (cc)

every-right : every (λ d. every (λ l. every (λ c. every (λ u. every (λ x. every (λ n. every (λ o. every (λ g. every (λ h. right d l c u x n o g h))))))))) ≡ true
unfolding every
every-right = refl

is-right : (d l c u x n o g h : Bool) → right d l c u x n o g h ≡ true
is-right d l c u x n o g h =
    every-is (λ h. right d l c u x n o g h) (every-is _ (every-is _ (every-is _ (every-is _ (every-is _ (every-is _ (every-is _ (every-is _ every-right d) l) c) u) x) n) o) g) h

both : (a b : Bool) → (a && b) ≡ true → (a ≡ true) × (b ≡ true)
both true b e = (refl, e)
both false b e = absurd (cc)

-- the bit of an event's number
abbrev bit_of : Event → ℕ
bit_of T_LISTEN = 0
bit_of T_CONNECT = 1
bit_of T_DATA = 2
bit_of T_EXDATA = 3
bit_of T_DISCONNECT = 4
bit_of T_UDERR = 6
bit_of T_ORDREL = 7
bit_of T_GODATA = 8
bit_of T_GOEXDATA = 9

number-bit : (e : Event) → event_number e ≡ 2 ^ bit_of e
number-bit T_LISTEN = refl
number-bit T_CONNECT = refl
number-bit T_DATA = refl
number-bit T_EXDATA = refl
number-bit T_DISCONNECT = refl
number-bit T_UDERR = refl
number-bit T_ORDREL = refl
number-bit T_GODATA = refl
number-bit T_GOEXDATA = refl

-- of nine that are all true each is
each : (a b c d e f g h i : Bool) → (a && (b && (c && (d && (e && (f && (g && (h && i)))))))) ≡ true → (a ≡ true) × (b ≡ true) × (c ≡ true) × (d ≡ true) × (e ≡ true) × (f ≡ true) × (g ≡ true) × (h ≡ true) × (i ≡ true)
each a b c d e f g h i r0 =
    let r1 = both a (b && (c && (d && (e && (f && (g && (h && i))))))) r0 in
    let r2 = both b (c && (d && (e && (f && (g && (h && i)))))) r1.1 in
    let r3 = both c (d && (e && (f && (g && (h && i))))) r2.1 in
    let r4 = both d (e && (f && (g && (h && i)))) r3.1 in
    let r5 = both e (f && (g && (h && i))) r4.1 in
    let r6 = both f (g && (h && i)) r5.1 in
    let r7 = both g (h && i) r6.1 in
    let r8 = both h (i) r7.1 in
    (r1.0, r2.0, r3.0, r4.0, r5.0, r6.0, r7.0, r8.0, r8.1)

bit-right : (t : Event → Bool) → right (t T_DISCONNECT) (t T_LISTEN) (t T_CONNECT) (t T_UDERR) (t T_EXDATA) (t T_DATA) (t T_ORDREL) (t T_GOEXDATA) (t T_GODATA) ≡ true → (e : Event) → bit_at (total (t T_DISCONNECT) (t T_LISTEN) (t T_CONNECT) (t T_UDERR) (t T_EXDATA) (t T_DATA) (t T_ORDREL) (t T_GOEXDATA) (t T_GODATA)) (bit_of e) ≡ mark (t e)
bit-right t r e = go e
  where
    all : (eqb (bit_at (total (t T_DISCONNECT) (t T_LISTEN) (t T_CONNECT) (t T_UDERR) (t T_EXDATA) (t T_DATA) (t T_ORDREL) (t T_GOEXDATA) (t T_GODATA)) 4) (mark (t T_DISCONNECT)) ≡ true) × (eqb (bit_at (total (t T_DISCONNECT) (t T_LISTEN) (t T_CONNECT) (t T_UDERR) (t T_EXDATA) (t T_DATA) (t T_ORDREL) (t T_GOEXDATA) (t T_GODATA)) 0) (mark (t T_LISTEN)) ≡ true) × (eqb (bit_at (total (t T_DISCONNECT) (t T_LISTEN) (t T_CONNECT) (t T_UDERR) (t T_EXDATA) (t T_DATA) (t T_ORDREL) (t T_GOEXDATA) (t T_GODATA)) 1) (mark (t T_CONNECT)) ≡ true) × (eqb (bit_at (total (t T_DISCONNECT) (t T_LISTEN) (t T_CONNECT) (t T_UDERR) (t T_EXDATA) (t T_DATA) (t T_ORDREL) (t T_GOEXDATA) (t T_GODATA)) 6) (mark (t T_UDERR)) ≡ true) × (eqb (bit_at (total (t T_DISCONNECT) (t T_LISTEN) (t T_CONNECT) (t T_UDERR) (t T_EXDATA) (t T_DATA) (t T_ORDREL) (t T_GOEXDATA) (t T_GODATA)) 3) (mark (t T_EXDATA)) ≡ true) × (eqb (bit_at (total (t T_DISCONNECT) (t T_LISTEN) (t T_CONNECT) (t T_UDERR) (t T_EXDATA) (t T_DATA) (t T_ORDREL) (t T_GOEXDATA) (t T_GODATA)) 2) (mark (t T_DATA)) ≡ true) × (eqb (bit_at (total (t T_DISCONNECT) (t T_LISTEN) (t T_CONNECT) (t T_UDERR) (t T_EXDATA) (t T_DATA) (t T_ORDREL) (t T_GOEXDATA) (t T_GODATA)) 7) (mark (t T_ORDREL)) ≡ true) × (eqb (bit_at (total (t T_DISCONNECT) (t T_LISTEN) (t T_CONNECT) (t T_UDERR) (t T_EXDATA) (t T_DATA) (t T_ORDREL) (t T_GOEXDATA) (t T_GODATA)) 9) (mark (t T_GOEXDATA)) ≡ true) × (eqb (bit_at (total (t T_DISCONNECT) (t T_LISTEN) (t T_CONNECT) (t T_UDERR) (t T_EXDATA) (t T_DATA) (t T_ORDREL) (t T_GOEXDATA) (t T_GODATA)) 8) (mark (t T_GODATA)) ≡ true)
    all = each (eqb (bit_at (total (t T_DISCONNECT) (t T_LISTEN) (t T_CONNECT) (t T_UDERR) (t T_EXDATA) (t T_DATA) (t T_ORDREL) (t T_GOEXDATA) (t T_GODATA)) 4) (mark (t T_DISCONNECT))) (eqb (bit_at (total (t T_DISCONNECT) (t T_LISTEN) (t T_CONNECT) (t T_UDERR) (t T_EXDATA) (t T_DATA) (t T_ORDREL) (t T_GOEXDATA) (t T_GODATA)) 0) (mark (t T_LISTEN))) (eqb (bit_at (total (t T_DISCONNECT) (t T_LISTEN) (t T_CONNECT) (t T_UDERR) (t T_EXDATA) (t T_DATA) (t T_ORDREL) (t T_GOEXDATA) (t T_GODATA)) 1) (mark (t T_CONNECT))) (eqb (bit_at (total (t T_DISCONNECT) (t T_LISTEN) (t T_CONNECT) (t T_UDERR) (t T_EXDATA) (t T_DATA) (t T_ORDREL) (t T_GOEXDATA) (t T_GODATA)) 6) (mark (t T_UDERR))) (eqb (bit_at (total (t T_DISCONNECT) (t T_LISTEN) (t T_CONNECT) (t T_UDERR) (t T_EXDATA) (t T_DATA) (t T_ORDREL) (t T_GOEXDATA) (t T_GODATA)) 3) (mark (t T_EXDATA))) (eqb (bit_at (total (t T_DISCONNECT) (t T_LISTEN) (t T_CONNECT) (t T_UDERR) (t T_EXDATA) (t T_DATA) (t T_ORDREL) (t T_GOEXDATA) (t T_GODATA)) 2) (mark (t T_DATA))) (eqb (bit_at (total (t T_DISCONNECT) (t T_LISTEN) (t T_CONNECT) (t T_UDERR) (t T_EXDATA) (t T_DATA) (t T_ORDREL) (t T_GOEXDATA) (t T_GODATA)) 7) (mark (t T_ORDREL))) (eqb (bit_at (total (t T_DISCONNECT) (t T_LISTEN) (t T_CONNECT) (t T_UDERR) (t T_EXDATA) (t T_DATA) (t T_ORDREL) (t T_GOEXDATA) (t T_GODATA)) 9) (mark (t T_GOEXDATA))) (eqb (bit_at (total (t T_DISCONNECT) (t T_LISTEN) (t T_CONNECT) (t T_UDERR) (t T_EXDATA) (t T_DATA) (t T_ORDREL) (t T_GOEXDATA) (t T_GODATA)) 8) (mark (t T_GODATA))) r

    go : (e : Event) → bit_at (total (t T_DISCONNECT) (t T_LISTEN) (t T_CONNECT) (t T_UDERR) (t T_EXDATA) (t T_DATA) (t T_ORDREL) (t T_GOEXDATA) (t T_GODATA)) (bit_of e) ≡ mark (t e)
    go T_DISCONNECT = eqb-true (bit_at (total (t T_DISCONNECT) (t T_LISTEN) (t T_CONNECT) (t T_UDERR) (t T_EXDATA) (t T_DATA) (t T_ORDREL) (t T_GOEXDATA) (t T_GODATA)) 4) (mark (t T_DISCONNECT)) all.0
    go T_LISTEN = eqb-true (bit_at (total (t T_DISCONNECT) (t T_LISTEN) (t T_CONNECT) (t T_UDERR) (t T_EXDATA) (t T_DATA) (t T_ORDREL) (t T_GOEXDATA) (t T_GODATA)) 0) (mark (t T_LISTEN)) all.1
    go T_CONNECT = eqb-true (bit_at (total (t T_DISCONNECT) (t T_LISTEN) (t T_CONNECT) (t T_UDERR) (t T_EXDATA) (t T_DATA) (t T_ORDREL) (t T_GOEXDATA) (t T_GODATA)) 1) (mark (t T_CONNECT)) all.2
    go T_UDERR = eqb-true (bit_at (total (t T_DISCONNECT) (t T_LISTEN) (t T_CONNECT) (t T_UDERR) (t T_EXDATA) (t T_DATA) (t T_ORDREL) (t T_GOEXDATA) (t T_GODATA)) 6) (mark (t T_UDERR)) all.3
    go T_EXDATA = eqb-true (bit_at (total (t T_DISCONNECT) (t T_LISTEN) (t T_CONNECT) (t T_UDERR) (t T_EXDATA) (t T_DATA) (t T_ORDREL) (t T_GOEXDATA) (t T_GODATA)) 3) (mark (t T_EXDATA)) all.4
    go T_DATA = eqb-true (bit_at (total (t T_DISCONNECT) (t T_LISTEN) (t T_CONNECT) (t T_UDERR) (t T_EXDATA) (t T_DATA) (t T_ORDREL) (t T_GOEXDATA) (t T_GODATA)) 2) (mark (t T_DATA)) all.5
    go T_ORDREL = eqb-true (bit_at (total (t T_DISCONNECT) (t T_LISTEN) (t T_CONNECT) (t T_UDERR) (t T_EXDATA) (t T_DATA) (t T_ORDREL) (t T_GOEXDATA) (t T_GODATA)) 7) (mark (t T_ORDREL)) all.6
    go T_GOEXDATA = eqb-true (bit_at (total (t T_DISCONNECT) (t T_LISTEN) (t T_CONNECT) (t T_UDERR) (t T_EXDATA) (t T_DATA) (t T_ORDREL) (t T_GOEXDATA) (t T_GODATA)) 9) (mark (t T_GOEXDATA)) all.7
    go T_GODATA = eqb-true (bit_at (total (t T_DISCONNECT) (t T_LISTEN) (t T_CONNECT) (t T_UDERR) (t T_EXDATA) (t T_DATA) (t T_ORDREL) (t T_GOEXDATA) (t T_GODATA)) 8) (mark (t T_GODATA)) all.8

bits-of : (t : Event → Bool) (e : Event) → bit_at (total (t T_DISCONNECT) (t T_LISTEN) (t T_CONNECT) (t T_UDERR) (t T_EXDATA) (t T_DATA) (t T_ORDREL) (t T_GOEXDATA) (t T_GODATA)) (bit_of e) ≡ mark (t e)
bits-of t e = bit-right t (is-right (t T_DISCONNECT) (t T_LISTEN) (t T_CONNECT) (t T_UDERR) (t T_EXDATA) (t T_DATA) (t T_ORDREL) (t T_GOEXDATA) (t T_GODATA)) e

-- the sum of the numbers of those that pass a test
pub sum-bits : (t : Event → Bool) (e : Event) → bit_at (sum_by event_number (filter t events)) (bit_of e) ≡ mark (t e)
sum-bits t e = ap (λ s. bit_at s (bit_of e)) (sum-where t 0 events) ∙ bits-of t e

-- an event is in both sums where it is in each
in-both : (s n k : ℕ) (b : Bool) → bit_at s k ≡ mark b → not (bit_and (bit_and s n) (2 ^ k) == 0) ≡ (b && not (bit_and n (2 ^ k) == 0))
in-both s n k true e = ap (λ z. not (z == 0)) (and_pow (bit_and s n) k ∙ (ap (λ z. z * 2 ^ k) (bit_at_and s n k ∙ (ap (λ z. min z (bit_at n k)) e ∙ least (bit_at n k) small)) ∙ sym (and_pow n k)))
  where
    small : bit_at n k ≤ 1
    small = omega arith

    least : (z : ℕ) → z ≤ 1 → min 1 z ≡ z
    least z le = omega (arith, le)
in-both s n k false e = ap (λ z. not (z == 0)) (and_pow (bit_and s n) k ∙ (ap (λ z. z * 2 ^ k) (bit_at_and s n k ∙ (ap (λ z. min z (bit_at n k)) e ∙ none (bit_at n k))) ∙ no (2 ^ k)))
  where
    none : (z : ℕ) → min 0 z ≡ 0
    none z = omega arith

    no : (z : ℕ) → 0 * z ≡ 0
    no z = omega arith

find-same : {A : Type 0} (f g : A → Bool) (xs : List A) → ((x : A) → f x ≡ g x) → find f xs ≡ find g xs
find-same f g [] h = refl
find-same f g (x ∷ xs) h = (λ i. cond (h x i) (Some x) (find f xs)) ∙ ap (cond (g x) (Some x)) (find-same f g xs h)

-- the first whose number is in the sum of the pending ones and in what is asked is the first that is pending and asked
pub first-both : (t : Event → Bool) (n : ℕ) → first_in_both (sum_by event_number (filter t events)) n ≡ find (λ event. t event && is_asked n event) events
first-both t n = find-same (is_asked (bit_and S n)) (λ event. t event && is_asked n event) events (λ e. subst (λ m. not (bit_and (bit_and S n) m == 0) ≡ (t e && not (bit_and n m == 0))) (sym (number-bit e)) (in-both S n (bit_of e) (t e) (sum-bits t e)))
  where
    S : ℕ
    S = sum_by event_number (filter t events)
