-- The first byte that a search finds is where the line ends.
use Rattle.std.proofs.Common.{◌≡◌, ℕ, Bool, true, false, eqb, ltb, List, length, get_or, Option, Some, None, refl, arith}
use Rattle.std.specs.List.{position, position_or_len}
use Rattle.std.proofs.lemmas.List.Sums.{position_or_len_is}
use Rattle.std.proofs.lemmas.Bool.{lt-ltb, le-ltb}
use Rattle.memchr.specs.Find.{IsFirstByte, is_byte}

fails : (b : Bool) → (b ≡ true → ⊥) → b ≡ false
fails true h = absurd (h refl)
fails false h = refl

not_below : (n : ℕ) → ltb n n ≡ false
not_below n = le-ltb n n (omega arith)

pub position_is : (text : List ℕ) (found : Option ℕ) → IsFirstByte (is_byte 10) text found → found ≡ position (λ c. eqb c 10) text
position_is text None h =
    let all : position_or_len (λ c. eqb c 10) text ≡ length text = position_or_len_is (λ c. eqb c 10) text (length text) 0 (omega arith) (λ k lt. fails (eqb (get_or text k 0) 10) (h k (omega arith) lt)) (λ lt. absurd (omega arith)) in
    rw (all, not_below (length text)) refl
position_is text (Some i) h =
    let here : position_or_len (λ c. eqb c 10) text ≡ i = position_or_len_is (λ c. eqb c 10) text i 0 (omega (arith, h.0.high)) (λ k lt. fails (eqb (get_or text k 0) 10) (h.0.before k (omega arith) lt)) (λ lt. h.1) in
    let below : ltb i (length text) ≡ true = lt-ltb _ _ h.0.high in
    rw (here, below) refl
