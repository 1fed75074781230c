-- Reading bytes of any value.
use Rattle.std.proofs.Common.{◌≡◌, ◌≤◌, ◌<◌, ℕ, suc, zero, List, [], ◌∷◌, length, get_or, refl, ◌∙◌, ap, arith}
use Rattle.std.proofs.lemmas.Bool.{lt-ltb}
use Rattle.tpi_grammar.specs.Form.{whole, short, later, scan}
use Rattle.tpi_grammar.specs.Frame.{tail}

first_small : (n b : ℕ) (bs : List ℕ) → b < 256 → scan (tail (suc n)) (b ∷ bs) ≡ later (scan (tail n) bs)
first_small n b bs lt = rw (lt-ltb b 256 lt) refl

pub tail_short : (n : ℕ) (bs : List ℕ) → ((i : ℕ) → get_or bs i 0 < 256) → length bs < n → scan (tail n) bs ≡ short
tail_short zero bs h lt = absurd (omega (arith, lt))
tail_short (suc n) [] h lt = refl
tail_short (suc n) (b ∷ bs) h lt = first_small n b bs (h 0) ∙ ap later (tail_short n bs (λ i. h (suc i)) (omega (arith, lt)))

pub tail_whole : (n : ℕ) (bs : List ℕ) → ((i : ℕ) → get_or bs i 0 < 256) → n ≤ length bs → scan (tail n) bs ≡ whole n
tail_whole zero bs h le = refl
tail_whole (suc n) [] h le = absurd (omega (arith, le))
tail_whole (suc n) (b ∷ bs) h le = first_small n b bs (h 0) ∙ ap later (tail_whole n bs (λ i. h (suc i)) (omega (arith, le)))
