-- Bytes that are counted: the same 256 come again and again.
use Rattle.std.proofs.Common.{◌≡◌, ℕ, zero, suc, ◌%◌, ◌+◌, ◌≤◌, List, [], ◌∷◌, ◌++◌, take, refl, sym, ap, ◌∙◌, append_assoc, arith}
use Rattle.std.proofs.lemmas.List.{append-nil}
use Rattle.std.proofs.lemmas.List.FromFn.{take-map-range_with_len, map-range_with_len_more}
use Rattle.xti_words.specs.Values.{counted}
use Rattle.xti_words.specs.declared.values.TheConstants.{ROUND}

more : (n m : ℕ) → n + 1 ≡ m → counted m ≡ counted n ++ n % 256 ∷ []
more n m e = ap counted (sym e) ∙ map-range_with_len_more (λ i. i % 256) 0 n n (omega arith)

-- so many after a multiple of 256 are as many from the beginning
after_rounds : (n m : ℕ) → n % 256 ≡ 0 → counted n ++ counted m ≡ counted (n + m)
after_rounds n zero e = append-nil (counted n) ∙ ap counted (omega arith)
after_rounds n (suc m) e =
    let byte : m % 256 ≡ (n + m) % 256 = omega arith in
    ap (λ bytes. counted n ++ bytes) (more m (suc m) (omega arith))
    ∙ sym (append_assoc (counted n) (counted m) (m % 256 ∷ []))
    ∙ ap (λ bytes. bytes ++ m % 256 ∷ []) (after_rounds n m e)
    ∙ ap (λ b. counted (n + m) ++ b ∷ []) byte
    ∙ sym (more (n + m) (n + suc m) (omega arith))

-- the table is the first 256
round_is : ROUND ≡ counted 256
round_is = refl

pub one_more : (bytes longer part : List ℕ) (n m k : ℕ) → bytes ≡ counted n → n % 256 ≡ 0 → m ≤ 256 → part ≡ take m ROUND → longer ≡ bytes ++ part → n + m ≡ k → longer ≡ counted k
one_more bytes longer part n m k e r h p a s =
    let same : part ≡ counted m = p ∙ ap (take m) round_is ∙ take-map-range_with_len (λ i. i % 256) 0 256 m h in
    a ∙ rw (e, same) (after_rounds n m r) ∙ ap counted s
