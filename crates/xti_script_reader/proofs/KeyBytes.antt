-- A key at the front of a word, byte by byte.
use Rattle.std.proofs.Common.{◌≡◌, ℕ, suc, ◌+◌, ◌<◌, eqb, true, List, ◌∷◌, length, get_or, drop, Option, refl, sym, ap, ◌∙◌, drop-cons, arith}
use Rattle.std.proofs.lemmas.Bool.{eq-eqb}
use Rattle.xti_script_reader.specs.Reading.{behind_key}

begins : (key : List ℕ) (i : ℕ) → i < length key → drop i key ≡ get_or key i 0 ∷ drop (i + 1) key
begins key i h = let next : i + 1 ≡ suc i = omega arith in rw next (drop-cons key i 0 h)

same : (k c : ℕ) (key word : List ℕ) → eqb k c ≡ true → behind_key (k ∷ key) (c ∷ word) ≡ behind_key key word
same k c key word e = rw e refl

pub key_more : (key rest others : List ℕ) (i c : ℕ) (total : Option (List ℕ)) → i < length key → rest ≡ c ∷ others → c ≡ get_or key i 0 → behind_key (drop i key) rest ≡ total → behind_key (drop (i + 1) key) others ≡ total
key_more key rest others i c total h r e so_far =
    sym (same (get_or key i 0) c (drop (i + 1) key) others (eq-eqb _ _ (sym e))) ∙ ap (λ k. behind_key k (c ∷ others)) (sym (begins key i h)) ∙ ap (behind_key (drop i key)) (sym r) ∙ so_far
