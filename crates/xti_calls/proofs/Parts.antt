-- Bytes that are cut by sizes, and the room for the parts.
use Rattle.std.proofs.Common.{zero, suc, ◌≡◌, ◌≤◌, ◌-◌, ℕ, List, [], ◌∷◌, ◌++◌, length, map, sum, min, take, drop, refl, sym, ap, ◌∙◌, subst, arith, length-drop, append_assoc}
use Rattle.std.proofs.lemmas.List.{take-append-drop, append-nil}
use Rattle.std.proofs.lemmas.List.Sums.{sum_by-drop_more}
use Rattle.std.specs.List.{concat}
use Rattle.xti_calls.specs.declared.buffers.Buffer.{Buffer}
use Rattle.xti_calls.specs.Parts.{split_by, HaveRoom}

no-bytes : (bytes : List ℕ) → length bytes ≤ 0 → [] ≡ bytes
no-bytes [] h = refl
no-bytes (b ∷ bytes) h = absurd (omega arith)

-- where the sizes are enough, nothing is lost
pub joined : (sizes bytes : List ℕ) → length bytes ≤ sum sizes → concat (split_by sizes bytes) ≡ bytes
joined [] bytes h = no-bytes bytes h
joined (n ∷ sizes) bytes h =
    let all = sum_by-drop_more (λ x. x) (n ∷ sizes) 0 0 (omega arith) in
    ap (λ z. take n bytes ++ z) (joined sizes (drop n bytes) (omega (arith, length-drop n bytes, h, all))) ∙ take-append-drop n bytes

-- less needs no more room
pub less-room : (m n : ℕ) (bs : List Buffer) → n ≤ m → HaveRoom m bs → HaveRoom n bs
less-room m n [] h k = tt
less-room m n (b ∷ bs) h k = (k.0, omega (arith, h, k.1), less-room (m - b.size) (n - b.size) bs (omega (arith, h)) k.2)

-- one buffer more, for what those before it leave
pub more-room : (most n taken : ℕ) (bs : List Buffer) (b : Buffer) →
    ((cs : List Buffer) → HaveRoom n cs → HaveRoom most (bs ++ cs)) → b.room.bytes ≡ [] → b.room.spare ≡ taken → taken ≡ min n b.size →
    (cs : List Buffer) → HaveRoom (n - taken) cs → HaveRoom most ((bs ++ b ∷ []) ++ cs)
more-room most n taken bs b k e s t cs h =
    let left : n - taken ≡ n - b.size = omega arith in
    subst (HaveRoom most) (sym (append_assoc bs (b ∷ []) cs)) (k (b ∷ cs) (e, omega arith, subst (λ m. HaveRoom m cs) left h))

min-none : (n : ℕ) → min n zero ≡ zero
min-none n = omega arith

none-min : (n : ℕ) → min zero n ≡ zero
none-min n = omega arith

min-suc : (m n : ℕ) → min (suc m) (suc n) ≡ suc (min m n)
min-suc m n = omega arith

-- a part ends where the bytes do
pub take-within : (n : ℕ) (l : List ℕ) → take (min (length l) n) l ≡ take n l
take-within zero l = ap (λ k. take k l) (min-none (length l))
take-within (suc n) [] = ap (λ k. take k []) (none-min (suc n))
take-within (suc n) (x ∷ l) = ap (λ k. take k (x ∷ l)) (min-suc (length l) n) ∙ ap (λ z. x ∷ z) (take-within n l)

pub drop-within : (n : ℕ) (l : List ℕ) → drop (min (length l) n) l ≡ drop n l
drop-within zero l = ap (λ k. drop k l) (min-none (length l))
drop-within (suc n) [] = ap (λ k. drop k []) (none-min (suc n))
drop-within (suc n) (x ∷ l) = ap (λ k. drop k (x ∷ l)) (min-suc (length l) n) ∙ drop-within n l

-- no buffer is left
pub all-cut : (parts whole : List (List ℕ)) (left : List Buffer) (rest : List ℕ) → length left ≡ 0 → parts ++ split_by (map (λ b. b.size) left) rest ≡ whole → parts ≡ whole
all-cut parts whole [] rest n e = sym (append-nil parts) ∙ e
all-cut parts whole (b ∷ left) rest n e = absurd (omega arith)
