-- Bodies as packets of rising numbers.
use Rattle.std.proofs.Common.{◌≡◌, ◌+◌, ◌<◌, ℕ, List, [], ◌∷◌, ◌++◌, length, take, get_or, refl, ◌∙◌, ap, arith}
use Rattle.std.proofs.lemmas.List.{take_more, length-take-le}
use Rattle.xti_gbn.specs.Numbered.{packet, packets_from}

pub packets_from-push : (n : ℕ) (bodies : List (List ℕ)) (body : List ℕ) → packets_from n (bodies ++ body ∷ []) ≡ packets_from n bodies ++ packet (n + length bodies) body ∷ []
packets_from-push n [] body = ap (λ k. packet k body ∷ []) (omega arith)
packets_from-push n (b ∷ bodies) body =
    let e : n + 1 + length bodies ≡ n + length (b ∷ bodies) = omega arith in
    ap (λ ps. packet n b ∷ ps) (packets_from-push (n + 1) bodies body ∙ ap (λ k. packets_from (n + 1) bodies ++ packet k body ∷ []) e)

pub packets_from-more : (n : ℕ) (bodies : List (List ℕ)) (i : ℕ) (d : List ℕ) → i < length bodies → packets_from n (take (i + 1) bodies) ≡ packets_from n (take i bodies) ++ packet (n + i) (get_or bodies i d) ∷ []
packets_from-more n bodies i d h =
    ap (packets_from n) (take_more bodies i d h)
    ∙ packets_from-push n (take i bodies) (get_or bodies i d)
    ∙ ap (λ k. packets_from n (take i bodies) ++ packet (n + k) (get_or bodies i d) ∷ []) (length-take-le i bodies (omega arith))

pub length-packets_from : (n : ℕ) (bodies : List (List ℕ)) → length (packets_from n bodies) ≡ length bodies
length-packets_from n [] = refl
length-packets_from n (b ∷ bodies) = let e = length-packets_from (n + 1) bodies in omega arith
