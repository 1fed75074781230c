-- The pieces that are left of an input.
use Rattle.std.proofs.Common.{◌≡◌, ◌<◌, ◌≤◌, ℕ, zero, suc, List, [], ◌∷◌, ◌++◌, length, take, drop, min, refl, sym, ap, ◌∙◌, subst, arith, append_assoc, length-drop}
use Rattle.std.specs.Prelude.{flat_map}
use Rattle.std.proofs.lemmas.Grind.{flat_map-append}
use Rattle.std.proofs.lemmas.List.{append-nil}
use Rattle.xti_model.specs.declared.entry.Entry.{Entry}
use Rattle.xti_laws_streams.specs.Copying.{before, exchange, pieces, pieces_within}
use Rattle.xti_laws_streams.specs.declared.copies.TheConstants.{PIECE}
use Rattle.xti_copy.specs.Rides.{Ride}
use Rattle.xti_copy.specs.Going.{IsAt, Comes}
use Rattle.xti_copy.proofs.Rows.{first-comes, then-comes}

same-within : (m n : ℕ) (bytes : List ℕ) → length bytes ≤ m → length bytes ≤ n → pieces_within m bytes ≡ pieces_within n bytes
unfolding pieces_within
same-within m n [] h k = refl
same-within zero n (b ∷ bytes) h k = absurd (omega arith)
same-within (suc m) zero (b ∷ bytes) h k = absurd (omega arith)
same-within (suc m) (suc n) (b ∷ bytes) h k =
    let l = length-drop PIECE (b ∷ bytes) in
    ap (λ ps. take PIECE (b ∷ bytes) ∷ ps) (same-within m n (drop PIECE (b ∷ bytes)) (omega (arith, l)) (omega (arith, l)))

-- the first piece, and those of the rest
pieces-more : (b : ℕ) (bytes : List ℕ) → pieces (b ∷ bytes) ≡ take PIECE (b ∷ bytes) ∷ pieces (drop PIECE (b ∷ bytes))
unfolding pieces_within
pieces-more b bytes =
    let l = length-drop PIECE (b ∷ bytes) in
    ap (λ ps. take PIECE (b ∷ bytes) ∷ ps) (same-within (length bytes) (length (drop PIECE (b ∷ bytes))) (drop PIECE (b ∷ bytes)) (omega (arith, l)) (omega arith))

none-left : pieces [] ≡ []
unfolding pieces_within
none-left = refl

min-none : (n : ℕ) → min n zero ≡ zero
min-none n = omega arith

none-min : (n : ℕ) → min zero n ≡ zero
none-min n = omega arith

min-suc : (m n : ℕ) → min (suc m) (suc n) ≡ suc (min m n)
min-suc m n = omega arith

take-within : (n : ℕ) (l : List ℕ) → take (min (length l) n) l ≡ take n l
take-within zero l = ap (λ k. take k l) (min-none (length l))
take-within (suc n) [] = ap (λ k. take k []) (none-min (suc n))
take-within (suc n) (x ∷ l) = ap (λ k. take k (x ∷ l)) (min-suc (length l) n) ∙ ap (λ z. x ∷ z) (take-within n l)

drop-within : (n : ℕ) (l : List ℕ) → drop (min (length l) n) l ≡ drop n l
drop-within zero l = ap (λ k. drop k l) (min-none (length l))
drop-within (suc n) [] = ap (λ k. drop k []) (none-min (suc n))
drop-within (suc n) (x ∷ l) = ap (λ k. drop k (x ∷ l)) (min-suc (length l) n) ∙ drop-within n l

-- the next piece, and those after it
pub next-pieces : (rest piece more : List ℕ) (n : ℕ) → 0 < length rest → n ≡ min (length rest) PIECE → piece ≡ take n rest → more ≡ drop n rest → pieces rest ≡ piece ∷ pieces more
next-pieces [] piece more n some e p m = absurd (omega arith)
next-pieces (b ∷ bytes) piece more n some e p m =
    let front = p ∙ (ap (λ k. take k (b ∷ bytes)) e ∙ take-within PIECE (b ∷ bytes)) in
    let back = m ∙ (ap (λ k. drop k (b ∷ bytes)) e ∙ drop-within PIECE (b ∷ bytes)) in
    pieces-more b bytes ∙ sym (ap (λ x. x ∷ pieces more) front ∙ ap (λ x. take PIECE (b ∷ bytes) ∷ pieces x) back)

-- these pieces were exchanged, and those of the rest are left
pub record IsSent (input rest : List ℕ) (r : Ride) : Type 0 where
  pub sent : List (List ℕ)
  pub all : sent ++ pieces rest ≡ pieces input
  pub at : IsAt (before ++ flat_map exchange sent) r
  pub comes : Comes (before ++ flat_map exchange sent) (flat_map exchange (pieces rest))

pub none-sent : (input : List ℕ) (r : Ride) → IsAt before r → Comes before (flat_map exchange (pieces input)) → IsSent input input r
none-sent input r at comes = record { sent = []; all = refl; at = at; comes = comes }

module _ {input rest piece : List ℕ} (more : List ℕ) {r : Ride} (k : IsSent input rest r) (next : pieces rest ≡ piece ∷ pieces more) where
  these : Comes (before ++ flat_map exchange k.sent) (exchange piece ++ flat_map exchange (pieces more))
  these = subst (λ ps. Comes (before ++ flat_map exchange k.sent) (flat_map exchange ps)) next k.comes

  pub piece-comes : Comes r.entries (exchange piece)
  piece-comes = subst (λ z. Comes z (exchange piece)) (sym k.at.entries) (first-comes (before ++ flat_map exchange k.sent) (exchange piece) (flat_map exchange (pieces more)) these)

  one-more : before ++ flat_map exchange (k.sent ++ piece ∷ []) ≡ (before ++ flat_map exchange k.sent) ++ exchange piece
  one-more = ap (λ z. before ++ z) (flat_map-append exchange k.sent (piece ∷ []) ∙ ap (λ z. flat_map exchange k.sent ++ z) (append-nil (exchange piece))) ∙ sym (append_assoc before (flat_map exchange k.sent) (exchange piece))

  pub piece-sent : (r' : Ride) → IsAt (r.entries ++ exchange piece) r' → IsSent input more r'
  piece-sent r' at = record {
    sent = k.sent ++ piece ∷ [];
    all = append_assoc k.sent (piece ∷ []) (pieces more) ∙ (ap (λ z. k.sent ++ z) (sym next) ∙ k.all);
    at = subst (λ z. IsAt z r') (ap (λ z. z ++ exchange piece) k.at.entries ∙ sym one-more) at;
    comes = subst (λ z. Comes z (flat_map exchange (pieces more))) (sym one-more) (then-comes (before ++ flat_map exchange k.sent) (exchange piece) (flat_map exchange (pieces more)) these);
  }

pub all-sent : (input rest : List ℕ) (r : Ride) → length rest ≤ 0 → IsSent input rest r → IsAt (before ++ flat_map exchange (pieces input)) r
all-sent input [] r e k = subst (λ ps. IsAt (before ++ flat_map exchange ps) r) (sym (append-nil k.sent) ∙ (ap (λ z. k.sent ++ z) (sym none-left) ∙ k.all)) k.at
all-sent input (b ∷ rest) r e k = absurd (omega arith)

-- the same riders, by their own entries
pub is-own : (front : List Entry) (r : Ride) → IsAt front r → IsAt r.entries r
is-own front r at = record { providers = at.providers; entries = refl; free = at.free }

pub at-after : (front es : List Entry) (r r' : Ride) → IsAt front r → IsAt (r.entries ++ es) r' → IsAt (front ++ es) r'
at-after front es r r' at h = subst (λ z. IsAt (z ++ es) r') at.entries h

pub comes-own : (front es : List Entry) (r : Ride) → IsAt front r → Comes front es → Comes r.entries es
comes-own front es r at h = subst (λ z. Comes z es) (sym at.entries) h
