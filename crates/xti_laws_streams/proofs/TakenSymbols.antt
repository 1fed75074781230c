-- What a receive takes of what waits, and what it leaves, together are what waited.
use Rattle.std.proofs.Common.{ℕ, zero, suc, Bool, true, false, List, [], ◌∷◌, ◌++◌, ◌+◌, ◌<◌, ◌≡◌, refl, sym, ap, ◌∙◌, cond, not, ◌&&◌, All, length, take, drop, slice_get, Option, Some, None, arith, add-one, add-zero, append_assoc, drop-cons}
use Rattle.std.specs.List.{prefix_len}
use Rattle.std.proofs.lemmas.Option.{slice_get_within, get_or_from_slice_get}
use Rattle.std.proofs.lemmas.Bool.{false≢true, eqb-true, ne_eqb}
use Rattle.xti_model.specs.Symbols.{front, rest, ended, piece, is_byte, is_end_next, end_of_message}
use Rattle.xti_model.specs.Arguments.{has_more, is_expedited}
use Rattle.xti_model.specs.Calls.Receive as Receive

twice-taken-left : (n m : ℕ) (q : List ℕ) → take n (take m q) ++ drop (length (take n (take m q))) q ≡ q
twice-taken-left zero m q = refl
twice-taken-left (suc n) zero q = refl
twice-taken-left (suc n) (suc m) [] = refl
twice-taken-left (suc n) (suc m) (s ∷ q) = ap (λ l. s ∷ l) (twice-taken-left n m q)

front-drop : (max : ℕ) (q : List ℕ) → front max q ++ drop (length (front max q)) q ≡ q
front-drop max q = twice-taken-left (prefix_len is_byte (take max q)) max q

drop-at : (n : ℕ) (q : List ℕ) (s : ℕ) → slice_get q n ≡ Some s → drop n q ≡ s ∷ drop (n + 1) q
drop-at n q s h = rw (add-one n) (drop-cons q n s (slice_get_within q n s h) ∙ ap (λ x. x ∷ drop (suc n) q) (get_or_from_slice_get q n s s h))

-- the end of a message that stands there is taken too
end-passed : (n : ℕ) (q : List ℕ) (o : Option ℕ) → slice_get q n ≡ o → is_end_next o ≡ true → drop n q ≡ end_of_message ∷ drop (n + 1) q
end-passed n q None i h = absurd (false≢true h)
end-passed n q (Some s) i h = drop-at n q s i ∙ ap (λ x. x ∷ drop (n + 1) q) (eqb-true s 256 h)

read-choice : (b : Bool) (f q : List ℕ) → f ++ drop (length f) q ≡ q → (b ≡ true → drop (length f) q ≡ end_of_message ∷ drop (length f + 1) q) → piece f b ++ drop (length f + cond b 1 0) q ≡ q
read-choice true f q h k = append_assoc f (end_of_message ∷ []) (drop (length f + 1) q) ∙ (ap (λ l. f ++ l) (sym (k refl)) ∙ h)
read-choice false f q h k = ap (λ n. f ++ drop n q) (add-zero (length f)) ∙ h

-- where messages have ends
pub reads-ends : (max : ℕ) (q : List ℕ) → piece (front max q) (ended max q) ++ rest max q ≡ q
reads-ends max q = read-choice (ended max q) (front max q) q (front-drop max q) (λ h. end-passed (length (front max q)) q (slice_get q (length (front max q))) refl h)

no-end : (n : ℕ) (q : List ℕ) → All (λ s. s < 256) q → (o : Option ℕ) → slice_get q n ≡ o → is_end_next o ≡ false
no-end n q a None i = refl
no-end n q a (Some s) i = ne_eqb s 256 (λ e. omega (arith, e, get_or_from_slice_get q n s s i, a n s (slice_get_within q n s i)))

-- on a byte stream no end of a message stands
pub never-ended : (max : ℕ) (q : List ℕ) → All (λ s. s < 256) q → ended max q ≡ false
never-ended max q a = no-end (length (front max q)) q a (slice_get q (length (front max q))) refl

-- of either kind
pub reads-all : (ends : Bool) (max : ℕ) (q : List ℕ) → (ends ≡ false → All (λ s. s < 256) q) → piece (front max q) (not (not (ended max q) && ends) && ends) ++ rest max q ≡ q
reads-all ends max q a = go ends (ended max q) refl a
  where
    go : (h d : Bool) → ended max q ≡ d → (h ≡ false → All (λ s. s < 256) q) → piece (front max q) (not (not d && h) && h) ++ rest max q ≡ q
    go true true i a = ap (λ d. piece (front max q) d ++ rest max q) (sym i) ∙ reads-ends max q
    go true false i a = ap (λ d. piece (front max q) d ++ rest max q) (sym i) ∙ reads-ends max q
    go false true i a = absurd (false≢true (sym (never-ended max q (a refl)) ∙ i))
    go false false i a = ap (λ d. piece (front max q) d ++ rest max q) (sym i) ∙ reads-ends max q

pub flags-expedited : (b more : Bool) → is_expedited (Receive.flags b more) ≡ b
flags-expedited true true = refl
flags-expedited true false = refl
flags-expedited false true = refl
flags-expedited false false = refl

pub flags-more : (b more : Bool) → has_more (Receive.flags b more) ≡ more
flags-more true true = refl
flags-more true false = refl
flags-more false true = refl
flags-more false false = refl
