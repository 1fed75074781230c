-- The request with a number, taken out.
use Rattle.std.proofs.Common.{◌≡◌, ℕ, zero, suc, ◌+◌, ◌<◌, ◌≤◌, List, [], ◌∷◌, ◌++◌, length, take, drop, Option, Some, None, refl, sym, ap, ◌∙◌, arith}
use Rattle.std.specs.Prelude.{map, option_map, remove, slice_index_or}
use Rattle.std.proofs.lemmas.Bool.{eq-eqb, ne_eqb}
use Rattle.tpi_prim.specs.Primitive.{seq_of}
use Rattle.tpi_prim.specs.Fields.{primitive_in}
use Rattle.xti_model.specs.Endpoint.{Indication, without_number}
use Rattle.xti_end.specs.declared.indications.Ind.{Ind}
use Rattle.xti_end.specs.declared.parts.Parts.{Parts}
use Rattle.xti_end.specs.declared.parts.Waiting.{Waiting}
use Rattle.xti_end.specs.Held.{body_of, without_outstanding, without_pending}
use Rattle.xti_end.specs.WaitingList.{WaitingList as Listed}
use Rattle.xti_end.proofs.Views.{map-removed}
use Rattle.xti_end.specs.Frames.{indication_of, AreRequests}
use Rattle.xti_end.proofs.Callers.{drop-at, request-at, number-is}

remove-split : (xs : List Ind) (k : ℕ) → k < length xs → take k (map indication_of xs) ++ map indication_of (drop (k + 1) xs) ≡ remove (map indication_of xs) k
remove-split [] k lt = absurd (omega (arith, lt))
remove-split (x ∷ xs) zero lt = refl
remove-split (x ∷ xs) (suc k) lt =
    let j : suc k + 1 ≡ suc (k + 1) = omega arith in
    rw j (ap (λ is. indication_of x ∷ is) (remove-split xs k (omega (arith, lt))))

take-one-more : (xs : List Ind) (k : ℕ) (x : Ind) (is : List Indication) → k < length xs → x ≡ slice_index_or xs k x → take k (map indication_of xs) ++ indication_of x ∷ is ≡ take (k + 1) (map indication_of xs) ++ is
take-one-more [] k x is lt e = absurd (omega (arith, lt))
take-one-more (y ∷ ys) zero x is lt e = ap (λ z. indication_of z ∷ is) e
take-one-more (y ∷ ys) (suc k) x is lt e =
    let j : suc k + 1 ≡ suc (k + 1) = omega arith in
    rw j (ap (λ js. indication_of y ∷ js) (take-one-more ys k x is (omega (arith, lt)) e))

take-all : (xs : List Ind) (n k : ℕ) → length xs ≤ k → take k (map indication_of xs) ++ without_number n (map indication_of (drop k xs)) ≡ map indication_of xs
take-all [] n zero le = refl
take-all [] n (suc k) le = refl
take-all (x ∷ xs) n zero le = absurd (omega (arith, le))
take-all (x ∷ xs) n (suc k) le = ap (λ is. indication_of x ∷ is) (take-all xs n k (omega (arith, le)))

-- the requests before a place are kept
abbrev pub KeptBefore : ℕ → List Ind → ℕ → Type 0
KeptBefore n xs k = without_number n (map indication_of xs) ≡ take k (map indication_of xs) ++ without_number n (map indication_of (drop k xs))

pub removed-at : (n k : ℕ) (xs : List Ind) (x : Ind) (m : ℕ) → AreRequests xs → k < length xs → x ≡ slice_index_or xs k x → seq_of (primitive_in x.frame) ≡ Some m → m ≡ n → KeptBefore n xs k
    → without_number n (map indication_of xs) ≡ remove (map indication_of xs) k
removed-at n k xs x m all lt e s h before =
    let i = number-is x m (request-at k xs x all lt e) s ∙ h in
    let d : without_number n (map indication_of (drop k xs)) ≡ map indication_of (drop (k + 1) xs) = rw (drop-at xs k x lt e, eq-eqb (indication_of x).number n i) refl in
    before ∙ (ap (λ is. take k (map indication_of xs) ++ is) d ∙ remove-split xs k lt)

pub kept-at : (n k : ℕ) (xs : List Ind) (x : Ind) (m : ℕ) → AreRequests xs → k < length xs → x ≡ slice_index_or xs k x → seq_of (primitive_in x.frame) ≡ Some m → (m ≡ n → ⊥) → KeptBefore n xs k
    → KeptBefore n xs (k + 1)
kept-at n k xs x m all lt e s h before =
    let i = number-is x m (request-at k xs x all lt e) s in
    let d : without_number n (map indication_of (drop k xs)) ≡ indication_of x ∷ without_number n (map indication_of (drop (k + 1) xs)) = rw (drop-at xs k x lt e, ne_eqb (indication_of x).number n (λ j. h (sym i ∙ j))) refl in
    before ∙ (ap (λ is. take k (map indication_of xs) ++ is) d ∙ take-one-more xs k x (without_number n (map indication_of (drop (k + 1) xs))) lt e)

pub none-at : (n k : ℕ) (xs : List Ind) → length xs ≤ k → KeptBefore n xs k → without_number n (map indication_of xs) ≡ map indication_of xs
none-at n k xs le before = before ∙ take-all xs n k le

-- the request is gone from the endpoint
pub number-dropped : (o : Option Parts) (w : Waiting) (r : Listed Ind) (n place : ℕ) → r.items ≡ remove w.outstanding.items place → without_number n (map indication_of w.outstanding.items) ≡ remove (map indication_of w.outstanding.items) place
    → body_of o (record w { outstanding = r }) ≡ option_map (without_outstanding n) (body_of o w)
number-dropped None w r n place h e = refl
number-dropped (Some x) w r n place h e = rw (h, e, map-removed indication_of w.outstanding.items place) refl

pub pending-dropped : (o : Option Parts) (w : Waiting) (r : Listed Ind) (n place : ℕ) → r.items ≡ remove w.pending.items place → without_number n (map indication_of w.pending.items) ≡ remove (map indication_of w.pending.items) place
    → body_of o (record w { pending = r }) ≡ option_map (without_pending n) (body_of o w)
pending-dropped None w r n place h e = refl
pending-dropped (Some x) w r n place h e = rw (h, e, map-removed indication_of w.pending.items place) refl
