-- The callers of requests, and the request with a number.
use Rattle.std.proofs.Common.{◌≡◌, ℕ, zero, suc, ◌+◌, ◌-◌, ◌<◌, ◌≤◌, Bool, true, false, eqb, cond, List, [], ◌∷◌, ◌++◌, length, drop, ◌&&◌, Option, Some, None, refl, sym, ap, ◌∙◌, subst, arith}
use Rattle.std.specs.Prelude.{map, slice_get, slice_index_or, nat_le, nat_lt, is_none, is_some, option_map, unwrap_or}
use Rattle.std.specs.List.{AllByRecursion}
use Rattle.std.proofs.lemmas.Bool.{eq-eqb, ne_eqb, leb-true}
use Rattle.std.proofs.lemmas.Option.{slice_get-map, slice_get_read}
use Rattle.tpi_grammar.specs.declared.kind.Kind.TheVariants as kind
use Rattle.tpi_prim.specs.declared.primitive.Prim.TheVariants as prim
use Rattle.tpi_prim.specs.Primitive.{seq_of}
use Rattle.tpi_prim.specs.Fields.{kind_in, primitive_in, part_in, word_in, user_in}
use Rattle.xti_model.specs.declared.profile.Providers.{Providers}
use Rattle.xti_model.specs.Cells.{listed, with_number}
use Rattle.xti_model.specs.Endpoint.{Indication, find_number}
use Rattle.xti_model.specs.Sound.{is_sound_body, is_only_asked}
use Rattle.xti_model.specs.Touched.{of_some, caller_cells}
use Rattle.xti_model.specs.World.{place_of}
use Rattle.xti_model.proofs.RisingNumbers.{listed-one, listed-none}
use Rattle.xti_end.specs.declared.parts.Parts.{Parts}
use Rattle.xti_end.specs.declared.parts.Waiting.{Waiting}
use Rattle.xti_end.specs.declared.indications.Ind.{Ind}
use Rattle.xti_end.specs.Callers.{caller_and_number, caller_place, with_numbers}
use Rattle.xti_end.specs.Frames.{indication_of, AreRequests, IsRequest}
use Rattle.xti_end.specs.Held.{body_of, endpoint_of, parts_of}

-- a T_CONN_IND
pub request-is : (f : List ℕ) → kind_in f ≡ kind.T_CONN_IND → primitive_in f ≡ prim.T_CONN_IND (part_in f 12) (part_in f 20) (word_in f 28) (user_in f)
unfolding primitive_in
request-is f h = rw h refl

pub drop-at : {A : Type 0} (xs : List A) (k : ℕ) (x : A) → k < length xs → x ≡ slice_index_or xs k x → drop k xs ≡ x ∷ drop (k + 1) xs
drop-at [] k x lt e = absurd (omega (arith, lt))
drop-at (y ∷ ys) zero x lt e = ap (λ z. z ∷ ys) (sym e)
drop-at (y ∷ ys) (suc k) x lt e = let j : suc k + 1 ≡ suc (k + 1) = omega arith in rw j (drop-at ys k x (omega (arith, lt)) e)

all-at : {A : Type 0} (P : A → Type 0) (xs : List A) (k : ℕ) (x : A) → AllByRecursion P xs → k < length xs → x ≡ slice_index_or xs k x → P x
all-at P [] k x all lt e = absurd (omega (arith, lt))
all-at P (y ∷ ys) zero x all lt e = subst P (sym e) all.0
all-at P (y ∷ ys) (suc k) x all lt e = all-at P ys k x all.1 (omega (arith, lt)) e

pub number-is : (i : Ind) (n : ℕ) → IsRequest i → seq_of (primitive_in i.frame) ≡ Some n → (indication_of i).number ≡ n
number-is i n k e = let h : Some (word_in i.frame 28) ≡ Some n = rw (request-is i.frame k) at e in rw (request-is i.frame k) cc

-- the request at a place has the number, or has it not
pub found-at : (n k : ℕ) (xs : List Ind) (x : Ind) (m : ℕ) → AreRequests xs → k < length xs → x ≡ slice_index_or xs k x → seq_of (primitive_in x.frame) ≡ Some m → m ≡ n
    → Some (indication_of x) ≡ find_number n (map indication_of (drop k xs))
found-at n k xs x m all lt e s h =
    let i : (indication_of x).number ≡ n = number-is x m (all-at IsRequest xs k x all lt e) s ∙ h in
    rw (drop-at xs k x lt e, eq-eqb (indication_of x).number n i) refl

pub passed-at : (n k : ℕ) (xs : List Ind) (x : Ind) (m : ℕ) → AreRequests xs → k < length xs → x ≡ slice_index_or xs k x → seq_of (primitive_in x.frame) ≡ Some m → (m ≡ n → ⊥)
    → find_number n (map indication_of (drop k xs)) ≡ find_number n (map indication_of (drop (k + 1) xs))
passed-at n k xs x m all lt e s h =
    let i : (indication_of x).number ≡ m = number-is x m (all-at IsRequest xs k x all lt e) s in
    rw (drop-at xs k x lt e, ne_eqb (indication_of x).number n (λ j. h (sym i ∙ j))) refl

pub request-at : (k : ℕ) (xs : List Ind) (x : Ind) → AreRequests xs → k < length xs → x ≡ slice_index_or xs k x → IsRequest x
request-at k xs x all lt e = all-at IsRequest xs k x all lt e

-- one caller more
pub with-caller : (p : Providers) (xs : List Ind) (place : ℕ) (x : Ind) (cells ms : List ℕ) → 0 < place → place ≤ length xs → x ≡ slice_index_or xs (place - 1) x
    → cells ≡ with_numbers (map (caller_place p) (drop place xs)) ms → with_number (caller_place p x) cells ≡ with_numbers (map (caller_place p) (drop (place - 1) xs)) ms
with-caller p xs zero x cells ms lt le e h = absurd (omega (arith, lt))
with-caller p xs (suc k) x cells ms lt le e h =
    let i : suc k - 1 ≡ k = omega arith in
    let j : suc k ≡ k + 1 = omega arith in
    let f : x ≡ slice_index_or xs k x = rw i at e in
    rw (i, drop-at xs k x (omega (arith, le)) f, h, j) refl

pub length-with : (n : ℕ) (ns : List ℕ) → length (with_number n ns) ≤ suc (length ns)
length-with n [] = omega arith
length-with n (m ∷ ms) = go (nat_lt n m) (eqb n m) (length-with n ms)
  where
    go : (c d : Bool) → length (with_number n ms) ≤ suc (length ms) → length (cond c (n ∷ m ∷ ms) (cond d (m ∷ ms) (m ∷ with_number n ms))) ≤ suc (suc (length ms))
    go true d i = omega arith
    go false true i = omega arith
    go false false i = omega arith

pub with-numbers-listed : (ns ms : List ℕ) → with_numbers ns (listed ms) ≡ listed (ns ++ ms)
with-numbers-listed [] ms = refl
with-numbers-listed (n ∷ ns) ms = ap (with_number n) (with-numbers-listed ns ms) ∙ sym (listed-one n (ns ++ ms))

caller-is : (i : Ind) → IsRequest i → (indication_of i).caller ≡ i.caller.0
caller-is i k = rw (request-is i.frame k) refl

-- the caller of the request that was found
pub caller-found : (o : Option Parts) (w : Waiting) (i : Ind) (n : ℕ) → is_some (body_of o w) ≡ true → IsRequest i → Some (indication_of i) ≡ find_number n (map indication_of w.outstanding.items)
    → Some i.caller.0 ≡ option_map (λ (x : Indication). x.caller) (find_number n (parts_of (body_of o w)).outstanding)
caller-found None w i n h k e = cc
caller-found (Some x) w i n h k e = ap Some (sym (caller-is i k)) ∙ ap (option_map (λ (x : Indication). x.caller)) e

abbrev indicated_place : Providers → Indication → ℕ
indicated_place p i = place_of p i.caller

places-are : (p : Providers) (xs : List Ind) (is : List Indication) → AreRequests xs
    → map (indicated_place p) (map indication_of xs ++ is) ≡ map (caller_place p) xs ++ map (indicated_place p) is
places-are p [] is all = refl
places-are p (x ∷ xs) is all = rw (caller-is x all.0) (ap (λ ns. caller_place p x ∷ ns) (places-are p xs is all.1))

append-none : (ns : List ℕ) → ns ++ [] ≡ ns
append-none [] = refl
append-none (n ∷ ns) = ap (λ ms. n ∷ ms) (append-none ns)

one-list : (p : Providers) (xs : List Ind) → AreRequests xs → map (indicated_place p) (map indication_of xs) ≡ map (caller_place p) xs
one-list p [] all = refl
one-list p (x ∷ xs) all = rw (caller-is x all.0) (ap (λ ns. caller_place p x ∷ ns) (one-list p xs all.1))

-- the cells of all who ask
pub callers-are : (p : Providers) (o : Option Parts) (w : Waiting) → AreRequests w.pending.items → AreRequests w.outstanding.items
    → (is_none o ≡ true → w.pending.items ≡ []) → (is_none o ≡ true → w.outstanding.items ≡ [])
    → with_numbers (map (caller_place p) w.pending.items) (with_numbers (map (caller_place p) w.outstanding.items) []) ≡ listed (of_some (body_of o w) (caller_cells p))
callers-are p None w a b i j = rw (i refl, j refl) (sym listed-none)
callers-are p (Some e) w a b i j =
    let none : [] ≡ listed [] = sym listed-none in
    let out : with_numbers (map (caller_place p) w.outstanding.items) [] ≡ listed (map (caller_place p) w.outstanding.items) =
    ap (with_numbers (map (caller_place p) w.outstanding.items)) none ∙ (with-numbers-listed (map (caller_place p) w.outstanding.items) [] ∙ ap listed (append-none (map (caller_place p) w.outstanding.items))) in
    ap (with_numbers (map (caller_place p) w.pending.items)) out
    ∙ (with-numbers-listed (map (caller_place p) w.pending.items) (map (caller_place p) w.outstanding.items)
    ∙ ap listed (ap (λ ns. map (caller_place p) w.pending.items ++ ns) (sym (one-list p w.outstanding.items b)) ∙ sym (places-are p w.pending.items (map indication_of w.outstanding.items) a)))

length-map : (xs : List Ind) → length (map indication_of xs) ≡ length xs
length-map [] = refl
length-map (x ∷ xs) = ap suc (length-map xs)

and-parts : (a b : Bool) → (a && b) ≡ true → (a ≡ true) × (b ≡ true)
and-parts true true h = (refl, refl)
and-parts true false h = cc
and-parts false b h = cc

-- there are few of them
pub callers-few : (o : Option Parts) (w : Waiting) → (is_none o ≡ true → w.pending.items ≡ []) → (is_none o ≡ true → w.outstanding.items ≡ [])
    → is_sound_body (body_of o w) ≡ true → length w.pending.items + length w.outstanding.items ≤ 8
callers-few None w i j s = rw (i refl, j refl) (omega arith)
callers-few (Some e) w i j s =
    let a = and-parts (nat_le e.qlen 8 && nat_le (length (unwrap_or e.address [])) 64 && nat_le (length (map indication_of w.pending.items) + length (map indication_of w.outstanding.items)) e.qlen) (is_only_asked (endpoint_of e w)) s in
    let b = and-parts (nat_le e.qlen 8 && nat_le (length (unwrap_or e.address [])) 64) (nat_le (length (map indication_of w.pending.items) + length (map indication_of w.outstanding.items)) e.qlen) a.0 in
    let c = and-parts (nat_le e.qlen 8) (nat_le (length (unwrap_or e.address [])) 64) b.0 in
    omega (arith, leb-true e.qlen 8 c.0, leb-true (length (map indication_of w.pending.items) + length (map indication_of w.outstanding.items)) e.qlen b.1, length-map w.pending.items, length-map w.outstanding.items)

who-asks : (i : Ind) → IsRequest i → (indication_of i).caller ≡ i.caller.0
who-asks i k = rw (request-is i.frame k) refl

-- the caller and the number of the request at a place
pub caller-at : (xs : List Ind) (k : ℕ) (x : Ind) (n : ℕ) → AreRequests xs → k < length xs → x ≡ slice_index_or xs k x → seq_of (primitive_in x.frame) ≡ Some n
    → Some (x.caller.0, n) ≡ option_map caller_and_number (slice_get (map indication_of xs) k)
caller-at xs k x n all lt e s =
    let r : IsRequest x = request-at k xs x all lt e in
    rw (slice_get-map indication_of xs k, slice_get_read xs (length xs) k x refl lt e, who-asks x r, number-is x n r s) refl
