-- Cells in rising order, put together.
use Rattle.std.proofs.Common.{ℕ, suc, cond, Bool, true, false, ◌||◌, ◌&&◌, ◌≡◌, refl, sym, ap, ◌∙◌, List, [], ◌∷◌, ◌++◌, length, map, ◌≤◌, ◌+◌, Option, Some, None, arith, ◌⊎◌, inl, inr, length-append, append_assoc}
use Rattle.std.specs.Prelude.{nat_le, nat_lt, is_none, is_some, option_map, option_to_list, ◌==◌}
use Rattle.std.proofs.lemmas.Bool.Decides.{nat_tests}
use Rattle.std.proofs.lemmas.List.{append-nil}
use Rattle.xti_base.specs.declared.limits.TheConstants.{MOST_ADDRESS, MOST_QUEUE}
use Rattle.xti_model.specs.declared.profile.Providers.{Providers}
use Rattle.xti_model.specs.Endpoint.{Endpoint, Indication, Target, address_of}
use Rattle.xti_model.specs.World.{World, place_of, generation_of, switch_number, the_switch}
use Rattle.xti_model.specs.Cells.{listed, with_number}
use Rattle.xti_model.specs.Switch.{bound}
use Rattle.xti_base.specs.declared.kinds.Prov.{Prov}
use Rattle.xti_model.specs.Sound.{is_sound_body, is_only_asked, requests}
use Rattle.xti_model.specs.Touched.{of_some, cell_of, peer_cell, target_cell, caller_cell, caller_cells, marked_cells, cells_to}
use Rattle.xti_end.specs.Held.{Held, parts, is_open, mark_at, parts_of, is_open_as, peer_at, target_at}
use Rattle.xti_model.proofs.RisingNumbers.{listed-one, length-listed}
use Rattle.xti_core.specs.Touches.{known, told}

-- the cells that an endpoint knows
pub known-is : (p : Providers) (body : Option Endpoint) → cell_of p (peer_at body) ++ (cell_of p (target_at body) ++ of_some body (caller_cells p)) ≡ of_some body (known p)
known-is p None = refl
known-is p (Some e) = sym (append_assoc (peer_cell p e) (target_cell p e) (caller_cells p e))

and-parts : (a b : Bool) → (a && b) ≡ true → (a ≡ true) × (b ≡ true)
and-parts true b e = (refl, e)
and-parts false b e = cc

length-callers : (p : Providers) (is : List Indication) → length (map (λ i. place_of p i.caller) is) ≡ length is
length-callers p [] = refl
length-callers p (i ∷ is) = ap (λ n. suc n) (length-callers p is)

length-both : (is js : List Indication) → length (is ++ js) ≡ length is + length js
length-both [] js = omega arith
length-both (i ∷ is) js = let e = length-both is js in omega (arith, e)

length-cell : (p : Providers) (o : Option ℕ) → length (cell_of p o) ≤ 1
length-cell p None = omega arith
length-cell p (Some fd) = omega arith

asked-parts : (e : Endpoint) → is_sound_body (Some e) ≡ true → (nat_le e.qlen MOST_QUEUE ≡ true) × (nat_le (requests e) e.qlen ≡ true) × (is_only_asked e ≡ true)
asked-parts e h =
    let a = and-parts (nat_le e.qlen MOST_QUEUE && nat_le (length (address_of e)) MOST_ADDRESS && nat_le (requests e) e.qlen) (is_only_asked e) h in
    let b = and-parts (nat_le e.qlen MOST_QUEUE && nat_le (length (address_of e)) MOST_ADDRESS) (nat_le (requests e) e.qlen) a.0 in
    let c = and-parts (nat_le e.qlen MOST_QUEUE) (nat_le (length (address_of e)) MOST_ADDRESS) b.0 in
    (c.0, b.1, a.1)

few-asked : (p : Providers) (e : Endpoint) → is_sound_body (Some e) ≡ true → length (caller_cells p e) ≤ MOST_QUEUE
few-asked p e h =
    let c = asked-parts e h in
    let l = length-callers p (e.pending ++ e.outstanding) in
    let m = length-both e.pending e.outstanding in
    let q : nat_le e.qlen MOST_QUEUE ≡ true = c.0 in
    let r : nat_le (length e.pending + length e.outstanding) e.qlen ≡ true = c.1 in
    grind (arith, nat_tests)

pub few-callers : (p : Providers) (body : Option Endpoint) → is_sound_body body ≡ true → length (of_some body (caller_cells p)) ≤ MOST_QUEUE
few-callers p None h = omega arith
few-callers p (Some e) h = few-asked p e h

none-cell : (p : Providers) (o : Option ℕ) → is_none o ≡ true → length (cell_of p o) ≡ 0
none-cell p None h = refl
none-cell p (Some fd) h = cc

none-target : (p : Providers) (e : Endpoint) → is_none e.target ≡ true → length (target_cell p e) ≡ 0
none-target p e h = go e.target h
  where
    go : (o : Option Target) → is_none o ≡ true → length (cell_of p (option_map (λ t. t.listener) o)) ≡ 0
    go None i = refl
    go (Some t) i = cc

either : (a b c : Bool) → (a || (b && c)) ≡ true → (a ≡ true) ⊎ ((b ≡ true) × (c ≡ true))
either true b c h = inl refl
either false b c h = inr (and-parts b c h)

sum-few : (xs ys zs : List ℕ) → length xs + length ys + length zs ≤ MOST_QUEUE + 1 → length (xs ++ ys ++ zs) ≤ MOST_QUEUE + 1
sum-few xs ys zs h = omega (arith, length-append (xs ++ ys) zs, length-append xs ys)

pub known-few : (p : Providers) (body : Option Endpoint) → is_sound_body body ≡ true → length (of_some body (known p)) ≤ MOST_QUEUE + 1
known-few p None h = omega arith
known-few p (Some e) h = go (either (requests e == 0) (is_none e.peer) (is_none e.target) (asked-parts e h).2)
  where
    go : ((requests e == 0) ≡ true) ⊎ ((is_none e.peer ≡ true) × (is_none e.target ≡ true)) → length (peer_cell p e ++ target_cell p e ++ caller_cells p e) ≤ MOST_QUEUE + 1
    go (inl z) =
        let l = length-callers p (e.pending ++ e.outstanding) in
        let m = length-both e.pending e.outstanding in
        let r : length e.pending + length e.outstanding ≡ 0 = grind (arith, nat_tests) in
        sum-few (peer_cell p e) (target_cell p e) (caller_cells p e) (omega (arith, l, m, r, length-cell p e.peer, length-cell p (option_map (λ t. t.listener) e.target)))
    go (inr q) = sum-few (peer_cell p e) (target_cell p e) (caller_cells p e) (omega (arith, few-asked p e h, none-cell p e.peer q.0, none-target p e q.1))

-- no more cells are in order than are named
pub listed-few : (ns cells : List ℕ) (k : ℕ) → cells ≡ listed ns → length ns ≤ k → length cells ≤ k
listed-few ns cells k e h = let l = length-listed ns in let m = ap length e in omega (arith, l, m)

-- one more cell
pub one-more : (n : ℕ) (cells ns : List ℕ) → cells ≡ listed ns → with_number n cells ≡ listed (n ∷ ns)
one-more n cells ns e = ap (with_number n) e ∙ sym (listed-one n ns)

pub few-with : (n : ℕ) (cells : List ℕ) → length (with_number n cells) ≤ length cells + 1
few-with n [] = omega arith
few-with n (m ∷ ms) = go (nat_lt n m) (n == m) (few-with n ms)
  where
    go : (b c : Bool) → length (with_number n ms) ≤ length ms + 1 → length (cond b (n ∷ m ∷ ms) (cond c (m ∷ ms) (m ∷ with_number n ms))) ≤ length (m ∷ ms) + 1
    go true c i = omega arith
    go false true i = omega arith
    go false false i = omega (arith, i)

-- a cell that is named, before no others
pub put-none : (cells : List ℕ) (n m : Option ℕ) → cells ≡ listed (option_to_list n ++ []) → n ≡ m → cells ≡ listed (option_to_list m)
put-none cells n m e h = e ∙ (ap listed (append-nil (option_to_list n)) ∙ ap (λ o. listed (option_to_list o)) h)

pub named-cells : (p : Providers) (body : Option Endpoint) (peer listener : Option ℕ) (n m : Option ℕ) → option_to_list n ≡ cell_of p peer → peer ≡ peer_at body → option_to_list m ≡ cell_of p listener → listener ≡ target_at body
    → option_to_list n ++ (option_to_list m ++ of_some body (caller_cells p)) ≡ of_some body (known p)
named-cells p body peer listener n m h i j k =
    ap (λ xs. xs ++ (option_to_list m ++ of_some body (caller_cells p))) (h ∙ ap (cell_of p) i) ∙
    (ap (λ xs. cell_of p (peer_at body) ++ (xs ++ of_some body (caller_cells p))) (j ∙ ap (cell_of p) k) ∙ known-is p body)

-- an open endpoint's parts are its body
pub open-body : (h : Held) → is_open h ≡ true → h.body ≡ Some (parts h)
open-body h e = go h.body e
  where
    go : (o : Option Endpoint) → is_some o ≡ true → o ≡ Some (parts_of o)
    go None i = cc
    go (Some x) i = refl

pub body-is : (p : Providers) (h : Held) (fd : ℕ) → is_open_as p fd h ≡ true → h.body ≡ Some (parts h)
body-is p h fd e = open-body h (and-parts (is_open h) _ (and-parts (is_open h && (h.generation == generation_of p fd)) _ e).0).0

-- the datagram mark's cells
pub mark-parts : (h : Held) → is_open h ≡ true → mark_at h.body ≡ (parts h).flow_datagram
mark-parts h e = go h.body e
  where
    go : (o : Option Endpoint) → is_some o ≡ true → mark_at o ≡ (parts_of o).flow_datagram
    go None i = cc
    go (Some x) i = refl

pub marked-put : (p : Providers) (w : World) (e : Endpoint) (address bytes : List ℕ) (prov : Prov) (cells : List ℕ) (n r : Option ℕ) → cells ≡ listed (switch_number p ∷ (option_to_list n ++ [])) → option_to_list n ≡ cell_of p r → r ≡ bound (the_switch p w) prov bytes
    → prov ≡ e.prov → bytes ≡ address → Some address ≡ e.flow_datagram → cells ≡ listed (marked_cells p w e)
marked-put p w e address bytes prov cells n r h i j k l m =
    h ∙ (ap (λ xs. listed (switch_number p ∷ xs)) (append-nil (option_to_list n) ∙ (i ∙ ap (cell_of p) (j ∙ (ap (λ z. bound (the_switch p w) z bytes) k ∙ ap (bound (the_switch p w) e.prov) l)))) ∙ ap (λ o. listed (cells_to p w e o)) m)

pub unmarked-put : (p : Providers) (w : World) (e : Endpoint) (cells : List ℕ) → cells ≡ listed [] → None ≡ e.flow_datagram → cells ≡ listed (marked_cells p w e)
unmarked-put p w e cells h m = h ∙ ap (λ o. listed (cells_to p w e o)) m

-- the cells of a look
pub looking-put : (p : Providers) (w : World) (fd m : ℕ) (o : Option Endpoint) (h : Held) (cells : List ℕ) (n peer : Option ℕ) → cells ≡ listed (m ∷ (option_to_list n ++ marked_cells p w (parts h))) → m ≡ place_of p fd → option_to_list n ≡ cell_of p peer
    → peer ≡ peer_at h.body → h.body ≡ Some (parts h) → Some (parts h) ≡ o → cells ≡ listed (place_of p fd ∷ of_some o (λ e. peer_cell p e ++ marked_cells p w e))
looking-put p w fd m o h cells n peer i j k l q r =
    i ∙ (ap (λ z. listed (z ∷ (option_to_list n ++ marked_cells p w (parts h)))) j ∙
    (ap (λ xs. listed (place_of p fd ∷ (xs ++ marked_cells p w (parts h)))) (k ∙ ap (cell_of p) (l ∙ ap peer_at q)) ∙ ap (λ x. listed (place_of p fd ∷ of_some x (λ e. peer_cell p e ++ marked_cells p w e))) r))

-- the cell of a descriptor, and others
pub own-put : (cells ns : List ℕ) (n m : ℕ) → cells ≡ listed (n ∷ (ns ++ [])) → n ≡ m → cells ≡ listed (m ∷ ns)
own-put cells ns n m h e = h ∙ (ap (λ ks. listed (n ∷ ks)) (append-nil ns) ∙ ap (λ k. listed (k ∷ ns)) e)

-- the cells of those whom a disconnect tells
pub told-put : (p : Providers) (number : ℕ) (e : Endpoint) (n m k : Option ℕ) → option_to_list n ≡ peer_cell p e → option_to_list m ≡ target_cell p e → option_to_list k ≡ caller_cell p number e → option_to_list n ++ (option_to_list m ++ (option_to_list k ++ [])) ≡ told p number e
told-put p number e n m k h i j = rw (h, i, j, append-nil (caller_cell p number e)) (sym (append_assoc (peer_cell p e) (target_cell p e) (caller_cell p number e)))
