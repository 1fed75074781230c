-- The cells of the opening world.
use Rattle.std.proofs.Common.{◌≡◌, ℕ, zero, suc, ◌+◌, ◌<◌, ◌≤◌, Bool, true, false, ◌||◌, cond, eqb, List, [], ◌∷◌, ◌++◌, length, map, Option, Some, None, refl, sym, ap, ◌∙◌, subst, arith, add-one}
use Rattle.std.specs.Prelude.{option_map}
use Rattle.std.specs.List.{AllByRecursion}
use Rattle.std.proofs.lemmas.Bool.{ne_eqb}
use Rattle.std.proofs.lemmas.Bool.Decides.{nat_tests}
use Rattle.std.proofs.lemmas.List.{append-nil}
use Rattle.xti_model.specs.declared.profile.Providers.{Providers}
use Rattle.xti_model.specs.Profile.{valid}
use Rattle.xti_model.specs.Robin.{numbers}
use Rattle.xti_model.specs.World.{World, Cell, endpoint_cell, switch_cell, switch_number, places, closed_places, is_among, opening, opening_switch}
use Rattle.xti_registry.specs.Known.{Known}
use Rattle.xti_end.specs.Held.{Held, cell}
use Rattle.xti_laws.specs.Invariant.{SoundWorld}
use Rattle.xti_laws.proofs.Beginning.{opening-sound}
use Rattle.xti_lent.specs.Kept.{Distinct, IsPlace}
use Rattle.xti_lent.specs.Lending.{Lending, held_in, held_at, cell_lent, cells, cells_by, numbered_cell}
use Rattle.xti_lent.specs.Fit.{place_of_held}
use Rattle.xti_lent.proofs.Places.{not-switch}
use Rattle.xti_lent.proofs.Worlds.{from_number}
use Rattle.xti_lent.proofs.Lendings.{lent-switch}
use Rattle.xti_core.specs.Standing.{Standing, IsStanding}

-- the numbers of places
pub numbers-push : (from k n : ℕ) → n ≡ from + k → numbers from k ++ n ∷ [] ≡ numbers from (k + 1)
numbers-push from k n e = rw add-one (go from k e)
  where
    go : (from k : ℕ) → n ≡ from + k → numbers from k ++ n ∷ [] ≡ numbers from (suc k)
    go from zero e = let i : n ≡ from = omega arith in ap (λ m. m ∷ []) i
    go from (suc k) e = ap (λ ns. from ∷ ns) (go (from + 1) k (omega arith))

pub numbers-length : (from k : ℕ) → length (numbers from k) ≡ k
numbers-length from zero = refl
numbers-length from (suc k) = ap (λ n. suc n) (numbers-length (from + 1) k)

not-among : (from k n : ℕ) → from + k ≤ n → is_among (numbers from k) n ≡ false
not-among from zero n le = refl
not-among from (suc k) n le = let e : eqb from n ≡ false = ne_eqb from n (λ i. omega arith) in rw (e, not-among (from + 1) k n (omega arith)) refl

before-among : (from k n : ℕ) → n < from → is_among (numbers from k) n ≡ false
before-among from zero n lt = refl
before-among from (suc k) n lt = let e : eqb from n ≡ false = ne_eqb from n (λ i. omega arith) in rw (e, before-among (from + 1) k n (omega arith)) refl

distinct-numbers : (from k : ℕ) → Distinct (numbers from k)
distinct-numbers from zero = tt
distinct-numbers from (suc k) = (before-among (from + 1) k from (omega arith), distinct-numbers (from + 1) k)

place-numbers : (p : Providers) (from k : ℕ) → from + k ≤ places p → AllByRecursion (IsPlace p) (numbers from k)
place-numbers p from zero le = tt
place-numbers p from (suc k) le = (omega (arith, le), place-numbers p (from + 1) k (omega (arith, le)))

not-held-in : (ms : List ℕ) (hs : List Held) (n : ℕ) → is_among ms n ≡ false → held_in ms hs n ≡ None
not-held-in [] hs n e = refl
not-held-in (m ∷ ms) [] n e = refl
not-held-in (m ∷ ms) (h ∷ hs) n e = go (eqb m n) e (not-held-in ms hs n)
  where
    go : (b : Bool) → (b || is_among ms n) ≡ false → (is_among ms n ≡ false → held_in ms hs n ≡ None) → cond b (Some h) (held_in ms hs n) ≡ None
    go true i j = cc
    go false i j = j i

-- the place after those that are lent is not lent yet
pub next-apart : (l : Lending) (n : ℕ) → l.numbers ≡ numbers 0 n → held_at l n ≡ None
next-apart l n e = not-held-in l.numbers l.held n (ap (λ ns. is_among ns n) e ∙ not-among 0 n n (omega arith))

-- places where nothing was open yet, from this one on
abbrev pub UnusedFrom : ℕ → List Held → Type 0
UnusedFrom from [] = Unit {0}
UnusedFrom from (h ∷ hs) = (h.place ≡ from) × (h.generation ≡ 0) × (h.body ≡ None) × UnusedFrom (from + 1) hs

pub unused-push : (from : ℕ) (hs : List Held) (h : Held) → UnusedFrom from hs → h.place ≡ from + length hs → h.generation ≡ 0 → h.body ≡ None → UnusedFrom from (hs ++ h ∷ [])
unused-push from [] h u p g b = (omega (arith, p), g, b, tt)
unused-push from (x ∷ hs) h u p g b = (u.0, u.1, u.2, unused-push (from + 1) hs h u.3 (omega (arith, p)) g b)

unused-places : (from : ℕ) (hs : List Held) → UnusedFrom from hs → map place_of_held hs ≡ numbers from (length hs)
unused-places from [] u = refl
unused-places from (x ∷ hs) u = rw (u.0, unused-places (from + 1) hs u.3) refl

unused-cell : (from k : ℕ) (hs : List Held) (n : ℕ) → UnusedFrom from hs → length hs ≡ k → from ≤ n → n < from + k → option_map cell (held_in (numbers from k) hs n) ≡ Some (endpoint_cell 0 None)
unused-cell from zero hs n u e le lt = absurd (omega arith)
unused-cell from (suc k) [] n u e le lt = absurd (omega arith)
unused-cell from (suc k) (x ∷ hs) n u e le lt = go (eqb from n) refl (λ ne. unused-cell (from + 1) k hs n u.3 (omega arith) ne (omega arith))
  where
    go : (b : Bool) → eqb from n ≡ b → (from + 1 ≤ n → option_map cell (held_in (numbers (from + 1) k) hs n) ≡ Some (endpoint_cell 0 None)) → option_map cell (cond b (Some x) (held_in (numbers (from + 1) k) hs n)) ≡ Some (endpoint_cell 0 None)
    go true i later = rw (u.1, u.2) refl
    go false i later = let ne : from + 1 ≤ n = grind (arith, nat_tests) in later ne

closed-from : (at : ℕ → Option Cell) (from k : ℕ) → ((n : ℕ) → from ≤ n → n < from + k → at n ≡ Some (endpoint_cell 0 None)) → from_number at from (suc k) ≡ closed_places from k ++ numbered_cell (from + k) (at (from + k))
closed-from at from zero h =
    let e : from + 0 ≡ from = omega arith in
    append-nil (numbered_cell from (at from)) ∙ ap (λ n. numbered_cell n (at n)) (sym e)
closed-from at from (suc k) h =
    let e : from + 1 + k ≡ from + suc k = omega arith in
    let r = closed-from at (from + 1) k (λ n a b. h n (omega arith) (omega arith)) in
    rw (h from (omega arith) (omega arith), r, e) refl

-- what is so once all closed places and a table where nothing is bound are lent
pub record AllClosed (p : Providers) (k : Known) (l : Lending) : Type 0 where
  pub providers : l.providers ≡ p
  pub numbered : l.numbers ≡ numbers 0 (places p)
  pub unused : UnusedFrom 0 l.held
  pub count : length l.held ≡ places p
  pub registry : l.registry ≡ Some k
  pub switch : k.switch ≡ opening_switch (places p)

closed-cells : (p : Providers) (k : Known) (l : Lending) → AllClosed p k l → (n : ℕ) → n < places p → cell_lent l n ≡ Some (endpoint_cell 0 None)
closed-cells p k l a n lt =
    let e : eqb n (switch_number l.providers) ≡ false = ap (λ (q : Providers). eqb n (switch_number q)) a.providers ∙ not-switch p n lt in
    ap (λ b. cond b (option_map (λ (k : Known). switch_cell k.switch) l.registry) (option_map cell (held_at l n))) e ∙ (ap (λ ns. option_map cell (held_in ns l.held n)) a.numbered ∙ unused-cell 0 (places p) l.held n a.unused a.count (omega arith) (omega (arith, lt)))

opened-table : (p : Providers) (k : Known) (l : Lending) → AllClosed p k l → cell_lent l (switch_number p) ≡ Some (switch_cell (opening_switch (places p)))
opened-table p k l a = ap (λ (q : Providers). cell_lent l (switch_number q)) (sym a.providers) ∙ (lent-switch l ∙ (ap (option_map (λ (k : Known). switch_cell k.switch)) a.registry ∙ ap (λ z. Some (switch_cell z)) a.switch))

all-cells : (p : Providers) (at : ℕ → Option Cell) → ((n : ℕ) → n < places p → at n ≡ Some (endpoint_cell 0 None)) → at (switch_number p) ≡ Some (switch_cell (opening_switch (places p))) → cells_by p at ≡ opening p
unfolding cells_by opening
all-cells p at closed table =
    let e : 0 + places p ≡ places p = omega arith in
    let t : places p + 1 ≡ suc (places p) = omega arith in
    ap (from_number at 0) t ∙ closed-from at 0 (places p) (λ n i j. closed n (omega (arith, j)))
    ∙ (ap (λ n. closed_places 0 (places p) ++ numbered_cell n (at n)) e ∙ ap (λ o. closed_places 0 (places p) ++ numbered_cell (switch_number p) o) table)

pub opens : (p : Providers) (k : Known) (l : Lending) → AllClosed p k l → cells l ≡ opening p
opens p k l a = ap (λ (q : Providers). cells_by q (cell_lent l)) a.providers ∙ all-cells p (cell_lent l) (closed-cells p k l a) (opened-table p k l a)

pub stands-first : (p : Providers) (k : Known) (l : Lending) → valid p ≡ true → AllClosed p k l → IsStanding l
stands-first p k l v a = record {
  valid_providers = valid_l;
  sound = subst (λ (q : Providers). SoundWorld q (cells l)) (sym a.providers) (subst (SoundWorld p) (sym (opens p k l a)) (opening-sound p));
  loan = record {
    kept = record {
      valid_providers = valid_l;
      places = subst (λ (q : Providers). AllByRecursion (IsPlace q) l.numbers) (sym a.providers) (subst (λ ns. AllByRecursion (IsPlace p) ns) (sym a.numbered) (place-numbers p 0 (places p) (omega arith)));
      distinct = subst Distinct (sym a.numbered) (distinct-numbers 0 (places p));
      paired = a.count ∙ sym (ap length a.numbered ∙ numbers-length 0 (places p));
    };
    own = unused-places 0 l.held a.unused ∙ (ap (numbers 0) a.count ∙ sym a.numbered);
  };
}
  where
    valid_l : valid l.providers ≡ true
    valid_l = ap valid a.providers ∙ v

abbrev the_standing : Providers → World → Standing
the_standing p w = record { providers = p; cells = w }

pub same-standing : (p q : Providers) (v w : World) → p ≡ q → v ≡ w → the_standing p v ≡ the_standing q w
same-standing p q v w e i = ap (λ x. the_standing x v) e ∙ ap (λ x. the_standing q x) i
