-- Some cells of a world.
use Rattle.std.proofs.Common.{◌≡◌, ℕ, zero, suc, ◌+◌, ◌<◌, ◌≤◌, Bool, true, false, ◌||◌, cond, eqb, List, [], ◌∷◌, ◌++◌, Option, Some, None, refl, sym, ap, ◌∙◌, arith}
use Rattle.std.specs.Prelude.{option_map, is_some, filter}
use Rattle.std.specs.List.{AllByRecursion}
use Rattle.std.proofs.lemmas.Bool.{ne_eqb, eq-eqb, eqb-true}
use Rattle.std.proofs.lemmas.Bool.Decides.{nat_tests}
use Rattle.xti_model.specs.declared.profile.Providers.{Providers}
use Rattle.xti_model.specs.Robin.{numbers}
use Rattle.xti_model.specs.World.{Cell, places, switch_number, cell_at, the_switch, switch_or_empty, is_among, only}
use Rattle.xti_laws.specs.Laws.{Within}
use Rattle.xti_lent.specs.Lending.{cells_by}
use Rattle.xti_lent.proofs.Places.{switch-cell}
use Rattle.xti_lent.proofs.Worlds.{at_number, cell_at-is, same-is}
use Rattle.xti_lent.proofs.Named.{or-true, later-among, all-among}
use Rattle.xti_core.proofs.Settling.{kept_by, only-is}

-- some cells of others
abbrev pub Sub : (ℕ → Option Cell) → (ℕ → Option Cell) → Type 0
Sub lt at = (n : ℕ) → is_some (lt n) ≡ true → lt n ≡ at n

pub cell-sub : (p : Providers) (lt at : ℕ → Option Cell) (n : ℕ) → n < places p + 1 → Sub lt at → is_some (lt n) ≡ true → cell_at (cells_by p lt) n ≡ cell_at (cells_by p at) n
cell-sub p lt at n b h i = cell_at-is p lt n b ∙ (ap (option_map (at_number n)) (h n i) ∙ sym (cell_at-is p at n b))

pub switch-sub : (p : Providers) (lt at : ℕ → Option Cell) → Sub lt at → is_some (lt (switch_number p)) ≡ true → the_switch p (cells_by p lt) ≡ the_switch p (cells_by p at)
switch-sub p lt at h i = ap switch_or_empty (cell-sub p lt at (switch_number p) (switch-cell p) h i)

-- the numbers of those that are there, and these
abbrev pub there_and : Providers → (ℕ → Option Cell) → List ℕ → List ℕ
there_and p lt ns = filter (λ n. is_some (lt n)) (numbers 0 (places p + 1)) ++ ns

pub above-none : (q : ℕ → Bool) (from k n : ℕ) → n < from → is_among (filter q (numbers from k)) n ≡ false
above-none q from zero n lt = refl
above-none q from (suc k) n lt = go (q from) (above-none q (from + 1) k n (omega arith))
  where
    go : (b : Bool) → is_among (filter q (numbers (from + 1) k)) n ≡ false → is_among (cond b (from ∷ filter q (numbers (from + 1) k)) (filter q (numbers (from + 1) k))) n ≡ false
    go true i = rw (ne_eqb from n (λ e. omega arith), i) refl
    go false i = i

pub among-filter : (q : ℕ → Bool) (from k n : ℕ) → from ≤ n → n < from + k → is_among (filter q (numbers from k)) n ≡ q n
among-filter q from zero n le lt = absurd (omega arith)
among-filter q from (suc k) n le lt = go (eqb from n) refl (q from) refl (λ i. among-filter q (from + 1) k n i (omega arith))
  where
    go : (c : Bool) → eqb from n ≡ c → (b : Bool) → q from ≡ b → (from + 1 ≤ n → is_among (filter q (numbers (from + 1) k)) n ≡ q n) → is_among (cond b (from ∷ filter q (numbers (from + 1) k)) (filter q (numbers (from + 1) k))) n ≡ q n
    go true e true i later = rw e (sym i ∙ ap q (eqb-true from n e))
    go true e false i later =
        let s : from ≡ n = eqb-true from n e in
        above-none q (from + 1) k n (omega arith) ∙ (sym i ∙ ap q s)
    go false e true i later = rw e (later (grind (arith, nat_tests)))
    go false e false i later = later (grind (arith, nat_tests))

pub among-both : (ns ms : List ℕ) (n : ℕ) → is_among (ns ++ ms) n ≡ (is_among ns n || is_among ms n)
among-both [] ms n = refl
among-both (m ∷ ns) ms n = go (eqb m n) (is_among ns n) (is_among (ns ++ ms) n) (is_among ms n) (among-both ns ms n)
  where
    go : (a b c d : Bool) → c ≡ (b || d) → (a || c) ≡ ((a || b) || d)
    go true b c d e = refl
    go false b c d e = e

-- these are all there
abbrev pub AllThere : (ℕ → Option Cell) → List ℕ → Type 0
AllThere lt ns = AllByRecursion (λ n. is_some (lt n) ≡ true) ns

pub either-there : (b c : Bool) → (c ≡ true → b ≡ true) → (b || c) ≡ b
either-there true c h = refl
either-there false true h = sym (h refl)
either-there false false h = refl

pub there-among : (p : Providers) (lt : ℕ → Option Cell) (ns : List ℕ) (n : ℕ) → AllThere lt ns → n < places p + 1 → is_among (there_and p lt ns) n ≡ is_some (lt n)
there-among p lt ns n a l =
    among-both (filter (λ n. is_some (lt n)) (numbers 0 (places p + 1))) ns n ∙
    (ap (λ b. b || is_among ns n) (among-filter (λ n. is_some (lt n)) 0 (places p + 1) n (omega arith) (omega arith)) ∙ either-there (is_some (lt n)) (is_among ns n) (λ i. all-among (λ m. is_some (lt m) ≡ true) ns n a i))

pub within-of : (t ns : List ℕ) → ((n : ℕ) → is_among ns n ≡ true → is_among t n ≡ true) → Within t ns
within-of t [] h = tt
within-of t (n ∷ ns) h = (h n (rw (eq-eqb n n refl) refl), within-of t ns (λ m i. h m (later-among m n ns i)))

pub those-within : (p : Providers) (lt : ℕ → Option Cell) (ns : List ℕ) → Within (there_and p lt ns) ns
those-within p lt ns = within-of (there_and p lt ns) ns (λ n i. among-both (filter (λ n. is_some (lt n)) (numbers 0 (places p + 1))) ns n ∙ (ap (λ b. is_among (filter (λ n. is_some (lt n)) (numbers 0 (places p + 1))) n || b) i ∙ or-true _))

-- they are what their numbers have of the world
pub there-only : (p : Providers) (lt at : ℕ → Option Cell) (t : List ℕ) → Sub lt at → ((n : ℕ) → n < places p + 1 → is_among t n ≡ is_some (lt n)) → only t (cells_by p at) ≡ cells_by p lt
there-only p lt at t s h = only-is p t at ∙ same-is p (kept_by t at) lt (λ n l. go n (is_some (lt n)) refl (h n l))
  where
    none : (o : Option Cell) → is_some o ≡ false → None ≡ o
    none None e = refl
    none (Some c) e = cc

    go : (n : ℕ) (b : Bool) → is_some (lt n) ≡ b → is_among t n ≡ is_some (lt n) → kept_by t at n ≡ lt n
    go n true e i = rw (i ∙ e) (sym (s n e))
    go n false e i = rw (i ∙ e) (none (lt n) e)
