-- A world of which only some cells are there.
use Rattle.std.proofs.Common.{ℕ, Bool, true, false, List, [], ◌∷◌, ◌≡◌, refl, sym, ap, ◌∙◌, eqb}
use Rattle.std.proofs.lemmas.Bool.{eqb-true, false≢true}
use Rattle.xti_model.specs.declared.profile.Providers.{Providers}
use Rattle.xti_model.specs.World.{World, Numbered, Cell, Change, cell_number, new_cell, change, change_numbered, changed, cell_at, is_among, only, endpoint, endpoint_in, generation_of, place_of, the_switch, switch_or_empty, switch_number}
use Rattle.std.specs.Prelude.{option_and_then}

pub number_kept : (n : ℕ) (f : Cell → Cell) (c : Numbered) → (change_numbered n f c).number ≡ c.number
number_kept n f c = go (eqb c.number n) refl
  where
    go : (b : Bool) → eqb c.number n ≡ b → (change_numbered n f c).number ≡ c.number
    go true h = simp h refl
    go false h = simp h refl

-- a change never changes which cells are there
pub only-change : (t : List ℕ) (n : ℕ) (f : Cell → Cell) (w : World) → change n f (only t w) ≡ only t (change n f w)
only-change t n f [] = refl
only-change t n f (c ∷ w) = go (is_among t c.number) refl (only-change t n f w)
  where
    go : (b : Bool) → is_among t c.number ≡ b → change n f (only t w) ≡ only t (change n f w) → change n f (only t (c ∷ w)) ≡ only t (change n f (c ∷ w))
    go true h ih = simp (h, number_kept n f c, ih) refl
    go false h ih = simp (h, number_kept n f c, ih) refl

pub only-changed : (p : Providers) (t : List ℕ) (cs : List Change) (w : World) → changed p (only t w) cs ≡ only t (changed p w cs)
only-changed p t [] w = refl
only-changed p t (c ∷ cs) w = simp (only-change t (cell_number p c) (new_cell p c) w, only-changed p t cs (change (cell_number p c) (new_cell p c) w)) refl

pub cell_at-only : (t : List ℕ) (n : ℕ) → is_among t n ≡ true → (w : World) → cell_at (only t w) n ≡ cell_at w n
cell_at-only t n k [] = refl
cell_at-only t n k (c ∷ w) = go (is_among t c.number) refl (eqb c.number n) refl (cell_at-only t n k w)
  where
    go : (b : Bool) → is_among t c.number ≡ b → (d : Bool) → eqb c.number n ≡ d → cell_at (only t w) n ≡ cell_at w n → cell_at (only t (c ∷ w)) n ≡ cell_at (c ∷ w) n
    go true h true g ih = simp (h, g) refl
    go true h false g ih = simp (h, g, ih) refl
    go false h true g ih = absurd (false≢true (sym h ∙ (ap (is_among t) (eqb-true c.number n g) ∙ k)))
    go false h false g ih = simp (h, g, ih) refl

pub endpoint-only : (p : Providers) (t : List ℕ) (fd : ℕ) → is_among t (place_of p fd) ≡ true → (w : World) → endpoint p (only t w) fd ≡ endpoint p w fd
endpoint-only p t fd k w = ap (option_and_then (λ c. endpoint_in (generation_of p fd) c.cell)) (cell_at-only t (place_of p fd) k w)

pub the_switch-only : (p : Providers) (t : List ℕ) → is_among t (switch_number p) ≡ true → (w : World) → the_switch p (only t w) ≡ the_switch p w
the_switch-only p t k w = ap switch_or_empty (cell_at-only t (switch_number p) k w)
