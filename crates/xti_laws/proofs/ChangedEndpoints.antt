-- The endpoint with a descriptor, after a change of a cell.
use Rattle.std.proofs.Common.{ℕ, Bool, true, false, List, [], ◌∷◌, ◌++◌, ◌+◌, ◌≡◌, refl, sym, ap, ◌∙◌, eqb, cond, Option, Some, None, arith}
use Rattle.std.proofs.lemmas.Bool.{eq-eqb, eqb-true, ne_eqb, false≢true}
use Rattle.std.specs.Prelude.{option_map, option_and_then, ◌%◌, ◌/◌}
use Rattle.xti_model.specs.declared.profile.Providers.{Providers}
use Rattle.xti_model.specs.World.{World, Numbered, Cell, Change, Switch, endpoint_cell, switch_cell, change, change_endpoint, change_switch, close_cell, changed, cell_at, cell_number, new_cell, endpoint, endpoint_in, generation_of, place_of, switch_number}
use Rattle.xti_model.specs.Endpoint.{Endpoint}
use Rattle.xti_laws.proofs.Places.{not-switch, same-fd}

abbrev pub recell : (Cell → Cell) → Numbered → Numbered
recell f c = record c { cell = f c.cell }

pub cell_at-same : (n : ℕ) (f : Cell → Cell) (w : World) → cell_at (change n f w) n ≡ option_map (recell f) (cell_at w n)
cell_at-same n f [] = refl
cell_at-same n f (c ∷ w) = go (eqb c.number n) refl (cell_at-same n f w)
  where
    go : (b : Bool) → eqb c.number n ≡ b → cell_at (change n f w) n ≡ option_map (recell f) (cell_at w n) → cell_at (change n f (c ∷ w)) n ≡ option_map (recell f) (cell_at (c ∷ w) n)
    go true h ih = simp (h, ih) refl
    go false h ih = simp (h, ih) refl

pub cell_at-other : (n m : ℕ) → eqb m n ≡ false → (f : Cell → Cell) (w : World) → cell_at (change n f w) m ≡ cell_at w m
cell_at-other n m k f [] = refl
cell_at-other n m k f (c ∷ w) = go (eqb c.number n) refl (eqb c.number m) refl (cell_at-other n m k f w)
  where
    go : (b : Bool) → eqb c.number n ≡ b → (d : Bool) → eqb c.number m ≡ d → cell_at (change n f w) m ≡ cell_at w m → cell_at (change n f (c ∷ w)) m ≡ cell_at (c ∷ w) m
    go true h true g ih = absurd (false≢true (sym k ∙ (ap (λ z. eqb z n) (sym (eqb-true c.number m g)) ∙ h)))
    go true h false g ih = simp (h, g, ih) refl
    go false h true g ih = simp (h, g, ih) refl
    go false h false g ih = simp (h, g, ih) refl

in-same : (g : ℕ) (f : Endpoint → Endpoint) (c : Cell) → endpoint_in g (change_endpoint g f c) ≡ option_map f (endpoint_in g c)
in-same g f (switch_cell s) = refl
in-same g f (endpoint_cell m None) = go (eqb m g)
  where
    go : (b : Bool) → cond b None None ≡ option_map f (cond b None None)
    go true = refl
    go false = refl
in-same g f (endpoint_cell m (Some e)) = go (eqb m g)
  where
    go : (b : Bool) → cond b (Some (cond b (f e) e)) None ≡ option_map f (cond b (Some e) None)
    go true = refl
    go false = refl

in-other : (g k : ℕ) → eqb k g ≡ false → (f : Endpoint → Endpoint) (c : Cell) → endpoint_in k (change_endpoint g f c) ≡ endpoint_in k c
in-other g k h f (switch_cell s) = refl
in-other g k h f (endpoint_cell m None) = refl
in-other g k h f (endpoint_cell m (Some e)) = go (eqb m k) refl (eqb m g) refl
  where
    go : (b : Bool) → eqb m k ≡ b → (d : Bool) → eqb m g ≡ d → cond b (Some (cond d (f e) e)) None ≡ cond b (Some e) None
    go false i d j = refl
    go true i false j = refl
    go true i true j = absurd (false≢true (sym h ∙ (ap (λ z. eqb z g) (sym (eqb-true m k i)) ∙ j)))

none-either : (b : Bool) → cond {A = Option Endpoint} b None None ≡ None
none-either true = refl
none-either false = refl

in-closed : (g : ℕ) (c : Cell) → endpoint_in g (close_cell g c) ≡ None
in-closed g (switch_cell s) = refl
in-closed g (endpoint_cell m None) = none-either (eqb m g)
in-closed g (endpoint_cell m (Some e)) = go (eqb m g) refl
  where
    go : (b : Bool) → eqb m g ≡ b → endpoint_in g (cond b (endpoint_cell (m + 1) None) (endpoint_cell m (Some e))) ≡ None
    go true h = none-either (eqb (m + 1) g)
    go false h = simp h refl

in-closed-other : (g k : ℕ) → eqb k g ≡ false → (c : Cell) → endpoint_in k (close_cell g c) ≡ endpoint_in k c
in-closed-other g k h (switch_cell s) = refl
in-closed-other g k h (endpoint_cell m None) = refl
in-closed-other g k h (endpoint_cell m (Some e)) = go (eqb m g) refl
  where
    gone : eqb m g ≡ true → (b : Bool) → eqb m k ≡ b → endpoint_in k (endpoint_cell (m + 1) None) ≡ cond b (Some e) None
    gone i true j = absurd (false≢true (sym h ∙ (ap (λ z. eqb z g) (sym (eqb-true m k j)) ∙ i)))
    gone i false j = none-either (eqb (m + 1) k)

    go : (b : Bool) → eqb m g ≡ b → endpoint_in k (cond b (endpoint_cell (m + 1) None) (endpoint_cell m (Some e))) ≡ cond (eqb m k) (Some e) None
    go true i = gone i (eqb m k) refl
    go false i = refl

-- the endpoint with the descriptor itself
at-same : (p : Providers) (fd : ℕ) (f : Cell → Cell) (f₁ : Option Endpoint → Option Endpoint) → ((c : Cell) → endpoint_in (generation_of p fd) (f c) ≡ f₁ (endpoint_in (generation_of p fd) c)) → f₁ None ≡ None
    → (w : World) → endpoint p (change (place_of p fd) f w) fd ≡ f₁ (endpoint p w fd)
at-same p fd f f₁ h n w = simp (cell_at-same (place_of p fd) f w) (go (cell_at w (place_of p fd)))
  where
    go : (o : Option Numbered) → option_and_then (λ c. endpoint_in (generation_of p fd) c.cell) (option_map (recell f) o) ≡ f₁ (option_and_then (λ c. endpoint_in (generation_of p fd) c.cell) o)
    go None = sym n
    go (Some c) = h c.cell

-- that with another descriptor
at-other : (p : Providers) (fd x : ℕ) → eqb x fd ≡ false → (f : Cell → Cell) → ((c : Cell) → eqb (generation_of p x) (generation_of p fd) ≡ false → endpoint_in (generation_of p x) (f c) ≡ endpoint_in (generation_of p x) c)
    → (w : World) → endpoint p (change (place_of p fd) f w) x ≡ endpoint p w x
at-other p fd x k f h w = go (eqb (place_of p x) (place_of p fd)) refl (eqb (generation_of p x) (generation_of p fd)) refl
  where
    kept : eqb (generation_of p x) (generation_of p fd) ≡ false → (o : Option Numbered) → option_and_then (λ c. endpoint_in (generation_of p x) c.cell) (option_map (recell f) o) ≡ option_and_then (λ c. endpoint_in (generation_of p x) c.cell) o
    kept j None = refl
    kept j (Some c) = h c.cell j

    there : place_of p x ≡ place_of p fd → cell_at (change (place_of p fd) f w) (place_of p x) ≡ option_map (recell f) (cell_at w (place_of p x))
    there i = ap (cell_at (change (place_of p fd) f w)) i ∙ (cell_at-same (place_of p fd) f w ∙ ap (λ z. option_map (recell f) (cell_at w z)) (sym i))

    go : (b : Bool) → eqb (place_of p x) (place_of p fd) ≡ b → (d : Bool) → eqb (generation_of p x) (generation_of p fd) ≡ d → endpoint p (change (place_of p fd) f w) x ≡ endpoint p w x
    go false i d j = ap (option_and_then (λ c. endpoint_in (generation_of p x) c.cell)) (cell_at-other (place_of p fd) (place_of p x) i f w)
    go true i true j = absurd (false≢true (sym k ∙ (ap (eqb x) (sym (same-fd p x fd (eqb-true (place_of p x) (place_of p fd) i) (eqb-true (generation_of p x) (generation_of p fd) j))) ∙ eq-eqb x x refl)))
    go true i false j = ap (option_and_then (λ c. endpoint_in (generation_of p x) c.cell)) (there (eqb-true (place_of p x) (place_of p fd) i)) ∙ kept j (cell_at w (place_of p x))

pub endpoint-same : (p : Providers) (fd : ℕ) (f : Endpoint → Endpoint) (w : World) → endpoint p (change (place_of p fd) (change_endpoint (generation_of p fd) f) w) fd ≡ option_map f (endpoint p w fd)
endpoint-same p fd f w = at-same p fd (change_endpoint (generation_of p fd) f) (option_map f) (in-same (generation_of p fd) f) refl w

pub endpoint-other : (p : Providers) (fd x : ℕ) → eqb x fd ≡ false → (f : Endpoint → Endpoint) (w : World) → endpoint p (change (place_of p fd) (change_endpoint (generation_of p fd) f) w) x ≡ endpoint p w x
endpoint-other p fd x k f w = at-other p fd x k (change_endpoint (generation_of p fd) f) (λ c j. in-other (generation_of p fd) (generation_of p x) j f c) w

pub closed-same : (p : Providers) (fd : ℕ) (w : World) → endpoint p (change (place_of p fd) (close_cell (generation_of p fd)) w) fd ≡ None
closed-same p fd w = at-same p fd (close_cell (generation_of p fd)) (λ o. None) (in-closed (generation_of p fd)) refl w

pub closed-other : (p : Providers) (fd x : ℕ) → eqb x fd ≡ false → (w : World) → endpoint p (change (place_of p fd) (close_cell (generation_of p fd)) w) x ≡ endpoint p w x
closed-other p fd x k w = at-other p fd x k (close_cell (generation_of p fd)) (λ c j. in-closed-other (generation_of p fd) (generation_of p x) j c) w

pub switch-other : (p : Providers) (f : Switch → Switch) (x : ℕ) (w : World) → endpoint p (change (switch_number p) (change_switch f) w) x ≡ endpoint p w x
switch-other p f x w = ap (option_and_then (λ c. endpoint_in (generation_of p x) c.cell)) (cell_at-other (switch_number p) (place_of p x) (not-switch p x) (change_switch f) w)

pub changed-append : (p : Providers) (w : World) (cs ds : List Change) → changed p w (cs ++ ds) ≡ changed p (changed p w cs) ds
changed-append p w [] ds = refl
changed-append p w (c ∷ cs) ds = changed-append p (change (cell_number p c) (new_cell p c) w) cs ds
