-- The cells of the opening world.
use Rattle.std.proofs.Common.{◌≡◌, ⊎_elim, ℕ, zero, suc, ◌+◌, ◌<◌, ◌≤◌, Bool, true, false, cond, eqb, List, [], ◌∷◌, ◌++◌, length, Some, None, refl, sym, ap, ◌∙◌, subst, arith}
use mathlib.Core.Option.{some, some-ne-none}
use lib.ListN.{get_elem?}
use Rattle.std.specs.Prelude.{Box}
use Rattle.std.specs.declared.alloc.Global.{Global}
use Rattle.std.proofs.lemmas.Bool.{eq-eqb, ne_eqb, eqb-true}
use Rattle.std.proofs.lemmas.Bool.Decides.{nat_tests}
use Rattle.xti_model.specs.declared.profile.Providers.{Providers}
use Rattle.xti_model.specs.World.{World, Cell, endpoint_cell, switch_cell, cell_at, places, switch_number, closed_places, opening, opening_switch}
use Rattle.xti_registry.specs.Known.{Known}
use Rattle.xti_end.specs.Held.{Held}
use Rattle.xti_hall_rule.specs.Histories.{part, cell_or_closed}
use Rattle.xti_hall_rule.proofs.Splits.{at_end}
use Rattle.xti_gather.specs.declared.cell.Cell as rust
use Rattle.xti_gather.specs.declared.cell.Cell.TheVariants.{End, Switch}
use Rattle.xti_gather.specs.Cells.{StandsFor}

-- all of them stand for closed places, in their order
abbrev pub AreClosed : Providers → List rust.Cell → Type 0
AreClosed p xs = (i : ℕ) (x : rust.Cell) → get_elem? xs i ≡ some x → StandsFor p x ((i, endpoint_cell 0 None) ∷ [])

pub none_closed : (p : Providers) (xs : List rust.Cell) → xs ≡ [] → AreClosed p xs
none_closed p xs e i x h = absurd (some-ne-none x (sym (ap (λ z. get_elem? z i) (sym e) ∙ h)))

pub one_closed : (p : Providers) (xs : List rust.Cell) (n : ℕ) (e : Box Held Global) → AreClosed p xs → length xs ≡ n → n < places p → e.value.place ≡ n → e.value.generation ≡ 0 → e.value.body ≡ None → AreClosed p (xs ++ End e ∷ [])
one_closed p xs n e all many lt own g b i x h = ⊎_elim
    (λ (t : (i < length xs) × (get_elem? xs i ≡ some x)). all i x t.1)
    (λ (t : (i ≡ length xs) × (End e ≡ x)).
    let s : e.value.place ≡ i = own ∙ (sym many ∙ sym t.0) in
    subst (λ (z : rust.Cell). StandsFor p z ((i, endpoint_cell 0 None) ∷ [])) t.1 (
      subst (λ z. z < places p) (sym own) lt,
      λ k. (sym s k, endpoint_cell (sym g k) (sym b k)) ∷ [],
    ))
    (at_end xs (End e) x i h)

above : (from i : ℕ) → from ≤ i → eqb from i ≡ false → from + 1 ≤ i
above from i le e = grind (arith, nat_tests)

closed-at : (from n i : ℕ) (rest : World) → from ≤ i → i < from + n → cell_at (closed_places from n ++ rest) i ≡ Some (record { number = i; cell = endpoint_cell 0 None })
closed-at from zero i rest le lt = absurd (omega arith)
closed-at from (suc n) i rest le lt = go (eqb from i) refl (λ e. closed-at (from + 1) n i rest (above from i le e) (omega arith))
  where
    go : (b : Bool) → eqb from i ≡ b → (eqb from i ≡ false → cell_at (closed_places (from + 1) n ++ rest) i ≡ Some (record { number = i; cell = endpoint_cell 0 None }))
        → cond b (Some (record { number = from; cell = endpoint_cell 0 None })) (cell_at (closed_places (from + 1) n ++ rest) i) ≡ Some (record { number = i; cell = endpoint_cell 0 None })
    go true e later = ap (λ k. Some (record { number = k; cell = endpoint_cell 0 None })) (eqb-true from i e)
    go false e later = later e

behind : (from n i : ℕ) (rest : World) → from + n ≤ i → cell_at (closed_places from n ++ rest) i ≡ cell_at rest i
behind from zero i rest le = refl
behind from (suc n) i rest le = rw (ne_eqb from i (λ e. omega arith)) (behind (from + 1) n i rest (omega arith))

only-one : (n : ℕ) (c : Cell) → cell_at (record { number = n; cell = c } ∷ []) n ≡ Some (record { number = n; cell = c })
only-one n c = rw (eq-eqb n n refl) refl

opening-closed : (p : Providers) (i : ℕ) → i < places p → part i (opening p) ≡ endpoint_cell 0 None
unfolding opening
opening-closed p i lt = ap cell_or_closed (closed-at 0 (places p) i (record { number = switch_number p; cell = switch_cell (opening_switch (places p)) } ∷ []) (omega arith) (omega (arith, lt)))

opening-switch : (p : Providers) → part (switch_number p) (opening p) ≡ switch_cell (opening_switch (places p))
unfolding opening
opening-switch p = ap cell_or_closed (behind 0 (places p) (switch_number p) (record { number = switch_number p; cell = switch_cell (opening_switch (places p)) } ∷ []) (omega arith) ∙ only-one (switch_number p) (switch_cell (opening_switch (places p))))

pub all_stand : (p : Providers) (xs ys : List rust.Cell) (k : Box Known Global) → AreClosed p xs → length xs ≡ places p → k.value.switch ≡ opening_switch (places p) → ys ≡ xs ++ Switch k ∷ [] → (i : ℕ) (x : rust.Cell) → get_elem? ys i ≡ some x → StandsFor p x ((i, part i (opening p)) ∷ [])
all_stand p xs ys k all many s is i x h = ⊎_elim
    (λ (t : (i < length xs) × (get_elem? xs i ≡ some x)). subst (λ z. StandsFor p x ((i, z) ∷ [])) (sym (opening-closed p i (subst (λ z. i < z) many t.0))) (all i x t.1))
    (λ (t : (i ≡ length xs) × (Switch k ≡ x)).
    let j : i ≡ switch_number p = t.0 ∙ many in
    subst (λ (z : rust.Cell). StandsFor p z ((i, part i (opening p)) ∷ [])) t.1 (ap (λ (z : ℕ × Cell). (z.0, z.1) ∷ []) (λ q. (j q, (ap (λ n. part n (opening p)) j ∙ (opening-switch p ∙ ap switch_cell (sym s))) q))))
    (at_end xs (Switch k) x i (ap (λ z. get_elem? z i) (sym is) ∙ h))
