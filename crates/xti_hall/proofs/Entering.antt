-- What entering a cell tells, by lookups.
use Rattle.std.proofs.Common.{◌≡◌, ℕ, ◌<◌, List, [], ◌∷◌, length, set, ap, sym, subst, ◌∙◌}
use Rattle.std.specs.Prelude.{Some, None}
use Rattle.atomic_table.specs.Table.{rest}
use Rattle.xti_model.specs.World.{Cell as MCell}
use Rattle.xti_hall_rule.specs.declared.setting.Setting.{Setting}
use Rattle.xti_hall_rule.specs.declared.view.View.{View}
use Rattle.xti_hall_rule.specs.declared.view.Held.TheVariants.{Cell, Journal}
use Rattle.xti_hall_rule.specs.Rule.{Slot}
use Rattle.xti_hall_rule.specs.Steps.{with_held, Fresh, Seated, Took}
use Rattle.xti_hall.specs.Seats.{Entered}
use Rattle.xti_hall.proofs.Lookups.{entered}

module _ {C : Type 0} (stands : Setting → C → List (ℕ × MCell) → Type 0) where
  abbrev cell_of : C → List (ℕ × Slot C) → C
  cell_of d [] = d
  cell_of d ((k, Some (Cell x)) ∷ xs) = x
  cell_of d ((k, Some (Journal x)) ∷ xs) = d
  cell_of d ((k, None) ∷ xs) = d

  pub told : (old : View) (m m' m'' : Seated C) (i : ℕ) (r : C) → m.0 ≡ old → Took stands m i m' → m'.1 ≡ (i, Some (Cell r)) ∷ rest m'.1 → m'' ≡ (with_held m'.0 m'.0.held 0, rest m'.1)
      → (c : MCell) × Entered old i c m''.0 × stands old.setting r ((i, c) ∷ []) × Fresh m''.0
  told old m m' m'' i r was t v e = let x = t.0 in let c = t.1 in let same : x ≡ r = ap (cell_of x) (sym (ap (λ (z : Seated C). z.1) t.2) ∙ v) in
      let view : m''.0 ≡ with_held old (set old.held i (Some c)) 0 = ap (λ (z : Seated C). z.0) e ∙ (ap (λ (z : Seated C). with_held z.0 z.0.held 0) t.2 ∙ ap (λ (z : View). with_held z (set z.held i (Some c)) 0) was) in
      (c, entered old m''.0 i c view (subst (λ (z : View). i < length z.held) was t.5), subst (λ (z : View × C). stands z.0.setting z.1 ((i, c) ∷ [])) (λ k. (was k, same k)) t.3, subst (λ (z : Seated C). Fresh z.0) (sym e) t.4)
