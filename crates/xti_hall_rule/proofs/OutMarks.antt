-- The marks are those of the seats that are out.
use Rattle.std.proofs.Common.{◌≡◌, ◌≢◌, ⊎_elim, ℕ, ◌≤◌, List, ap, sym, ◌∙◌}
use Rattle.xti_model.specs.World.{Cell as MCell}
use Rattle.xti_hall_rule.specs.declared.setting.Setting.{Setting}
use Rattle.xti_hall_rule.specs.declared.view.Mark.{Mark}
use Rattle.xti_hall_rule.specs.declared.view.Mark.TheVariants.{Absent}
use Rattle.xti_hall_rule.specs.declared.view.View.{View}
use Rattle.xti_hall_rule.specs.Rule.{mark_of}
use Rattle.xti_hall_rule.specs.Marks.{IsOutWith, MarksAreOfSeatsOut}

pub marks-out : {C : Type 0} (stands : Setting → C → List (ℕ × MCell) → Type 0) → MarksAreOfSeatsOut stands
marks-out {C} stands p s r k lt = (none, some_one)
  where
    none : mark_of r.marks k ≡ Absent → (mark : Mark) → IsOutWith s.views k mark → ⊥
    none e mark out = let v : View = out.1 in let n = (r.each_seat out.0 v out.2 out.3).numbers out.4 in
        out.6 (sym n.marked ∙ (ap (mark_of r.marks) out.5 ∙ e))

    some_one : mark_of r.marks k ≢ Absent → IsOutWith s.views k (mark_of r.marks k)
    some_one ne = let h = r.each_number k lt in let v : View = h.0 in let n = (r.each_seat (r.owner k) v h.1 h.2.0).numbers h.2.1 in
        ⊎_elim
        (λ (is : v.number ≡ k). let mark : v.mark ≡ mark_of r.marks k = sym n.marked ∙ ap (mark_of r.marks) is in
        (r.owner k, v, h.1, h.2.0, h.2.1, is, (λ absent. ne (sym mark ∙ absent)), mark))
        (λ (le : v.next ≤ k). absurd (ne (n.spare k le lt).2))
        h.2.2
