-- What a seat has out between two calls.
use Rattle.std.proofs.Common.{◌≡◌, ℕ, zero, suc, replicate, List, refl, ap, sym, subst, ◌∙◌}
use Rattle.std.specs.Prelude.{Option, None}
use Rattle.xti_model.specs.declared.entry.Entry.{Entry}
use Rattle.xti_hall_rule.specs.declared.view.Mark.{Mark}
use Rattle.xti_hall_rule.specs.declared.view.View.{View}
use Rattle.xti_hall_rule.specs.Steps.{without_pen_unseen, with_pen, given}
use lib.ListN.{get_or}
use Rattle.xti_model.specs.World.{Cell as MCell}
use Rattle.xti_hall_rule.specs.declared.view.Mark.TheVariants.{Free}
use Rattle.xti_hall.specs.Seats.{IsNewcomerOf}
use Rattle.xti_hall_rule.specs.Steps.{told, with_seen, Looked}
use Rattle.xti_hall.specs.Seats.{Meets}

-- an empty hand has nothing
nothing_at : (n i : ℕ) → ◌≡◌ {A = Option MCell} (get_or (replicate n None) i None) None
nothing_at zero i = refl
nothing_at (suc n) zero = refl
nothing_at (suc n) (suc i) = nothing_at n i

pub is_newcomer : (v f0 f1 f2 f3 : View) (h : List Entry) (marks : List Mark) (mark : Mark) → f0 ≡ given v → f1 ≡ with_pen f0 h marks → f2 ≡ f1 → f3 ≡ without_pen_unseen f2 mark → mark ≡ Free → IsNewcomerOf v f3
is_newcomer v f0 f1 f2 f3 h marks mark a b c d e =
    let all : f3 ≡ without_pen_unseen (with_pen (given v) h marks) Free = d ∙ ((λ i. without_pen_unseen ((c ∙ b) i) (e i)) ∙ (λ i. without_pen_unseen (with_pen (a i) h marks) Free)) in
    subst (IsNewcomerOf v) (sym all) record { setting = refl; number = refl; next = refl; seen = refl; mine = refl; held = nothing_at v.setting.cells; journal = refl; mark = refl; refused = refl }

-- a seat that was told what another had seen, and then saw the history
pub meets : (v w j m : View) (n : ℕ) (h : List Entry) → j ≡ told v w → m ≡ with_seen j h → Looked j n h → Meets v w m
meets v w j m n h e s k =
    let all : m ≡ with_seen (told v w) h = s ∙ ap (λ (z : View). with_seen z h) e in
    let l : Looked (told v w) n h = subst (λ (z : View). Looked z n h) e k in
    subst (Meets v w) (sym all) record {
      setting = refl;
      number = refl;
      next = refl;
      mine = refl;
      held = refl;
      journal = refl;
      mark = refl;
      refused = refl;
      first = l.seen;
      second = l.heard;
    }
