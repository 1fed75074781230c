-- A call that is made in parts: where its seat is after each step.
use Rattle.std.proofs.Common.{◌≡◌, ℕ, Some, None, ap, ◌∙◌}
use Rattle.xti_model.specs.declared.call.Call.{Call}
use Rattle.xti_model.specs.declared.entry.Act.TheVariants as act
use Rattle.xti_model.specs.declared.entry.Applied.{Applied}
use Rattle.xti_model.specs.declared.entry.Applied.TheVariants as applied
use Rattle.xti_model.specs.declared.entry.Go.TheVariants as go
use Rattle.xti_model.specs.History.{going_after, made_by, unfinished_from}
use Rattle.xti_model.proofs.Working.{unfinished_from-snoc}
use Rattle.xti_hall_rule.specs.declared.view.View.{View}
use Rattle.xti_step.specs.Steps.{MayGo, Tells}
use Rattle.xti_calls.specs.Calling.{IsAt}
use Rattle.xti_tests.specs.Parts.{IsPart}

pub may_begin : (v : View) (c : Call) → unfinished_from None None v.mine ≡ None → MayGo v c go.Begin
may_begin v c e = ap (λ u. made_by u (act.Begin c)) e

pub may_go_on : (v : View) (c : Call) (n : ℕ) → IsAt v c (go.More n) → MayGo v c (go.More n)
may_go_on v c n k = k

-- a part leaves its call unfinished
pub part_is_at : (v v' : View) (c : Call) (a : Applied) (n : ℕ) →
    unfinished_from None None v.mine ≡ None → Tells v c go.Begin v' a → IsPart a n → IsAt v' c (go.More n)
part_is_at v v' c (applied.Step outcome state) n none k e =
    ap (unfinished_from None None) k.mine
    ∙ (unfinished_from-snoc None None v.mine _ ∙ ap (going_after (Some c)) e)
part_is_at v v' c applied.Blocked n none k e = absurd e

-- a blocked step leaves its call where it was
pub blocked_is_at : (v v' : View) (c : Call) (n : ℕ) →
    IsAt v c (go.More n) → Tells v c (go.More n) v' applied.Blocked → IsAt v' c (go.More n)
blocked_is_at v v' c n h k = ap (unfinished_from None None) k.mine ∙ h
