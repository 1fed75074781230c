use Rattle.std.proofs.Common.{◌≡◌, ◌∙◌, ℕ, Some, ap, subst, List, Option}
use Rattle.std.specs.Prelude.{option_map, None}
use Rattle.xti_model.specs.declared.entry.Entry.{Entry}
use Rattle.xti_model.specs.declared.entry.Go.TheVariants.{More}
use Rattle.xti_model.specs.History.{Going, unfinished_from}
use Rattle.xti_model.specs.Wants.{HasLeft}
use Rattle.xti_model.specs.History.{taken_before}
use Rattle.xti_calls.proofs.Unfinished.{GoingHasLeft, left-of_legal}
use Rattle.xti_calls.proofs.calling.resume.Goals as goal

pub go_on-requires-clause-left : goal.go_on-requires-clause-left
go_on-requires-clause-left g c =
    let v = c.args.seat.now.view in
    let s = c.unfinished.ensures.standing in
    let u = left-of_legal v.setting.providers v.seen s.legal v.number in
    let mine = subst (λ (es : List Entry). GoingHasLeft (unfinished_from None None es)) s.mine u in
    let left = subst (λ (z : Option Going). GoingHasLeft z) c.requires.unfinished.1 mine in
    let n : ℕ = c.requires.unfinished.0 in
    let e : Some c.in-Some.taken ≡ Some n = c.in-Some.ensures.bytes ∙ ap (option_map (λ (z : Going). taken_before z.so_far)) c.requires.unfinished.1 in
    let same : n ≡ c.in-Some.taken = cc in
    λ _ _. subst (λ (m : ℕ). HasLeft c.args.call.now (More m)) same left
