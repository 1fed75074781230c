use Rattle.std.proofs.Common.{rules, ap, sym, subst, ℕ, ◌∙◌, ◌≡◌, ◌++◌, ◌∷◌, [], length, Some}
use Rattle.std.specs.Vec.{vec_len}
use Rattle.xti_hall_rule.specs.declared.setting.Setting.{Setting}
use Rattle.xti_hall_rule.specs.declared.view.Held.TheVariants.{Journal}
use Rattle.xti_hall_rule.specs.Rule.{Boxed, newcomer}
use Rattle.xti_hall_rule.proofs.Looks.{opens_with}
use Rattle.xti_hall.specs.Seats.{StandInOrder}
use Rattle.xti_hall.specs.Words.{setting}
use Rattle.xti_hall.proofs.Opening.{first-fits}
use Rattle.xti_hall.proofs.hall.Hall.new.Goals as goal

pub new-requires : goal.new-requires
new-requires g c = let p : Setting = record { providers = c.args.p.now; cells = c.len.result; keeps = c.args.keeps } in let xs = c.args.cells.items in let many : vec_len c.args.cells ≡ length xs = search rules in
    let b : Boxed = c.in-Ok-empty.made in
    opens_with (g.C.Stands.stands p) p c.len-2.result xs c.as_slice.result.now c.push_reserved.new.self.items b (c.len-2.ensures ∙ sym c.len.ensures) (sym many ∙ sym c.len.ensures) (subst (λ (n : ℕ). StandInOrder g.C.Stands.stands (setting c.args.p.now n c.args.keeps) xs) (sym c.len.ensures) c.requires.stand) (search rules)
    (c.push_reserved.ensures.items ∙ ap (λ z. z ++ Some (Journal b) ∷ []) c.in-Ok-slots_of.ensures.slots) c.in-Ok-empty.ensures.log (ap (λ v. v.items) c.in-Ok-empty.ensures.marks ∙ c.in-Ok-first_marks.ensures)

pub invariant_of-result : goal.invariant_of-result
invariant_of-result g c = let p : Setting = record { providers = c.args.p.now; cells = c.len.result; keeps = c.args.keeps } in first-fits p c.in-Ok-new.pass.me c.in-Ok-new.ensures.ok.4

pub returns-in-Ok-new-clause-hall : goal.returns-in-Ok-new-clause-hall
returns-in-Ok-new-clause-hall g c = c.in-Ok-new.ensures.ok.5 ∙ ap (λ (n : ℕ). setting c.args.p.now n c.args.keeps) c.len.ensures

pub returns-in-Ok-new-clause-hall_of_seat : goal.returns-in-Ok-new-clause-hall_of_seat
returns-in-Ok-new-clause-hall_of_seat g c = c.in-Ok-new.ensures.ok.2

pub returns-in-Ok-new-clause-seat : goal.returns-in-Ok-new-clause-seat
returns-in-Ok-new-clause-seat g c = ap (λ m. m.0) c.in-Ok-new.ensures.ok.4 ∙ ap (λ (n : ℕ). newcomer (setting c.args.p.now n c.args.keeps)) c.len.ensures
