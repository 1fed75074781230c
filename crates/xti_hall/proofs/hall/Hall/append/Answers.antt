use Rattle.std.proofs.Common.{arith, ap, sym, ◌∙◌, ℕ, ◌+◌, subst, length, length-append, ◌++◌, ◌∷◌, []}
use Rattle.xti_hall_rule.specs.declared.view.View.{View}
use Rattle.atomic_table.specs.Table.{rest}
use Rattle.xti_hall_rule.specs.declared.view.Mark.{Mark}
use Rattle.xti_hall_rule.specs.Rule.{mark_of}
use Rattle.xti_hall_rule.specs.Steps.{Commits, committed, without_pen, shown}
use Rattle.xti_hall.proofs.Freed.{one_more, mine_length}
use Rattle.xti_hall.proofs.Unfinished.{unfinished-more}
use Rattle.xti_hall.proofs.Committing.{after-commit}
use Rattle.xti_hall.proofs.hall.Hall.append.Goals as goal

pub write-requires-clause-entry : goal.write-requires-clause-entry
write-requires-clause-entry g c = subst (λ (z : View). Commits z (shown c.args.entry)) (sym (ap (λ s. s.view) c.seat.view_is)) c.requires.entry

pub overflow_add-seat : goal.overflow_add-seat
overflow_add-seat g c = let v : View = c.args.seat.now.view in let is = ap (λ s. s.view) c.seat.view_is in let inv = c.seat.invariant in
    let numbered = ap (λ (z : View). z.numbered) (sym is) ∙ inv.1.numbered in
    let few = mine_length v (c.requires.holds.mine numbered) in
    let steps = inv.4 ∙ ap (λ (z : View). length z.mine) is in
    let long = c.requires.log.0 in let more = length-append v.history (shown c.args.entry ∷ []) in let top = c.length-length.type_inv in let is = c.length-length.ensures in omega (arith, few, steps, long, more, top, is)

pub invariant_of-seat : goal.invariant_of-seat
invariant_of-seat g c = let v : View = c.args.seat.now.view in let is = ap (λ s. s.view) c.seat.view_is in let inv = c.seat.invariant in
    let numbered = ap (λ (z : View). z.numbered) (sym is) ∙ inv.1.numbered in
    let mine = c.requires.holds.mine numbered in
    let mark : Mark = mark_of c.args.journal.value.marks.items c.seat.inside.pass.me.0.number in
    let new = c.write.ensures.view ∙ ap (λ (z : View). (without_pen (committed c.seat.inside.pass.me.0 (z.history ++ shown c.args.entry ∷ [])) mark, rest c.seat.inside.pass.me.1)) is in
    after-commit v c.seat.inside.pass.me c.write.new.pass.me mark (shown c.args.entry) _ _ _ _ is new inv.1 inv.0 (ap (λ (z : View). z.journal) is ∙ c.requires.holds.journal) c.requires.holds c.requires.entry inv.6.numbered inv.6.below inv.2 inv.3
    (ap (λ (z : ℕ). z + 1) (inv.4 ∙ ap (λ (z : View). length z.mine) is) ∙ sym (one_more v (shown c.args.entry) mine c.requires.entry)) (c.requires.unfinished ∙ unfinished-more v (shown c.args.entry) mine c.requires.entry)

pub returns-clause-standing : goal.returns-clause-standing
returns-clause-standing g c = let v : View = c.args.seat.now.view in let is = ap (λ s. s.view) c.seat.view_is in let inv = c.seat.invariant in
    let numbered = ap (λ (z : View). z.numbered) (sym is) ∙ inv.1.numbered in
    let mine = c.requires.holds.mine numbered in
    let mark : Mark = mark_of c.args.journal.value.marks.items c.seat.inside.pass.me.0.number in
    let new = c.write.ensures.view ∙ ap (λ (z : View). (without_pen (committed c.seat.inside.pass.me.0 (z.history ++ shown c.args.entry ∷ [])) mark, rest c.seat.inside.pass.me.1)) is in
    (after-commit v c.seat.inside.pass.me c.write.new.pass.me mark (shown c.args.entry) _ _ _ _ is new inv.1 inv.0 (ap (λ (z : View). z.journal) is ∙ c.requires.holds.journal) c.requires.holds c.requires.entry inv.6.numbered inv.6.below inv.2 inv.3
    (ap (λ (z : ℕ). z + 1) (inv.4 ∙ ap (λ (z : View). length z.mine) is) ∙ sym (one_more v (shown c.args.entry) mine c.requires.entry)) (c.requires.unfinished ∙ unfinished-more v (shown c.args.entry) mine c.requires.entry)).6
