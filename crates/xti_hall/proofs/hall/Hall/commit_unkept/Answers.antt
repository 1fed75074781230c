use Rattle.std.proofs.Common.{◌≡◌, ◌<◌, ap, sym, subst, ◌∙◌}
use Rattle.xti_model.specs.declared.entry.Entry.{Entry}
use Rattle.xti_hall_rule.specs.declared.setting.Setting.{Setting}
use Rattle.xti_hall_rule.specs.declared.view.Journal.{Journal}
use Rattle.xti_hall_rule.specs.declared.view.Mark.TheVariants.{Free}
use Rattle.xti_hall_rule.specs.declared.view.View.{View}
use Rattle.xti_hall_rule.specs.Rule.{HasLog, mark_of}
use Rattle.xti_hall_rule.specs.Steps.{Commits, Marked}
use Rattle.xti_hall.specs.Records.{kept_in}
use Rattle.xti_hall.specs.Seats.{Writes, taken_in}
use Rattle.xti_hall.proofs.Adding.{adds-unkept, shown-step}
use Rattle.xti_hall.proofs.Freed.{mark-set, marked-with}
use Rattle.xti_hall.proofs.hall.Hall.commit_unkept.Goals as goal

pub append-requires-clause-log : goal.append-requires-clause-log
append-requires-clause-log g c =
    let d = c.deref_mut.ensures.value in let d2 = c.deref_mut-2.ensures.value in let d3 = c.deref_mut-3.ensures.value in
    let pen = c.requires.pen in
    adds-unkept c.args.seat.now.view c.args.pen c.deref_mut.result.now c.deref_mut-3.result.now _ (subst (λ (z : Journal). HasLog c.args.pen.setting z c.args.pen.history) (sym d) c.into_journal-journal.ensures.journal.0) pen.1 pen.3 (ap (λ (z : Setting). z.keeps) c.requires.hall.1 ∙ c.requires.keeps)
    (ap (λ (z : Journal). z.length) d3 ∙ ap (λ (z : Journal). z.length) d2) (ap kept_in d3 ∙ ap kept_in d2)

pub append-requires-clause-marks : goal.append-requires-clause-marks
append-requires-clause-marks g c =
    let is = ap (λ s. s.view) c.seat.view_is in
    let same : c.deref_mut-2.result.now.marks.items ≡ c.args.seat.now.view.marks = ap (λ (z : Journal). z.marks.items) c.deref_mut-2.ensures.value ∙ (ap (λ (z : Journal). z.marks.items) c.deref_mut.ensures.value ∙ (sym c.into_journal-journal.ensures.journal.1 ∙ c.requires.pen.4)) in
    subst (Marked c.args.seat.now.view) (sym (ap (λ (z : Journal). z.marks.items) c.deref_mut-3.ensures.value)) (marked-with c.args.seat.now.view c.deref_mut-2.result.now.marks.items c.seat.inside.number Free (c.seat.invariant.2 ∙ ap (λ (z : View). z.number) is) (subst (λ (z : View). z.number < 33) is c.seat.invariant.1.small) c.requires.holds.many same tt)

pub append-requires-clause-freed : goal.append-requires-clause-freed
append-requires-clause-freed g c =
    let is = ap (λ s. s.view) c.seat.view_is in
    let same : c.deref_mut-2.result.now.marks.items ≡ c.args.seat.now.view.marks = ap (λ (z : Journal). z.marks.items) c.deref_mut-2.ensures.value ∙ (ap (λ (z : Journal). z.marks.items) c.deref_mut.ensures.value ∙ (sym c.into_journal-journal.ensures.journal.1 ∙ c.requires.pen.4)) in
    ap (λ (z : Journal). mark_of z.marks.items c.args.seat.now.view.number) c.deref_mut-3.ensures.value ∙ mark-set c.args.seat.now.view c.deref_mut-2.result.now.marks.items c.seat.inside.number Free (c.seat.invariant.2 ∙ ap (λ (z : View). z.number) is) (subst (λ (z : View). z.number < 33) is c.seat.invariant.1.small) c.requires.holds.many same

pub append-requires-clause-entry : goal.append-requires-clause-entry
append-requires-clause-entry g c = subst (Commits c.args.seat.now.view) (shown-step c.args.seat.now.view c.args.step c.number.result c.of.result.value c.of-2.result.value c.number.ensures.number c.of.ensures c.of-2.ensures) c.requires.entry

pub append-requires-clause-unfinished : goal.append-requires-clause-unfinished
append-requires-clause-unfinished g c = c.taken_in-unfinished.ensures ∙ ap taken_in (sym c.of-2.ensures)

pub returns-clause-view : goal.returns-clause-view
returns-clause-view g c = subst (λ (e : Entry). Writes c.args.seat.now.view e c.append.new.seat.view) (sym (shown-step c.args.seat.now.view c.args.step c.number.result c.of.result.value c.of-2.result.value c.number.ensures.number c.of.ensures c.of-2.ensures)) c.append.ensures.view
