use Rattle.std.proofs.Common.{rules, subst, sym, ◌∙◌, ◌<◌, ◌≤◌, ℕ, length, ap, refl}
use Rattle.xti_hall_rule.specs.declared.view.Journal.{Journal}
use Rattle.xti_hall_rule.specs.declared.view.View.{View}
use Rattle.xti_hall_rule.specs.declared.view.Mark.TheVariants.{Free, Resting, Waiting}
use Rattle.xti_hall.proofs.Looking.{looks-back, still-blocked, wait-fits}
use Rattle.xti_hall.proofs.Stalls.{is_stall}
use Rattle.xti_hall.proofs.hall.Hall.look_once.Goals as goal

pub give_marked-requires-clause-hall : goal.give_marked-requires-clause-hall
give_marked-requires-clause-hall g c = let l = c.look-journal.ensures in (l.hall.0 ∙ c.requires.hall.0, ap (λ (z : View). z.setting) l.look ∙ c.requires.hall.1)

pub give_marked-requires-clause-marks : goal.give_marked-requires-clause-marks
give_marked-requires-clause-marks g c = sym (ap (λ (z : View). z.marks) c.look-journal.ensures.look)

pub returns-then-deref-at-clause-setting : goal.returns-then-deref-at-clause-setting
returns-then-deref-at-clause-setting g c = let l = c.look-journal.ensures in
    (looks-back c.args.seat.now.view c.look-journal.new.seat.view c.give_marked.new.seat.view c.look-journal.result.value Free l.look l.holds.0 c.give_marked.ensures.view c.requires.free).setting

pub returns-then-deref-at-clause-sight : goal.returns-then-deref-at-clause-sight
returns-then-deref-at-clause-sight g c = let l = c.look-journal.ensures in let back = c.give_marked.ensures.view in (
  subst (λ (n : ℕ). c.args.at < n) (l.log.0 ∙ ap (λ (z : View). length z.seen) (sym back)) (subst (λ (j : Journal). c.args.at < j.length) c.deref.ensures c.if-deref-at.true),
  ap (λ (z : View). z.mark) back,
)

pub returns-then-deref-at-clause-looks : goal.returns-then-deref-at-clause-looks
returns-then-deref-at-clause-looks g c = let l = c.look-journal.ensures in
    looks-back c.args.seat.now.view c.look-journal.new.seat.view c.give_marked.new.seat.view c.look-journal.result.value Free l.look l.holds.0 c.give_marked.ensures.view c.requires.free

pub returns-then-deref-at-clause-want : goal.returns-then-deref-at-clause-want
returns-then-deref-at-clause-want g c = let l = c.look-journal.ensures in
    still-blocked c.args.seat.now.view c.give_marked.new.seat.view c.args.at c.args.want
    (looks-back c.args.seat.now.view c.look-journal.new.seat.view c.give_marked.new.seat.view c.look-journal.result.value Free l.look l.holds.0 c.give_marked.ensures.view c.requires.free)
    c.requires.want

pub give_resting-requires-clause-hall : goal.give_resting-requires-clause-hall
give_resting-requires-clause-hall g c = let l = c.look-journal.ensures in (l.hall.0 ∙ c.requires.hall.0, ap (λ (z : View). z.setting) l.look ∙ c.requires.hall.1)

pub give_resting-requires-clause-marks : goal.give_resting-requires-clause-marks
give_resting-requires-clause-marks g c = sym (ap (λ (z : View). z.marks) c.look-journal.ensures.look)

pub returns-then-all_settled-clause-setting : goal.returns-then-all_settled-clause-setting
returns-then-all_settled-clause-setting g c = let l = c.look-journal.ensures in
    (looks-back c.args.seat.now.view c.look-journal.new.seat.view c.give_resting.new.seat.view c.look-journal.result.value Resting l.look l.holds.0 c.give_resting.ensures.view c.requires.free).setting

pub returns-then-all_settled-clause-sight : goal.returns-then-all_settled-clause-sight
returns-then-all_settled-clause-sight g c =
    let l = c.look-journal.ensures in
    let back = c.give_resting.ensures.view in (
      is_stall c.args.seat.now.view c.look-journal.new.seat.view c.give_resting.new.seat.view c.look-journal.new.seat.view.history c.look-journal.result.value.marks.items c.args.want c.args.at c.look-journal.result.value.length c.waiting.result c.resting.result l.look l.holds.0 l.holds.1 (c.requires.set c.if-set.true) c.requires.want.0 (l.log.0) (subst (λ (j : Journal). j.length ≤ c.args.at) c.deref.ensures c.if-deref-at.false) (search rules) (search rules) (search rules) back,
      refl,
      ap (λ (z : View). z.mark) back,
    )

pub returns-then-all_settled-clause-looks : goal.returns-then-all_settled-clause-looks
returns-then-all_settled-clause-looks g c = let l = c.look-journal.ensures in
    looks-back c.args.seat.now.view c.look-journal.new.seat.view c.give_resting.new.seat.view c.look-journal.result.value Resting l.look l.holds.0 c.give_resting.ensures.view c.requires.free

pub returns-then-all_settled-clause-want : goal.returns-then-all_settled-clause-want
returns-then-all_settled-clause-want g c = let l = c.look-journal.ensures in
    still-blocked c.args.seat.now.view c.give_resting.new.seat.view c.args.at c.args.want
    (looks-back c.args.seat.now.view c.look-journal.new.seat.view c.give_resting.new.seat.view c.look-journal.result.value Resting l.look l.holds.0 c.give_resting.ensures.view c.requires.free)
    c.requires.want

pub give_waiting-requires-clause-hall : goal.give_waiting-requires-clause-hall
give_waiting-requires-clause-hall g c = let l = c.look-journal.ensures in (l.hall.0 ∙ c.requires.hall.0, ap (λ (z : View). z.setting) l.look ∙ c.requires.hall.1)

pub give_waiting-requires-clause-marks : goal.give_waiting-requires-clause-marks
give_waiting-requires-clause-marks g c = sym (ap (λ (z : View). z.marks) c.look-journal.ensures.look)

pub give_waiting-requires-clause-mark : goal.give_waiting-requires-clause-mark
give_waiting-requires-clause-mark g c = let l = c.look-journal.ensures in
    wait-fits c.args.seat.now.view c.look-journal.new.seat.view c.look-journal.result.value c.args.at c.args.want l.look l.holds.0 c.requires.want

pub returns-clause-setting : goal.returns-clause-setting
returns-clause-setting g c = let l = c.look-journal.ensures in
    (looks-back c.args.seat.now.view c.look-journal.new.seat.view c.give_waiting.new.seat.view c.look-journal.result.value (Waiting c.args.want c.args.at) l.look l.holds.0 c.give_waiting.ensures.view c.requires.free).setting

pub returns-clause-looks : goal.returns-clause-looks
returns-clause-looks g c = let l = c.look-journal.ensures in
    looks-back c.args.seat.now.view c.look-journal.new.seat.view c.give_waiting.new.seat.view c.look-journal.result.value (Waiting c.args.want c.args.at) l.look l.holds.0 c.give_waiting.ensures.view c.requires.free

pub returns-clause-want : goal.returns-clause-want
returns-clause-want g c = let l = c.look-journal.ensures in
    still-blocked c.args.seat.now.view c.give_waiting.new.seat.view c.args.at c.args.want
    (looks-back c.args.seat.now.view c.look-journal.new.seat.view c.give_waiting.new.seat.view c.look-journal.result.value (Waiting c.args.want c.args.at) l.look l.holds.0 c.give_waiting.ensures.view c.requires.free)
    c.requires.want
