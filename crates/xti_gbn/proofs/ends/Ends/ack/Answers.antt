use Rattle.std.proofs.Common.{◌≡◌, ◌∙◌, ◌+◌, sym, ap, subst, refl}
use Rattle.std.specs.Prelude.{codes}
use Rattle.xti_words.specs.WrittenWords.{number_word}
use Rattle.xti_gbn.specs.declared.events.LinkEvent.TheVariants.{Ack}
use Rattle.xti_gbn.specs.declared.ends.Ends.{Ends}
use Rattle.xti_gbn.specs.Ends.{Steps}
use Rattle.xti_gbn.proofs.EndSteps.{told, ack-none-steps, ack-some-steps}
use Rattle.xti_gbn.proofs.ends.Ends.ack.Goals as goal

pub returns-in_default-clause-steps : goal.returns-in_default-clause-steps
returns-in_default-clause-steps g c =
    told (λ line. Steps (Ack c.args.place) c.args.self.now line c.args.self.now) c.text_line.result (codes "none") c.text_line.ensures
    (ack-none-steps c.args.self.now c.args.place (sym c.in_default.ensures))

pub returns-clause-steps : goal.returns-clause-steps
returns-clause-steps g c =
    let old : Ends = c.args.self.now in
    let new : Ends = record old { sender = c.ack.new.self; carried = old.carried + 1 } in
    let there = sym c.in-Some.ensures ∙ ap (λ n. Rattle.std.proofs.Common.Some n) (sym c.in_ok-came.ensures.number) in
    told (λ line. Steps (Ack c.args.place) old line new) c.number_line.result (number_word (codes "base ") c.base.result) c.number_line.ensures
    (subst (λ n. Steps (Ack c.args.place) old (number_word (codes "base ") n) new) (sym c.base.ensures)
    (ack-some-steps old new c.args.place c.in_ok-came.came there c.ack.ensures.moves c.ack.ensures.stays refl))
