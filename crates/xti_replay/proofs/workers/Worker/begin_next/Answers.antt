use Rattle.std.proofs.Common.{rules, ◌<◌, length, ap, sym, subst}
use Rattle.std.proofs.lemmas.Result.{on_ok_weaker}
use Rattle.xti_model.specs.Resolve.{with_numbers}
use Rattle.xti_replay.specs.Known.{meanings_before}
use Rattle.xti_replay.specs.Progress.{IsNext, begun_call}
use Rattle.xti_replay.proofs.Steps.{place-within, place-next, place-none}
use Rattle.xti_replay.proofs.workers.Worker.begin_next.Goals as goal

pub bounds-lines-place : goal.bounds-lines-place
bounds-lines-place c = place-within c.args.lines.now c.requires.told.0 c.requires.told.1 c.args.self.now _ c.requires.told.2 c.requires.whole (sym c.in-Some.ensures)

pub offset_bounds-lines-place : goal.offset_bounds-lines-place
offset_bounds-lines-place c =
    let lt : c.in-Some.place < length c.args.lines.now = bounds-lines-place c in
    search rules

pub returns-in-None : goal.returns-in-None
returns-in-None c = λ past number told setup. subst (IsNext c.args.lines.now past number) (sym (ap begun_call c.requires.none)) (place-none c.args.lines.now past number c.args.self.now told c.requires.whole (sym c.in-None.ensures))

pub returns-in-Some : goal.returns-in-Some
returns-in-Some c = on_ok_weaker c.call.result (λ begun past number told setup.
    subst (IsNext c.args.lines.now past number) (sym (ap begun_call begun))
    (place-next c.args.lines.now past number c.args.self.now c.args.setup.now _ c.index-lines-place.result _ told setup c.requires.whole (sym c.in-Some.ensures) c.index-lines-place.is
    (λ i. with_numbers (meanings_before c.in-Some.place c.args.self.now.names c.args.setup.now.names) c.index-lines-place.result.call))) c.call.ensures
