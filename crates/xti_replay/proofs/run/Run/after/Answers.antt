use Rattle.std.proofs.Common.{◌≡◌, ◌∙◌, List, [], length, true, false, ap, sym, subst, arith}
use Rattle.std.proofs.lemmas.Bool.{eqb-true}
use Rattle.std.proofs.lemmas.List.{nil_from_length}
use Rattle.xti_core.specs.Standing.{Standing}
use Rattle.xti_model.specs.declared.profile.Providers.{Providers}
use Rattle.xti_model.specs.declared.script.Line.{Line}
use Rattle.xti_model.specs.World.{World}
use Rattle.xti_model.specs.History.{after}
use Rattle.xti_model.specs.Robin.{is_through, last_worker, robin_from, most_steps}
use Rattle.xti_replay.specs.declared.run.Run.{Run}
use Rattle.xti_replay.specs.Progress.{AreKept}
use Rattle.xti_replay.specs.Runs.{StandsAfter}
use Rattle.xti_replay.specs.Stalls.{gone_on}
use Rattle.xti_replay.proofs.SetupAsked.{first-through}
use Rattle.xti_replay.proofs.WholeRuns.{history-last, history-setup, same-end}
use Rattle.xti_replay.proofs.run.Run.after.Goals as goal
use Rattle.xti_replay.proofs.run.Run.after.Goals.{then-is_finished, else-is_finished, then-not-done+in_ok-go_through, else-not-done}

pub turns_after-requires-clause-last : goal.turns_after-requires-clause-last
turns_after-requires-clause-last c = history-last c.args.s.now.providers c.args.s.now.lines c.args.history.now c.requires.history

pub returns : goal.returns
unfolding gone_on
returns c =
    let s = c.args.s.now in
    let past = c.args.history.now in
    let lines : c.as_slice-lines.result.now ≡ s.lines = c.as_slice-lines.ensures in
    let fresh = ap (λ (x : Standing). x.providers) c.in_ok-world.ensures in
    let run : Run = record { alloc = c.args.alloc; lines = c.as_slice-lines.result; world = c.if-not-done.world; workers = c.in_ok-workers.workers; turns = c.in_ok-turns.turns; entry = c.blank.result; made = false } in
    let stands : StandsAfter past run = record {
      kept = c.in_ok-workers.ensures;
      turns = c.in_ok-turns.ensures c.as_slice-lines.result.now (subst (AreKept c.as_slice-lines.result.now past) (sym c.as_slice.ensures.value) c.in_ok-workers.ensures);
      last = history-last s.providers s.lines past c.requires.history;
      setup = subst (λ (ls : List Line). is_through ls past 0 ≡ false → last_worker 0 past ≡ 0) (sym lines) (history-setup s.providers s.lines past c.requires.history);
    } in
    let ended : c.if-is_finished.done ≡ true → (is_through c.as_slice-lines.result.now past 0 ≡ true) × (c.in_ok-turns.turns.items ≡ []) = λ done.
    elim c.if-is_finished.branch [
      | then-is_finished w ↦
          let zero : c.in_ok-turns.turns.len ≡ 0 = eqb-true c.in_ok-turns.turns.len 0 (sym w.is_empty-done.ensures ∙ sym w.done-is ∙ done) in
          let none : length c.in_ok-turns.turns.items ≡ 0 = omega arith in
          (sym (first-through past run c.index.result.now stands c.index.ensures) ∙ sym c.is_finished.ensures ∙ w.if-is_finished.true, nil_from_length c.in_ok-turns.turns.items none)
      | else-is_finished w ↦ absurd (let no : true ≡ false = sym done ∙ w.done-is ∙ w.if-is_finished.false in cc)
    ] in
    let world : (c.if-not-done.world.providers ≡ s.providers) × (robin_from s.providers s.lines most_steps c.if-not-done.world.cells past ≡ robin_from s.providers s.lines most_steps (after s.providers past) past) =
    elim c.if-not-done.branch [
      | then-not-done+in_ok-go_through w ↦ (
        ap (λ (x : Standing). x.providers) w.world-is ∙ w.in_ok-go_through.ensures.providers ∙ fresh,
        ap (λ (v : World). robin_from s.providers s.lines most_steps v past) (ap (λ (x : Standing). x.cells) w.world-is ∙ w.in_ok-go_through.ensures.cells ∙ ap (λ (p : Providers). after p past) fresh),
      )
      | else-not-done w ↦
          let end = ended w.if-not-done.false in
          (ap (λ (x : Standing). x.providers) w.world-is ∙ fresh, same-end s.providers s.lines most_steps c.if-not-done.world.cells (after s.providers past) past run stands lines end.0 end.1)
    ] in
    record { stands = stands; lines = lines; providers = world.0; left = world.1 }
