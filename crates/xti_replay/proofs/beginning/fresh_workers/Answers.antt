use Rattle.std.proofs.Common.{◌≡◌, ◌<◌, ◌+◌, length, take, set, get_or, sym, subst, refl}
use Rattle.std.proofs.lemmas.Option.{slice_get_read}
use Rattle.xti_base.specs.declared.limits.TheConstants.{WORKERS}
use Rattle.xti_model.specs.declared.script.Line.{Line}
use Rattle.xti_replay.specs.Progress.{AreFresh}
use Rattle.xti_replay.proofs.Lines.{playable-line, line-worker}
use Rattle.xti_replay.proofs.Fresh.{fresh-handed}
use Rattle.xti_replay.proofs.beginning.fresh_workers.Goals as goal

pub loop-place-preserved : goal.loop-place-preserved
loop-place-preserved c =
    let line = c.index-lines-place.result in
    let lines = c.args.lines.now in
    let place = c.loop-place.place in
    let ws = c.loop-place.workers.items in
    let w = c.index_mut-worker.result.now in
    let lt : place < length lines = c.loop-place-test.true in
    let small : line.worker < WORKERS = line-worker line (playable-line lines place line c.requires (slice_get_read lines (length lines) place line refl lt c.index-lines-place.is)) in
    let is : w ≡ get_or ws line.worker w = subst (λ (l : Line). w ≡ get_or ws l.worker w) (sym c.index-lines-place.is) c.index_mut-worker.ensures.value in
    subst (λ (l : Line). AreFresh (take (place + 1) lines) (set ws l.worker c.hand.new.self)) c.index-lines-place.is
    (fresh-handed lines place ws line w c.hand.new.self c.loop-place.invariant lt c.index-lines-place.is small is c.in_ok-hand.ensures.places c.hand.ensures.others.0 c.hand.ensures.others.1 c.hand.ensures.others.2 c.hand.ensures.others.3)
