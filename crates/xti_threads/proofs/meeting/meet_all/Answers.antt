use Rattle.std.proofs.Common.{sym, subst, ap, ◌∙◌}
use Rattle.xti_model.specs.Complete.{IsHistoryOf}
use Rattle.xti_hall.specs.Seats.{SeatView}
use Rattle.xti_calls.specs.Library.{providers_of}
use Rattle.xti_threads.proofs.Meetings.{played-looks}
use Rattle.xti_threads.proofs.meeting.meet_all.Goals as goal

pub meet_main-requires : goal.meet_main-requires
meet_main-requires g c =
    let e = c.end-ended in
    (c.args.xti, played-looks c.args.main e.result c.requires.played e.ensures.seat e.ensures.looks e.ensures.standing)

pub returns : goal.returns
returns g c =
    let e = c.end-ended in
    let played = played-looks c.args.main e.result c.requires.played e.ensures.seat e.ensures.looks e.ensures.standing in
    let ended = c.into_history.ensures ∙ ap (λ (s : SeatView). s.view.seen) c.meet_main.ensures.same in
    subst (IsHistoryOf (providers_of c.args.xti) c.args.lines.now) (sym ended) (c.meet_main.ensures.history c.args.xti played)
