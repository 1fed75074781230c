use Rattle.std.proofs.Common.{sym, subst}
use Rattle.xti_model.specs.Complete.{IsHistoryOf}
use Rattle.xti_calls.specs.Library.{providers_of}
use Rattle.xti_threads.proofs.Played.{set-up-stops}
use Rattle.xti_threads.proofs.playing.read_alone.Goals as goal

pub returns : goal.returns
returns g c =
    let e = c.end in
    subst (IsHistoryOf (providers_of c.args.xti) c.args._lines.now) (sym c.into_history.ensures) (set-up-stops e.result.view c.requires.setup e.ensures.looks e.ensures.standing)
