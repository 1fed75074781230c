use Rattle.xti_laws.proofs.ProgressOfSteps.{progress}
use Rattle.xti_laws.proofs.sound.steps_tell_progress.Goals as goal

pub returns : goal.returns
returns c = record { progress = progress }
