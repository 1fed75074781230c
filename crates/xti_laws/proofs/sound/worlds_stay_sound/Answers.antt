use Rattle.xti_laws.proofs.Beginning.{opening-sound}
use Rattle.xti_laws.proofs.SoundSteps.{step-sound, after-sound}
use Rattle.xti_laws.proofs.sound.worlds_stay_sound.Goals as goal

pub returns-clause-start : goal.returns-clause-start
returns-clause-start c = opening-sound

pub returns-clause-step : goal.returns-clause-step
returns-clause-step c p w d g v h s i = step-sound p w d g s v h i

pub returns-clause-history : goal.returns-clause-history
returns-clause-history c = after-sound
