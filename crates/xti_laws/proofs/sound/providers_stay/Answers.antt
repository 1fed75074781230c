use Rattle.xti_laws.proofs.ProvidersStay.{opening-providers, step-providers, after-known}
use Rattle.xti_laws.proofs.sound.providers_stay.Goals as goal

pub returns-clause-start : goal.returns-clause-start
returns-clause-start c = opening-providers

pub returns-clause-step : goal.returns-clause-step
returns-clause-step c test p w d g a h s i = step-providers test p w d g s a h i

pub returns-clause-known : goal.returns-clause-known
returns-clause-known c = after-known
