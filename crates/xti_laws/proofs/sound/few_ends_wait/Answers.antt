use Rattle.xti_laws.proofs.FewEndsAfterCalls.{step-symbols}
use Rattle.xti_laws.proofs.FewEndsHistories.{opening-symbols, after-symbols}
use Rattle.xti_laws.proofs.sound.few_ends_wait.Goals as goal

pub returns : goal.returns
returns c = record {
  start = opening-symbols;
  step = λ p w d g b k h s i. step-symbols p w d g s b k h i;
  history = after-symbols;
}
