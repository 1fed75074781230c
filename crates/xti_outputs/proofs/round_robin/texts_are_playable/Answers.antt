use Rattle.xti_outputs.proofs.Playable.{lines-playable}
use Rattle.xti_outputs.proofs.round_robin.texts_are_playable.Goals as goal

pub returns : goal.returns
returns c = λ s has. record {
  providers = c.scripts_have_valid_providers.ensures s has;
  lines = lines-playable s.lines (c.scripts_have_workers.ensures s has);
  bound = c.scripts_are_small.ensures s has;
}
