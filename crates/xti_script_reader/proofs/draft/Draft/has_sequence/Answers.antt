use Rattle.xti_model.specs.Resolve.{listens}
use Rattle.xti_script_reader.proofs.Workers.{defined_is}
use Rattle.xti_script_reader.proofs.draft.Draft.has_sequence.Goals as goal

pub returns : goal.returns
returns c = defined_is listens _ _ _ _ _ _ c.self.invariant.sequences c.self.view_is (rw c.as_slice.ensures.value at c.is_defined.ensures)
