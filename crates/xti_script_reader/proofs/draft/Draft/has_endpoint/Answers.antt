use Rattle.xti_model.specs.Resolve.{opens}
use Rattle.xti_script_reader.proofs.Workers.{defined_is}
use Rattle.xti_script_reader.proofs.draft.Draft.has_endpoint.Goals as goal

pub returns : goal.returns
returns c = defined_is opens _ _ _ _ _ _ c.self.invariant.endpoints c.self.view_is (rw c.as_slice.ensures.value at c.is_defined.ensures)
