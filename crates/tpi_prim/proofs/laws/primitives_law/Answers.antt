use Rattle.tpi_prim.proofs.FrameReads.{each_filled, spelled_by, reads_back, kind_of-primitive_in}
use Rattle.tpi_prim.proofs.laws.primitives_law.Goals as goal

pub returns-clause-rows : goal.returns-clause-rows
returns-clause-rows c = each_filled

pub returns-clause-frames : goal.returns-clause-frames
returns-clause-frames c = spelled_by

pub returns-clause-only : goal.returns-clause-only
returns-clause-only c = reads_back

pub returns-clause-kinds : goal.returns-clause-kinds
returns-clause-kinds c = kind_of-primitive_in
