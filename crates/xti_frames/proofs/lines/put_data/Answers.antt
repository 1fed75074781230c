use Rattle.xti_frames.proofs.Joined.{joined_and}
use Rattle.xti_frames.proofs.lines.put_data.Goals as goal

pub returns-in-T_UDERROR_IND : goal.returns-in-T_UDERROR_IND
returns-in-T_UDERROR_IND c = rw c.in-T_UDERROR_IND.is (joined_and _ _ _ _ _ _ _ _ c.and-in-T_UDERROR_IND.ensures c.put_parts-in-T_UDERROR_IND.ensures c.put_field.ensures)
