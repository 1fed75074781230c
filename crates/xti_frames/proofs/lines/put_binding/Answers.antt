use Rattle.xti_frames.proofs.Joined.{joined_and}
use Rattle.xti_frames.proofs.lines.put_binding.Goals as goal

pub returns-in-T_ERROR_ACK : goal.returns-in-T_ERROR_ACK
returns-in-T_ERROR_ACK c = rw c.in-T_ERROR_ACK.is (joined_and _ _ _ _ _ _ _ _ c.and-in-T_ERROR_ACK-3.ensures (joined_and _ _ _ _ _ _ _ _ c.and-in-T_ERROR_ACK-2.ensures (joined_and _ _ _ _ _ _ _ _ c.and-in-T_ERROR_ACK.ensures c.put_name-in-T_ERROR_ACK.ensures c.put_field-in-T_ERROR_ACK.ensures) c.put_field-in-T_ERROR_ACK-2.ensures) c.put_field-in-T_ERROR_ACK-3.ensures)

pub returns-in-T_OK_ACK : goal.returns-in-T_OK_ACK
returns-in-T_OK_ACK c = rw c.in-T_OK_ACK.is (joined_and _ _ _ _ _ _ _ _ c.and-in-T_OK_ACK.ensures c.put_name-in-T_OK_ACK.ensures c.put_field-in-T_OK_ACK.ensures)
