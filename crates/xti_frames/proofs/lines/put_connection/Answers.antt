use Rattle.xti_frames.proofs.Joined.{joined_and}
use Rattle.xti_frames.proofs.lines.put_connection.Goals as goal

pub returns-in-T_CONN_RES : goal.returns-in-T_CONN_RES
returns-in-T_CONN_RES c = rw c.in-T_CONN_RES.is (joined_and _ _ _ _ _ _ _ _ c.and-in-T_CONN_RES-4.ensures (joined_and _ _ _ _ _ _ _ _ c.and-in-T_CONN_RES-3.ensures (joined_and _ _ _ _ _ _ _ _ c.and-in-T_CONN_RES-2.ensures (joined_and _ _ _ _ _ _ _ _ c.and-in-T_CONN_RES.ensures c.put_name.ensures c.put_field.ensures) c.put_part.ensures) c.put_field-in-T_CONN_RES.ensures) c.put_user-in-T_CONN_RES.ensures)

pub returns-in-T_DISCON_REQ : goal.returns-in-T_DISCON_REQ
returns-in-T_DISCON_REQ c = rw c.in-T_DISCON_REQ.is (joined_and _ _ _ _ _ _ _ _ c.and-in-T_DISCON_REQ-2.ensures (joined_and _ _ _ _ _ _ _ _ c.and-in-T_DISCON_REQ.ensures c.put_name-in-T_DISCON_REQ.ensures c.put_field-in-T_DISCON_REQ.ensures) c.put_user-in-T_DISCON_REQ.ensures)

pub returns-in-T_CONN_IND : goal.returns-in-T_CONN_IND
returns-in-T_CONN_IND c = rw c.in-T_CONN_IND.is (joined_and _ _ _ _ _ _ _ _ c.and-in-T_CONN_IND-2.ensures (joined_and _ _ _ _ _ _ _ _ c.and-in-T_CONN_IND.ensures c.put_parts-in-T_CONN_IND.ensures c.put_field-in-T_CONN_IND.ensures) c.put_user-in-T_CONN_IND.ensures)

pub returns-in-T_DISCON_IND : goal.returns-in-T_DISCON_IND
returns-in-T_DISCON_IND c = rw c.in-T_DISCON_IND.is (joined_and _ _ _ _ _ _ _ _ c.and-in-T_DISCON_IND-3.ensures (joined_and _ _ _ _ _ _ _ _ c.and-in-T_DISCON_IND-2.ensures (joined_and _ _ _ _ _ _ _ _ c.and-in-T_DISCON_IND.ensures c.put_name-in-T_DISCON_IND.ensures c.put_field-in-T_DISCON_IND.ensures) c.put_field-in-T_DISCON_IND-2.ensures) c.put_user-in-T_DISCON_IND.ensures)

pub returns-in-T_ORDREL_IND : goal.returns-in-T_ORDREL_IND
returns-in-T_ORDREL_IND c = rw c.in-T_ORDREL_IND.is c.put_without_words-in-T_ORDREL_IND.ensures
