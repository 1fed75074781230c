use Rattle.xti_queue.proofs.Indicated.{flag_ends, datagram_ends}
use Rattle.xti_queue.proofs.front.ends.Goals as goal

pub returns-in-T_DATA_IND : goal.returns-in-T_DATA_IND
returns-in-T_DATA_IND c = flag_ends c.args.frame.now c.more.result c.requires c.more.ensures

pub returns-in_default : goal.returns-in_default
returns-in_default c = datagram_ends c.args.frame.now c.kind.result c.requires c.kind.ensures c.in_default.not-T_DATA_IND c.in_default.not-T_EXDATA_IND
