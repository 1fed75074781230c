use Rattle.xti_frames.proofs.Joined.{joined_and}
use Rattle.xti_frames.proofs.lines.put_flagged.Goals as goal

pub returns : goal.returns
returns c = joined_and _ _ _ _ _ _ _ _ c.and-2.ensures (joined_and _ _ _ _ _ _ _ _ c.and.ensures c.put_name.ensures c.put_flag.ensures) c.put_user.ensures
