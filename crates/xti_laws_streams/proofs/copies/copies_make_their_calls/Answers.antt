use Rattle.xti_laws_streams.proofs.Calls.{makes-calls}
use Rattle.xti_laws_streams.proofs.copies.copies_make_their_calls.Goals as goal

pub returns : goal.returns
returns c input = makes-calls input
