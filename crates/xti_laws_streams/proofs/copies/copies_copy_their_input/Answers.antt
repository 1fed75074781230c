use Rattle.xti_laws_streams.proofs.Streams.{sent-is, got-is, one-connection}
use Rattle.xti_laws_streams.proofs.copies.copies_copy_their_input.Goals as goal

pub returns-clause-one : goal.returns-clause-one
returns-clause-one c input = one-connection input

pub returns-clause-sent : goal.returns-clause-sent
returns-clause-sent c input = sent-is input

pub returns-clause-got : goal.returns-clause-got
returns-clause-got c input = got-is input
