use Rattle.tpi_grammar.proofs.FrameLists.{bad_frame, cut_frame, one_more, one_reading, never_both, one_place}
use Rattle.tpi_grammar.proofs.laws.frames_law.Goals as goal

pub returns-clause-bad_frame : goal.returns-clause-bad_frame
returns-clause-bad_frame c = bad_frame

pub returns-clause-cut_frame : goal.returns-clause-cut_frame
returns-clause-cut_frame c = cut_frame

pub returns-clause-one_more : goal.returns-clause-one_more
returns-clause-one_more c = one_more

pub returns-clause-one_reading : goal.returns-clause-one_reading
returns-clause-one_reading c = one_reading

pub returns-clause-never_both : goal.returns-clause-never_both
returns-clause-never_both c = never_both

pub returns-clause-one_place : goal.returns-clause-one_place
returns-clause-one_place c = one_place
