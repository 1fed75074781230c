use Rattle.std.proofs.Common.{◌≡◌, ◌++◌, length, true}
use Rattle.xti_base.specs.Options.{is_option_list, the_options}
use Rattle.xti_opt.proofs.reading.read_whole.Given as goal

abbrev pub invariant-loop-size : goal.invariant-loop-size
invariant-loop-size l = (is_option_list l.rest ≡ true) × (l.list ++ the_options l.rest ≡ the_options l.bytes)

abbrev pub decreases-loop-size : goal.decreases-loop-size
decreases-loop-size l = length l.rest
