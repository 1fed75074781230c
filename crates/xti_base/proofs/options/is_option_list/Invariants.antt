use Rattle.std.proofs.Common.{◌≡◌, length}
use Rattle.xti_base.specs.Options.{is_option_list}
use Rattle.xti_base.proofs.options.is_option_list.Given as goal

abbrev pub invariant-loop-rest : goal.invariant-loop-rest
invariant-loop-rest l = is_option_list l.rest ≡ is_option_list l.bytes

abbrev pub decreases-loop-rest : goal.decreases-loop-rest
decreases-loop-rest l = length l.rest
