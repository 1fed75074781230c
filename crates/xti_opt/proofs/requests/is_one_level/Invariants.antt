use Rattle.std.proofs.Common.{◌≡◌, length, true}
use Rattle.std.specs.List.{list_all}
use Rattle.xti_base.specs.Options.{is_option_list, the_options}
use Rattle.xti_base.specs.Negotiation.{has_level, is_one_level}
use Rattle.xti_opt.proofs.requests.is_one_level.Given as goal

abbrev pub invariant-loop-option : goal.invariant-loop-option
invariant-loop-option l = (is_option_list l.rest ≡ true) × (list_all (has_level l.first.level) (the_options l.rest) ≡ is_one_level (the_options l.request))

abbrev pub decreases-loop-option : goal.decreases-loop-option
decreases-loop-option l = length l.rest
