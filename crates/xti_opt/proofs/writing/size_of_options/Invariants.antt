use Rattle.std.proofs.Common.{◌≡◌, length, take}
use Rattle.xti_base.specs.Options.{options_bytes}
use Rattle.xti_opt.proofs.writing.size_of_options.Given as goal

abbrev pub invariant-loop-option : goal.invariant-loop-option
invariant-loop-option l = l.size ≡ length (options_bytes (take l.option-index l.options))
