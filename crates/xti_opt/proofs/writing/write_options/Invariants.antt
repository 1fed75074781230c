use Rattle.std.proofs.Common.{◌≡◌, take}
use Rattle.xti_base.specs.Options.{options_bytes}
use Rattle.xti_opt.proofs.writing.write_options.Given as goal

abbrev pub invariant-loop-option : goal.invariant-loop-option
invariant-loop-option l = l.bytes.items ≡ options_bytes (take l.option-index l.options)
