use Rattle.std.proofs.Common.{◌++◌, ◌∙◌, ap, sym, arith}
use Rattle.xti_base.specs.Options.{option_bytes}
use Rattle.xti_opt.proofs.Spelling.{options_bytes_more}
use Rattle.xti_opt.proofs.writing.write_options.Goals as goal

pub loop-option-preserved : goal.loop-option-preserved
loop-option-preserved c =
    let more = options_bytes_more c.as_slice-options.result.now c.loop-option.option-index c.option-item.result (omega arith) c.option-item.is in
    c.in_ok-write_option.ensures ∙ ap (λ l. l ++ option_bytes c.option-item.result) c.loop-option.invariant ∙ sym more
