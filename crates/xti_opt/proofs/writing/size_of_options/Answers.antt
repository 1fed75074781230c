use Rattle.std.proofs.Common.{IfNone, ℕ, Option, Some, None, ◌≤◌, ◌^◌, ◌+◌, ap, arith, length, length-append, take}
use Rattle.xti_base.specs.Options.{option_bytes, options_bytes}
use Rattle.xti_opt.proofs.Spelling.{options_bytes_more, options_bytes_front}
use Rattle.xti_opt.proofs.writing.size_of_options.Goals as goal

pub loop-option-preserved : goal.loop-option-preserved
loop-option-preserved c =
    let more = options_bytes_more c.args.options.now c.loop-option.option-index c.option-item.result (omega arith) c.option-item.is in
    let before = options_bytes (take c.loop-option.option-index c.args.options.now) in
    omega (arith, c.in_ok-size.ensures.1, ap length more, length-append before (option_bytes c.option-item.result))

if_none : (o : Option ℕ) (n : ℕ) → 2 ^ 64 ≤ n → IfNone o (2 ^ 64 ≤ n)
if_none None n h = h
if_none (Some size) n h = tt

pub returns-in_err-size-clause-none : goal.returns-in_err-size-clause-none
returns-in_err-size-clause-none c =
    let more = options_bytes_more c.args.options.now c.loop-option.option-index c.option-item.result (omega arith) c.option-item.is in
    let before = options_bytes (take c.loop-option.option-index c.args.options.now) in
    let front = options_bytes_front c.args.options.now (c.loop-option.option-index + 1) in
    if_none c.from_residual.result (length (options_bytes c.args.options.now))
    (omega (arith, c.in_err-size.ensures, ap length more, length-append before (option_bytes c.option-item.result), front))
