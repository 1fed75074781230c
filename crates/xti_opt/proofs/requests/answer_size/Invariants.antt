use Rattle.std.proofs.Common.{◌≡◌, ◌≤◌, ◌+◌, ◌*◌, length, true}
use Rattle.xti_base.specs.Options.{is_option_list, options_bytes, the_options}
use Rattle.xti_base.specs.Negotiation.{Settings, negotiate}
use Rattle.xti_opt.proofs.requests.answer_size.Given as goal

-- what is left makes up the size, and each option takes 16 bytes for at most 20
abbrev pub invariant-loop-option : goal.invariant-loop-option
invariant-loop-option l =
    (is_option_list l.rest ≡ true) ×
    ((s : Settings) → l.size + length (options_bytes (negotiate s l.action (the_options l.rest)).options) ≡ length (options_bytes (negotiate s l.action (the_options l.request)).options)) ×
    (16 * l.size + 20 * length l.rest ≤ 20 * length l.request)

abbrev pub decreases-loop-option : goal.decreases-loop-option
decreases-loop-option l = length l.rest
