use Rattle.std.proofs.Common.{rules, codes, option_map, ◌≡◌, ◌∙◌}
use Rattle.clap.specs.Words.{first_of, found_of, rows_of}
use Rattle.clap.proofs.WalkLemmas.{first_value-rows}
use Rattle.xti_command.proofs.command.matched.Goals as goal

pub returns-in_err-word : goal.returns-in_err-word
returns-in_err-word c =
    let f = found_of c.args.matches.now in
    let word : option_map (λ s. s.now) c.get_str.result ≡ first_of (codes "command") (rows_of f) = c.get_str.ensures ∙ first_value-rows f (codes "command") in
    rw (← word) (search rules)

pub returns : goal.returns
returns c =
    let f = found_of c.args.matches.now in
    let word : option_map (λ s. s.now) c.get_str.result ≡ first_of (codes "command") (rows_of f) = c.get_str.ensures ∙ first_value-rows f (codes "command") in
    let summary : option_map (λ s. s.now) c.get_str-2.result ≡ first_of (codes "summary") (rows_of f) = c.get_str-2.ensures ∙ first_value-rows f (codes "summary") in
    let seed : option_map (λ s. s.now) c.get_str-3.result ≡ first_of (codes "seed") (rows_of f) = c.get_str-3.ensures ∙ first_value-rows f (codes "seed") in
    rw (← word, ← summary, ← seed) (search rules)
