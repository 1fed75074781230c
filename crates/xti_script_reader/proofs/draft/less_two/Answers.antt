use Rattle.std.proofs.Common.{length, rules, ◌∙◌}
use Rattle.xti_script_reader.proofs.Workers.{less_less, less_none}
use Rattle.xti_script_reader.proofs.draft.less_two.Goals as goal

pub returns : goal.returns
returns c = c.less_one-2.ensures ∙ less_less c.args.left _ _ _ _ c.less_one.ensures c.in_ok-less_one.was

pub returns-in_err-less_one : goal.returns-in_err-less_one
returns-in_err-less_one c =
    let none = less_none c.args.left _ (length c.args.second.now) _ c.less_one.ensures c.in_err-less_one.was in
    search rules
