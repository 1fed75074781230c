use Rattle.std.proofs.Common.{length, rules, ◌∙◌}
use Rattle.xti_script_reader.proofs.Workers.{less_less, less_none}
use Rattle.xti_script_reader.proofs.draft.less_three.Goals as goal

pub returns : goal.returns
returns c = c.less_one.ensures ∙ less_less c.args.left _ _ _ _ c.less_two.ensures c.in_ok-less_two.was

pub returns-in_err-less_two : goal.returns-in_err-less_two
returns-in_err-less_two c =
    let none = less_none c.args.left _ (length c.args.third.now) _ c.less_two.ensures c.in_err-less_two.was in
    search rules
