use Rattle.std.proofs.Common.{rules, ap, ap₂, ◌≡◌, ◌∙◌, Bor, List, Some, codes, false, true, ℕ}
use Rattle.std.proofs.lemmas.Result.{IfOk-weaker}
use Rattle.clap.specs.Words.{Rule, Text, app_of, new_app, new_rule, rule_of, with_rule}
use Rattle.clap.specs.declared.builder.action.ArgAction.TheVariants.{SetTrue}
use Rattle.clap.specs.declared.builder.arg.Arg.{Arg}
use Rattle.clap.specs.declared.builder.command.Command.{Command}
use Rattle.clap.specs.declared.builder.command.Command.TheViews.{out-Command as fields_of}
use Rattle.xti_command.specs.Words.{bare_app, seed_rule, summary_rule, word_rule}
use Rattle.xti_command.proofs.command.command_line.Goals as goal

required_rule : (a r : Arg) (id : Text) → rule_of a ≡ new_rule id → r ≡ record a { required = true }
    → rule_of r ≡ record (new_rule id) { required = true }
required_rule a r id rule same = ap {A = Arg} {B = Rule} rule_of same ∙ ap {A = Rule} {B = Rule} (λ u. record u { required = true }) rule

long_rule : (a r : Arg) (id : Text) (name : Bor (List ℕ)) → rule_of a ≡ new_rule id → r ≡ record a { long = Some name }
    → rule_of r ≡ record (new_rule id) { long = Some name.now }
long_rule a r id name rule same = ap {A = Arg} {B = Rule} rule_of same ∙ ap {A = Rule} {B = Rule} (λ u. record u { long = Some name.now }) rule

set_rule : (a r : Arg) (u : Rule) → rule_of a ≡ u → r ≡ record a { action = Some SetTrue } → rule_of r ≡ record u { action = Some SetTrue }
set_rule a r u rule same = ap {A = Arg} {B = Rule} rule_of same ∙ ap {A = Rule} {B = Rule} (λ u. record u { action = Some SetTrue }) rule

bare_by : (a b c d : Command) → app_of a ≡ new_app (codes "xti") → fields_of b ≡ record (fields_of a) { no_binary_name = true }
    → fields_of c ≡ record (fields_of b) { disable_help_flag = true } → fields_of d ≡ record (fields_of c) { disable_version_flag = true }
    → app_of d ≡ bare_app
bare_by a b c d named first second third = search rules

required_local : (a r : Arg) → a.global ≡ false → r ≡ record a { required = true } → r.global ≡ false
required_local a r local same = cc

pub returns : goal.returns
returns c =
    let word_is : rule_of c.required-word.result ≡ word_rule = required_rule c.new.result c.required-word.result _ c.new.ensures.rule c.required-word.ensures in
    let summary_is : rule_of c.action-summary.result ≡ summary_rule = set_rule c.long.result c.action-summary.result _ (long_rule c.new-2.result c.long.result _ _ c.new-2.ensures.rule c.long.ensures) c.action-summary.ensures in
    let seed_is : rule_of c.long-seed.result ≡ seed_rule = long_rule c.new-3.result c.long-seed.result _ _ c.new-3.ensures.rule c.long-seed.ensures in
    let base_is : app_of c.disable_version_flag.result ≡ bare_app = bare_by c.new-4.result c.no_binary_name.result c.disable_help_flag.result c.disable_version_flag.result c.new-4.ensures.app c.no_binary_name.ensures c.disable_help_flag.ensures c.disable_version_flag.ensures in
    let one : app_of c.in_ok-arg.field-0 ≡ with_rule bare_app word_rule = c.in_ok-arg.ensures.shape (ap (λ (a : Arg). a.global) c.required-word.ensures ∙ c.new.ensures.optional.1) ∙ ap₂ with_rule base_is word_is in
    let two : app_of c.in_ok-arg-2.field-0 ≡ with_rule (with_rule bare_app word_rule) summary_rule = c.in_ok-arg-2.ensures.shape (ap (λ (a : Arg). a.global) c.action-summary.ensures ∙ ap (λ (a : Arg). a.global) c.long.ensures ∙ c.new-2.ensures.optional.1) ∙ ap₂ with_rule one summary_is in
    IfOk-weaker c.arg-3.result _ _ (λ r h. h.shape (ap (λ (a : Arg). a.global) c.long-seed.ensures ∙ c.new-3.ensures.optional.1) ∙ ap₂ with_rule two seed_is) c.arg-3.ensures
