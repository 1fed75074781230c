use Rattle.std.proofs.Common.{ap, sym, subst, ◌∙◌}
use Rattle.xti_model.specs.Profile.{usual_of}
use Rattle.xti_model.specs.declared.profile.Providers.{Providers}
use Rattle.xti_model.specs.declared.script.Script.{Script}
use Rattle.xti_script_reader.specs.Grammar.{HasText}
use Rattle.xti_outputs.proofs.answers.generated_answer.Goals as goal

pub played-requires : goal.played-requires
played-requires c = subst HasText (sym c.in_ok-script.ensures) (c.generated_scripts_have_texts.ensures.texts c.args.seed)

pub write_script-requires-clause-text : goal.write_script-requires-clause-text
write_script-requires-clause-text c = subst HasText (sym c.in_ok-script.ensures) (c.generated_scripts_have_texts.ensures.texts c.args.seed)

pub write_script-requires-clause-providers : goal.write_script-requires-clause-providers
write_script-requires-clause-providers c =
    let usual-ones = ap (λ (s : Script). s.providers) c.in_ok-script.ensures ∙ c.generated_scripts_have_texts.ensures.providers c.args.seed in
    usual-ones ∙ sym (ap (λ (p : Providers). usual_of p.version) usual-ones)
