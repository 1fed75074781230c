use Rattle.std.proofs.Common.{◌≡◌, true, refl}
use Rattle.xti_model.specs.Profile.{valid}
use Rattle.xti_script_reader.proofs.ScriptLaws.{head_has}
use Rattle.xti_script_reader.proofs.laws.scripts_have_valid_providers.Goals as goal

pub returns : goal.returns
returns c s has = head_has (λ p. valid p ≡ true) c.heads_are_valid.ensures (λ version. refl) s.providers has.1.form.texts has.1.form.rest has.1.form.head
