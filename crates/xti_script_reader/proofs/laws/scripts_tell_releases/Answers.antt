use Rattle.std.proofs.Common.{◌≡◌, true, refl}
use Rattle.xti_model.specs.Profile.{releases_told}
use Rattle.xti_model.specs.declared.profile.Version.{Version}
use Rattle.xti_model.specs.declared.profile.Version.TheVariants.{One, Two}
use Rattle.xti_model.specs.Profile.{usual_of}
use Rattle.xti_script_reader.proofs.ScriptLaws.{head_has}
use Rattle.xti_script_reader.proofs.laws.scripts_tell_releases.Goals as goal

usual_told : (version : Version) → releases_told (usual_of version) ≡ true
usual_told One = refl
usual_told Two = refl

pub returns : goal.returns
returns c s has = head_has (λ p. releases_told p ≡ true) c.heads_tell_releases.ensures.releases usual_told s.providers has.1.form.texts has.1.form.rest has.1.form.head
