-- A generated script is the script of its canonical text.
use Rattle.std.proofs.Common.{◌≡◌, refl, ℕ, ◌%◌}
use Rattle.xti_model.specs.Profile.{usual}
use Rattle.xti_script_reader.specs.Grammar.{IsScript, HasText}
use Rattle.xti_script.specs.Canonical.{script_text}
use Rattle.xti_script.proofs.ScriptTexts.{script_written}
use Rattle.xti_script.specs.declared.generating.sizes.TheConstants.{MOST_SENT}
use Rattle.xti_script.specs.Generated.{generated}
use Rattle.xti_script.proofs.LinesAreRead.{generated_lines_read}
use Rattle.xti_script.proofs.Limits.{generated_lines_small}

pub usual_providers : (seed : ℕ) → (generated seed).providers ≡ usual
unfolding generated
usual_providers seed = refl

pub has_canonical_text : (seed : ℕ) → IsScript (generated seed) (script_text (generated seed))
unfolding generated
has_canonical_text seed = script_written (generated seed) refl (generated_lines_read (seed % MOST_SENT)) (generated_lines_small (seed % MOST_SENT))

pub has_text : (seed : ℕ) → HasText (generated seed)
has_text seed = (script_text (generated seed), has_canonical_text seed)
