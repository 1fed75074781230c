use Rattle.xti_script.proofs.GeneratedTexts.{usual_providers, has_canonical_text, has_text}
use Rattle.xti_script.proofs.generating.laws.generated_scripts_have_texts.Goals as goal

pub returns-clause-canonical : goal.returns-clause-canonical
returns-clause-canonical c = has_canonical_text

pub returns-clause-texts : goal.returns-clause-texts
returns-clause-texts c = has_text

pub returns-clause-providers : goal.returns-clause-providers
returns-clause-providers c = usual_providers
