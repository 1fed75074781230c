use Rattle.std.proofs.Common.{List, ℕ, refl, sym, arith}
use Rattle.xti_model.specs.SentBytes.{AreBytes}
use Rattle.xti_journal_text.specs.JournalText.{journal_text}
use Rattle.xti_journal.specs.Grammar.{HasText}
use Rattle.xti_journal.proofs.Whole.{one_journal}
use Rattle.xti_laws_streams.specs.Copying.{copy_journal}
use Rattle.xti_laws_texts.proofs.CopyEntries.{copied-texts, copied-few}
use Rattle.xti_laws_texts.proofs.copies.copies_have_texts.Goals as goal

has-text : (input : List ℕ) → AreBytes input → HasText (copy_journal input)
has-text input b = record { providers = refl; releases = refl; entries = copied-texts input b; stalls = tt }

pub returns-clause-texts : goal.returns-clause-texts
returns-clause-texts c input b = has-text input b

pub returns-clause-only : goal.returns-clause-only
returns-clause-only c input b small k j =
    sym (one_journal (journal_text (copy_journal input)) (copy_journal input) k (omega (arith, copied-few input, small)) (record { has_text = has-text input b; written = refl }) j)
