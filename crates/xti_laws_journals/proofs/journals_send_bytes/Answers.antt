use Rattle.std.proofs.Common.{[]}
use Rattle.xti_laws_journals.proofs.SentByJournals.{entries-send}
use Rattle.xti_laws_journals.proofs.journals_send_bytes.Goals as goal

pub returns : goal.returns
returns c = λ j h. entries-send j.providers.version [] j.entries h.entries
