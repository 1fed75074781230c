use Rattle.xti_laws.proofs.Counterexamples.{not-of-all-buffers, not-of-wide-buffers, not-of-endless-datagrams, not-of-all-sends}
use Rattle.xti_laws.proofs.sound.premises_are_needed.Goals as goal

pub returns-clause-buffers : goal.returns-clause-buffers
returns-clause-buffers c = not-of-all-buffers

pub returns-clause-waiting : goal.returns-clause-waiting
returns-clause-waiting c = not-of-wide-buffers

pub returns-clause-datagrams : goal.returns-clause-datagrams
returns-clause-datagrams c = not-of-endless-datagrams

pub returns-clause-bytes : goal.returns-clause-bytes
returns-clause-bytes c = not-of-all-sends
