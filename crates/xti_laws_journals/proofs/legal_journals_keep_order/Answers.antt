use Rattle.xti_laws_journals.proofs.legal_journals_keep_order.Goals as goal

pub returns-clause-prefix : goal.returns-clause-prefix
returns-clause-prefix c = λ j h l. c.connections_keep_order.ensures.prefix j.providers j.entries (l.entries, c.journals_send_bytes.ensures j h)

pub returns-clause-waiting : goal.returns-clause-waiting
returns-clause-waiting c = λ j h l. c.connections_keep_order.ensures.waiting j.providers j.entries (l.entries, c.journals_send_bytes.ensures j h)

pub returns-clause-release : goal.returns-clause-release
returns-clause-release c = λ j h l. c.connections_keep_order.ensures.release j.providers j.entries (l.entries, c.journals_send_bytes.ensures j h)
