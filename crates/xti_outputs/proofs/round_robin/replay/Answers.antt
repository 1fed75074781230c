use Rattle.xti_laws_streams.specs.Laws.{PrefixLaw, WaitingLaw, ReleaseLaw}
use Rattle.xti_model.specs.Robin.{robin}
use Rattle.xti_check.specs.Verdicts.{IsLegal}
use Rattle.xti_journal.specs.Grammar.{HasText}
use Rattle.xti_outputs.proofs.Answered.{of-journal, of-whole, own-stalls}
use Rattle.xti_outputs.proofs.round_robin.replay.Goals as goal

pub returns-clause-prefix : goal.returns-clause-prefix
returns-clause-prefix c =
    of-journal c.args.s.now (PrefixLaw c.args.s.now.providers) c.replay.result (λ entries r. c.scripts_keep_order.ensures.prefix c.args.s.now entries c.requires r) c.replay.ensures.legal c.replay.ensures.complete

pub returns-clause-waiting : goal.returns-clause-waiting
returns-clause-waiting c =
    of-journal c.args.s.now (WaitingLaw c.args.s.now.providers) c.replay.result (λ entries r. c.scripts_keep_order.ensures.waiting c.args.s.now entries c.requires r) c.replay.ensures.legal c.replay.ensures.complete

pub returns-clause-release : goal.returns-clause-release
returns-clause-release c =
    of-journal c.args.s.now (ReleaseLaw c.args.s.now.providers) c.replay.result (λ entries r. c.scripts_keep_order.ensures.release c.args.s.now entries c.requires r) c.replay.ensures.legal c.replay.ensures.complete

pub returns-clause-has_text : goal.returns-clause-has_text
returns-clause-has_text c =
    of-whole c.args.s.now HasText c.replay.result (λ entries r complete. c.runs_make_journals.ensures.has_text c.args.s.now entries c.requires r) c.replay.ensures.legal c.replay.ensures.complete c.replay.ensures.providers
    (own-stalls c.args.s.now (robin c.args.s.now) c.replay.result c.replay.ensures.entries c.replay.ensures.stalls)

pub returns-clause-judged : goal.returns-clause-judged
returns-clause-judged c =
    of-whole c.args.s.now IsLegal c.replay.result (λ entries r complete. c.whole_runs_make_legal_journals.ensures c.args.s.now entries r complete) c.replay.ensures.legal c.replay.ensures.complete c.replay.ensures.providers
    (own-stalls c.args.s.now (robin c.args.s.now) c.replay.result c.replay.ensures.entries c.replay.ensures.stalls)
