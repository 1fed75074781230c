use Rattle.std.proofs.Common.{rules}
use Rattle.xti_laws_streams.specs.Laws.{PrefixLaw, WaitingLaw, ReleaseLaw}
use Rattle.xti_check.specs.Verdicts.{IsLegal}
use Rattle.xti_journal.specs.Grammar.{HasText}
use Rattle.xti_replay.specs.Few.{AreFew}
use Rattle.xti_outputs.proofs.Answered.{of-journal, of-whole, own-stalls}
use Rattle.xti_replay.specs.Stalls.{gone_on}
use Rattle.xti_outputs.proofs.threading.run.Goals as goal

pub play-requires : goal.play-requires
play-requires g c = search (rules, c.texts_are_playable.ensures c.args.s.now c.requires)

pub go_on-requires-clause-script : goal.go_on-requires-clause-script
go_on-requires-clause-script g c = c.texts_are_playable.ensures c.args.s.now c.requires

pub returns-clause-stalls : goal.returns-clause-stalls
returns-clause-stalls g c = own-stalls c.args.s.now (gone_on c.args.s.now c.in_ok-history.history) c.go_on.result c.go_on.ensures.entries c.go_on.ensures.stalls

pub returns-clause-prefix : goal.returns-clause-prefix
returns-clause-prefix g c =
    of-journal c.args.s.now (PrefixLaw c.args.s.now.providers) c.go_on.result (λ entries r. c.scripts_keep_order.ensures.prefix c.args.s.now entries c.requires r) c.go_on.ensures.legal c.go_on.ensures.complete

pub returns-clause-waiting : goal.returns-clause-waiting
returns-clause-waiting g c =
    of-journal c.args.s.now (WaitingLaw c.args.s.now.providers) c.go_on.result (λ entries r. c.scripts_keep_order.ensures.waiting c.args.s.now entries c.requires r) c.go_on.ensures.legal c.go_on.ensures.complete

pub returns-clause-release : goal.returns-clause-release
returns-clause-release g c =
    of-journal c.args.s.now (ReleaseLaw c.args.s.now.providers) c.go_on.result (λ entries r. c.scripts_keep_order.ensures.release c.args.s.now entries c.requires r) c.go_on.ensures.legal c.go_on.ensures.complete

pub returns-clause-few : goal.returns-clause-few
returns-clause-few g c = of-journal c.args.s.now (AreFew c.args.s.now) c.go_on.result (λ entries r. c.runs_have_few_entries.ensures c.args.s.now entries r) c.go_on.ensures.legal c.go_on.ensures.complete

pub returns-clause-has_text : goal.returns-clause-has_text
returns-clause-has_text g c =
    of-whole c.args.s.now HasText c.go_on.result (λ entries r complete. c.runs_make_journals.ensures.has_text c.args.s.now entries c.requires r) c.go_on.ensures.legal c.go_on.ensures.complete c.go_on.ensures.providers
    (own-stalls c.args.s.now (gone_on c.args.s.now c.in_ok-history.history) c.go_on.result c.go_on.ensures.entries c.go_on.ensures.stalls)

pub returns-clause-judged : goal.returns-clause-judged
returns-clause-judged g c =
    of-whole c.args.s.now IsLegal c.go_on.result (λ entries r complete. c.whole_runs_make_legal_journals.ensures c.args.s.now entries r complete) c.go_on.ensures.legal c.go_on.ensures.complete c.go_on.ensures.providers
    (own-stalls c.args.s.now (gone_on c.args.s.now c.in_ok-history.history) c.go_on.result c.go_on.ensures.entries c.go_on.ensures.stalls)
