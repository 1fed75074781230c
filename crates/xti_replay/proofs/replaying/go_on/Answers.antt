use Rattle.std.proofs.Common.{◌≡◌, List, subst}
use Rattle.xti_model.specs.declared.entry.Entry.{Entry}
use Rattle.xti_model.specs.declared.script.Script.{Script}
use Rattle.xti_model.specs.Robin.{most_steps}
use Rattle.xti_replay.specs.declared.run.Run.{Run}
use Rattle.xti_replay.specs.Runs.{IsRunOf}
use Rattle.xti_replay.specs.Stalls.{gone_on}
use Rattle.xti_replay.proofs.WholeRuns.{ends}
use Rattle.xti_replay.proofs.replaying.go_on.Goals as goal

run-of : (s : Script) (slice history : List Entry) (r : Run) → slice ≡ history → IsRunOf s (gone_on s slice) slice r → IsRunOf s (gone_on s history) history r
run-of s slice history r e k = subst (λ (es : List Entry). IsRunOf s (gone_on s es) es r) e k

pub take_entries-requires : goal.take_entries-requires
take_entries-requires c = (c.args.s.now, gone_on c.args.s.now c.args.history, run-of c.args.s.now _ c.args.history _ c.as_slice.ensures c.in_ok-run.ensures)

pub stalls-requires : goal.stalls-requires
stalls-requires c =
    (gone_on c.args.s.now c.args.history, (c.in-Ok.ensures c.args.s.now (gone_on c.args.s.now c.args.history) (run-of c.args.s.now _ c.args.history _ c.as_slice.ensures c.in_ok-run.ensures)).1.stands)

pub returns-in-Ok-stalls-clause-entries : goal.returns-in-Ok-stalls-clause-entries
returns-in-Ok-stalls-clause-entries c = (c.in-Ok.ensures c.args.s.now (gone_on c.args.s.now c.args.history) (run-of c.args.s.now _ c.args.history _ c.as_slice.ensures c.in_ok-run.ensures)).0

pub returns-in-Ok-stalls-clause-stalls : goal.returns-in-Ok-stalls-clause-stalls
returns-in-Ok-stalls-clause-stalls c =
    let all = gone_on c.args.s.now c.args.history in
    let w = (c.in-Ok.ensures c.args.s.now all (run-of c.args.s.now _ c.args.history _ c.as_slice.ensures c.in_ok-run.ensures)).1 in
    (ends c.args.s.now all c.in-Ok-stalls.stalls c.take_entries.new.run.lines.now w.lines (c.in-Ok-stalls.ensures all w.stands)).stalls

pub returns-in-Ok-stalls-clause-through : goal.returns-in-Ok-stalls-clause-through
returns-in-Ok-stalls-clause-through c =
    let all = gone_on c.args.s.now c.args.history in
    let w = (c.in-Ok.ensures c.args.s.now all (run-of c.args.s.now _ c.args.history _ c.as_slice.ensures c.in_ok-run.ensures)).1 in
    rw (returns-in-Ok-stalls-clause-entries c) (ends c.args.s.now all c.in-Ok-stalls.stalls c.take_entries.new.run.lines.now w.lines (c.in-Ok-stalls.ensures all w.stands)).through

pub returns-in-Ok-stalls-clause-legal : goal.returns-in-Ok-stalls-clause-legal
unfolding gone_on
returns-in-Ok-stalls-clause-legal c = rw (returns-in-Ok-stalls-clause-entries c) (c.robin_is_legal.ensures.goes_on c.args.s.now.providers c.args.s.now.lines most_steps c.args.history c.requires.history.legal)

pub returns-in-Ok-stalls-clause-follows : goal.returns-in-Ok-stalls-clause-follows
unfolding gone_on
returns-in-Ok-stalls-clause-follows c = rw (returns-in-Ok-stalls-clause-entries c) (c.robin_goes_on.ensures.follows c.args.s.now.providers c.args.s.now.lines most_steps c.args.history c.requires.history)

pub returns-in-Ok-stalls-clause-complete : goal.returns-in-Ok-stalls-clause-complete
unfolding gone_on
returns-in-Ok-stalls-clause-complete c = rw (returns-in-Ok-stalls-clause-entries c) (c.robin_goes_on.ensures.complete c.args.s.now.providers c.args.s.now.lines most_steps c.args.history c.requires.history c.requires.script.bound)
