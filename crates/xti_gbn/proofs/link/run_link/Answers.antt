use Rattle.std.proofs.Common.{◌∙◌, ◌+◌, ◌≤◌, length, take, sym, ap, subst, arith}
use Rattle.xti_gbn.specs.declared.events.TheConstants.{MOST_EVENTS}
use Rattle.xti_gbn.specs.Link.{after}
use Rattle.xti_gbn.specs.Reports.{report_of}
use Rattle.xti_gbn.proofs.Runs.{StandsAfter, begins, has-room, goes-on, at-end, carried-most, report-is}
use Rattle.xti_gbn.proofs.link.run_link.Goals as goal

pub loop-event-init : goal.loop-event-init
loop-event-init g c = record {
  ready = c.requires.ready;
  stands = begins c.new-ends.result c.new-lines.result c.new-ends.ensures.stands c.new-ends.ensures.carried c.new-lines.ensures;
}

pub step-requires-clause-stands : goal.step-requires-clause-stands
step-requires-clause-stands g c = (after (take c.loop-event.event-index c.as_slice-event-items.result.now), c.loop-event.invariant.stands.stands)

pub step-requires-clause-room : goal.step-requires-clause-room
step-requires-clause-room g c =
    let events = c.as_slice-event-items.result.now in
    let few : length events ≤ MOST_EVENTS = omega (arith, ap length c.as_slice-event-items.ensures, c.requires.few) in
    has-room events c.loop-event.event-index c.loop-event.ends c.loop-event.lines c.loop-event.invariant.stands c.loop-event-test.true few

pub loop-event-preserved : goal.loop-event-preserved
loop-event-preserved g c =
    let events = c.as_slice-event-items.result.now in
    record {
      ready = c.in_ok-line.ensures.stays_ready;
      stands = subst (λ ls. StandsAfter (take (c.loop-event.event-index + 1) events) c.step.new.self ls) (sym c.in_ok-push.ensures.ok)
          (goes-on events c.loop-event.event-index c.event-item.result c.loop-event.ends c.step.new.self c.loop-event.lines c.in_ok-line.line
          c.loop-event-test.true c.event-item.is c.loop-event.invariant.stands c.in_ok-line.ensures.steps);
    }

pub report-requires : goal.report-requires
report-requires g c =
    let events = c.as_slice-event-items.result.now in
    let few : length events ≤ MOST_EVENTS = omega (arith, ap length c.as_slice-event-items.ensures, c.requires.few) in
    let over : length events ≤ c.loop-event.event-index = omega arith in
    carried-most events c.loop-event.ends c.loop-event.lines (at-end events c.loop-event.event-index c.loop-event.ends c.loop-event.lines over c.loop-event.invariant.stands) few

pub returns-clause-report : goal.returns-clause-report
returns-clause-report g c =
    let events = c.as_slice-event-items.result.now in
    let over : length events ≤ c.loop-event.event-index = omega arith in
    let all = at-end events c.loop-event.event-index c.loop-event.ends c.loop-event.lines over c.loop-event.invariant.stands in
    c.report.ensures ∙ report-is events c.loop-event.ends c.loop-event.lines all ∙ ap report_of c.as_slice-event-items.ensures
