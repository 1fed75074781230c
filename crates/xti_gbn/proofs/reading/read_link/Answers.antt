use Rattle.std.proofs.Common.{◌≡◌, ℕ, ◌+◌, List, length, Some, sym, subst}
use Rattle.xti_gbn.specs.declared.events.LinkEvent.{LinkEvent}
use Rattle.xti_gbn.specs.Reading.{event_behind}
use Rattle.xti_gbn.specs.Refused.{IsRefusedAt}
use Rattle.xti_gbn.proofs.ReadLines.{IsReadTo, goes_on, wrong, unended, small_behind, behind_at}
use Rattle.xti_gbn.proofs.reading.read_link.Goals as goal

pub returns-in_default-ended_line-clause-bad : goal.returns-in_default-ended_line-clause-bad
returns-in_default-ended_line-clause-bad c =
    subst (λ (n : ℕ). IsRefusedAt c.args.text.now (n + 2)) (sym c.len.ensures) (unended _ _ _ c.loop-rest.invariant.read (c.in_default-ended_line.ensures.none))

pub returns-in_default-2-clause-bad : goal.returns-in_default-2-clause-bad
returns-in_default-2-clause-bad c =
    subst (λ (n : ℕ). IsRefusedAt c.args.text.now (n + 2)) (sym c.len.ensures) (wrong _ _ _ _ _ c.loop-rest.invariant.read c.in-Some-ended_line.ensures.found (behind_at _ _ _ _ _ c.len-in-loop-rest.ensures c.in_ok-event.ensures c.in_default-2.is))

pub loop-rest-preserved : goal.loop-rest-preserved
loop-rest-preserved c =
    let is : event_behind (length c.loop-rest.events) c.in-Some-ended_line.line.now ≡ Some c.in-Some-2.event = behind_at _ _ _ _ _ c.len-in-loop-rest.ensures c.in_ok-event.ensures c.in-Some-2.is in
    record {
      read = subst (λ (es : List LinkEvent). IsReadTo c.args.text.now c.in-Some-ended_line.behind.now es) (sym c.in_ok-push.ensures.ok) (goes_on _ _ _ _ _ _ c.loop-rest.invariant.read c.in-Some-ended_line.ensures.found is);
      small = small_behind c.loop-rest.events c.push.new.self c.in-Some-ended_line.line.now c.in-Some-2.event c.in_ok-push.ensures.ok c.loop-rest.invariant.small is;
    }
