use Rattle.std.proofs.Common.{◌≡◌, ◌+◌, ◌∙◌, sym, ap, ap₂, arith, take}
use Rattle.std.proofs.lemmas.List.{take_all}
use Rattle.std.proofs.lemmas.List.Sums.{sum_by_more}
use Rattle.std.specs.Prelude.{sum_by}
use Rattle.xti_base.specs.declared.kinds.Event.TheVariants.{T_LISTEN}
use Rattle.xti_model.specs.Events.{events}
use Rattle.xti_core.specs.Looks.{is_pending_among, number_where}
use Rattle.xti_end.specs.Held.{parts}
use Rattle.xti_core.proofs.Sums.{sum-where}
use Rattle.xti_core.proofs.looking.pending_events.Goals as goal

pub overflow_add-sum : goal.overflow_add-sum
overflow_add-sum c = let s = c.loop-event.invariant.small in let n = c.number_where-sum.ensures.small in let i = c.loop-event-test.true in omega (arith, s, n, i)

pub loop-event-preserved : goal.loop-event-preserved
loop-event-preserved c = record {
  so_far =
      let more = sum_by_more (number_where (is_pending_among c.args.lent.now c.args.fd.0 (parts c.args.e.now))) events c.loop-event.event-index T_LISTEN c.loop-event-test.true in
      let s = c.loop-event.invariant.so_far in
      let n = c.number_where-sum.ensures.value in
      ap₂ (λ a b. a + b) s n ∙ sym more;
  small = let s = c.loop-event.invariant.small in let n = c.number_where-sum.ensures.small in omega (arith, s, n);
}

pub returns : goal.returns
returns c =
    let test = is_pending_among c.args.lent.now c.args.fd.0 (parts c.args.e.now) in
    let whole : take c.loop-event.event-index events ≡ events = take_all c.loop-event.event-index events c.loop-event-test.false in
    c.loop-event.invariant.so_far ∙ ap (sum_by (number_where test)) whole ∙ sym (sum-where test 0 events)
