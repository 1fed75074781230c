use Rattle.std.proofs.Common.{ℕ, List, sym, subst}
use Rattle.xti_hall_rule.specs.declared.view.View.{View}
use Rattle.xti_gather.specs.Cells.{whole}
use Rattle.xti_calls.specs.Library.{IsReady}
use Rattle.xti_calls.proofs.Newcomers.{newcomer_ready}
use Rattle.xti_calls.proofs.shared.Xti.new.Goals as goal

pub invariant_of-result : goal.invariant_of-result
invariant_of-result c =
    subst (λ (z : View × List ℕ). IsReady z.0 c.nothing_lent-lent.result z.1) (λ i. (sym c.in_ok-hall.ensures.seat.1 i, sym c.new-first.ensures i))
    (newcomer_ready (whole c.args.p.now c.args.keeps) c.nothing_lent-lent.result c.nothing_lent-lent.ensures.empty c.nothing_lent-lent.ensures.providers)
