use Rattle.std.proofs.Common.{◌≡◌, sym, ap, ◌∙◌, arith, true}
use Rattle.xti_lent.specs.Lending.{is_lent}
use Rattle.xti_gather.proofs.Numbers.{all-get, get-within, cases, one-get}
use Rattle.xti_gather.proofs.Orders.{least-missing}
use Rattle.xti_gather.proofs.choosing.missing.Goals as goal

pub loop-place-init : goal.loop-place-init
loop-place-init c = λ k n lt e. absurd (omega (arith, lt))

pub unreachable-requires : goal.unreachable-requires
unreachable-requires c = get-within c.args.cells.now c.loop-place.place (let l = c.loop-place-test.true in let m = c.len-place-end.ensures.len in omega (arith, l, m)) (sym c.in_default.ensures)

pub returns-then-not-has : goal.returns-then-not-has
returns-then-not-has c = least-missing c.args.lent.now c.args.cells.now c.loop-place.place c.in-Some.n c.len-place-end.ensures.rising (sym c.in-Some.ensures) (sym c.has.ensures ∙ c.if-not-has.true) c.loop-place.invariant

pub loop-place-preserved : goal.loop-place-preserved
loop-place-preserved c = λ k n lt e. cases k c.loop-place.place (is_lent c.args.lent.now n ≡ true) (λ s. let f = one-get c.args.cells.now k c.loop-place.place n c.in-Some.n s e (sym c.in-Some.ensures) in ap (is_lent c.args.lent.now) f ∙ (sym c.has.ensures ∙ c.if-not-has.false)) (λ ne. c.loop-place.invariant k n (omega (arith, lt, ne)) e)

pub returns : goal.returns
returns c = all-get (λ n. is_lent c.args.lent.now n ≡ true) c.args.cells.now (λ k n lt e. c.loop-place.invariant k n (omega (arith, lt, c.loop-place-test.false, c.len-place-end.ensures.len)) e)
