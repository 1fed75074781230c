use Rattle.std.proofs.Common.{sym, ap, ◌∙◌, arith, Some}
use Rattle.xti_gather.proofs.Numbers.{among-get, none-among, get-within, cases, one-get}
use Rattle.xti_gather.proofs.choosing.is_among.Goals as goal

pub loop-place-init : goal.loop-place-init
loop-place-init c = λ k lt e. absurd (omega (arith, lt))

pub returns-then-m-n : goal.returns-then-m-n
returns-then-m-n c = sym (among-get c.args.cells.now c.loop-place.place c.args.n (sym c.in-Some.ensures ∙ ap (λ z. Some z) c.if-m-n.true))

pub loop-place-preserved : goal.loop-place-preserved
loop-place-preserved c = λ k lt e. cases k c.loop-place.place ⊥ (λ s. c.if-m-n.false (sym (one-get c.args.cells.now k c.loop-place.place c.args.n c.in-Some.m s e (sym c.in-Some.ensures)))) (λ n. c.loop-place.invariant k (omega (arith, lt, n)) e)

pub returns : goal.returns
returns c = sym (none-among c.args.cells.now c.args.n (λ k lt e. c.loop-place.invariant k (omega (arith, lt, c.loop-place-test.false, c.len-place-end.ensures.len)) e))

pub unreachable-requires : goal.unreachable-requires
unreachable-requires c = get-within c.args.cells.now c.loop-place.place (let l = c.loop-place-test.true in let m = c.len-place-end.ensures.len in omega (arith, l, m)) (sym c.in_default.ensures)
