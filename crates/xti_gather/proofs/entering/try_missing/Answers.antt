use Rattle.std.proofs.Common.{◌≡◌, ◌≢◌, ◌∙◌, ◌<◌, ◌+◌, ℕ, Bool, List, Some, true, false, refl, sym, ap, subst, arith}
use Rattle.std.specs.Prelude.{slice_get, is_some, MatchBool}
use Rattle.xti_model.specs.declared.profile.Providers.{Providers}
use Rattle.xti_model.specs.World.{is_among, places}
use Rattle.xti_lent.specs.Lending.{Lending, cell_lent, is_lent}
use Rattle.xti_lent.proofs.Named.{all-among}
use Rattle.xti_gather.proofs.Numbers.{all-get, among-get, cases, get-within, not-both, one-get}
use Rattle.xti_gather.proofs.Staying.{stays-first, stays-on, still-free, still-in, still-providers}
use Rattle.xti_gather.proofs.entering.try_missing.Goals as goal

-- beside these cells nothing changes where one of them is tried
beside : (l l' : Lending) (ns : List ℕ) (k n : ℕ) → slice_get ns k ≡ Some n → ((m : ℕ) → m ≢ n → cell_lent l' m ≡ cell_lent l m) → (m : ℕ) → is_among ns m ≡ false → cell_lent l' m ≡ cell_lent l m
beside l l' ns k n e others m i = others m (λ s. not-both (is_among ns m) (ap (is_among ns) s ∙ among-get ns k n e) i)

-- the cells up to this one are lent
up-to : (l l' : Lending) (ns : List ℕ) (k n : ℕ) → slice_get ns k ≡ Some n → ((m : ℕ) → m ≢ n → cell_lent l' m ≡ cell_lent l m) → is_lent l' n ≡ true → ((j m : ℕ) → j < k → slice_get ns j ≡ Some m → is_lent l m ≡ true) → (j m : ℕ) → j < k + 1 → slice_get ns j ≡ Some m → is_lent l' m ≡ true
up-to l l' ns k n e others here before j m lt f = cases m n (is_lent l' m ≡ true) (λ s. ap (is_lent l') s ∙ here)
    (λ ne. ap is_some (others m ne) ∙ cases j k (is_lent l m ≡ true) (λ s. absurd (ne (one-get ns j k m n s f e))) (λ nj. before j m (omega (arith, lt, nj)) f))

-- what a try that enters tells
tried-here : (b : Bool) (A C B : Type 0) → MatchBool b (A × C) B → b ≡ true → A
tried-here true A C B m e = m.0
tried-here false A C B m e = absurd (cc)

pub loop-place-init : goal.loop-place-init
loop-place-init c = record {
  stays = stays-first c.args.seat.now c.args.lent.now c.requires.lends;
  before = λ k n lt e. absurd (omega (arith, lt));
  others = λ n e. refl;
}

pub unreachable-requires : goal.unreachable-requires
unreachable-requires c = get-within c.args.cells.now c.loop-place.place (let l = c.loop-place-test.true in let m = c.len-place-end.ensures.len in omega (arith, l, m)) (sym c.in_default.ensures)

pub try_enter-requires-clause-hall : goal.try_enter-requires-clause-hall
try_enter-requires-clause-hall c = still-in c.args.hall.now c.args.seat.now c.loop-place.seat c.args.lent.now c.loop-place.lent c.requires.hall c.requires.lends c.loop-place.invariant.stays

pub try_enter-requires-clause-free : goal.try_enter-requires-clause-free
try_enter-requires-clause-free c = still-free c.args.seat.now c.loop-place.seat c.loop-place.lent c.requires.free c.loop-place.invariant.stays

pub try_enter-requires-clause-cell : goal.try_enter-requires-clause-cell
try_enter-requires-clause-cell c =
    let inv = c.loop-place.invariant in
    let p = still-providers c.args.seat.now c.loop-place.seat c.args.lent.now c.loop-place.lent c.requires.lends inv.stays in
    let lt = all-among (λ n. n < places c.args.lent.now.providers + 1) c.args.cells.now c.in-Some.cell c.requires.cells (among-get c.args.cells.now c.loop-place.place c.in-Some.cell (sym c.in-Some.ensures)) in
    subst (λ (q : Providers). c.in-Some.cell < places q + 1) (sym p) lt

pub loop-place-preserved : goal.loop-place-preserved
loop-place-preserved c =
    let inv = c.loop-place.invariant in
    let t = c.try_enter.ensures in
    record {
      stays = stays-on c.args.seat.now c.loop-place.seat c.try_enter.new.seat c.loop-place.lent c.try_enter.new.lent inv.stays t.hall t.rest t.lends;
      before = up-to c.loop-place.lent c.try_enter.new.lent c.args.cells.now c.loop-place.place c.in-Some.cell (sym c.in-Some.ensures) t.others (tried-here c.try_enter.result _ _ _ t.tried c.if-not-try_enter.false) inv.before;
      others = λ n i. beside c.loop-place.lent c.try_enter.new.lent c.args.cells.now c.loop-place.place c.in-Some.cell (sym c.in-Some.ensures) t.others n i ∙ inv.others n i;
    }

pub returns-clause-all : goal.returns-clause-all
returns-clause-all c = λ _. all-get (λ n. is_lent c.loop-place.lent n ≡ true) c.args.cells.now (λ k n lt e. c.loop-place.invariant.before k n (omega (arith, lt, c.loop-place-test.false, c.len-place-end.ensures.len)) e)
