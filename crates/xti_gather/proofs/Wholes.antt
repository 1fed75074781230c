-- Lent cells are some of the cells of a sound world.
use Rattle.std.proofs.Common.{◌≡◌, ℕ, zero, suc, ◌+◌, ◌<◌, ◌≤◌, true, List, [], ◌∷◌, ◌++◌, map, length, Option, Some, None, refl, sym, ap, ◌∙◌, subst, arith}
use Rattle.std.specs.Prelude.{is_some, option_map}
use Rattle.std.specs.List.{AllByRecursion}
use Rattle.std.proofs.lemmas.Bool.{eq-eqb, ne_eqb}
use Rattle.xti_model.specs.declared.call.Call.{Call}
use Rattle.xti_model.specs.declared.profile.Providers.{Providers}
use Rattle.xti_model.specs.Profile.{valid}
use Rattle.xti_model.specs.Robin.{numbers}
use Rattle.xti_model.specs.Touched.{touched}
use Rattle.xti_model.specs.World.{World, Cell, Numbered, Switch, cell_at, places, switch_number}
use Rattle.xti_laws.specs.Invariant.{SoundWorld}
use Rattle.xti_laws.proofs.SoundSteps.{after-sound}
use Rattle.xti_lent.specs.Lending.{Lending, cell_lent, cells, cells_by, numbered_cell}
use Rattle.xti_lent.specs.Fit.{IsSound, IsFit}
use Rattle.xti_lent.proofs.Worlds.{from_number, same-cells}
use Rattle.xti_lent.proofs.Lendings.{switch-not-lent}
use Rattle.xti_laws.specs.Laws.{KnowsNoMore}
use Rattle.xti_core.specs.Standing.{IsLoan}
use Rattle.xti_core.proofs.SomeCells.{Sub, switch-sub}
use Rattle.xti_core.proofs.Fitting.{sounds, fits}
use Rattle.xti_core.proofs.AllLent.{there-is, touched-cells}
use Rattle.xti_hall_rule.specs.declared.view.View.{View}
use Rattle.xti_hall_rule.specs.Histories.{part, after}
use Rattle.xti_gather.specs.Lends.{Lends}
use Rattle.xti_gather.specs.Orders.{AreCells}
use Rattle.xti_gather.proofs.Loans.{lent-cell, registry-none}

-- the cells of a world by number
abbrev pub kept : World → ℕ → Option Cell
kept w n = option_map (λ (c : Numbered). c.cell) (cell_at w n)

abbrev head_number : ℕ → List ℕ → ℕ
head_number d [] = d
head_number d (n ∷ ns) = n

abbrev tail_of : List ℕ → List ℕ
tail_of [] = []
tail_of (n ∷ ns) = ns

rebuilt : (w : World) (from k : ℕ) → map (λ (c : Numbered). c.number) w ≡ numbers from k → from_number (kept w) from k ≡ w
rebuilt [] from zero e = refl
rebuilt [] from (suc k) e = absurd (cc)
rebuilt (c ∷ w) from zero e = absurd (cc)
rebuilt (c ∷ w) from (suc k) e =
    let n : c.number ≡ from = ap (head_number 0) e in
    let r : from_number (kept w) (from + 1) k ≡ w = rebuilt w (from + 1) k (ap tail_of e) in
    let s : from_number (kept (c ∷ w)) (from + 1) k ≡ from_number (kept w) (from + 1) k = same-cells (kept (c ∷ w)) (kept w) (from + 1) k (λ j le lt. rw (ne_eqb c.number j (λ q. omega (arith, q, n, le))) refl) in
    let h : numbered_cell from (kept (c ∷ w) from) ≡ c ∷ [] = rw (eq-eqb c.number from n) (λ i. record { number = sym n i; cell = c.cell } ∷ []) in
    (λ i. h i ++ (s ∙ r) i)

-- a sound world has each cell, and no others
pub whole-world : (p : Providers) (w : World) → SoundWorld p w → cells_by p (kept w) ≡ w
unfolding cells_by
whole-world p w s = rebuilt w 0 (places p + 1) s.registered.cells

sound-kept : (p : Providers) (w : World) → SoundWorld p w → SoundWorld p (cells_by p (kept w))
sound-kept p w s = subst (SoundWorld p) (sym (whole-world p w s)) s

kept-part : (w : World) (n : ℕ) → is_some (kept w n) ≡ true → kept w n ≡ Some (part n w)
kept-part w n e = go (cell_at w n) refl e
  where
    go : (o : Option Numbered) → cell_at w n ≡ o → is_some (option_map (λ (c : Numbered). c.cell) o) ≡ true → kept w n ≡ Some (part n w)
    go None i j = absurd (cc)
    go (Some c) i j = rw i refl

pub kept-all : (p : Providers) (w : World) (n : ℕ) → SoundWorld p w → n < places p + 1 → kept w n ≡ Some (part n w)
kept-all p w n s lt = kept-part w n (there-is p (kept w) n (sound-kept p w s) lt)

-- the lent cells are some of this sound world
pub record Of (l : Lending) (w : World) : Type 0 where
  pub sound : SoundWorld l.providers (cells_by l.providers (kept w))
  pub sub : Sub (cell_lent l) (kept w)

pub sub-of : (l : Lending) (w : World) → IsLoan l → SoundWorld l.providers w → ((n : ℕ) (m : Cell) → cell_lent l n ≡ Some m → m ≡ part n w) → Of l w
sub-of l w loan s h = record {
  sound = sound-kept l.providers w s;
  sub = λ n i. go n (cell_lent l n) refl i;
}
  where
    go : (n : ℕ) (o : Option Cell) → cell_lent l n ≡ o → is_some o ≡ true → cell_lent l n ≡ kept w n
    go n None i j = absurd (cc)
    go n (Some m) i j = i ∙ (ap (λ z. Some z) (h n m i) ∙ sym (kept-all l.providers w n s (lent-cell l n m loan i)))

pub lends-of : (v : View) (l : Lending) → (lends : Lends v l) → Of l (after v.setting lends.somewhen.0)
lends-of v l lends =
    let ok : valid v.setting.providers ≡ true = ap valid (sym lends.providers) ∙ lends.loan.kept.valid_providers in
    let s : SoundWorld v.setting.providers (after v.setting lends.somewhen.0) = after-sound v.setting.providers lends.somewhen.0 ok in
    sub-of l (after v.setting lends.somewhen.0) lends.loan (subst (λ (p : Providers). SoundWorld p (after v.setting lends.somewhen.0)) (sym lends.providers) s) lends.somewhen.2

pub lends-sound : (v : View) (l : Lending) → Lends v l → AllByRecursion IsSound l.held
lends-sound v l lends = let o = lends-of v l lends in sounds (kept (after v.setting lends.somewhen.0)) l o.sound o.sub lends.loan

pub lends-fit : (v : View) (l : Lending) → Lends v l → IsFit l
lends-fit v l lends = let o = lends-of v l lends in fits (kept (after v.setting lends.somewhen.0)) l o.sound o.sub lends.loan

-- the switch knows no more places than there are, where it is lent and where it is not
knows : (l : Lending) (w : World) → Of l w → KnowsNoMore l.providers (cells l)
knows l w o = go (cell_lent l (switch_number l.providers)) refl
  where
    go : (q : Option Cell) → cell_lent l (switch_number l.providers) ≡ q → KnowsNoMore l.providers (cells l)
    go None i =
        let e = switch-not-lent l (registry-none l i) in
        subst (λ (s : Switch). length s.places ≤ places l.providers) (sym e) (omega arith)
    go (Some m) i =
        let e = switch-sub l.providers (cell_lent l) (kept w) o.sub (ap is_some i) in
        let k = o.sound.registered.agreement.places_known in
        subst (λ (s : Switch). length s.places ≤ places l.providers) (sym e) (omega (arith, k))

-- what a call touches on lent cells are cells
pub lends-cells : (v : View) (l : Lending) (c : Call) → Lends v l → AreCells l.providers (touched l.providers (cells l) c)
lends-cells v l c lends = touched-cells l.providers (cells l) c (knows l (after v.setting lends.somewhen.0) (lends-of v l lends))
