use Rattle.std.proofs.Common.{◌≡◌, ◌∙◌, ◌&&◌, ℕ, Bool, true, false, Option, Some, None, not, refl, sym, ap}
use Rattle.std.specs.Prelude.{MatchOption}
use Rattle.std.specs.List.{find}
use Rattle.xti_model.specs.World.{is_among, switch_number}
use Rattle.xti_lent.specs.Lending.{is_lent}
use Rattle.xti_gather.specs.Orders.{LentWithin}
use Rattle.xti_gather.proofs.Orders.{none-beside-lent, beside-lent}
use Rattle.xti_gather.proofs.choosing.surplus.Goals as goal

-- a cell that is lent and not surplus is one of them
kept : (a b : Bool) → (a && not b) ≡ false → a ≡ true → b ≡ true
kept true true e i = refl
kept true false e i = absurd (cc)
kept false b e i = absurd (cc)

pub returns-then-is_surplus : goal.returns-then-is_surplus
returns-then-is_surplus c = by (is_lent c.args.lent.now c.switch_number-switch.result) (is_among c.args.cells.now c.switch_number-switch.result) refl refl (sym c.is_surplus.ensures ∙ c.if-is_surplus.true)
  where
    by : (a b : Bool) → is_lent c.args.lent.now c.switch_number-switch.result ≡ a → is_among c.args.cells.now c.switch_number-switch.result ≡ b → (is_lent c.args.lent.now c.switch_number-switch.result && not (is_among c.args.cells.now c.switch_number-switch.result)) ≡ true
        → (is_lent c.args.lent.now c.switch_number-switch.result ≡ true) × (is_among c.args.cells.now c.switch_number-switch.result ≡ false)
    by true false e f t = (e, f)
    by true true e f t = absurd (let q : true ≡ false = sym t ∙ (λ i. e i && not (f i)) in cc)
    by false b e f t = absurd (let q : true ≡ false = sym t ∙ (λ i. e i && not (f i)) in cc)

pub returns : goal.returns
returns c = by c.first_beside.result (sym (c.first_beside.ensures ∙ ap (find (λ n. not (is_among c.args.cells.now n))) c.places.ensures))
  where
    known : c.switch_number-switch.result ≡ switch_number c.args.lent.now.providers
    known = c.switch_number-switch.ensures ∙ ap switch_number c.providers.ensures.providers

    by : (o : Option ℕ) → find (λ n. not (is_among c.args.cells.now n)) c.args.lent.now.numbers ≡ o → MatchOption o (LentWithin c.args.lent.now c.args.cells.now) (λ n. (is_lent c.args.lent.now n ≡ true) × (is_among c.args.cells.now n ≡ false))
    by (Some n) e = beside-lent c.args.lent.now c.args.cells.now n c.requires e
    by None e = none-beside-lent c.args.lent.now c.args.cells.now e
        (λ i. ap (is_among c.args.cells.now) (sym known) ∙ kept (is_lent c.args.lent.now c.switch_number-switch.result) (is_among c.args.cells.now c.switch_number-switch.result) (sym c.is_surplus.ensures ∙ c.if-is_surplus.false) (ap (is_lent c.args.lent.now) known ∙ i))
