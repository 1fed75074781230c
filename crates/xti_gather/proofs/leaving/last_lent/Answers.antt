use Rattle.std.proofs.Common.{◌≡◌, ◌∙◌, ◌-◌, ℕ, Bool, true, false, List, [], ◌∷◌, length, Option, Some, None, ⊎_elim, refl, sym, ap, subst, arith}
use Rattle.std.specs.Prelude.{MatchOption, slice_get}
use Rattle.xti_model.specs.World.{is_among, switch_number}
use Rattle.xti_lent.specs.Lending.{Lending, cell_lent, is_lent}
use Rattle.xti_core.specs.Standing.{IsLoan}
use Rattle.xti_gather.proofs.Loans.{place-lent, lent-either}
use Rattle.xti_gather.proofs.Numbers.{among-get, get-within, is-not, not-both}
use Rattle.xti_gather.proofs.leaving.last_lent.Goals as goal

-- a list with no last number has none
no-last : (ns : List ℕ) (n : ℕ) → slice_get ns (length ns - 1) ≡ None → is_among ns n ≡ true → ⊥
no-last [] n e i = absurd (cc)
no-last (m ∷ ms) n e i = get-within (m ∷ ms) (length (m ∷ ms) - 1) (omega arith) e

-- with the switch at home, the last place is lent, or nothing is
last-or-none : (l : Lending) (o : Option ℕ) → IsLoan l → is_lent l (switch_number l.providers) ≡ false → slice_get l.numbers (length l.numbers - 1) ≡ o → MatchOption o ((n : ℕ) → cell_lent l n ≡ None) (λ n. is_lent l n ≡ true)
last-or-none l (Some n) loan s e = place-lent l n loan (among-get l.numbers (length l.numbers - 1) n e)
last-or-none l None loan s e = λ n. go n (is_lent l n) refl
  where
    go : (n : ℕ) (b : Bool) → is_lent l n ≡ b → cell_lent l n ≡ None
    go n false i = is-not (cell_lent l n) i
    go n true i = absurd (⊎_elim
        (λ (q : n ≡ switch_number l.providers). not-both (is_lent l n) i (subst (λ z. is_lent l z ≡ false) (sym q) s))
        (λ (a : is_among l.numbers n ≡ true). no-last l.numbers n e a)
        (lent-either l n i))

pub returns : goal.returns
returns c = last-or-none c.args.lent.now c.copied.result c.requires
    (ap (is_lent c.args.lent.now) (sym (c.switch_number-switch.ensures ∙ ap switch_number c.providers.ensures.providers)) ∙ (sym c.has.ensures ∙ c.if-has.false))
    (sym (c.copied.ensures ∙ (c.last.ensures.value ∙ ap (λ (ns : List ℕ). slice_get ns (length ns - 1)) c.places.ensures)))
