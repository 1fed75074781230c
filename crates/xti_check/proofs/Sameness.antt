-- A test of two values tells of the replies that have them.
use Rattle.std.proofs.Common.{◌≡◌, ℕ, Bool, true, false, eqb, Option, Some, None, refl, sym, ap, subst, ◌∙◌}
use Rattle.std.specs.Option.{option_eq}
use Rattle.std.proofs.lemmas.Bool.{eqb-true, eq-eqb}
use Rattle.std.proofs.lemmas.Option.{none-some, same_Some}
use denote.Enum.Bare.{Bare, sameb, same_true, same_false}
use denote.Enum.Declared.{Declared}
use Rattle.xti_base.specs.declared.kinds.Seq.{Seq}
use Rattle.xti_check.specs.Answers.{Tells}

-- values of an enum without fields
pub tells-variant : (D : Declared) (a b : D.D) (r : Bool) → r ≡ sameb D a b → Bare D.parts → Tells r a b
tells-variant D a b true e bare = same_true D bare a b (sym e)
tells-variant D a b false e bare = same_false D a b (sym e)

pub tells-number : (a b : ℕ) (r : Bool) → r ≡ eqb a b → Tells r a b
tells-number a b true e = eqb-true a b (sym e)
tells-number a b false e = λ s. let no : true ≡ false = sym (eq-eqb a b s) ∙ sym e in cc

abbrev seq_of : ℕ → Seq
seq_of n = record { 0 = n }

pub tells-seq : (a b : Seq) (r : Bool) → r ≡ eqb a.0 b.0 → Tells r a b
tells-seq a b true e = ap seq_of (eqb-true a.0 b.0 (sym e))
tells-seq a b false e = λ s. tells-number a.0 b.0 false e (ap (λ (x : Seq). x.0) s)

-- what is told of the values is told of what is made of them alone
pub tells-made : {A B : Type 0} (of : A → B) → ((x y : A) → of x ≡ of y → x ≡ y) → (x y : B) (a b : A) (r : Bool) → x ≡ of a → y ≡ of b → Tells r a b → Tells r x y
tells-made of back x y a b true p q t = p ∙ (ap of t ∙ sym q)
tells-made of back x y a b false p q t = λ e. t (back a b (sym p ∙ (e ∙ q)))

pub tells-option : {T : Type 0} (test : T → T → Bool) → ((x y : T) → Tells (test x y) x y) → (a b : Option T) (r : Bool) → r ≡ option_eq test a b → Tells r a b
tells-option {T} test tells a b r e = subst (λ (t : Bool). Tells t a b) (sym e) (by a b)
  where
    by : (a b : Option T) → Tells (option_eq test a b) a b
    by None None = refl
    by None (Some y) = λ s. none-some y s
    by (Some x) None = λ s. none-some x (sym s)
    by (Some x) (Some y) = tells-made Some same_Some (Some x) (Some y) x y (test x y) refl refl (tells x y)
