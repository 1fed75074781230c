-- A step of a world all of whose cells are lent.
use Rattle.std.proofs.Common.{◌≡◌, suc, [], ◌∷◌, length, map, List, None, refl, sym, ap, ◌∙◌, subst}
use Rattle.std.specs.Prelude.{Result, Ok, Err, IfOk, OnErr}
use Rattle.std.specs.List.{AllByRecursion}
use Rattle.xti_end.specs.Held.{Held}
use Rattle.xti_end.specs.Taken.{taken}
use Rattle.xti_model.specs.declared.call.Call.{Call}
use Rattle.xti_model.specs.declared.entry.Go.{Go}
use Rattle.xti_model.specs.declared.entry.Applied.{Applied}
use Rattle.xti_model.specs.declared.entry.Applied.TheVariants as applied
use Rattle.xti_model.specs.declared.profile.Providers.{Providers}
use Rattle.xti_model.specs.Profile.{valid}
use Rattle.xti_model.specs.Step.{Step, step}
use Rattle.xti_model.specs.World.{World}
use Rattle.xti_laws.specs.Invariant.{SoundWorld}
use Rattle.xti_laws.proofs.SoundSteps.{step-sound}
use Rattle.xti_lent.specs.Answers.{IsUnchanged}
use Rattle.xti_lent.specs.Kept.{Distinct, IsPlace}
use Rattle.xti_lent.specs.Lending.{Lending, cell_lent, cells}
use Rattle.xti_lent.specs.Fit.{IsFit, SameCells, place_of_held}
use Rattle.xti_core.specs.Standing.{Standing, IsLoan, IsStanding}
use Rattle.xti_core.proofs.Fitting.{fits}

-- the cells are fit for a step
pub fit-standing : (l : Lending) → IsStanding l → IsFit l
fit-standing l k = fits (cell_lent l) l k.sound (λ n i. refl) k.loan

-- the same cells are lent after the step
loan-after : (l m : Lending) → IsLoan l → SameCells l m → IsLoan m
loan-after l m loan same =
    let n : map place_of_held m.held ≡ m.numbers = same.places ∙ (loan.own ∙ sym same.numbers) in
    record {
      kept = record {
        valid_providers = ap valid same.providers ∙ loan.kept.valid_providers;
        places = subst (λ (p : Providers). AllByRecursion (IsPlace p) m.numbers) (sym same.providers) (subst (λ ns. AllByRecursion (IsPlace l.providers) ns) (sym same.numbers) loan.kept.places);
        distinct = subst Distinct (sym same.numbers) loan.kept.distinct;
        paired = sym (length-places m.held) ∙ ap length n;
      };
      own = n;
    }
  where
    length-places : (hs : List Held) → length (map place_of_held hs) ≡ length hs
    length-places [] = refl
    length-places (h ∷ hs) = ap (λ k. suc k) (length-places hs)

ok-stands : (l m : Lending) (c : Call) (g : Go) (a : Applied) → IsStanding l → taken a (cells m) ≡ step l.providers (cells l) c g → (taken a (cells m) ≡ None → m ≡ l) → SoundWorld l.providers (cells m)
ok-stands l m c g (applied.Step x after) k e still =
    let s : Step = record { outcome = x; after = after; world = cells m } in
    step-sound l.providers (cells l) c g s k.valid_providers k.sound (sym e)
ok-stands l m c g applied.Blocked k e still = subst (λ (n : Lending). SoundWorld l.providers (cells n)) (sym (still refl)) k.sound

stays : {E : Type 0} (l m : Lending) (c : Call) (g : Go) (r : Result Applied E) → IsStanding l → IfOk r (λ a. taken a (cells m) ≡ step l.providers (cells l) c g) → IfOk r (λ a. taken a (cells m) ≡ None → m ≡ l) → OnErr r (IsUnchanged l m) → SoundWorld l.providers (cells m)
stays l m c g (Ok a) k e still err = ok-stands l m c g a k e still
stays l m c g (Err x) k e still err = subst (SoundWorld l.providers) (sym err) k.sound

pub stands : {E : Type 0} (l m : Lending) (c : Call) (g : Go) (r : Result Applied E) → IsStanding l → IfOk r (λ a. taken a (cells m) ≡ step l.providers (cells l) c g) → IfOk r (λ a. taken a (cells m) ≡ None → m ≡ l) → SameCells l m → OnErr r (IsUnchanged l m) → IsStanding m
stands l m c g r k e still same err = record {
  valid_providers = ap valid same.providers ∙ k.valid_providers;
  sound = subst (λ (p : Providers). SoundWorld p (cells m)) (sym same.providers) (stays l m c g r k e still err);
  loan = loan-after l m k.loan same;
}

-- the world that lent cells are
abbrev pub standing : Lending → Standing
standing l = record { providers = l.providers; cells = cells l }

-- unchanged cells are the same world
pub unchanged : (l m : Lending) → SameCells l m → IsUnchanged l m → standing m ≡ standing l
unchanged l m same h = ap (λ (p : Providers). record { providers = p; cells = cells m }) same.providers ∙ ap (λ (w : World). record { providers = l.providers; cells = w }) h
