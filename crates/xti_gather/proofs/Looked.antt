-- What is read from the touched cells of a look is what is read from the whole world.
use Rattle.std.proofs.Common.{◌≡◌, ℕ, true, List, Option, Some, sym, ap, ◌∙◌, subst}
use Rattle.std.specs.Prelude.{is_some}
use Rattle.std.specs.List.{AllByRecursion}
use Rattle.xti_base.specs.declared.kinds.Fd.{Fd}
use Rattle.xti_model.specs.declared.call.Call.TheVariants.{TLookAt}
use Rattle.xti_model.specs.declared.entry.Entry.{Entry}
use Rattle.xti_model.specs.declared.profile.Providers.{Providers}
use Rattle.xti_model.specs.Profile.{valid}
use Rattle.xti_model.specs.Touched.{named, touched}
use Rattle.xti_model.specs.World.{World, Cell, only}
use Rattle.xti_laws.specs.Laws.{Within}
use Rattle.xti_laws.proofs.Touched.{within-named}
use Rattle.xti_laws.proofs.TouchedAgain.{named-some}
use Rattle.xti_laws.specs.Invariant.{SoundWorld}
use Rattle.xti_laws.proofs.SoundSteps.{after-sound}
use Rattle.xti_lent.specs.Lending.{Lending, cell_lent, cells, cells_by}
use Rattle.xti_lent.specs.Fit.{AllLent}
use Rattle.xti_core.proofs.SomeCells.{Sub, there_and, there-among, there-only, those-within}
use Rattle.xti_hall_rule.specs.declared.view.View.{View}
use Rattle.xti_hall_rule.specs.Histories.{part, after}
use Rattle.xti_gather.specs.Lends.{Lends}
use Rattle.xti_gather.proofs.Wholes.{kept, whole-world, Of, sub-of}

-- what cells that have all that a look at the descriptor names settle alone
abbrev pub SettledByNamed : {A : Type 0} → (Providers → World → A) → Fd → Type 0
SettledByNamed f fd = (p : Providers) (t : List ℕ) (w : World) → Within t (named p w (TLookAt fd)) → f p (only t w) ≡ f p w

-- some cells of a world, among them all that a look touches there
read-some : {A : Type 0} (f : Providers → World → A) (p : Providers) (lt at : ℕ → Option Cell) (fd : Fd) → SettledByNamed f fd → Sub lt at → AllByRecursion (λ n. is_some (lt n) ≡ true) (touched p (cells_by p lt) (TLookAt fd)) → f p (cells_by p lt) ≡ f p (cells_by p at)
read-some f p lt at fd settled sub all = ap (f p) (sym these) ∙ settled p t W within
  where
    ns : List ℕ
    ns = touched p (cells_by p lt) (TLookAt fd)

    t : List ℕ
    t = there_and p lt ns

    W : World
    W = cells_by p at

    these : only t W ≡ cells_by p lt
    these = there-only p lt at t sub (λ n l. there-among p lt ns n all l)

    enough : Within t (touched p (only t W) (TLookAt fd))
    enough = rw these (those-within p lt ns)

    there : Within t (named p (only t W) (TLookAt fd))
    there = within-named p t (only t W) (TLookAt fd) enough

    within : Within t (named p W (TLookAt fd))
    within = subst (Within t) (named-some p t W (TLookAt fd) there) there

-- the lent cells have all that a look touches, and are as after this history: what is read from them is read from the whole world
pub read-whole : {A : Type 0} (f : Providers → World → A) (v : View) (l : Lending) (fd : Fd) (h : List Entry) → SettledByNamed f fd → Lends v l → AllLent l (touched l.providers (cells l) (TLookAt fd)) → ((n : ℕ) (m : Cell) → cell_lent l n ≡ Some m → m ≡ part n (after v.setting h))
    → f l.providers (cells l) ≡ f v.setting.providers (after v.setting h)
read-whole f v l fd h settled lends all parts =
    read-some f l.providers (cell_lent l) (kept W) fd settled of.sub all ∙ (ap (f l.providers) (whole-world l.providers W sound) ∙ ap (λ (p : Providers). f p W) lends.providers)
  where
    W : World
    W = after v.setting h

    sound : SoundWorld l.providers W
    sound = subst (λ (p : Providers). SoundWorld p W) (sym lends.providers) (after-sound v.setting.providers h (ap valid (sym lends.providers) ∙ lends.loan.kept.valid_providers))

    of : Of l W
    of = sub-of l W lends.loan sound parts
