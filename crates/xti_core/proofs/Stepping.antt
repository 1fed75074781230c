-- A step on the lent cells of a sound world is the step of the world.
use Rattle.std.proofs.Common.{◌≡◌, ℕ, ◌+◌, ◌<◌, true, false, List, Option, Some, None, refl, sym, ap, ◌∙◌, arith}
use Rattle.std.specs.Prelude.{is_some, option_map}
use Rattle.xti_model.specs.declared.call.Call.{Call}
use Rattle.xti_model.specs.declared.call.Call.TheVariants as call
use Rattle.xti_model.specs.declared.entry.Go.{Go}
use Rattle.xti_model.specs.declared.entry.Applied.{Applied}
use Rattle.xti_model.specs.declared.entry.Applied.TheVariants as applied
use Rattle.xti_model.specs.declared.profile.Providers.{Providers}
use Rattle.xti_model.specs.Endpoint.{Endpoint}
use Rattle.xti_model.specs.World.{World, Cell, endpoint, places, is_among, only, without}
use Rattle.xti_model.specs.Step.{step}
use Rattle.xti_model.specs.Touched.{touched}
use Rattle.xti_model.specs.History.{left_by}
use Rattle.xti_model.specs.Calls.Open.{no_fd}
use Rattle.xti_end.specs.Taken.{taken}
use Rattle.xti_laws.specs.Laws.{KnowsNoMore, TellsNone, Within, restrict}
use Rattle.xti_laws.proofs.TouchedCells.{some-reads, some-changes}
use Rattle.xti_laws.proofs.TouchedAgain.{touched-some}
use Rattle.xti_laws.specs.Invariant.{SoundWorld}
use Rattle.xti_laws.proofs.Lent.{open-fits}
use Rattle.xti_lent.specs.Lending.{cells_by}
use Rattle.xti_core.proofs.SomeCells.{Sub, AllThere, there_and, there-among, there-only, those-within}
use Rattle.xti_core.proofs.Settling.{same-at, stepped, settled}

pub no-open : (p : Providers) (w : World) → SoundWorld p w → endpoint p w no_fd ≡ None
no-open p w s = go (endpoint p w no_fd) refl
  where
    go : (o : Option Endpoint) → endpoint p w no_fd ≡ o → o ≡ None
    go None i = refl
    go (Some e) i = let f = open-fits p w no_fd e s i in absurd (omega (arith, f))

pub tells : (p : Providers) (w : World) (c : Call) → endpoint p w no_fd ≡ None → TellsNone p w c
tells p w (call.TOpen prov nonblock) h = λ i. h
tells p w other h = tt

-- some cells that have all that a call touches there: the call touches just these in the whole world
pub touched-all : (p : Providers) (lt at : ℕ → Option Cell) (c : Call) → Sub lt at → AllThere lt (touched p (cells_by p lt) c) → touched p (cells_by p lt) c ≡ touched p (cells_by p at) c
touched-all p lt at c u h =
    let ns = touched p (cells_by p lt) c in
    let e = there-only p lt at (there_and p lt ns) u (λ n l. there-among p lt ns n h l) in
    ap (λ (w : World). touched p w c) (sym e) ∙ touched-some p (there_and p lt ns) (cells_by p at) c (rw e (those-within p lt ns))

-- a lent cell stands for that of its place
abbrev pub lent_or_kept : Option Cell → Option Cell → Option Cell
lent_or_kept None kept = kept
lent_or_kept (Some c) kept = Some c

pub lent-sub : (lt k : ℕ → Option Cell) → Sub lt (λ n. lent_or_kept (lt n) (k n))
lent-sub lt k n i = go (lt n) i
  where
    go : (o : Option Cell) → is_some o ≡ true → o ≡ lent_or_kept o (k n)
    go None i = cc
    go (Some c) i = refl

pub none-lent : (o : Option Cell) (kept : Option Cell) → is_some o ≡ false → lent_or_kept o kept ≡ kept
none-lent None kept e = refl
none-lent (Some c) kept e = cc

-- some cells of a sound world are lent, among them all that the call touches there
pub step-whole : (p : Providers) (lt mt k : ℕ → Option Cell) (c : Call) (g : Go) (a : Applied) → SoundWorld p (cells_by p (λ n. lent_or_kept (lt n) (k n))) → AllThere lt (touched p (cells_by p lt) c)
    → taken a (cells_by p mt) ≡ step p (cells_by p lt) c g → taken a (cells_by p (λ n. lent_or_kept (mt n) (k n))) ≡ step p (cells_by p (λ n. lent_or_kept (lt n) (k n))) c g
step-whole p lt mt k c g a s h e = go a e
  where
    at : ℕ → Option Cell
    at n = lent_or_kept (lt n) (k n)

    bt : ℕ → Option Cell
    bt n = lent_or_kept (mt n) (k n)

    t : List ℕ
    t = there_and p lt (touched p (cells_by p lt) c)

    there : (n : ℕ) → n < places p + 1 → is_among t n ≡ is_some (lt n)
    there n l = there-among p lt (touched p (cells_by p lt) c) n h l

    these : only t (cells_by p at) ≡ cells_by p lt
    these = there-only p lt at t (lent-sub lt k) there

    enough : Within t (touched p (only t (cells_by p at)) c)
    enough = rw these (those-within p lt (touched p (cells_by p lt) c))

    knows : KnowsNoMore p (cells_by p at)
    knows = omega (arith, s.registered.agreement.places_known)

    reads : step p (only t (cells_by p at)) c g ≡ option_map (restrict t) (step p (cells_by p at) c g)
    reads = some-reads p t (cells_by p at) c g enough knows (tells p (cells_by p at) c (no-open p (cells_by p at) s))

    changes : without t (left_by (cells_by p at) (step p (cells_by p at) c g)) ≡ without t (cells_by p at)
    changes = some-changes p t (cells_by p at) c g enough

    go : (a : Applied) → taken a (cells_by p mt) ≡ step p (cells_by p lt) c g → taken a (cells_by p bt) ≡ step p (cells_by p at) c g
    go applied.Blocked i = settled p t at at c g applied.Blocked reads changes (λ n l q. refl) (i ∙ ap (λ w. step p w c g) (sym these))
    go (applied.Step x after) i =
        let r = stepped p lt c g in
        let m : cells_by p mt ≡ left_by (cells_by p lt) (step p (cells_by p lt) c g) = ap (left_by (cells_by p lt)) i in
        let same : (n : ℕ) → n < places p + 1 → is_some (mt n) ≡ is_some (lt n) = λ n l. ap is_some (same-at p mt r.next n l (m ∙ r.is)) ∙ r.there n in
        let those : only t (cells_by p bt) ≡ cells_by p mt = there-only p mt bt t (lent-sub mt k) (λ n l. there n l ∙ sym (same n l)) in
        settled p t at bt c g (applied.Step x after) reads changes
        (λ n l q. none-lent (mt n) (k n) (same n l ∙ (sym (there n l) ∙ q)) ∙ sym (none-lent (lt n) (k n) (sym (there n l) ∙ q)))
        (ap (taken (applied.Step x after)) those ∙ (i ∙ ap (λ w. step p w c g) (sym these)))
