-- What fit cells know of a lent endpoint.
use Rattle.std.proofs.Common.{◌≡◌, ℕ, List, Option, Some, None, length}
use Rattle.std.specs.Prelude.{is_some}
use Rattle.xti_model.specs.declared.profile.Providers.{Providers}
use Rattle.xti_model.specs.Sound.{Agrees}
use Rattle.xti_model.specs.Switch.{place_at}
use Rattle.xti_model.specs.World.{places}
use Rattle.xti_registry.specs.Known.{Known}
use Rattle.xti_end.specs.Held.{Held}
use Rattle.xti_lent.specs.Lending.{Lending, held_at}
use Rattle.xti_lent.specs.Fit.{IsFit, Agree, KnowsPlaces, KnownTo, IsSound}
use Rattle.xti_lent.proofs.Open.{own-place, held-all}

known-by : (p : Providers) (o : Option Known) (held : List Held) (k : Known) → o ≡ Some k → Agree p o held → KnowsPlaces p k.switch held
known-by p None held k e a = cc
known-by p (Some j) held k e a = let s : j ≡ k = cc in rw s at a

-- the switch knows each place
pub places-known : (l : Lending) (k : Known) → IsFit l → l.registry ≡ Some k → length k.switch.places ≡ places l.providers
places-known l k fit e = (known-by l.providers l.registry l.held k e fit.agree).places_known

-- the switch agrees with each lent endpoint
pub known : (l : Lending) (n : ℕ) (h : Held) (k : Known) → IsFit l → l.registry ≡ Some k → held_at l n ≡ Some h → Agrees l.providers k.switch h.place h.generation h.body
known l n h k fit ek eh = held-all (KnownTo l.providers k.switch) l.numbers l.held n h eh (known-by l.providers l.registry l.held k ek fit.agree).each_agrees

-- what the switch knows of the place of a lent endpoint
pub record AtPlace (k : Known) (n : ℕ) (h : Held) : Type 0 where
  pub place : h.place ≡ n
  pub generation : (place_at k.switch n).generation ≡ h.generation
  pub openness : (place_at k.switch n).is_open ≡ is_some h.body

pub at-place : (l : Lending) (n : ℕ) (h : Held) (k : Known) → IsFit l → l.registry ≡ Some k → held_at l n ≡ Some h → AtPlace k n h
at-place l n h k fit ek eh =
    let o = own-place l.numbers l.held n h fit.places eh in
    let a = known l n h k fit ek eh in
    record {
      place = o;
      generation = rw o at a.generation_known;
      openness = rw o at a.openness_known;
    }

-- each lent endpoint is sound
pub sound-at : (l : Lending) (n : ℕ) (h : Held) → IsFit l → held_at l n ≡ Some h → IsSound h
sound-at l n h fit e = held-all IsSound l.numbers l.held n h e fit.sound
