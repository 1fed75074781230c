-- The place that opens.
use Rattle.std.proofs.Common.{◌≡◌, Bool, true, false, None, refl}
use Rattle.xti_base.specs.declared.kinds.Prov.{Prov}
use Rattle.xti_model.specs.declared.profile.Providers.{Providers}
use Rattle.xti_model.specs.Provider.{is_provider}
use Rattle.xti_model.specs.Switch.{if_provider, free_place, opening_place}
use Rattle.xti_model.specs.World.{Switch, empty_switch}

pub opens-of : (p : Providers) (s t : Switch) (prov : Prov) → t ≡ s → is_provider prov ≡ true → free_place p s ≡ opening_place p t prov
opens-of p s t prov e h = rw (h, e) refl

pub opens-none : (p : Providers) (t : Switch) (prov : Prov) → t ≡ empty_switch → None ≡ opening_place p t prov
opens-none p t prov e = rw e (go (is_provider prov))
  where
    go : (b : Bool) → None ≡ if_provider b None
    go true = refl
    go false = refl

pub opens-no-provider : (p : Providers) (t : Switch) (prov : Prov) → is_provider prov ≡ false → None ≡ opening_place p t prov
opens-no-provider p t prov h = rw h refl
