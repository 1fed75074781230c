-- Symbols that wait, in worlds whose sends are of bytes.
use Rattle.std.specs.Prelude.{ℕ, true, ◌≤◌, ◌≡◌, All, Some}
use Rattle.xti_base.specs.declared.limits.TheConstants.{MOST_ENDS, MOST_EXPEDITED_ENDS}
use Rattle.xti_model.specs.declared.profile.Providers.{Providers}
use Rattle.xti_model.specs.Provider.{is_stream}
use Rattle.xti_model.specs.Endpoint.{Endpoint}
use Rattle.xti_model.specs.World.{World, endpoint}
use Rattle.xti_model.specs.Symbols.{end_of_message, ends_waiting}

-- few ends wait among normal data and among expedited, each symbol is a byte or an end, and a stream has no ends
pub record FewEnds (p : Providers) (e : Endpoint) : Type 0 where
  pub normal : ends_waiting e.normal ≤ MOST_ENDS
  pub expedited : ends_waiting e.expedited ≤ MOST_EXPEDITED_ENDS
  pub normal_symbols : All (λ s. s ≤ end_of_message) e.normal
  pub expedited_symbols : All (λ s. s ≤ end_of_message) e.expedited
  pub stream : is_stream p e.prov ≡ true → ends_waiting e.normal ≡ 0

abbrev pub SoundSymbols : Providers → World → Type 0
SoundSymbols p w = (fd : ℕ) (e : Endpoint) → endpoint p w fd ≡ Some e → FewEnds p e
