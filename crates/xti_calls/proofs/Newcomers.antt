-- The first caller is ready for a call.
use Rattle.std.proofs.Common.{◌≡◌, ℕ, zero, suc, [], replicate, refl}
use Rattle.std.specs.Prelude.{Option, None}
use lib.ListN.{get_or}
use Rattle.xti_model.specs.World.{Cell}
use Rattle.xti_lent.specs.Lending.{Lending}
use Rattle.xti_hall_rule.specs.declared.setting.Setting.{Setting}
use Rattle.xti_hall_rule.specs.Rule.{newcomer}
use Rattle.xti_gather.specs.Lends.{IsEmpty}
use Rattle.xti_calls.specs.Library.{IsReady}

none_held : (n i : ℕ) → get_or {A = Option Cell} (replicate n None) i None ≡ None
none_held zero i = refl
none_held (suc n) zero = refl
none_held (suc n) (suc i) = none_held n i

pub newcomer_ready : (p : Setting) (l : Lending) → IsEmpty l → l.providers ≡ p.providers → IsReady (newcomer p) l []
newcomer_ready p l empty same = record { idle = (refl, λ i. none_held p.cells i); empty = empty; providers = same; mark = refl; cells = tt }
