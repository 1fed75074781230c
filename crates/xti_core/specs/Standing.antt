-- What contracts see of a world for one thread, and what stays true of it.
use Rattle.std.specs.Prelude.{◌≡◌, true, false, length, Result, IsOk}
use Rattle.xti_model.specs.declared.call.Call.{Call}
use Rattle.xti_model.specs.declared.entry.Applied.{Applied}
use Rattle.xti_model.specs.declared.entry.Go.{Go}
use Rattle.xti_model.specs.declared.profile.Providers.{Providers}
use Rattle.xti_model.specs.Memory.{may_run_out}
use Rattle.xti_model.specs.Profile.{valid}
use Rattle.xti_model.specs.Step.{step}
use Rattle.xti_model.specs.World.{World}
use Rattle.xti_end.specs.Taken.{taken}
use Rattle.xti_lent.specs.Kept.{IsKept}
use Rattle.xti_lent.specs.Lending.{Lending, cells}
use Rattle.xti_lent.specs.Fit.{AtOwnPlaces}
use Rattle.xti_laws.specs.Invariant.{SoundWorld}

-- the providers of a world, and its cells
pub record Standing : Type 0 where
  pub providers : Providers
  pub cells : World

-- the answer, and the cells that are left, are those of one step of the call
abbrev pub IsStep : Call → Go → Standing → Standing → Applied → Type 0
IsStep call go old new a = taken a new.cells ≡ step old.providers old.cells call go

-- memory does not run out in a step of the call where the definition says that it may not
abbrev pub IsSureAt : {A E : Type 0} → Standing → Call → Go → Result A E → Type 0
IsSureAt s call go r = may_run_out s.providers s.cells call go ≡ false → IsOk r

-- each endpoint is lent once, at its own place
pub record IsLoan (l : Lending) : Type 0 where
  pub kept : IsKept l.providers l.numbers (length l.held)
  pub own : AtOwnPlaces l

-- the lent cells are a sound world, so all cells are lent
pub record IsStanding (l : Lending) : Type 0 where
  pub valid_providers : valid l.providers ≡ true
  pub sound : SoundWorld l.providers (cells l)
  pub loan : IsLoan l
