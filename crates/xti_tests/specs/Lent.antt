-- Cells that are lent to a step.
use Rattle.std.specs.Prelude.{◌≡◌, [], None}
use Rattle.xti_model.specs.Profile.{usual}
use Rattle.xti_lent.specs.Lending.{Lending}

-- nothing is lent yet, and the providers have the usual values
abbrev pub HasNothing : Lending → Type 0
HasNothing lent = lent ≡ record { providers = usual; numbers = []; held = []; registry = None }
