-- The world that C begins with.
use Rattle.std.specs.Prelude.{true}
use Rattle.xti_model.specs.Profile.{usual_two}
use Rattle.xti_model.specs.declared.profile.Providers.{Providers}
use Rattle.xti_model.specs.World.{opening}
use Rattle.xti_core.specs.Standing.{Standing}

-- the providers of C programs: those of version 2, with the usual values, and data may go with an orderly release
abbrev pub c_providers : Providers
c_providers = record usual_two { ticotsord = record usual_two.ticotsord { reldata = true } }

-- their opening world
abbrev pub c_opening : Standing
c_opening = record { providers = c_providers; cells = opening c_providers }
