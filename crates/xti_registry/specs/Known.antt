-- What contracts see of the switch's table.
use Rattle.std.specs.Prelude.{ℕ, Bool, true, false, not, ◌==◌, ◌&&◌, List, [], Option, Some, None, option_map}
use Rattle.xti_base.specs.declared.kinds.Fd.{Fd}
use Rattle.xti_base.specs.declared.kinds.Prov.{Prov}
use Rattle.xti_model.specs.declared.profile.Providers.{Providers}
use Rattle.xti_model.specs.World.{Switch, Binding, descriptor}
use Rattle.xti_model.specs.Switch.{is_bound, is_listening, descriptors, least, place_at}

-- what contracts see of the switch's table: the switch, and how many more addresses are given with no memory
pub record Known : Type 0 where
  pub switch : Switch
  pub spare : ℕ

-- the bindings to an address: all of them, or those of endpoints with a queue
abbrev pub is_there : Prov → List ℕ → Bool → Binding → Bool
is_there prov address false = is_bound prov address
is_there prov address true = is_listening prov address

-- of another descriptor than this one, where one is named
abbrev pub is_other : Option ℕ → Binding → Bool
is_other None b = true
is_other (Some fd) b = not (b.fd == fd)

-- the bindings to an address but for those of one descriptor
abbrev pub is_asked : Prov → List ℕ → Bool → Option ℕ → Binding → Bool
is_asked prov address listening except b = is_other except b && is_there prov address listening b

-- the least descriptor of these
abbrev pub least_asked : Switch → Prov → List ℕ → Bool → Option ℕ → Option ℕ
least_asked s prov address listening except = least (descriptors (is_asked prov address listening except) s)

-- the number of a descriptor, if there is one
abbrev pub number_of : Option Fd → Option ℕ
number_of fd = option_map (λ (fd : Fd). fd.0) fd

-- the descriptor of a place, as often as it was closed
abbrev pub descriptor_at : Providers → ℕ → Switch → ℕ
descriptor_at p place s = descriptor p (place_at s place).generation place

-- the binding of an address to a descriptor
abbrev pub binding_to : Prov → List ℕ → Fd → Bool → Binding
binding_to prov address fd listening = record { prov = prov; address = address; fd = fd.0; listening = listening }

-- the endpoint that is bound to the address, or that listens there; of several the least descriptor
abbrev pub bound_at : Switch → Prov → List ℕ → Bool → Option ℕ
bound_at s prov address listening = least_asked s prov address listening None

-- a switch that has these bindings, whatever it knows of places
abbrev pub switch_with : List Binding → Switch
switch_with bindings = record { bindings = bindings; places = [] }
