-- Addresses and places, as the switch knows them.
use Rattle.std.specs.Prelude.{ℕ, zero, suc, ◌+◌, ◌==◌, ◌&&◌, not, nat_lt, Bool, true, false, List, [], ◌∷◌, ◌++◌, length, map, filter, position, slice_index_or, slice_set, min, Option, Some, None, is_some, bytes_eq, decimal}
use Rattle.std.specs.List.{list_any}
use Rattle.xti_base.specs.Kinds.{same_prov}
use Rattle.xti_base.specs.declared.kinds.Prov.{Prov}
use Rattle.xti_model.specs.Provider.{is_provider}
use Rattle.xti_model.specs.declared.profile.Providers.{Providers}
use Rattle.xti_model.specs.World.{Switch, Binding, Place, last_generation, closed_place}

-- bound to the address at the provider
abbrev pub is_bound : Prov → List ℕ → Binding → Bool
is_bound prov address b = same_prov b.prov prov && bytes_eq b.address address

-- bound there with a queue
abbrev pub is_listening : Prov → List ℕ → Binding → Bool
is_listening prov address b = is_bound prov address b && b.listening

-- the lesser of a number and another, where there is one
abbrev pub less : ℕ → Option ℕ → Option ℕ
less n None = Some n
less n (Some m) = Some (min n m)

-- the least number of a list
abbrev pub least : List ℕ → Option ℕ
least [] = None
least (n ∷ ns) = less n (least ns)

-- the descriptors of these bindings
abbrev pub descriptors : (Binding → Bool) → Switch → List ℕ
descriptors test s = map (λ b. b.fd) (filter test s.bindings)

-- the endpoint that is bound to the address; of several the least descriptor
abbrev pub bound : Switch → Prov → List ℕ → Option ℕ
bound s prov address = least (descriptors (is_bound prov address) s)

-- whether an endpoint with a queue is bound to the address
abbrev pub has_listener : Switch → Prov → List ℕ → Bool
has_listener s prov address = list_any (is_listening prov address) s.bindings

-- the other endpoint that listens at the address
abbrev pub listener : Switch → Prov → List ℕ → ℕ → Option ℕ
listener s prov address fd = least (filter (λ other. not (other == fd)) (descriptors (is_listening prov address) s))

-- `#` and a number
abbrev pub numbered_address : ℕ → List ℕ
numbered_address n = 35 ∷ decimal n

-- the first free address from a number on
abbrev pub free_address : Switch → Prov → ℕ → ℕ → List ℕ
free_address s prov n zero = numbered_address n
free_address s prov n (suc more) = elim (is_some (bound s prov (numbered_address n))) [ true ↦ free_address s prov (n + 1) more | false ↦ numbered_address n ]

-- the address of a bind; an empty one is replaced by the provider's choice
abbrev pub chosen : Switch → Prov → List ℕ → List ℕ
chosen s prov [] = free_address s prov 0 (length s.bindings)
chosen s prov (a ∷ address) = a ∷ address

-- one binding more, after the others
abbrev pub give_address : Prov → List ℕ → ℕ → Bool → Switch → Switch
give_address prov address fd listening s = record s { bindings = s.bindings ++ record { prov = prov; address = address; fd = fd; listening = listening } ∷ [] }

-- all bindings of the descriptor are gone
abbrev pub give_up_address : ℕ → Switch → Switch
give_up_address fd s = record s { bindings = filter (λ b. not (b.fd == fd)) s.bindings }

-- whether a place is closed and can be used
abbrev pub is_free : Providers → Place → Bool
is_free p place = not place.is_open && nat_lt place.generation (last_generation p)

-- the least place that can be used
abbrev pub free_place : Providers → Switch → Option ℕ
free_place p s = position (is_free p) s.places

-- no place opens for a name that names no provider
abbrev pub if_provider : Bool → Option ℕ → Option ℕ
if_provider true place = place
if_provider false place = None

-- the place that opens: none where the name names no provider, or no place can be used
abbrev pub opening_place : Providers → Switch → Prov → Option ℕ
opening_place p s prov = if_provider (is_provider prov) (free_place p s)

-- a place that is not known counts as closed
abbrev pub place_at : Switch → ℕ → Place
place_at s n = slice_index_or s.places n closed_place

-- what is known of one place changes
abbrev pub set_place : ℕ → Place → Switch → Switch
set_place n p s = record s { places = slice_set s.places n p }

-- the place opens
abbrev pub mark_open : ℕ → Switch → Switch
mark_open n s = set_place n (record (place_at s n) { is_open = true }) s

-- the place closes, and its generation rises
abbrev pub mark_closed : ℕ → Switch → Switch
mark_closed n s = set_place n (record { generation = (place_at s n).generation + 1; is_open = false }) s
