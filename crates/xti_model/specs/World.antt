-- A world: numbered cells, one for each place and one for the switch.
-- All of them are there or only some. What is asked of a cell that is not there is answered as for a closed place.
use Rattle.std.specs.Prelude.{ℕ, zero, suc, ◌+◌, ◌-◌, ◌*◌, ◌/◌, ◌%◌, ◌==◌, not, Bool, false, List, [], ◌∷◌, ◌++◌, Option, Some, None, option_and_then, find, map, filter, replicate, if◌then◌else◌}
use Rattle.std.specs.List.{list_any}
use Rattle.xti_base.specs.declared.limits.TheConstants.{PLACES_ONE, MOST_PLACES, DESCRIPTORS}
use Rattle.xti_base.specs.declared.kinds.Prov.{Prov}
use Rattle.xti_base.specs.declared.kinds.State.{State}
use Rattle.xti_base.specs.declared.kinds.State.TheVariants.{T_UNINIT}
use Rattle.xti_model.specs.declared.profile.Providers.{Providers}
use Rattle.xti_model.specs.declared.profile.Version.{Version}
use Rattle.xti_model.specs.declared.profile.Version.TheVariants.{One, Two}
use Rattle.xti_model.specs.Endpoint.{Endpoint}

-- an address that an endpoint is bound to
pub record Binding : Type 0 where
  pub prov : Prov
  pub address : List ℕ
  pub fd : ℕ
  pub listening : Bool

-- what the switch knows of a place: how often it was closed, and whether it is open
pub record Place : Type 0 where
  pub generation : ℕ
  pub is_open : Bool

-- what is common to all places: who has which address, and what is known of each place
pub record Switch : Type 0 where
  pub bindings : List Binding
  pub places : List Place

-- a place: how often it was closed, and the endpoint that is open there; or the switch
pub data Cell : Type 0 where
  endpoint_cell : ℕ → Option Endpoint → Cell
  switch_cell : Switch → Cell

-- a cell and its number
pub record Numbered : Type 0 where
  pub number : ℕ
  pub cell : Cell

-- the cells of a world, or some of them
abbrev pub World : Type 0
World = List Numbered

-- how many places a version has
abbrev pub places_of : Version → ℕ
places_of One = PLACES_ONE
places_of Two = MOST_PLACES

-- how many places there are
abbrev pub places : Providers → ℕ
places p = places_of p.version

-- the switch's cell comes after those of the places
abbrev pub switch_number : Providers → ℕ
switch_number p = places p

-- a descriptor is the place, and a generation times the number of places
abbrev pub descriptor : Providers → ℕ → ℕ → ℕ
descriptor p generation place = places p * generation + place

-- the place of a descriptor, which is its cell's number
abbrev pub place_of : Providers → ℕ → ℕ
place_of p fd = fd % places p

-- the generation of a descriptor
abbrev pub generation_of : Providers → ℕ → ℕ
generation_of p fd = fd / places p

-- a place that was closed so often is not used again, so that no descriptor is the number that stands for none
abbrev pub last_generation : Providers → ℕ
last_generation p = DESCRIPTORS / places p - 1

-- the cells of so many closed places, from a number on
abbrev pub closed_places : ℕ → ℕ → World
closed_places from zero = []
closed_places from (suc n) = record { number = from; cell = endpoint_cell 0 None } ∷ closed_places (from + 1) n

-- a place that was never open
abbrev pub closed_place : Place
closed_place = record { generation = 0; is_open = false }

-- no address is bound
abbrev pub opening_switch : ℕ → Switch
opening_switch n = record { bindings = []; places = replicate n closed_place }

-- every place is closed, none was open, and no address is bound
unfoldable pub opening : Providers → World
opening p = closed_places 0 (places p) ++ record { number = switch_number p; cell = switch_cell (opening_switch (places p)) } ∷ []

-- the cell has this number
abbrev pub is_numbered : ℕ → Numbered → Bool
is_numbered number c = c.number == number

-- the cell with this number
abbrev pub cell_at : World → ℕ → Option Numbered
cell_at w number = find (is_numbered number) w

-- the endpoint in the cell, where it is of this generation
abbrev pub endpoint_in : ℕ → Cell → Option Endpoint
endpoint_in generation (endpoint_cell g body) = if g == generation then body else None
endpoint_in generation (switch_cell s) = None

-- the endpoint that is open with this descriptor
abbrev pub endpoint : Providers → World → ℕ → Option Endpoint
endpoint p w fd = option_and_then (λ c. endpoint_in (generation_of p fd) c.cell) (cell_at w (place_of p fd))

-- T_UNINIT where no endpoint is open
abbrev pub state_of : Option Endpoint → State
state_of None = T_UNINIT
state_of (Some e) = e.state

-- what is known where the switch is not there
abbrev pub empty_switch : Switch
empty_switch = record { bindings = []; places = [] }

-- the switch in its cell
abbrev pub switch_in : Cell → Switch
switch_in (endpoint_cell g body) = empty_switch
switch_in (switch_cell s) = s

-- where the cell is not there, nothing is known
abbrev pub switch_or_empty : Option Numbered → Switch
switch_or_empty None = empty_switch
switch_or_empty (Some c) = switch_in c.cell

-- the switch of a world
abbrev pub the_switch : Providers → World → Switch
the_switch p w = switch_or_empty (cell_at w (switch_number p))

-- a change of one cell
pub data Change : Type 0 where
  -- of the endpoint that is open with this descriptor
  at_endpoint : ℕ → (Endpoint → Endpoint) → Change
  at_switch : (Switch → Switch) → Change
  -- an endpoint opens at a closed place
  opens_place : ℕ → Endpoint → Change
  -- the endpoint that is open with this descriptor closes
  closes_endpoint : ℕ → Change

-- the cell that the change is of
abbrev pub cell_number : Providers → Change → ℕ
cell_number p (at_endpoint fd f) = place_of p fd
cell_number p (at_switch f) = switch_number p
cell_number p (opens_place place e) = place
cell_number p (closes_endpoint fd) = place_of p fd

-- the endpoint changes if it is of this generation
abbrev pub change_endpoint : ℕ → (Endpoint → Endpoint) → Cell → Cell
change_endpoint generation f (endpoint_cell g None) = endpoint_cell g None
change_endpoint generation f (endpoint_cell g (Some e)) = endpoint_cell g (Some (if g == generation then f e else e))
change_endpoint generation f (switch_cell s) = switch_cell s

-- only the switch's cell has one
abbrev pub change_switch : (Switch → Switch) → Cell → Cell
change_switch f (endpoint_cell g body) = endpoint_cell g body
change_switch f (switch_cell s) = switch_cell (f s)

-- the place opens, if it is closed
abbrev pub open_cell : Endpoint → Cell → Cell
open_cell e (endpoint_cell g None) = endpoint_cell g (Some e)
open_cell e (endpoint_cell g (Some other)) = endpoint_cell g (Some other)
open_cell e (switch_cell s) = switch_cell s

-- the place closes, if it is open in this generation
abbrev pub close_cell : ℕ → Cell → Cell
close_cell generation (endpoint_cell g None) = endpoint_cell g None
close_cell generation (endpoint_cell g (Some e)) = if g == generation then endpoint_cell (g + 1) None else endpoint_cell g (Some e)
close_cell generation (switch_cell s) = switch_cell s

-- what a change makes of its cell: nothing where the endpoint is not open, and where the place is open already
abbrev pub new_cell : Providers → Change → Cell → Cell
new_cell p (at_endpoint fd f) cell = change_endpoint (generation_of p fd) f cell
new_cell p (at_switch f) cell = change_switch f cell
new_cell p (opens_place place e) cell = open_cell e cell
new_cell p (closes_endpoint fd) cell = close_cell (generation_of p fd) cell

-- a cell with another number stays
abbrev pub change_numbered : ℕ → (Cell → Cell) → Numbered → Numbered
change_numbered number f c = if c.number == number then record c { cell = f c.cell } else c

-- the cell with this number changes, where it is there
abbrev pub change : ℕ → (Cell → Cell) → World → World
change number f w = map (change_numbered number f) w

-- the changes one after the other
abbrev pub changed : Providers → World → List Change → World
changed p w [] = w
changed p w (c ∷ cs) = changed p (change (cell_number p c) (new_cell p c) w) cs

-- whether the number is one of these
abbrev pub is_among : List ℕ → ℕ → Bool
is_among numbers n = list_any (λ m. m == n) numbers

-- the cells with these numbers alone
abbrev pub only : List ℕ → World → World
only numbers w = filter (λ c. is_among numbers c.number) w

-- all other cells
abbrev pub without : List ℕ → World → World
without numbers w = filter (λ c. not (is_among numbers c.number)) w
