-- What contracts see of the cells that a step was lent.
use Rattle.std.specs.Prelude.{◌≡◌, ℕ, ◌+◌, ◌==◌, Bool, true, List, [], ◌∷◌, ◌++◌, Option, Some, None, IfSome, option_map, option_and_then, is_some, if◌then◌else◌}
use Rattle.std.specs.Borrow.{Bor}
use Rattle.std.specs.List.{flat_map}
use Rattle.std.specs.Option.{option_copied}
use Rattle.xti_base.specs.declared.kinds.Fd.{Fd}
use Rattle.xti_model.specs.declared.profile.Providers.{Providers}
use Rattle.xti_model.specs.Endpoint.{Endpoint}
use Rattle.xti_model.specs.Links.{linked, if_back}
use Rattle.xti_model.specs.World.{World, Cell, Switch, switch_cell, places, switch_number, endpoint, the_switch}
use Rattle.xti_model.specs.Robin.{numbers}
use Rattle.xti_registry.specs.Known.{Known}
use Rattle.xti_end.specs.Held.{Held, cell, is_open, parts}

-- the providers of the step; the endpoints that are lent, with their places' numbers in the same order; and the switch's table
pub record Lending : Type 0 where
  pub providers : Providers
  pub numbers : List ℕ
  pub held : List Held
  pub registry : Option Known

-- the endpoint under a number
abbrev pub held_in : List ℕ → List Held → ℕ → Option Held
held_in [] hs n = None
held_in (m ∷ ms) [] n = None
held_in (m ∷ ms) (h ∷ hs) n = if m == n then Some h else held_in ms hs n

abbrev pub held_at : Lending → ℕ → Option Held
held_at l n = held_in l.numbers l.held n

-- another endpoint in its place
abbrev pub put_in : List ℕ → List Held → ℕ → Held → List Held
put_in [] hs n h = hs
put_in (m ∷ ms) [] n h = []
put_in (m ∷ ms) (x ∷ hs) n h = if m == n then h ∷ hs else x ∷ put_in ms hs n h

abbrev pub with_held : Lending → ℕ → Held → Lending
with_held l n h = record l { held = put_in l.numbers l.held n h }

abbrev pub with_registry : Lending → Known → Lending
with_registry l k = record l { registry = Some k }

-- without the endpoint under a number; the others stay in their order
abbrev pub numbers_without : List ℕ → ℕ → List ℕ
numbers_without [] n = []
numbers_without (m ∷ ms) n = if m == n then ms else m ∷ numbers_without ms n

abbrev pub held_without : List ℕ → List Held → ℕ → List Held
held_without [] hs n = hs
held_without (m ∷ ms) [] n = []
held_without (m ∷ ms) (h ∷ hs) n = if m == n then hs else h ∷ held_without ms hs n

abbrev pub without_place : Lending → ℕ → Lending
without_place l n = record l { numbers = numbers_without l.numbers n; held = held_without l.numbers l.held n }

-- one more endpoint under a number
abbrev pub lending : Lending → ℕ → Held → Lending
lending l n h = record l { numbers = l.numbers ++ n ∷ []; held = l.held ++ h ∷ [] }

-- the cell with a number, where it is lent: a place's, or the switch's
abbrev pub cell_lent : Lending → ℕ → Option Cell
cell_lent l n = if n == switch_number l.providers then option_map (λ k. switch_cell k.switch) l.registry else option_map cell (held_at l n)

abbrev pub is_lent : Lending → ℕ → Bool
is_lent l n = is_some (cell_lent l n)

abbrev pub numbered_cell : ℕ → Option Cell → World
numbered_cell n None = []
numbered_cell n (Some c) = record { number = n; cell = c } ∷ []

-- cells by rising number: those of the places, and then the switch's
unfoldable pub cells_by : Providers → (ℕ → Option Cell) → World
cells_by p at = flat_map (λ n. numbered_cell n (at n)) (numbers 0 (places p + 1))

-- the lent cells
abbrev pub cells : Lending → World
cells l = cells_by l.providers (cell_lent l)

-- the endpoint that is open with the descriptor, among those that are lent
abbrev pub open_at : Lending → ℕ → Option Endpoint
open_at l fd = endpoint l.providers (cells l) fd

-- the switch, as far as it is lent
abbrev pub lent_switch : Lending → Switch
lent_switch l = the_switch l.providers (cells l)

-- the number of a descriptor, if there is one
abbrev pub number_of : Option Fd → Option ℕ
number_of fd = option_map (λ (fd : Fd). fd.0) fd

-- the endpoint behind a reference, if there is one; it is open
abbrev pub seen : Option (Bor Held) → Option Endpoint
seen o = option_map parts (option_copied o)

abbrev pub IsSeen : Option (Bor Held) → Type 0
IsSeen o = IfSome o (λ e. is_open e.now ≡ true)

-- the endpoint that is linked with one that names this peer
abbrev pub linked_with : Lending → ℕ → Option ℕ → Option Endpoint
linked_with l fd peer = option_and_then (λ number. option_and_then (if_back fd) (open_at l number)) peer

-- the endpoint that one with the descriptor is linked with, among those that are lent
abbrev pub linked_in : Lending → ℕ → Endpoint → Option Endpoint
linked_in l fd e = linked l.providers (cells l) fd e
