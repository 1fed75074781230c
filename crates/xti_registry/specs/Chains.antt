-- The chains in which bindings are looked up: a binding stands in the chain of its address's word.
use Rattle.std.specs.Prelude.{◌≡◌, ◌≤◌, ◌<◌, ◌+◌, ◌==◌, ◌↔◌, ℕ, List, [], ◌∷◌, Option, Some, None, length, filter, reverse, vec_capacity, All}
use Rattle.slab.specs.Slab.{ContainsKey, HasRoomFor}
use Rattle.xti_registry.specs.Links.{binding_at, link_to, linked}
use Rattle.xti_registry.specs.Word.{binding_chain}
use Rattle.xti_registry.specs.declared.addresses.Addresses.{Addresses}
use Rattle.xti_registry.specs.declared.addresses.Link.{Link}
use Rattle.xti_registry.specs.declared.addresses.Link.TheVariants.{Head, After}
use Rattle.xti_registry.specs.declared.binding.TheConstants.{CHAINS}

-- from this key on, just these keys follow one another
abbrev pub Leads : (Link → Option ℕ) → Option ℕ → List ℕ → Type 0
Leads link first [] = first ≡ None
Leads link first (key ∷ keys) = (first ≡ Some key) × Leads link (link (After key)) keys

-- those of these keys whose bindings stand in a chain
abbrev pub keys_in : Addresses → ℕ → List ℕ → List ℕ
keys_in a chain = filter (λ key. binding_chain (binding_at a key) == chain)

-- each key of the order has an entry; a link leads to an entry just where that says so; each chain has just its keys, the latest first
pub record IsChained (a : Addresses) : Type 0 where
  pub heads : length a.heads.items ≡ CHAINS
  pub known : All (ContainsKey a.entries) a.order.items
  pub links : (link : Link) (key : ℕ) → (linked a link ≡ Some key) ↔ (link_to a key ≡ Some link)
  pub chains : (chain : ℕ) → chain < CHAINS
      → Leads (linked a) (linked a (Head chain)) (reverse (keys_in a chain a.order.items))

-- so many more addresses can be given with no memory
pub record HasRoom (a : Addresses) (more : ℕ) : Type 0 where
  pub entries : HasRoomFor a.entries more
  pub order : length a.order.items + more ≤ vec_capacity a.order
