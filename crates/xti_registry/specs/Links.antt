-- Entries of addresses, and the links between them.
use Rattle.std.specs.Prelude.{◌≡◌, ◌≢◌, ◌<◌, ◌==◌, ℕ, Bool, true, false, List, Contains, filter, not, [], Option, Some, None, length, map, slice_index_or}
use Rattle.slab.specs.Slab.{get, ContainsKey}
use Rattle.xti_base.specs.declared.kinds.Fd.{Fd}
use Rattle.xti_base.specs.declared.kinds.Prov.{Prov}
use Rattle.xti_base.specs.declared.kinds.Prov.TheVariants.{Other}
use Rattle.xti_model.specs.World.{Binding}
use Rattle.xti_registry.specs.Known.{least_asked, number_of, switch_with}
use Rattle.xti_registry.specs.declared.addresses.Addresses.{Addresses}
use Rattle.xti_registry.specs.declared.addresses.Entry.{Entry}
use Rattle.xti_registry.specs.declared.addresses.Link.{Link}
use Rattle.xti_registry.specs.declared.addresses.Link.TheVariants.{Head, After}

abbrev pub binding_of : Option Entry → Binding
binding_of None = record { prov = Other; address = []; fd = 0; listening = false }
binding_of (Some e) = e.binding

abbrev pub from_of : Option Entry → Option Link
from_of None = None
from_of (Some e) = Some e.from

abbrev pub next_of : Option Entry → Option ℕ
next_of None = None
next_of (Some e) = e.next

-- the binding under a key
abbrev pub binding_at : Addresses → ℕ → Binding
binding_at a key = binding_of (get a.entries key)

-- the bindings in the order in which the addresses were given
abbrev pub bindings_of : Addresses → List Binding
bindings_of a = map (binding_at a) a.order.items

-- the bindings of other descriptors
abbrev pub bindings_without : ℕ → Addresses → List Binding
bindings_without fd a = filter (λ b. not (b.fd == fd)) (bindings_of a)

-- the least descriptor that is bound to the address, or that listens there, but for one that is named
abbrev pub least_here : Addresses → Prov → List ℕ → Bool → Option Fd → Option ℕ
least_here a prov address listening except = least_asked (switch_with (bindings_of a)) prov address listening (number_of except)

-- the link that an entry says leads to it
abbrev pub link_to : Addresses → ℕ → Option Link
link_to a key = from_of (get a.entries key)

-- the key that a link leads to
abbrev pub linked : Addresses → Link → Option ℕ
linked a (Head chain) = slice_index_or a.heads.items chain None
linked a (After key) = next_of (get a.entries key)

-- there is such a link
abbrev pub IsLink : Addresses → Link → Type 0
IsLink a (Head chain) = chain < length a.heads.items
IsLink a (After key) = ContainsKey a.entries key

-- a link leads elsewhere, and all else is as it was
pub record IsRelinked (old new : Addresses) (link : Link) (to : Option ℕ) : Type 0 where
  pub there : linked new link ≡ to
  pub others : (other : Link) → other ≢ link → linked new other ≡ linked old other
  pub back : (key : ℕ) → link_to new key ≡ link_to old key
  pub bindings : (key : ℕ) → binding_at new key ≡ binding_at old key

-- the entry under a key, if there is one, says that another link leads to it, and all else is as it was
pub record IsLedBy (old new : Addresses) (to : Option ℕ) (link : Link) : Type 0 where
  pub there : (key : ℕ) → to ≡ Some key → link_to new key ≡ Some link
  pub others : (key : ℕ) → to ≢ Some key → link_to new key ≡ link_to old key
  pub forth : (other : Link) → linked new other ≡ linked old other
  pub bindings : (key : ℕ) → binding_at new key ≡ binding_at old key

abbrev pub has_descriptor : ℕ → Option Entry → Bool
has_descriptor fd None = false
has_descriptor fd (Some e) = e.binding.fd == fd

-- whether the entry under a key is the descriptor's
abbrev pub is_of : Addresses → ℕ → ℕ → Bool
is_of a fd key = has_descriptor fd (get a.entries key)

-- the keys of the order whose entries are not the descriptor's
abbrev pub keys_without : Addresses → ℕ → List ℕ
keys_without a fd = filter (λ key. not (is_of a fd key)) a.order.items

-- a key of the order, under which the entry is the descriptor's
pub record IsKeyOf (a : Addresses) (fd key : ℕ) : Type 0 where
  pub listed : Contains a.order.items key
  pub found : is_of a fd key ≡ true

-- the keys of the order but for one
abbrev pub other_keys : ℕ → Addresses → List ℕ
other_keys key a = filter (λ other. not (other == key)) a.order.items

-- under each key but one the binding is as it was
abbrev pub KeepsOtherBindings : ℕ → Addresses → Addresses → Type 0
KeepsOtherBindings key old new = (other : ℕ) → other ≢ key → binding_at new other ≡ binding_at old other
