-- The buffers of the structures of XTI, by a provider's limits.
use Rattle.std.specs.Prelude.{ℕ, Bool, true, false, List, [], ◌∷◌, replicate, max}
use Rattle.std.specs.List.{AllByRecursion}
use Rattle.xti_base.specs.declared.kinds.ServType.{ServType}
use Rattle.xti_base.specs.declared.kinds.ServType.TheVariants.{T_CLTS}
use Rattle.xti_base.specs.declared.limit.Limit.{Limit}
use Rattle.xti_base.specs.declared.limit.Limit.TheVariants.{At}
use Rattle.xti_base.specs.declared.limit.Info.{Info}
use Rattle.xti_base.specs.declared.structures.StructKind.{StructKind}
use Rattle.xti_base.specs.declared.structures.StructKind.TheVariants as kind
use Rattle.xti_base.specs.declared.structures.Bufs.{Bufs}

abbrev pub is_of_connections : StructKind → Bool
is_of_connections kind.Call = true
is_of_connections kind.Dis = true
is_of_connections other = false

abbrev pub is_of_datagrams : StructKind → Bool
is_of_datagrams kind.UnitData = true
is_of_datagrams kind.UdError = true
is_of_datagrams other = false

-- the service doesn't have the structure
abbrev pub is_refused : ServType → StructKind → Bool
is_refused T_CLTS k = is_of_connections k
is_refused other k = is_of_datagrams k

-- the limits that a structure's buffers have
abbrev pub limits_of : Info → StructKind → List Limit
limits_of i kind.Bind = i.addr ∷ []
limits_of i kind.OptMgmt = i.options ∷ []
limits_of i kind.Call = i.addr ∷ i.options ∷ i.connect ∷ i.discon ∷ []
limits_of i kind.Dis = i.discon ∷ []
limits_of i kind.UnitData = i.addr ∷ i.options ∷ i.tsdu ∷ []
limits_of i kind.UdError = i.addr ∷ i.options ∷ []
limits_of i kind.Info = []

-- the limit is a number of bytes
abbrev pub IsAt : Limit → Type 0
IsAt (At n) = Unit {0}
IsAt other = ⊥

abbrev pub AreAt : Info → StructKind → Type 0
AreAt i k = AllByRecursion IsAt (limits_of i k)

abbrev pub size : Limit → ℕ
size (At n) = n
size other = 0

-- zero bytes of address, options and data, so many of each
abbrev pub bufs : ℕ → ℕ → ℕ → Bufs
bufs addr opt udata = record { addr = replicate addr 0; opt = replicate opt 0; udata = replicate udata 0 }

abbrev pub buffers : Info → StructKind → Bufs
buffers i kind.Bind = bufs (size i.addr) 0 0
buffers i kind.OptMgmt = bufs 0 (size i.options) 0
buffers i kind.Call = bufs (size i.addr) (size i.options) (max (size i.connect) (size i.discon))
buffers i kind.Dis = bufs 0 0 (size i.discon)
buffers i kind.UnitData = bufs (size i.addr) (size i.options) (size i.tsdu)
buffers i kind.UdError = bufs (size i.addr) (size i.options) 0
buffers i kind.Info = bufs 0 0 0
