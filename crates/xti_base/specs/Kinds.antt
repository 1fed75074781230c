-- States, events, service types and provider names: numbers and words (XNS, <xti.h> and state tables).
use Rattle.std.specs.Prelude.{ℕ, Bool, ◌==◌, List, codes, if◌then◌else◌}
use Rattle.std.specs.Str.{bytes_eq}
use Rattle.xti_base.specs.declared.kinds.State.{State}
use Rattle.xti_base.specs.declared.kinds.State.TheVariants.{T_UNINIT, T_UNBND, T_IDLE, T_OUTCON, T_INCON, T_DATAXFER, T_OUTREL, T_INREL}
use Rattle.xti_base.specs.declared.kinds.Event.{Event}
use Rattle.xti_base.specs.declared.kinds.Event.TheVariants.{T_LISTEN, T_CONNECT, T_DATA, T_EXDATA, T_DISCONNECT, T_UDERR, T_ORDREL, T_GODATA, T_GOEXDATA}
use Rattle.xti_base.specs.declared.kinds.ServType.{ServType}
use Rattle.xti_base.specs.declared.kinds.ServType.TheVariants.{T_COTS, T_COTS_ORD, T_CLTS}
use Rattle.xti_base.specs.declared.kinds.Prov.{Prov}
use Rattle.xti_base.specs.declared.kinds.Prov.TheVariants.{Ticots, Ticotsord, Ticlts, Other}

abbrev pub state_number : State → ℕ
state_number T_UNINIT = 0
state_number T_UNBND = 1
state_number T_IDLE = 2
state_number T_OUTCON = 3
state_number T_INCON = 4
state_number T_DATAXFER = 5
state_number T_OUTREL = 6
state_number T_INREL = 7

abbrev pub state_name : State → List ℕ
state_name T_UNINIT = codes "T_UNINIT"
state_name T_UNBND = codes "T_UNBND"
state_name T_IDLE = codes "T_IDLE"
state_name T_OUTCON = codes "T_OUTCON"
state_name T_INCON = codes "T_INCON"
state_name T_DATAXFER = codes "T_DATAXFER"
state_name T_OUTREL = codes "T_OUTREL"
state_name T_INREL = codes "T_INREL"

abbrev pub same_state : State → State → Bool
same_state s t = state_number s == state_number t

abbrev pub event_number : Event → ℕ
event_number T_LISTEN = 1
event_number T_CONNECT = 2
event_number T_DATA = 4
event_number T_EXDATA = 8
event_number T_DISCONNECT = 16
event_number T_UDERR = 64
event_number T_ORDREL = 128
event_number T_GODATA = 256
event_number T_GOEXDATA = 512

abbrev pub event_name : Event → List ℕ
event_name T_LISTEN = codes "T_LISTEN"
event_name T_CONNECT = codes "T_CONNECT"
event_name T_DATA = codes "T_DATA"
event_name T_EXDATA = codes "T_EXDATA"
event_name T_DISCONNECT = codes "T_DISCONNECT"
event_name T_UDERR = codes "T_UDERR"
event_name T_ORDREL = codes "T_ORDREL"
event_name T_GODATA = codes "T_GODATA"
event_name T_GOEXDATA = codes "T_GOEXDATA"

abbrev pub service_number : ServType → ℕ
service_number T_COTS = 1
service_number T_COTS_ORD = 2
service_number T_CLTS = 3

abbrev pub service_name : ServType → List ℕ
service_name T_COTS = codes "T_COTS"
service_name T_COTS_ORD = codes "T_COTS_ORD"
service_name T_CLTS = codes "T_CLTS"

abbrev pub same_service : ServType → ServType → Bool
same_service s t = service_number s == service_number t

abbrev pub prov_number : Prov → ℕ
prov_number Ticots = 0
prov_number Ticotsord = 1
prov_number Ticlts = 2
prov_number Other = 3

abbrev pub prov_name : Prov → List ℕ
prov_name Ticots = codes "ticots"
prov_name Ticotsord = codes "ticotsord"
prov_name Ticlts = codes "ticlts"
prov_name Other = codes "other"

abbrev pub same_prov : Prov → Prov → Bool
same_prov p q = prov_number p == prov_number q

-- each other name names no provider
abbrev pub prov_of_name : List ℕ → Prov
prov_of_name name =
    if bytes_eq name (codes "ticots") then Ticots else
    if bytes_eq name (codes "ticotsord") then Ticotsord else
    if bytes_eq name (codes "ticlts") then Ticlts else Other
