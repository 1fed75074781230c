-- What holds of a connection, in each direction, after any legal entries.
use Rattle.std.specs.Prelude.{ℕ, ◌≡◌, ◌<◌, not, Bool, true, false, List, [], ◌++◌, All, Option, Some, None, is_some, if◌then◌else◌}
use Rattle.xti_base.specs.declared.kinds.Prov.{Prov}
use Rattle.xti_base.specs.declared.kinds.State.{State}
use Rattle.xti_base.specs.declared.kinds.State.TheVariants.{T_OUTREL, T_INREL}
use Rattle.xti_model.specs.declared.profile.Providers.{Providers}
use Rattle.xti_model.specs.Provider.{is_stream}
use Rattle.xti_model.specs.Endpoint.{Endpoint, Target}
use Rattle.xti_model.specs.World.{World, endpoint}
use Rattle.xti_model.specs.Links.{names}
use Rattle.xti_model.specs.Streams.{Connection}
use Rattle.xti_laws.specs.Requests.{is_connected}
use Rattle.xti_laws_streams.specs.Laws.{Prefix}
use Rattle.xti_laws_streams.proofs.ConnectionEnds.{End}

-- the parts of an endpoint that matter to a connection: of the release, whether it waits
pub record View : Type 0 where
  pub prov : Prov
  pub state : State
  pub target : Option Target
  pub peer : Option ℕ
  pub normal : List ℕ
  pub expedited : List ℕ
  pub release : Bool

abbrev pub view : Endpoint → View
view e = record { prov = e.prov; state = e.state; target = e.target; peer = e.peer; normal = e.normal; expedited = e.expedited; release = is_some e.release }

-- what waits, expedited or normal
abbrev pub waiting_in : Bool → View → List ℕ
waiting_in k v = if k then v.expedited else v.normal

-- an endpoint is open, and this is its view
abbrev pub HasView : View → Option Endpoint → Type 0
HasView v None = ⊥
HasView v (Some e) = view e ≡ v

-- if an endpoint is open there, its peer is another
abbrev pub NotNamedBy : ℕ → Option Endpoint → Type 0
NotNamedBy fd None = Unit
NotNamedBy fd (Some e) = names fd e.peer ≡ false

-- what waits at x is the rest of what y sent
abbrev pub HoldsRest : End → End → View → Type 0
HoldsRest x y v = (k : Bool) → x.got k ++ waiting_in k v ≡ y.sent k

-- what x received is a prefix of what y sent
abbrev pub Prefixes : End → End → Type 0
Prefixes x y = (k : Bool) → Prefix (x.got k) (y.sent k)

-- x received all that y sent
abbrev pub GotAll : End → End → Type 0
GotAll x y = (k : Bool) → x.got k ≡ y.sent k

-- the view of an end whose life lasts; on a byte stream no end of a message waits
pub record LiveEnd (p : Providers) (c : Connection) (v : View) : Type 0 where
  pub in_connection : is_connected v.state ≡ true
  pub without_target : v.target ≡ None
  pub ends : c.has_ends ≡ not (is_stream p v.prov)
  pub stream : c.has_ends ≡ false → All (λ s. s < 256) v.normal

-- the end x with view v, where the life of its peer y with view u lasts too
pub record LinkedEnd (p : Providers) (w : World) (c : Connection) (x y : End) (v u : View) : Type 0 where
  pub here : HasView v (endpoint p w x.fd)
  pub live : LiveEnd p c v
  pub peer : v.peer ≡ Some y.fd
  pub holds_rest : HoldsRest x y v
  pub release : v.release ≡ true → u.state ≡ T_OUTREL
  pub released : x.got_release ≡ true → (v.state ≡ T_INREL) × (u.state ≡ T_OUTREL) × GotAll x y

-- the lives of both last
pub record BothLive (p : Providers) (w : World) (c : Connection) (x y : End) : Type 0 where
  pub v : View
  pub u : View
  pub x_end : LinkedEnd p w c x y v u
  pub y_end : LinkedEnd p w c y x u v

-- what is left at x by a peer whose life is over: the rest of what it sent; or nothing, where it broke the connection
pub data PeerGone (x y : End) (v : View) : Type 0 where
  rest_left : v.peer ≡ Some y.fd → HoldsRest x y v → PeerGone x y v
  was_broken : v.peer ≡ None → v.release ≡ false → v.normal ≡ [] → v.expedited ≡ [] → Prefixes x y → PeerGone x y v

-- the life of x lasts, and that of y is over; y's endpoint may be in another connection
pub record OneLive (p : Providers) (w : World) (c : Connection) (x y : End) : Type 0 where
  pub v : View
  pub here : HasView v (endpoint p w x.fd)
  pub live : LiveEnd p c v
  pub not_named : NotNamedBy x.fd (endpoint p w y.fd)
  pub peer_gone : PeerGone x y v
  pub released : x.got_release ≡ true → (v.state ≡ T_INREL) × GotAll x y
  pub other : Prefixes y x
  pub other_released : y.got_release ≡ true → (v.state ≡ T_OUTREL) × GotAll y x

-- the lives of both are over
pub record NoneLive (x y : End) : Type 0 where
  pub one : Prefixes x y
  pub other : Prefixes y x
  pub one_released : x.got_release ≡ true → GotAll x y
  pub other_released : y.got_release ≡ true → GotAll y x

-- by whether the life of each end is over
abbrev pub SoundWhere : Providers → World → Connection → End → End → Bool → Bool → Type 0
SoundWhere p w c x y false false = BothLive p w c x y
SoundWhere p w c x y false true = OneLive p w c x y
SoundWhere p w c x y true false = OneLive p w c y x
SoundWhere p w c x y true true = NoneLive x y

-- what holds of a connection between two ends
abbrev pub SoundConnection : Providers → World → Connection → End → End → Type 0
SoundConnection p w c x y = SoundWhere p w c x y x.is_over y.is_over
