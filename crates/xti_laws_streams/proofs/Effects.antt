-- What a step of an end does: to the end, to its peer, and to what was sent and received.
use Rattle.std.proofs.Common.{ℕ, Bool, true, false, List, [], ◌++◌, ◌≡◌, refl, sym, ap, ◌∙◌, eqb, ◌||◌, ◌<◌, All, Option, Some, None, append_assoc}
use Rattle.std.proofs.lemmas.Bool.{false≢true}
use Rattle.std.proofs.lemmas.List.{append-nil}
use Rattle.std.specs.List.{list_any}
use Rattle.xti_base.specs.Kinds.{same_state}
use Rattle.xti_base.specs.declared.kinds.State.TheVariants.{T_OUTCON, T_DATAXFER, T_OUTREL, T_INREL}
use Rattle.xti_model.specs.declared.profile.Providers.{Providers}
use Rattle.xti_model.specs.Endpoint.{Endpoint}
use Rattle.xti_model.specs.World.{World, endpoint}
use Rattle.xti_model.specs.Events.{sending, receiving}
use Rattle.xti_model.specs.declared.entry.Outcome.{Outcome}
use Rattle.xti_model.specs.History.{Going}
use Rattle.xti_model.specs.Streams.{Made, Connection, is_over, sending_of, taken_after, sent_by, got_by, sent_made, got_made}
use Rattle.xti_laws_streams.specs.Laws.{Prefix, is_release_receipt, receives_release}
use Rattle.xti_laws_streams.proofs.ConnectionEnds.{End, with_step}
use Rattle.xti_laws_streams.proofs.Invariant.{View, waiting_in, HasView, NotNamedBy, HoldsRest, Prefixes, GotAll, PeerGone, rest_left, was_broken}

-- the step adds nothing to what was sent, or to what was received
abbrev pub SendsNothing : Connection → Made → Type 0
SendsNothing c m = (k : Bool) → sent_made c k m ≡ []

abbrev pub GetsNothing : Connection → Made → Type 0
GetsNothing c m = (k : Bool) → got_made c k m ≡ []

-- the view u of the peer becomes f u, where the two are linked
abbrev pub PeerBecomes : Providers → World → World → ℕ → View → (View → View) → Type 0
PeerBecomes p w w' x v f = (y : ℕ) (u : View) → eqb y x ≡ false → v.peer ≡ Some y → u.peer ≡ Some x → u.target ≡ None → HasView u (endpoint p w y) → HasView (f u) (endpoint p w' y)

-- what a step may do to the peer: nothing, data comes to wait, the release does, or the connection is broken
abbrev pub same : View → View
same u = u

abbrev pub with_symbols : Bool → List ℕ → View → View
with_symbols true symbols u = record u { expedited = u.expedited ++ symbols }
with_symbols false symbols u = record u { normal = u.normal ++ symbols }

abbrev pub with_release : View → View
with_release u = record u { release = true }

abbrev pub cut_off : View → View
cut_off u = record u { target = None; peer = None; normal = []; expedited = []; release = false }

-- if an endpoint is open there, it has no peer
abbrev pub NamesNobody : Option Endpoint → Type 0
NamesNobody o = (x : ℕ) → NotNamedBy x o

-- a step of the call with this outcome neither sends nor receives, and is no receipt of the release
pub record TransfersNothing (c : Connection) (g : Going) (outcome : Outcome) : Type 0 where
  pub sends : (k : Bool) → sent_by c k g.so_far (sending_of g.call) (taken_after outcome) ≡ []
  pub gets : (k : Bool) → got_by c k outcome ≡ []
  pub releases : is_release_receipt g.call outcome ≡ false

-- what a step of the end x does, whose view was v
pub data Effect (p : Providers) (w w' : World) (c : Connection) (x : ℕ) (v : View) (m : Made) : Type 0 where
  changes_nothing : TransfersNothing c m.going m.outcome → HasView v (endpoint p w' x) → PeerBecomes p w w' x v same → Effect p w w' c x v m
  confirms : TransfersNothing c m.going m.outcome → v.state ≡ T_OUTCON → HasView (record v { state = T_DATAXFER }) (endpoint p w' x) → PeerBecomes p w w' x v same → Effect p w w' c x v m
  sends : list_any (same_state v.state) sending ≡ true → (e : Bool) (symbols : List ℕ) → HasView v (endpoint p w' x) → ((u : View) (k : Bool) → waiting_in k (with_symbols e symbols u) ≡ waiting_in k u ++ sent_made c k m) →
      (e ≡ false → c.has_ends ≡ false → All (λ s. s < 256) symbols) → GetsNothing c m → receives_release m ≡ false → PeerBecomes p w w' x v (with_symbols e symbols) → Effect p w w' c x v m
  receives : list_any (same_state v.state) receiving ≡ true → (normal expedited : List ℕ) → HasView (record v { normal = normal; expedited = expedited }) (endpoint p w' x) → SendsNothing c m →
      ((k : Bool) → got_made c k m ++ waiting_in k (record v { normal = normal; expedited = expedited }) ≡ waiting_in k v) →
      (c.has_ends ≡ false → All (λ s. s < 256) normal) → receives_release m ≡ false → PeerBecomes p w w' x v same → Effect p w w' c x v m
  -- its life is over, and the peer keeps what it has
  leaves : TransfersNothing c m.going m.outcome → is_over m.after ≡ true → NamesNobody (endpoint p w' x) → PeerBecomes p w w' x v same → Effect p w w' c x v m
  -- its life is over, and the peer is cut off
  breaks : TransfersNothing c m.going m.outcome → is_over m.after ≡ true → NamesNobody (endpoint p w' x) → PeerBecomes p w w' x v cut_off → Effect p w w' c x v m
  -- the release, in the first direction and in the other
  sends_release : TransfersNothing c m.going m.outcome → v.state ≡ T_DATAXFER → HasView (record v { state = T_OUTREL }) (endpoint p w' x) → PeerBecomes p w w' x v with_release → Effect p w w' c x v m
  sends_last : TransfersNothing c m.going m.outcome → v.state ≡ T_INREL → is_over m.after ≡ true → NamesNobody (endpoint p w' x) → PeerBecomes p w w' x v with_release → Effect p w w' c x v m
  gets_release : v.state ≡ T_DATAXFER → v.release ≡ true → v.normal ≡ [] → v.expedited ≡ [] → HasView (record v { state = T_INREL; release = false }) (endpoint p w' x) → SendsNothing c m → GetsNothing c m → PeerBecomes p w w' x v same → Effect p w w' c x v m
  gets_last : v.release ≡ true → v.normal ≡ [] → v.expedited ≡ [] → is_over m.after ≡ true → NamesNobody (endpoint p w' x) → SendsNothing c m → GetsNothing c m → PeerBecomes p w w' x v same → Effect p w w' c x v m

-- Streams after a step of x.

pub add-nothing : (before more : List ℕ) → more ≡ [] → before ++ more ≡ before
add-nothing before more h = ap (λ l. before ++ l) h ∙ append-nil before

pub rest-prefixes : (x y : End) (v : View) → HoldsRest x y v → Prefixes x y
rest-prefixes x y v j k = record { rest = waiting_in k v; is_rest = j k }

pub prefix-more : (got sent more : List ℕ) → Prefix got sent → Prefix got (sent ++ more)
prefix-more got sent more h = record { rest = h.rest ++ more; is_rest = sym (append_assoc got h.rest more) ∙ ap (λ l. l ++ more) h.is_rest }

pub gone-prefixes : (x y : End) (v : View) → PeerGone x y v → Prefixes x y
gone-prefixes x y v (rest_left n r) = rest-prefixes x y v r
gone-prefixes x y v (was_broken n d a b q) = q

module _ (c : Connection) (x y : End) (m : Made) where
  -- what the other end received is still a prefix
  pub more-sent : Prefixes y x → Prefixes y (with_step c x m)
  more-sent h k = prefix-more (y.got k) (x.sent k) (sent_made c k m) (h k)

  pub sent-same : SendsNothing c m → (k : Bool) → (with_step c x m).sent k ≡ x.sent k
  sent-same h k = add-nothing (x.sent k) (sent_made c k m) (h k)

  pub got-same : GetsNothing c m → (k : Bool) → (with_step c x m).got k ≡ x.got k
  got-same h k = add-nothing (x.got k) (got_made c k m) (h k)

  pub rest-same : (v : View) → GetsNothing c m → HoldsRest x y v → HoldsRest (with_step c x m) y v
  rest-same v h j k = ap (λ l. l ++ waiting_in k v) (got-same h k) ∙ j k

  pub rest-back : (u : View) → SendsNothing c m → HoldsRest y x u → HoldsRest y (with_step c x m) u
  rest-back u h j k = j k ∙ sym (sent-same h k)

  pub all-same : GetsNothing c m → GotAll x y → GotAll (with_step c x m) y
  all-same h j k = got-same h k ∙ j k

  pub all-back : SendsNothing c m → GotAll y x → GotAll y (with_step c x m)
  all-back h j k = j k ∙ sym (sent-same h k)

  pub prefixes-same : GetsNothing c m → Prefixes x y → Prefixes (with_step c x m) y
  prefixes-same h j k = record { rest = (j k).rest; is_rest = ap (λ l. l ++ (j k).rest) (got-same h k) ∙ (j k).is_rest }

  pub gone-same : (v : View) → GetsNothing c m → PeerGone x y v → PeerGone (with_step c x m) y v
  gone-same v h (rest_left n r) = rest_left n (rest-same v h r)
  gone-same v h (was_broken n d a b q) = was_broken n d a b (prefixes-same h q)

  -- whether the release was received before
  pub or-before : receives_release m ≡ false → (with_step c x m).got_release ≡ true → x.got_release ≡ true
  or-before h j = go x.got_release (receives_release m) h j
    where
      go : (b d : Bool) → d ≡ false → (b || d) ≡ true → b ≡ true
      go true d h j = refl
      go false true h j = absurd (false≢true (sym h))
      go false false h j = j
