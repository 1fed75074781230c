-- A step that neither end makes in its life leaves the connection as it is.
use Rattle.std.proofs.Common.{ℕ, Bool, true, false, ◌+◌, ◌≡◌, refl, sym, ap, ◌∙◌, eqb, not, ◌&&◌, Option, Some, None, arith}
use Rattle.std.proofs.lemmas.Bool.{eqb-true, eq-eqb, ne_eqb}
use Rattle.xti_model.specs.declared.call.Call.{Call}
use Rattle.xti_model.specs.declared.call.Call.TheVariants as call
use Rattle.xti_model.specs.declared.entry.Go.{Go}
use Rattle.xti_model.specs.declared.profile.Providers.{Providers}
use Rattle.xti_model.specs.Endpoint.{Endpoint}
use Rattle.xti_model.specs.World.{World, endpoint, the_switch}
use Rattle.xti_model.specs.Switch.{opening_place}
use Rattle.xti_model.specs.Links.{names}
use Rattle.xti_model.specs.Step.{Step, plan, step}
use Rattle.xti_model.specs.Touched.{fd_of}
use Rattle.xti_model.specs.Streams.{Connection}
use Rattle.xti_laws_streams.proofs.ConnectionEnds.{End}
use Rattle.xti_laws_streams.proofs.Invariant.{View, HasView, NotNamedBy, LiveEnd, LinkedEnd, BothLive, OneLive, PeerGone, rest_left, was_broken, SoundConnection, SoundWhere}
use Rattle.xti_laws.specs.Requests.{is_connected}
use Rattle.xti_laws.specs.Requests.{SoundLinks}
use Rattle.xti_laws_streams.proofs.NonLinking.{peer_at, call_fd, plan-non_linking, open-non_linking}
use Rattle.xti_laws_streams.proofs.Bystanders.{plan-view, plan-not_named, step-keeps}
use Rattle.xti_laws.proofs.StepWays.{not-both, flip}
use Rattle.xti_laws_streams.proofs.AcceptByOthers.{accept-view, accept-not_named}

next-differs : (z : ℕ) → eqb z (z + 1) ≡ false
next-differs z = ne_eqb z (z + 1) (λ e. omega (arith, e))

-- where the call's endpoint names the end x as its peer, x names another
abbrev pub Unlinked : Providers → World → ℕ → ℕ → View → Type 0
Unlinked p w fd x v = (peer : ℕ) → peer_at (endpoint p w fd) ≡ Some peer → eqb x peer ≡ true → names fd v.peer ≡ false

-- of a call that names a descriptor or none
abbrev pub UnlinkedBy : Providers → World → Option ℕ → ℕ → View → Type 0
UnlinkedBy p w None x v = Unit
UnlinkedBy p w (Some fd) x v = Unlinked p w fd x v

-- an end that is open and in a connection; calls of others do not touch it
pub record OpenEnd (p : Providers) (w : World) (x : ℕ) (v : View) : Type 0 where
  pub here : HasView v (endpoint p w x)
  pub in_connection : is_connected v.state ≡ true
  pub without_target : v.target ≡ None

pub call-view : (p : Providers) (w : World) (c : Call) (g : Go) (x : ℕ) (v : View) (s : Step) → SoundLinks p w → OpenEnd p w x v → names x (fd_of c) ≡ false → UnlinkedBy p w (fd_of c) x v
    → step p w c g ≡ Some s → HasView v (endpoint p s.world x)
unfolding step plan
call-view p w (call.TOpen prov nonblock) g x v s f k n u h = step-keeps p w (plan p w (call.TOpen prov nonblock) g) (HasView v) x
    (plan-view (x + 1) None x v (record { other = next-differs x; without_target = k.without_target; unlinked = λ peer t j. absurd (none-some peer t) }) (plan p w (call.TOpen prov nonblock) g) (open-non_linking p (the_switch p w) prov nonblock (x + 1) None (opening_place p (the_switch p w) prov))) k.here s h
  where
    none-some : (peer : ℕ) → None ≡ Some peer → ⊥
    none-some peer t = cc
call-view p w (call.TAccept fd resfd seq opt udata) g x v s f k n u h = accept-view p w fd.0 resfd.0 seq.0 opt udata x v s f k.here k.in_connection k.without_target (flip fd.0 x n) h
call-view p w other g x v s f k n u h = step-keeps p w (plan p w other g) (HasView v) x
    (plan-view (call_fd other) (peer_at (endpoint p w (call_fd other))) x v (record { other = flip (call_fd other) x n; without_target = k.without_target; unlinked = u }) (plan p w other g) (plan-non_linking p w other g refl)) k.here s h

pub call-not_named : (p : Providers) (w : World) (c : Call) (g : Go) (x z : ℕ) (v : View) (s : Step) → SoundLinks p w → OpenEnd p w x v → names x (fd_of c) ≡ false → NotNamedBy x (endpoint p w z)
    → step p w c g ≡ Some s → NotNamedBy x (endpoint p s.world z)
unfolding step plan
call-not_named p w (call.TAccept fd resfd seq opt udata) g x z v s f k n a h = accept-not_named p w fd.0 resfd.0 seq.0 opt udata x z v s f k.here k.in_connection k.without_target (flip fd.0 x n) a h
call-not_named p w other g x z v s f k n a h = step-keeps p w (plan p w other g) (NotNamedBy x) z (plan-not_named x (call_fd other) (peer_at (endpoint p w (call_fd other))) z (plan p w other g) (plan-non_linking p w other g refl)) a s h

-- an end that its former peer does not name is linked with nobody
not_named-unlinked : (p : Providers) (w : World) (fd x y : ℕ) (v : View) → (v.peer ≡ Some y) → NotNamedBy x (endpoint p w y) → Unlinked p w fd x v
not_named-unlinked p w fd x y v i a peer t j = go (eqb y fd) refl
  where
    named : (o : Option Endpoint) → NotNamedBy x o → peer_at o ≡ Some peer → ⊥
    named None a t = none-some t
      where
        none-some : None ≡ Some peer → ⊥
        none-some t = cc
    named (Some e) a t = not-both (names x e.peer) a (ap (names x) t ∙ eq-eqb peer x (sym (eqb-true x peer j)))

    go : (d : Bool) → eqb y fd ≡ d → names fd v.peer ≡ false
    go false m = ap (names fd) i ∙ m
    go true m = absurd (named (endpoint p w y) a (ap (λ z. peer_at (endpoint p w z)) (eqb-true y fd m) ∙ t))

alone-unlinked : (p : Providers) (w : World) (fd x : ℕ) (v : View) → v.peer ≡ None → Unlinked p w fd x v
alone-unlinked p w fd x v i peer t j = ap (names fd) i

pub gone-unlinked : (p : Providers) (w : World) (o : Option ℕ) (x y : End) (v : View) → PeerGone x y v → NotNamedBy x.fd (endpoint p w y.fd) → UnlinkedBy p w o x.fd v
gone-unlinked p w None x y v l a = tt
gone-unlinked p w (Some fd) x y v (rest_left i r) a = not_named-unlinked p w fd x.fd y.fd v i a
gone-unlinked p w (Some fd) x y v (was_broken i d n e q) a = alone-unlinked p w fd x.fd v i

-- the peer did not make the call, so the endpoint of the call is not linked with the end
pub away-unlinked : (p : Providers) (w : World) (o : Option ℕ) (x y : ℕ) (v : View) → v.peer ≡ Some y → names y o ≡ false → UnlinkedBy p w o x v
away-unlinked p w None x y v i n = tt
away-unlinked p w (Some fd) x y v i n = λ peer t q. ap (names fd) i ∙ flip fd y n

pub open-end : (p : Providers) (w : World) (c : Connection) (x : ℕ) (v : View) → HasView v (endpoint p w x) → LiveEnd p c v → OpenEnd p w x v
open-end p w c x v h l = record { here = h; in_connection = l.in_connection; without_target = l.without_target }

-- Both ends of a connection.

-- what holds of an end holds in each world in which its view is the same
pub linked-moved : (p : Providers) (w w' : World) (c : Connection) (x y : End) (v u : View) → LinkedEnd p w c x y v u → HasView v (endpoint p w' x.fd) → LinkedEnd p w' c x y v u
linked-moved p w w' c x y v u h l = record { here = l; live = h.live; peer = h.peer; holds_rest = h.holds_rest; release = h.release; released = h.released }

pub one-moved : (p : Providers) (w w' : World) (c : Connection) (x y : End) (b : OneLive p w c x y) → HasView b.v (endpoint p w' x.fd) → NotNamedBy x.fd (endpoint p w' y.fd) → OneLive p w' c x y
one-moved p w w' c x y b l a = record { v = b.v; here = l; live = b.live; not_named = a; peer_gone = b.peer_gone; released = b.released; other = b.other; other_released = b.other_released }

both-outside : (p : Providers) (w : World) (c : Connection) (x y : End) (call : Call) (g : Go) (s : Step) → SoundLinks p w → BothLive p w c x y → names x.fd (fd_of call) ≡ false → names y.fd (fd_of call) ≡ false
    → step p w call g ≡ Some s → BothLive p s.world c x y
both-outside p w c x y call g s f b n m h = record {
  v = b.v;
  u = b.u;
  x_end = linked-moved p w s.world c x y b.v b.u b.x_end (call-view p w call g x.fd b.v s f (open-end p w c x.fd b.v b.x_end.here b.x_end.live) n (away-unlinked p w (fd_of call) x.fd y.fd b.v b.x_end.peer m) h);
  y_end = linked-moved p w s.world c y x b.u b.v b.y_end (call-view p w call g y.fd b.u s f (open-end p w c y.fd b.u b.y_end.here b.y_end.live) m (away-unlinked p w (fd_of call) y.fd x.fd b.u b.y_end.peer n) h);
}

one-outside : (p : Providers) (w : World) (c : Connection) (x y : End) (call : Call) (g : Go) (s : Step) → SoundLinks p w → OneLive p w c x y → names x.fd (fd_of call) ≡ false → step p w call g ≡ Some s → OneLive p s.world c x y
one-outside p w c x y call g s f b n h =
    let k : OpenEnd p w x.fd b.v = open-end p w c x.fd b.v b.here b.live in
    one-moved p w s.world c x y b (call-view p w call g x.fd b.v s f k n (gone-unlinked p w (fd_of call) x y b.v b.peer_gone b.not_named) h) (call-not_named p w call g x.fd y.fd b.v s f k n b.not_named h)

-- neither end makes the step in its life
pub outside : (p : Providers) (w : World) (c : Connection) (x y : End) (call : Call) (g : Go) (s : Step) → SoundLinks p w → SoundConnection p w c x y
    → (not x.is_over && names x.fd (fd_of call)) ≡ false → (not y.is_over && names y.fd (fd_of call)) ≡ false → step p w call g ≡ Some s → SoundConnection p s.world c x y
outside p w c x y call g s f h n m k = go x.is_over y.is_over h n m
  where
    go : (b d : Bool) → SoundWhere p w c x y b d → (not b && names x.fd (fd_of call)) ≡ false → (not d && names y.fd (fd_of call)) ≡ false → SoundWhere p s.world c x y b d
    go false false h n m = both-outside p w c x y call g s f h n m k
    go false true h n m = one-outside p w c x y call g s f h n k
    go true false h n m = one-outside p w c y x call g s f h m k
    go true true h n m = h
