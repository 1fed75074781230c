-- How the run of an accept is put together.
use Rattle.std.proofs.Common.{◌≡◌, ◌+◌, ◌-◌, ◌<◌, ◌≤◌, ℕ, suc, Bool, List, [], Option, Some, None, Result, Err, false, refl, subst, sym, arith}
use Rattle.xti_base.specs.declared.kinds.Fd.{Fd}
use Rattle.xti_base.specs.declared.kinds.Seq.{Seq}
use Rattle.xti_model.specs.declared.call.Call.TheVariants.{TAccept}
use Rattle.xti_sock.specs.Sights.{Sight}
use Rattle.xti_sock.specs.declared.fail.SockFail.{SockFail}
use Rattle.xti_sock.specs.declared.fail.SockFail.TheVariants.{Again}
use Rattle.xti_sock.specs.declared.heard.Heard.TheVariants.{Disconnect, Listen}
use Rattle.xti_sock.specs.declared.limits.TheConstants.{MOST_TURNS}
use Rattle.xti_sock.specs.declared.listener.Listener.{Listener}
use Rattle.xti_sock.specs.declared.phase.Phase.TheVariants as phase
use Rattle.xti_sock.specs.declared.sock.Sock.{Sock}
use Rattle.xti_sock.specs.Accepting.{Next, accept, accept_at, accept_turns, forget, listener, serve, take, turn, turn_by}
use Rattle.xti_sock.specs.Keeping.{oldest}
use Rattle.xti_sock.specs.Scripts.{Answer, Script, Asked, Runs, is_wrong, made}
use Rattle.xti_sock.specs.Turns.{GoesOn, Leads, left_by, sock_of}

-- a part of a call that goes on with another part
leads-on : (x y : Next → Script) (s u t : Sight) (r : Option (Result Sock SockFail)) (l : Listener) → ((again : Next) → GoesOn (x again) s (y again) u) → Leads y u r l t → Leads x s r l t
leads-on x y s u t None l f h = (h.0, λ again v a k r. f again v a k (h.1 again v a k r))
leads-on x y s u t (Some r) l f h = λ again. f again t (made r) (left_by r (sock_of l)) (h again)

-- a turn that takes a request where none is kept
pub turn-taken : (nonblock : Bool) (fd : Fd) (kept : List Seq) (spare : Option Fd) (s u t : Sight) (m : Listener) (r : Option (Result Sock SockFail)) (l : Listener)
    → oldest kept ≡ None → Leads (λ again. take again fd kept spare) s None m u → m.fd ≡ fd → Leads (λ again. serve again nonblock m.fd m.kept.numbers m.spare) u r l t
    → Leads (λ again. turn again nonblock fd kept spare) s r l t
turn-taken nonblock fd kept spare s u t m r l e taken same h =
    leads-on (λ again. turn again nonblock fd kept spare) (λ again. serve again nonblock m.fd m.kept.numbers m.spare) s u t r l
    (λ again v a k z.
    let served = subst (λ (x : Fd). Runs (serve again nonblock x m.kept.numbers m.spare) u v a k) same z in
    subst (λ (o : Option Seq). Runs (turn_by o again nonblock fd kept spare) s v a k) (sym e) (taken.1 (serve again nonblock fd) v a k served))
    h

-- an accept before which another request must be taken
pub accept-take : (fd resfd : Fd) (seq : Seq) (opt udata : List ℕ) (kept : List Seq) (o : Option Fd) (s u t : Sight) (r : Option (Result Sock SockFail)) (l : Listener)
    → opt ≡ [] → udata ≡ [] → o ≡ Some resfd → Asked s (TAccept fd resfd seq opt udata) Listen u → Leads (λ again. take again fd kept o) u r l t → Leads (λ again. accept_at again fd seq kept resfd) s r l t
accept-take fd resfd seq opt udata kept o s u t r l x y e asked h =
    let told = subst (λ (z : List ℕ). Asked s (TAccept fd resfd seq [] z) Listen u) y (subst (λ (z : List ℕ). Asked s (TAccept fd resfd seq z udata) Listen u) x asked) in
    leads-on (λ again. accept_at again fd seq kept resfd) (λ again. take again fd kept (Some resfd)) s u t r l (λ again v a k z. (Listen, u, told, z))
    (subst (λ (p : Option Fd). Leads (λ again. take again fd kept p) u r l t) e h)

-- an accept before which a request must be forgotten
pub accept-forget : (fd resfd : Fd) (seq : Seq) (opt udata : List ℕ) (kept : List Seq) (o : Option Fd) (s u t : Sight) (r : Option (Result Sock SockFail)) (l : Listener)
    → opt ≡ [] → udata ≡ [] → o ≡ Some resfd → Asked s (TAccept fd resfd seq opt udata) Disconnect u → Leads (λ again. forget again fd kept o) u r l t → Leads (λ again. accept_at again fd seq kept resfd) s r l t
accept-forget fd resfd seq opt udata kept o s u t r l x y e asked h =
    let told = subst (λ (z : List ℕ). Asked s (TAccept fd resfd seq [] z) Disconnect u) y (subst (λ (z : List ℕ). Asked s (TAccept fd resfd seq z udata) Disconnect u) x asked) in
    leads-on (λ again. accept_at again fd seq kept resfd) (λ again. forget again fd kept (Some resfd)) s u t r l (λ again v a k z. (Disconnect, u, told, z))
    (subst (λ (p : Option Fd). Leads (λ again. forget again fd kept p) u r l t) e h)

module _ (m i : ℕ) (nonblock : Bool) (fd : Fd) (kept : List Seq) (spare : Option Fd) (t : Sight) where
  -- no turn is left
  pub turns-out : m ≤ i → Runs (accept_turns (m - i) nonblock fd kept spare) t t (Err (Again MOST_TURNS)) (listener fd kept spare)
  unfolding accept_turns
  turns-out h = let z : m - i ≡ 0 = omega arith in rw z (refl, refl, refl)

  -- a turn that ends the accept
  pub turns-end : (v : Sight) (a : Answer) (k : Sock) → i < m → ((again : Next) → Runs (turn again nonblock fd kept spare) t v a k) → Runs (accept_turns (m - i) nonblock fd kept spare) t v a k
  unfolding accept_turns
  turns-end v a k h f =
      let z : m - i ≡ suc (m - (i + 1)) = omega arith in
      rw z (f (accept_turns (m - (i + 1)) nonblock fd))

  -- a turn after which it goes on
  pub turns-on : (other : Fd) (numbers : List Seq) (free : Option Fd) (u v : Sight) (a : Answer) (k : Sock) → i < m
      → ((again : Next) → GoesOn (turn again nonblock fd kept spare) t (again numbers free) u) → other ≡ fd
      → Runs (accept_turns (m - (i + 1)) nonblock other numbers free) u v a k → Runs (accept_turns (m - i) nonblock fd kept spare) t v a k
  unfolding accept_turns
  turns-on other numbers free u v a k h f e r =
      let z : m - i ≡ suc (m - (i + 1)) = omega arith in
      let g = subst (λ (x : Fd). Runs (accept_turns (m - (i + 1)) nonblock x numbers free) u v a k) e r in
      rw z (f (accept_turns (m - (i + 1)) nonblock fd) v a k g)

-- ---- the first call

turn-due : (again : Next) (nonblock : Bool) (fd : Fd) (kept : List Seq) (spare : Option Fd) → is_wrong (turn again nonblock fd kept spare) ≡ false
turn-due again nonblock fd kept spare = by (oldest kept) spare
  where
    by : (o : Option Seq) (d : Option Fd) → is_wrong (turn_by o again nonblock fd kept d) ≡ false
    by None d = refl
    by (Some seq) None = refl
    by (Some seq) (Some resfd) = refl

-- a socket that listens makes one
pub accept-due : (s : Sock) (nonblock : Bool) (kept : List Seq) (spare : Option Fd) → s.phase ≡ phase.Listening kept spare → is_wrong (accept s nonblock) ≡ false
unfolding accept_turns
accept-due s nonblock kept spare p = rw p (turn-due (accept_turns 63 nonblock s.fd) nonblock s.fd kept spare)
