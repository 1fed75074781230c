-- A listener that accepts stays in step, and the socket that it gives is.
use Rattle.std.proofs.Common.{◌≡◌, ◌∙◌, false, Bool, List, Option, Some, None, Ok, Err, refl, subst, inl, inr}
use Rattle.std.specs.Prelude.{ℕ, zero, suc, IfOk, Result}
use Rattle.xti_base.specs.declared.kinds.Fd.{Fd}
use Rattle.xti_base.specs.declared.kinds.Prov.TheVariants.{Ticotsord}
use Rattle.xti_base.specs.declared.kinds.Seq.{Seq}
use Rattle.xti_model.specs.declared.call.Call.{Call}
use Rattle.xti_model.specs.declared.call.Call.TheVariants.{TOpen, TListen, TAccept, TRcvDis}
use Rattle.xti_model.specs.declared.entry.Act.TheVariants.{Begin}
use Rattle.xti_model.specs.declared.entry.Entry.{Entry}
use Rattle.xti_sock.specs.Sights.{Sight}
use Rattle.xti_sock.specs.declared.fail.SockFail.{SockFail}
use Rattle.xti_sock.specs.declared.heard.Heard.{Heard}
use Rattle.xti_sock.specs.declared.heard.Heard.TheVariants.{Done, Opened, Listened, Broken, Disconnect, Listen, Ended}
use Rattle.xti_sock.specs.declared.limits.TheConstants.{MOST_TURNS}
use Rattle.xti_sock.specs.declared.phase.Phase.{Phase}
use Rattle.xti_sock.specs.declared.phase.Phase.TheVariants as phase
use Rattle.xti_sock.specs.declared.sock.Sock.{Sock}
use Rattle.xti_sock.specs.Accepting.{Next, accept, accept_at, accept_in, accept_turns, forget, listener, on_accept, on_forget, on_spare, on_take, serve, serve_oldest, serve_one, take, turn, turn_by}
use Rattle.xti_sock.specs.Keeping.{oldest}
use Rattle.xti_sock.specs.Rows.{stops}
use Rattle.xti_sock.specs.Scripts.{Answer, Script, gives, asks, socket, Asked, Makes, Runs, made}
use Rattle.xti_sock.specs.Socks.{IsInStep, is_release, is_unreleased, spare_of, was_released}
use Rattle.xti_sock.proofs.Entries.{released-other}
use Rattle.xti_sock.proofs.InStep.{unreleased-moved}
use Rattle.xti_sock.proofs.KeptAt.{OfKinds}
use Rattle.xti_sock.proofs.NewSockets.{opened-unreleased}

-- no release stands there on the listener's descriptor, nor on its spare one
abbrev Unreleased : Fd → Option Fd → List Entry → Type 0
Unreleased fd spare mine = (was_released fd mine ≡ false) × is_unreleased spare mine

-- the socket of an answer is in step
abbrev pub NewInStep : Answer → List Entry → Type 0
NewInStep (Ok (socket s)) mine = IsInStep s mine
NewInStep other mine = Unit {0}

-- from there the script leads to a socket in step
abbrev KeepsBoth : Fd → Option Fd → Script → Type 0
KeepsBoth fd spare x = (u t : Sight) (a : Answer) (k : Sock) → Unreleased fd spare u.mine → Runs x u t a k → IsInStep k t.mine × NewInStep a t.mine

abbrev KeepsNext : Fd → Next → Type 0
KeepsNext fd next = (kept : List Seq) (spare : Option Fd) → KeepsBoth fd spare (next kept spare)

-- a call that is no release
moved : (fd : Fd) (spare : Option Fd) (c : Call) (h : Heard) (u v : Sight) → ((f : Fd) → is_release f (Begin c) ≡ false) → Asked u c h v → Unreleased fd spare u.mine → Unreleased fd spare v.mine
moved fd spare c h u v q asked i = (released-other fd u v c h (q fd) asked ∙ i.0, unreleased-moved spare u.mine v.mine (λ f. released-other f u v c h (q f) asked) i.1)

asks-both : (fd : Fd) (spare : Option Fd) (c : Call) (next : Heard → Script) → ((f : Fd) → is_release f (Begin c) ≡ false) → ((h : Heard) → KeepsBoth fd spare (next h)) → KeepsBoth fd spare (asks c next)
asks-both fd spare c next q f u t a k i (h, v, asked, more) = f h v t a k (moved fd spare c h u v q asked i) more

listens-both : (fd : Fd) (kept : List Seq) (spare : Option Fd) (a : Answer) → ((mine : List Entry) → NewInStep a mine) → KeepsBoth fd spare (gives a (listener fd kept spare))
listens-both fd kept spare b n u t a k i r = rw (r.0, r.1, r.2) (record { own = λ l. i.0; spare = i.1 }, n u.mine)

stops-both : (h : Heard) (fd : Fd) (kept : List Seq) (spare : Option Fd) → KeepsBoth fd spare (stops h (listener fd kept spare))
stops-both (Ended e) fd kept spare u t a k i r = rw (r.0, r.1, r.2) (record { own = λ l. absurd (cc l); spare = tt }, tt)
stops-both h fd kept spare u t a k i r = listens-both fd kept spare _ (λ mine. tt) u t a k i r

forget-both : (again : Next) (fd : Fd) → KeepsNext fd again → (kept : List Seq) (spare : Option Fd) → KeepsBoth fd spare (forget again fd kept spare)
forget-both again fd f kept spare = asks-both fd spare (TRcvDis fd 0) (on_forget again fd kept spare) (λ x. refl) by-heard
  where
    by-heard : (h : Heard) → KeepsBoth fd spare (on_forget again fd kept spare h)
    by-heard (Broken reason seq) = f _ spare
    by-heard h = stops-both h fd kept spare

take-both : (again : Next) (fd : Fd) → KeepsNext fd again → (kept : List Seq) (spare : Option Fd) → KeepsBoth fd spare (take again fd kept spare)
take-both again fd f kept spare = asks-both fd spare (TListen fd 0 0 0) (on_take again fd kept spare) (λ x. refl) by-heard
  where
    by-heard : (h : Heard) → KeepsBoth fd spare (on_take again fd kept spare h)
    by-heard (Listened seq) = f _ spare
    by-heard Disconnect = forget-both again fd f kept spare
    by-heard h = stops-both h fd kept spare

accept-both : (again : Next) (fd : Fd) (seq : Seq) → KeepsNext fd again → (kept : List Seq) (resfd : Fd) → KeepsBoth fd (Some resfd) (accept_at again fd seq kept resfd)
accept-both again fd seq f kept resfd = asks-both fd (Some resfd) (TAccept fd resfd seq _ _) (on_accept again fd kept resfd) (λ x. refl) by-heard
  where
    by-heard : (h : Heard) → KeepsBoth fd (Some resfd) (on_accept again fd kept resfd h)
    by-heard Done = λ u t a k i r. rw (r.0, r.1, r.2) (record { own = λ l. i.0; spare = tt }, record { own = λ l. i.1; spare = tt })
    by-heard Listen = take-both again fd f kept (Some resfd)
    by-heard Disconnect = forget-both again fd f kept (Some resfd)
    by-heard h = stops-both h fd kept (Some resfd)

module _ (kinds : OfKinds) (nonblock : Bool) (fd : Fd) (again : Next) (f : KeepsNext fd again) where
  -- a descriptor that was just opened
  spare-both : (seq : Seq) (kept : List Seq) → KeepsBoth fd None (asks (TOpen Ticotsord nonblock) (on_spare again fd seq kept))
  spare-both seq kept u t a k i (h, v, asked, more) = by-heard h asked more
    where
      by-heard : (h : Heard) → Asked u (TOpen Ticotsord nonblock) h v → Runs (on_spare again fd seq kept h) v t a k → IsInStep k t.mine × NewInStep a t.mine
      by-heard (Opened resfd) x r =
          let m = moved fd None (TOpen Ticotsord nonblock) (Opened resfd) u v (λ y. refl) x i in
          accept-both again fd seq f kept resfd v t a k (m.0, opened-unreleased kinds nonblock u v resfd x) r
      by-heard h x r = stops-both h fd kept None v t a k (moved fd None (TOpen Ticotsord nonblock) h u v (λ y. refl) x i) r

  one-both : (seq : Seq) (kept : List Seq) (spare : Option Fd) → KeepsBoth fd spare (serve_one again nonblock fd seq kept spare)
  one-both seq kept None = spare-both seq kept
  one-both seq kept (Some resfd) = accept-both again fd seq f kept resfd

  serve-both : KeepsNext fd (serve again nonblock fd)
  serve-both kept spare = by-oldest (oldest kept)
    where
      by-oldest : (o : Option Seq) → KeepsBoth fd spare (serve_oldest o again nonblock fd kept spare)
      by-oldest None = f kept spare
      by-oldest (Some seq) = one-both seq kept spare

  turn-both : KeepsNext fd (turn again nonblock fd)
  turn-both kept spare = by-oldest (oldest kept)
    where
      by-oldest : (o : Option Seq) → KeepsBoth fd spare (turn_by o again nonblock fd kept spare)
      by-oldest None = take-both (serve again nonblock fd) fd serve-both kept spare
      by-oldest (Some seq) = one-both seq kept spare

turns-both : OfKinds → (n : ℕ) (nonblock : Bool) (fd : Fd) → KeepsNext fd (accept_turns n nonblock fd)
unfolding accept_turns
turns-both kinds zero nonblock fd kept spare = listens-both fd kept spare _ (λ mine. tt)
turns-both kinds (suc n) nonblock fd kept spare = turn-both kinds nonblock fd (accept_turns n nonblock fd) (turns-both kinds n nonblock fd) kept spare

-- a socket that listens, or one whose phase is wrong
pub accept-keeps : OfKinds → (s : Sock) (nonblock : Bool) (u t : Sight) (a : Answer) (k : Sock) → IsInStep s u.mine → Makes (accept s nonblock) s u t a k → IsInStep k t.mine × NewInStep a t.mine
accept-keeps kinds s nonblock u t a k i (inr r) = rw (r.1, r.2, r.3) (i, tt)
accept-keeps kinds s nonblock u t a k i (inl r) = by-phase s.phase refl r
  where
    by-phase : (q : Phase) → s.phase ≡ q → Runs (accept_in q nonblock s) u t a k → IsInStep k t.mine × NewInStep a t.mine
    by-phase (phase.Listening kept spare) p x =
        let own : was_released s.fd u.mine ≡ false = i.own (rw p refl) ∙ rw p refl in
        let other : is_unreleased spare u.mine = subst (λ (q : Phase). is_unreleased (spare_of q) u.mine) p i.spare in
        turns-both kinds MOST_TURNS nonblock s.fd kept spare u t a k (own, other) x
    by-phase q p x = rw (x.0, x.1, x.2) (i, tt)

pub accepted-in-step : (r : Result Sock SockFail) (mine : List Entry) → NewInStep (made r) mine → IfOk r (λ sock. IsInStep sock mine)
accepted-in-step (Ok sock) mine h = h
accepted-in-step (Err f) mine h = tt
