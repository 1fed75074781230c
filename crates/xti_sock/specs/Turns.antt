-- What the parts of an accept tell, out of which its script is put together.
use Rattle.std.specs.Prelude.{◌≡◌, ◌≤◌, ◌+◌, ℕ, true, Option, Some, None, Result, Ok, Err}
use Rattle.xti_sock.specs.Sights.{Sight}
use Rattle.xti_sock.specs.declared.fail.SockFail.{SockFail}
use Rattle.xti_sock.specs.declared.fail.SockFail.TheVariants.{Ended as EndedBy}
use Rattle.xti_sock.specs.declared.listener.Listener.{Listener}
use Rattle.xti_sock.specs.declared.phase.Phase.TheVariants as phase
use Rattle.xti_sock.specs.declared.sock.Sock.{Sock}
use Rattle.xti_sock.specs.Accepting.{Next, listener}
use Rattle.xti_sock.specs.Scripts.{Answer, Script, Runs, made}
use Rattle.xti_sock.specs.Socks.{in_phase}

-- the socket that a listener is
abbrev pub sock_of : Listener → Sock
sock_of l = listener l.fd l.kept.numbers l.spare

-- a socket whose call stopped half way is of no more use
abbrev pub left_failed : SockFail → Sock → Sock
left_failed (EndedBy e) s = in_phase s phase.Dead
left_failed other s = s

-- the listener after this answer
abbrev pub left_by : Result Sock SockFail → Sock → Sock
left_by (Ok k) s = s
left_by (Err f) s = left_failed f s

-- where the script y runs on from t, x ran from s
abbrev pub GoesOn : Script → Sight → Script → Sight → Type 0
GoesOn x s y t = (v : Sight) (a : Answer) (k : Sock) → Runs y t v a k → Runs x s v a k

-- the numbers and the spare descriptor of the listener
abbrev pub next_of : Next → Listener → Script
next_of again l = again l.kept.numbers l.spare

-- the call ended so, whatever it would have gone on with; or it goes on, and the next call may be made
abbrev pub Leads : (Next → Script) → Sight → Option (Result Sock SockFail) → Listener → Sight → Type 0
Leads x s None l t = (t.free ≡ true) × ((again : Next) → GoesOn (x again) s (next_of again l) t)
Leads x s (Some r) l t = (again : Next) → Runs (x again) s t (made r) (left_by r (sock_of l))

-- the same listener, with room for at most so many numbers less
abbrev pub Uses : ℕ → Listener → Listener → Type 0
Uses n l m = (m.fd ≡ l.fd) × (l.kept.spare ≤ m.kept.spare + n)
