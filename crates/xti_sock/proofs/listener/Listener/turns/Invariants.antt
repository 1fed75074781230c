use Rattle.std.proofs.Common.{◌≡◌, ◌≤◌, ◌-◌, ◌*◌, true}
use Rattle.xti_sock.specs.Sights.{Sight}
use Rattle.xti_sock.specs.declared.limits.TheConstants.{MOST_TURNS}
use Rattle.xti_sock.specs.declared.sock.Sock.{Sock}
use Rattle.xti_sock.specs.Accepting.{accept_turns}
use Rattle.xti_sock.specs.Scripts.{Answer, Runs}
use Rattle.xti_sock.proofs.listener.Listener.turns.Given as goal

-- what is run from here on with the turns that are left is all that the call runs
abbrev pub invariant-loop-turn : goal.invariant-loop-turn
invariant-loop-turn g l = record {
  fd : l.self.fd ≡ l.fn.self.fd;
  free : (g.C.Caller.sight l.io).free ≡ true;
  room : 2 * (MOST_TURNS - l._turn) ≤ l.self.kept.spare;
  runs : (t : Sight) (a : Answer) (k : Sock)
      → Runs (accept_turns (MOST_TURNS - l._turn) l.nonblock l.self.fd l.self.kept.numbers l.self.spare) (g.C.Caller.sight l.io) t a k
      → Runs (accept_turns MOST_TURNS l.nonblock l.fn.self.fd l.fn.self.kept.numbers l.fn.self.spare) (g.C.Caller.sight l.fn.io) t a k;
}
