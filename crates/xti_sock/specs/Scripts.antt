-- Scripts: the calls that a socket call makes, each by what the ones before answered.
use Rattle.std.specs.Prelude.{◌≡◌, ◌⊎◌, ℕ, true, false, Bool, List, Result, Ok, Err, if◌then◌else◌}
use Rattle.xti_base.specs.declared.errno.Errno.TheVariants.{TLOOK, TBUFOVFLW, TNODATA}
use Rattle.xti_base.specs.declared.kinds.Event.TheVariants.{T_LISTEN, T_DISCONNECT, T_ORDREL}
use Rattle.xti_model.specs.declared.call.Call.{Call}
use Rattle.xti_model.specs.declared.entry.Reply.{Reply}
use Rattle.xti_model.specs.declared.entry.Reply.TheVariants as reply
use Rattle.xti_model.specs.Arguments.{is_expedited}
use Rattle.xti_sock.specs.declared.caller.CallEnd.{CallEnd}
use Rattle.xti_sock.specs.declared.fail.SockFail.{SockFail}
use Rattle.xti_sock.specs.declared.fail.SockFail.TheVariants.{OutOfMemory, WrongPhase}
use Rattle.xti_sock.specs.declared.heard.Heard.{Heard}
use Rattle.xti_sock.specs.declared.heard.Heard.TheVariants as heard
use Rattle.xti_sock.specs.Sights.{Sight}
use Rattle.xti_sock.specs.Calling.{Calls}
use Rattle.xti_sock.specs.declared.sock.Sock.{Sock}

-- what a reply is to a socket
abbrev pub heard_of : Reply → Heard
heard_of reply.Plain = heard.Done
heard_of (reply.Bound addr qlen) = heard.Bound
heard_of (reply.Connected addr opt udata) = heard.Connected
heard_of (reply.Opened fd) = heard.Opened fd
heard_of (reply.Listened seq addr opt udata) = heard.Listened seq
heard_of (reply.Sent n) = heard.Sent n
heard_of (reply.Got bytes flags) = if is_expedited flags then heard.Urgent else heard.Got bytes
heard_of (reply.Discon reason seq udata) = heard.Broken reason seq
heard_of (reply.Look T_DISCONNECT) = heard.Disconnect
heard_of (reply.Look T_ORDREL) = heard.Release
heard_of (reply.Look T_LISTEN) = heard.Listen
heard_of (reply.Look event) = heard.Refused TLOOK
heard_of (reply.Overflow seq) = heard.Refused TBUFOVFLW
heard_of (reply.Refused TNODATA) = heard.Waits
heard_of (reply.Refused errno) = heard.Refused errno
heard_of other = heard.Unasked

-- this is what a reply without bytes of the stream is
abbrev pub IsHeardPlainly : Reply → Heard → Type 0
IsHeardPlainly (reply.Got bytes flags) h = Unit {0}
IsHeardPlainly other h = h ≡ heard_of other

-- the same of a call that may have stopped before its reply
abbrev pub heard_in : Result Reply CallEnd → Heard
heard_in (Ok r) = heard_of r
heard_in (Err e) = heard.Ended e

-- the call was made, and this is what its answer is to a socket
pub record Asked (s : Sight) (c : Call) (h : Heard) (t : Sight) : Type 0 where
  pub answer : Result Reply CallEnd
  pub made : Calls s c answer t
  pub heard : h ≡ heard_in answer

-- after a reply the next call may be made
abbrev pub IsFreeAfter : Heard → Sight → Type 0
IsFreeAfter (heard.Ended e) t = Unit {0}
IsFreeAfter other t = t.free ≡ true

-- what the Ok of a socket call has
pub data Value : Type 0 where
  nothing : Value
  count : ℕ → Value
  octets : List ℕ → Value
  socket : Sock → Value

abbrev pub Answer : Type 0
Answer = Result Value SockFail

-- the answer, with the socket after it; or a call, and how it goes on by what is heard
pub data Script : Type 0 where
  gives : Answer → Sock → Script
  asks : Call → (Heard → Script) → Script

-- From `s` to `t` just the calls of the script were made, in its order, and it ended so.
abbrev pub Runs : Script → Sight → Sight → Answer → Sock → Type 0
Runs (gives answer sock) s t a k = (t ≡ s) × (a ≡ answer) × (k ≡ sock)
Runs (asks c next) s t a k = (h : Heard) × (u : Sight) × Asked s c h u × Runs (next h) u t a k

-- the socket isn't in a phase for this
abbrev pub is_wrong : Script → Bool
is_wrong (gives (Err WrongPhase) sock) = true
is_wrong other = false

-- no room was found before the first call, in a phase for this, and all is as before
abbrev pub LacksRoom : Script → Sock → Sight → Sight → Answer → Sock → Type 0
LacksRoom script old s t a k = (is_wrong script ≡ false) × (t ≡ s) × (a ≡ Err OutOfMemory) × (k ≡ old)

-- the script was run, or no room was found
abbrev pub Makes : Script → Sock → Sight → Sight → Answer → Sock → Type 0
Makes script old s t a k = Runs script s t a k ⊎ LacksRoom script old s t a k

-- ---- answers of each type

abbrev pub received : Result (List ℕ) SockFail → Answer
received (Ok bytes) = Ok (octets bytes)
received (Err f) = Err f

abbrev pub counted : Result ℕ SockFail → Answer
counted (Ok n) = Ok (count n)
counted (Err f) = Err f

abbrev pub done : Result (Unit {0}) SockFail → Answer
done (Ok u) = Ok nothing
done (Err f) = Err f

abbrev pub made : Result Sock SockFail → Answer
made (Ok s) = Ok (socket s)
made (Err f) = Err f
