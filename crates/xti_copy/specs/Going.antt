-- How far a copy has come.
use Rattle.std.specs.Prelude.{◌≡◌, true, List, ◌++◌, Result, Ok, Err}
use Rattle.xti_model.specs.declared.entry.Entry.{Entry}
use Rattle.xti_model.specs.History.{Legal}
use Rattle.xti_model.specs.Profile.{usual}
use Rattle.xti_laws_streams.specs.CopyLaws.{IsNextEntry}
use Rattle.xti_copy.specs.Rides.{Ride}
use Rattle.xti_sock.specs.declared.caller.CallEnd.{CallEnd}
use Rattle.xti_sock.specs.declared.caller.CallEnd.TheVariants.{OutOfMemory as NoMemory}
use Rattle.xti_sock.specs.declared.fail.SockFail.{SockFail}
use Rattle.xti_sock.specs.declared.fail.SockFail.TheVariants.{Ended, OutOfMemory, WouldBlock}

-- the rider has made just these entries, and no call is unfinished
pub record IsAt (front : List Entry) (r : Ride) : Type 0 where
  pub providers : r.providers ≡ usual
  pub entries : r.entries ≡ front
  pub free : r.free ≡ true

-- after the first entries a legal history goes on so, in which each call has one answer
pub record Comes (front es : List Entry) : Type 0 where
  pub rest : List Entry
  pub legal : Legal usual (front ++ (es ++ rest))
  pub only : IsNextEntry (front ++ (es ++ rest))

-- the call stopped where memory ran out
abbrev pub IsEndOfMemory : CallEnd → Type 0
IsEndOfMemory (NoMemory taken) = Unit {0}
IsEndOfMemory other = ⊥

-- memory ran out
abbrev pub IsMemory : SockFail → Type 0
IsMemory OutOfMemory = Unit {0}
IsMemory (Ended e) = IsEndOfMemory e
IsMemory other = ⊥

-- the call would have to wait, or memory ran out
abbrev pub IsWaiting : Result (Unit {0}) SockFail → Type 0
IsWaiting (Ok u) = ⊥
IsWaiting (Err WouldBlock) = Unit {0}
IsWaiting (Err f) = IsMemory f
