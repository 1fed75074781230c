-- What contracts see of a socket.
use Rattle.std.specs.Prelude.{◌≡◌, ◌&&◌, ◌==◌, true, false, Bool, List, Option, Some, None}
use Rattle.std.specs.List.{list_any}
use Rattle.xti_base.specs.declared.kinds.Fd.{Fd}
use Rattle.xti_model.specs.declared.call.Call.{Call}
use Rattle.xti_model.specs.declared.call.Call.TheVariants.{TRcvRel}
use Rattle.xti_model.specs.declared.entry.Act.{Act}
use Rattle.xti_model.specs.declared.entry.Act.TheVariants.{Begin}
use Rattle.xti_model.specs.declared.entry.Outcome.{Outcome}
use Rattle.xti_model.specs.declared.entry.Outcome.TheVariants.{Done}
use Rattle.xti_model.specs.declared.entry.Reply.TheVariants.{Plain}
use Rattle.xti_model.specs.declared.entry.Entry.{Entry}
use Rattle.xti_sock.specs.declared.sock.Sock.{Sock}
use Rattle.xti_sock.specs.declared.phase.Phase.{Phase}
use Rattle.xti_sock.specs.declared.phase.Phase.TheVariants.{Listening, Open, Failed, Dead}

abbrev pub in_phase : Sock → Phase → Sock
in_phase s phase = record s { phase = phase }

-- the input has ended
abbrev pub has_ended : Phase → Bool
has_ended (Open shut ended) = ended
has_ended other = false

-- the socket may still be used, or was never connected
abbrev pub is_live : Phase → Bool
is_live Failed = false
is_live Dead = false
is_live other = true

-- the descriptor that a listener has opened for the next connection
abbrev pub spare_of : Phase → Option Fd
spare_of (Listening kept spare) = spare
spare_of other = None

-- ---- releases

-- the call that takes a release
abbrev pub taking_release : Fd → Call
taking_release fd = TRcvRel fd

-- it begins, on the descriptor
abbrev pub is_release : Fd → Act → Bool
is_release fd (Begin (TRcvRel other)) = fd.0 == other.0
is_release fd other = false

abbrev pub is_plain : Outcome → Bool
is_plain (Done Plain) = true
is_plain other = false

-- it began on the descriptor, and answered Ok
abbrev pub takes_release : Fd → Entry → Bool
takes_release fd e = is_release fd e.act && is_plain e.outcome

-- such a call stands there
abbrev pub was_released : Fd → List Entry → Bool
was_released fd mine = list_any (takes_release fd) mine

abbrev pub is_unreleased : Option Fd → List Entry → Type 0
is_unreleased None mine = Unit {0}
is_unreleased (Some fd) mine = was_released fd mine ≡ false

-- In every phase but Failed and Dead a rcvrel with Ok on the socket's descriptor stands among the caller's entries exactly where
-- the input has ended, and none on its spare descriptor.
pub record IsInStep (s : Sock) (mine : List Entry) : Type 0 where
  pub own : is_live s.phase ≡ true → was_released s.fd mine ≡ has_ended s.phase
  pub spare : is_unreleased (spare_of s.phase) mine
