-- Calls that are done by one step.
use Rattle.std.specs.Prelude.{◌≡◌, ℕ, List, Option, Some, None}
use Rattle.xti_base.specs.declared.kinds.Fd.{Fd}
use Rattle.xti_base.specs.declared.kinds.State.{State}
use Rattle.xti_model.specs.declared.call.Call.{Call}
use Rattle.xti_model.specs.declared.entry.Applied.{Applied}
use Rattle.xti_model.specs.declared.entry.Applied.TheVariants.{Step}
use Rattle.xti_model.specs.declared.entry.Go.TheVariants.{Begin}
use Rattle.xti_model.specs.declared.entry.Outcome.{Outcome}
use Rattle.xti_model.specs.declared.entry.Outcome.TheVariants.{Done}
use Rattle.xti_model.specs.declared.entry.Reply.{Reply}
use Rattle.xti_model.specs.declared.entry.Reply.TheVariants.{Opened, UData}
use Rattle.xti_model.specs.Step.{step}
use Rattle.xti_core.specs.Standing.{Standing}
use Rattle.xti_gbn.specs.Calls.{opening_call, receiving_call, sending_call}

abbrev pub reply_in : Outcome → Option Reply
reply_in (Done reply) = Some reply
reply_in other = None

-- the answer of a step that is done
abbrev pub reply_of : Applied → Option Reply
reply_of (Step outcome after) = reply_in outcome
reply_of other = None

-- the descriptor that an open answered
abbrev pub opened_of : Reply → Option Fd
opened_of (Opened fd) = Some fd
opened_of other = None

-- the bytes of a datagram that was received
abbrev pub datagram_of : Reply → Option (List ℕ)
datagram_of (UData address options bytes flags) = Some bytes
datagram_of other = None

-- one step of the call is all of it, with this answer, and leaves this world
pub record Answers (old : Standing) (call : Call) (reply : Reply) (new : Standing) : Type 0 where
  pub after : State
  pub is : step old.providers old.cells call Begin ≡ Some (record { outcome = Done reply; after = after; world = new.cells })
  pub providers : new.providers ≡ old.providers

-- one step of the call is all of it
abbrev pub IsAnswered : Standing → Call → Type 0
IsAnswered old call = (reply : Reply) × (new : Standing) × Answers old call reply new

-- with some answer
abbrev pub IsMade : Standing → Call → Standing → Type 0
IsMade old call new = (reply : Reply) × Answers old call reply new

-- one step sends these bytes to the address, and leaves this world
abbrev pub Sends : Standing → Fd → List ℕ → List ℕ → Standing → Type 0
Sends old fd address bytes new = IsMade old (sending_call fd address bytes) new

-- one step opens an endpoint with this descriptor, and leaves this world
pub record Opens (old : Standing) (fd : Fd) (new : Standing) : Type 0 where
  pub reply : Reply
  pub answers : Answers old opening_call reply new
  pub tells : opened_of reply ≡ Some fd

abbrev pub IsOpened : Standing → Type 0
IsOpened old = (fd : Fd) × (new : Standing) × Opens old fd new

-- one step receives a datagram of these bytes, and leaves this world
pub record Gives (old : Standing) (fd : Fd) (bytes : List ℕ) (new : Standing) : Type 0 where
  pub reply : Reply
  pub answers : Answers old (receiving_call fd) reply new
  pub tells : datagram_of reply ≡ Some bytes

abbrev pub IsGiven : Standing → Fd → Type 0
IsGiven old fd = (bytes : List ℕ) × (new : Standing) × Gives old fd bytes new
