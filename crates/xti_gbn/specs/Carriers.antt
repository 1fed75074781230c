-- Carriers that are ready, and those in which bytes wait.
use Rattle.std.specs.Prelude.{◌≡◌, ℕ, List, ◌⊎◌}
use Rattle.xti_base.specs.declared.kinds.Fd.{Fd}
use Rattle.xti_core.specs.Standing.{Standing}
use Rattle.xti_gbn.specs.declared.datagrams.carrier.DatagramCarrier.{DatagramCarrier}
use Rattle.xti_gbn.specs.Answers.{Gives}
use Rattle.xti_gbn.specs.Ready.{ready, sender_fd, receiver_fd}

-- both endpoints are bound, and nothing waits
pub record IsReady (carrier : DatagramCarrier) : Type 0 where
  pub world : carrier.world ≡ ready
  pub sender : carrier.sender ≡ sender_fd
  pub receiver : carrier.receiver ≡ receiver_fd

-- the bytes wait at an endpoint: one t_rcvudata there takes just these, and makes the carrier ready again
pub record IsWaiting (bytes : List ℕ) (carrier : DatagramCarrier) : Type 0 where
  pub at : Fd
  pub gives : Gives carrier.world at bytes ready
  pub sender : carrier.sender ≡ sender_fd
  pub receiver : carrier.receiver ≡ receiver_fd

-- nothing was sent, or the bytes wait at this endpoint
abbrev pub StandsLeft : Fd → List ℕ → Standing → Type 0
StandsLeft to bytes world = (world ≡ ready) ⊎ Gives world to bytes ready
