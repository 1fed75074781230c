-- What waits at an endpoint, and what is kept of its connection.
use Rattle.std.specs.Prelude.{◌≡◌, [], None, false}
use Rattle.xti_end.specs.declared.parts.Connection.{Connection}
use Rattle.xti_end.specs.declared.parts.Waiting.{Waiting}

-- no connection, and none was asked for
abbrev pub no_connection : Connection
no_connection = record {
  last_number = record { 0 = 0 };
  target = None;
  peer = None;
  peer_address = None;
  confirmation = None;
  mid_expedited = false;
  release = None;
  unfinished_normal = 0;
  unfinished_expedited = 0;
  flow_normal = false;
  flow_expedited = false;
}

-- nothing waits
pub record IsEmpty (w : Waiting) : Type 0 where
  pub pending : w.pending.items ≡ []
  pub outstanding : w.outstanding.items ≡ []
  pub disconnects : w.disconnects.items ≡ []
  pub normal : w.normal.pushed ≡ []
  pub expedited : w.expedited.pushed ≡ []
  pub datagrams : w.datagrams.pushed ≡ []
  pub datagram_errors : w.datagram_errors.items ≡ []

-- the same room
pub record HasRoomOf (old new : Waiting) : Type 0 where
  pub pending : new.pending.spare ≡ old.pending.spare
  pub outstanding : new.outstanding.spare ≡ old.outstanding.spare
  pub disconnects : new.disconnects.spare ≡ old.disconnects.spare
  pub normal : new.normal.spare ≡ old.normal.spare
  pub expedited : new.expedited.spare ≡ old.expedited.spare
  pub datagrams : new.datagrams.spare ≡ old.datagrams.spare
  pub datagram_errors : new.datagram_errors.spare ≡ old.datagram_errors.spare
