-- The input of a socket.
use Rattle.std.specs.Prelude.{ℕ, ◌&&◌, ◌==◌, List, [], flat_map, if◌then◌else◌, Ok, ◌≡◌, true, false, Bool}
use Rattle.std.specs.List.{list_any}
use Rattle.xti_base.specs.declared.kinds.Fd.{Fd}
use Rattle.xti_base.specs.declared.kinds.Prov.TheVariants.{Ticotsord}
use Rattle.xti_model.specs.declared.call.Call.TheVariants.{TOpen, TRcv, TRcvV}
use Rattle.xti_model.specs.declared.entry.Act.{Act}
use Rattle.xti_model.specs.declared.entry.Act.TheVariants.{Begin}
use Rattle.xti_model.specs.declared.entry.Outcome.{Outcome}
use Rattle.xti_model.specs.declared.entry.Outcome.TheVariants.{Done}
use Rattle.xti_model.specs.declared.entry.Reply.TheVariants.{Got, Opened}
use Rattle.xti_model.specs.declared.entry.Entry.{Entry}
use Rattle.xti_model.specs.Arguments.{is_expedited}
use Rattle.xti_model.specs.Provider.{is_stream}
use Rattle.xti_sock.specs.Sights.{Sight}
use Rattle.xti_sock.specs.Scripts.{Answer, octets}

-- the bytes of a receive on the descriptor, unless they are expedited
abbrev pub got_in : Outcome → List ℕ
got_in (Done (Got bytes flags)) = if is_expedited flags then [] else bytes
got_in other = []

abbrev pub got_by : Fd → Act → Outcome → List ℕ
got_by fd (Begin (TRcv other max)) outcome = if fd.0 == other.0 then got_in outcome else []
got_by fd (Begin (TRcvV other sizes)) outcome = if fd.0 == other.0 then got_in outcome else []
got_by fd other outcome = []

abbrev pub got_at : Fd → Entry → List ℕ
got_at fd e = got_by fd e.act e.outcome

-- all that was received so, joined
abbrev pub input : Fd → List Entry → List ℕ
input fd mine = flat_map (got_at fd) mine

-- the bytes that a socket call answered
abbrev pub bytes_in : Answer → List ℕ
bytes_in (Ok (octets bytes)) = bytes
bytes_in other = []

-- ---- descriptors that the caller opened

-- an open of ticotsord that begins
abbrev pub opens_it : Act → Bool
opens_it (Begin (TOpen Ticotsord nonblock)) = true
opens_it other = false

abbrev pub is_opened : Fd → Outcome → Bool
is_opened fd (Done (Opened other)) = fd.0 == other.0
is_opened fd other = false

-- an open of ticotsord that answered the descriptor
abbrev pub opens_at : Fd → Entry → Bool
opens_at fd e = opens_it e.act && is_opened fd e.outcome

-- such an open stands there
abbrev pub was_opened : Fd → List Entry → Bool
was_opened fd mine = list_any (opens_at fd) mine

-- the caller opened the descriptor, and data at ticotsord are a stream
pub record IsStreamOf (s : Sight) (fd : Fd) : Type 0 where
  pub stream : is_stream s.providers Ticotsord ≡ true
  pub opened : was_opened fd s.mine ≡ true
