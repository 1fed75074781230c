-- What was sent and what was received on a connection.
use Rattle.std.specs.Prelude.{ℕ, ◌+◌, ◌-◌, ◌==◌, ◌&&◌, ◌||◌, not, Bool, true, false, List, [], ◌∷◌, ◌++◌, length, take, drop, filter, flat_map, slice_get, Option, Some, None, option_map, option_and_then, if◌then◌else◌}
use Rattle.std.specs.List.{concat}
use Rattle.xti_base.specs.Kinds.{same_state}
use Rattle.xti_base.specs.declared.kinds.State.{State}
use Rattle.xti_base.specs.declared.kinds.State.TheVariants.{T_IDLE, T_UNINIT}
use Rattle.xti_model.specs.declared.call.Call.{Call}
use Rattle.xti_model.specs.declared.call.Call.TheVariants as call
use Rattle.xti_model.specs.declared.entry.Go.{Go}
use Rattle.xti_model.specs.declared.entry.Act.TheVariants as act
use Rattle.xti_model.specs.declared.entry.Outcome.{Outcome}
use Rattle.xti_model.specs.declared.entry.Outcome.TheVariants.{Done, Part}
use Rattle.xti_model.specs.declared.entry.Reply.TheVariants.{Plain, Sent, Got}
use Rattle.xti_model.specs.declared.entry.Entry.{Entry}
use Rattle.xti_model.specs.declared.profile.Providers.{Providers}
use Rattle.xti_model.specs.Symbols.{piece}
use Rattle.xti_model.specs.Endpoint.{Endpoint, find_number}
use Rattle.xti_model.specs.World.{World, endpoint}
use Rattle.xti_model.specs.Links.{names}
use Rattle.xti_model.specs.Sending.{has_ends}
use Rattle.xti_model.specs.Arguments.{has_more, is_expedited}
use Rattle.xti_model.specs.History.{Going, doing, after, taken_before}
use Rattle.xti_model.specs.Touched.{fd_of}

-- an entry, and the call that it is a step of
pub record Made : Type 0 where
  pub going : Going
  pub outcome : Outcome
  pub after : State

-- a step that was made
abbrev pub made_of : Entry → Going → Made
made_of e g = record { going = g; outcome = e.outcome; after = e.after }

-- one more, if it is there
abbrev pub add : Option Made → List Made → List Made
add None later = later
add (Some m) later = m ∷ later

-- the entries after a past, with their calls
abbrev pub made_from : List Entry → List Entry → List Made
made_from past [] = []
made_from past (e ∷ es) = add (option_map (made_of e) (doing past e)) (made_from (past ++ e ∷ []) es)

-- the two ends of a connection
pub record Connection : Type 0 where
  pub responder : ℕ
  pub caller : ℕ
  pub has_ends : Bool

-- the connection that an accept makes
abbrev pub connection_of : Providers → ℕ → ℕ → Endpoint → Option Connection
connection_of p resfd number e = option_map (λ i. record { responder = resfd; caller = i.caller; has_ends = has_ends p e false }) (find_number number e.outstanding)

-- the connection that a step makes
abbrev pub accepted_by : Providers → World → Call → Outcome → Option Connection
accepted_by p w (call.TAccept fd resfd seq opt udata) (Done Plain) = option_and_then (connection_of p resfd.0 seq.0) (endpoint p w fd.0)
accepted_by p w other outcome = None

-- the connection that an entry makes
abbrev pub connection_in : Providers → World → Option Entry → Option Connection
connection_in p w None = None
connection_in p w (Some e) = of_act e.act
  where
    of_act : Rattle.xti_model.specs.declared.entry.Act.Act → Option Connection
    of_act (act.Begin c) = accepted_by p w c e.outcome
    of_act act.More = None

-- the connection that the entry at the place accepted
abbrev pub connection : Providers → List Entry → ℕ → Option Connection
connection p entries place = connection_in p (after p (take place entries)) (slice_get entries place)

-- the step is of a call of this endpoint
abbrev pub is_made_by : ℕ → Made → Bool
is_made_by fd m = names fd (fd_of m.going.call)

-- the endpoint has no connection any more
abbrev pub is_over : State → Bool
is_over s = same_state s T_IDLE || same_state s T_UNINIT

-- up to and with the first that leaves the connection
abbrev pub until_over : List Made → List Made
until_over [] = []
until_over (m ∷ ms) = m ∷ (if is_over m.after then [] else until_over ms)

-- the life of an end: the steps of its calls after the accept
abbrev pub life : List Entry → ℕ → ℕ → List Made
life entries place fd = until_over (filter (is_made_by fd) (made_from (take (place + 1) entries) (drop (place + 1) entries)))

-- the bytes and the flags of a send
pub record Sending : Type 0 where
  pub bytes : List ℕ
  pub flags : ℕ

-- what a call sends
abbrev pub sending_of : Call → Option Sending
sending_of (call.TSnd fd bytes flags) = Some (record { bytes = bytes; flags = flags })
sending_of (call.TSndV fd parts flags) = Some (record { bytes = concat parts; flags = flags })
sending_of other = None

-- how many bytes are taken after this step
abbrev pub taken_after : Outcome → Option ℕ
taken_after (Part n) = Some n
taken_after (Done (Sent n)) = Some n
taken_after other = None

-- both normal, or both expedited
abbrev pub same_kind : Bool → Bool → Bool
same_kind true b = b
same_kind false b = not b

-- expedited messages always have ends
abbrev pub kind_has_ends : Connection → Bool → Bool
kind_has_ends c expedited = expedited || c.has_ends

-- what a step of a send adds to the stream of its kind
abbrev pub adds : Connection → Bool → Sending → ℕ → ℕ → List ℕ
adds c expedited s before n =
    if same_kind expedited (is_expedited s.flags)
    then piece (take (n - before) (drop before s.bytes)) ((n == length s.bytes) && not (has_more s.flags) && kind_has_ends c expedited)
    else []

-- what a step sent
abbrev pub sent_by : Connection → Bool → Go → Option Sending → Option ℕ → List ℕ
sent_by c expedited so_far (Some s) (Some n) = adds c expedited s (taken_before so_far) n
sent_by c expedited so_far s n = []

-- what a step sent, of one kind
abbrev pub sent_made : Connection → Bool → Made → List ℕ
sent_made c expedited m = sent_by c expedited m.going.so_far (sending_of m.going.call) (taken_after m.outcome)

-- what a step received
abbrev pub got_by : Connection → Bool → Outcome → List ℕ
got_by c expedited (Done (Got bytes flags)) =
    if same_kind expedited (is_expedited flags) then piece bytes (not (has_more flags) && kind_has_ends c expedited) else []
got_by c expedited other = []

-- what a step received, of one kind
abbrev pub got_made : Connection → Bool → Made → List ℕ
got_made c expedited m = got_by c expedited m.outcome

-- all that was sent of a kind from an end, in order
abbrev pub sent : List Entry → ℕ → Connection → ℕ → Bool → List ℕ
sent entries place c fd expedited = flat_map (sent_made c expedited) (life entries place fd)

-- all that was received of a kind at an end, in order
abbrev pub got : List Entry → ℕ → Connection → ℕ → Bool → List ℕ
got entries place c fd expedited = flat_map (got_made c expedited) (life entries place fd)
