-- What a call does: the rows that refuse it, in their order, and its effect.
use Rattle.std.specs.Prelude.{is_some, unwrap_or, ℕ, nat_lt, ◌==◌, ◌&&◌, not, Bool, true, false, List, [], ◌∷◌, length, map, Option, Some, None, if◌then◌else◌}
use Rattle.std.specs.List.{list_any}
use Rattle.xti_base.specs.declared.errno.Errno.{Errno}
use Rattle.xti_base.specs.declared.errno.Errno.TheVariants.{TBADF, TNOTSUPPORT, TOUTSTATE}
use Rattle.xti_base.specs.declared.kinds.State.{State}
use Rattle.xti_base.specs.declared.kinds.Event.{Event}
use Rattle.xti_base.specs.declared.kinds.Event.TheVariants.{T_LISTEN}
use Rattle.xti_model.specs.declared.profile.Providers.{Providers}
use Rattle.xti_model.specs.declared.entry.Outcome.{Outcome}
use Rattle.xti_model.specs.declared.entry.Outcome.TheVariants.{Done}
use Rattle.xti_model.specs.declared.entry.Reply.{Reply}
use Rattle.xti_model.specs.declared.entry.Reply.TheVariants.{Refused, Look, Sent}
use Rattle.xti_model.specs.Provider.{has_datagrams, has_connections, has_release}
use Rattle.xti_model.specs.Endpoint.{Endpoint}
use Rattle.xti_model.specs.World.{World, Change, endpoint}
use Rattle.xti_model.specs.Events.{is_state, looked}

-- A refusal answers at once; or it waits, and answers this without waiting; or all fields are lost.
pub data Refusal : Type 0 where
  answers : Reply → Refusal
  waits : Reply → Refusal
  loses : Refusal

-- a refusal, and whether its condition holds
pub record Row : Type 0 where
  pub holds : Bool
  pub refusal : Refusal

-- the first row that holds
abbrev pub first : List Row → Option Refusal
first [] = None
first (row ∷ rows) = if row.holds then Some row.refusal else first rows

-- the effect is made where no refusal holds, and where fields are lost
abbrev pub has_effect : Option Refusal → Bool
has_effect None = true
has_effect (Some loses) = true
has_effect (Some (answers reply)) = false
has_effect (Some (waits reply)) = false

-- The refusals in order; where none holds, the changes and the outcome. marks: the changes where it is not ready and does
-- not wait. lost: the changes where a field has too little room, and lost_number is the number that is told then.
pub record Plan : Type 0 where
  pub fd : ℕ
  pub nonblock : Bool
  pub rows : List Row
  pub changes : List Change
  pub outcome : Outcome
  pub marks : List Change
  pub lost : List Change
  pub lost_number : ℕ

-- an error, where the condition holds
abbrev pub refuses : Bool → Errno → Row
refuses holds e = record { holds = holds; refusal = answers (Refused e) }

-- nothing to take, or no room: the caller waits, or is refused with O_NONBLOCK
abbrev pub not_ready : Bool → Errno → Row
not_ready holds e = record { holds = holds; refusal = waits (Refused e) }

-- an event that is there is told by TLOOK
abbrev pub shows : Option Event → Row
shows o = record { holds = is_some o; refusal = answers (Look (unwrap_or o T_LISTEN)) }

-- the first of these events that is there
abbrev pub looks : List Event → Endpoint → Row
looks row e = shows (looked row e)

-- the call is not for this state
abbrev pub outside : List State → Endpoint → Row
outside states e = refuses (not (is_state states e)) TOUTSTATE

-- the provider has no connections
abbrev pub without_connections : Endpoint → Row
without_connections e = refuses (not (has_connections e.prov)) TNOTSUPPORT

-- the provider has no datagrams
abbrev pub without_datagrams : Endpoint → Row
without_datagrams e = refuses (not (has_datagrams e.prov)) TNOTSUPPORT

-- the provider has no orderly release
abbrev pub without_release : Endpoint → Row
without_release e = refuses (not (has_release e.prov)) TNOTSUPPORT

-- a field that is returned, and the most bytes of it that the caller takes
pub record Field : Type 0 where
  pub bytes : List ℕ
  pub max : ℕ

-- bytes that are told, and the room for them
abbrev pub field : List ℕ → ℕ → Field
field bytes max = record { bytes = bytes; max = max }

-- a room of 0 asks for nothing
abbrev pub is_too_long : Field → Bool
is_too_long f = not (f.max == 0) && nat_lt f.max (length f.bytes)

-- one of the fields has too little room
abbrev pub overflows : List Field → Row
overflows fields = record { holds = list_any is_too_long fields; refusal = loses }

-- a field as it is returned
abbrev pub trimmed : List ℕ → ℕ → List ℕ
trimmed bytes max = if max == 0 then [] else bytes

-- the plan of a call on an open endpoint
abbrev pub plan_of : ℕ → Endpoint → List Row → List Change → Outcome → Plan
plan_of fd e rows changes outcome = record { fd = fd; nonblock = e.nonblock; rows = rows; changes = changes; outcome = outcome; marks = []; lost = changes; lost_number = 0 }

-- no endpoint is open with the descriptor
abbrev pub bad_fd : ℕ → Plan
bad_fd fd = record { fd = fd; nonblock = false; rows = refuses true TBADF ∷ []; changes = []; outcome = Done (Refused TBADF); marks = []; lost = []; lost_number = 0 }

-- the plan where the descriptor is that of an open endpoint
abbrev pub if_open : ℕ → Option Endpoint → (Endpoint → Plan) → Plan
if_open fd None plan = bad_fd fd
if_open fd (Some e) plan = plan e

-- the plan of a call of the endpoint that is open with the descriptor
abbrev pub on_open : Providers → World → ℕ → (Endpoint → Plan) → Plan
on_open p w fd plan = if_open fd (endpoint p w fd) plan

-- The rows of a later step of a send, with n bytes taken before: each answers that number.
abbrev pub later : ℕ → Refusal → Refusal
later n (answers reply) = answers (Sent n)
later n (waits reply) = waits (Sent n)
later n loses = loses

-- a refusal after so many bytes were taken
abbrev pub later_row : ℕ → Row → Row
later_row n row = record row { refusal = later n row.refusal }

-- the plan of a later step of a send
abbrev pub later_plan : ℕ → Plan → Plan
later_plan n plan = record plan { rows = map (later_row n) plan.rows; marks = [] }
