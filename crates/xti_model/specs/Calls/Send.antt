-- snd and sndv
use Rattle.std.specs.Prelude.{ℕ, ◌+◌, ◌-◌, ◌==◌, ◌&&◌, ◌||◌, not, nat_lt, min, Bool, true, false, List, [], ◌∷◌, ◌++◌, length, take, drop, Option, Some, None, if◌then◌else◌}
use Rattle.xti_base.specs.declared.limits.TheConstants.{MOST_SEND}
use Rattle.xti_base.specs.declared.errno.Errno.TheVariants.{TBADFLAG, TBADDATA, TFLOW}
use Rattle.xti_model.specs.declared.profile.Providers.{Providers}
use Rattle.xti_model.specs.declared.entry.Outcome.{Outcome}
use Rattle.xti_model.specs.declared.entry.Outcome.TheVariants.{Done, Part}
use Rattle.xti_model.specs.declared.entry.Reply.TheVariants.{Sent}
use Rattle.xti_model.specs.Provider.{profile}
use Rattle.xti_model.specs.Symbols.{piece}
use Rattle.xti_model.specs.Endpoint.{Endpoint}
use Rattle.xti_model.specs.World.{World, Change, at_endpoint}
use Rattle.xti_model.specs.Links.{linked, at_linked}
use Rattle.xti_model.specs.Sending.{ready_for, room_for, message_limit, has_ends, unfinished}
use Rattle.xti_model.specs.Events.{sending, looks_data}
use Rattle.xti_model.specs.Arguments.{is_too_many, has_more, is_expedited, has_other_flags}
use Rattle.xti_model.specs.Plan.{Row, Plan, refuses, without_connections, outside, looks, not_ready, plan_of, on_open}

-- more bytes than the limit, where there is one
abbrev pub is_over : Option ℕ → ℕ → Bool
is_over None n = false
is_over (Some limit) n = nat_lt limit n

-- more than one call takes
abbrev pub is_too_much : ℕ → List ℕ → Bool
is_too_much parts bytes = is_too_many parts || nat_lt MOST_SEND (length bytes)

-- bytes that the provider does not send as they are; so many of them were taken before
abbrev pub is_bad_data : Providers → List ℕ → Bool → ℕ → Endpoint → Bool
is_bad_data p bytes expedited taken e =
    ((length bytes == 0) && not (profile p e.prov).sendzero) ||
    is_over (message_limit p e expedited) (unfinished expedited e + (length bytes - taken))

-- whether the sender waits for room
abbrev pub mark_flow : Bool → Bool → Endpoint → Endpoint
mark_flow expedited on e = if expedited then record e { flow_expedited = on } else record e { flow_normal = on }

-- when a send is refused, in order
abbrev pub rows : Providers → ℕ → List ℕ → ℕ → ℕ → Option Endpoint → Endpoint → List Row
rows p parts bytes flags taken peer e =
    without_connections e ∷
    refuses (has_other_flags flags) TBADFLAG ∷
    outside sending e ∷
    refuses (is_too_much parts bytes) TBADDATA ∷
    refuses (is_bad_data p bytes (is_expedited flags) taken e) TBADDATA ∷
    looks looks_data e ∷
    not_ready (not (ready_for (is_expedited flags) e peer)) TFLOW ∷ []

-- how many of the bytes that are left the peer takes now
abbrev pub taken_now : Option Endpoint → Endpoint → Bool → ℕ → ℕ
taken_now peer e expedited left = min left (room_for expedited e peer)

-- whether the message ends with these bytes
abbrev pub closes : Providers → Endpoint → ℕ → ℕ → ℕ → Bool
closes p e flags left now = (now == left) && not (has_more flags) && has_ends p e (is_expedited flags)

-- what came waits after what waits already
abbrev pub received : Bool → List ℕ → Endpoint → Endpoint
received expedited symbols e = if expedited then record e { expedited = e.expedited ++ symbols } else record e { normal = e.normal ++ symbols }

-- the unfinished count after so many bytes more
abbrev pub count_more : Option ℕ → Bool → ℕ → ℕ
count_more None ends count = 0
count_more (Some limit) ends count = if ends then 0 else count

-- how long the unfinished message is
abbrev pub sent : Providers → Bool → Bool → ℕ → Endpoint → Endpoint
sent p expedited ends now e =
    if expedited then record e { flow_expedited = false; unfinished_expedited = count_more (message_limit p e true) ends (e.unfinished_expedited + now) }
    else record e { flow_normal = false; unfinished_normal = count_more (message_limit p e false) ends (e.unfinished_normal + now) }

-- the peer gets what is taken now, and the sender counts it
abbrev pub changes : Providers → ℕ → List ℕ → ℕ → ℕ → ℕ → Endpoint → List Change
changes p fd bytes flags taken now e =
    at_linked fd e.peer (received (is_expedited flags) (piece (take now (drop taken bytes)) (closes p e flags (length bytes - taken) now))) ++
    at_endpoint fd (sent p (is_expedited flags) (closes p e flags (length bytes - taken) now) now) ∷ []

-- a sender that waits goes on until all is taken
abbrev pub outcome : Endpoint → ℕ → ℕ → Outcome
outcome e total taken = if (taken == total) || e.nonblock then Done (Sent taken) else Part taken

-- with so many bytes taken in this step
abbrev pub plan_now : Providers → ℕ → ℕ → List ℕ → ℕ → ℕ → ℕ → Option Endpoint → Endpoint → Plan
plan_now p fd parts bytes flags taken now peer e =
    record (plan_of fd e (rows p parts bytes flags taken peer e) (changes p fd bytes flags taken now e) (outcome e (length bytes) (taken + now))) { marks = at_endpoint fd (mark_flow (is_expedited flags) true) ∷ [] }

-- to the endpoint that it is linked with
abbrev pub plan_to : Providers → ℕ → ℕ → List ℕ → ℕ → ℕ → Endpoint → Option Endpoint → Plan
plan_to p fd parts bytes flags taken e peer = plan_now p fd parts bytes flags taken (taken_now peer e (is_expedited flags) (length bytes - taken)) peer e

-- so many bytes were taken before
abbrev pub plan : Providers → World → ℕ → ℕ → List ℕ → ℕ → ℕ → Plan
plan p w fd parts bytes flags taken = on_open p w fd (λ e. plan_to p fd parts bytes flags taken e (linked p w fd e))
