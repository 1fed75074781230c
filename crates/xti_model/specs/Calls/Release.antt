-- sending and receiving an orderly release, with data or without
use Rattle.std.specs.Prelude.{ℕ, not, nat_lt, List, length, Some, None, unwrap_or, [], ◌∷◌, ◌++◌, if◌then◌else◌}
use Rattle.xti_base.specs.declared.kinds.State.TheVariants.{T_DATAXFER, T_OUTREL, T_INREL}
use Rattle.xti_base.specs.declared.kinds.Event.TheVariants.{T_ORDREL}
use Rattle.xti_base.specs.declared.errno.Errno.TheVariants.{TBADDATA, TNOREL}
use Rattle.xti_model.specs.declared.profile.Providers.{Providers}
use Rattle.xti_model.specs.declared.entry.Outcome.TheVariants.{Done}
use Rattle.xti_model.specs.declared.entry.Reply.{Reply}
use Rattle.xti_model.specs.declared.entry.Reply.TheVariants.{Plain, RelData}
use Rattle.xti_model.specs.Endpoint.{Endpoint, in_state}
use Rattle.xti_model.specs.World.{World, at_endpoint}
use Rattle.xti_model.specs.Links.{at_linked}
use Rattle.xti_model.specs.Events.{is_state, is_here, sending, receiving, looks_disconnect}
use Rattle.xti_model.specs.Plan.{Row, Plan, refuses, without_release, outside, looks, overflows, field, trimmed, plan_of, on_open}
use Rattle.xti_model.specs.Provider.{release_limit}
use Rattle.xti_model.specs.Calls.Disconnect.{idle}

-- the endpoint is told of the other side's release, with the data that go with it
abbrev pub released : List ℕ → Endpoint → Endpoint
released udata e = record e { release = Some udata }

-- released in one direction, or in both
abbrev pub after_send : Endpoint → Endpoint
after_send e = if is_state (T_DATAXFER ∷ []) e then in_state T_OUTREL e else idle e

-- the release that waits carries these data; none where none waits
abbrev pub release_data : Endpoint → List ℕ
release_data e = unwrap_or e.release []

-- more data than go with a release
abbrev pub bad_release_data : Providers → List ℕ → Endpoint → Row
bad_release_data p udata e = refuses (nat_lt (release_limit p e.prov) (length udata)) TBADDATA

-- when sndrel and sndreldata are refused, in order; sndrel has no data
abbrev pub send_rows : Providers → List ℕ → Endpoint → List Row
send_rows p udata e =
    without_release e ∷
    outside sending e ∷
    bad_release_data p udata e ∷
    looks looks_disconnect e ∷ []

-- sndrel and sndreldata
abbrev pub send_plan : Providers → World → ℕ → List ℕ → Plan
send_plan p w fd udata = on_open p w fd (λ e. plan_of fd e (send_rows p udata e) (at_linked fd e.peer (released udata) ++ at_endpoint fd after_send ∷ []) (Done Plain))

-- released in one direction, or in both
abbrev pub after_receive : Endpoint → Endpoint
after_receive e = if is_state (T_DATAXFER ∷ []) e then record e { release = None; state = T_INREL } else idle e

-- when rcvrel and rcvreldata are refused, in order; rcvrel asks for no data
abbrev pub receive_rows : ℕ → Endpoint → List Row
receive_rows umax e =
    without_release e ∷
    outside receiving e ∷
    looks looks_disconnect e ∷
    refuses (not (is_here e T_ORDREL)) TNOREL ∷
    overflows (field (release_data e) umax ∷ []) ∷ []

-- a release is taken, and this is told of it
abbrev pub taking_plan : Providers → World → ℕ → ℕ → (Endpoint → Reply) → Plan
taking_plan p w fd umax reply = on_open p w fd (λ e. plan_of fd e (receive_rows umax e) (at_endpoint fd after_receive ∷ []) (Done (reply e)))

-- rcvrel, which drops the data
abbrev pub receive_plan : Providers → World → ℕ → Plan
receive_plan p w fd = taking_plan p w fd 0 (λ e. Plain)

-- rcvreldata
abbrev pub receive_data_plan : Providers → World → ℕ → ℕ → Plan
receive_data_plan p w fd umax = taking_plan p w fd umax (λ e. RelData (trimmed (release_data e) umax))
