-- rcv and rcvv
use Rattle.std.specs.Prelude.{ℕ, ◌+◌, ◌&&◌, ◌||◌, not, Bool, true, List, [], ◌∷◌, if◌then◌else◌}
use Rattle.xti_base.specs.declared.errno.Errno.TheVariants.{TBADDATA, TNODATA}
use Rattle.xti_model.specs.declared.profile.Providers.{Providers}
use Rattle.xti_model.specs.declared.entry.Outcome.TheVariants.{Done}
use Rattle.xti_model.specs.declared.entry.Reply.{Reply}
use Rattle.xti_model.specs.declared.entry.Reply.TheVariants.{Got}
use Rattle.xti_model.specs.Symbols.{front, ended, rest}
use Rattle.xti_model.specs.Endpoint.{Endpoint}
use Rattle.xti_model.specs.World.{World, at_endpoint}
use Rattle.xti_model.specs.Sending.{waiting_of, has_ends}
use Rattle.xti_model.specs.Events.{receiving, some_wait, looks_data}
use Rattle.xti_model.specs.Arguments.{is_too_many}
use Rattle.xti_model.specs.Plan.{Row, Plan, refuses, without_connections, outside, looks, not_ready, plan_of, on_open}

-- whether nothing can be received now
abbrev pub has_nothing : Endpoint → Bool
has_nothing e = not (some_wait e.expedited) && (e.mid_expedited || not (some_wait e.normal))

-- when a receive is refused, in order
abbrev pub rows : ℕ → Endpoint → List Row
rows sizes e =
    without_connections e ∷
    outside receiving e ∷
    refuses (is_too_many sizes) TBADDATA ∷
    looks looks_data e ∷
    not_ready (has_nothing e) TNODATA ∷ []

-- whether the message goes on after what is received
abbrev pub goes_on : Providers → Bool → ℕ → Endpoint → Bool
goes_on p expedited max e = not (ended max (waiting_of expedited e)) && has_ends p e expedited

-- the next bytes are taken, of the expedited ones where there are any
abbrev pub received : Providers → ℕ → Endpoint → Endpoint
received p max e =
    if some_wait e.expedited then record e { expedited = rest max e.expedited; mid_expedited = goes_on p true max e }
    else record e { normal = rest max e.normal }

-- T_EXPEDITED and T_MORE
abbrev pub flags : Bool → Bool → ℕ
flags expedited more = (if expedited then 2 else 0) + (if more then 1 else 0)

-- the longest run of bytes that is asked for
abbrev pub got : Providers → Bool → ℕ → Endpoint → Reply
got p expedited max e = Got (front max (waiting_of expedited e)) (flags expedited (goes_on p expedited max e))

-- rcv, and rcvv with all sizes together; expedited data come first
abbrev pub plan : Providers → World → ℕ → ℕ → ℕ → Plan
plan p w fd sizes max = on_open p w fd (λ e. plan_of fd e (rows sizes e) (at_endpoint fd (received p max) ∷ []) (Done (got p (some_wait e.expedited) max e)))
