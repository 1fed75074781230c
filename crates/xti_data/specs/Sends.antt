-- The calls that send data and releases, and what they make of lent cells.
use Rattle.std.specs.Prelude.{◌∷◌, ◌++◌, ℕ, true, List, [], length, take, Option, None, Bool, if◌then◌else◌}
use Rattle.std.specs.List.{concat}
use Rattle.xti_base.specs.declared.errno.Errno.TheVariants.{TFLOW}
use Rattle.xti_model.specs.declared.call.Call.{Call}
use Rattle.xti_model.specs.declared.call.Call.TheVariants as call
use Rattle.xti_model.specs.declared.entry.Go.{Go}
use Rattle.xti_model.specs.declared.entry.Go.TheVariants as go
use Rattle.xti_model.specs.declared.entry.Outcome.{Outcome}
use Rattle.xti_model.specs.declared.entry.Outcome.TheVariants.{Done, Part}
use Rattle.xti_model.specs.declared.entry.Reply.{Reply}
use Rattle.xti_model.specs.declared.entry.Applied.{Applied}
use Rattle.xti_model.specs.declared.entry.Reply.TheVariants.{Refused, Sent}
use Rattle.xti_model.specs.declared.profile.Providers.{Providers}
use Rattle.xti_model.specs.Arguments.{is_expedited}
use Rattle.xti_model.specs.Calls.Release as Release
use Rattle.xti_model.specs.Calls.Send as Send
use Rattle.xti_model.specs.Endpoint.{Endpoint}
use Rattle.xti_model.specs.Links.{at_linked, if_names}
use Rattle.xti_model.specs.Plan.{Plan, Refusal, first}
use Rattle.xti_model.specs.Step.{send}
use Rattle.xti_model.specs.World.{Change, endpoint, at_endpoint}
use Rattle.xti_end.specs.Held.{Held, parts_of}
use Rattle.xti_lent.specs.Answers.{IsDoneAfter}
use Rattle.xti_lent.specs.Lending.{Lending, cells}

abbrev pub IsData : Call → Type 0
IsData (call.TSnd fd bytes flags) = Unit {0}
IsData (call.TSndV fd parts flags) = Unit {0}
IsData (call.TSndRel fd) = Unit {0}
IsData (call.TSndRelData fd udata) = Unit {0}
IsData _ = ⊥

-- the endpoint that is open with the descriptor among lent cells
abbrev pub sender : Lending → ℕ → Option Endpoint
sender l fd = endpoint l.providers (cells l) fd

-- how these parts are sent
abbrev pub sending : Lending → ℕ → List (List ℕ) → ℕ → Go → Plan
sending l fd parts flags go = send l.providers (cells l) fd (length parts) (concat parts) flags go

-- what a refused step answers: a later one how many bytes were taken before
abbrev pub told : Go → Reply → Reply
told go.Begin reply = reply
told (go.More n) reply = Sent n

-- what a step that isn't refused comes to
abbrev pub outcome_of : Bool → ℕ → Outcome
outcome_of is_done taken = if is_done then Done (Sent taken) else Part taken

-- the endpoint waits to send data of the kind
abbrev pub marking : ℕ → Bool → List Change
marking fd expedited = at_endpoint fd (Send.mark_flow expedited true) ∷ []

-- where there is no room, the first step sets the flow mark
abbrev pub flow_marks : ℕ → ℕ → Go → List Change
flow_marks fd flags go.Begin = marking fd (is_expedited flags)
flow_marks fd flags (go.More n) = []

-- and there is none: the send is refused so, or a later step tells how many bytes were taken
abbrev pub RefusesFlow : ℕ → ℕ → Go → Lending → Lending → Applied → Type 0
RefusesFlow fd flags go old new a = IsDoneAfter (flow_marks fd flags go) old new fd (told go (Refused TFLOW)) a

-- the provider doesn't send the bytes of these parts, of which so many were taken before
abbrev pub are_bad_parts : Providers → List (List ℕ) → Bool → ℕ → Endpoint → Bool
are_bad_parts p parts expedited taken e = Send.is_bad_data p (concat parts) expedited taken e

-- what refuses a send of these parts at the open endpoint, before its flow is looked at; so many of their bytes were taken before
abbrev pub refusal_of : Providers → List (List ℕ) → ℕ → ℕ → Held → Option Refusal
refusal_of p parts flags taken h = first (take 6 (Send.rows p (length parts) (concat parts) flags taken None (parts_of h.body)))

-- how a release is sent with these data
abbrev pub releasing : Lending → ℕ → List ℕ → Plan
releasing l fd udata = Release.send_plan l.providers (cells l) fd udata

-- what refuses it at the open endpoint
abbrev pub release_refusal : Providers → List ℕ → Held → Option Refusal
release_refusal p udata h = first (Release.send_rows p udata (parts_of h.body))

-- an endpoint is told of the release of its peer and of the data that go with it; one that doesn't name this as its peer stays
abbrev pub released_by : ℕ → List ℕ → Endpoint → Endpoint
released_by from udata = if_names from (Release.released udata)

-- so the endpoint with a descriptor changes
abbrev pub told_of_release : ℕ → ℕ → List ℕ → List Change
told_of_release fd from udata = at_endpoint fd (released_by from udata) ∷ []

-- the linked peer is told of the release and of the data that go with it, and the sender sends no more
abbrev pub telling : ℕ → Option ℕ → List ℕ → List Change
telling fd peer udata = at_linked fd peer (Release.released udata) ++ at_endpoint fd Release.after_send ∷ []
