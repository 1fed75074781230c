-- A refusal with an error takes no bytes, gives none, and is no receipt of the release.
use Rattle.std.proofs.Common.{Bool, true, false, [], ◌≡◌, refl, ap, Option, Some, None}
use Rattle.std.proofs.lemmas.Bool.{false≢true}
use Rattle.xti_base.specs.declared.kinds.State.{State}
use Rattle.xti_base.specs.declared.kinds.State.TheVariants as state
use Rattle.xti_model.specs.declared.call.Call.{Call}
use Rattle.xti_model.specs.declared.call.Call.TheVariants as call
use Rattle.xti_model.specs.declared.entry.Outcome.TheVariants.{Done}
use Rattle.xti_model.specs.declared.entry.Reply.{Reply}
use Rattle.xti_model.specs.declared.entry.Reply.TheVariants as reply
use Rattle.xti_model.specs.Endpoint.{Endpoint}
use Rattle.xti_model.specs.World.{state_of}
use Rattle.xti_model.specs.Streams.{Connection, is_over, taken_after, got_by}
use Rattle.xti_laws_streams.specs.Laws.{is_release_receipt}
use Rattle.xti_laws_streams.proofs.Invariant.{View, HasView}
use Rattle.xti_laws.specs.Requests.{is_connected}
use Rattle.xti_laws.proofs.StepWays.{is_denial}
use Rattle.xti_laws.specs.Requests.{is_connected}

pub denial-takes : (r : Reply) → is_denial r ≡ true → taken_after (Done r) ≡ None
denial-takes (reply.Refused e) h = refl
denial-takes (reply.Look e) h = refl
denial-takes (reply.Sent n) h = absurd (false≢true h)
denial-takes other h = refl

pub denial-gives : (c : Connection) (k : Bool) (r : Reply) → is_denial r ≡ true → got_by c k (Done r) ≡ []
denial-gives c k (reply.Got bytes flags) h = absurd (false≢true h)
denial-gives c k other h = refl

pub denial-releases : (c : Call) (r : Reply) → is_denial r ≡ true → is_release_receipt c (Done r) ≡ false
denial-releases (call.TRcvRel fd) reply.Plain h = absurd (false≢true h)
denial-releases (call.TRcvRel fd) other h = refl
denial-releases (call.TRcvRelData fd umax) (reply.RelData udata) h = absurd (false≢true h)
denial-releases (call.TRcvRelData fd umax) (reply.Overflow seq) h = absurd (false≢true h)
denial-releases (call.TRcvRelData fd umax) other h = refl
denial-releases other r h = refl

-- Views and states.
pub state-of_view : (v : View) (o : Option Endpoint) → HasView v o → state_of o ≡ v.state
state-of_view v None h = absurd h
state-of_view v (Some e) h = ap (λ u. u.state) h

pub connected-lasts : (s : State) → is_connected s ≡ true → is_over s ≡ false
connected-lasts state.T_UNINIT h = absurd (false≢true h)
connected-lasts state.T_UNBND h = absurd (false≢true h)
connected-lasts state.T_IDLE h = absurd (false≢true h)
connected-lasts state.T_INCON h = absurd (false≢true h)
connected-lasts state.T_OUTCON h = refl
connected-lasts state.T_DATAXFER h = refl
connected-lasts state.T_OUTREL h = refl
connected-lasts state.T_INREL h = refl
