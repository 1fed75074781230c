-- What becomes of a disconnect.
use Rattle.std.proofs.Common.{◌≡◌, ◌≤◌, ℕ, Bool, true, false, ◌&&◌, cond, List, [], ◌∷◌, ◌++◌, length, Option, Some, None, refl, sym, ap, ◌∙◌, subst}
use Rattle.std.specs.Prelude.{is_none, is_some, option_and_then}
use Rattle.xti_base.specs.declared.limits.TheConstants.{MOST_CONNECT_DATA}
use Rattle.xti_base.specs.declared.reasons.TheConstants.{ABORTED}
use Rattle.xti_model.specs.declared.entry.Applied.{Applied}
use Rattle.xti_model.specs.declared.entry.Outcome.TheVariants.{Done}
use Rattle.xti_model.specs.declared.entry.Reply.TheVariants.{Plain}
use Rattle.xti_model.specs.Calls.Disconnect as Disconnect
use Rattle.xti_model.specs.Endpoint.{Endpoint, Indication, find_number}
use Rattle.xti_model.specs.Links.{break}
use Rattle.xti_model.specs.Plan.{Plan, first, plan_of}
use Rattle.xti_model.specs.Step.{step_of}
use Rattle.xti_model.specs.World.{Change, at_endpoint, endpoint}
use Rattle.xti_end.specs.Taken.{taken}
use Rattle.xti_lent.specs.Answers.{Changed, IsDone}
use Rattle.xti_lent.specs.Fit.{SameCells}
use Rattle.xti_lent.specs.Lending.{Lending, cells}
use Rattle.xti_switch.specs.Disconnects.{asked, rejecting, EndsOwn}
use Rattle.xti_switch.proofs.Plans.{done-after, made-open, none-holds, within}
use Rattle.xti_switch.proofs.Reaching.{of-some}

-- the plan of the open endpoint
abbrev pub disconnect_of : ℕ → ℕ → List ℕ → Endpoint → Plan
disconnect_of fd number udata e = plan_of fd e (Disconnect.send_rows number udata e) (Disconnect.send_changes fd number udata e) (Done Plain)

abbrev pub Unrefused : ℕ → List ℕ → Endpoint → Type 0
Unrefused number udata e = None ≡ first (Disconnect.send_rows number udata e)

pub little-data : (number : ℕ) (udata : List ℕ) (e : Endpoint) → Unrefused number udata e → length udata ≤ MOST_CONNECT_DATA
little-data number udata e u = within (length udata) MOST_CONNECT_DATA (none-holds (Disconnect.send_rows number udata e) u).1.1.1.0

some-where-asked : (b : Bool) (o : Option Indication) → b ≡ true → (b && is_none o) ≡ false → is_some o ≡ true
some-where-asked true None t e = cc
some-where-asked true (Some i) t e = refl
some-where-asked false o t e = cc

-- the request that is rejected is there
pub asked-there : (l : Lending) (fd number : ℕ) (udata : List ℕ) (e : Endpoint) → endpoint l.providers (cells l) fd ≡ Some e → Unrefused number udata e → Disconnect.is_asked e ≡ true → is_some (asked l fd number) ≡ true
asked-there l fd number udata e o u t =
    ap (λ (x : Option Endpoint). is_some (option_and_then (λ (y : Endpoint). find_number number y.outstanding) x)) o
    ∙ some-where-asked (Disconnect.is_asked e) (find_number number e.outstanding) t (none-holds (Disconnect.send_rows number udata e) u).1.1.0

-- what changes: a request is rejected, or the connection ended
pub changes-rejecting : (l k : Lending) (fd number : ℕ) (udata : List ℕ) (e : Endpoint) → endpoint l.providers (cells l) fd ≡ Some e → Disconnect.is_asked e ≡ true → Changed (rejecting l fd number udata) l k → Changed (Disconnect.send_changes fd number udata e) l k
changes-rejecting l k fd number udata e o t c =
    let here = Disconnect.reject fd udata (find_number number e.outstanding) in
    let same : rejecting l fd number udata ≡ Disconnect.send_changes fd number udata e =
    ap (λ (x : Option Endpoint). Disconnect.reject fd udata (option_and_then (λ (y : Endpoint). find_number number y.outstanding) x)) o
    ∙ sym (ap (λ (b : Bool). cond b here (break fd e ABORTED udata ++ at_endpoint fd Disconnect.idle ∷ [])) t) in
    subst (λ (cs : List Change). Changed cs l k) same c

pub changes-ending : (l k : Lending) (fd number : ℕ) (udata : List ℕ) (e : Endpoint) → endpoint l.providers (cells l) fd ≡ Some e → Disconnect.is_asked e ≡ false → EndsOwn l k fd udata → Changed (Disconnect.send_changes fd number udata e) l k
changes-ending l k fd number udata e o t c =
    let ended = λ (x : Endpoint). break fd x ABORTED udata ++ at_endpoint fd Disconnect.idle ∷ [] in
    subst (λ (cs : List Change). Changed cs l k) (sym (ap (λ (b : Bool). cond b (Disconnect.reject fd udata (find_number number e.outstanding)) (ended e)) t))
    (of-some (λ (x : Endpoint). Changed (ended x) l k) (endpoint l.providers (cells l) fd) e o c)

pub disconnects : (l k : Lending) (fd number : ℕ) (udata : List ℕ) (e : Endpoint) (a : Applied) → endpoint l.providers (cells l) fd ≡ Some e → Unrefused number udata e → SameCells l k → Changed (Disconnect.send_changes fd number udata e) l k → IsDone k fd Plain a
    → taken a (cells k) ≡ step_of l.providers (cells l) (Disconnect.send_plan l.providers (cells l) fd number udata)
disconnects l k fd number udata e a o u s c m =
    done-after l k fd (Disconnect.send_changes fd number udata e) Plain a s c m ∙ sym (made-open l.providers (cells l) fd (disconnect_of fd number udata) e o u)
