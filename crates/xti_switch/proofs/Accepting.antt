-- What becomes of a request that is accepted.
use Rattle.std.proofs.Common.{◌≡◌, ◌≤◌, ℕ, Bool, true, false, cond, eqb, List, [], ◌∷◌, length, Option, Some, None, refl, sym, ap, ◌∙◌, arith}
use Rattle.std.specs.Prelude.{is_none, is_some}
use Rattle.std.proofs.lemmas.Bool.{eqb-true}
use Rattle.std.proofs.lemmas.Bool.Decides.{nat_tests}
use Rattle.tpi_grammar.specs.declared.kind.Kind.TheVariants.{T_CONN_CON}
use Rattle.tpi_prim.specs.Fields.{kind_in}
use Rattle.xti_base.specs.declared.limits.TheConstants.{MOST_ADDRESS, MOST_CONNECT_DATA, MOST_OPTIONS}
use Rattle.xti_base.specs.declared.errno.Errno.TheVariants.{TBADF}
use Rattle.xti_base.specs.declared.kinds.State.TheVariants.{T_UNBND}
use Rattle.xti_model.specs.declared.entry.Applied.{Applied}
use Rattle.xti_model.specs.declared.entry.Outcome.TheVariants.{Done}
use Rattle.xti_model.specs.declared.entry.Reply.{Reply}
use Rattle.xti_model.specs.declared.entry.Reply.TheVariants.{Plain, Refused}
use Rattle.xti_model.specs.declared.profile.Providers.{Providers}
use Rattle.xti_model.specs.Endpoint.{Endpoint, Indication, address_of, find_number}
use Rattle.xti_model.specs.Events.{is_state}
use Rattle.xti_model.specs.Plan.{answers, first, has_effect, if_open}
use Rattle.xti_model.specs.Step.{step_of, step_by, made}
use Rattle.xti_model.specs.World.{World, Change, endpoint, changed}
use Rattle.xti_model.specs.Calls.Listen as Listen
use Rattle.xti_end.specs.declared.indications.Ind.{Ind}
use Rattle.xti_end.specs.Frames.{indication_of, IsRequest}
use Rattle.xti_end.specs.Taken.{taken}
use Rattle.xti_end.proofs.Callers.{request-is}
use Rattle.xti_lent.specs.Answers.{Changed, IsDone}
use Rattle.xti_lent.specs.Lending.{Lending, cells, open_at}
use Rattle.xti_switch.specs.Accepts.{linking, Accepts}
use Rattle.xti_switch.proofs.Plans.{none-holds}
use Rattle.xti_switch.specs.declared.accept.Acceptance.{Acceptance}

pub caller-is : (i : Ind) → IsRequest i → (indication_of i).caller ≡ i.caller.0
caller-is i k = rw (request-is i.frame k) refl

abbrev pub Unrefused : Providers → ℕ → ℕ → ℕ → List ℕ → List ℕ → Endpoint → Endpoint → Type 0
Unrefused p fd resfd number options udata e r = None ≡ first (Listen.accept_rows p fd resfd number options udata e r)

pub short-options : (p : Providers) (fd resfd number : ℕ) (options udata : List ℕ) (e r : Endpoint) → Unrefused p fd resfd number options udata e r → length options ≤ MOST_OPTIONS
short-options p fd resfd number options udata e r u =
    let s = (none-holds (Listen.accept_rows p fd resfd number options udata e r) u).1.1.1.1.1.1.1.1.0 in
    grind (arith, nat_tests, s)

pub short-data : (p : Providers) (fd resfd number : ℕ) (options udata : List ℕ) (e r : Endpoint) → Unrefused p fd resfd number options udata e r → length udata ≤ MOST_CONNECT_DATA
short-data p fd resfd number options udata e r u =
    let s = (none-holds (Listen.accept_rows p fd resfd number options udata e r) u).1.1.1.1.1.1.1.1.1.0 in
    grind (arith, nat_tests, s)

some-there : (o : Option Indication) → is_none o ≡ false → is_some o ≡ true
some-there None n = cc
some-there (Some i) n = refl

pub request-there : (p : Providers) (fd resfd number : ℕ) (options udata : List ℕ) (e r : Endpoint) → Unrefused p fd resfd number options udata e r → is_some (find_number number e.outstanding) ≡ true
request-there p fd resfd number options udata e r u = some-there (find_number number e.outstanding) (none-holds (Listen.accept_rows p fd resfd number options udata e r) u).1.1.1.1.0

-- the address that answers is one of the two
answering-step : (b : Bool) (e r : Endpoint) → length (address_of e) ≤ MOST_ADDRESS → length (address_of r) ≤ MOST_ADDRESS → length (address_of (cond b (record r { address = Some (address_of e); qlen = 0 }) r)) ≤ MOST_ADDRESS
answering-step true e r h k = h
answering-step false e r h k = k

pub short-answering : (e r : Endpoint) → length (address_of e) ≤ MOST_ADDRESS → length (address_of r) ≤ MOST_ADDRESS → length (address_of (Listen.bound_like e r)) ≤ MOST_ADDRESS
short-answering e r h k = answering-step (is_state (T_UNBND ∷ []) r) e r h k

pub accepts-kind : (e r : Endpoint) (o : Option Indication) (options udata : List ℕ) (a : Acceptance) → is_some o ≡ true → Accepts e r o options udata a → kind_in a.confirmation ≡ T_CONN_CON
accepts-kind e r None options udata a s x = cc
accepts-kind e r (Some i) options udata a s x = x.kind

-- the request that is found has the number
found-step : (b : Bool) (x i : Indication) (o : Option Indication) (n : ℕ) → eqb x.number n ≡ b → cond b (Some x) o ≡ Some i → (o ≡ Some i → i.number ≡ n) → i.number ≡ n
found-step true x i o n t e k = let s : x ≡ i = cc in ap (λ (y : Indication). y.number) (sym s) ∙ eqb-true x.number n t
found-step false x i o n t e k = k e

found-number : (n : ℕ) (xs : List Indication) (i : Indication) → find_number n xs ≡ Some i → i.number ≡ n
found-number n [] i e = cc
found-number n (x ∷ xs) i e = found-step (eqb x.number n) x i (find_number n xs) n refl e (found-number n xs i)

linking-step : (fd resfd number : ℕ) (e r : Endpoint) (o : Option Indication) (options udata : List ℕ) (a : Acceptance) → is_some o ≡ true → ((i : Indication) → o ≡ Some i → i.number ≡ number) → Accepts e r o options udata a
    → linking fd resfd number a ≡ Listen.accept_found fd resfd o options udata e r
linking-step fd resfd number e r None options udata a s h x = cc
linking-step fd resfd number e r (Some i) options udata a s h x = rw (h i refl, x.caller, x.source, x.address, x.confirmation, x.given resfd) refl

accept-made : (p : Providers) (w : World) (fd resfd number : ℕ) (options udata : List ℕ) (e r : Endpoint) → endpoint p w fd ≡ Some e → endpoint p w resfd ≡ Some r → Unrefused p fd resfd number options udata e r
    → step_of p w (Listen.accept_plan p w fd resfd number options udata) ≡ Some (made p fd (Done Plain) (changed p w (Listen.accept_found fd resfd (find_number number e.outstanding) options udata e r)))
accept-made p w fd resfd number options udata e r o q u =
    ap (λ (x : Option Endpoint). step_of p w (if_open fd x (λ e. Listen.accept_with p fd resfd number options udata e (endpoint p w resfd)))) o
    ∙ ap (λ (x : Option Endpoint). step_of p w (Listen.accept_with p fd resfd number options udata e x)) q
    ∙ ap (step_by p w (Listen.accept_with p fd resfd number options udata e (Some r))) (sym u)

pub accepts : (l k : Lending) (fd resfd number : ℕ) (options udata : List ℕ) (e r : Endpoint) (x : Acceptance) (a : Applied) → open_at l fd ≡ Some e → open_at l resfd ≡ Some r → Unrefused l.providers fd resfd number options udata e r
    → Accepts e r (find_number number e.outstanding) options udata x → Changed (linking fd resfd number x) l k → k.providers ≡ l.providers → IsDone k fd Plain a
    → taken a (cells k) ≡ step_of l.providers (cells l) (Listen.accept_plan l.providers (cells l) fd resfd number options udata)
accepts l k fd resfd number options udata e r x a o q u y c same m =
    let s = request-there l.providers fd resfd number options udata e r u in
    m ∙ ap (λ (p : Providers). Some (made p fd (Done Plain) (cells k))) same
    ∙ ap (λ (w : World). Some (made l.providers fd (Done Plain) w))
    (c ∙ ap (λ (cs : List Change). changed l.providers (cells l) cs) (linking-step fd resfd number e r (find_number number e.outstanding) options udata x s (found-number number e.outstanding) y))
    ∙ sym (accept-made l.providers (cells l) fd resfd number options udata e r o q u)

-- a refusal is answered
pub accept-refused : (p : Providers) (w : World) (fd resfd number : ℕ) (options udata : List ℕ) (e r : Endpoint) (reply : Reply) → endpoint p w fd ≡ Some e → endpoint p w resfd ≡ Some r
    → Some (answers reply) ≡ first (Listen.accept_rows p fd resfd number options udata e r)
    → Some (made p fd (Done reply) w) ≡ step_of p w (Listen.accept_plan p w fd resfd number options udata)
accept-refused p w fd resfd number options udata e r reply o q u =
    sym (ap (λ (x : Option Endpoint). step_of p w (if_open fd x (λ e. Listen.accept_with p fd resfd number options udata e (endpoint p w resfd)))) o
    ∙ ap (λ (x : Option Endpoint). step_of p w (Listen.accept_with p fd resfd number options udata e x)) q
    ∙ ap (step_by p w (Listen.accept_with p fd resfd number options udata e (Some r))) (sym u))

-- no endpoint is open to answer
pub accept-unopened : (p : Providers) (w : World) (fd resfd number : ℕ) (options udata : List ℕ) (e : Endpoint) → endpoint p w fd ≡ Some e → endpoint p w resfd ≡ None
    → Some (made p fd (Done (Refused TBADF)) w) ≡ step_of p w (Listen.accept_plan p w fd resfd number options udata)
accept-unopened p w fd resfd number options udata e o q =
    sym (ap (λ (x : Option Endpoint). step_of p w (if_open fd x (λ e. Listen.accept_with p fd resfd number options udata e (endpoint p w resfd)))) o
    ∙ ap (λ (x : Option Endpoint). step_of p w (Listen.accept_with p fd resfd number options udata e x)) q)

-- what isn't refused has an effect
pub accept-effect : (p : Providers) (w : World) (fd resfd number : ℕ) (options udata : List ℕ) (e r : Endpoint) → endpoint p w fd ≡ Some e → endpoint p w resfd ≡ Some r → Unrefused p fd resfd number options udata e r
    → has_effect (first (Listen.accept_plan p w fd resfd number options udata).rows) ≡ true
accept-effect p w fd resfd number options udata e r o q u =
    ap (λ (x : Option Endpoint). has_effect (first (if_open fd x (λ e. Listen.accept_with p fd resfd number options udata e (endpoint p w resfd))).rows)) o
    ∙ ap (λ (x : Option Endpoint). has_effect (first (Listen.accept_with p fd resfd number options udata e x).rows)) q
    ∙ ap has_effect (sym u)

-- the endpoint of the call isn't open
pub accept-shut : (p : Providers) (w : World) (fd resfd number : ℕ) (options udata : List ℕ) → endpoint p w fd ≡ None
    → Some (made p fd (Done (Refused TBADF)) w) ≡ step_of p w (Listen.accept_plan p w fd resfd number options udata)
accept-shut p w fd resfd number options udata o =
    sym (ap (λ (x : Option Endpoint). step_of p w (if_open fd x (λ e. Listen.accept_with p fd resfd number options udata e (endpoint p w resfd)))) o)
