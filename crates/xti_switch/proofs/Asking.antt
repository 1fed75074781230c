-- What becomes of a request to connect.
use Rattle.std.proofs.Common.{◌≡◌, ◌≤◌, ℕ, ◌+◌, Bool, true, false, not, cond, List, [], ◌∷◌, length, Option, Some, None, Ok, Err, refl, sym, ap, ◌∙◌}
use Rattle.std.specs.Prelude.{IfSome, Result, option_map}
use Rattle.xti_base.specs.declared.kinds.Seq.{Seq}
use Rattle.xti_base.specs.declared.limits.TheConstants.{MOST_CONNECT_DATA, MOST_OPTIONS}
use Rattle.xti_base.specs.declared.reasons.TheConstants.{NO_LISTENER, QUEUE_FULL}
use Rattle.xti_model.specs.declared.entry.Applied.{Applied}
use Rattle.xti_model.specs.declared.entry.Outcome.{Outcome}
use Rattle.xti_model.specs.declared.profile.Providers.{Providers}
use Rattle.xti_model.specs.Endpoint.{Endpoint, Indication, address_of}
use Rattle.xti_model.specs.World.{World, Change, endpoint, the_switch, changed, at_endpoint}
use Rattle.xti_model.specs.Switch.{listener}
use Rattle.xti_model.specs.Plan.{Plan, first, if_open}
use Rattle.xti_model.specs.Step.{step_of, step_by, made}
use Rattle.xti_model.specs.Calls.Connect as Connect
use Rattle.xti_end.specs.Frames.{request_in}
use Rattle.xti_end.specs.Taken.{taken}
use Rattle.xti_lent.specs.Answers.{Changed, IsMade}
use Rattle.xti_lent.specs.Lending.{Lending, cells, open_at}
use Rattle.xti_lent.proofs.Opened.{open_alike, then_changed}
use Rattle.xti_switch.specs.Connects.{number_for, queued, IsRequestOf, Requests}
use Rattle.xti_switch.proofs.Plans.{neither-left, none-holds, within}

abbrev given : Bool → Bool → ℕ → Result Seq ℕ
given a b n = cond a (Err NO_LISTENER) (cond b (Err QUEUE_FULL) (Ok (record { 0 = n })))

number-step : (a b : Bool) (n : ℕ) (seq : Seq) → given a b n ≡ Ok seq → seq.0 ≡ n
number-step true b n seq e = cc
number-step false true n seq e = cc
number-step false false n seq e = let s : record { 0 = n } ≡ seq = cc in ap (λ (s : Seq). s.0) (sym s)

-- the listener's next number
pub next-number : (l : Endpoint) (seq : Seq) → number_for (Some l) ≡ Ok seq → seq.0 ≡ l.last_number + 1
next-number l seq e = number-step (not (Connect.is_listening l)) (Connect.is_full l) (l.last_number + 1) seq e

-- the request that is queued is the one that is asked
asked-queued : (l : Endpoint) (fd : ℕ) (seq : Seq) (i : Indication) (address options udata : List ℕ) → number_for (Some l) ≡ Ok seq
    → i ≡ record { number = seq.0; caller = fd; address = address; options = options; udata = udata } → queued i seq.0 l ≡ Connect.asked fd address options udata l
asked-queued l fd seq i address options udata e q = rw (q, next-number l seq e) refl

pub asks : (l m k : Lending) (fd listener : ℕ) (seq : Seq) (frame options udata : List ℕ) (o : Option Endpoint) → number_for (open_at l listener) ≡ Ok seq → IsRequestOf o fd seq.0 options udata frame
    → Changed (at_endpoint listener (queued (request_in fd frame) seq.0) ∷ []) l m → m.providers ≡ l.providers → Changed (at_endpoint fd (Connect.asking listener seq.0) ∷ []) m k
    → IfSome o (λ e. Changed (at_endpoint listener (Connect.asked fd (address_of e) options udata) ∷ at_endpoint fd (Connect.asking listener seq.0) ∷ []) l k)
asks l m k fd listener seq frame options udata None n r a p b = tt
asks l m k fd listener seq frame options udata (Some e) n r a p b =
    let alike = open_alike l listener (queued (request_in fd frame) seq.0) (Connect.asked fd (address_of e) options udata)
    (λ le i. asked-queued le fd seq (request_in fd frame) (address_of e) options udata (sym (ap number_for i) ∙ n) r) in
    then_changed l m k (at_endpoint listener (Connect.asked fd (address_of e) options udata)) (at_endpoint fd (Connect.asking listener seq.0) ∷ []) (a ∙ alike) p b

-- whoever is found at the address
abbrev pub found_in : ℕ → Option Endpoint → Option Connect.Found
found_in listener o = option_map (λ e. record { fd = listener; endpoint = e }) o

taken-step : (a b : Bool) (n : ℕ) (seq : Seq) (x y : List Change) (z : ℕ → List Change) → given a b n ≡ Ok seq → cond a x (cond b y (z n)) ≡ z seq.0
taken-step true b n seq x y z e = cc
taken-step false true n seq x y z e = cc
taken-step false false n seq x y z e = ap z (sym (number-step false false n seq e))

-- it takes the request
pub request-taken : (o : Option Endpoint) (listener fd : ℕ) (options udata : List ℕ) (e : Endpoint) (seq : Seq) → number_for o ≡ Ok seq
    → Connect.request fd options udata e (found_in listener o) ≡ at_endpoint listener (Connect.asked fd (address_of e) options udata) ∷ at_endpoint fd (Connect.asking listener seq.0) ∷ []
request-taken None listener fd options udata e seq n = cc
request-taken (Some l) listener fd options udata e seq n =
    taken-step (not (Connect.is_listening l)) (Connect.is_full l) (l.last_number + 1) seq _ _
    (λ (k : ℕ). at_endpoint listener (Connect.asked fd (address_of e) options udata) ∷ at_endpoint fd (Connect.asking listener k) ∷ []) n

turned-step : (a b : Bool) (n reason : ℕ) (x : ℕ → List Change) (z : List Change) → given a b n ≡ Err reason → cond a (x NO_LISTENER) (cond b (x QUEUE_FULL) z) ≡ x reason
turned-step true b n reason x z e = let s : NO_LISTENER ≡ reason = cc in ap x s
turned-step false true n reason x z e = let s : QUEUE_FULL ≡ reason = cc in ap x s
turned-step false false n reason x z e = cc

-- it takes no request
pub request-turned : (o : Option Endpoint) (listener fd : ℕ) (options udata : List ℕ) (e : Endpoint) (reason : ℕ) → number_for o ≡ Err reason
    → Connect.request fd options udata e (found_in listener o) ≡ at_endpoint fd (Connect.turned_away reason) ∷ []
request-turned None listener fd options udata e reason n = let s : NO_LISTENER ≡ reason = cc in ap (λ (k : ℕ). at_endpoint fd (Connect.turned_away k) ∷ []) s
request-turned (Some l) listener fd options udata e reason n =
    turned-step (not (Connect.is_listening l)) (Connect.is_full l) (l.last_number + 1) reason (λ (k : ℕ). at_endpoint fd (Connect.turned_away k) ∷ []) _ n

-- whoever asks
pub if-some : (P : Endpoint → Type 0) (o : Option Endpoint) → ((e : Endpoint) → P e) → IfSome o P
if-some P None h = tt
if-some P (Some e) h = h e

pub if-some-too : (P Q : Endpoint → Type 0) (o : Option Endpoint) → IfSome o P → ((e : Endpoint) → P e → Q e) → IfSome o Q
if-some-too P Q None h f = tt
if-some-too P Q (Some e) h f = f e h

-- the plan of the open endpoint
abbrev pub connect_of : Providers → World → ℕ → List ℕ → List ℕ → List ℕ → Endpoint → Plan
connect_of p w fd address options udata e = Connect.plan_to fd address options udata e (Connect.found p w fd address e)

abbrev Unrefused : List ℕ → List ℕ → List ℕ → Endpoint → Type 0
Unrefused address options udata e = None ≡ first (Connect.rows address options udata e)

pub short-options : (address options udata : List ℕ) (e : Endpoint) → Unrefused address options udata e → length options ≤ MOST_OPTIONS
short-options address options udata e u = within (length options) MOST_OPTIONS (neither-left _ _ (none-holds (Connect.rows address options udata e) u).1.1.1.0)

pub little-data : (address options udata : List ℕ) (e : Endpoint) → Unrefused address options udata e → length udata ≤ MOST_CONNECT_DATA
little-data address options udata e u = within (length udata) MOST_CONNECT_DATA (none-holds (Connect.rows address options udata e) u).1.1.1.1.0

-- a request that no row refuses
connect-made : (p : Providers) (w : World) (fd : ℕ) (address options udata : List ℕ) (e : Endpoint) → endpoint p w fd ≡ Some e → None ≡ first (Connect.rows address options udata e)
    → step_of p w (Connect.plan p w fd address options udata) ≡ Some (made p fd (Connect.outcome e) (changed p w (Connect.request fd options udata e (Connect.found p w fd address e))))
connect-made p w fd address options udata e o r =
    ap (λ (x : Option Endpoint). step_of p w (if_open fd x (λ e. Connect.plan_to fd address options udata e (Connect.found p w fd address e)))) o
    ∙ ap (step_by p w (Connect.plan_to fd address options udata e (Connect.found p w fd address e))) (sym r)

pub connects : (l k : Lending) (fd : ℕ) (address options udata : List ℕ) (e : Endpoint) (to : Option ℕ) (outcome : Outcome) (a : Applied) → open_at l fd ≡ Some e → None ≡ first (Connect.rows address options udata e)
    → to ≡ listener (the_switch l.providers (cells l)) e.prov address fd → outcome ≡ Connect.outcome e → Requests l k fd to options udata → k.providers ≡ l.providers → IsMade k fd outcome a
    → taken a (cells k) ≡ step_of l.providers (cells l) (Connect.plan l.providers (cells l) fd address options udata)
connects l k fd address options udata e to outcome a o r t u q same m =
    let c : Changed (Connect.request fd options udata e (Connect.found_at l.providers (cells l) to)) l k = rw o at q in
    m ∙ ap (λ (p : Providers). Some (made p fd outcome (cells k))) same
    ∙ ap (λ (w : World). Some (made l.providers fd outcome w)) (c ∙ ap (λ (n : Option ℕ). changed l.providers (cells l) (Connect.request fd options udata e (Connect.found_at l.providers (cells l) n))) t)
    ∙ ap (λ (x : Outcome). Some (made l.providers fd x (changed l.providers (cells l) (Connect.request fd options udata e (Connect.found l.providers (cells l) fd address e))))) u
    ∙ sym (connect-made l.providers (cells l) fd address options udata e o r)
