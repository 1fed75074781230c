-- What a datagram send answers, by its rows.
use Rattle.std.proofs.Common.{◌≡◌, ◌≤◌, ℕ, Bool, true, false, not, ltb, cond, List, [], ◌∷◌, ◌++◌, length, take, Option, Some, None, refl, sym, ap, ◌∙◌, arith}
use Rattle.std.specs.Prelude.{option_and_then}
use Rattle.std.specs.List.{AllByRecursion}
use Rattle.std.proofs.lemmas.Bool.Decides.{nat_tests}
use Rattle.xti_base.specs.declared.limits.TheConstants.{MOST_ADDRESS, MOST_OPTIONS, MOST_SEND}
use Rattle.xti_base.specs.declared.errno.Errno.TheVariants.{TBADF, TFLOW}
use Rattle.xti_model.specs.declared.entry.Applied.{Applied}
use Rattle.xti_model.specs.declared.entry.Outcome.TheVariants.{Done}
use Rattle.xti_model.specs.declared.entry.Reply.{Reply}
use Rattle.xti_model.specs.declared.entry.Reply.TheVariants.{Refused, Plain}
use Rattle.xti_model.specs.declared.profile.Providers.{Providers}
use Rattle.xti_model.specs.Profile.{valid}
use Rattle.xti_model.specs.Endpoint.{Endpoint}
use Rattle.xti_model.specs.World.{World, endpoint, the_switch, changed, at_endpoint}
use Rattle.xti_model.specs.Switch.{bound}
use Rattle.xti_model.specs.Sending.{takes_datagram}
use Rattle.xti_model.specs.Plan.{Row, Refusal, answers, waits, first, has_effect, if_open}
use Rattle.xti_model.specs.Step.{Step, step_of, step_by, made}
use Rattle.xti_model.specs.Calls.Datagrams.{send_rows, send_plan, send_from, send_to, send_changes, mark_flow}
use Rattle.xti_end.specs.Taken.{taken}
use Rattle.xti_lent.specs.Lending.{Lending, cells}
use Rattle.xti_lent.specs.Fit.{SameCells}
use Rattle.xti_data.proofs.Sizes.{small-datagram}

abbrev row : Bool → Refusal → Row
row b r = record { holds = b; refusal = r }

kept-step : (b : Bool) (x q : Refusal) (o n : Option Refusal) → cond b (Some x) o ≡ Some q → (o ≡ Some q → n ≡ Some q) → cond b (Some x) n ≡ Some q
kept-step true x q o n e k = e
kept-step false x q o n e k = k e

-- a row before the last one refuses
first-kept : (rows : List Row) (b : Bool) (r q : Refusal) → first (rows ++ row false r ∷ []) ≡ Some q → first (rows ++ row b r ∷ []) ≡ Some q
first-kept [] b r q e = cc
first-kept (x ∷ xs) b r q e = kept-step x.holds x.refusal q (first (xs ++ row false r ∷ [])) (first (xs ++ row b r ∷ [])) e (first-kept xs b r q)

last-step : (b : Bool) (x : Refusal) (o n m : Option Refusal) → cond b (Some x) o ≡ None → (o ≡ None → n ≡ m) → cond b (Some x) n ≡ m
last-step true x o n m e k = cc
last-step false x o n m e k = k e

-- only the last row may refuse
first-last : (rows : List Row) (b : Bool) (r : Refusal) → first (rows ++ row false r ∷ []) ≡ None → first (rows ++ row b r ∷ []) ≡ cond b (Some r) None
first-last [] b r e = refl
first-last (x ∷ xs) b r e = last-step x.holds x.refusal (first (xs ++ row false r ∷ [])) (first (xs ++ row b r ∷ [])) (cond b (Some r) None) e (first-last xs b r)

none-step : (b : Bool) (x : Refusal) (o : Option Refusal) → cond b (Some x) o ≡ None → (b ≡ false) × (o ≡ None)
none-step true x o e = cc
none-step false x o e = (refl, e)

abbrev Passes : Row → Type 0
Passes r = r.holds ≡ false

none-holds : (rows : List Row) → first rows ≡ None → AllByRecursion Passes rows
none-holds [] e = tt
none-holds (x ∷ xs) e = let s = none-step x.holds x.refusal (first xs) e in (s.0, none-holds xs s.1)

-- no row refuses it, whoever is bound to the address
abbrev pub Unrefused : Providers → List ℕ → List ℕ → ℕ → List ℕ → Endpoint → Type 0
Unrefused p address options n bytes e = first (send_rows p address options n bytes None e) ≡ None

pub short-address : (p : Providers) (address options : List ℕ) (n : ℕ) (bytes : List ℕ) (e : Endpoint) → Unrefused p address options n bytes e → ltb MOST_ADDRESS (length address) ≡ false
short-address p address options n bytes e u =
    let s = (none-holds (send_rows p address options n bytes None e) u).1.1.0 in
    grind (arith, nat_tests, s)

pub address-within : (p : Providers) (address options : List ℕ) (n : ℕ) (bytes : List ℕ) (e : Endpoint) → Unrefused p address options n bytes e → length address ≤ MOST_ADDRESS
address-within p address options n bytes e u =
    let s = short-address p address options n bytes e u in
    grind (arith, nat_tests, s)

pub options-within : (p : Providers) (address options : List ℕ) (n : ℕ) (bytes : List ℕ) (e : Endpoint) → Unrefused p address options n bytes e → length options ≤ MOST_OPTIONS
options-within p address options n bytes e u =
    let s = (none-holds (send_rows p address options n bytes None e) u).1.1.1.0 in
    grind (arith, nat_tests, s)

pub small-data : (p : Providers) (address options : List ℕ) (n : ℕ) (bytes : List ℕ) (e : Endpoint) → valid p ≡ true → Unrefused p address options n bytes e → length bytes ≤ MOST_SEND
small-data p address options n bytes e v u =
    let s = none-holds (send_rows p address options n bytes None e) u in
    small-datagram p e.prov bytes v s.0 s.1.1.1.1.1.0

abbrev receiver : Providers → World → List ℕ → Endpoint → Option ℕ
receiver p w address e = bound (the_switch p w) e.prov address

abbrev pub there : Providers → World → List ℕ → Endpoint → Option Endpoint
there p w address e = option_and_then (endpoint p w) (receiver p w address e)

abbrev plan_from : Providers → World → ℕ → List ℕ → List ℕ → ℕ → List ℕ → Endpoint → Option Refusal → Option Step
plan_from p w fd address options n bytes e = step_by p w (send_to p fd address options n bytes e (receiver p w address e) (there p w address e))

opened : (p : Providers) (w : World) (fd : ℕ) (address options : List ℕ) (n : ℕ) (bytes : List ℕ) (e : Endpoint) → endpoint p w fd ≡ Some e
    → step_of p w (send_plan p w fd address options n bytes) ≡ plan_from p w fd address options n bytes e (first (send_rows p address options n bytes (there p w address e) e))
opened p w fd address options n bytes e o = ap (λ (x : Option Endpoint). step_of p w (if_open fd x (λ e. send_from p w fd address options n bytes e (bound (the_switch p w) e.prov address)))) o

-- the endpoint isn't open
pub send-shut : (p : Providers) (w : World) (fd : ℕ) (address options : List ℕ) (n : ℕ) (bytes : List ℕ) → endpoint p w fd ≡ None
    → Some (made p fd (Done (Refused TBADF)) w) ≡ step_of p w (send_plan p w fd address options n bytes)
send-shut p w fd address options n bytes o = sym (ap (λ (x : Option Endpoint). step_of p w (if_open fd x (λ e. send_from p w fd address options n bytes e (bound (the_switch p w) e.prov address)))) o)

abbrev front : Providers → List ℕ → List ℕ → ℕ → List ℕ → Endpoint → List Row
front p address options n bytes e = take 7 (send_rows p address options n bytes None e)

pub send-refused : (p : Providers) (w : World) (fd : ℕ) (address options : List ℕ) (n : ℕ) (bytes : List ℕ) (e : Endpoint) (reply : Reply) → endpoint p w fd ≡ Some e → first (send_rows p address options n bytes None e) ≡ Some (answers reply)
    → step_of p w (send_plan p w fd address options n bytes) ≡ Some (made p fd (Done reply) w)
send-refused p w fd address options n bytes e reply o r =
    opened p w fd address options n bytes e o ∙ ap (plan_from p w fd address options n bytes e) (first-kept (front p address options n bytes e) (not (takes_datagram (there p w address e))) (waits (Refused TFLOW)) (answers reply) r)

unready : (p : Providers) (w : World) (fd : ℕ) (address options : List ℕ) (n : ℕ) (bytes : List ℕ) (e : Endpoint) (b : Bool) → endpoint p w fd ≡ Some e → Unrefused p address options n bytes e → takes_datagram (there p w address e) ≡ b
    → step_of p w (send_plan p w fd address options n bytes) ≡ plan_from p w fd address options n bytes e (cond (not b) (Some (waits (Refused TFLOW))) None)
unready p w fd address options n bytes e b o u t =
    opened p w fd address options n bytes e o
    ∙ ap (plan_from p w fd address options n bytes e) (first-last (front p address options n bytes e) (not (takes_datagram (there p w address e))) (waits (Refused TFLOW)) u ∙ ap (λ (x : Bool). cond (not x) (Some (waits (Refused TFLOW))) None) t)

pub send-went : (p : Providers) (w : World) (fd : ℕ) (address options : List ℕ) (n : ℕ) (bytes : List ℕ) (e : Endpoint) → endpoint p w fd ≡ Some e → Unrefused p address options n bytes e → takes_datagram (there p w address e) ≡ true
    → step_of p w (send_plan p w fd address options n bytes) ≡ Some (made p fd (Done Plain) (changed p w (send_changes fd address options bytes (bound (the_switch p w) e.prov address) e)))
send-went p w fd address options n bytes e o u t = unready p w fd address options n bytes e true o u t

-- then it has an effect
pub send-effect : (p : Providers) (w : World) (fd : ℕ) (address options : List ℕ) (n : ℕ) (bytes : List ℕ) (e : Endpoint) → endpoint p w fd ≡ Some e → Unrefused p address options n bytes e → takes_datagram (there p w address e) ≡ true
    → has_effect (first (send_plan p w fd address options n bytes).rows) ≡ true
send-effect p w fd address options n bytes e o u t =
    ap (λ (x : Option Endpoint). has_effect (first (if_open fd x (λ e. send_from p w fd address options n bytes e (bound (the_switch p w) e.prov address))).rows)) o
    ∙ ap has_effect (first-last (front p address options n bytes e) (not (takes_datagram (there p w address e))) (waits (Refused TFLOW)) u ∙ ap (λ (x : Bool). cond (not x) (Some (waits (Refused TFLOW))) None) t)

pub send-blocked : (p : Providers) (w : World) (fd : ℕ) (address options : List ℕ) (n : ℕ) (bytes : List ℕ) (e : Endpoint) → endpoint p w fd ≡ Some e → Unrefused p address options n bytes e → takes_datagram (there p w address e) ≡ false → e.nonblock ≡ false
    → step_of p w (send_plan p w fd address options n bytes) ≡ None
send-blocked p w fd address options n bytes e o u t b = unready p w fd address options n bytes e false o u t ∙ rw b refl

pub send-flow : (p : Providers) (w : World) (fd : ℕ) (address options : List ℕ) (n : ℕ) (bytes : List ℕ) (e : Endpoint) → endpoint p w fd ≡ Some e → Unrefused p address options n bytes e → takes_datagram (there p w address e) ≡ false → e.nonblock ≡ true
    → step_of p w (send_plan p w fd address options n bytes) ≡ Some (made p fd (Done (Refused TFLOW)) (changed p w (at_endpoint fd (mark_flow (Some address)) ∷ [])))
send-flow p w fd address options n bytes e o u t b = unready p w fd address options n bytes e false o u t ∙ rw b refl

abbrev pub spot_of : List ℕ → List ℕ
spot_of address = cond (ltb MOST_ADDRESS (length address)) [] address

-- the mark is left, and the refusal answered
pub flow-left : (l k : Lending) (fd : ℕ) (address options : List ℕ) (n : ℕ) (bytes : List ℕ) (e : Endpoint) (s : List ℕ) (a : Applied) → endpoint l.providers (cells l) fd ≡ Some e → Unrefused l.providers address options n bytes e
    → takes_datagram (there l.providers (cells l) address e) ≡ false → e.nonblock ≡ true → s ≡ spot_of address → SameCells l k → cells k ≡ changed l.providers (cells l) (at_endpoint fd (mark_flow (Some s)) ∷ [])
    → taken a (cells k) ≡ Some (made k.providers fd (Done (Refused TFLOW)) (cells k)) → taken a (cells k) ≡ step_of l.providers (cells l) (send_plan l.providers (cells l) fd address options n bytes)
flow-left l k fd address options n bytes e s a o u t b spot same c m =
    let whole : s ≡ address = spot ∙ ap (λ (x : Bool). cond x [] address) (short-address l.providers address options n bytes e u) in
    m ∙ ap (λ (p : Providers). Some (made p fd (Done (Refused TFLOW)) (cells k))) same.providers
    ∙ ap (λ (w : World). Some (made l.providers fd (Done (Refused TFLOW)) w)) (c ∙ ap (λ (x : List ℕ). changed l.providers (cells l) (at_endpoint fd (mark_flow (Some x)) ∷ [])) whole)
    ∙ sym (send-flow l.providers (cells l) fd address options n bytes e o u t b)

-- the datagram went
pub datagram-went : (l k : Lending) (fd : ℕ) (address options : List ℕ) (n : ℕ) (bytes : List ℕ) (e : Endpoint) (to : Option ℕ) (a : Applied) → endpoint l.providers (cells l) fd ≡ Some e → Unrefused l.providers address options n bytes e
    → takes_datagram (there l.providers (cells l) address e) ≡ true → to ≡ bound (the_switch l.providers (cells l)) e.prov address → SameCells l k → cells k ≡ changed l.providers (cells l) (send_changes fd address options bytes to e)
    → taken a (cells k) ≡ Some (made k.providers fd (Done Plain) (cells k)) → taken a (cells k) ≡ step_of l.providers (cells l) (send_plan l.providers (cells l) fd address options n bytes)
datagram-went l k fd address options n bytes e to a o u t b same c m =
    m ∙ ap (λ (p : Providers). Some (made p fd (Done Plain) (cells k))) same.providers
    ∙ ap (λ (w : World). Some (made l.providers fd (Done Plain) w)) (c ∙ ap (λ (x : Option ℕ). changed l.providers (cells l) (send_changes fd address options bytes x e)) b)
    ∙ sym (send-went l.providers (cells l) fd address options n bytes e o u t)
