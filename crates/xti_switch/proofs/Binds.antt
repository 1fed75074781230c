-- What a bind finds, and what it leaves.
use Rattle.std.proofs.Common.{◌≡◌, ◌<◌, ℕ, Bool, true, false, not, cond, ltb, ◌||◌, List, [], ◌∷◌, drop, length, filter, map, Option, Some, None, refl, sym, ap, ◌∙◌}
use Rattle.std.specs.Prelude.{is_some}
use Rattle.std.specs.List.{list_any}
use Rattle.xti_base.specs.declared.limits.TheConstants.{MOST_ADDRESS}
use Rattle.xti_base.specs.declared.errno.Errno.TheVariants.{TADDRBUSY, TBADADDR, TOUTSTATE}
use Rattle.xti_base.specs.declared.kinds.Prov.{Prov}
use Rattle.xti_base.specs.declared.kinds.State.TheVariants.{T_UNBND}
use Rattle.xti_model.specs.declared.profile.Providers.{Providers}
use Rattle.xti_model.specs.declared.entry.Outcome.TheVariants.{Done}
use Rattle.xti_model.specs.declared.entry.Reply.TheVariants.{Refused}
use Rattle.xti_model.specs.Endpoint.{Endpoint}
use Rattle.xti_model.specs.World.{World, Switch, Binding, endpoint, the_switch, changed}
use Rattle.xti_model.specs.Switch.{chosen, less, least, give_address}
use Rattle.xti_model.specs.Events.{is_state}
use Rattle.xti_model.specs.Plan.{Plan, answers, field, is_too_long, Refusal, loses, first, has_effect}
use Rattle.xti_model.specs.Step.{Step, made, step_of, step_by}
use Rattle.xti_model.specs.Calls.Bind as Bind
use Rattle.xti_registry.specs.Known.{Known}
use Rattle.xti_switch.specs.Taken.{bound}
use Rattle.xti_switch.proofs.Plans.{over}

abbrev pub bound_step : Providers → World → ℕ → Prov → List ℕ → ℕ → ℕ → Step
bound_step p w fd prov address qlen amax = made p fd (Done (bound address qlen amax)) (changed p w (Bind.changes fd prov address qlen))

some-less : (n : ℕ) (o : Option ℕ) → is_some (less n o) ≡ true
some-less n None = refl
some-less n (Some m) = refl

any-step : (b : Bool) (x : Binding) (bs : List Binding) (rest : Bool) → is_some (least (map (λ (y : Binding). y.fd) bs)) ≡ rest → is_some (least (map (λ (y : Binding). y.fd) (cond b (x ∷ bs) bs))) ≡ (b || rest)
any-step true x bs rest e = some-less x.fd (least (map (λ (y : Binding). y.fd) bs))
any-step false x bs rest e = e

-- there is a least one where there is any
pub least-any : (test : Binding → Bool) (bs : List Binding) → is_some (least (map (λ (y : Binding). y.fd) (filter test bs))) ≡ list_any test bs
least-any test [] = refl
least-any test (x ∷ bs) = any-step (test x) x (filter test bs) (list_any test bs) (least-any test bs)

-- the plan of the open endpoint
abbrev pub bind_of : Providers → World → ℕ → List ℕ → ℕ → ℕ → Endpoint → Plan
bind_of p w fd address qlen amax e = Bind.plan_in (the_switch p w) fd address qlen amax e

-- it is bound already, or the address is too long
pub bound-already : (s : Switch) (address : List ℕ) (qlen amax : ℕ) (e : Endpoint) → is_state (T_UNBND ∷ []) e ≡ false → Some (answers (Refused TOUTSTATE)) ≡ first (Bind.rows s address qlen amax e)
bound-already s address qlen amax e q = sym (ap (λ (b : Bool). cond (not b) (Some (answers (Refused TOUTSTATE))) (first (drop 1 (Bind.rows s address qlen amax e)))) q)

pub long-address : (s : Switch) (address : List ℕ) (qlen amax : ℕ) (e : Endpoint) → is_state (T_UNBND ∷ []) e ≡ true → MOST_ADDRESS < length address → Some (answers (Refused TBADADDR)) ≡ first (Bind.rows s address qlen amax e)
long-address s address qlen amax e q h =
    sym (ap (λ (b : Bool). cond (not b) (Some (answers (Refused TOUTSTATE))) (first (drop 1 (Bind.rows s address qlen amax e)))) q
    ∙ ap (λ (b : Bool). cond b (Some (answers (Refused TBADADDR))) (first (drop 2 (Bind.rows s address qlen amax e)))) (over (length address) MOST_ADDRESS h))

-- a bind that no row refuses
abbrev lost : Bool → Option Refusal
lost b = cond b (Some loses) None

either : (p : Providers) (w : World) (fd : ℕ) (address : List ℕ) (qlen amax : ℕ) (e : Endpoint) (b : Bool) → is_too_long (field (chosen (the_switch p w) e.prov address) amax) ≡ b
    → step_by p w (Bind.plan_in (the_switch p w) fd address qlen amax e) (lost (list_any is_too_long (field (chosen (the_switch p w) e.prov address) amax ∷ []))) ≡ Some (bound_step p w fd e.prov (chosen (the_switch p w) e.prov address) (Bind.queue e.prov qlen) amax)
either p w fd address qlen amax e true t = rw t refl
either p w fd address qlen amax e false t = rw t refl

pub bind-free : (p : Providers) (w : World) (fd : ℕ) (address : List ℕ) (qlen amax : ℕ) (e : Endpoint) → endpoint p w fd ≡ Some e → is_state (T_UNBND ∷ []) e ≡ true → ltb MOST_ADDRESS (length address) ≡ false → Bind.is_busy (the_switch p w) e.prov address qlen ≡ false
    → step_of p w (Bind.plan p w fd address qlen amax) ≡ Some (bound_step p w fd e.prov (chosen (the_switch p w) e.prov address) (Bind.queue e.prov qlen) amax)
bind-free p w fd address qlen amax e o s l b = rw (o, s, l, b) (either p w fd address qlen amax e _ refl)

lost-effect : (b : Bool) → has_effect (lost b) ≡ true
lost-effect true = refl
lost-effect false = refl

-- it has an effect, whether or not its caller takes the address
pub bind-effect : (p : Providers) (w : World) (fd : ℕ) (address : List ℕ) (qlen amax : ℕ) (e : Endpoint) → endpoint p w fd ≡ Some e → is_state (T_UNBND ∷ []) e ≡ true → ltb MOST_ADDRESS (length address) ≡ false → Bind.is_busy (the_switch p w) e.prov address qlen ≡ false
    → has_effect (first (Bind.plan p w fd address qlen amax).rows) ≡ true
bind-effect p w fd address qlen amax e o s l b = rw (o, s, l, b) (lost-effect _)

pub bind-busy : (p : Providers) (w : World) (fd : ℕ) (address : List ℕ) (qlen amax : ℕ) (e : Endpoint) → endpoint p w fd ≡ Some e → is_state (T_UNBND ∷ []) e ≡ true → ltb MOST_ADDRESS (length address) ≡ false → Bind.is_busy (the_switch p w) e.prov address qlen ≡ true
    → step_of p w (Bind.plan p w fd address qlen amax) ≡ Some (made p fd (Done (Refused TADDRBUSY)) w)
bind-busy p w fd address qlen amax e o s l b = rw (o, s, l, b, o) refl

pub given : (prov : Prov) (known address : List ℕ) (fd : ℕ) (b : Bool) (t : Switch) (k room there : Known) → t ≡ give_address prov known fd b there.switch → known ≡ address → Some there ≡ Some room → room.switch ≡ k.switch → t ≡ give_address prov address fd b k.switch
given prov known address fd b t k room there e a q s = let r : there ≡ room = cc in rw (e, a, r, s) refl
