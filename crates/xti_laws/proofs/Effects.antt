-- The state of a descriptor and its outstanding indications after a list of changes.
use Rattle.std.proofs.Common.{ℕ, Bool, true, false, List, [], ◌∷◌, ◌++◌, ◌≡◌, refl, sym, ap, ◌∙◌, eqb, cond, map, Option, Some, None}
use Rattle.std.proofs.lemmas.Bool.{eqb-true, false≢true}
use Rattle.std.specs.Prelude.{option_map, unwrap_or}
use Rattle.xti_base.specs.declared.kinds.State.TheVariants.{T_UNINIT}
use Rattle.xti_model.specs.declared.profile.Providers.{Providers}
use Rattle.xti_model.specs.declared.entry.Outcome.TheVariants.{Done}
use Rattle.xti_model.specs.Endpoint.{Endpoint, Indication, Target}
use Rattle.xti_model.specs.World.{World, Switch, Change, at_endpoint, at_switch, closes_endpoint, changed, change, cell_number, new_cell, endpoint, state_of}
use Rattle.xti_model.specs.Links.{at_linked, take_back, break, broken, taken_back, if_names}
use Rattle.xti_model.specs.Plan.{Plan, Refusal, answers, waits, loses, first, if_open, on_open, has_effect}
use Rattle.xti_model.specs.Step.{step_of, step_by, made}
use Rattle.xti_model.specs.History.{left_by}
use Rattle.xti_model.specs.Calls.Close as Close
use Rattle.xti_laws.specs.States.{ocnt_of}
use Rattle.xti_laws.proofs.SteadyUpdates.{Standing, stands, standing, Steady, Sets, names-steady, taken_back-steady, given_up-steady}
use Rattle.xti_laws.proofs.ChangedEndpoints.{endpoint-same, endpoint-other, closed-same, closed-other, switch-other, changed-append}

abbrev pub standing_in : Providers → World → ℕ → Option Standing
standing_in p w x = option_map standing (endpoint p w x)

-- T_UNINIT and none outstanding where no endpoint is open
abbrev pub closed : Standing
closed = stands T_UNINIT 0

pub told-state : (o : Option Endpoint) → state_of o ≡ (unwrap_or (option_map standing o) closed).state
told-state None = refl
told-state (Some e) = refl

pub told-count : (o : Option Endpoint) → ocnt_of o ≡ (unwrap_or (option_map standing o) closed).count
told-count None = refl
told-count (Some e) = refl

-- the change leaves the standing of a descriptor
pub data Leaves (x : ℕ) : Change → Type 0 where
  elsewhere : (fd : ℕ) (f : Endpoint → Endpoint) → eqb x fd ≡ false → Leaves x (at_endpoint fd f)
  steady : (fd : ℕ) (f : Endpoint → Endpoint) → Steady f → Leaves x (at_endpoint fd f)
  in_switch : (f : Switch → Switch) → Leaves x (at_switch f)
  closes_elsewhere : (fd : ℕ) → eqb x fd ≡ false → Leaves x (closes_endpoint fd)

abbrev pub AllLeave : ℕ → List Change → Type 0
AllLeave x [] = Unit
AllLeave x (c ∷ cs) = Leaves x c × AllLeave x cs

map-steady : (f : Endpoint → Endpoint) → Steady f → (o : Option Endpoint) → option_map standing (option_map f o) ≡ option_map standing o
map-steady f h None = refl
map-steady f h (Some e) = ap Some (h e)

leaves-one : (p : Providers) (x : ℕ) (c : Change) → Leaves x c → (w : World) → standing_in p (change (cell_number p c) (new_cell p c) w) x ≡ standing_in p w x
leaves-one p x c (elsewhere fd f h) w = ap (option_map standing) (endpoint-other p fd x h f w)
leaves-one p x c (in_switch f) w = ap (option_map standing) (switch-other p f x w)
leaves-one p x c (closes_elsewhere fd h) w = ap (option_map standing) (closed-other p fd x h w)
leaves-one p x c (steady fd f h) w = go (eqb x fd) refl
  where
    here : x ≡ fd → standing_in p (change (cell_number p (at_endpoint fd f)) (new_cell p (at_endpoint fd f)) w) x ≡ standing_in p w x
    here i = ap (standing_in p (change (cell_number p (at_endpoint fd f)) (new_cell p (at_endpoint fd f)) w)) i ∙ (ap (option_map standing) (endpoint-same p fd f w) ∙ (map-steady f h (endpoint p w fd) ∙ ap (standing_in p w) (sym i)))

    go : (b : Bool) → eqb x fd ≡ b → standing_in p (change (cell_number p (at_endpoint fd f)) (new_cell p (at_endpoint fd f)) w) x ≡ standing_in p w x
    go true i = here (eqb-true x fd i)
    go false i = ap (option_map standing) (endpoint-other p fd x i f w)

pub leaves : (p : Providers) (x : ℕ) (cs : List Change) → AllLeave x cs → (w : World) → standing_in p (changed p w cs) x ≡ standing_in p w x
leaves p x [] h w = refl
leaves p x (c ∷ cs) h w = leaves p x cs h.1 (change (cell_number p c) (new_cell p c) w) ∙ leaves-one p x c h.0 w

pub append-leave : (x : ℕ) (cs ds : List Change) → AllLeave x cs → AllLeave x ds → AllLeave x (cs ++ ds)
append-leave x [] ds h k = k
append-leave x (c ∷ cs) ds h k = (h.0, append-leave x cs ds h.1 k)

-- the change of an endpoint that is open
pub puts : (p : Providers) (w : World) (fd : ℕ) (e : Endpoint) (f : Endpoint → Endpoint) → endpoint p w fd ≡ Some e → standing_in p (changed p w (at_endpoint fd f ∷ [])) fd ≡ Some (standing (f e))
puts p w fd e f o = ap (option_map standing) (endpoint-same p fd f w ∙ ap (option_map f) o)

map-sets : (g : Standing → Standing) (f : Endpoint → Endpoint) → Sets g f → (o : Option Endpoint) → option_map standing (option_map f o) ≡ option_map g (option_map standing o)
map-sets g f h None = refl
map-sets g f h (Some e) = ap Some (h e)

pub sets : (p : Providers) (w : World) (fd : ℕ) (g : Standing → Standing) (f : Endpoint → Endpoint) → Sets g f → standing_in p (changed p w (at_endpoint fd f ∷ [])) fd ≡ option_map g (standing_in p w fd)
sets p w fd g f h = ap (option_map standing) (endpoint-same p fd f w) ∙ map-sets g f h (endpoint p w fd)

-- first of all the endpoint's own change, and then others that leave it
pub puts-first : (p : Providers) (w : World) (fd : ℕ) (e : Endpoint) (f : Endpoint → Endpoint) (cs : List Change) → endpoint p w fd ≡ Some e → AllLeave fd cs → standing_in p (changed p w (at_endpoint fd f ∷ cs)) fd ≡ Some (standing (f e))
puts-first p w fd e f cs o h = leaves p fd cs h (changed p w (at_endpoint fd f ∷ [])) ∙ puts p w fd e f o

-- the endpoint's own change comes after others
pub sets-after : (p : Providers) (w : World) (fd : ℕ) (g : Standing → Standing) (f : Endpoint → Endpoint) (s : Standing) (cs ds : List Change) → Sets g f → standing_in p (changed p w cs) fd ≡ Some s → AllLeave fd ds
    → standing_in p (changed p w (cs ++ at_endpoint fd f ∷ ds)) fd ≡ Some (g s)
sets-after p w fd g f s cs ds h o k =
    ap (λ z. standing_in p z fd) (changed-append p w cs (at_endpoint fd f ∷ ds)) ∙
    (leaves p fd ds k (changed p (changed p w cs) (at_endpoint fd f ∷ [])) ∙ (sets p (changed p w cs) fd g f h ∙ ap (option_map g) o))

pub closed-state : (p : Providers) (w : World) (fd : ℕ) (cs ds : List Change) → AllLeave fd ds → standing_in p (changed p w (cs ++ closes_endpoint fd ∷ ds)) fd ≡ None
closed-state p w fd cs ds k =
    ap (λ z. standing_in p z fd) (changed-append p w cs (closes_endpoint fd ∷ ds)) ∙
    (leaves p fd ds k (changed p (changed p w cs) (closes_endpoint fd ∷ [])) ∙ ap (option_map standing) (closed-same p fd (changed p w cs)))

-- the parts of effects that leave every standing
pub linked-leave : (x fd : ℕ) (o : Option ℕ) (f : Endpoint → Endpoint) → Steady f → AllLeave x (at_linked fd o f)
linked-leave x fd None f h = tt
linked-leave x fd (Some peer) f h = (steady peer (if_names fd f) (names-steady fd f h), tt)

take_back-leave : (x : ℕ) (o : Option Target) (reason : ℕ) (udata : List ℕ) → AllLeave x (take_back o reason udata)
take_back-leave x None reason udata = tt
take_back-leave x (Some t) reason udata = (steady t.listener (taken_back t.number reason udata) (taken_back-steady t.number reason udata), tt)

pub break-leave : (x fd : ℕ) (e : Endpoint) (reason : ℕ) (udata : List ℕ) → AllLeave x (break fd e reason udata)
break-leave x fd e reason udata = append-leave x (at_linked fd e.peer (broken reason udata)) (take_back e.target reason udata) (linked-leave x fd e.peer (broken reason udata) (λ e. refl)) (take_back-leave x e.target reason udata)

pub callers-leave : (x fd : ℕ) (is : List Indication) → AllLeave x (map (Close.give_up_caller fd) is)
callers-leave x fd [] = tt
callers-leave x fd (i ∷ is) = (steady i.caller (Close.given_up fd i.number) (given_up-steady fd i.number), callers-leave x fd is)

-- what holds after the effect, and after the effect of lost fields, holds after a step that has an effect
pub step-effect : (P : World → Type 0) (p : Providers) (w : World) (x : Plan) → P (changed p w x.changes) → P (changed p w x.lost) → has_effect (first x.rows) ≡ true → P (left_by w (step_of p w x))
step-effect P p w x h k = go (first x.rows)
  where
    go : (r : Option Refusal) → has_effect r ≡ true → P (left_by w (step_by p w x r))
    go None j = h
    go (Some loses) j = k
    go (Some (answers reply)) j = absurd (false≢true j)
    go (Some (waits reply)) j = absurd (false≢true j)

pub open-effect : (P : World → Type 0) (p : Providers) (w : World) (fd : ℕ) (f : Endpoint → Plan)
    → ((e : Endpoint) → endpoint p w fd ≡ Some e → has_effect (first (f e).rows) ≡ true → P (changed p w (f e).changes) × P (changed p w (f e).lost))
    → has_effect (first (on_open p w fd f).rows) ≡ true → P (left_by w (step_of p w (on_open p w fd f)))
open-effect P p w fd f h = go (endpoint p w fd) h
  where
    go : (o : Option Endpoint) → ((e : Endpoint) → o ≡ Some e → has_effect (first (f e).rows) ≡ true → P (changed p w (f e).changes) × P (changed p w (f e).lost)) → has_effect (first (if_open fd o f).rows) ≡ true → P (left_by w (step_of p w (if_open fd o f)))
    go None k j = absurd (false≢true j)
    go (Some e) k j = step-effect P p w (f e) (k e refl j).0 (k e refl j).1 j

-- what holds after any list of changes that the plan may make
pub step-any : (P : World → Type 0) (p : Providers) (w : World) (x : Plan) → P w → P (changed p w x.changes) → P (changed p w x.marks) → P (changed p w x.lost) → P (left_by w (step_of p w x))
step-any P p w x z h m k = go (first x.rows)
  where
    wait : (reply : _) (b : Bool) → P (left_by w (cond b (Some (made p x.fd (Done reply) (changed p w x.marks))) None))
    wait reply true = m
    wait reply false = z

    go : (r : Option Refusal) → P (left_by w (step_by p w x r))
    go None = h
    go (Some loses) = k
    go (Some (answers reply)) = z
    go (Some (waits reply)) = wait reply x.nonblock

-- a step without an effect makes its marks at most
pub step-refused : (P : World → Type 0) (p : Providers) (w : World) (x : Plan) → P w → P (changed p w x.marks) → has_effect (first x.rows) ≡ false → P (left_by w (step_of p w x))
step-refused P p w x z m = go (first x.rows)
  where
    wait : (reply : _) (b : Bool) → P (left_by w (cond b (Some (made p x.fd (Done reply) (changed p w x.marks))) None))
    wait reply true = m
    wait reply false = z

    go : (r : Option Refusal) → has_effect r ≡ false → P (left_by w (step_by p w x r))
    go None j = absurd (false≢true (sym j))
    go (Some loses) j = absurd (false≢true (sym j))
    go (Some (answers reply)) j = z
    go (Some (waits reply)) j = wait reply x.nonblock
