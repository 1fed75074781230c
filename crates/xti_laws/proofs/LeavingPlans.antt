-- Which changes of a plan leave the state of a descriptor and its outstanding indications.
use Rattle.std.proofs.Common.{ℕ, Bool, true, false, List, [], ◌∷◌, ◌++◌, ◌≡◌, refl, sym, ap, ◌∙◌, cond, not, subst, eqb, ◌+◌, ◌-◌, length, map, Option, Some, None}
use Rattle.std.specs.Prelude.{unwrap_or}
use Rattle.xti_model.specs.declared.profile.Providers.{Providers}
use Rattle.xti_model.specs.Endpoint.{Endpoint, Indication, find_number, address_of}
use Rattle.xti_model.specs.World.{World, Change, at_endpoint, changed, endpoint}
use Rattle.xti_model.specs.Links.{at_linked, break}
use Rattle.xti_model.specs.Arguments.{is_expedited}
use Rattle.xti_model.specs.Plan.{Plan, if_open, on_open}
use Rattle.xti_model.specs.Step.{send}
use Rattle.xti_model.specs.Links.{linked}
use Rattle.xti_model.specs.declared.entry.Go.{Go}
use Rattle.xti_model.specs.declared.entry.Go.TheVariants as go
use Rattle.xti_model.specs.Calls.Close as Close
use Rattle.xti_model.specs.Calls.Connect as Connect
use Rattle.xti_model.specs.Calls.Listen as Listen
use Rattle.xti_model.specs.Calls.Send as Send
use Rattle.xti_model.specs.Calls.Disconnect as Disconnect
use Rattle.xti_model.specs.Calls.Datagrams as Datagrams
use Rattle.xti_laws.specs.States.{state_at}
use Rattle.xti_laws.specs.Counts.{ocnt_at}
use Rattle.xti_laws.proofs.SteadyUpdates.{mark_flow-steady, sent-steady, symbols-steady}
use Rattle.xti_laws.proofs.Effects.{closed, told-state, told-count, AllLeave, elsewhere, steady, in_switch, closes_elsewhere, append-leave, leaves, linked-leave, break-leave, callers-leave}
use Rattle.xti_laws.proofs.StatesOfConnections.{bind_like-leave}

pub leaves-state : (p : Providers) (x : ℕ) (cs : List Change) → AllLeave x cs → (w : World) → state_at p (changed p w cs) x ≡ state_at p w x
leaves-state p x cs h w = told-state (endpoint p (changed p w cs) x) ∙ (ap (λ o. (unwrap_or o closed).state) (leaves p x cs h w) ∙ sym (told-state (endpoint p w x)))

pub leaves-count : (p : Providers) (x : ℕ) (cs : List Change) → AllLeave x cs → (w : World) → ocnt_at p (changed p w cs) x ≡ ocnt_at p w x
leaves-count p x cs h w = told-count (endpoint p (changed p w cs) x) ∙ (ap (λ o. (unwrap_or o closed).count) (leaves p x cs h w) ∙ sym (told-count (endpoint p w x)))

abbrev pub PlanLeaves : ℕ → Plan → Type 0
PlanLeaves x plan = AllLeave x plan.changes × AllLeave x plan.marks × AllLeave x plan.lost

pub both : (x : ℕ) (cs : List Change) → AllLeave x cs → AllLeave x cs × AllLeave x [] × AllLeave x cs
both x cs h = (h, tt, h)

-- every descriptor but the call's own
pub on_open-leave : (p : Providers) (w : World) (x fd : ℕ) (f : Endpoint → Plan) → ((e : Endpoint) → (f e).fd ≡ fd) → ((e : Endpoint) → eqb x fd ≡ false → PlanLeaves x (f e)) → eqb x (on_open p w fd f).fd ≡ false → PlanLeaves x (on_open p w fd f)
on_open-leave p w x fd f i h = go (endpoint p w fd)
  where
    go : (o : Option Endpoint) → eqb x (if_open fd o f).fd ≡ false → PlanLeaves x (if_open fd o f)
    go None k = (tt, tt, tt)
    go (Some e) k = h e (subst (λ z. eqb x z ≡ false) (i e) k)

-- one change, of the call's own endpoint
pub one : (x fd : ℕ) (f : Endpoint → Endpoint) → eqb x fd ≡ false → AllLeave x (at_endpoint fd f ∷ []) × AllLeave x [] × AllLeave x (at_endpoint fd f ∷ [])
one x fd f k = ((elsewhere fd f k, tt), tt, (elsewhere fd f k, tt))

pub close-leave : (p : Providers) (x fd : ℕ) (e : Endpoint) → eqb x fd ≡ false → AllLeave x (Close.changes p fd e)
close-leave p x fd e k = append-leave x (break fd e 5 [] ++ map (Close.give_up_caller fd) (e.pending ++ e.outstanding)) (Close.closing p fd)
    (append-leave x (break fd e 5 []) (map (Close.give_up_caller fd) (e.pending ++ e.outstanding)) (break-leave x fd e 5 []) (callers-leave x fd (e.pending ++ e.outstanding)))
    (closes_elsewhere fd k, (in_switch (Close.forget p fd), tt))

reach-leave : (x fd l : ℕ) (options udata : List ℕ) (e le : Endpoint) → eqb x fd ≡ false → AllLeave x (Connect.reach fd l options udata e le)
reach-leave x fd l options udata e le k = go (not (Connect.is_listening le)) (Connect.is_full le)
  where
    go : (b d : Bool) → AllLeave x (cond b (at_endpoint fd (Connect.turned_away 1) ∷ []) (cond d (at_endpoint fd (Connect.turned_away 2) ∷ []) (at_endpoint l (Connect.asked fd (address_of e) options udata) ∷ at_endpoint fd (Connect.asking l (le.last_number + 1)) ∷ [])))
    go true d = (elsewhere fd (Connect.turned_away 1) k, tt)
    go false true = (elsewhere fd (Connect.turned_away 2) k, tt)
    go false false = (steady l (Connect.asked fd (address_of e) options udata) (λ z. refl), (elsewhere fd (Connect.asking l (le.last_number + 1)) k, tt))

pub request-leave : (x fd : ℕ) (options udata : List ℕ) (e : Endpoint) (o : Option Connect.Found) → eqb x fd ≡ false → AllLeave x (Connect.request fd options udata e o)
request-leave x fd options udata e None k = (elsewhere fd (Connect.turned_away 1) k, tt)
request-leave x fd options udata e (Some l) k = reach-leave x fd l.fd options udata e l.endpoint k

found-leave : (x fd resfd : ℕ) (o : Option Indication) (options udata : List ℕ) (e r : Endpoint) → eqb x fd ≡ false → eqb x resfd ≡ false → AllLeave x (Listen.accept_found fd resfd o options udata e r)
found-leave x fd resfd None options udata e r k j = tt
found-leave x fd resfd (Some i) options udata e r k j = (
  elsewhere fd (Listen.taken_out i.number) k,
  append-leave x (Listen.bind_like e resfd r) (Listen.linking resfd i (address_of (Listen.bound_like e r)) options udata) (bind_like-leave x e resfd r)
      (elsewhere resfd (Listen.responding i) j, (steady i.caller (Listen.accepted resfd (address_of (Listen.bound_like e r)) options udata) (λ z. refl), tt)),
)

pub accept-leave : (p : Providers) (x fd resfd number : ℕ) (options udata : List ℕ) (e : Endpoint) (o : Option Endpoint) → eqb x fd ≡ false → eqb x resfd ≡ false → PlanLeaves x (Listen.accept_with p fd resfd number options udata e o)
accept-leave p x fd resfd number options udata e None k j = (tt, tt, tt)
accept-leave p x fd resfd number options udata e (Some r) k j = both x (Listen.accept_found fd resfd (find_number number e.outstanding) options udata e r) (found-leave x fd resfd (find_number number e.outstanding) options udata e r k j)

pub snddis-leave : (x fd number : ℕ) (udata : List ℕ) (e : Endpoint) → eqb x fd ≡ false → AllLeave x (Disconnect.send_changes fd number udata e)
snddis-leave x fd number udata e k = go (Disconnect.is_asked e) (find_number number e.outstanding)
  where
    go : (b : Bool) (o : Option Indication) → AllLeave x (cond b (Disconnect.reject fd udata o) (break fd e 4 udata ++ at_endpoint fd Disconnect.idle ∷ []))
    go true None = tt
    go true (Some i) = (elsewhere fd (Listen.taken_out i.number) k, (steady i.caller (Disconnect.rejected udata) (λ z. refl), tt))
    go false o = append-leave x (break fd e 4 udata) (at_endpoint fd Disconnect.idle ∷ []) (break-leave x fd e 4 udata) (elsewhere fd Disconnect.idle k, tt)

-- A send leaves every state, the sender's too.
pub send_changes-leave : (p : Providers) (x fd : ℕ) (bytes : List ℕ) (flags taken now : ℕ) (e : Endpoint) → AllLeave x (Send.changes p fd bytes flags taken now e)
send_changes-leave p x fd bytes flags taken now e = append-leave x (at_linked fd e.peer _) _ (linked-leave x fd e.peer _ (symbols-steady (is_expedited flags) _)) (steady fd _ (sent-steady p (is_expedited flags) _ now), tt)

pub send_to-leave : (p : Providers) (x fd parts : ℕ) (bytes : List ℕ) (flags taken : ℕ) (e : Endpoint) (peer : Option Endpoint) → PlanLeaves x (Send.plan_to p fd parts bytes flags taken e peer)
send_to-leave p x fd parts bytes flags taken e peer =
    let h = send_changes-leave p x fd bytes flags taken (Send.taken_now peer e (is_expedited flags) (length bytes - taken)) e in
    (h, (steady fd (Send.mark_flow (is_expedited flags) true) (mark_flow-steady (is_expedited flags) true), tt), h)

pub datagram-leave : (p : Providers) (x fd : ℕ) (address options : List ℕ) (parts : ℕ) (bytes : List ℕ) (e : Endpoint) (o : Option ℕ) (there : Option Endpoint) → PlanLeaves x (Datagrams.send_to p fd address options parts bytes e o there)
datagram-leave p x fd address options parts bytes e None there = ((steady fd _ (λ z. refl), tt), (steady fd _ (λ z. refl), tt), (steady fd _ (λ z. refl), tt))
datagram-leave p x fd address options parts bytes e (Some to) there = ((steady to _ (λ z. refl), (steady fd _ (λ z. refl), tt)), (steady fd _ (λ z. refl), tt), (steady to _ (λ z. refl), (steady fd _ (λ z. refl), tt)))

pub send-leave : (p : Providers) (w : World) (x fd parts : ℕ) (bytes : List ℕ) (flags : ℕ) (g : Go) → PlanLeaves x (send p w fd parts bytes flags g)
send-leave p w x fd parts bytes flags g = by_go g
  where
    plan-leave : (taken : ℕ) (o : Option Endpoint) → PlanLeaves x (if_open fd o (λ e. Send.plan_to p fd parts bytes flags taken e (linked p w fd e)))
    plan-leave taken None = (tt, tt, tt)
    plan-leave taken (Some e) = send_to-leave p x fd parts bytes flags taken e (linked p w fd e)

    by_go : (g : Go) → PlanLeaves x (send p w fd parts bytes flags g)
    by_go go.Begin = plan-leave 0 (endpoint p w fd)
    by_go (go.More n) = let h = plan-leave n (endpoint p w fd) in (h.0, tt, h.2)
