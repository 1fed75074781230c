-- Two that name each other are of one provider, and none names itself back.
use Rattle.std.proofs.Common.{ℕ, Bool, true, false, List, [], ◌∷◌, ◌++◌, ◌+◌, ◌≡◌, ◌⊎◌, inl, inr, refl, sym, ap, ◌∙◌, subst, eqb, cond, not, length, sum, map, drop, Option, Some, None, is_some}
use Rattle.std.specs.Prelude.{option_and_then}
use Rattle.std.specs.List.{concat}
use Rattle.std.proofs.lemmas.Bool.{not-false, eq-eqb}
use Rattle.xti_base.specs.Kinds.{same_prov}
use Rattle.xti_base.specs.declared.kinds.Prov.{Prov}
use Rattle.xti_base.specs.declared.kinds.Event.{Event}
use Rattle.xti_base.specs.declared.kinds.Event.TheVariants as event
use Rattle.xti_base.specs.declared.kinds.State.TheVariants.{T_UNBND, T_DATAXFER, T_OUTREL, T_INREL}
use Rattle.xti_model.specs.declared.call.Call.{Call}
use Rattle.xti_model.specs.declared.call.Call.TheVariants as call
use Rattle.xti_model.specs.declared.entry.Go.{Go}
use Rattle.xti_model.specs.declared.entry.Go.TheVariants as go
use Rattle.xti_model.specs.declared.profile.Providers.{Providers}
use Rattle.xti_model.specs.Provider.{profile}
use Rattle.xti_model.specs.Endpoint.{Endpoint, Indication, Target, find_number, without_number, disconnected, is_target, address_of, opened}
use Rattle.xti_model.specs.World.{World, Switch, Change, at_endpoint, at_switch, opens_place, closes_endpoint, changed, endpoint, the_switch}
use Rattle.xti_model.specs.Switch.{bound, chosen, give_address, give_up_address, opening_place, mark_open}
use Rattle.xti_model.specs.Links.{names, if_names, linked, at_linked, take_back, taken_back, break, broken}
use Rattle.xti_model.specs.Symbols.{rest}
use Rattle.xti_model.specs.Events.{is_state, some_wait, around}
use Rattle.xti_model.specs.Arguments.{is_expedited}
use Rattle.xti_model.specs.Plan.{Plan, if_open, later_plan}
use Rattle.xti_model.specs.Step.{plan, step, step_of, send}
use Rattle.xti_model.specs.History.{left_by}
use Rattle.xti_model.specs.Calls.Open as Open
use Rattle.xti_model.specs.Calls.Close as Close
use Rattle.xti_model.specs.Calls.Bind as Bind
use Rattle.xti_model.specs.Calls.Connect as Connect
use Rattle.xti_model.specs.Calls.Listen as Listen
use Rattle.xti_model.specs.Calls.Send as Send
use Rattle.xti_model.specs.Calls.Receive as Receive
use Rattle.xti_model.specs.Calls.Disconnect as Disconnect
use Rattle.xti_model.specs.Calls.Release as Release
use Rattle.xti_model.specs.Calls.Datagrams as Datagrams
use Rattle.xti_model.specs.Calls.Show as Show
use Rattle.xti_laws.proofs.ChangedEndpoints.{changed-append}
use Rattle.xti_laws.specs.Requests.{AskingCaller, SoundLinks}
use Rattle.xti_laws.proofs.KeptEndpoints.{Keep, AllKeep, keeps}
use Rattle.xti_laws.proofs.StepWays.{some-is, none-is, not-both, flip}
use Rattle.xti_laws.proofs.OneChange.{one_world, one-same, one-other, one-cases}
use Rattle.xti_laws.proofs.AcceptEnds.{same-prov, asks, not_resfd}
use Rattle.xti_laws.specs.Invariant.{Paired}
use Rattle.xti_laws.proofs.PassedRows.{Keeps, call-keeps, step-keeps}
use Rattle.xti_laws.proofs.ClearedRows.{Cleared, cleared}
use Rattle.xti_laws.proofs.AcrossCalls.{choice}

-- the provider stays, and the peer does or is named no more
abbrev pub Old : Endpoint → Endpoint → Type 0
Old e e' = (e'.prov ≡ e.prov) × ((e'.peer ≡ None) ⊎ (e'.peer ≡ e.peer))

abbrev pub Tame : (Endpoint → Endpoint) → Type 0
Tame f = (e : Endpoint) → Old e (f e)

-- an endpoint of the world with this peer and provider was there before
record Was (p : Providers) (w : World) (x : ℕ) (e' : Endpoint) : Type 0 where
  e : Endpoint
  is_open : endpoint p w x ≡ Some e
  peer : e'.peer ≡ e.peer
  prov : e'.prov ≡ e.prov

abbrev Older : Providers → World → ℕ → Option Endpoint → Type 0
Older p w x None = Unit {0}
Older p w x (Some e') = (e'.peer ≡ None) ⊎ Was p w x e'

pub data TameChange : Change → Type 0 where
  tame_at : (z : ℕ) (f : Endpoint → Endpoint) → Tame f → TameChange (at_endpoint z f)
  tame_switch : (f : Switch → Switch) → TameChange (at_switch f)
  tame_closes : (fd : ℕ) → TameChange (closes_endpoint fd)

abbrev pub AllTame : List Change → Type 0
AllTame [] = Unit {0}
AllTame (c ∷ cs) = TameChange c × AllTame cs

older-tame : (p : Providers) (w : World) (x : ℕ) (f : Endpoint → Endpoint) → Tame f → (e : Endpoint) → Older p w x (Some e) → Older p w x (Some (f e))
older-tame p w x f t e q = go (t e).1 q
  where
    go : ((f e).peer ≡ None) ⊎ ((f e).peer ≡ e.peer) → (e.peer ≡ None) ⊎ Was p w x e → ((f e).peer ≡ None) ⊎ Was p w x (f e)
    go (inl a) q = inl a
    go (inr a) (inl b) = inl (a ∙ b)
    go (inr a) (inr b) = inr (record { e = b.e; is_open = b.is_open; peer = a ∙ b.peer; prov = (t e).0 ∙ b.prov })

one-keep : (p : Providers) (w : World) (x : ℕ) (c : Change) → TameChange c → Keep (Older p w x) x c
one-keep p w x c (tame_at z f t) = λ j e q. older-tame p w x f t e q
one-keep p w x c (tame_switch f) = tt
one-keep p w x c (tame_closes fd) = λ j. tt

all-keep : (p : Providers) (w : World) (x : ℕ) (cs : List Change) → AllTame cs → AllKeep (Older p w x) x cs
all-keep p w x [] t = tt
all-keep p w x (c ∷ cs) t = (one-keep p w x c t.0, all-keep p w x cs t.1)

older-self : (p : Providers) (w : World) (x : ℕ) (o : Option Endpoint) → endpoint p w x ≡ o → Older p w x o
older-self p w x None i = tt
older-self p w x (Some e) i = inr (record { e = e; is_open = i; peer = refl; prov = refl })

paired-older : (p : Providers) (w v : World) → ((x : ℕ) → Older p w x (endpoint p v x)) → Paired p w → Paired p v
paired-older p w v k h x y e d i j a b = go (subst (Older p w x) i (k x)) (subst (Older p w y) j (k y))
  where
    go : (e.peer ≡ None) ⊎ Was p w x e → (d.peer ≡ None) ⊎ Was p w y d → (e.prov ≡ d.prov) × (eqb x y ≡ false)
    go (inl n) q = absurd (none-is y (sym n ∙ a))
    go (inr r) (inl n) = absurd (none-is x (sym n ∙ b))
    go (inr r) (inr s) = (let q = h x y r.e s.e r.is_open s.is_open (sym r.peer ∙ a) (sym s.peer ∙ b) in (r.prov ∙ (q.0 ∙ sym s.prov), q.1))

tame-paired : (p : Providers) (w : World) (cs : List Change) → AllTame cs → Paired p w → Paired p (changed p w cs)
tame-paired p w cs t h = paired-older p w (changed p w cs) (λ x. keeps p (Older p w x) x cs (all-keep p w x cs t) w (older-self p w x (endpoint p w x) refl)) h

record PlanTame (x : Plan) : Type 0 where
  changes : AllTame x.changes
  marks : AllTame x.marks
  lost : AllTame x.lost

-- updates
either : (b : Bool) (e x y : Endpoint) → Old e x → Old e y → Old e (cond b x y)
either true e x y h k = h
either false e x y h k = k

read-tame : (p : Providers) (max : ℕ) → Tame (Receive.received p max)
read-tame p max e = either (some_wait e.expedited) e (record e { expedited = rest max e.expedited; mid_expedited = Receive.goes_on p true max e }) (record e { normal = rest max e.normal }) (refl, inr refl) (refl, inr refl)

own-tame : (fd : ℕ) (f : Endpoint → Endpoint) (x : Plan) → Tame f → x.changes ≡ at_endpoint fd f ∷ [] → x.lost ≡ at_endpoint fd f ∷ [] → x.marks ≡ [] → PlanTame x
own-tame fd f x k a b m = record { changes = subst AllTame (sym a) (tame_at fd f k, tt); marks = subst AllTame (sym m) tt; lost = subst AllTame (sym b) (tame_at fd f k, tt) }

twice : (cs : List Change) (x : Plan) → AllTame cs → x.changes ≡ cs → x.lost ≡ cs → x.marks ≡ [] → PlanTame x
twice cs x k a b m = record { changes = subst AllTame (sym a) k; marks = subst AllTame (sym m) tt; lost = subst AllTame (sym b) k }

still : (x : Plan) → x.changes ≡ [] → x.lost ≡ [] → x.marks ≡ [] → PlanTame x
still x a b m = twice [] x tt a b m

both-tame : (cs ds : List Change) → AllTame cs → AllTame ds → AllTame (cs ++ ds)
both-tame [] ds a b = b
both-tame (c ∷ cs) ds a b = (a.0, both-tame cs ds a.1 b)

linked-tame : (fd : ℕ) (o : Option ℕ) (f : Endpoint → Endpoint) → Tame f → AllTame (at_linked fd o f)
linked-tame fd None f k = tt
linked-tame fd (Some y) f k = (tame_at y (if_names fd f) (λ e. either (names fd e.peer) e (f e) e (k e) (refl, inr refl)), tt)

taken-tame : (n reason : ℕ) (udata : List ℕ) → Tame (taken_back n reason udata)
taken-tame n reason udata e = either (is_some (find_number n e.pending)) e (record e { pending = without_number n e.pending }) (cond (is_some (find_number n e.outstanding)) (disconnected reason n udata e) e) (refl, inr refl) (either (is_some (find_number n e.outstanding)) e (disconnected reason n udata e) e (refl, inr refl) (refl, inr refl))

break-tame : (fd : ℕ) (e : Endpoint) (reason : ℕ) (udata : List ℕ) → AllTame (break fd e reason udata)
break-tame fd e reason udata = both-tame (at_linked fd e.peer (broken reason udata)) (take_back e.target reason udata) (linked-tame fd e.peer (broken reason udata) (λ y. (refl, inl refl))) (take e.target)
  where
    take : (t : Option Target) → AllTame (take_back t reason udata)
    take None = tt
    take (Some t) = (tame_at t.listener (taken_back t.number reason udata) (taken-tame t.number reason udata), tt)

callers-tame : (fd : ℕ) (is : List Indication) → AllTame (map (Close.give_up_caller fd) is)
callers-tame fd [] = tt
callers-tame fd (i ∷ is) = (tame_at i.caller (Close.given_up fd i.number) (λ e. either (is_target fd i.number e.target) e (record (disconnected 5 0 [] e) { target = None }) e (refl, inr refl) (refl, inr refl)), callers-tame fd is)

close-tame : (p : Providers) (fd : ℕ) (e : Endpoint) → AllTame (Close.changes p fd e)
close-tame p fd e = both-tame (break fd e 5 [] ++ map (Close.give_up_caller fd) (e.pending ++ e.outstanding)) (Close.closing p fd) (both-tame (break fd e 5 []) (map (Close.give_up_caller fd) (e.pending ++ e.outstanding)) (break-tame fd e 5 []) (callers-tame fd (e.pending ++ e.outstanding))) (tame_closes fd, (tame_switch (Close.forget p fd), tt))

request-tame : (fd : ℕ) (options udata : List ℕ) (e : Endpoint) (o : Option Connect.Found) → AllTame (Connect.request fd options udata e o)
request-tame fd options udata e None = (tame_at fd (Connect.turned_away 1) (λ y. (refl, inr refl)), tt)
request-tame fd options udata e (Some l) = go (not (Connect.is_listening l.endpoint)) (Connect.is_full l.endpoint)
  where
    go : (x y : Bool) → AllTame (cond x (at_endpoint fd (Connect.turned_away 1) ∷ []) (cond y (at_endpoint fd (Connect.turned_away 2) ∷ []) (at_endpoint l.fd (Connect.asked fd (address_of e) options udata) ∷ at_endpoint fd (Connect.asking l.fd (l.endpoint.last_number + 1)) ∷ [])))
    go true y = (tame_at fd (Connect.turned_away 1) (λ y. (refl, inr refl)), tt)
    go false true = (tame_at fd (Connect.turned_away 2) (λ y. (refl, inr refl)), tt)
    go false false = (tame_at l.fd (Connect.asked fd (address_of e) options udata) (λ y. (refl, inr refl)), (tame_at fd (Connect.asking l.fd (l.endpoint.last_number + 1)) (λ y. (refl, inr refl)), tt))

idle-tame : Tame Disconnect.idle
idle-tame e = (refl, inl refl)

snddis-tame : (fd number : ℕ) (udata : List ℕ) (e : Endpoint) → AllTame (Disconnect.send_changes fd number udata e)
snddis-tame fd number udata e = go (Disconnect.is_asked e) (find_number number e.outstanding)
  where
    go : (x : Bool) (o : Option Indication) → AllTame (cond x (Disconnect.reject fd udata o) (break fd e 4 udata ++ at_endpoint fd Disconnect.idle ∷ []))
    go true None = tt
    go true (Some i) = (tame_at fd (Listen.taken_out i.number) (λ y. (refl, inr refl)), (tame_at i.caller (Disconnect.rejected udata) (λ y. (refl, inr refl)), tt))
    go false o = both-tame (break fd e 4 udata) (at_endpoint fd Disconnect.idle ∷ []) (break-tame fd e 4 udata) (tame_at fd Disconnect.idle idle-tame, tt)

cut-tame : Tame Disconnect.received
cut-tame e = either (Disconnect.is_asked e) e (record (Listen.taken_out (Disconnect.oldest e).number e) { disconnects = drop 1 e.disconnects }) (Disconnect.idle e) (refl, inr refl) (idle-tame e)

after_send-tame : Tame Release.after_send
after_send-tame e = either (is_state (T_DATAXFER ∷ []) e) e (record e { state = T_OUTREL }) (Disconnect.idle e) (refl, inr refl) (idle-tame e)

after_receive-tame : Tame Release.after_receive
after_receive-tame e = either (is_state (T_DATAXFER ∷ []) e) e (record e { release = None; state = T_INREL }) (Disconnect.idle e) (refl, inr refl) (idle-tame e)

symbols-tame : (b : Bool) (symbols : List ℕ) → Tame (Send.received b symbols)
symbols-tame true symbols e = (refl, inr refl)
symbols-tame false symbols e = (refl, inr refl)

sent-tame : (p : Providers) (b ends : Bool) (now : ℕ) → Tame (Send.sent p b ends now)
sent-tame p true ends now e = (refl, inr refl)
sent-tame p false ends now e = (refl, inr refl)

flow-tame : (b on : Bool) → Tame (Send.mark_flow b on)
flow-tame true on e = (refl, inr refl)
flow-tame false on e = (refl, inr refl)

send-tame : (p : Providers) (fd number : ℕ) (bytes : List ℕ) (flags taken now : ℕ) (peer : Option Endpoint) (e : Endpoint) → PlanTame (Send.plan_now p fd number bytes flags taken now peer e)
send-tame p fd number bytes flags taken now peer e = record { changes = changes; marks = (tame_at fd (Send.mark_flow (is_expedited flags) true) (flow-tame (is_expedited flags) true), tt); lost = changes }
  where
    changes : AllTame (Send.changes p fd bytes flags taken now e)
    changes = both-tame (at_linked fd e.peer _) (at_endpoint fd _ ∷ []) (linked-tame fd e.peer _ (symbols-tame (is_expedited flags) _)) (tame_at fd _ (sent-tame p (is_expedited flags) _ now), tt)

deliver-tame : (fd : ℕ) (address options bytes : List ℕ) (o : Option ℕ) (e : Endpoint) → AllTame (Datagrams.send_changes fd address options bytes o e)
deliver-tame fd address options bytes None e = (tame_at fd _ (λ y. (refl, inr refl)), tt)
deliver-tame fd address options bytes (Some to) e = (tame_at to _ (λ y. (refl, inr refl)), (tame_at fd _ (λ y. (refl, inr refl)), tt))

sndudata-tame : (p : Providers) (fd : ℕ) (address options : List ℕ) (number : ℕ) (bytes : List ℕ) (e : Endpoint) (o : Option ℕ) (there : Option Endpoint) → PlanTame (Datagrams.send_to p fd address options number bytes e o there)
sndudata-tame p fd address options number bytes e o there = record { changes = deliver-tame fd address options bytes o e; marks = (tame_at fd _ (λ y. (refl, inr refl)), tt); lost = deliver-tame fd address options bytes o e }

got-tame : (max : ℕ) → Tame (Datagrams.received max)
got-tame max e = either (Datagrams.has_rest max (Datagrams.first_of e)) e (record e { datagrams = Datagrams.shortened max (Datagrams.first_of e) ∷ drop 1 e.datagrams; begun = true }) (Datagrams.dropped e) (refl, inr refl) (refl, inr refl)

shown-tame : (o : Option Event) → Tame (Show.shown o)
shown-tame None e = (refl, inr refl)
shown-tame (Some event.T_GODATA) e = (refl, inr refl)
shown-tame (Some event.T_GOEXDATA) e = (refl, inr refl)
shown-tame (Some other) e = (refl, inr refl)

-- An accept: the two that are linked are of one provider, and not the same.
module _ (p : Providers) (w : World) (z : SoundLinks p w) (h : Paired p w) (fd resfd number : ℕ) (options udata : List ℕ) (e r : Endpoint) (i : Indication)
    (a : endpoint p w fd ≡ Some e) (b : endpoint p w resfd ≡ Some r) (c : Cleared (Listen.accept_rows p fd resfd number options udata e r)) (f : find_number number e.outstanding ≡ Some i) where
  ask : AskingCaller p w e.prov fd number i.caller
  ask = asks p w z fd resfd number options udata e r i a b c f

  apart : eqb i.caller resfd ≡ false
  apart = not_resfd p w z fd resfd number options udata e r i a b c f

  same_provider : ask.e.prov ≡ r.prov
  same_provider = ask.same_provider ∙ same-prov e.prov r.prov (not-false (same_prov e.prov r.prov) c.1.1.0)

  abbrev before : List Change
  before = at_endpoint fd (Listen.taken_out i.number) ∷ Listen.bind_like e resfd r

  before-tame : AllTame before
  before-tame = (tame_at fd (Listen.taken_out i.number) (λ y. (refl, inr refl)), by (is_state (T_UNBND ∷ []) r))
    where
      by : (d : Bool) → AllTame (cond d (at_endpoint resfd (Listen.bound_like e) ∷ at_switch (give_address r.prov (address_of e) resfd false) ∷ []) [])
      by true = (tame_at resfd (Listen.bound_like e) (λ y. either (is_state (T_UNBND ∷ []) y) y (record y { address = Some (address_of e); qlen = 0 }) y (refl, inr refl) (refl, inr refl)), (tame_switch _, tt))
      by false = tt

  abbrev mid : World
  mid = changed p w before

  mid_paired : Paired p mid
  mid_paired = tame-paired p w before before-tame h

  -- what is kept of the two
  abbrev HasProv : Prov → Option Endpoint → Type 0
  HasProv q None = ⊥
  HasProv q (Some y) = y.prov ≡ q

  abbrev Free : Option Endpoint → Type 0
  Free None = ⊥
  Free (Some y) = (y.peer ≡ None) × (y.prov ≡ r.prov)

  keep-prov : AllKeep (HasProv r.prov) resfd before
  keep-prov = ((λ j y q. q), by (is_state (T_UNBND ∷ []) r))
    where
      by : (d : Bool) → AllKeep (HasProv r.prov) resfd (cond d (at_endpoint resfd (Listen.bound_like e) ∷ at_switch (give_address r.prov (address_of e) resfd false) ∷ []) [])
      by true = ((λ j y q. choice (HasProv r.prov) (is_state (T_UNBND ∷ []) y) (record y { address = Some (address_of e); qlen = 0 }) y q q), (tt, tt))
      by false = tt

  keep-free : AllKeep Free i.caller before
  keep-free = ((λ j y q. q), by (is_state (T_UNBND ∷ []) r))
    where
      by : (d : Bool) → AllKeep Free i.caller (cond d (at_endpoint resfd (Listen.bound_like e) ∷ at_switch (give_address r.prov (address_of e) resfd false) ∷ []) [])
      by true = ((λ j y q. choice Free (is_state (T_UNBND ∷ []) y) (record y { address = Some (address_of e); qlen = 0 }) y q q), (tt, tt))
      by false = tt

  r_mid : HasProv r.prov (endpoint p mid resfd)
  r_mid = keeps p (HasProv r.prov) resfd before keep-prov w (subst (HasProv r.prov) (sym b) refl)

  c_mid : Free (endpoint p mid i.caller)
  c_mid = keeps p Free i.caller before keep-free w (subst Free (sym ask.is_open) (((z.good i.caller ask.e ask.is_open).asking (ap is_some ask.has_target)).1, same_provider))

  abbrev third : World
  third = one_world p mid resfd (Listen.responding i)

  abbrev fourth : List ℕ → World
  fourth address = one_world p third i.caller (Listen.accepted resfd address options udata)

  linked-two : (address : List ℕ) → Paired p (changed p mid (Listen.linking resfd i address options udata))
  linked-two address = go (endpoint p mid resfd) refl r_mid (endpoint p mid i.caller) refl c_mid
    where
      go : (o : Option Endpoint) → endpoint p mid resfd ≡ o → HasProv r.prov o → (q : Option Endpoint) → endpoint p mid i.caller ≡ q → Free q → Paired p (changed p mid (Listen.linking resfd i address options udata))
      go None j k q l m = absurd k
      go (Some y) j k None l m = absurd m
      go (Some y) j k (Some v) l m = paired
        where
          c_third : endpoint p third i.caller ≡ Some v
          c_third = one-other p mid resfd (Listen.responding i) i.caller apart ∙ l

          r_fourth : endpoint p (fourth address) resfd ≡ Some (Listen.responding i y)
          r_fourth = one-other p third i.caller (Listen.accepted resfd address options udata) resfd (flip i.caller resfd apart) ∙ one-same p mid resfd (Listen.responding i) y j

          -- the caller's pair is the responding endpoint
          at_caller : (x t : ℕ) (d g : Endpoint) → x ≡ i.caller → Listen.accepted resfd address options udata v ≡ d → endpoint p (fourth address) t ≡ Some g → d.peer ≡ Some t → (d.prov ≡ g.prov) × (eqb x t ≡ false)
          at_caller x t d g h1 h2 s u =
              let n : resfd ≡ t = some-is resfd t (ap (λ q. q.peer) h2 ∙ u) in
              let q : Listen.responding i y ≡ g = some-is (Listen.responding i y) g (sym r_fourth ∙ (ap (endpoint p (fourth address)) n ∙ s)) in
              (ap (λ q. q.prov) (sym h2) ∙ (m.1 ∙ (sym k ∙ ap (λ q. q.prov) q)), subst (λ q. eqb x q ≡ false) n (subst (λ q. eqb q resfd ≡ false) (sym h1) apart))

          -- others are as they were
          elsewhere : (x t : ℕ) (d g : Endpoint) → eqb x i.caller ≡ false → endpoint p third x ≡ Some d → eqb t i.caller ≡ false → endpoint p third t ≡ Some g → d.peer ≡ Some t → g.peer ≡ Some x → (d.prov ≡ g.prov) × (eqb x t ≡ false)
          elsewhere x t d g h1 h2 h3 h4 u n = one-cases p mid resfd (Listen.responding i) x y d j h2
              (λ k1 k2. absurd (not-both (eqb t i.caller) h3 (eq-eqb t i.caller (sym (some-is i.caller t (ap (λ q. q.peer) k2 ∙ u))))))
              (λ k1 k2. one-cases p mid resfd (Listen.responding i) t y g j h4
              (λ l1 l2. absurd (not-both (eqb x i.caller) h1 (eq-eqb x i.caller (sym (some-is i.caller x (ap (λ q. q.peer) l2 ∙ n))))))
              (λ l1 l2. mid_paired x t d g k2 l2 u n))

          paired : Paired p (fourth address)
          paired x t d g o s u n = one-cases p third i.caller (Listen.accepted resfd address options udata) x v d c_third o
              (λ h1 h2. at_caller x t d g h1 h2 s u)
              (λ h1 h2. one-cases p third i.caller (Listen.accepted resfd address options udata) t v g c_third s
              (λ h3 h4. (let back = at_caller t x g d h3 h4 o n in (sym back.0, flip t x back.1)))
              (λ h3 h4. elsewhere x t d g h1 h2 h3 h4 u n))

  pub accepts-paired : Paired p (changed p w (Listen.accept_changes fd resfd i options udata e r))
  accepts-paired = subst (Paired p) (sym (changed-append p (one_world p w fd (Listen.taken_out i.number)) (Listen.bind_like e resfd r) (Listen.linking resfd i (address_of (Listen.bound_like e r)) options udata))) (linked-two (address_of (Listen.bound_like e r)))

-- what the changes of an accept keep, where the indication is found, its plan keeps
pub accept-keeps : (P : World → Type 0) (p : Providers) (w : World) (fd resfd number : ℕ) (options udata : List ℕ) → P w
    → ((e r : Endpoint) (i : Indication) → endpoint p w fd ≡ Some e → endpoint p w resfd ≡ Some r → Cleared (Listen.accept_rows p fd resfd number options udata e r) → find_number number e.outstanding ≡ Some i → P (changed p w (Listen.accept_changes fd resfd i options udata e r)))
    → (e : Endpoint) → endpoint p w fd ≡ Some e → Keeps P p w (Listen.accept_with p fd resfd number options udata e (endpoint p w resfd))
accept-keeps P p w fd resfd number options udata h accepts e a = at_resfd (endpoint p w resfd) refl
  where
    found : (r : Endpoint) → endpoint p w resfd ≡ Some r → Cleared (Listen.accept_rows p fd resfd number options udata e r) → (o : Option Indication) → find_number number e.outstanding ≡ o → P (changed p w (Listen.accept_found fd resfd o options udata e r))
    found r b c None f = h
    found r b c (Some i) f = accepts e r i a b c f

    at_resfd : (o : Option Endpoint) → endpoint p w resfd ≡ o → Keeps P p w (Listen.accept_with p fd resfd number options udata e o)
    at_resfd None b = record { changes = λ g. h; lost = λ g. h; marks = λ g. h }
    at_resfd (Some r) b = record {
      changes = λ g. found r b (cleared (Listen.accept_rows p fd resfd number options udata e r) g) (find_number number e.outstanding) refl;
      lost = λ g. found r b (cleared (Listen.accept_rows p fd resfd number options udata e r) g) (find_number number e.outstanding) refl;
      marks = λ g. h;
    }

accept-paired : (p : Providers) (w : World) → SoundLinks p w → Paired p w → (fd resfd number : ℕ) (options udata : List ℕ) → Paired p (left_by w (step_of p w (Listen.accept_plan p w fd resfd number options udata)))
accept-paired p w z h fd resfd number options udata = call-keeps (Paired p) p w fd (λ e. Listen.accept_with p fd resfd number options udata e (endpoint p w resfd)) h
    (accept-keeps (Paired p) p w fd resfd number options udata h (λ e r i a b c f. accepts-paired p w z h fd resfd number options udata e r i a b c f))

-- What tame changes keep is kept by every call but accept and open, and by these where they keep it.
module _ (p : Providers) (w : World) (P : World → Type 0) (h : P w) (k : (cs : List Change) → AllTame cs → P (changed p w cs)) where
  by-plan : (x : Plan) → PlanTame x → P (left_by w (step_of p w x))
  by-plan x t = step-keeps P p w x h (record { changes = λ g. k x.changes t.changes; lost = λ g. k x.lost t.lost; marks = λ g. k x.marks t.marks })

  on-open : (fd : ℕ) (f : Endpoint → Plan) → ((e : Endpoint) → PlanTame (f e)) → P (left_by w (step_of p w (if_open fd (endpoint p w fd) f)))
  on-open fd f t = go (endpoint p w fd)
    where
      go : (o : Option Endpoint) → P (left_by w (step_of p w (if_open fd o f)))
      go None = by-plan (if_open fd None f) (record { changes = tt; marks = tt; lost = tt })
      go (Some e) = by-plan (f e) (t e)

  sends-by : (fd number : ℕ) (bytes : List ℕ) (flags : ℕ) (g : Go) → P (left_by w (step_of p w (send p w fd number bytes flags g)))
  sends-by fd number bytes flags go.Begin = on-open fd (λ e. Send.plan_to p fd number bytes flags 0 e (linked p w fd e)) (λ e. send-tame p fd number bytes flags 0 _ (linked p w fd e) e)
  sends-by fd number bytes flags (go.More n) = by (endpoint p w fd)
    where
      by : (o : Option Endpoint) → P (left_by w (step_of p w (later_plan n (if_open fd o (λ e. Send.plan_to p fd number bytes flags n e (linked p w fd e))))))
      by None = by-plan (later_plan n (if_open fd None (λ e. Send.plan_to p fd number bytes flags n e (linked p w fd e)))) (record { changes = tt; marks = tt; lost = tt })
      by (Some e) = (let t = send-tame p fd number bytes flags n _ (linked p w fd e) e in by-plan (later_plan n (Send.plan_to p fd number bytes flags n e (linked p w fd e))) (record { changes = t.changes; marks = tt; lost = t.lost }))

  releases-by : (fd : ℕ) (udata : List ℕ) → P (left_by w (step_of p w (Release.send_plan p w fd udata)))
  releases-by fd udata = on-open fd _ (λ e. twice (at_linked fd e.peer (Release.released udata) ++ at_endpoint fd Release.after_send ∷ []) _ (both-tame (at_linked fd e.peer (Release.released udata)) (at_endpoint fd Release.after_send ∷ []) (linked-tame fd e.peer (Release.released udata) (λ y. (refl, inr refl))) (tame_at fd Release.after_send after_send-tame, tt)) refl refl refl)

  pub next-by : (c : Call) (g : Go) → ((fd resfd number : ℕ) (options udata : List ℕ) → P (left_by w (step_of p w (Listen.accept_plan p w fd resfd number options udata)))) → ((prov : Prov) (nonblock : Bool) → c ≡ call.TOpen prov nonblock → P (left_by w (step_of p w (Open.plan p w prov nonblock)))) → P (left_by w (step p w c g))
  unfolding step plan
  next-by (call.TOpen prov nonblock) g acc op = op prov nonblock refl
  next-by (call.TClose fd) g acc op = on-open fd.0 _ (λ e. twice (Close.changes p fd.0 e) _ (close-tame p fd.0 e) refl refl refl)
  next-by (call.TBind fd addr qlen amax) g acc op = on-open fd.0 (Bind.plan_in (the_switch p w) fd.0 addr qlen amax) (λ e. twice (Bind.changes fd.0 e.prov (chosen (the_switch p w) e.prov addr) (Bind.queue e.prov qlen)) _ (tame_at fd.0 _ (λ y. (refl, inr refl)), (tame_switch _, tt)) refl refl refl)
  next-by (call.TUnbind fd) g acc op = on-open fd.0 _ (λ e. twice (at_endpoint fd.0 Bind.unbound ∷ at_switch (give_up_address fd.0) ∷ []) _ (tame_at fd.0 _ (λ y. (refl, inr refl)), (tame_switch _, tt)) refl refl refl)
  next-by (call.TConnect fd addr opt udata amax omax umax) go.Begin acc op = on-open fd.0 (λ e. Connect.plan_to fd.0 addr opt udata e (Connect.found p w fd.0 addr e)) (λ e. twice (Connect.request fd.0 opt udata e (Connect.found p w fd.0 addr e)) _ (request-tame fd.0 opt udata e (Connect.found p w fd.0 addr e)) refl refl refl)
  next-by (call.TConnect fd addr opt udata amax omax umax) (go.More n) acc op = on-open fd.0 _ (λ e. own-tame fd.0 Connect.confirmed _ (λ y. (refl, inr refl)) refl refl refl)
  next-by (call.TRcvConnect fd amax omax umax) g acc op = on-open fd.0 _ (λ e. own-tame fd.0 Connect.confirmed _ (λ y. (refl, inr refl)) refl refl refl)
  next-by (call.TListen fd amax omax umax) g acc op = on-open fd.0 _ (λ e. own-tame fd.0 Listen.listened _ (λ y. (refl, inr refl)) refl refl refl)
  next-by (call.TAccept fd resfd seq opt udata) g acc op = acc fd.0 resfd.0 seq.0 opt udata
  next-by (call.TSnd fd bytes flags) g acc op = sends-by fd.0 1 bytes flags g
  next-by (call.TSndV fd parts flags) g acc op = sends-by fd.0 (length parts) (concat parts) flags g
  next-by (call.TRcv fd max) g acc op = on-open fd.0 _ (λ e. own-tame fd.0 (Receive.received p max) _ (read-tame p max) refl refl refl)
  next-by (call.TRcvV fd sizes) g acc op = on-open fd.0 _ (λ e. own-tame fd.0 (Receive.received p (sum sizes)) _ (read-tame p (sum sizes)) refl refl refl)
  next-by (call.TSndDis fd seq udata) g acc op = on-open fd.0 _ (λ e. twice (Disconnect.send_changes fd.0 seq.0 udata e) _ (snddis-tame fd.0 seq.0 udata e) refl refl refl)
  next-by (call.TRcvDis fd umax) g acc op = on-open fd.0 _ (λ e. own-tame fd.0 Disconnect.received _ cut-tame refl refl refl)
  next-by (call.TSndRel fd) g acc op = releases-by fd.0 []
  next-by (call.TRcvRel fd) g acc op = on-open fd.0 _ (λ e. own-tame fd.0 Release.after_receive _ after_receive-tame refl refl refl)
  next-by (call.TSndRelData fd udata) g acc op = releases-by fd.0 udata
  next-by (call.TRcvRelData fd umax) g acc op = on-open fd.0 _ (λ e. own-tame fd.0 Release.after_receive _ after_receive-tame refl refl refl)
  next-by (call.TSndUData fd addr opt bytes) g acc op = on-open fd.0 (λ e. Datagrams.send_from p w fd.0 addr opt 1 bytes e (bound (the_switch p w) e.prov addr)) (λ e. sndudata-tame p fd.0 addr opt 1 bytes e (bound (the_switch p w) e.prov addr) (option_and_then (endpoint p w) (bound (the_switch p w) e.prov addr)))
  next-by (call.TSndVUData fd addr opt parts) g acc op = on-open fd.0 (λ e. Datagrams.send_from p w fd.0 addr opt (length parts) (concat parts) e (bound (the_switch p w) e.prov addr)) (λ e. sndudata-tame p fd.0 addr opt (length parts) (concat parts) e (bound (the_switch p w) e.prov addr) (option_and_then (endpoint p w) (bound (the_switch p w) e.prov addr)))
  next-by (call.TRcvUData fd max amax omax) g acc op = on-open fd.0 (Datagrams.receive_from fd.0 1 max amax omax) (λ e. record { changes = (tame_at fd.0 (Datagrams.received max) (got-tame max), tt); marks = tt; lost = (tame_at fd.0 Datagrams.dropped (λ y. (refl, inr refl)), tt) })
  next-by (call.TRcvVUData fd sizes amax omax) g acc op = on-open fd.0 (Datagrams.receive_from fd.0 (length sizes) (sum sizes) amax omax) (λ e. record { changes = (tame_at fd.0 (Datagrams.received (sum sizes)) (got-tame (sum sizes)), tt); marks = tt; lost = (tame_at fd.0 Datagrams.dropped (λ y. (refl, inr refl)), tt) })
  next-by (call.TRcvUDErr fd amax omax) g acc op = on-open fd.0 _ (λ e. own-tame fd.0 Datagrams.without_error _ (λ y. (refl, inr refl)) refl refl refl)
  next-by (call.TLookAt fd) g acc op = on-open fd.0 (λ e. Show.look_in fd.0 e (around p w fd.0 e)) (λ e. own-tame fd.0 (Show.shown (Show.first_pending (around p w fd.0 e) e)) _ (shown-tame (Show.first_pending (around p w fd.0 e) e)) refl refl refl)
  next-by (call.TGetState fd) g acc op = on-open fd.0 _ (λ e. still _ refl refl refl)
  next-by (call.TSync fd) g acc op = on-open fd.0 _ (λ e. still _ refl refl refl)
  next-by (call.TGetInfo fd) g acc op = on-open fd.0 _ (λ e. still _ refl refl refl)
  next-by (call.TGetProtAddr fd amax pmax) g acc op = on-open fd.0 _ (λ e. still _ refl refl refl)
  next-by (call.TOptMgmt fd action opt omax) g acc op = on-open fd.0 (λ e. Show.option_plan_of fd.0 (Show.negotiated p action opt e) action opt omax e) (λ e. own-tame fd.0 (Show.with_settings (Show.negotiated p action opt e).settings) _ (λ y. (refl, inr refl)) refl refl refl)
  next-by (call.SetMode fd nonblock) g acc op = on-open fd.0 _ (λ e. own-tame fd.0 (Show.in_mode nonblock) _ (λ y. (refl, inr refl)) refl refl refl)

open-paired : (p : Providers) (w : World) → Paired p w → (prov : Prov) (nonblock : Bool) → Paired p (left_by w (step_of p w (Open.plan p w prov nonblock)))
open-paired p w h prov nonblock = go (opening_place p (the_switch p w) prov)
  where
    go : (o : Option ℕ) → Paired p (left_by w (step_of p w (Open.plan_where p (the_switch p w) prov nonblock o)))
    go None = step-keeps (Paired p) p w (Open.plan_where p (the_switch p w) prov nonblock None) h (record { changes = λ g. h; lost = λ g. h; marks = λ g. h })
    go (Some n) = step-keeps (Paired p) p w (Open.plan_where p (the_switch p w) prov nonblock (Some n)) h (record {
      changes = λ g. paired-older p w (changed p w (opens_place n (opened (profile p prov) prov nonblock) ∷ at_switch (mark_open n) ∷ [])) (λ x. keeps p (Older p w x) x (opens_place n (opened (profile p prov) prov nonblock) ∷ at_switch (mark_open n) ∷ []) ((λ q. inl refl), (tt, tt)) w (older-self p w x (endpoint p w x) refl)) h;
      lost = λ g. h;
      marks = λ g. h;
    })

pub next-paired : (p : Providers) (w : World) (c : Call) (g : Go) → SoundLinks p w → Paired p w → Paired p (left_by w (step p w c g))
next-paired p w c g z h = next-by p w (Paired p) h (λ cs t. tame-paired p w cs t h) c g (λ fd resfd number options udata. accept-paired p w z h fd resfd number options udata) (λ prov nonblock i. open-paired p w h prov nonblock)
