-- Changes that the facts across cells do not see, and how an endpoint breaks with its peer and its listener.
use Rattle.std.proofs.Common.{ℕ, Bool, true, false, List, [], ◌∷◌, ◌++◌, ◌≡◌, ◌⊎◌, inl, inr, refl, sym, ap, ◌∙◌, subst, cond, eqb, drop, Option, Some, None, is_some}
use Rattle.std.proofs.lemmas.Bool.{eqb-true}
use Rattle.xti_base.specs.declared.kinds.Event.{Event}
use Rattle.xti_base.specs.declared.kinds.Event.TheVariants.{T_GODATA, T_GOEXDATA}
use Rattle.xti_base.specs.declared.kinds.State.TheVariants.{T_UNBND}
use Rattle.xti_model.specs.declared.profile.Providers.{Providers}
use Rattle.xti_model.specs.Endpoint.{Endpoint, Target, find_number, without_number, disconnected, address_of}
use Rattle.xti_model.specs.World.{World, Switch, Change, at_endpoint, at_switch, changed, endpoint}
use Rattle.xti_model.specs.Links.{names, if_names, at_linked, take_back, taken_back, broken, break}
use Rattle.xti_model.specs.Events.{is_state}
use Rattle.xti_model.specs.Calls.Send as Send
use Rattle.xti_model.specs.Calls.Listen as Listen
use Rattle.xti_model.specs.Calls.Datagrams as Datagrams
use Rattle.xti_model.specs.Calls.Show as Show
use Rattle.xti_laws.proofs.ChangedEndpoints.{changed-append}
use Rattle.xti_laws.specs.Requests.{disconnects_with, SoundRequests, Stands, request_to, AskingCaller, AskedListener, SoundLinksExcept, SoundLinks, nobody}
use Rattle.xti_laws.proofs.KeptEndpoints.{keeps}
use Rattle.xti_laws.proofs.StepWays.{some-is, none-is}
use Rattle.xti_laws.proofs.OneChange.{one_world, one-same, one-other, hush, removes, just, switch-sound}
use Rattle.xti_laws.proofs.EndpointUpdates.{desk, Both, both-of, both-named, both-broken}
use Rattle.xti_laws.proofs.RequestUpdates.{TakenBack, is-taken_back}
use Rattle.xti_laws.proofs.SeveralCells.{IsIn, found-in, in-right}

abbrev pub Unseen : (Endpoint → Endpoint) → Type 0
Unseen f = (e : Endpoint) → desk (f e) ≡ desk e

pub data Rests : Change → Type 0 where
  rests_at : (z : ℕ) (f : Endpoint → Endpoint) → Unseen f → Rests (at_endpoint z f)
  rests_switch : (f : Switch → Switch) → Rests (at_switch f)

abbrev pub AllRest : List Change → Type 0
AllRest [] = Unit {0}
AllRest (c ∷ cs) = Rests c × AllRest cs

one-rests : (p : Providers) (x : ℕ → Bool) (c : Change) → Rests c → (w : World) → SoundLinksExcept p w x → SoundLinksExcept p (changed p w (c ∷ [])) x
one-rests p x c (rests_at z f h) w s = hush p w z f x s (λ e o. both-of f e (h e) (s.good z e o))
one-rests p x c (rests_switch f) w s = switch-sound p w x f s

pub rest-sound : (p : Providers) (x : ℕ → Bool) (cs : List Change) → AllRest cs → (w : World) → SoundLinksExcept p w x → SoundLinksExcept p (changed p w cs) x
rest-sound p x [] r w s = s
rest-sound p x (c ∷ cs) r w s = rest-sound p x cs r.1 (changed p w (c ∷ [])) (one-rests p x c r.0 w s)

desk-choice : (b : Bool) (x y e : Endpoint) → desk x ≡ desk e → desk y ≡ desk e → desk (cond b x y) ≡ desk e
desk-choice true x y e h k = h
desk-choice false x y e h k = k

pub mark_flow-unseen : (expedited on : Bool) → Unseen (Send.mark_flow expedited on)
mark_flow-unseen expedited on e = desk-choice expedited (record e { flow_expedited = on }) (record e { flow_normal = on }) e refl refl

pub sent-unseen : (p : Providers) (expedited ends : Bool) (now : ℕ) → Unseen (Send.sent p expedited ends now)
sent-unseen p true ends now e = refl
sent-unseen p false ends now e = refl

pub bound_like-unseen : (l : Endpoint) → Unseen (Listen.bound_like l)
bound_like-unseen l e = desk-choice (is_state (T_UNBND ∷ []) e) (record e { address = Some (address_of l); qlen = 0 }) e e refl refl

pub datagram-unseen : (max : ℕ) → Unseen (Datagrams.received max)
datagram-unseen max e = desk-choice (Datagrams.has_rest max (Datagrams.first_of e)) (record e { datagrams = Datagrams.shortened max (Datagrams.first_of e) ∷ drop 1 e.datagrams; begun = true }) (Datagrams.dropped e) e refl refl

pub shown-unseen : (o : Option Event) → Unseen (Show.shown o)
shown-unseen None e = refl
shown-unseen (Some T_GODATA) e = refl
shown-unseen (Some T_GOEXDATA) e = refl
shown-unseen (Some other) e = refl

-- the endpoint's own change
pub own-hush : (p : Providers) (w : World) (x : ℕ → Bool) (fd : ℕ) (f : Endpoint → Endpoint) (e : Endpoint) → SoundLinksExcept p w x → endpoint p w fd ≡ Some e → Both f e → SoundLinksExcept p (one_world p w fd f) x
own-hush p w x fd f e s o b = hush p w fd f x s (λ y q. subst (Both f) (some-is e y (sym o ∙ q)) b)

-- that of the endpoint that it names and is named by
pub linked-sound : (p : Providers) (w : World) (x : ℕ → Bool) (fd : ℕ) (o : Option ℕ) (f : Endpoint → Endpoint) → SoundLinksExcept p w x → ((e : Endpoint) → SoundRequests e → e.peer ≡ Some fd → Both f e) → SoundLinksExcept p (changed p w (at_linked fd o f)) x
linked-sound p w x fd None f s h = s
linked-sound p w x fd (Some y) f s h = hush p w y (if_names fd f) x s (λ e q. both-named fd f e (s.good y e q) (h e (s.good y e q)))

-- A caller without a target has no request that stands.
pub off-of : (p : Providers) (w : World) (fd : ℕ) (e : Endpoint) → SoundLinks p w → endpoint p w fd ≡ Some e → e.target ≡ None → SoundLinksExcept p w (just fd)
off-of p w fd e s o t = record {
  good = s.good;
  asked = λ l n c e' h k. (let b = (s.asked l n c e' h k).1 in (other l n c e'.prov b (eqb c fd) refl, b));
  asks = λ c e' t' x h k. s.asks c e' t' refl h k;
}
  where
    other : (l n c : ℕ) (prov : _) → AskingCaller p w prov l n c → (z : Bool) → eqb c fd ≡ z → eqb c fd ≡ false
    other l n c prov b false j = j
    other l n c prov b true j = absurd (none-is (request_to l n) (sym t ∙ (ap (λ z. z.target) (some-is e b.e (sym o ∙ (ap (endpoint p w) (sym (eqb-true c fd j)) ∙ b.is_open))) ∙ b.has_target)))

-- An endpoint breaks: what is left of it.
pub record Broken (p : Providers) (w : World) (fd : ℕ) (before : Endpoint) : Type 0 where
  pub sound : SoundLinksExcept p w (just fd)
  pub e : Endpoint
  pub is_open : endpoint p w fd ≡ Some e
  pub state : e.state ≡ before.state
  pub listed : (n c : ℕ) → Stands e n c → IsIn (before.pending ++ before.outstanding) n c

pub stands-in : (e e' : Endpoint) → e'.pending ≡ e.pending → e'.outstanding ≡ e.outstanding → (n c : ℕ) → Stands e' n c → IsIn (e.pending ++ e.outstanding) n c
stands-in e e' h k n c s = go s.is_found
  where
    go : ((find_number n e'.pending ≡ Some s.i) ⊎ ((find_number n e'.outstanding ≡ Some s.i) × (disconnects_with n e'.disconnects ≡ 0))) → IsIn (e.pending ++ e.outstanding) n c
    go (inl f) = found-in n c e.pending e.outstanding s.i s.is_caller (ap (find_number n) (sym h) ∙ f)
    go (inr f) = in-right n c e.pending e.outstanding s.i s.is_caller (ap (find_number n) (sym k) ∙ f.0)

taken_back-state : (n reason : ℕ) (udata : List ℕ) (e : Endpoint) → (taken_back n reason udata e).state ≡ e.state
taken_back-state n reason udata e = go (is_some (find_number n e.pending)) (is_some (find_number n e.outstanding))
  where
    go : (b d : Bool) → (cond b (record e { pending = without_number n e.pending }) (cond d (disconnected reason n udata e) e)).state ≡ e.state
    go true d = refl
    go false true = refl
    go false false = refl

-- as the endpoint was, but for a peer that it may have been itself
abbrev IsAs : Endpoint → Option Endpoint → Type 0
IsAs e None = ⊥
IsAs e (Some e') = (e'.pending ≡ e.pending) × (e'.outstanding ≡ e.outstanding) × (e'.state ≡ e.state) × (e'.target ≡ None)

broken-as : (fd y reason : ℕ) (udata : List ℕ) (e e' : Endpoint) → IsAs e (Some e') → IsAs e (Some (if_names fd (broken reason udata) e'))
broken-as fd y reason udata e e' q = go (names fd e'.peer)
  where
    go : (b : Bool) → IsAs e (Some (cond b (broken reason udata e') e'))
    go true = (q.0, q.1, q.2, refl)
    go false = q

linked-as : (p : Providers) (w : World) (fd : ℕ) (o : Option ℕ) (reason : ℕ) (udata : List ℕ) (e : Endpoint) → IsAs e (endpoint p w fd) → IsAs e (endpoint p (changed p w (at_linked fd o (broken reason udata))) fd)
linked-as p w fd None reason udata e q = q
linked-as p w fd (Some y) reason udata e q = keeps p (IsAs e) fd (at_endpoint y (if_names fd (broken reason udata)) ∷ []) ((λ j e' r. broken-as fd y reason udata e e' r), tt) w q

pub break-sound : (p : Providers) (w : World) (fd : ℕ) (e : Endpoint) (reason : ℕ) (udata : List ℕ) → SoundLinks p w → endpoint p w fd ≡ Some e → Broken p (changed p w (break fd e reason udata)) fd e
break-sound p w fd e reason udata s o = go e.target refl
  where
    g : SoundRequests e
    g = s.good fd e o

    linked_world : World
    linked_world = changed p w (at_linked fd e.peer (broken reason udata))

    without : (z : Option Endpoint) → endpoint p linked_world fd ≡ z → IsAs e z → Broken p linked_world fd e
    without None i q = absurd q
    without (Some e') i q = record {
      sound = off-of p linked_world fd e' (linked-sound p w nobody fd e.peer (broken reason udata) s (λ z k h. both-broken reason udata fd z k h)) i q.3;
      e = e';
      is_open = i;
      state = q.2;
      listed = stands-in e e' q.0 q.1;
    }

    asking : (t : Target) → e.target ≡ Some t → Broken p (changed p w (at_endpoint t.listener (taken_back t.number reason udata) ∷ [])) fd e
    asking t i =
        let b : AskedListener p w t fd = s.asks fd e t refl o i in
        let q = is-taken_back b.e (s.good t.listener b.e b.is_open) t.number fd reason udata b.stands in
        taken b q (eqb fd t.listener) refl
      where
        taken : (b : AskedListener p w t fd) → TakenBack b.e (s.good t.listener b.e b.is_open) t.number fd reason udata b.stands (taken_back t.number reason udata b.e) → (d : Bool) → eqb fd t.listener ≡ d → Broken p (changed p w (at_endpoint t.listener (taken_back t.number reason udata) ∷ [])) fd e
        taken b q false j = record {
          sound = removes p w t.listener t.number fd (taken_back t.number reason udata) b.e s b.is_open b.stands q.good q.target q.prov q.fewer q.rest;
          e = e;
          is_open = one-other p w t.listener (taken_back t.number reason udata) fd j ∙ o;
          state = refl;
          listed = stands-in e e refl refl;
        }
        taken b q true j =
            let same : b.e ≡ e = some-is b.e e (sym b.is_open ∙ (ap (endpoint p w) (sym (eqb-true fd t.listener j)) ∙ o)) in
            record {
              sound = removes p w t.listener t.number fd (taken_back t.number reason udata) b.e s b.is_open b.stands q.good q.target q.prov q.fewer q.rest;
              e = taken_back t.number reason udata b.e;
              is_open = ap (endpoint p (one_world p w t.listener (taken_back t.number reason udata))) (eqb-true fd t.listener j) ∙ one-same p w t.listener (taken_back t.number reason udata) b.e b.is_open;
              state = taken_back-state t.number reason udata b.e ∙ ap (λ z. z.state) same;
              listed = λ n c k. stands-in e b.e (ap (λ z. z.pending) same) (ap (λ z. z.outstanding) same) n c (q.fewer n c k).0;
            }

    go : (z : Option Target) → e.target ≡ z → Broken p (changed p w (at_linked fd e.peer (broken reason udata) ++ take_back z reason udata)) fd e
    go None i = subst (λ z. Broken p z fd e) (sym (changed-append p w (at_linked fd e.peer (broken reason udata)) []))
        (without (endpoint p linked_world fd) refl (linked-as p w fd e.peer reason udata e (subst (IsAs e) (sym o) (refl, refl, refl, i))))
    go (Some t) i = subst (λ z. Broken p (changed p w (at_linked fd z (broken reason udata) ++ take_back (Some t) reason udata)) fd e) (sym (g.asking (ap is_some i)).1) (asking t i)
