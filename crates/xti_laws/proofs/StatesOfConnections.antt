-- The states and counts of connect, rcvconnect, listen, accept, snddis, rcvdis, sndrel and rcvrel.
use Rattle.std.proofs.Common.{ℕ, Bool, true, false, List, [], ◌∷◌, ◌++◌, ◌≡◌, refl, sym, ap, ◌∙◌, cond, not, subst, eqb, ◌&&◌, ◌+◌, ◌-◌, Option, Some, None}
use Rattle.std.proofs.lemmas.Bool.{false≢true, eqb-true, eqb-false, ne_eqb}
use Rattle.std.proofs.lemmas.List.{length-append}
use Rattle.std.specs.Prelude.{is_none, is_some, option_map, unwrap_or, nat_lt}
use Rattle.xti_base.specs.declared.kinds.State.TheVariants.{T_UNBND, T_IDLE, T_OUTCON, T_INCON, T_DATAXFER}
use Rattle.xti_model.specs.declared.profile.Providers.{Providers}
use Rattle.xti_model.specs.Endpoint.{Endpoint, Indication, ocnt, find_number, address_of}
use Rattle.xti_model.specs.World.{World, at_endpoint, at_switch, changed, endpoint, state_of}
use Rattle.xti_model.specs.Switch.{give_address}
use Rattle.xti_model.specs.Links.{at_linked, break}
use Rattle.xti_model.specs.Events.{is_state, some_wait, connected_or_asking}
use Rattle.xti_model.specs.StateTable.{by_connect, by_rcvconnect, by_listen, by_accept_here, by_accept_there, passed, by_snddis, by_rcvdis, by_sndrel, by_rcvrel, is_in_table}
use Rattle.xti_model.specs.Calls.Connect as Connect
use Rattle.xti_model.specs.Calls.Listen as Listen
use Rattle.xti_model.specs.Calls.Disconnect as Disconnect
use Rattle.xti_model.specs.Calls.Release as Release
use Rattle.xti_laws.specs.States.{state_at, ocnt_of}
use Rattle.xti_laws.specs.Counts.{OldestIsOutstanding}
use Rattle.xti_laws.proofs.SteadyUpdates.{Standing, stands, standing, moved, found-some, found-again, length-without, disconnect-count, bound_like-steady, after_sndrel, after_rcvrel, send_release-sets, receive_release-sets, disconnect-state}
use Rattle.xti_laws.proofs.Effects.{standing_in, closed, told-state, told-count, AllLeave, elsewhere, steady, in_switch, append-leave, leaves, puts, puts-first, sets-after, linked-leave, break-leave}
use Rattle.xti_laws.proofs.TableRows.{connect-row, confirm-row, listen-row, passed-row, snddis-row, rcvdis-row, sndrel-row, rcvrel-row, reject-row, accept_there-row, accept_here-row}
use Rattle.xti_laws.proofs.FollowsTable.{Taken, TakenIf, own, leads_to}
use Rattle.xti_laws.proofs.ClearedRows.{Cleared, un-not}

here : (p : Providers) (w : World) (fd : ℕ) (e : Endpoint) → endpoint p w fd ≡ Some e → standing_in p w fd ≡ Some (standing e)
here p w fd e o = ap (option_map standing) o

pub confirm-taken : (p : Providers) (w : World) (fd amax omax umax : ℕ) (e : Endpoint) → endpoint p w fd ≡ Some e → Cleared (Connect.confirm_rows amax omax umax e) → Taken p w fd by_rcvconnect e (at_endpoint fd Connect.confirmed ∷ []) (at_endpoint fd Connect.confirmed ∷ [])
confirm-taken p w fd amax omax umax e o c = own p w fd by_rcvconnect e Connect.confirmed [] o tt (confirm-row e.state (ocnt e) (un-not (is_state (T_OUTCON ∷ []) e) c.1.0))

pub listen-taken : (p : Providers) (w : World) (fd amax omax umax : ℕ) (e : Endpoint) → endpoint p w fd ≡ Some e → Cleared (Listen.listen_rows amax omax umax e) → Taken p w fd by_listen e (at_endpoint fd Listen.listened ∷ []) (at_endpoint fd Listen.listened ∷ [])
listen-taken p w fd amax omax umax e o c =
    let r = listen-row e.state (ocnt e) (un-not (is_state (T_IDLE ∷ T_INCON ∷ []) e) c.1.0) in
    own p w fd by_listen e Listen.listened [] o tt (r.0, length-append e.outstanding (Listen.oldest e ∷ []) ∙ r.1)

turned-state : (p : Providers) (w : World) (fd reason : ℕ) (e : Endpoint) → endpoint p w fd ≡ Some e → standing_in p (changed p w (at_endpoint fd (Connect.turned_away reason) ∷ [])) fd ≡ Some (stands T_OUTCON (ocnt e))
turned-state p w fd reason e o = puts p w fd e (Connect.turned_away reason) o

reach-state : (p : Providers) (w : World) (fd l : ℕ) (options udata : List ℕ) (e le : Endpoint) → endpoint p w fd ≡ Some e → standing_in p (changed p w (Connect.reach fd l options udata e le)) fd ≡ Some (stands T_OUTCON (ocnt e))
reach-state p w fd l options udata e le o = go (not (Connect.is_listening le)) (Connect.is_full le)
  where
    go : (b d : Bool) → standing_in p (changed p w (cond b (at_endpoint fd (Connect.turned_away 1) ∷ []) (cond d (at_endpoint fd (Connect.turned_away 2) ∷ []) (at_endpoint l (Connect.asked fd (address_of e) options udata) ∷ at_endpoint fd (Connect.asking l (le.last_number + 1)) ∷ [])))) fd ≡ Some (stands T_OUTCON (ocnt e))
    go true d = turned-state p w fd 1 e o
    go false true = turned-state p w fd 2 e o
    go false false = sets-after p w fd (moved (λ s. T_OUTCON)) (Connect.asking l (le.last_number + 1)) (standing e) (at_endpoint l (Connect.asked fd (address_of e) options udata) ∷ []) [] (λ x. refl)
        (leaves p fd (at_endpoint l (Connect.asked fd (address_of e) options udata) ∷ []) (steady l (Connect.asked fd (address_of e) options udata) (λ x. refl), tt) w ∙ here p w fd e o) tt

request-state : (p : Providers) (w : World) (fd : ℕ) (options udata : List ℕ) (e : Endpoint) (l : Option Connect.Found) → endpoint p w fd ≡ Some e → standing_in p (changed p w (Connect.request fd options udata e l)) fd ≡ Some (stands T_OUTCON (ocnt e))
request-state p w fd options udata e None o = turned-state p w fd 1 e o
request-state p w fd options udata e (Some l) o = reach-state p w fd l.fd options udata e l.endpoint o

pub request-taken : (p : Providers) (w : World) (fd : ℕ) (address options udata : List ℕ) (e : Endpoint) (l : Option Connect.Found) → endpoint p w fd ≡ Some e → Cleared (Connect.rows address options udata e) → Taken p w fd by_connect e (Connect.request fd options udata e l) (Connect.request fd options udata e l)
request-taken p w fd address options udata e l o c = leads_to p w fd by_connect e (Connect.request fd options udata e l) (Some (stands T_OUTCON (ocnt e))) (request-state p w fd options udata e l o) (connect-row e.state (ocnt e) (un-not (is_state (T_IDLE ∷ []) e) c.1.0))

pub send_release-taken : (p : Providers) (w : World) (fd : ℕ) (udata : List ℕ) (e : Endpoint) → endpoint p w fd ≡ Some e → Cleared (Release.send_rows p udata e) → Taken p w fd by_sndrel e (at_linked fd e.peer (Release.released udata) ++ at_endpoint fd Release.after_send ∷ []) (at_linked fd e.peer (Release.released udata) ++ at_endpoint fd Release.after_send ∷ [])
send_release-taken p w fd udata e o c = leads_to p w fd by_sndrel e (at_linked fd e.peer (Release.released udata) ++ at_endpoint fd Release.after_send ∷ []) (Some (stands (after_sndrel e.state) (ocnt e)))
    (sets-after p w fd (moved after_sndrel) Release.after_send (standing e) (at_linked fd e.peer (Release.released udata)) [] send_release-sets (leaves p fd (at_linked fd e.peer (Release.released udata)) (linked-leave fd fd e.peer (Release.released udata) (λ x. refl)) w ∙ here p w fd e o) tt)
    (sndrel-row e.state (ocnt e) (un-not _ c.1.0))

pub receive_release-taken : (p : Providers) (w : World) (fd umax : ℕ) (e : Endpoint) → endpoint p w fd ≡ Some e → Cleared (Release.receive_rows umax e) → Taken p w fd by_rcvrel e (at_endpoint fd Release.after_receive ∷ []) (at_endpoint fd Release.after_receive ∷ [])
receive_release-taken p w fd umax e o c = leads_to p w fd by_rcvrel e (at_endpoint fd Release.after_receive ∷ []) (Some (stands (after_rcvrel e.state) (ocnt e)))
    (sets-after p w fd (moved after_rcvrel) Release.after_receive (standing e) [] [] receive_release-sets (here p w fd e o) tt) (rcvrel-row e.state (ocnt e) (un-not _ c.1.0))

pub receive_disconnect-taken : (K : Type 0) (p : Providers) (w : World) (fd umax : ℕ) (e : Endpoint) → (K → OldestIsOutstanding e) → endpoint p w fd ≡ Some e → Cleared (Disconnect.receive_rows umax e)
    → TakenIf K p w fd by_rcvdis e (at_endpoint fd Disconnect.received ∷ []) (at_endpoint fd Disconnect.received ∷ [])
receive_disconnect-taken K p w fd umax e h o c =
    let r = rcvdis-row e.state (ocnt e) (un-not (is_state connected_or_asking e) c.1.0) in
    record {
      after = Some (standing (Disconnect.received e));
      row = λ i. ap (is_in_table by_rcvdis e.state (ocnt e)) (disconnect-state e) ∙ r.0 i;
      count = λ k. disconnect-count e (λ i. h k i (un-not (some_wait e.disconnects) c.1.1.0)) ∙ r.1;
      changes = puts p w fd e Disconnect.received o;
      lost = puts p w fd e Disconnect.received o;
    }

-- the indication that is found is taken out by its own number
taken_out-count : (number : ℕ) (i : Indication) (e : Endpoint) → find_number number e.outstanding ≡ Some i → ocnt (Listen.taken_out i.number e) ≡ ocnt e - 1
taken_out-count number i e k = length-without i.number e.outstanding (found-again number i e.outstanding k)

pub send_disconnect-taken : (p : Providers) (w : World) (fd number : ℕ) (udata : List ℕ) (e : Endpoint) → endpoint p w fd ≡ Some e → Cleared (Disconnect.send_rows number udata e) → Taken p w fd by_snddis e (Disconnect.send_changes fd number udata e) (Disconnect.send_changes fd number udata e)
send_disconnect-taken p w fd number udata e o c = go (Disconnect.is_asked e) refl (find_number number e.outstanding) refl c.1.1.0
  where
    go : (b : Bool) → Disconnect.is_asked e ≡ b → (f : Option Indication) → find_number number e.outstanding ≡ f → (b && is_none f) ≡ false
        → Taken p w fd by_snddis e (cond b (Disconnect.reject fd udata f) (break fd e 4 udata ++ at_endpoint fd Disconnect.idle ∷ [])) (cond b (Disconnect.reject fd udata f) (break fd e 4 udata ++ at_endpoint fd Disconnect.idle ∷ []))
    go true h None k j = absurd (false≢true (sym j))
    go true h (Some i) k j = own p w fd by_snddis e (Listen.taken_out i.number) (at_endpoint i.caller (Disconnect.rejected udata) ∷ []) o (steady i.caller (Disconnect.rejected udata) (λ x. refl), tt)
        (let r = reject-row e.state (ocnt e) h (found-some number e.outstanding (ap is_some k)) in (r.0, taken_out-count number i e k ∙ r.1))
    go false h f k j = leads_to p w fd by_snddis e (break fd e 4 udata ++ at_endpoint fd Disconnect.idle ∷ []) (Some (stands T_IDLE (ocnt e)))
        (sets-after p w fd (moved (λ s. T_IDLE)) Disconnect.idle (standing e) (break fd e 4 udata) [] (λ x. refl) (leaves p fd (break fd e 4 udata) (break-leave fd fd e 4 udata) w ∙ here p w fd e o) tt)
        (snddis-row e.state (ocnt e) (un-not (is_state connected_or_asking e) c.1.0) h)

pub bind_like-leave : (x : ℕ) (e : Endpoint) (resfd : ℕ) (r : Endpoint) → AllLeave x (Listen.bind_like e resfd r)
bind_like-leave x e resfd r = go (is_state (T_UNBND ∷ []) r)
  where
    go : (b : Bool) → AllLeave x (cond b (at_endpoint resfd (Listen.bound_like e) ∷ at_switch (give_address r.prov (address_of e) resfd false) ∷ []) [])
    go true = (steady resfd (Listen.bound_like e) (bound_like-steady e), (in_switch (give_address r.prov (address_of e) resfd false), tt))
    go false = tt

-- another endpoint responds: the listener loses the indication
there-state : (p : Providers) (w : World) (fd resfd : ℕ) (i : Indication) (options udata : List ℕ) (e r : Endpoint) → eqb fd resfd ≡ false → endpoint p w fd ≡ Some e → standing_in p (changed p w (Listen.accept_changes fd resfd i options udata e r)) fd ≡ Some (standing (Listen.taken_out i.number e))
there-state p w fd resfd i options udata e r h o = puts-first p w fd e (Listen.taken_out i.number) (Listen.bind_like e resfd r ++ Listen.linking resfd i (address_of (Listen.bound_like e r)) options udata) o
    (append-leave fd (Listen.bind_like e resfd r) (Listen.linking resfd i (address_of (Listen.bound_like e r)) options udata) (bind_like-leave fd e resfd r)
    (elsewhere resfd (Listen.responding i) h, (steady i.caller (Listen.accepted resfd (address_of (Listen.bound_like e r)) options udata) (λ x. refl), tt)))

-- the responding endpoint is connected
responding-state : (p : Providers) (w : World) (fd resfd : ℕ) (i : Indication) (options udata : List ℕ) (e r : Endpoint) (s : Standing) → standing_in p (changed p w (at_endpoint fd (Listen.taken_out i.number) ∷ [])) resfd ≡ Some s → standing_in p (changed p w (Listen.accept_changes fd resfd i options udata e r)) resfd ≡ Some (stands T_DATAXFER s.count)
responding-state p w fd resfd i options udata e r s h =
    sets-after p w resfd (moved (λ x. T_DATAXFER)) (Listen.responding i) s (at_endpoint fd (Listen.taken_out i.number) ∷ Listen.bind_like e resfd r) (at_endpoint i.caller (Listen.accepted resfd (address_of (Listen.bound_like e r)) options udata) ∷ []) (λ x. refl)
    (leaves p resfd (Listen.bind_like e resfd r) (bind_like-leave resfd e resfd r) (changed p w (at_endpoint fd (Listen.taken_out i.number) ∷ [])) ∙ h)
    (steady i.caller (Listen.accepted resfd (address_of (Listen.bound_like e r)) options udata) (λ x. refl), tt)

here-state : (p : Providers) (w : World) (fd resfd : ℕ) (i : Indication) (options udata : List ℕ) (e r : Endpoint) → eqb fd resfd ≡ true → endpoint p w fd ≡ Some e → standing_in p (changed p w (Listen.accept_changes fd resfd i options udata e r)) fd ≡ Some (stands T_DATAXFER (ocnt (Listen.taken_out i.number e)))
here-state p w fd resfd i options udata e r h o =
    subst (λ z. standing_in p (changed p w (Listen.accept_changes fd z i options udata e r)) fd ≡ Some (stands T_DATAXFER (ocnt (Listen.taken_out i.number e)))) (eqb-true fd resfd h)
    (responding-state p w fd fd i options udata e r (standing (Listen.taken_out i.number e)) (puts p w fd e (Listen.taken_out i.number) o))

pub accept-taken : (p : Providers) (w : World) (fd resfd number : ℕ) (options udata : List ℕ) (e : Endpoint) (r : Option Endpoint) → endpoint p w fd ≡ Some e → Cleared (Listen.accept_with p fd resfd number options udata e r).rows
    → Taken p w fd (cond (eqb fd resfd) by_accept_here by_accept_there) e (Listen.accept_with p fd resfd number options udata e r).changes (Listen.accept_with p fd resfd number options udata e r).lost
accept-taken p w fd resfd number options udata e None o c = absurd (false≢true (sym c.0))
accept-taken p w fd resfd number options udata e (Some r) o c = go (eqb fd resfd) refl (find_number number e.outstanding) refl c.1.1.1.1.0 c.1.1.1.1.1.0
  where
    in_incon : is_state (T_INCON ∷ []) e ≡ true
    in_incon = un-not (is_state (T_INCON ∷ []) e) c.1.0

    go : (b : Bool) → eqb fd resfd ≡ b → (f : Option Indication) → find_number number e.outstanding ≡ f → is_none f ≡ false → (b && nat_lt 1 (ocnt e)) ≡ false
        → Taken p w fd (cond b by_accept_here by_accept_there) e (Listen.accept_found fd resfd f options udata e r) (Listen.accept_found fd resfd f options udata e r)
    go b h None k j l = absurd (false≢true (sym j))
    go true h (Some i) k j l = leads_to p w fd by_accept_here e (Listen.accept_changes fd resfd i options udata e r) (Some (stands T_DATAXFER (ocnt (Listen.taken_out i.number e)))) (here-state p w fd resfd i options udata e r h o)
        (let t = accept_here-row e.state (ocnt e) in_incon (found-some number e.outstanding (ap is_some k)) l in (t.0, taken_out-count number i e k ∙ t.1))
    go false h (Some i) k j l = leads_to p w fd by_accept_there e (Listen.accept_changes fd resfd i options udata e r) (Some (standing (Listen.taken_out i.number e))) (there-state p w fd resfd i options udata e r h o)
        (let t = accept_there-row e.state (ocnt e) in_incon (found-some number e.outstanding (ap is_some k)) in (t.0, taken_out-count number i e k ∙ t.1))

-- where another endpoint responds, it is connected and keeps its count
passed-standing : (p : Providers) (w : World) (fd resfd : ℕ) (i : Indication) (options udata : List ℕ) (e r : Endpoint) → endpoint p w resfd ≡ Some r → eqb resfd fd ≡ false → standing_in p (changed p w (Listen.accept_changes fd resfd i options udata e r)) resfd ≡ Some (stands T_DATAXFER (ocnt r))
passed-standing p w fd resfd i options udata e r h n =
    responding-state p w fd resfd i options udata e r (standing r) (leaves p resfd (at_endpoint fd (Listen.taken_out i.number) ∷ []) (elsewhere fd (Listen.taken_out i.number) n, tt) w ∙ here p w resfd r h)

-- for every effect of the plan
pub passed-taken : (p : Providers) (w : World) (fd resfd number : ℕ) (options udata : List ℕ) (e : Endpoint) (o : Option Endpoint) → endpoint p w resfd ≡ o → eqb resfd fd ≡ false → Cleared (Listen.accept_with p fd resfd number options udata e o).rows
    → is_in_table passed (state_at p w resfd) (ocnt_of (endpoint p w resfd)) (state_at p (changed p w (Listen.accept_with p fd resfd number options udata e o).changes) resfd) ≡ true
passed-taken p w fd resfd number options udata e None h n c = absurd (false≢true (sym c.0))
passed-taken p w fd resfd number options udata e (Some r) h n c = go (find_number number e.outstanding) c.1.1.1.1.0
  where
    fits : is_state (T_UNBND ∷ T_IDLE ∷ []) r ≡ true
    fits = un-not (is_state (T_UNBND ∷ T_IDLE ∷ []) r) (ap (λ b. not b && not (is_state (T_UNBND ∷ T_IDLE ∷ []) r)) (sym (ne_eqb fd resfd (λ i. eqb-false resfd fd n (sym i)))) ∙ c.1.1.1.0)

    go : (f : Option Indication) → is_none f ≡ false → is_in_table passed (state_at p w resfd) (ocnt_of (endpoint p w resfd)) (state_at p (changed p w (Listen.accept_found fd resfd f options udata e r)) resfd) ≡ true
    go None j = absurd (false≢true (sym j))
    go (Some i) j =
        ap (λ x. is_in_table passed (state_of x) (ocnt_of x) (state_at p (changed p w (Listen.accept_changes fd resfd i options udata e r)) resfd)) h ∙
        (ap (is_in_table passed r.state (ocnt r)) (told-state (endpoint p (changed p w (Listen.accept_changes fd resfd i options udata e r)) resfd) ∙ ap (λ x. (unwrap_or x closed).state) (passed-standing p w fd resfd i options udata e r h n)) ∙
        passed-row r.state (ocnt r) fits)

pub passed-count : (p : Providers) (w : World) (fd resfd number : ℕ) (options udata : List ℕ) (e : Endpoint) (o : Option Endpoint) → endpoint p w resfd ≡ o → eqb resfd fd ≡ false
    → ocnt_of (endpoint p (changed p w (Listen.accept_with p fd resfd number options udata e o).changes) resfd) ≡ ocnt_of (endpoint p w resfd)
passed-count p w fd resfd number options udata e None h n = refl
passed-count p w fd resfd number options udata e (Some r) h n = go (find_number number e.outstanding)
  where
    go : (f : Option Indication) → ocnt_of (endpoint p (changed p w (Listen.accept_found fd resfd f options udata e r)) resfd) ≡ ocnt_of (endpoint p w resfd)
    go None = refl
    go (Some i) = told-count (endpoint p (changed p w (Listen.accept_changes fd resfd i options udata e r)) resfd) ∙ (ap (λ x. (unwrap_or x closed).count) (passed-standing p w fd resfd i options udata e r h n) ∙ ap ocnt_of (sym h))
