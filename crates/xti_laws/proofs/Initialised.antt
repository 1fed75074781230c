-- No open endpoint is ever in T_UNINIT.
use Rattle.std.proofs.Common.{ℕ, zero, suc, Bool, true, false, List, [], ◌∷◌, ◌++◌, ◌+◌, ◌≡◌, refl, ap, ◌∙◌, cond, not, eqb, Some, None}
use Rattle.std.specs.Prelude.{option_and_then}
use Rattle.std.specs.List.{list_any}
use Rattle.xti_base.specs.Kinds.{same_state}
use Rattle.xti_base.specs.declared.kinds.State.{State}
use Rattle.xti_base.specs.declared.kinds.State.TheVariants.{T_UNINIT, T_IDLE, T_OUTREL, T_INREL, T_DATAXFER, T_INCON}
use Rattle.xti_model.specs.declared.entry.Entry.{Entry}
use Rattle.xti_model.specs.declared.profile.Providers.{Providers}
use Rattle.xti_model.specs.Endpoint.{Endpoint, ocnt}
use Rattle.xti_model.specs.World.{World, Cell, endpoint_cell, switch_cell, change_endpoint, cell_at, endpoint, endpoint_in, generation_of, place_of, closed_places, places, opening, opening_switch, switch_number}
use Rattle.xti_model.specs.Links.{names, if_names}
use Rattle.xti_model.specs.History.{after}
use Rattle.xti_laws.specs.Laws.{AllCells, Keeps}
use Rattle.xti_laws.specs.States.{is_initialised, is_initialised_cell}
use Rattle.xti_laws.specs.Updates.{Update, updates, updates_peer, opens, closes, switches, binds, unbinds, is_asked, is_asking, is_turned_away, confirms, listens, loses_indication, binds_like, responds, is_accepted, marks_flow, sends, gets_symbols, reads, breaks, takes_back, is_given_up, is_rejected, idles, reads_disconnect, is_released, releases, reads_release, marks_datagram, gets_datagram, gets_error, reads_datagram, drops_datagram, reads_error, is_shown, changes_mode, changes_settings}
use Rattle.xti_laws.proofs.KeptCells.{after_from-kept}
use Rattle.xti_laws.proofs.SteadyUpdates.{after_sndrel, after_rcvrel, after_rcvdis, after_last, mark_flow-steady, sent-steady, symbols-steady, received-steady, taken_back-steady, given_up-steady, bound_like-steady, datagram-steady, shown-steady, send_release-sets, receive_release-sets, disconnect-state}

abbrev Begun : State → Type 0
Begun s = not (same_state s T_UNINIT) ≡ true

same : (s t : State) → s ≡ t → Begun t → Begun s
same s t i h = ap (λ z. not (same_state z T_UNINIT)) i ∙ h

last-begun : (b : Bool) (s : State) → Begun s → Begun (cond b T_IDLE s)
last-begun true s h = refl
last-begun false s h = h

choice-begun : (b : Bool) (s t : State) → Begun s → Begun t → Begun (cond b s t)
choice-begun true s t h k = h
choice-begun false s t h k = k

-- each update leads from begun to begun
update-begun : (f : Endpoint → Endpoint) → Update f → (e : Endpoint) → Begun e.state → Begun (f e).state
update-begun _ (binds address qlen prov) e h = refl
update-begun _ unbinds e h = refl
update-begun _ (is_asked caller address options udata) e h = h
update-begun _ (is_asking listener number) e h = refl
update-begun _ (is_turned_away reason) e h = refl
update-begun _ confirms e h = refl
update-begun _ listens e h = refl
update-begun _ (loses_indication number) e h = last-begun (eqb (ocnt e) 1) e.state h
update-begun _ (binds_like listener) e h = same _ e.state (ap (λ v. v.state) (bound_like-steady listener e)) h
update-begun _ (responds i) e h = refl
update-begun _ (is_accepted resfd address options udata) e h = h
update-begun _ (marks_flow expedited on) e h = same _ e.state (ap (λ v. v.state) (mark_flow-steady expedited on e)) h
update-begun _ (sends p expedited ends now) e h = same _ e.state (ap (λ v. v.state) (sent-steady p expedited ends now e)) h
update-begun _ (gets_symbols expedited symbols) e h = same _ e.state (ap (λ v. v.state) (symbols-steady expedited symbols e)) h
update-begun _ (reads p max) e h = same _ e.state (ap (λ v. v.state) (received-steady p max e)) h
update-begun _ (breaks reason udata) e h = h
update-begun _ (takes_back number reason udata) e h = same _ e.state (ap (λ v. v.state) (taken_back-steady number reason udata e)) h
update-begun _ (is_given_up listener number) e h = same _ e.state (ap (λ v. v.state) (given_up-steady listener number e)) h
update-begun _ (is_rejected udata) e h = h
update-begun _ idles e h = refl
update-begun _ reads_disconnect e h = same _ (after_rcvdis (ocnt e) e.state) (disconnect-state e) (choice-begun (list_any (same_state e.state) (T_INCON ∷ [])) (after_last (ocnt e) e.state) T_IDLE (last-begun (eqb (ocnt e) 1) e.state h) refl)
update-begun _ (is_released udata) e h = h
update-begun _ releases e h = same _ (after_sndrel e.state) (ap (λ v. v.state) (send_release-sets e)) (choice-begun (list_any (same_state e.state) (T_DATAXFER ∷ [])) T_OUTREL T_IDLE refl refl)
update-begun _ reads_release e h = same _ (after_rcvrel e.state) (ap (λ v. v.state) (receive_release-sets e)) (choice-begun (list_any (same_state e.state) (T_DATAXFER ∷ [])) T_INREL T_IDLE refl refl)
update-begun _ (marks_datagram to) e h = h
update-begun _ (gets_datagram d) e h = h
update-begun _ (gets_error d) e h = h
update-begun _ (reads_datagram max) e h = same _ e.state (ap (λ v. v.state) (datagram-steady max e)) h
update-begun _ drops_datagram e h = h
update-begun _ reads_error e h = h
update-begun _ (is_shown event) e h = same _ e.state (ap (λ v. v.state) (shown-steady event e)) h
update-begun _ (changes_mode nonblock) e h = h
update-begun _ (changes_settings s) e h = h

named-begun : (fd : ℕ) (f : Endpoint → Endpoint) → ((e : Endpoint) → Begun e.state → Begun (f e).state) → (e : Endpoint) → Begun e.state → Begun (if_names fd f e).state
named-begun fd f k e h = go (names fd e.peer)
  where
    go : (b : Bool) → Begun (cond b (f e) e).state
    go true = k e h
    go false = h

cell-begun : (fd : ℕ) (p : Providers) (f : Endpoint → Endpoint) → ((e : Endpoint) → Begun e.state → Begun (f e).state) → (x : Cell) → is_initialised_cell x ≡ true → is_initialised_cell (change_endpoint (generation_of p fd) f x) ≡ true
cell-begun fd p f k (switch_cell s) h = refl
cell-begun fd p f k (endpoint_cell g None) h = refl
cell-begun fd p f k (endpoint_cell g (Some e)) h = go (eqb g (generation_of p fd))
  where
    go : (b : Bool) → Begun (cond b (f e) e).state
    go true = k e h
    go false = h

kind-begun : (p : Providers) → Keeps p (λ cell. is_initialised_cell cell ≡ true)
kind-begun p c (updates fd f u) x h = cell-begun fd p f (update-begun f u) x h
kind-begun p c (updates_peer fd peer f u) x h = cell-begun peer p (if_names fd f) (named-begun fd f (update-begun f u)) x h
kind-begun p c (switches f u) (endpoint_cell g body) h = h
kind-begun p c (switches f u) (switch_cell s) h = refl
kind-begun p c (opens place profile prov nonblock) (endpoint_cell g None) h = refl
kind-begun p c (opens place profile prov nonblock) (endpoint_cell g (Some e)) h = h
kind-begun p c (opens place profile prov nonblock) (switch_cell s) h = refl
kind-begun p c (closes fd) (switch_cell s) h = refl
kind-begun p c (closes fd) (endpoint_cell g None) h = refl
kind-begun p c (closes fd) (endpoint_cell g (Some e)) h = go (eqb g (generation_of p fd))
  where
    go : (b : Bool) → is_initialised_cell (cond b (endpoint_cell (g + 1) None) (endpoint_cell g (Some e))) ≡ true
    go true = refl
    go false = h

closed-begun : (from n : ℕ) (w : World) → AllCells (λ cell. is_initialised_cell cell ≡ true) w → AllCells (λ cell. is_initialised_cell cell ≡ true) (closed_places from n ++ w)
closed-begun from zero w h = h
closed-begun from (suc n) w h = (refl, closed-begun (from + 1) n w h)

in-begun : (g : ℕ) (c : Cell) → is_initialised_cell c ≡ true → is_initialised (endpoint_in g c) ≡ true
in-begun g (switch_cell s) h = refl
in-begun g (endpoint_cell m None) h = go (eqb m g)
  where
    go : (b : Bool) → is_initialised (cond b None None) ≡ true
    go true = refl
    go false = refl
in-begun g (endpoint_cell m (Some e)) h = go (eqb m g)
  where
    go : (b : Bool) → is_initialised (cond b (Some e) None) ≡ true
    go true = h
    go false = refl

endpoint-begun : (p : Providers) (fd : ℕ) (w : World) → AllCells (λ cell. is_initialised_cell cell ≡ true) w → is_initialised (endpoint p w fd) ≡ true
endpoint-begun p fd [] h = refl
endpoint-begun p fd (c ∷ w) h = go (eqb c.number (place_of p fd)) (endpoint-begun p fd w h.1)
  where
    go : (b : Bool) → is_initialised (endpoint p w fd) ≡ true → is_initialised (option_and_then (λ z. endpoint_in (generation_of p fd) z.cell) (cond b (Some c) (cell_at w (place_of p fd)))) ≡ true
    go true k = in-begun (generation_of p fd) c.cell h.0
    go false k = k

pub after-initialised : (p : Providers) (entries : List Entry) (fd : ℕ) → is_initialised (endpoint p (after p entries) fd) ≡ true
unfolding opening
after-initialised p entries fd = endpoint-begun p fd (after p entries) (after_from-kept p (λ cell. is_initialised_cell cell ≡ true) (kind-begun p) (opening p) [] entries (closed-begun 0 (places p) (record { number = switch_number p; cell = switch_cell (opening_switch (places p)) } ∷ []) (refl, tt)))
