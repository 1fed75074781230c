-- An endpoint is of the provider that its open named.
use Rattle.std.proofs.Common.{ℕ, Bool, true, false, List, [], ◌∷◌, ◌++◌, Option, Some, None, ◌≡◌, ◌∙◌, ◌+◌, ◌<◌, ◌≤◌, ◌||◌, refl, sym, ap, subst, eqb, cond, arith}
use Rattle.std.proofs.lemmas.Bool.{eqb-true, false≢true}
use Rattle.std.specs.Prelude.{drop, is_some, option_and_then}
use Rattle.xti_base.specs.declared.kinds.Event.{Event}
use Rattle.xti_base.specs.declared.kinds.Event.TheVariants.{T_GODATA, T_GOEXDATA}
use Rattle.xti_base.specs.declared.kinds.Fd.{Fd}
use Rattle.xti_base.specs.declared.kinds.Prov.{Prov}
use Rattle.xti_base.specs.declared.kinds.Prov.TheVariants.{Ticotsord}
use Rattle.xti_base.specs.declared.kinds.State.TheVariants.{T_UNBND, T_DATAXFER, T_OUTREL, T_INREL}
use Rattle.xti_model.specs.declared.call.Call.TheVariants.{TOpen}
use Rattle.xti_model.specs.declared.entry.Act.{Act}
use Rattle.xti_model.specs.declared.entry.Act.TheVariants as act
use Rattle.xti_model.specs.declared.entry.Entry.{Entry}
use Rattle.xti_model.specs.declared.entry.Outcome.{Outcome}
use Rattle.xti_model.specs.declared.entry.Outcome.TheVariants.{Done}
use Rattle.xti_model.specs.declared.entry.Reply.TheVariants.{Opened}
use Rattle.xti_model.specs.declared.profile.Providers.{Providers}
use Rattle.xti_model.specs.Endpoint.{Endpoint, address_of, disconnected, find_number, is_target, opened, without_number}
use Rattle.xti_model.specs.Events.{is_state, some_wait}
use Rattle.xti_model.specs.History.{Fits, Going, Legal, LegalFrom, after, after_from, doing, left_by, step_at, step_going}
use Rattle.xti_model.specs.Links.{if_names, names}
use Rattle.xti_model.specs.Profile.{valid}
use Rattle.xti_model.specs.Provider.{profile}
use Rattle.xti_model.specs.Step.{Step, step}
use Rattle.xti_model.specs.Switch.{mark_open, place_at}
use Rattle.xti_model.specs.Symbols.{rest}
use Rattle.xti_model.specs.World.{World, Cell, Numbered, endpoint_cell, switch_cell, at_switch, cell_at, change, change_endpoint, changed, endpoint, endpoint_in, generation_of, descriptor, open_cell, opening, opens_place, place_of, places, the_switch}
use Rattle.xti_model.specs.Calls.Datagrams as Datagrams
use Rattle.xti_model.specs.Calls.Disconnect as Disconnect
use Rattle.xti_model.specs.Calls.Listen as Listen
use Rattle.xti_model.specs.Calls.Receive as Receive
use Rattle.xti_model.specs.Calls.Send as Send
use Rattle.xti_model.specs.Calls.Show as Show
use Rattle.xti_laws.specs.Laws.{Keeps}
use Rattle.xti_laws.specs.Updates.{Update, updates, updates_peer, opens, closes, switches, binds_like, marks_flow, sends, gets_symbols, reads, takes_back, is_given_up, reads_disconnect, releases, reads_release, reads_datagram, is_shown}
use Rattle.xti_laws.proofs.ChangedEndpoints.{switch-other}
use Rattle.xti_laws.proofs.Opening as Opening
use Rattle.xti_laws.specs.Invariant.{SoundWorld}
use Rattle.xti_laws.proofs.Beginning.{opening-sound}
use Rattle.xti_laws.proofs.SoundSteps.{step-sound}
use Rattle.xti_sock.specs.Streams.{is_opened, opens_at, opens_it, was_opened}
use Rattle.xti_sock.proofs.KeptAt.{IfThere, HoldsAt, OfKinds, after-at}
use Rattle.xti_sock.proofs.OpenedOnce.{OpensPlace, both, fits-begun, opens-place, place-closed}

-- ---- updates leave the provider

abbrev KeepsProv : (Endpoint → Endpoint) → Type 0
KeepsProv f = (e : Endpoint) → (f e).prov ≡ e.prov

choice : (b : Bool) (x y e : Endpoint) → x.prov ≡ e.prov → y.prov ≡ e.prov → (cond b x y).prov ≡ e.prov
choice true x y e h k = h
choice false x y e h k = k

flow-prov : (expedited on : Bool) → KeepsProv (Send.mark_flow expedited on)
flow-prov true on e = refl
flow-prov false on e = refl

sent-prov : (p : Providers) (expedited ends : Bool) (now : ℕ) → KeepsProv (Send.sent p expedited ends now)
sent-prov p true ends now e = refl
sent-prov p false ends now e = refl

symbols-prov : (expedited : Bool) (symbols : List ℕ) → KeepsProv (Send.received expedited symbols)
symbols-prov true l e = refl
symbols-prov false l e = refl

shown-prov : (o : Option Event) → KeepsProv (Show.shown o)
shown-prov None e = refl
shown-prov (Some T_GODATA) e = refl
shown-prov (Some T_GOEXDATA) e = refl
shown-prov (Some other) e = refl

update-prov : (f : Endpoint → Endpoint) → Update f → KeepsProv f
update-prov _ (binds_like listener) e = choice (is_state (T_UNBND ∷ []) e) (record e { address = Some (address_of listener); qlen = 0 }) e e refl refl
update-prov _ (marks_flow expedited on) e = flow-prov expedited on e
update-prov _ (sends p expedited ends now) e = sent-prov p expedited ends now e
update-prov _ (gets_symbols expedited symbols) e = symbols-prov expedited symbols e
update-prov _ (reads p max) e = choice (some_wait e.expedited) (record e { expedited = rest max e.expedited; mid_expedited = Receive.goes_on p true max e }) (record e { normal = rest max e.normal }) e refl refl
update-prov _ (takes_back n reason udata) e =
    choice (is_some (find_number n e.pending)) (record e { pending = without_number n e.pending }) (cond (is_some (find_number n e.outstanding)) (disconnected reason n udata e) e) e refl
    (choice (is_some (find_number n e.outstanding)) (disconnected reason n udata e) e e refl refl)
update-prov _ (is_given_up fd n) e = choice (is_target fd n e.target) (record (disconnected 5 0 [] e) { target = None }) e e refl refl
update-prov _ reads_disconnect e = choice (Disconnect.is_asked e) (record (Listen.taken_out (Disconnect.oldest e).number e) { disconnects = drop 1 e.disconnects }) (Disconnect.idle e) e refl refl
update-prov _ releases e = choice (is_state (T_DATAXFER ∷ []) e) (record e { state = T_OUTREL }) (Disconnect.idle e) e refl refl
update-prov _ reads_release e = choice (is_state (T_DATAXFER ∷ []) e) (record e { release = None; state = T_INREL }) (Disconnect.idle e) e refl refl
update-prov _ (reads_datagram max) e = choice (Datagrams.has_rest max (Datagrams.first_of e)) (record e { datagrams = Datagrams.shortened max (Datagrams.first_of e) ∷ drop 1 e.datagrams; begun = true }) (Datagrams.dropped e) e refl refl
update-prov _ (is_shown event) e = shown-prov event e
update-prov _ u e = refl

peer-prov : (fd : ℕ) (f : Endpoint → Endpoint) → KeepsProv f → KeepsProv (if_names fd f)
peer-prov fd f h e = choice (names fd e.peer) (f e) e e (h e) refl

-- ---- a place that was opened with a generation, for the provider

-- it is open with that one, for the provider, or with a later one, or closed with a later one
abbrev pub OpenAs : Prov → ℕ → Cell → Type 0
OpenAs prov m (endpoint_cell g None) = m < g
OpenAs prov m (endpoint_cell g (Some e)) = (m ≤ g) × (g ≡ m → e.prov ≡ prov)
OpenAs prov m (switch_cell s) = Unit {0}

updated-as : (prov : Prov) (m g : ℕ) (f : Endpoint → Endpoint) → KeepsProv f → (x : Cell) → OpenAs prov m x → OpenAs prov m (change_endpoint g f x)
updated-as prov m g f k (switch_cell s) h = h
updated-as prov m g f k (endpoint_cell n None) h = h
updated-as prov m g f k (endpoint_cell n (Some e)) h = (h.0, λ i. choice (eqb n g) (f e) e e (k e) refl ∙ h.1 i)

kind-as : (prov : Prov) (p : Providers) (m : ℕ) → Keeps p (OpenAs prov m)
kind-as prov p m c (updates fd f u) x h = updated-as prov m (generation_of p fd) f (update-prov f u) x h
kind-as prov p m c (updates_peer fd peer f u) x h = updated-as prov m (generation_of p peer) (if_names fd f) (peer-prov fd f (update-prov f u)) x h
kind-as prov p m c (switches f u) (endpoint_cell g body) h = h
kind-as prov p m c (switches f u) (switch_cell s) h = h
kind-as prov p m c (opens place profile named nonblock) (endpoint_cell g None) h = (omega (arith, h), λ i. absurd (omega (arith, h, i)))
kind-as prov p m c (opens place profile named nonblock) (endpoint_cell g (Some e)) h = h
kind-as prov p m c (opens place profile named nonblock) (switch_cell s) h = h
kind-as prov p m c (closes fd) (switch_cell s) h = h
kind-as prov p m c (closes fd) (endpoint_cell g None) h = h
kind-as prov p m c (closes fd) (endpoint_cell g (Some e)) h = by (eqb g (generation_of p fd))
  where
    by : (b : Bool) → OpenAs prov m (cond b (endpoint_cell (g + 1) None) (endpoint_cell g (Some e)))
    by true = omega (arith, h.0)
    by false = h

-- an endpoint that is open with the descriptor
cell-as : (prov : Prov) (m : ℕ) (x : Cell) (e : Endpoint) → endpoint_in m x ≡ Some e → e.prov ≡ prov → OpenAs prov m x
cell-as prov m (switch_cell s) e h k = tt
cell-as prov m (endpoint_cell g None) e h k = by (eqb g m) h
  where
    by : (b : Bool) → cond {A = Option Endpoint} b None None ≡ Some e → m < g
    by true i = absurd (cc i)
    by false i = absurd (cc i)
cell-as prov m (endpoint_cell g (Some y)) e h k = by (eqb g m) refl h
  where
    by : (b : Bool) → eqb g m ≡ b → cond {A = Option Endpoint} b (Some y) None ≡ Some e → (m ≤ g) × (g ≡ m → y.prov ≡ prov)
    by true i j =
        let q = eqb-true g m i in
        let same : y ≡ e = cc j in
        (omega (arith, q), λ _. ap (λ (z : Endpoint). z.prov) same ∙ k)
    by false i j = absurd (cc j)

open-as : (prov : Prov) (p : Providers) (w : World) (fd : ℕ) (e : Endpoint) → endpoint p w fd ≡ Some e → e.prov ≡ prov → HoldsAt (OpenAs prov (generation_of p fd)) (place_of p fd) w
open-as prov p w fd e h k = by (cell_at w (place_of p fd)) h
  where
    by : (o : Option Numbered) → option_and_then (λ c. endpoint_in (generation_of p fd) c.cell) o ≡ Some e → IfThere (OpenAs prov (generation_of p fd)) o
    by None i = tt
    by (Some c) i = cell-as prov (generation_of p fd) c.cell e i k

-- is of that provider
as-prov : (prov : Prov) (m : ℕ) (x : Cell) (e : Endpoint) → endpoint_in m x ≡ Some e → OpenAs prov m x → e.prov ≡ prov
as-prov prov m (switch_cell s) e h k = absurd (cc h)
as-prov prov m (endpoint_cell g None) e h k = by (eqb g m) h
  where
    by : (b : Bool) → cond {A = Option Endpoint} b None None ≡ Some e → e.prov ≡ prov
    by true i = absurd (cc i)
    by false i = absurd (cc i)
as-prov prov m (endpoint_cell g (Some y)) e h k = by (eqb g m) refl h
  where
    by : (b : Bool) → eqb g m ≡ b → cond {A = Option Endpoint} b (Some y) None ≡ Some e → e.prov ≡ prov
    by true i j =
        let same : e ≡ y = cc j in
        ap (λ (z : Endpoint). z.prov) same ∙ k.1 (eqb-true g m i)
    by false i j = absurd (cc j)

held-prov : (prov : Prov) (p : Providers) (w : World) (fd : ℕ) (e : Endpoint) → HoldsAt (OpenAs prov (generation_of p fd)) (place_of p fd) w → endpoint p w fd ≡ Some e → e.prov ≡ prov
held-prov prov p w fd e h k = by (cell_at w (place_of p fd)) k h
  where
    by : (o : Option Numbered) → option_and_then (λ c. endpoint_in (generation_of p fd) c.cell) o ≡ Some e → IfThere (OpenAs prov (generation_of p fd)) o → e.prov ≡ prov
    by None i j = absurd (cc i)
    by (Some c) i j = as-prov prov (generation_of p fd) c.cell e i j

-- ---- histories

-- the open makes it so
opened-as : (p : Providers) (w : World) (fd : Fd) (nonblock : Bool) (s : Step) → SoundWorld p w → OpensPlace p w Ticotsord nonblock fd s → HoldsAt (OpenAs Ticotsord (generation_of p fd.0)) (place_of p fd.0) s.world
opened-as p w fd nonblock s h o = open-as Ticotsord p s.world fd.0 e there refl
  where
    e : Endpoint
    e = opened (profile p Ticotsord) Ticotsord nonblock

    n : ℕ
    n = o.place

    g : ℕ
    g = (place_at (the_switch p w) n).generation

    below : n < places p
    below = (place-closed p w Ticotsord nonblock fd s h.registered.agreement o).0

    closed : Opening.Closed w n g
    closed = (place-closed p w Ticotsord nonblock fd s h.registered.agreement o).1

    there : endpoint p s.world fd.0 ≡ Some e
    there =
        ap (λ (v : World). endpoint p v fd.0) o.world_is ∙ (ap (endpoint p (changed p w (opens_place n e ∷ at_switch (mark_open n) ∷ []))) o.fd_is ∙
        (switch-other p (mark_open n) (descriptor p g n) (change n (open_cell e) w) ∙ Opening.after p w g n e below closed))

opened-begun : (fd : Fd) (a : Act) → opens_it a ≡ true → (nonblock : Bool) × (a ≡ act.Begin (TOpen Ticotsord nonblock))
opened-begun fd (act.Begin (TOpen Ticotsord nonblock)) h = (nonblock, refl)
opened-begun fd (act.Begin (TOpen prov nonblock)) h = absurd (false≢true h)
opened-begun fd a h = absurd (false≢true h)

opened-done : (fd : Fd) (o : Outcome) → is_opened fd o ≡ true → o ≡ Done (Opened fd)
opened-done fd (Done (Opened other)) h = ap (λ (n : ℕ). Done (Opened (record { 0 = n }))) (sym (eqb-true fd.0 other.0 h))
opened-done fd o h = absurd (false≢true h)

next-sound : (p : Providers) → valid p ≡ true → (w : World) (o : Option Going) → SoundWorld p w → SoundWorld p (left_by w (option_and_then (step_going p w) o))
next-sound p v w None h = h
next-sound p v w (Some g) h = by (step p w g.call g.so_far) refl
  where
    by : (o : Option Step) → step p w g.call g.so_far ≡ o → SoundWorld p (left_by w o)
    by None i = h
    by (Some s) i = step-sound p w g.call g.so_far s v h i

opened-here : (p : Providers) (fd : Fd) (w : World) (past : List Entry) (e : Entry) → SoundWorld p w → opens_at fd e ≡ true → Fits (step_at p w past e) e → HoldsAt (OpenAs Ticotsord (generation_of p fd.0)) (place_of p fd.0) (left_by w (step_at p w past e))
opened-here p fd w past e h i f =
    let b = both (opens_it e.act) (is_opened fd e.outcome) i in
    let a = opened-begun fd e.act b.0 in
    let s = fits-begun p w past e (TOpen Ticotsord a.0) a.1 f in
    subst (λ (o : Option Step). HoldsAt (OpenAs Ticotsord (generation_of p fd.0)) (place_of p fd.0) (left_by w o)) (sym s.3)
    (opened-as p w fd a.0 s.0 h (opens-place p w Ticotsord a.0 fd s.0 s.1 (sym s.2 ∙ opened-done fd e.outcome b.1)))

opened-held : OfKinds → (p : Providers) → valid p ≡ true → (fd : Fd) (w : World) (past es : List Entry) → SoundWorld p w → LegalFrom p w past es → was_opened fd es ≡ true → HoldsAt (OpenAs Ticotsord (generation_of p fd.0)) (place_of p fd.0) (after_from p w past es)
opened-held kinds p v fd w past [] s l h = absurd (false≢true h)
opened-held kinds p v fd w past (e ∷ es) s l h = by (opens_at fd e) refl h (opened-held kinds p v fd (left_by w (step_at p w past e)) (past ++ e ∷ []) es (next-sound p v w (doing past e) s) l.1)
  where
    by : (b : Bool) → opens_at fd e ≡ b → (b || was_opened fd es) ≡ true
        → (was_opened fd es ≡ true → HoldsAt (OpenAs Ticotsord (generation_of p fd.0)) (place_of p fd.0) (after_from p w past (e ∷ es)))
        → HoldsAt (OpenAs Ticotsord (generation_of p fd.0)) (place_of p fd.0) (after_from p w past (e ∷ es))
    by true i k later = after-at p (OpenAs Ticotsord (generation_of p fd.0)) (place_of p fd.0) (kind-as Ticotsord p (generation_of p fd.0)) kinds (left_by w (step_at p w past e)) (past ++ e ∷ []) es (opened-here p fd w past e s i l.0)
    by false i k later = later k

-- an endpoint whose descriptor an open of ticotsord answered is one of ticotsord
pub opened-prov : OfKinds → (p : Providers) (es : List Entry) (fd : Fd) (e : Endpoint) → valid p ≡ true → Legal p es → was_opened fd es ≡ true → endpoint p (after p es) fd.0 ≡ Some e → e.prov ≡ Ticotsord
opened-prov kinds p es fd e v l h i = held-prov Ticotsord p (after p es) fd.0 e (opened-held kinds p v fd (opening p) [] es (opening-sound p) l h) i
