-- What a sound world gives of an endpoint, of two, and of the cells that a call names.
use Rattle.std.proofs.Common.{ℕ, Bool, true, false, List, [], ◌∷◌, ◌++◌, ◌+◌, ◌≡◌, ◌<◌, ◌≤◌, ◌⊎◌, inl, inr, refl, sym, ap, ◌∙◌, subst, eqb, cond, length, Option, Some, None, is_some, arith, length-append}
use Rattle.std.proofs.lemmas.List.{length-map}
use Rattle.std.specs.Prelude.{option_map, option_to_list, nat_lt, ◌||◌, ◌/◌}
use Rattle.std.specs.List.{All}
use Rattle.std.proofs.lemmas.Bool.{false≢true, eq-eqb, ltb-true, ltb-false}
use Rattle.std.proofs.lemmas.List.Elements.{All-nil, All-cons}
use Rattle.xti_base.specs.Kinds.{same_state}
use Rattle.xti_base.specs.declared.kinds.State.TheVariants.{T_IDLE, T_OUTCON, T_INCON}
use Rattle.xti_base.specs.declared.kinds.Prov.{Prov}
use Rattle.xti_model.specs.declared.call.Call.{Call}
use Rattle.xti_model.specs.declared.call.Call.TheVariants as call
use Rattle.xti_model.specs.declared.profile.Providers.{Providers}
use Rattle.xti_model.specs.Provider.{has_datagrams}
use Rattle.xti_model.specs.Endpoint.{Endpoint, Indication, Target, find_number}
use Rattle.xti_model.specs.World.{World, endpoint, the_switch, place_of}
use Rattle.xti_model.specs.Switch.{bound, listener, opening_place, place_at}
use Rattle.xti_model.specs.Touched.{cell_of, of_some, peer_cell, target_cell, caller_cell, caller_cells, bound_cell, listener_cell, cells_to, marked_cells, named}
use Rattle.xti_base.specs.declared.limits.TheConstants.{LAST_SEQUENCE}
use Rattle.xti_laws.specs.Requests.{SoundRequests, Stands, disconnects_with, indications_with}
use Rattle.xti_laws.proofs.StepWays.{some-is, none-is, not-both}
use Rattle.xti_laws.proofs.EndpointUpdates.{target-none}
use Rattle.xti_laws.proofs.ListenerUpdates.{hears}
use Rattle.xti_laws.specs.Endpoints.{SoundEndpoint}
use Rattle.xti_laws.specs.Requests.{is_one_of}
use Rattle.xti_laws.specs.Invariant.{SoundWorld}
use Rattle.xti_laws.specs.SoundLaws.{DatagramsAlone, NumberFits}
use Rattle.xti_laws.proofs.BoundAddresses.{listener-open, listener-other}
use Rattle.xti_laws.proofs.PlaceAndSwitch.{open-agrees}
use Rattle.xti_laws.proofs.States.{busy-out, resting-out, idle-not-asked, resting-bare, resting-unconnected}
use Rattle.xti_laws.proofs.Updates.{not-asking}
use Rattle.xti_laws.proofs.Places.{same-fd}

-- An endpoint of datagrams.
no-length : {A : Type 0} (xs : List A) (n : ℕ) → length xs + n ≤ 0 → xs ≡ []
no-length [] n h = refl
no-length (x ∷ xs) n h = absurd (omega arith)

pub datagrams-alone : (e : Endpoint) → has_datagrams e.prov ≡ true → SoundEndpoint e → SoundRequests e → DatagramsAlone e
datagrams-alone e d h g =
    let q = h.of_provider.alone d in
    let b = resting-bare e.state q.1 in
    let p : e.peer ≡ None = g.unlinked (resting-unconnected e.state q.1) in
    let m = g.empty p in
    record {
      state = q.1;
      no_requests = (q.0, no-length e.pending (length e.outstanding) (subst (λ z. length e.pending + length e.outstanding ≤ z) q.0 h.listening.few), g.outstanding (idle-not-asked e.state q.1), not-asking e h (resting-out e.state q.1));
      no_peer = (p, h.unconnected.no_address b, m.3, h.disconnecting.rest q.1, m.2);
      no_data = (m.0, m.1, h.unconnected.not_mid b, (h.unconnected.finished b).0, (h.unconnected.finished b).1, (h.unconnected.unmarked b).0, (h.unconnected.unmarked b).1);
    }

-- The numbers of requests.
small : (top : ℕ) (xs : List Indication) → ((n : ℕ) → top < n → indications_with n xs ≡ 0) → top ≤ LAST_SEQUENCE → All NumberFits xs
small top [] h k = All-nil NumberFits
small top (x ∷ xs) h k = All-cons NumberFits x xs (go (nat_lt top x.number) refl) (small top xs (λ n l. (let z : indications_with n (x ∷ xs) ≡ 0 = h n l in fewer n (eqb x.number n) z)) k)
  where
    fewer : (n : ℕ) (b : Bool) → cond b 1 0 + indications_with n xs ≡ 0 → indications_with n xs ≡ 0
    fewer n true z = absurd (omega arith)
    fewer n false z = omega arith

    go : (b : Bool) → nat_lt top x.number ≡ b → x.number ≤ LAST_SEQUENCE
    go true i =
        let z : indications_with x.number (x ∷ xs) ≡ 0 = h x.number (ltb-true top x.number i) in
        let y : indications_with x.number (x ∷ xs) ≡ 1 + indications_with x.number xs = ap (λ c. cond c 1 0 + indications_with x.number xs) (eq-eqb x.number x.number refl) in absurd (omega arith)
    go false i = (let l = ltb-false top x.number i in omega arith)

pub small-numbers : (e : Endpoint) → SoundEndpoint e → SoundRequests e → All NumberFits e.pending × All NumberFits e.outstanding
small-numbers e h g = (
  small e.last_number e.pending (λ n l. (let z : indications_with n e.pending + indications_with n e.outstanding ≡ 0 = g.below n l in omega arith)) h.request_fields.numbered,
  small e.last_number e.outstanding (λ n l. (let z : indications_with n e.pending + indications_with n e.outstanding ≡ 0 = g.below n l in omega arith)) h.request_fields.numbered,
)

-- A peer excludes a request and a disconnect.
pub peer-unbroken : (p : Providers) (w : World) (fd peer : ℕ) (e : Endpoint) → SoundWorld p w → endpoint p w fd ≡ Some e → e.peer ≡ Some peer → (e.target ≡ None) × (e.disconnects ≡ [])
peer-unbroken p w fd peer e h o q = (h.endpoints fd e o).disconnecting.with_peer (ap is_some q)

-- Two that are open have different places.
pub places-differ : (p : Providers) (w : World) (x y : ℕ) (e d : Endpoint) → SoundWorld p w → endpoint p w x ≡ Some e → endpoint p w y ≡ Some d → place_of p x ≡ place_of p y → x ≡ y
places-differ p w x y e d h i j k =
    let a = (open-agrees p w x e i h.registered.agreement).generation_known in
    let b = (open-agrees p w y d j h.registered.agreement).generation_known in
    same-fd p x y k (sym a ∙ (ap (λ z. (place_at (the_switch p w) z).generation) k ∙ b))

-- The cells that a call names.
few-some : (p : Providers) (o : Option ℕ) → length (cell_of p o) ≤ 1
few-some p None = omega arith
few-some p (Some n) = omega arith

few-option : (o : Option ℕ) → length (option_to_list o) ≤ 1
few-option None = omega arith
few-option (Some n) = omega arith

few-to : (p : Providers) (w : World) (e : Endpoint) (o : Option (List ℕ)) → length (cells_to p w e o) ≤ 2
few-to p w e None = omega arith
few-to p w e (Some a) = omega (arith, few-some p (bound (the_switch p w) e.prov a))

few-of : (o : Option Endpoint) (f : Endpoint → List ℕ) (n : ℕ) → ((e : Endpoint) → o ≡ Some e → length (f e) ≤ n) → length (of_some o f) ≤ n
few-of None f n h = omega arith
few-of (Some e) f n h = h e refl

-- with any requests it names nobody else
few-known : (p : Providers) (e : Endpoint) → SoundEndpoint e → SoundRequests e → length (peer_cell p e ++ target_cell p e ++ caller_cells p e) ≤ 8
few-known p e h g = go (is_one_of (T_IDLE ∷ T_INCON ∷ []) e.state) refl
  where
    callers : length (caller_cells p e) ≡ length e.pending + length e.outstanding
    callers = length-map (e.pending ++ e.outstanding) (λ i. place_of p i.caller) ∙ length-append e.pending e.outstanding

    all : length (peer_cell p e ++ target_cell p e ++ caller_cells p e) ≡ length (peer_cell p e) + length (target_cell p e) + length (caller_cells p e)
    all = length-append (peer_cell p e ++ target_cell p e) (caller_cells p e) ∙ ap (λ z. z + length (caller_cells p e)) (length-append (peer_cell p e) (target_cell p e))

    not-in : (b c : Bool) → (c || b) ≡ false → b ≡ false
    not-in b true k = absurd (false≢true (sym k))
    not-in b false k = k

    go : (b : Bool) → is_one_of (T_IDLE ∷ T_INCON ∷ []) e.state ≡ b → length (peer_cell p e ++ target_cell p e ++ caller_cells p e) ≤ 8
    go true i =
        let k = hears e.state i in
        let a : length (peer_cell p e) ≡ 0 = ap (λ z. length (cell_of p z)) (g.unlinked k.not_connected) in
        let b : length (target_cell p e) ≡ 0 = ap (λ z. length (cell_of p (option_map (λ t. t.listener) z))) (target-none e g k.not_out) in
        let c = callers in let d = all in let f = h.listening.few in let q = h.listening.queue in omega arith
    go false i =
        let n : length e.pending ≡ 0 = ap (λ z. length z) (h.listening.heard i) in
        let o : length e.outstanding ≡ 0 = ap (λ z. length z) (g.outstanding (not-in (is_one_of (T_INCON ∷ []) e.state) (same_state e.state T_IDLE) i)) in
        let a = few-some p e.peer in let b = few-some p (option_map (λ t. t.listener) e.target) in
        let c = callers in let d = all in omega arith

three : (xs ys zs : List ℕ) → length xs ≤ 1 → length ys ≤ 1 → length zs ≤ 1 → length (xs ++ ys ++ zs) ≤ 3
three xs ys zs a b c = (let d = length-append (xs ++ ys) zs in let e = length-append xs ys in omega arith)

two : (xs ys : List ℕ) → length xs ≤ 1 → length ys ≤ 2 → length (xs ++ ys) ≤ 3
two xs ys a b = (let d = length-append xs ys in omega arith)

-- of the whole world, or of the cells that are lent of it
pub few-named : (p : Providers) (w : World) (c : Call) → ((fd : ℕ) (e : Endpoint) → endpoint p w fd ≡ Some e → SoundEndpoint e × SoundRequests e) → length (named p w c) ≤ 10
few-named p w (call.TOpen prov nonblock) h = omega (arith, few-option (opening_place p (the_switch p w) prov))
few-named p w (call.TClose fd) h = omega (arith, few-of (endpoint p w fd.0) (λ e. peer_cell p e ++ target_cell p e ++ caller_cells p e) 8 (λ e i. few-known p e (h fd.0 e i).0 (h fd.0 e i).1))
few-named p w (call.TBind fd addr qlen amax) h = omega arith
few-named p w (call.TUnbind fd) h = omega arith
few-named p w (call.TConnect fd addr opt udata amax omax umax) h = omega (arith, few-of (endpoint p w fd.0) (listener_cell p w fd.0 addr) 1 (λ e i. few-some p (listener (the_switch p w) e.prov addr fd.0)))
few-named p w (call.TAccept fd resfd seq opt udata) h = omega (arith, few-of (endpoint p w fd.0) (caller_cell p seq.0) 1 (λ e i. few-some p (option_map (λ i. i.caller) (find_number seq.0 e.outstanding))))
few-named p w (call.TSnd fd bytes flags) h = omega (arith, few-of (endpoint p w fd.0) (peer_cell p) 1 (λ e i. few-some p e.peer))
few-named p w (call.TSndV fd parts flags) h = omega (arith, few-of (endpoint p w fd.0) (peer_cell p) 1 (λ e i. few-some p e.peer))
few-named p w (call.TSndRel fd) h = omega (arith, few-of (endpoint p w fd.0) (peer_cell p) 1 (λ e i. few-some p e.peer))
few-named p w (call.TSndRelData fd udata) h = omega (arith, few-of (endpoint p w fd.0) (peer_cell p) 1 (λ e i. few-some p e.peer))
few-named p w (call.TSndDis fd seq udata) h = omega (arith, few-of (endpoint p w fd.0) (λ e. peer_cell p e ++ target_cell p e ++ caller_cell p seq.0 e) 3 (λ e i. three (peer_cell p e) (target_cell p e) (caller_cell p seq.0 e) (few-some p e.peer) (few-some p (option_map (λ t. t.listener) e.target)) (few-some p (option_map (λ i. i.caller) (find_number seq.0 e.outstanding)))))
few-named p w (call.TSndUData fd addr opt bytes) h = omega (arith, few-of (endpoint p w fd.0) (bound_cell p w addr) 1 (λ e i. few-some p (bound (the_switch p w) e.prov addr)))
few-named p w (call.TSndVUData fd addr opt parts) h = omega (arith, few-of (endpoint p w fd.0) (bound_cell p w addr) 1 (λ e i. few-some p (bound (the_switch p w) e.prov addr)))
few-named p w (call.TLookAt fd) h = omega (arith, few-of (endpoint p w fd.0) (λ e. peer_cell p e ++ marked_cells p w e) 3 (λ e i. two (peer_cell p e) (marked_cells p w e) (few-some p e.peer) (few-to p w e e.flow_datagram)))
few-named p w (call.TRcvConnect fd amax omax umax) h = omega arith
few-named p w (call.TListen fd amax omax umax) h = omega arith
few-named p w (call.TRcv fd max) h = omega arith
few-named p w (call.TRcvV fd sizes) h = omega arith
few-named p w (call.TRcvDis fd umax) h = omega arith
few-named p w (call.TRcvRel fd) h = omega arith
few-named p w (call.TRcvRelData fd umax) h = omega arith
few-named p w (call.TRcvUData fd max amax omax) h = omega arith
few-named p w (call.TRcvVUData fd sizes amax omax) h = omega arith
few-named p w (call.TRcvUDErr fd amax omax) h = omega arith
few-named p w (call.TGetState fd) h = omega arith
few-named p w (call.TSync fd) h = omega arith
few-named p w (call.TGetInfo fd) h = omega arith
few-named p w (call.TGetProtAddr fd amax pmax) h = omega arith
few-named p w (call.TOptMgmt fd action opt omax) h = omega arith
few-named p w (call.SetMode fd nonblock) h = omega arith

-- Two that have to do with each other are in different places.
pub peers-apart : (p : Providers) (w : World) (x y : ℕ) (e d : Endpoint) → SoundWorld p w → endpoint p w x ≡ Some e → endpoint p w y ≡ Some d → e.peer ≡ Some y → d.peer ≡ Some x → (place_of p x ≡ place_of p y) → ⊥
peers-apart p w x y e d h i j a b k = not-both (eqb x y) (h.pairs x y e d i j a b).1 (eq-eqb x y (places-differ p w x y e d h i j k))

-- a caller waits in T_OUTCON, and a listener doesn't
not-both-ends : (e : Endpoint) (n c : ℕ) → SoundEndpoint e → SoundRequests e → is_some e.target ≡ true → Stands e n c → ⊥
not-both-ends e n c h g t s = go s.is_found
  where
    o : is_one_of (T_OUTCON ∷ []) e.state ≡ true
    o = h.disconnecting.asking t

    go : ((find_number n e.pending ≡ Some s.i) ⊎ ((find_number n e.outstanding ≡ Some s.i) × (disconnects_with n e.disconnects ≡ 0))) → ⊥
    go (inl f) = none-is s.i (ap (find_number n) (sym (h.listening.heard (busy-out e.state o).not_heard)) ∙ f)
    go (inr f) = none-is s.i (ap (find_number n) (sym (g.outstanding (busy-out e.state o).not_asked)) ∙ f.0)

pub callers-apart : (p : Providers) (w : World) (l n c : ℕ) (e : Endpoint) → SoundWorld p w → endpoint p w l ≡ Some e → Stands e n c → (place_of p c ≡ place_of p l) → ⊥
callers-apart p w l n c e h o s k =
    let b = (h.links.asked l n c e o s).1 in
    let same : b.e ≡ e = some-is b.e e (sym b.is_open ∙ (ap (endpoint p w) (places-differ p w c l b.e e h b.is_open o k) ∙ o)) in
    not-both-ends e n c (h.endpoints l e o) (h.links.good l e o) (ap (λ z. is_some z.target) (sym same) ∙ ap is_some b.has_target) s

pub targets-apart : (p : Providers) (w : World) (c : ℕ) (e : Endpoint) (t : Target) → SoundWorld p w → endpoint p w c ≡ Some e → e.target ≡ Some t → (place_of p t.listener ≡ place_of p c) → ⊥
targets-apart p w c e t h o i k = (let b = h.links.asks c e t refl o i in callers-apart p w t.listener t.number c b.e h b.is_open b.stands (sym k))

pub listeners-apart : (p : Providers) (w : World) (prov : Prov) (address : List ℕ) (from fd : ℕ) (e : Endpoint) → SoundWorld p w → endpoint p w from ≡ Some e → listener (the_switch p w) prov address from ≡ Some fd → (place_of p fd ≡ place_of p from) → ⊥
listeners-apart p w prov address from fd e h o l k =
    let b = listener-open p w prov address from fd h l in
    not-both (eqb fd from) (listener-other (the_switch p w) prov address from fd l) (eq-eqb fd from (places-differ p w fd from b.there e h b.is_open o k))
