-- What a sound world gives of one cell as it is lent to a step.
use Rattle.std.proofs.Common.{ℕ, Bool, true, false, [], ◌∷◌, eqb, sym, ◌+◌, ◌*◌, ◌≡◌, ◌<◌, ◌≤◌, ◌&&◌, ◌||◌, refl, ap, ◌∙◌, subst, cond, length, Option, Some, None, is_none, arith}
use Rattle.std.specs.Prelude.{option_and_then, nat_le}
use Rattle.std.proofs.lemmas.Bool.{eq-eqb, eqb-true, le-leb, false≢true}
use Rattle.xti_model.specs.declared.profile.Providers.{Providers}
use Rattle.xti_model.specs.Endpoint.{Endpoint, address_of}
use Rattle.xti_model.specs.World.{World, Numbered, Cell, endpoint_cell, switch_cell, endpoint, endpoint_in, cell_at, the_switch, places, place_of, generation_of, switch_number, switch_in, switch_or_empty, descriptor, last_generation}
use Rattle.xti_model.specs.Calls.Open.{no_fd}
use Rattle.xti_model.specs.Sound.{ThereAgrees, CellAgrees, is_sound, is_sound_body, is_only_asked, requests}
use Rattle.xti_laws.proofs.Opening.{looked}
use Rattle.xti_laws.specs.Invariant.{SoundWorld}
use Rattle.xti_laws.specs.Endpoints.{SoundEndpoint}
use Rattle.xti_laws.specs.Requests.{is_one_of}
use Rattle.xti_laws.specs.Requests.{SoundRequests}
use Rattle.xti_model.specs.Calls.Disconnect.{is_asked}
use Rattle.xti_laws.proofs.EndpointUpdates.{target-none}
use Rattle.xti_laws.proofs.ListenerUpdates.{hears}
use Rattle.xti_laws.proofs.ShortLists.{cuts-few}
use Rattle.xti_laws.proofs.OwnCalls.{short-address}
use Rattle.xti_base.specs.Kinds.{same_state}
use Rattle.xti_base.specs.declared.kinds.State.TheVariants.{T_IDLE, T_INCON}
use Rattle.xti_laws.specs.SoundLaws.{SoundBody, SoundWhenLent}
use Rattle.xti_laws.proofs.PlaceAndSwitch.{open-agrees, whole}
use Rattle.xti_model.proofs.PlaceNumbers.{two-places, below, descriptor-fits}

not-in : (b c : Bool) → (c || b) ≡ false → b ≡ false
not-in b true h = absurd (false≢true (sym h))
not-in b false h = h

-- at most 8 disconnects wait, and at most one where no request is outstanding
pub cuts-bounded : (e : Endpoint) → SoundEndpoint e → SoundRequests e → length e.disconnects ≤ 8
cuts-bounded e h g = go (is_asked e) refl
  where
    go : (b : Bool) → is_asked e ≡ b → length e.disconnects ≤ 8
    go true i = (let k : length e.disconnects ≤ length e.outstanding = cuts-few e.disconnects e.outstanding (g.known i) in let a = h.listening.few in let b = h.listening.queue in omega arith)
    go false i = (let k = h.disconnecting.one i in omega arith)

-- a sound endpoint is sound by itself
pub endpoint-alone : (e : Endpoint) → SoundEndpoint e → SoundRequests e → is_sound e ≡ true
endpoint-alone e h g =
    all (nat_le e.qlen 8) (nat_le (length (address_of e)) 64) (nat_le (requests e) e.qlen) (is_only_asked e)
    (le-leb e.qlen 8 h.listening.queue) (le-leb (length (address_of e)) 64 (short-address e.address h.listening.short)) (le-leb (requests e) e.qlen h.listening.few) (only_asked (is_one_of (T_IDLE ∷ T_INCON ∷ []) e.state) refl)
  where
    quiet : (b : Bool) → eqb (requests e) 0 ≡ true → (eqb (requests e) 0 || b) ≡ true
    quiet b i = ap (λ z. z || b) i

    open_to : (b : Bool) → is_none e.peer ≡ true → is_none e.target ≡ true → (b || (is_none e.peer && is_none e.target)) ≡ true
    open_to true i j = refl
    open_to false i j = simp (i, j) refl

    only_asked : (b : Bool) → is_one_of (T_IDLE ∷ T_INCON ∷ []) e.state ≡ b → is_only_asked e ≡ true
    only_asked true i = (let k = hears e.state i in open_to (eqb (requests e) 0) (ap is_none (g.unlinked k.not_connected)) (ap is_none (target-none e g k.not_out)))
    only_asked false i =
        let n : e.pending ≡ [] = h.listening.heard i in
        let o : e.outstanding ≡ [] = g.outstanding (not-in (is_one_of (T_INCON ∷ []) e.state) (same_state e.state T_IDLE) i) in
        quiet (is_none e.peer && is_none e.target) (eq-eqb (requests e) 0 (ap (λ z. length z + length e.outstanding) n ∙ ap (λ z. 0 + length z) o))

    all : (a b c d : Bool) → a ≡ true → b ≡ true → c ≡ true → d ≡ true → (a && b && c && d) ≡ true
    all a b c d i j k l = simp (i, j, k, l) refl

-- the endpoint in a place's cell is the one with its place and generation
pub cell-endpoint : (p : Providers) (w : World) (n g : ℕ) (e : Endpoint) (c : Numbered) → n < places p → cell_at w n ≡ Some c → c.cell ≡ endpoint_cell g (Some e) → endpoint p w (descriptor p g n) ≡ Some e
cell-endpoint p w n g e c l i j = looked p w g n l ∙ (ap (option_and_then (λ c. endpoint_in g c.cell)) i ∙ (ap (endpoint_in g) j ∙ ap (λ b. cond b (Some e) None) (eq-eqb g g refl)))

body-sound : (p : Providers) (w : World) (n g : ℕ) (body : Option Endpoint) (c : Numbered) → SoundWorld p w → n < places p → cell_at w n ≡ Some c → c.cell ≡ endpoint_cell g body → SoundBody body
body-sound p w n g None c h l i j = tt
body-sound p w n g (Some e) c h l i j = (let o = cell-endpoint p w n g e c l i j in (h.endpoints (descriptor p g n) e o, h.links.good (descriptor p g n) e o))

body-alone : (body : Option Endpoint) → SoundBody body → is_sound_body body ≡ true
body-alone None h = refl
body-alone (Some e) h = endpoint-alone e h.0 h.1

-- what is lent of a sound world
pub lent-cell : (p : Providers) (w : World) (n : ℕ) (c : Numbered) → SoundWorld p w → n < places p → cell_at w n ≡ Some c → SoundWhenLent p (the_switch p w) n c.cell
lent-cell p w n c h l i = go c.cell refl (subst (ThereAgrees p (the_switch p w) n) i (h.registered.agreement.each_agrees n l))
  where
    go : (x : Cell) → c.cell ≡ x → CellAgrees p (the_switch p w) n x → SoundWhenLent p (the_switch p w) n x
    go (switch_cell s) j a = absurd a
    go (endpoint_cell g body) j a =
        let b = body-sound p w n g body c h l i j in
        record { is_sound = (b, subst (λ z. z ≤ last_generation p) a.generation_known (h.registered.places n).0); is_sound_alone = body-alone body b; switch_agrees = a }

-- the same of an open descriptor, which fits
pub lent-open : (p : Providers) (w : World) (fd : ℕ) (e : Endpoint) → SoundWorld p w → endpoint p w fd ≡ Some e → SoundWhenLent p (the_switch p w) (place_of p fd) (endpoint_cell (generation_of p fd) (Some e))
lent-open p w fd e h i =
    let b : SoundEndpoint e × SoundRequests e = (h.endpoints fd e i, h.links.good fd e i) in
    let a = open-agrees p w fd e i h.registered.agreement in
    record { is_sound = (b, subst (λ z. z ≤ last_generation p) a.generation_known (h.registered.places (place_of p fd)).0); is_sound_alone = endpoint-alone e b.0 b.1; switch_agrees = a }

pub open-fits : (p : Providers) (w : World) (fd : ℕ) (e : Endpoint) → SoundWorld p w → endpoint p w fd ≡ Some e → fd < no_fd
open-fits p w fd e h i =
    let a = open-agrees p w fd e i h.registered.agreement in
    let g : generation_of p fd < last_generation p = subst (λ z. z < last_generation p) a.generation_known ((h.registered.places (place_of p fd)).1 a.openness_known) in
    subst (λ z. z < no_fd) (whole p fd) (descriptor-fits p (generation_of p fd) (place_of p fd) g (below p fd))

-- the cell after those of the places is the switch's
cell-number : (n : ℕ) (w : World) (c : Numbered) → cell_at w n ≡ Some c → c.number ≡ n
cell-number n [] c h = absurd (cc)
cell-number n (d ∷ w) c h = go (eqb d.number n) refl h (cell-number n w c)
  where
    go : (b : Bool) → eqb d.number n ≡ b → cond b (Some d) (cell_at w n) ≡ Some c → (cell_at w n ≡ Some c → c.number ≡ n) → c.number ≡ n
    go true i j ih =
        let same : d ≡ c = cc in
        subst (λ z. z.number ≡ n) same (eqb-true d.number n i)
    go false i j ih = ih j

pub switch-there : (p : Providers) (w : World) → SoundWorld p w → cell_at w (switch_number p) ≡ Some (record { number = switch_number p; cell = switch_cell (the_switch p w) })
switch-there p w h = go (cell_at w (switch_number p)) refl h.registered.agreement.places_known
  where
    inside : (c : Numbered) → c.number ≡ switch_number p → (x : Cell) → c.cell ≡ x → length (switch_in c.cell).places ≡ places p → Some c ≡ Some (record { number = switch_number p; cell = switch_cell (switch_in c.cell) })
    inside c i (switch_cell s) j l = ap (λ z. Some (record { number = z; cell = c.cell })) i ∙ ap (λ x. Some (record { number = switch_number p; cell = x })) (j ∙ ap (λ x. switch_cell (switch_in x)) (sym j))
    inside c i (endpoint_cell g body) j l = absurd (omega (arith, two-places p, ap (λ x. length (switch_in x).places) (sym j) ∙ l))

    go : (o : Option Numbered) → cell_at w (switch_number p) ≡ o → length (switch_or_empty o).places ≡ places p → o ≡ Some (record { number = switch_number p; cell = switch_cell (switch_or_empty o) })
    go None i l = absurd (omega (arith, l, two-places p))
    go (Some c) i l = inside c (cell-number (switch_number p) w c i) c.cell refl l
