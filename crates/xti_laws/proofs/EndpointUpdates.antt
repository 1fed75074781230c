-- Which updates leave an endpoint sound by itself, and its requests as they are.
use Rattle.std.proofs.Common.{ℕ, Bool, true, false, List, [], ◌∷◌, ◌++◌, ◌+◌, ◌<◌, ◌≤◌, ◌≡◌, ◌⊎◌, inl, inr, refl, sym, ap, ◌∙◌, subst, cond, eqb, ◌||◌, length, Option, Some, None, is_some, is_none, arith}
use Rattle.std.proofs.lemmas.Bool.{false≢true, eqb-true}
use Rattle.std.proofs.Math.Seq.{drop-nil}
use Rattle.std.specs.List.{list_any}
use Rattle.xti_base.specs.Kinds.{same_state}
use Rattle.xti_base.specs.declared.kinds.Prov.{Prov}
use Rattle.xti_base.specs.declared.kinds.State.{State}
use Rattle.xti_base.specs.declared.kinds.State.TheVariants.{T_UNINIT, T_UNBND, T_IDLE, T_INCON, T_OUTCON, T_DATAXFER, T_OUTREL, T_INREL}
use Rattle.xti_model.specs.declared.profile.Profile.{Profile}
use Rattle.xti_model.specs.declared.profile.Providers.{Providers}
use Rattle.xti_model.specs.Endpoint.{Endpoint, Indication, Disconnect, Target, Confirmation, find_number, opened}
use Rattle.xti_model.specs.Links.{names, if_names, broken}
use Rattle.xti_model.specs.Symbols.{rest, front, ended}
use Rattle.xti_model.specs.Events.{is_state, some_wait}
use Rattle.xti_model.specs.Calls.Bind as Bind
use Rattle.xti_model.specs.Calls.Connect as Connect
use Rattle.xti_model.specs.Calls.Send as Send
use Rattle.xti_model.specs.Calls.Receive as Receive
use Rattle.xti_model.specs.Calls.Release as Release
use Rattle.xti_model.specs.Calls.Disconnect as Disconnect
use Rattle.xti_laws.specs.Requests.{is_connected, indications_with, disconnects_with, SoundRequests}
use Rattle.xti_model.specs.Calls.Disconnect.{is_asked}
use Rattle.xti_laws.proofs.StepWays.{none-is, not-both}
use Rattle.xti_laws.proofs.AcceptEnds.{not-asked}
use Rattle.xti_laws.proofs.OneChange.{Alike}

-- the parts that these facts read
pub record Desk : Type 0 where
  pub prov : Prov
  pub state : State
  pub target : Option Target
  pub peer : Option ℕ
  pub confirmation : Option Confirmation
  pub normal : List ℕ
  pub expedited : List ℕ
  pub release : Option (List ℕ)
  pub pending : List Indication
  pub outstanding : List Indication
  pub disconnects : List Disconnect
  pub last_number : ℕ

abbrev pub desk : Endpoint → Desk
desk e = record { prov = e.prov; state = e.state; target = e.target; peer = e.peer; confirmation = e.confirmation; normal = e.normal; expedited = e.expedited; release = e.release; pending = e.pending; outstanding = e.outstanding; disconnects = e.disconnects; last_number = e.last_number }

abbrev is_asked_at : Desk → Bool
is_asked_at d = list_any (same_state d.state) (T_INCON ∷ [])

pub good-of : (e e' : Endpoint) → desk e' ≡ desk e → SoundRequests e → SoundRequests e'
good-of e e' h g = record {
  asking = λ t. (let q = g.asking (ap (λ d. is_some d.target) (sym h) ∙ t) in (ap (λ d. d.state) h ∙ q.0, ap (λ d. d.peer) h ∙ q.1, ap (λ d. d.disconnects) h ∙ q.2));
  unlinked = λ t. (ap (λ d. d.peer) h ∙ g.unlinked (ap (λ d. is_connected d.state) (sym h) ∙ t));
  empty = λ t. (let q = g.empty (ap (λ d. d.peer) (sym h) ∙ t) in (ap (λ d. d.normal) h ∙ q.0, ap (λ d. d.expedited) h ∙ q.1, ap (λ d. d.release) h ∙ q.2, ap (λ d. d.confirmation) h ∙ q.3));
  outstanding = λ t. (ap (λ d. d.outstanding) h ∙ g.outstanding (ap is_asked_at (sym h) ∙ t));
  once = λ n. subst (λ d. indications_with n d.pending + indications_with n d.outstanding ≤ 1) (sym h) (g.once n);
  below = λ n l. (ap (λ d. indications_with n d.pending + indications_with n d.outstanding) h ∙ g.below n (subst (λ d. d.last_number < n) h l));
  known = λ t n. subst (λ d. disconnects_with n d.disconnects ≤ indications_with n d.outstanding) (sym h) (g.known (ap is_asked_at (sym h) ∙ t) n);
}

pub alike-of : (e e' : Endpoint) → desk e' ≡ desk e → Alike e e'
alike-of e e' h = record {
  target = ap (λ d. d.target) h;
  prov = ap (λ d. d.prov) h;
  stands = λ n c s. record { i = s.i; is_caller = s.is_caller; is_found = subst (λ d. (find_number n d.pending ≡ Some s.i) ⊎ ((find_number n d.outstanding ≡ Some s.i) × (disconnects_with n d.disconnects ≡ 0))) (sym h) s.is_found };
  back = λ n c s. record { i = s.i; is_caller = s.is_caller; is_found = subst (λ d. (find_number n d.pending ≡ Some s.i) ⊎ ((find_number n d.outstanding ≡ Some s.i) × (disconnects_with n d.disconnects ≡ 0))) h s.is_found };
}

-- with nothing outstanding what stands is pending
pub alike-pending : (e e' : Endpoint) → e'.target ≡ e.target → e'.prov ≡ e.prov → e'.pending ≡ e.pending → e.outstanding ≡ [] → e'.outstanding ≡ [] → Alike e e'
alike-pending e e' t v p o q = record {
  target = t;
  prov = v;
  stands = λ n c s. record { i = s.i; is_caller = s.is_caller; is_found = move e e' n s.i (sym p) o s.is_found };
  back = λ n c s. record { i = s.i; is_caller = s.is_caller; is_found = move e' e n s.i p q s.is_found };
}
  where
    move : (a b : Endpoint) (n : ℕ) (i : Indication) → a.pending ≡ b.pending → a.outstanding ≡ [] → ((find_number n a.pending ≡ Some i) ⊎ ((find_number n a.outstanding ≡ Some i) × (disconnects_with n a.disconnects ≡ 0))) → ((find_number n b.pending ≡ Some i) ⊎ ((find_number n b.outstanding ≡ Some i) × (disconnects_with n b.disconnects ≡ 0)))
    move a b n i p o (inl f) = inl (ap (find_number n) (sym p) ∙ f)
    move a b n i p o (inr f) = absurd (none-is i (ap (find_number n) (sym o) ∙ f.0))

-- of a state that is not that of a listener with indications
pub good-plain : (e e' : Endpoint) → SoundRequests e → e'.pending ≡ e.pending → e'.outstanding ≡ e.outstanding → e'.last_number ≡ e.last_number → e.outstanding ≡ [] → is_asked e' ≡ false
    → (is_some e'.target ≡ true → (e'.state ≡ T_OUTCON) × (e'.peer ≡ None) × (e'.disconnects ≡ [])) → (is_connected e'.state ≡ false → e'.peer ≡ None)
    → (e'.peer ≡ None → (e'.normal ≡ []) × (e'.expedited ≡ []) × (e'.release ≡ None) × (e'.confirmation ≡ None)) → SoundRequests e'
good-plain e e' g p o l n a asking unlinked empty = record {
  asking = asking;
  unlinked = unlinked;
  empty = empty;
  outstanding = λ t. (o ∙ n);
  once = λ m. subst (λ z. indications_with m z + indications_with m e'.outstanding ≤ 1) (sym p) (subst (λ z. indications_with m e.pending + indications_with m z ≤ 1) (sym o) (g.once m));
  below = λ m k. (ap (λ z. indications_with m z + indications_with m e'.outstanding) p ∙ (ap (λ z. indications_with m e.pending + indications_with m z) o ∙ g.below m (subst (λ z. z < m) l k)));
  known = λ t m. absurd (not-both (is_asked e') a t);
}

-- states
pub record Idle (s : State) : Type 0 where
  pub not_connected : is_connected s ≡ false
  pub not_out : (s ≡ T_OUTCON) → ⊥
  pub not_in : list_any (same_state s) (T_INCON ∷ []) ≡ false

pub idle-state : (s : State) → list_any (same_state s) (T_UNBND ∷ T_IDLE ∷ []) ≡ true → Idle s
idle-state T_UNINIT h = absurd (false≢true h)
idle-state T_UNBND h = record { not_connected = refl; not_out = λ j. absurd (false≢true (ap (λ z. list_any (same_state z) (T_OUTCON ∷ [])) j)); not_in = refl }
idle-state T_IDLE h = record { not_connected = refl; not_out = λ j. absurd (false≢true (ap (λ z. list_any (same_state z) (T_OUTCON ∷ [])) j)); not_in = refl }
idle-state T_INCON h = absurd (false≢true h)
idle-state T_OUTCON h = absurd (false≢true h)
idle-state T_DATAXFER h = absurd (false≢true h)
idle-state T_OUTREL h = absurd (false≢true h)
idle-state T_INREL h = absurd (false≢true h)

pub unbound-state : (s : State) → list_any (same_state s) (T_UNBND ∷ []) ≡ true → Idle s
unbound-state s h = idle-state s (more (same_state s T_UNBND) (same_state s T_IDLE) h)
  where
    more : (a b : Bool) → (a || false) ≡ true → (a || (b || false)) ≡ true
    more true b h = refl
    more false b h = absurd (false≢true h)

pub only-idle : (s : State) → list_any (same_state s) (T_IDLE ∷ []) ≡ true → Idle s
only-idle s h = idle-state s (more (same_state s T_UNBND) (same_state s T_IDLE) h)
  where
    more : (a b : Bool) → (b || false) ≡ true → (a || (b || false)) ≡ true
    more true b h = refl
    more false b h = h

pub target-none : (e : Endpoint) → SoundRequests e → ((e.state ≡ T_OUTCON) → ⊥) → e.target ≡ None
target-none e g h = go e.target refl
  where
    go : (o : Option Target) → e.target ≡ o → o ≡ None
    go None j = refl
    go (Some t) j = absurd (h (g.asking (ap is_some j)).0)

-- a target that is not there does not ask
pub asks-not : {A : Type 0} (o : Option Target) → o ≡ None → is_some o ≡ true → A
asks-not o h t = absurd (not-both (is_some o) (ap is_some h) t)

-- with a peer there is no target
pub peer-target : (e : Endpoint) (y : ℕ) → SoundRequests e → e.peer ≡ Some y → e.target ≡ None
peer-target e y g h = go e.target refl
  where
    go : (o : Option Target) → e.target ≡ o → o ≡ None
    go None j = refl
    go (Some t) j = absurd (none-is y (sym (g.asking (ap is_some j)).1 ∙ h))

pub peer-connected : (e : Endpoint) (y : ℕ) → SoundRequests e → e.peer ≡ Some y → is_connected e.state ≡ true
peer-connected e y g h = go (is_connected e.state) refl
  where
    go : (b : Bool) → is_connected e.state ≡ b → b ≡ true
    go true j = refl
    go false j = absurd (none-is y (sym (g.unlinked j) ∙ h))

pub connected-outstanding : (e : Endpoint) → SoundRequests e → is_connected e.state ≡ true → e.outstanding ≡ []
connected-outstanding e g h = g.outstanding (not-asked e.state h)

-- Updates.

-- it leaves an endpoint sound, and its requests as they are
abbrev pub Both : (Endpoint → Endpoint) → Endpoint → Type 0
Both f e = SoundRequests (f e) × Alike e (f e)

pub both-of : (f : Endpoint → Endpoint) (e : Endpoint) → desk (f e) ≡ desk e → SoundRequests e → Both f e
both-of f e h g = (good-of e (f e) h g, alike-of e (f e) h)

pub both-bound : (address : List ℕ) (qlen : ℕ) (e : Endpoint) → SoundRequests e → is_state (T_UNBND ∷ []) e ≡ true → Both (Bind.bound_to address qlen) e
both-bound address qlen e g h = (let s = unbound-state e.state h in let o = g.outstanding s.not_in in (
  good-plain e (Bind.bound_to address qlen e) g refl refl refl o refl (asks-not e.target (target-none e g s.not_out)) (λ t. g.unlinked s.not_connected) g.empty,
  alike-pending e (Bind.bound_to address qlen e) refl refl refl o o,
))

pub both-unbound : (e : Endpoint) → SoundRequests e → is_state (T_IDLE ∷ []) e ≡ true → Both Bind.unbound e
both-unbound e g h = (let s = only-idle e.state h in let o = g.outstanding s.not_in in (
  good-plain e (Bind.unbound e) g refl refl refl o refl (asks-not e.target (target-none e g s.not_out)) (λ t. g.unlinked s.not_connected) g.empty,
  alike-pending e (Bind.unbound e) refl refl refl o o,
))

pub both-turned_away : (reason : ℕ) (e : Endpoint) → SoundRequests e → is_state (T_IDLE ∷ []) e ≡ true → Both (Connect.turned_away reason) e
both-turned_away reason e g h = (let s = only-idle e.state h in let o = g.outstanding s.not_in in (
  good-plain e (Connect.turned_away reason e) g refl refl refl o refl (asks-not e.target (target-none e g s.not_out)) (λ t. g.unlinked s.not_connected) g.empty,
  alike-pending e (Connect.turned_away reason e) refl refl refl o o,
))

confirmed-none : {A : Type 0} (e : Endpoint) → SoundRequests e → is_none e.confirmation ≡ false → e.peer ≡ None → A
confirmed-none e g n t = absurd (not-both (is_none e.confirmation) n (ap is_none (g.empty t).3))

pub both-confirmed : (e : Endpoint) → SoundRequests e → is_connected e.state ≡ true → is_none e.confirmation ≡ false → Both Connect.confirmed e
both-confirmed e g k n = (let o = connected-outstanding e g k in (
  good-plain e (Connect.confirmed e) g refl refl refl o refl (λ t. confirmed-none e g n (g.asking t).1) (λ t. absurd (false≢true (sym t))) (λ t. confirmed-none e g n t),
  alike-pending e (Connect.confirmed e) refl refl refl o o,
))

pub both-symbols : (b : Bool) (symbols : List ℕ) (y : ℕ) (e : Endpoint) → SoundRequests e → e.peer ≡ Some y → Both (Send.received b symbols) e
both-symbols true symbols y e g h = (let k = peer-connected e y g h in let o = connected-outstanding e g k in (
  good-plain e (record e { expedited = e.expedited ++ symbols }) g refl refl refl o (not-asked e.state k) (asks-not e.target (peer-target e y g h)) g.unlinked (λ t. absurd (none-is y (sym t ∙ h))),
  alike-pending e (record e { expedited = e.expedited ++ symbols }) refl refl refl o o,
))
both-symbols false symbols y e g h = (let k = peer-connected e y g h in let o = connected-outstanding e g k in (
  good-plain e (record e { normal = e.normal ++ symbols }) g refl refl refl o (not-asked e.state k) (asks-not e.target (peer-target e y g h)) g.unlinked (λ t. absurd (none-is y (sym t ∙ h))),
  alike-pending e (record e { normal = e.normal ++ symbols }) refl refl refl o o,
))

rest-nil : (max : ℕ) (q : List ℕ) → q ≡ [] → rest max q ≡ []
rest-nil max q h = ap (rest max) h ∙ drop-nil (length (front max []) + cond (ended max []) 1 0)

pub both-read : (p : Providers) (max : ℕ) (e : Endpoint) → SoundRequests e → is_connected e.state ≡ true → Both (Receive.received p max) e
both-read p max e g k = go (some_wait e.expedited)
  where
    o : e.outstanding ≡ []
    o = connected-outstanding e g k

    as_both : (e' : Endpoint) → e'.pending ≡ e.pending → e'.outstanding ≡ e.outstanding → e'.last_number ≡ e.last_number → e'.state ≡ e.state → e'.target ≡ e.target → e'.peer ≡ e.peer → e'.prov ≡ e.prov → e'.disconnects ≡ e.disconnects
        → (e.peer ≡ None → (e'.normal ≡ []) × (e'.expedited ≡ []) × (e'.release ≡ None) × (e'.confirmation ≡ None)) → SoundRequests e' × Alike e e'
    as_both e' a b c d t y v u n = (
      good-plain e e' g a b c o (ap (λ z. list_any (same_state z) (T_INCON ∷ [])) d ∙ not-asked e.state k)
          (λ q. (let z = g.asking (ap is_some (sym t) ∙ q) in (d ∙ z.0, y ∙ z.1, u ∙ z.2))) (λ q. (y ∙ g.unlinked (ap is_connected (sym d) ∙ q))) (λ q. n (sym y ∙ q)),
      alike-pending e e' t v a o (b ∙ o),
    )

    go : (b : Bool) → SoundRequests (cond b (record e { expedited = rest max e.expedited; mid_expedited = Receive.goes_on p true max e }) (record e { normal = rest max e.normal })) × Alike e (cond b (record e { expedited = rest max e.expedited; mid_expedited = Receive.goes_on p true max e }) (record e { normal = rest max e.normal }))
    go true = as_both (record e { expedited = rest max e.expedited; mid_expedited = Receive.goes_on p true max e }) refl refl refl refl refl refl refl refl (λ q. (let z = g.empty q in (z.0, rest-nil max e.expedited z.1, z.2, z.3)))
    go false = as_both (record e { normal = rest max e.normal }) refl refl refl refl refl refl refl refl (λ q. (let z = g.empty q in (rest-nil max e.normal z.0, z.1, z.2, z.3)))

pub both-broken : (reason : ℕ) (udata : List ℕ) (y : ℕ) (e : Endpoint) → SoundRequests e → e.peer ≡ Some y → Both (broken reason udata) e
both-broken reason udata y e g h = (let k = peer-connected e y g h in let o = connected-outstanding e g k in (
  good-plain e (broken reason udata e) g refl refl refl o (not-asked e.state k) (asks-not None refl) (λ t. refl) (λ t. (refl, refl, refl, refl)),
  alike-pending e (broken reason udata e) (sym (peer-target e y g h)) refl refl o o,
))

pub both-idle : (e : Endpoint) → SoundRequests e → e.outstanding ≡ [] → e.target ≡ None → Both Disconnect.idle e
both-idle e g o t = (
  good-plain e (Disconnect.idle e) g refl refl refl o refl (asks-not None refl) (λ q. refl) (λ q. (refl, refl, refl, refl)),
  alike-pending e (Disconnect.idle e) (sym t) refl refl o o,
)

pub both-released : (udata : List ℕ) (y : ℕ) (e : Endpoint) → SoundRequests e → e.peer ≡ Some y → Both (Release.released udata) e
both-released udata y e g h = (let k = peer-connected e y g h in let o = connected-outstanding e g k in (
  good-plain e (Release.released udata e) g refl refl refl o (not-asked e.state k) (asks-not e.target (peer-target e y g h)) g.unlinked (λ t. absurd (none-is y (sym t ∙ h))),
  alike-pending e (Release.released udata e) refl refl refl o o,
))

pub both-after_send : (e : Endpoint) → SoundRequests e → is_connected e.state ≡ true → e.target ≡ None → Both Release.after_send e
both-after_send e g k t = go (is_state (T_DATAXFER ∷ []) e)
  where
    o : e.outstanding ≡ []
    o = connected-outstanding e g k

    go : (b : Bool) → SoundRequests (cond b (record e { state = T_OUTREL }) (Disconnect.idle e)) × Alike e (cond b (record e { state = T_OUTREL }) (Disconnect.idle e))
    go true = (good-plain e (record e { state = T_OUTREL }) g refl refl refl o refl (asks-not e.target t) (λ q. absurd (false≢true (sym q))) g.empty, alike-pending e (record e { state = T_OUTREL }) refl refl refl o o)
    go false = both-idle e g o t

pub both-after_receive : (e : Endpoint) → SoundRequests e → is_connected e.state ≡ true → e.target ≡ None → Both Release.after_receive e
both-after_receive e g k t = go (is_state (T_DATAXFER ∷ []) e)
  where
    o : e.outstanding ≡ []
    o = connected-outstanding e g k

    go : (b : Bool) → SoundRequests (cond b (record e { release = None; state = T_INREL }) (Disconnect.idle e)) × Alike e (cond b (record e { release = None; state = T_INREL }) (Disconnect.idle e))
    go true = (good-plain e (record e { release = None; state = T_INREL }) g refl refl refl o refl (asks-not e.target t) (λ q. absurd (false≢true (sym q))) (λ q. (let z = g.empty q in (z.0, z.1, refl, z.3))), alike-pending e (record e { release = None; state = T_INREL }) refl refl refl o o)
    go false = both-idle e g o t

-- an endpoint that the request names as its peer is connected, and only such a one changes
pub both-named : (fd : ℕ) (f : Endpoint → Endpoint) (e : Endpoint) → SoundRequests e → (e.peer ≡ Some fd → Both f e) → Both (if_names fd f) e
both-named fd f e g h = go e.peer refl
  where
    keep : (b : Bool) → b ≡ false → SoundRequests (cond b (f e) e) × Alike e (cond b (f e) e)
    keep true i = absurd (false≢true (sym i))
    keep false i = both-of (λ z. z) e refl g

    change : (b : Bool) → b ≡ true → Both f e → SoundRequests (cond b (f e) e) × Alike e (cond b (f e) e)
    change true i q = q
    change false i q = absurd (false≢true i)

    by : (y : ℕ) → e.peer ≡ Some y → (d : Bool) → eqb y fd ≡ d → Both (if_names fd f) e
    by y i true j = change (names fd e.peer) (ap (names fd) i ∙ j) (h (i ∙ ap Some (eqb-true y fd j)))
    by y i false j = keep (names fd e.peer) (ap (names fd) i ∙ j)

    go : (o : Option ℕ) → e.peer ≡ o → Both (if_names fd f) e
    go None i = keep (names fd e.peer) (ap (names fd) i)
    go (Some y) i = by y i (eqb y fd) refl

pub good-opened : (profile : Profile) (prov : Prov) (nonblock : Bool) → SoundRequests (opened profile prov nonblock)
good-opened profile prov nonblock = record {
  asking = λ t. absurd (false≢true t);
  unlinked = λ t. refl;
  empty = λ t. (refl, refl, refl, refl);
  outstanding = λ t. refl;
  once = λ n. omega arith;
  below = λ n l. refl;
  known = λ t n. omega arith;
}
