-- Each effect of a step of an end keeps what holds of its connection.
use Rattle.std.proofs.Common.{ℕ, Bool, true, false, List, [], ◌∷◌, ◌++◌, ◌≡◌, refl, sym, ap, ◌∙◌, subst, eqb, ◌<◌, All, Some, append_assoc}
use Rattle.std.proofs.lemmas.Bool.{false≢true}
use Rattle.std.proofs.lemmas.List.{append-nil}
use Rattle.std.proofs.lemmas.List.Elements.{All-append, All-nil}
use Rattle.std.specs.List.{list_any}
use Rattle.xti_base.specs.Kinds.{same_state}
use Rattle.xti_base.specs.declared.kinds.State.{State}
use Rattle.xti_base.specs.declared.kinds.State.TheVariants.{T_OUTCON, T_DATAXFER, T_OUTREL, T_INREL}
use Rattle.xti_model.specs.declared.profile.Providers.{Providers}
use Rattle.xti_model.specs.World.{World, endpoint, state_of}
use Rattle.xti_model.specs.Events.{sending, receiving}
use Rattle.xti_model.specs.Streams.{Made, Connection, is_over, sent_made, got_made}
use Rattle.xti_laws_streams.specs.Laws.{receives_release}
use Rattle.xti_laws_streams.proofs.ConnectionEnds.{End, with_step}
use Rattle.xti_laws_streams.proofs.Invariant.{View, waiting_in, HasView, NotNamedBy, HoldsRest, GotAll, LiveEnd, LinkedEnd, BothLive, OneLive, NoneLive, PeerGone, rest_left, was_broken, SoundWhere}
use Rattle.xti_laws.specs.Requests.{is_connected}
use Rattle.xti_laws_streams.proofs.Refusals.{state-of_view, connected-lasts}
use Rattle.xti_laws_streams.proofs.Effects.{TransfersNothing, SendsNothing, GetsNothing, PeerBecomes, same, with_symbols, with_release, cut_off, NamesNobody, Effect, changes_nothing, confirms, sends, receives, leaves, breaks, sends_release, sends_last, gets_release, gets_last, rest-prefixes, gone-prefixes, more-sent, rest-same, rest-back, all-same, all-back, prefixes-same, gone-same, or-before}

-- States in which a call cannot be made.

no-send : {A : Type 0} (s : State) → list_any (same_state s) sending ≡ true → s ≡ T_OUTREL → A
no-send s h e = absurd (false≢true (ap (λ z. list_any (same_state z) sending) (sym e) ∙ h))

no-read : {A : Type 0} (s : State) → list_any (same_state s) receiving ≡ true → s ≡ T_INREL → A
no-read s h e = absurd (false≢true (ap (λ z. list_any (same_state z) receiving) (sym e) ∙ h))

-- tests by which two states differ
abbrev is_receiving : State → Bool
is_receiving s = list_any (same_state s) receiving

abbrev is_data : State → Bool
is_data s = list_any (same_state s) (T_DATAXFER ∷ [])

abbrev is_out : State → Bool
is_out s = list_any (same_state s) (T_OUTCON ∷ [])

-- one state is not two
two-states : {A : Type 0} (test : State → Bool) (s a b : State) → s ≡ a → s ≡ b → test a ≡ true → test b ≡ false → A
two-states test s a b h k i j = absurd (false≢true (sym j ∙ (ap test (sym k) ∙ (ap test h ∙ i))))

-- What waits, before and after.

nothing-waits : (k : Bool) (v : View) → v.normal ≡ [] → v.expedited ≡ [] → waiting_in k v ≡ []
nothing-waits true v h i = i
nothing-waits false v h i = h

rest-all : (x y : End) (v : View) → v.normal ≡ [] → v.expedited ≡ [] → HoldsRest x y v → GotAll x y
rest-all x y v h i j k = sym (ap (λ l. x.got k ++ l) (nothing-waits k v h i) ∙ append-nil (x.got k)) ∙ j k

both-empty : (a b : List ℕ) → a ++ b ≡ [] → (a ≡ []) × (b ≡ [])
both-empty [] b h = (refl, h)
both-empty (n ∷ a) b h = absurd (cons-nil n (a ++ b) h)
  where
    cons-nil : (n : ℕ) (l : List ℕ) → (n ∷ l) ≡ [] → ⊥
    cons-nil n l h = cc

symbols-live : (p : Providers) (c : Connection) (e : Bool) (symbols : List ℕ) (u : View) → LiveEnd p c u → (e ≡ false → c.has_ends ≡ false → All (λ s. s < 256) symbols) → LiveEnd p c (with_symbols e symbols u)
symbols-live p c true symbols u l h = record { in_connection = l.in_connection; without_target = l.without_target; ends = l.ends; stream = l.stream }
symbols-live p c false symbols u l h = record { in_connection = l.in_connection; without_target = l.without_target; ends = l.ends; stream = λ n. All-append (λ s. s < 256) u.normal symbols (l.stream n) (h refl n) }

symbols-state : (e : Bool) (symbols : List ℕ) (u : View) → (with_symbols e symbols u).state ≡ u.state
symbols-state true symbols u = refl
symbols-state false symbols u = refl

symbols-peer : (e : Bool) (symbols : List ℕ) (u : View) → (with_symbols e symbols u).peer ≡ u.peer
symbols-peer true symbols u = refl
symbols-peer false symbols u = refl

symbols-no_release : (e : Bool) (symbols : List ℕ) (u : View) → (with_symbols e symbols u).release ≡ u.release
symbols-no_release true symbols u = refl
symbols-no_release false symbols u = refl

-- what a peer left does not depend on the state
state-gone : (x y : End) (v : View) (s : State) → PeerGone x y v → PeerGone x y (record v { state = s })
state-gone x y v s (rest_left n r) = rest_left n r
state-gone x y v s (was_broken n d a b q) = was_broken n d a b q

state-live : (p : Providers) (c : Connection) (v : View) (s : State) → LiveEnd p c v → is_connected s ≡ true → LiveEnd p c (record v { state = s })
state-live p c v s l h = record { in_connection = h; without_target = l.without_target; ends = l.ends; stream = l.stream }

module _ (p : Providers) (w w' : World) (c : Connection) (x y : End) (m : Made) (after : m.after ≡ state_of (endpoint p w' x.fd)) where
  lasts : (v : View) → HasView v (endpoint p w' x.fd) → is_connected v.state ≡ true → is_over m.after ≡ false
  lasts v l h = ap is_over (after ∙ state-of_view v (endpoint p w' x.fd) l) ∙ connected-lasts v.state h

  both-last : (v : View) → HasView v (endpoint p w' x.fd) → is_connected v.state ≡ true → BothLive p w' c (with_step c x m) y → SoundWhere p w' c (with_step c x m) y (is_over m.after) false
  both-last v l h b = subst (λ o. SoundWhere p w' c (with_step c x m) y o false) (sym (lasts v l h)) b

  one-last : (v : View) → HasView v (endpoint p w' x.fd) → is_connected v.state ≡ true → OneLive p w' c (with_step c x m) y → SoundWhere p w' c (with_step c x m) y (is_over m.after) true
  one-last v l h b = subst (λ o. SoundWhere p w' c (with_step c x m) y o true) (sym (lasts v l h)) b

  both-end : is_over m.after ≡ true → OneLive p w' c y (with_step c x m) → SoundWhere p w' c (with_step c x m) y (is_over m.after) false
  both-end o b = subst (λ d. SoundWhere p w' c (with_step c x m) y d false) (sym o) b

  one-end : is_over m.after ≡ true → NoneLive (with_step c x m) y → SoundWhere p w' c (with_step c x m) y (is_over m.after) true
  one-end o b = subst (λ d. SoundWhere p w' c (with_step c x m) y d true) (sym o) b

  -- x as it is after a step that receives nothing and keeps its view
  linked-x : (v u u' : View) → LinkedEnd p w c x y v u → HasView v (endpoint p w' x.fd) → GetsNothing c m → receives_release m ≡ false → u'.state ≡ u.state → LinkedEnd p w' c (with_step c x m) y v u'
  linked-x v u u' h l g r s = record {
    here = l;
    live = h.live;
    peer = h.peer;
    holds_rest = rest-same c x y m v g h.holds_rest;
    release = λ i. s ∙ h.release i;
    released = λ i. (let q = h.released (or-before c x y m r i) in (q.0, s ∙ q.1, all-same c x y m g q.2));
  }

  -- y as it is after a step of x that sends nothing, and after which x has sent the release if it had before
  linked-y : (v v' u : View) → LinkedEnd p w c y x u v → HasView u (endpoint p w' y.fd) → SendsNothing c m → ((v.state ≡ T_OUTREL) → v'.state ≡ T_OUTREL) → LinkedEnd p w' c y (with_step c x m) u v'
  linked-y v v' u h l g s = record {
    here = l;
    live = h.live;
    peer = h.peer;
    holds_rest = rest-back c x y m u g h.holds_rest;
    release = λ i. s (h.release i);
    released = λ i. (let q = h.released i in (q.0, s q.1, all-back c x y m g q.2));
  }

  peer-view : (b : BothLive p w c x y) (f : View → View) → eqb y.fd x.fd ≡ false → PeerBecomes p w w' x.fd b.v f → HasView (f b.u) (endpoint p w' y.fd)
  peer-view b f n g = g y.fd b.u n b.x_end.peer b.y_end.peer b.y_end.live.without_target b.y_end.here

  -- the life of x ends, and y keeps what x sent
  stays-linked : (b : BothLive p w c x y) (u' : View) → HasView u' (endpoint p w' y.fd) → LiveEnd p c u' → u'.peer ≡ b.u.peer → u'.state ≡ b.u.state → ((k : Bool) → waiting_in k u' ≡ waiting_in k b.u) → NamesNobody (endpoint p w' x.fd) → SendsNothing c m → GetsNothing c m
      → ((with_step c x m).got_release ≡ true → (b.u.state ≡ T_OUTREL) × GotAll (with_step c x m) y) → OneLive p w' c y (with_step c x m)
  stays-linked b u' l i e s q g n t r = record {
    v = u';
    here = l;
    live = i;
    not_named = g y.fd;
    peer_gone = rest_left (e ∙ b.y_end.peer) (λ k. (ap (λ z. y.got k ++ z) (q k) ∙ rest-back c x y m b.u n b.y_end.holds_rest k));
    released = λ j. (let z = b.y_end.released j in (s ∙ z.0, all-back c x y m n z.2));
    other = prefixes-same c x y m t (rest-prefixes x y b.v b.x_end.holds_rest);
    other_released = λ j. (let z = r j in (s ∙ z.0, z.1));
  }

  -- where the release was received before the step
  before-released : (b : BothLive p w c x y) → GetsNothing c m → receives_release m ≡ false → (with_step c x m).got_release ≡ true → (b.u.state ≡ T_OUTREL) × GotAll (with_step c x m) y
  before-released b t r j = let q = b.x_end.released (or-before c x y m r j) in (q.1, all-same c x y m t q.2)

  -- x moves to another state of its connection and receives nothing: it had received no release
  moved-x : (b : BothLive p w c x y) (s : State) (u : View) → is_connected s ≡ true → HasView (record b.v { state = s }) (endpoint p w' x.fd) → GetsNothing c m → receives_release m ≡ false → u.state ≡ b.u.state → (b.v.state ≡ T_INREL → ⊥)
      → LinkedEnd p w' c (with_step c x m) y (record b.v { state = s }) u
  moved-x b s u h l g r same n = record {
    here = l;
    live = state-live p c b.v s b.x_end.live h;
    peer = b.x_end.peer;
    holds_rest = rest-same c x y m b.v g b.x_end.holds_rest;
    release = λ i. same ∙ b.x_end.release i;
    released = λ i. absurd (n (b.x_end.released (or-before c x y m r i)).0);
  }

  pub both-sound : (b : BothLive p w c x y) → eqb y.fd x.fd ≡ false → Effect p w w' c x.fd b.v m → SoundWhere p w' c (with_step c x m) y (is_over m.after) false
  both-sound b n (changes_nothing t l f) = both-last b.v l b.x_end.live.in_connection (record {
    v = b.v;
    u = b.u;
    x_end = linked-x b.v b.u b.u b.x_end l t.gets t.releases refl;
    y_end = linked-y b.v b.v b.u b.y_end (peer-view b same n f) t.sends (λ i. i);
  })
  both-sound b n (confirms t s l f) = both-last (record b.v { state = T_DATAXFER }) l refl (record {
    v = record b.v { state = T_DATAXFER };
    u = b.u;
    x_end = moved-x b T_DATAXFER b.u refl l t.gets t.releases refl (λ i. two-states is_out b.v.state T_OUTCON T_INREL s i refl refl);
    y_end = linked-y b.v (record b.v { state = T_DATAXFER }) b.u b.y_end (peer-view b same n f) t.sends (λ i. two-states is_out b.v.state T_OUTCON T_OUTREL s i refl refl);
  })
  both-sound b n (sends s e symbols l t a g r f) = both-last b.v l b.x_end.live.in_connection (record {
    v = b.v;
    u = with_symbols e symbols b.u;
    x_end = linked-x b.v b.u (with_symbols e symbols b.u) b.x_end l g r (symbols-state e symbols b.u);
    y_end = record {
      here = peer-view b (with_symbols e symbols) n f;
      live = symbols-live p c e symbols b.u b.y_end.live a;
      peer = symbols-peer e symbols b.u ∙ b.y_end.peer;
      holds_rest = λ k. (ap (λ z. y.got k ++ z) (t b.u k) ∙ (sym (append_assoc (y.got k) (waiting_in k b.u) (sent_made c k m)) ∙ ap (λ z. z ++ sent_made c k m) (b.y_end.holds_rest k)));
      release = λ i. b.y_end.release (sym (symbols-no_release e symbols b.u) ∙ i);
      released = λ i. no-send b.v.state s (b.y_end.released i).1;
    };
  })
  both-sound b n (receives s normal expedited l t g a r f) = both-last (record b.v { normal = normal; expedited = expedited }) l b.x_end.live.in_connection (record {
    v = record b.v { normal = normal; expedited = expedited };
    u = b.u;
    x_end = record {
      here = l;
      live = record { in_connection = b.x_end.live.in_connection; without_target = b.x_end.live.without_target; ends = b.x_end.live.ends; stream = a };
      peer = b.x_end.peer;
      holds_rest = λ k. (append_assoc (x.got k) (got_made c k m) (waiting_in k (record b.v { normal = normal; expedited = expedited })) ∙ (ap (λ z. x.got k ++ z) (g k) ∙ b.x_end.holds_rest k));
      release = b.x_end.release;
      released = λ i. no-read b.v.state s (b.x_end.released (or-before c x y m r i)).0;
    };
    y_end = linked-y b.v (record b.v { normal = normal; expedited = expedited }) b.u b.y_end (peer-view b same n f) t (λ i. i);
  })
  both-sound b n (leaves t o z f) = both-end o (stays-linked b b.u (peer-view b same n f) b.y_end.live refl refl (λ k. refl) z t.sends t.gets (before-released b t.gets t.releases))
  both-sound b n (breaks t o z f) = both-end o (record {
    v = cut_off b.u;
    here = peer-view b cut_off n f;
    live = record { in_connection = b.y_end.live.in_connection; without_target = refl; ends = b.y_end.live.ends; stream = λ i. All-nil (λ s. s < 256) };
    not_named = z y.fd;
    peer_gone = was_broken refl refl refl refl (more-sent c x y m (rest-prefixes y x b.u b.y_end.holds_rest));
    released = λ i. (let q = b.y_end.released i in (q.0, all-back c x y m t.sends q.2));
    other = prefixes-same c x y m t.gets (rest-prefixes x y b.v b.x_end.holds_rest);
    other_released = before-released b t.gets t.releases;
  })
  both-sound b n (sends_release t s l f) = both-last (record b.v { state = T_OUTREL }) l refl (record {
    v = record b.v { state = T_OUTREL };
    u = with_release b.u;
    x_end = moved-x b T_OUTREL (with_release b.u) refl l t.gets t.releases refl (λ i. two-states is_data b.v.state T_DATAXFER T_INREL s i refl refl);
    y_end = record {
      here = peer-view b with_release n f;
      live = record { in_connection = b.y_end.live.in_connection; without_target = b.y_end.live.without_target; ends = b.y_end.live.ends; stream = b.y_end.live.stream };
      peer = b.y_end.peer;
      holds_rest = rest-back c x y m b.u t.sends b.y_end.holds_rest;
      release = λ i. refl;
      released = λ i. two-states is_data b.v.state T_DATAXFER T_OUTREL s (b.y_end.released i).1 refl refl;
    };
  })
  both-sound b n (sends_last t s o z f) = both-end o (stays-linked b (with_release b.u) (peer-view b with_release n f)
      (record { in_connection = b.y_end.live.in_connection; without_target = b.y_end.live.without_target; ends = b.y_end.live.ends; stream = b.y_end.live.stream }) refl refl (λ k. refl) z t.sends t.gets (before-released b t.gets t.releases))
  both-sound b n (gets_release s r h i l t g f) = both-last (record b.v { state = T_INREL; release = false }) l refl (record {
    v = record b.v { state = T_INREL; release = false };
    u = b.u;
    x_end = record {
      here = l;
      live = record { in_connection = refl; without_target = b.x_end.live.without_target; ends = b.x_end.live.ends; stream = b.x_end.live.stream };
      peer = b.x_end.peer;
      holds_rest = rest-same c x y m b.v g b.x_end.holds_rest;
      release = λ j. absurd (false≢true j);
      released = λ j. (refl, b.x_end.release r, all-same c x y m g (rest-all x y b.v h i b.x_end.holds_rest));
    };
    y_end = linked-y b.v (record b.v { state = T_INREL; release = false }) b.u b.y_end (peer-view b same n f) t (λ j. two-states is_data b.v.state T_DATAXFER T_OUTREL s j refl refl);
  })
  both-sound b n (gets_last r h i o z t g f) = both-end o (stays-linked b b.u (peer-view b same n f) b.y_end.live refl refl (λ k. refl) z t g (λ j. (b.x_end.release r, all-same c x y m g (rest-all x y b.v h i b.x_end.holds_rest))))

  both-ended : (b : OneLive p w c x y) → SendsNothing c m → GetsNothing c m → ((with_step c x m).got_release ≡ true → GotAll (with_step c x m) y) → NoneLive (with_step c x m) y
  both-ended b t g r = record {
    one = prefixes-same c x y m g (gone-prefixes x y b.v b.peer_gone);
    other = more-sent c x y m b.other;
    one_released = r;
    other_released = λ i. all-back c x y m t (b.other_released i).1;
  }

  was-released : (b : OneLive p w c x y) → GetsNothing c m → receives_release m ≡ false → (with_step c x m).got_release ≡ true → GotAll (with_step c x m) y
  was-released b g r i = all-same c x y m g (b.released (or-before c x y m r i)).1

  -- where the release waits and no data does, all was received
  gone-all : (v : View) → PeerGone x y v → v.release ≡ true → v.normal ≡ [] → v.expedited ≡ [] → (v.peer ≡ Some y.fd) × HoldsRest x y v × GotAll x y
  gone-all v (rest_left n q) r h i = (n, q, rest-all x y v h i q)
  gone-all v (was_broken n d a b q) r h i = absurd (false≢true (sym d ∙ r))

  reads-gone : (v : View) (normal expedited : List ℕ) → ((k : Bool) → got_made c k m ++ waiting_in k (record v { normal = normal; expedited = expedited }) ≡ waiting_in k v) → PeerGone x y v → PeerGone (with_step c x m) y (record v { normal = normal; expedited = expedited })
  reads-gone v normal expedited g (rest_left n r) = rest_left n (λ k. (append_assoc (x.got k) (got_made c k m) (waiting_in k (record v { normal = normal; expedited = expedited })) ∙ (ap (λ z. x.got k ++ z) (g k) ∙ r k)))
  reads-gone v normal expedited g (was_broken n d a b q) =
      let none : (k : Bool) → (got_made c k m ≡ []) × (waiting_in k (record v { normal = normal; expedited = expedited }) ≡ []) = λ k. both-empty (got_made c k m) (waiting_in k (record v { normal = normal; expedited = expedited })) (g k ∙ nothing-waits k v a b) in
      was_broken n d (none false).1 (none true).1 (prefixes-same c x y m (λ k. (none k).0) q)

  -- x moves to another state of its connection, and transfers nothing: it had neither received nor sent a release
  one-moved : (b : OneLive p w c x y) (s : State) → is_connected s ≡ true → NotNamedBy x.fd (endpoint p w' y.fd) → TransfersNothing c m.going m.outcome → HasView (record b.v { state = s }) (endpoint p w' x.fd) → (b.v.state ≡ T_INREL → ⊥) → (b.v.state ≡ T_OUTREL → ⊥)
      → SoundWhere p w' c (with_step c x m) y (is_over m.after) true
  one-moved b s h a t l n k = one-last (record b.v { state = s }) l h (record {
    v = record b.v { state = s };
    here = l;
    live = state-live p c b.v s b.live h;
    not_named = a;
    peer_gone = state-gone (with_step c x m) y b.v s (gone-same c x y m b.v t.gets b.peer_gone);
    released = λ i. absurd (n (b.released (or-before c x y m t.releases i)).0);
    other = more-sent c x y m b.other;
    other_released = λ i. absurd (k (b.other_released i).0);
  })

  pub one-sound : (b : OneLive p w c x y) → NotNamedBy x.fd (endpoint p w' y.fd) → Effect p w w' c x.fd b.v m → SoundWhere p w' c (with_step c x m) y (is_over m.after) true
  one-sound b a (changes_nothing t l f) = one-last b.v l b.live.in_connection (record {
    v = b.v;
    here = l;
    live = b.live;
    not_named = a;
    peer_gone = gone-same c x y m b.v t.gets b.peer_gone;
    released = λ i. (let q = b.released (or-before c x y m t.releases i) in (q.0, all-same c x y m t.gets q.1));
    other = more-sent c x y m b.other;
    other_released = λ i. (let q = b.other_released i in (q.0, all-back c x y m t.sends q.1));
  })
  one-sound b a (confirms t s l f) = one-moved b T_DATAXFER refl a t l (λ i. two-states is_out b.v.state T_OUTCON T_INREL s i refl refl) (λ i. two-states is_out b.v.state T_OUTCON T_OUTREL s i refl refl)
  one-sound b a (sends s e symbols l t q g r f) = one-last b.v l b.live.in_connection (record {
    v = b.v;
    here = l;
    live = b.live;
    not_named = a;
    peer_gone = gone-same c x y m b.v g b.peer_gone;
    released = λ i. (let z = b.released (or-before c x y m r i) in (z.0, all-same c x y m g z.1));
    other = more-sent c x y m b.other;
    other_released = λ i. no-send b.v.state s (b.other_released i).0;
  })
  one-sound b a (receives s normal expedited l t g q r f) = one-last (record b.v { normal = normal; expedited = expedited }) l b.live.in_connection (record {
    v = record b.v { normal = normal; expedited = expedited };
    here = l;
    live = record { in_connection = b.live.in_connection; without_target = b.live.without_target; ends = b.live.ends; stream = q };
    not_named = a;
    peer_gone = reads-gone b.v normal expedited g b.peer_gone;
    released = λ i. no-read b.v.state s (b.released (or-before c x y m r i)).0;
    other = more-sent c x y m b.other;
    other_released = λ i. (let z = b.other_released i in (z.0, all-back c x y m t z.1));
  })
  one-sound b a (leaves t o z f) = one-end o (both-ended b t.sends t.gets (was-released b t.gets t.releases))
  one-sound b a (breaks t o z f) = one-end o (both-ended b t.sends t.gets (was-released b t.gets t.releases))
  one-sound b a (sends_release t s l f) = one-moved b T_OUTREL refl a t l (λ i. two-states is_data b.v.state T_DATAXFER T_INREL s i refl refl) (λ i. two-states is_data b.v.state T_DATAXFER T_OUTREL s i refl refl)
  one-sound b a (sends_last t s o z f) = one-end o (both-ended b t.sends t.gets (was-released b t.gets t.releases))
  one-sound b a (gets_release s r h i l t g f) = (let q = gone-all b.v b.peer_gone r h i in one-last (record b.v { state = T_INREL; release = false }) l refl (record {
    v = record b.v { state = T_INREL; release = false };
    here = l;
    live = record { in_connection = refl; without_target = b.live.without_target; ends = b.live.ends; stream = b.live.stream };
    not_named = a;
    peer_gone = rest_left q.0 (rest-same c x y m b.v g q.1);
    released = λ j. (refl, all-same c x y m g q.2);
    other = more-sent c x y m b.other;
    other_released = λ j. two-states is_data b.v.state T_DATAXFER T_OUTREL s (b.other_released j).0 refl refl;
  }))
  one-sound b a (gets_last r h i o z t g f) = one-end o (both-ended b t g (λ j. all-same c x y m g (gone-all b.v b.peer_gone r h i).2))
