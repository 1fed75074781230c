-- What t_snd and t_sndv do: what the entry adds to what was sent comes to wait at the peer.
use Rattle.std.proofs.Common.{ℕ, Bool, true, false, List, [], ◌∷◌, ◌++◌, ◌+◌, ◌-◌, ◌<◌, ◌≤◌, ◌≡◌, refl, sym, ap, ◌∙◌, subst, cond, eqb, not, ◌&&◌, ◌||◌, All, length, take, drop, map, Option, Some, arith}
use Rattle.std.proofs.lemmas.Bool.{false≢true, eqb-true, eq-eqb, ne_eqb}
use Rattle.std.proofs.lemmas.List.{append-nil}
use Rattle.std.proofs.lemmas.List.Elements.{All-drop, All-take}
use Rattle.xti_model.specs.declared.call.Call.{Call}
use Rattle.xti_model.specs.declared.entry.Go.{Go}
use Rattle.xti_model.specs.declared.entry.Go.TheVariants as go
use Rattle.xti_model.specs.declared.entry.Outcome.{Outcome}
use Rattle.xti_model.specs.declared.entry.Outcome.TheVariants.{Done, Part}
use Rattle.xti_model.specs.declared.entry.Reply.{Reply}
use Rattle.xti_model.specs.declared.entry.Reply.TheVariants.{Sent}
use Rattle.xti_model.specs.declared.profile.Providers.{Providers}
use Rattle.xti_model.specs.Endpoint.{Endpoint}
use Rattle.xti_model.specs.World.{World, at_endpoint, changed, endpoint}
use Rattle.xti_model.specs.Links.{linked, at_linked}
use Rattle.xti_model.specs.Symbols.{piece}
use Rattle.xti_model.specs.Sending.{has_ends}
use Rattle.xti_model.specs.Arguments.{has_more, is_expedited}
use Rattle.xti_model.specs.Events.{is_state, sending}
use Rattle.xti_model.specs.Plan.{Row, Refusal, answers, waits, loses, first, later, later_row, later_plan, if_open}
use Rattle.xti_model.specs.SentBytes.{AreBytes}
use Rattle.xti_model.specs.Step.{Step, step_of, send}
use Rattle.xti_model.specs.History.{Going}
use Rattle.xti_model.specs.Streams.{Connection, Sending, sent_by, got_by, sending_of, taken_after, same_kind, kind_has_ends, adds}
use Rattle.xti_model.specs.History.{taken_before}
use Rattle.xti_model.specs.Calls.Send as Send
use Rattle.xti_laws.proofs.ChangedEndpoints.{changed-append}
use Rattle.xti_laws_streams.specs.Laws.{is_release_receipt}
use Rattle.xti_laws_streams.proofs.Invariant.{View, view, waiting_in, HasView, LiveEnd}
use Rattle.xti_laws_streams.proofs.NonLinking.{sent-keeps_view, mark_flow-keeps_view}
use Rattle.xti_laws.proofs.StepWays.{never-loses, none-is, some-is, not-both}
use Rattle.xti_laws.proofs.ClearedRows.{un-not}
use Rattle.xti_laws_streams.proofs.Effects.{sends, changes_nothing, PeerBecomes, with_symbols, same}
use Rattle.xti_laws_streams.proofs.EffectsByWay.{EffectFor, EffectOf, by-effect, by-ways, on-it, view-is, update_keeps, all-keep_views, all_kept-view, linked-gets, linked-leaves}
use Rattle.xti_laws_streams.proofs.ReceiveCalls.{LiveEndpoint, kind-ends}
use Rattle.xti_laws_streams.proofs.UnderWay.{HasBytesLeft}

-- what waits of the kind k after symbols of the kind b were added
waits-symbols : (k b : Bool) (symbols more : List ℕ) (u : View) → more ≡ cond (same_kind k b) symbols [] → waiting_in k (with_symbols b symbols u) ≡ waiting_in k u ++ more
waits-symbols true true symbols more u h = ap (λ z. u.expedited ++ z) (sym h)
waits-symbols true false symbols more u h = sym (ap (λ z. u.expedited ++ z) h ∙ append-nil u.expedited)
waits-symbols false true symbols more u h = sym (ap (λ z. u.normal ++ z) h ∙ append-nil u.normal)
waits-symbols false false symbols more u h = ap (λ z. u.normal ++ z) (sym h)

all-taken : (taken now total : ℕ) → taken ≤ total → eqb (taken + now) total ≡ eqb now (total - taken)
all-taken taken now total h = by (eqb (taken + now) total) refl (eqb now (total - taken)) refl
  where
    by : (b : Bool) → eqb (taken + now) total ≡ b → (d : Bool) → eqb now (total - taken) ≡ d → eqb (taken + now) total ≡ eqb now (total - taken)
    by true i true j = i ∙ sym j
    by false i false j = i ∙ sym j
    by true i false j = absurd (not-both (eqb now (total - taken)) j (eq-eqb now (total - taken) (omega (arith, eqb-true (taken + now) total i))))
    by false i true j = absurd (not-both (eqb (taken + now) total) i (eq-eqb (taken + now) total (omega (arith, eqb-true now (total - taken) j))))

taken-now : (taken now : ℕ) → (taken + now) - taken ≡ now
taken-now taken now = omega arith

-- only the kind that is sent matters
same-ends : (k b : Bool) (f : Bool → Bool) (l : List ℕ) (d : Bool) → cond (same_kind k b) (piece l (d && f k)) [] ≡ cond (same_kind k b) (piece l (d && f b)) []
same-ends true true f l d = refl
same-ends true false f l d = refl
same-ends false true f l d = refl
same-ends false false f l d = refl

piece-open : (l : List ℕ) (b : Bool) → b ≡ false → piece l b ≡ l
piece-open l true h = absurd (false≢true (sym h))
piece-open l false h = refl

and-false : (a b d : Bool) → d ≡ false → (a && b && d) ≡ false
and-false true true d h = h
and-false true false d h = refl
and-false false b d h = refl

module _ (p : Providers) (c : Connection) (e : Endpoint) (l : LiveEnd p c (view e)) (bytes : List ℕ) (flags taken now : ℕ) where
  -- what comes to wait at the peer
  abbrev symbols : List ℕ
  symbols = piece (take now (drop taken bytes)) (Send.closes p e flags (length bytes - taken) now)

  closes-as-added : taken ≤ length bytes → (eqb (taken + now) (length bytes) && not (has_more flags) && kind_has_ends c (is_expedited flags)) ≡ Send.closes p e flags (length bytes - taken) now
  closes-as-added h = ap (λ z. z && not (has_more flags) && kind_has_ends c (is_expedited flags)) (all-taken taken now (length bytes) h) ∙ ap (λ z. eqb now (length bytes - taken) && not (has_more flags) && z) (sym (kind-ends p c e l (is_expedited flags)))

  -- is what the entry adds to what was sent
  adds-symbols : (k : Bool) → taken ≤ length bytes → adds c k (record { bytes = bytes; flags = flags }) taken (taken + now) ≡ cond (same_kind k (is_expedited flags)) symbols []
  adds-symbols k h =
      ap (λ z. cond (same_kind k (is_expedited flags)) (piece (take z (drop taken bytes)) (eqb (taken + now) (length bytes) && not (has_more flags) && kind_has_ends c k)) []) (taken-now taken now) ∙
      (same-ends k (is_expedited flags) (kind_has_ends c) (take now (drop taken bytes)) (eqb (taken + now) (length bytes) && not (has_more flags)) ∙
      ap (λ z. cond (same_kind k (is_expedited flags)) (piece (take now (drop taken bytes)) z) []) (closes-as-added h))

  -- on a byte stream it is bytes alone
  only-bytes : All (λ s. s < 256) bytes → is_expedited flags ≡ false → c.has_ends ≡ false → All (λ s. s < 256) symbols
  only-bytes a i j = subst (All (λ s. s < 256)) (sym (piece-open (take now (drop taken bytes)) (Send.closes p e flags (length bytes - taken) now)
      (and-false (eqb now (length bytes - taken)) (not (has_more flags)) (has_ends p e (is_expedited flags)) (ap (has_ends p e) i ∙ (kind-ends p c e l false ∙ j)))))
      (All-take (λ s. s < 256) now (drop taken bytes) (All-drop (λ s. s < 256) taken bytes a))

outcome-taken : (e : Endpoint) (total n : ℕ) → taken_after (Send.outcome e total n) ≡ Some n
outcome-taken e total n = go (eqb n total || e.nonblock)
  where
    go : (b : Bool) → taken_after (cond b (Done (Sent n)) (Part n)) ≡ Some n
    go true = refl
    go false = refl

outcome-gives : (c : Connection) (k : Bool) (e : Endpoint) (total n : ℕ) → got_by c k (Send.outcome e total n) ≡ []
outcome-gives c k e total n = go (eqb n total || e.nonblock)
  where
    go : (b : Bool) → got_by c k (cond b (Done (Sent n)) (Part n)) ≡ []
    go true = refl
    go false = refl

symbols-view : (b : Bool) (symbols : List ℕ) (e : Endpoint) → view (Send.received b symbols e) ≡ with_symbols b symbols (view e)
symbols-view true l e = refl
symbols-view false l e = refl

-- a later step that is refused adds nothing
adds-nothing : (c : Connection) (k : Bool) (s : Sending) (n : ℕ) → n < length s.bytes → adds c k s n n ≡ []
adds-nothing c k s n h = go (same_kind k (is_expedited s.flags))
  where
    empty : (b d f : Bool) → b ≡ false → piece [] (b && d && f) ≡ []
    empty true d f i = absurd (false≢true (sym i))
    empty false d f i = refl

    none : n - n ≡ 0
    none = omega arith

    go : (b : Bool) → cond b (piece (take (n - n) (drop n s.bytes)) (eqb n (length s.bytes) && not (has_more s.flags) && kind_has_ends c k)) [] ≡ []
    go false = refl
    go true = ap (λ z. piece (take z (drop n s.bytes)) (eqb n (length s.bytes) && not (has_more s.flags) && kind_has_ends c k)) none ∙ empty (eqb n (length s.bytes)) (not (has_more s.flags)) (kind_has_ends c k) (ne_eqb n (length s.bytes) (λ i. omega (arith, i)))

-- a refusal of a later step answers how much was taken before
abbrev Said : ℕ → Refusal → Type 0
Said n (answers r) = r ≡ Sent n
Said n (waits r) = r ≡ Sent n
Said n loses = Unit

later-said : (n : ℕ) (rows : List Row) (r : Refusal) → first (map (later_row n) rows) ≡ Some r → Said n r
later-said n [] r h = absurd (none-is r h)
later-said n (row ∷ rows) r h = go row.holds row.refusal h (later-said n rows r)
  where
    said : (q : Refusal) → later n q ≡ r → Said n r
    said (answers y) i = subst (Said n) i refl
    said (waits y) i = subst (Said n) i refl
    said loses i = subst (Said n) i tt

    go : (b : Bool) (q : Refusal) → cond b (Some (later n q)) (first (map (later_row n) rows)) ≡ Some r → (first (map (later_row n) rows) ≡ Some r → Said n r) → Said n r
    go true q i k = said q (some-is (later n q) r i)
    go false q i k = k i

module _ (p : Providers) (w : World) (c : Connection) (x : ℕ) (e : Endpoint) (g : Going) (a : LiveEndpoint p w c x e) (bytes : List ℕ) (flags : ℕ) (are_bytes : All (λ s. s < 256) bytes)
    (is_send : sending_of g.call ≡ Some (record { bytes = bytes; flags = flags })) (releases_not : (o : Outcome) → is_release_receipt g.call o ≡ false) where
  -- the world after so many bytes more are taken
  abbrev after_send : ℕ → ℕ → World
  after_send taken now = changed p w (Send.changes p x bytes flags taken now e)

  here : (taken now : ℕ) → HasView (view e) (endpoint p (after_send taken now) x)
  here taken now = subst (λ z. HasView (view e) (endpoint p z x)) (sym (changed-append p w (at_linked x e.peer (Send.received (is_expedited flags) (symbols p c e a.live bytes flags taken now))) (at_endpoint x (Send.sent p (is_expedited flags) (Send.closes p e flags (length bytes - taken) now) now) ∷ [])))
      (all_kept-view p (changed p w (at_linked x e.peer (Send.received (is_expedited flags) (symbols p c e a.live bytes flags taken now)))) x (view e) (at_endpoint x (Send.sent p (is_expedited flags) (Send.closes p e flags (length bytes - taken) now) now) ∷ []) (update_keeps x _ (sent-keeps_view p (is_expedited flags) (Send.closes p e flags (length bytes - taken) now) now), tt)
      (view-is p (changed p w (at_linked x e.peer (Send.received (is_expedited flags) (symbols p c e a.live bytes flags taken now)))) x e (linked-leaves p w x e.peer (Send.received (is_expedited flags) (symbols p c e a.live bytes flags taken now)) e a.not_itself a.is_open)))

  there : (taken now : ℕ) → PeerBecomes p w (after_send taken now) x (view e) (with_symbols (is_expedited flags) (symbols p c e a.live bytes flags taken now))
  there taken now y u n i j t l = linked-gets p w x y e.peer (Send.received (is_expedited flags) (symbols p c e a.live bytes flags taken now)) u (with_symbols (is_expedited flags) (symbols p c e a.live bytes flags taken now) u)
      (at_endpoint x (Send.sent p (is_expedited flags) (Send.closes p e flags (length bytes - taken) now) now) ∷ []) i j
      (λ z q. symbols-view (is_expedited flags) (symbols p c e a.live bytes flags taken now) z ∙ ap (with_symbols (is_expedited flags) (symbols p c e a.live bytes flags taken now)) q)
      (all-keep_views _ y (at_endpoint x (Send.sent p (is_expedited flags) (Send.closes p e flags (length bytes - taken) now) now) ∷ []) (update_keeps x _ (sent-keeps_view p (is_expedited flags) (Send.closes p e flags (length bytes - taken) now) now), tt)) l

  took : (parts taken now : ℕ) (peer : Option Endpoint) → taken_before g.so_far ≡ taken → taken ≤ length bytes → (is_state sending e ≡ true)
      → EffectFor p w c x (view e) g (Send.outcome e (length bytes) (taken + now)) (after_send taken now)
  took parts taken now peer b h q = sends q (is_expedited flags) (symbols p c e a.live bytes flags taken now) (here taken now)
      (λ u k. waits-symbols k (is_expedited flags) (symbols p c e a.live bytes flags taken now) _ u (added k))
      (λ i j. only-bytes p c e a.live bytes flags taken now are_bytes i j)
      (λ k. outcome-gives c k e (length bytes) (taken + now)) (releases_not (Send.outcome e (length bytes) (taken + now))) (there taken now)
    where
      added : (k : Bool) → sent_by c k g.so_far (sending_of g.call) (taken_after (Send.outcome e (length bytes) (taken + now))) ≡ cond (same_kind k (is_expedited flags)) (symbols p c e a.live bytes flags taken now) []
      added k = ap (λ z. sent_by c k g.so_far z (taken_after (Send.outcome e (length bytes) (taken + now)))) is_send
          ∙ (ap (λ z. sent_by c k g.so_far (Some (record { bytes = bytes; flags = flags })) z) (outcome-taken e (length bytes) (taken + now))
          ∙ (ap (λ z. adds c k (record { bytes = bytes; flags = flags }) z (taken + now)) b ∙ adds-symbols p c e a.live bytes flags taken now k h))

  -- the first step
  pub begin-effect : (parts : ℕ) → taken_before g.so_far ≡ 0 → (s : Step) → step_of p w (Send.plan p w x parts bytes flags 0) ≡ Some s → EffectOf p w c x (view e) g s
  begin-effect parts b s h = by-effect p w c x (view e) g (view-is p w x e a.is_open) (Send.plan_to p x parts bytes flags 0 e (linked p w x e)) refl refl (update_keeps x _ (mark_flow-keeps_view (is_expedited flags) true), tt)
      (λ q. took parts 0 (Send.taken_now (linked p w x e) e (is_expedited flags) (length bytes - 0)) (linked p w x e) b (omega arith) (un-not (is_state sending e) q.1.1.0))
      (λ f. absurd (never-loses (Send.rows p parts bytes flags 0 (linked p w x e) e) refl f))
      s (on-it p w x e (λ e. Send.plan_to p x parts bytes flags 0 e (linked p w x e)) s a.is_open h)

  -- a later step that is refused
  said-effect : (n : ℕ) (r : Reply) (w' : World) → taken_before g.so_far ≡ n → n < length bytes → r ≡ Sent n → HasView (view e) (endpoint p w' x) → PeerBecomes p w w' x (view e) same → EffectFor p w c x (view e) g (Done r) w'
  said-effect n r w' b h i l f = subst (λ z. EffectFor p w c x (view e) g (Done z) w') (sym i) (changes_nothing (record { sends = nothing; gets = λ k. refl; releases = releases_not (Done (Sent n)) }) l f)
    where
      nothing : (k : Bool) → sent_by c k g.so_far (sending_of g.call) (Some n) ≡ []
      nothing k = ap (λ z. sent_by c k g.so_far z (Some n)) is_send ∙ (ap (λ z. adds c k (record { bytes = bytes; flags = flags }) z n) b ∙ adds-nothing c k (record { bytes = bytes; flags = flags }) n h)

  pub later-effect : (parts n : ℕ) → taken_before g.so_far ≡ n → n < length bytes → (s : Step) → step_of p w (later_plan n (Send.plan p w x parts bytes flags n)) ≡ Some s → EffectOf p w c x (view e) g s
  later-effect parts n b m s h = by-ways p w c x (view e) g (view-is p w x e a.is_open) (later_plan n (Send.plan_to p x parts bytes flags n e (linked p w x e))) refl
      (λ r q. said-effect n r w b m (later-said n (Send.rows p parts bytes flags n (linked p w x e) e) (answers r) q) (view-is p w x e a.is_open) (λ y u i j k t l. l))
      (λ r q. said-effect n r w b m (later-said n (Send.rows p parts bytes flags n (linked p w x e) e) (waits r) q) (view-is p w x e a.is_open) (λ y u i j k t l. l))
      (λ q. took parts n (Send.taken_now (linked p w x e) e (is_expedited flags) (length bytes - n)) (linked p w x e) b (omega arith) (un-not (is_state sending e) q.1.1.0))
      (λ f. absurd (never-loses (map (later_row n) (Send.rows p parts bytes flags n (linked p w x e) e)) refl f))
      s (subst (λ z. step_of p w (later_plan n (if_open x z (λ e. Send.plan_to p x parts bytes flags n e (linked p w x e)))) ≡ Some s) a.is_open h)

-- either step
pub own-send : (p : Providers) (w : World) (c : Connection) (x : ℕ) (e : Endpoint) (a : LiveEndpoint p w c x e) (g : Go) (s : Step) → (call : Call) (parts : ℕ) (bytes : List ℕ) (flags : ℕ) → sending_of call ≡ Some (record { bytes = bytes; flags = flags }) → ((o : Outcome) → is_release_receipt call o ≡ false) → AreBytes bytes → (go : Go) → g ≡ go → HasBytesLeft bytes go → step_of p w (send p w x parts bytes flags go) ≡ Some s → EffectOf p w c x (view e) (record { call = call; so_far = g }) s
own-send p w c x e a g s call parts bytes flags n r b go.Begin i u h = begin-effect p w c x e (record { call = call; so_far = g }) a bytes flags b n r parts (ap taken_before i) s h
own-send p w c x e a g s call parts bytes flags n r b (go.More m) i u h = later-effect p w c x e (record { call = call; so_far = g }) a bytes flags b n r parts m (ap taken_before i) u s h
