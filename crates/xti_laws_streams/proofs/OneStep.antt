-- Each step of a legal history keeps what holds of a connection.
use Rattle.std.proofs.Common.{ℕ, Bool, true, false, [], ◌∷◌, ◌≡◌, refl, sym, ap, ◌∙◌, subst, cond, eqb, not, Option, Some, None}
use Rattle.std.proofs.lemmas.Bool.{false≢true, eqb-true, eq-eqb, and_parts, not-true}
use Rattle.std.specs.List.{list_any}
use Rattle.xti_base.specs.Kinds.{same_state}
use Rattle.xti_base.specs.declared.kinds.State.TheVariants.{T_INCON}
use Rattle.xti_model.specs.declared.call.Call.{Call}
use Rattle.xti_model.specs.declared.call.Call.TheVariants as call
use Rattle.xti_model.specs.declared.entry.Go.{Go}
use Rattle.xti_model.specs.declared.profile.Providers.{Providers}
use Rattle.xti_model.specs.Endpoint.{Endpoint}
use Rattle.xti_model.specs.World.{World, endpoint, state_of}
use Rattle.xti_model.specs.Links.{names}
use Rattle.xti_model.specs.Events.{is_state}
use Rattle.xti_model.specs.Plan.{Plan}
use Rattle.xti_model.specs.Step.{Step, plan, step, step_of}
use Rattle.xti_model.specs.Touched.{fd_of}
use Rattle.xti_model.specs.Streams.{Connection, Made, is_over}
use Rattle.xti_laws.proofs.TableWalk.{told-fd, ToldIs}
use Rattle.xti_laws_streams.proofs.ConnectionEnds.{End, with_step, after_step, counts}
use Rattle.xti_laws_streams.proofs.Invariant.{View, view, HasView, NotNamedBy, LiveEnd, PeerGone, rest_left, was_broken, SoundConnection, SoundWhere}
use Rattle.xti_laws.specs.Requests.{is_connected}
use Rattle.xti_laws.specs.Requests.{SoundLinks}
use Rattle.xti_model.specs.SentBytes.{SendsBytes}
use Rattle.xti_laws_streams.proofs.UnderWay.{SendHasBytesLeft}
use Rattle.xti_laws_streams.proofs.NonLinking.{peer_at, call_fd, plan-non_linking}
use Rattle.xti_laws.proofs.StepWays.{Way, takes, loses_all, is_refused, is_marked, way, not-both, flip}
use Rattle.xti_laws.proofs.ClearedRows.{un-not}
use Rattle.xti_laws_streams.proofs.Bystanders.{plan-not_named, step-keeps}
use Rattle.xti_laws_streams.proofs.AcceptByOthers.{accept-step}
use Rattle.xti_laws.proofs.AcceptEnds.{not-asked}
use Rattle.xti_laws_streams.proofs.CallsOfOthers.{outside}
use Rattle.xti_laws_streams.proofs.Effects.{Effect}
use Rattle.xti_laws_streams.proofs.EffectsKeep.{both-sound, one-sound}
use Rattle.xti_laws_streams.proofs.EachCall.{own-effect}

-- the step of a call, as lives have it
abbrev pub made_by_step : Call → Go → Step → Made
made_by_step c g s = record { going = record { call = c; so_far = g }; outcome = s.outcome; after = s.after }

-- the state after a step is that of the plan's descriptor
after-is : (p : Providers) (w : World) (x : Plan) (s : Step) → step_of p w x ≡ Some s → s.after ≡ state_of (endpoint p s.world x.fd)
after-is p w x s h = go (way p w x s h)
  where
    go : Way p w x s → s.after ≡ state_of (endpoint p s.world x.fd)
    go (takes i j) = subst (λ t. t.after ≡ state_of (endpoint p t.world x.fd)) j refl
    go (loses_all n i j) = subst (λ t. t.after ≡ state_of (endpoint p t.world x.fd)) j refl
    go (is_refused r i j) = subst (λ t. t.after ≡ state_of (endpoint p t.world x.fd)) j refl
    go (is_marked r i j) = subst (λ t. t.after ≡ state_of (endpoint p t.world x.fd)) j refl

told-is : (p : Providers) (w : World) (c : Call) (g : Go) (x : ℕ) (o : Option ℕ) → ToldIs p w c g o → names x o ≡ true → (plan p w c g).fd ≡ x
told-is p w c g x None t i = absurd (false≢true i)
told-is p w c g x (Some fd) t i = t ∙ eqb-true fd x i

own-after : (p : Providers) (w : World) (c : Call) (g : Go) (x : ℕ) (s : Step) → names x (fd_of c) ≡ true → step p w c g ≡ Some s → s.after ≡ state_of (endpoint p s.world x)
unfolding step
own-after p w c g x s i h = after-is p w (plan p w c g) s h ∙ ap (λ z. state_of (endpoint p s.world z)) (told-is p w c g x (fd_of c) (told-fd p w c g) i)

-- a call of the end x does not make another endpoint name x as its peer
own-not_named : (p : Providers) (w : World) (c : Call) (g : Go) (x y : ℕ) (v : View) (s : Step) → HasView v (endpoint p w x) → is_connected v.state ≡ true → names x (fd_of c) ≡ true → NotNamedBy x (endpoint p w y) → step p w c g ≡ Some s → NotNamedBy x (endpoint p s.world y)
unfolding step plan
own-not_named p w (call.TAccept fd resfd seq opt udata) g x y v s l k i a h = accept-step p w (NotNamedBy x) y fd.0 resfd.0 seq.0 opt udata s
    (λ e r n o b q f. absurd (not-both (is_state (T_INCON ∷ []) e) (asked e o) (un-not (is_state (T_INCON ∷ []) e) q.1.0))) a h
  where
    asked : (e : Endpoint) → endpoint p w fd.0 ≡ Some e → is_state (T_INCON ∷ []) e ≡ false
    asked e o = ap (λ u. list_any (same_state u.state) (T_INCON ∷ [])) (subst (HasView v) (ap (endpoint p w) (sym (eqb-true fd.0 x i)) ∙ o) l) ∙ not-asked v.state k
own-not_named p w other g x y v s l k i a h = step-keeps p w (plan p w other g) (NotNamedBy x) y (plan-not_named x (call_fd other) (peer_at (endpoint p w (call_fd other))) y (plan p w other g) (plan-non_linking p w other g refl)) a s h

-- an open endpoint with this view
record OpenWithView (v : View) (o : Option Endpoint) : Type 0 where
  e : Endpoint
  is_open : o ≡ Some e
  has_view : view e ≡ v

open-with_view : (v : View) (o : Option Endpoint) → HasView v o → OpenWithView v o
open-with_view v None l = absurd l
open-with_view v (Some e) l = record { e = e; is_open = refl; has_view = l }

live-effect : (p : Providers) (w : World) (c : Connection) (x : ℕ) (v : View) (call : Call) (g : Go) (s : Step) → HasView v (endpoint p w x) → LiveEnd p c v → names x v.peer ≡ false → names x (fd_of call) ≡ true → SendsBytes call → SendHasBytesLeft call g → step p w call g ≡ Some s
    → Effect p w s.world c x v (made_by_step call g s)
live-effect p w c x v call g s l k n i b m h =
    let o : OpenWithView v (endpoint p w x) = open-with_view v (endpoint p w x) l in
    subst (λ u. Effect p w s.world c x u (made_by_step call g s)) o.has_view
    (own-effect p w c x o.e call g s (record { is_open = o.is_open; live = subst (LiveEnd p c) (sym o.has_view) k; not_itself = ap (λ u. names x u.peer) o.has_view ∙ n }) i b m h)

gone-not_itself : (x y : End) (v : View) → PeerGone x y v → eqb y.fd x.fd ≡ false → names x.fd v.peer ≡ false
gone-not_itself x y v (rest_left i r) n = ap (names x.fd) i ∙ n
gone-not_itself x y v (was_broken i d a b q) n = ap (names x.fd) i

-- a step of x in its life
own-step : (p : Providers) (w : World) (c : Connection) (x y : End) (call : Call) (g : Go) (s : Step) (d : Bool) → eqb y.fd x.fd ≡ false → SoundWhere p w c x y false d → names x.fd (fd_of call) ≡ true → SendsBytes call → SendHasBytesLeft call g → step p w call g ≡ Some s
    → SoundWhere p s.world c (with_step c x (made_by_step call g s)) y (is_over s.after) d
own-step p w c x y call g s false n h i b m k = both-sound p w s.world c x y (made_by_step call g s) (own-after p w call g x.fd s i k) h n
    (live-effect p w c x.fd h.v call g s h.x_end.here h.x_end.live (ap (names x.fd) h.x_end.peer ∙ n) i b m k)
own-step p w c x y call g s true n h i b m k = one-sound p w s.world c x y (made_by_step call g s) (own-after p w call g x.fd s i k) h
    (own-not_named p w call g x.fd y.fd h.v s h.here h.live.in_connection i h.not_named k)
    (live-effect p w c x.fd h.v call g s h.here h.live (gone-not_itself x y h.v h.peer_gone n) i b m k)

pub swap : (p : Providers) (w : World) (c : Connection) (x y : End) (b d : Bool) → SoundWhere p w c x y b d → SoundWhere p w c y x d b
swap p w c x y false false h = record { v = h.u; u = h.v; x_end = h.y_end; y_end = h.x_end }
swap p w c x y false true h = h
swap p w c x y true false h = h
swap p w c x y true true h = record { one = h.other; other = h.one; one_released = h.other_released; other_released = h.one_released }

-- whichever end makes the step, or neither
pub step-sound : (p : Providers) (w : World) (c : Connection) (x y : End) (call : Call) (g : Go) (s : Step) → SoundLinks p w → eqb y.fd x.fd ≡ false → SoundConnection p w c x y → SendsBytes call → SendHasBytesLeft call g → step p w call g ≡ Some s
    → SoundConnection p s.world c (after_step c x (made_by_step call g s)) (after_step c y (made_by_step call g s))
step-sound p w c x y call g s f n h b m k = go (counts x made) (counts y made) refl refl
  where
    made : Made
    made = made_by_step call g s

    to : (u v : Bool) → counts x made ≡ u → counts y made ≡ v → SoundConnection p s.world c (cond u (with_step c x made) x) (cond v (with_step c y made) y) → SoundConnection p s.world c (after_step c x made) (after_step c y made)
    to u v i j q = subst (λ z. SoundConnection p s.world c (cond z (with_step c x made) x) (after_step c y made)) (sym i) (subst (λ z. SoundConnection p s.world c (cond u (with_step c x made) x) (cond z (with_step c y made) y)) (sym j) q)

    counted : (z : End) → counts z made ≡ true → (z.is_over ≡ false) × (names z.fd (fd_of call) ≡ true)
    counted z i = let q = and_parts (not z.is_over) (names z.fd (fd_of call)) i in (not-true z.is_over q.0, q.1)

    same-fd : (o : Option ℕ) → names x.fd o ≡ true → names y.fd o ≡ true → ⊥
    same-fd None i j = false≢true i
    same-fd (Some fd) i j = not-both (eqb y.fd x.fd) n (eq-eqb y.fd x.fd (sym (eqb-true fd y.fd j) ∙ eqb-true fd x.fd i))

    by_x : x.is_over ≡ false → names x.fd (fd_of call) ≡ true → (d : Bool) → y.is_over ≡ d → SoundWhere p s.world c (with_step c x made) y (is_over s.after) y.is_over
    by_x i j d q = subst (λ z. SoundWhere p s.world c (with_step c x made) y (is_over s.after) z) (sym q)
        (own-step p w c x y call g s d n (subst (λ z. SoundWhere p w c x y z d) i (subst (λ z. SoundWhere p w c x y x.is_over z) q h)) j b m k)

    by_y : y.is_over ≡ false → names y.fd (fd_of call) ≡ true → (d : Bool) → x.is_over ≡ d → SoundWhere p s.world c x (with_step c y made) x.is_over (is_over s.after)
    by_y i j d q = subst (λ z. SoundWhere p s.world c x (with_step c y made) z (is_over s.after)) (sym q)
        (swap p s.world c (with_step c y made) x (is_over s.after) d (own-step p w c y x call g s d (flip y.fd x.fd n) (subst (λ z. SoundWhere p w c y x z d) i (swap p w c x y d y.is_over (subst (λ z. SoundWhere p w c x y z y.is_over) q h))) j b m k))

    go : (u v : Bool) → counts x made ≡ u → counts y made ≡ v → SoundConnection p s.world c (after_step c x made) (after_step c y made)
    go true true i j = absurd (same-fd (fd_of call) (counted x i).1 (counted y j).1)
    go true false i j = to true false i j (by_x (counted x i).0 (counted x i).1 y.is_over refl)
    go false true i j = to false true i j (by_y (counted y j).0 (counted y j).1 x.is_over refl)
    go false false i j = to false false i j (outside p w c x y call g s f h i j k)
