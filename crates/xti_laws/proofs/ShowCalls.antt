-- The calls of datagrams, and those that show and set, keep a world sound; and an open does.
use Rattle.std.proofs.Common.{ℕ, Bool, true, false, List, [], ◌∷◌, ◌≡◌, ◌<◌, ◌≤◌, ◌⊎◌, inl, inr, refl, sym, ap, ◌∙◌, subst, eqb, cond, not, length, ◌&&◌, ◌||◌, Option, Some, None, is_some, arith}
use Rattle.std.specs.Prelude.{option_and_then, nat_lt, nat_le, drop, zero, suc}
use Rattle.std.proofs.lemmas.Bool.{not-false, and_parts, or_parts, false≢true, ltb-true, ltb-false, leb-true, ne_eqb}
use Rattle.xti_base.specs.declared.kinds.Prov.{Prov}
use Rattle.xti_base.specs.declared.kinds.Prov.TheVariants.{Ticots, Ticotsord, Ticlts, Other}
use Rattle.xti_base.specs.declared.limit.Limit.{Limit}
use Rattle.xti_base.specs.declared.limit.Limit.TheVariants.{At, Infinite, Invalid}
use Rattle.xti_base.specs.declared.kinds.Event.{Event}
use Rattle.xti_base.specs.declared.kinds.Event.TheVariants as event
use Rattle.xti_model.specs.declared.profile.Providers.{Providers}
use Rattle.xti_model.specs.declared.entry.Outcome.{Outcome}
use Rattle.xti_model.specs.Profile.{is_size, has_limit, has_messages, is_stream_limit, has_buffers, valid_datagrams, valid_connections, valid_orderly, valid}
use Rattle.xti_model.specs.Provider.{profile, has_datagrams, limit_over_zero, is_provider}
use Rattle.xti_model.specs.Endpoint.{Endpoint, Datagram, DatagramError, opened}
use Rattle.xti_model.specs.World.{World, at_endpoint, opens_place, changed, endpoint, the_switch}
use Rattle.xti_model.specs.Switch.{bound, mark_open, free_place, if_provider}
use Rattle.xti_model.specs.Sending.{takes_datagram}
use Rattle.xti_model.specs.Events.{some_wait, around}
use Rattle.xti_model.specs.Plan.{Row, Plan, plan_of, first, has_effect}
use Rattle.xti_model.specs.Step.{step_of}
use Rattle.xti_model.specs.History.{left_by}
use Rattle.xti_model.specs.Calls.Open as Open
use Rattle.xti_model.specs.Calls.Datagrams as Datagrams
use Rattle.xti_model.specs.Calls.Show as Show
use Rattle.xti_laws.proofs.OpeningAndClosing.{opens-cases}
use Rattle.xti_laws.proofs.StepWays.{some-is, none-is, not-both}
use Rattle.xti_laws.proofs.OneChange.{one_world}
use Rattle.xti_laws.specs.Endpoints.{SoundEndpoint, ShortDatagram, ShortError}
use Rattle.xti_laws.specs.Invariant.{SoundWorld, SoundEndpoints}
use Rattle.xti_laws.proofs.PassedRows.{goes, passed, Keeps, call-keeps, step-keeps}
use Rattle.xti_laws.proofs.ClearedRows.{cleared}
use Rattle.xti_laws.proofs.Updates.{fit-opened}
use Rattle.xti_laws.proofs.ReleaseAndDatagramUpdates.{fit-marked, fit-got, fit-failed, fit-dropped, fit-datagram, fit-without_error, fit-mode, fit-shown, fit-settings}
use Rattle.xti_laws.proofs.QuietChanges.{Quiet, Parts, Fit, one-parts, own-parts, switch-fit, quiet-cond}
use Rattle.xti_laws.proofs.Registering.{opens-registered}
use Rattle.xti_laws.proofs.BoundAddresses.{bound-open}
use Rattle.xti_laws.proofs.OwnCalls.{parts, few-options, short-address}

-- What valid providers give.
record ValidParts (p : Providers) : Type 0 where
  cots : (has_buffers p.ticots ≡ true) × (has_messages p.ticots.tsdu ≡ true)
  ord : (has_buffers p.ticotsord ≡ true) × ((has_messages p.ticotsord.tsdu || is_stream_limit p.ticotsord.tsdu && not p.ticotsord.sendzero) ≡ true)
  clts : (has_buffers p.ticlts ≡ true) × (has_limit p.ticlts.tsdu ≡ true)

valid-parts : (p : Providers) → valid p ≡ true → ValidParts p
valid-parts p v =
    let a = and_parts _ (valid_datagrams p.ticlts) v in
    let b = and_parts (valid_connections p.ticots) (valid_orderly p.ticotsord) a.0 in
    let c = and_parts (has_buffers p.ticlts && has_limit p.ticlts.tsdu) (not p.ticlts.same_addr) a.1 in
    record { cots = and_parts (has_buffers p.ticots) (has_messages p.ticots.tsdu) b.0; ord = and_parts (has_buffers p.ticotsord) _ b.1; clts = and_parts (has_buffers p.ticlts) (has_limit p.ticlts.tsdu) c.0 }

pub valid-buffers : (p : Providers) (prov : Prov) → valid p ≡ true → has_buffers (profile p prov) ≡ true
valid-buffers p Ticots v = (valid-parts p v).cots.0
valid-buffers p Ticotsord v = (valid-parts p v).ord.0
valid-buffers p Ticlts v = (valid-parts p v).clts.0
valid-buffers p Other v = (valid-parts p v).cots.0

-- a limit of messages is at most 65,536
few-limit : (t : Limit) → (has_messages t || is_stream_limit t) ≡ true → (n : ℕ) → limit_over_zero t ≡ Some n → n ≤ 65536
few-limit (At zero) h n k = absurd (none-is n k)
few-limit (At (suc m)) h n k = subst (λ z. z ≤ 65536) (some-is (suc m) n k) (leb-true (suc m) 65536 (and_parts (nat_le 1 (suc m)) (nat_le (suc m) 65536) (only (is_size (suc m)) (eqb (suc m) 0) h (ne_eqb (suc m) 0 (λ e. omega (arith, e))))).1)
  where
    only : (b d : Bool) → (b || d) ≡ true → d ≡ false → b ≡ true
    only true d j k = refl
    only false d j k = absurd (false≢true (sym k ∙ j))
few-limit Infinite h n k = absurd (none-is n k)
few-limit Invalid h n k = absurd (none-is n k)

pub valid-limit : (p : Providers) (prov : Prov) → valid p ≡ true → (n : ℕ) → limit_over_zero (profile p prov).tsdu ≡ Some n → n ≤ 65536
valid-limit p prov v = few-limit (profile p prov).tsdu (go prov)
  where
    left : (a b : Bool) → a ≡ true → (a || b) ≡ true
    left true b h = refl
    left false b h = absurd (false≢true h)

    either : (a b c : Bool) → (a || b && c) ≡ true → (a || b) ≡ true
    either true b c h = refl
    either false true c h = refl
    either false false c h = h

    limited : (t : Limit) → has_limit t ≡ true → has_messages t ≡ true
    limited (At n) h = h
    limited Infinite h = refl
    limited Invalid h = h

    go : (q : Prov) → (has_messages (profile p q).tsdu || is_stream_limit (profile p q).tsdu) ≡ true
    go Ticots = left (has_messages p.ticots.tsdu) _ (valid-parts p v).cots.1
    go Ticotsord = either (has_messages p.ticotsord.tsdu) (is_stream_limit p.ticotsord.tsdu) (not p.ticotsord.sendzero) (valid-parts p v).ord.1
    go Ticlts = left (has_messages p.ticlts.tsdu) _ (limited p.ticlts.tsdu (valid-parts p v).clts.1)
    go Other = left (has_messages p.ticots.tsdu) _ (valid-parts p v).cots.1

-- Datagrams.
within-limit : (limit : Limit) (n : ℕ) → has_limit limit ≡ true → Datagrams.is_over limit n ≡ false → n ≤ 65536
within-limit (At m) n h k = omega (arith, leb-true m 65536 (and_parts (nat_le 1 m) (nat_le m 65536) h).1, ltb-false m n k)
within-limit Infinite n h k = absurd (false≢true h)
within-limit Invalid n h k = absurd (false≢true h)

none-wait : (xs : List DatagramError) → is_some (cond (some_wait xs) (Some event.T_UDERR) None) ≡ false → xs ≡ []
none-wait [] h = refl
none-wait (x ∷ xs) h = absurd (false≢true (sym h))

has-room : (o : Option Endpoint) (e : Endpoint) → takes_datagram o ≡ true → o ≡ Some e → length e.datagrams < 16
has-room o e h i = ltb-true (length e.datagrams) 16 (subst (λ z. takes_datagram z ≡ true) i h)

module _ (p : Providers) (w : World) (h : SoundWorld p w) (fd : ℕ) where
  deliver-parts : (e : Endpoint) (o : Option ℕ) (d : Datagram) (err : DatagramError) → has_datagrams e.prov ≡ true → ((to : ℕ) (y : Endpoint) → o ≡ Some to → endpoint p w to ≡ Some y → has_datagrams y.prov ≡ true) → endpoint p w fd ≡ Some e → e.datagram_errors ≡ []
      → takes_datagram (option_and_then (endpoint p w) o) ≡ true → ShortDatagram d → ShortError err → Parts p (changed p w (Datagrams.deliver fd o d err))
  deliver-parts e None d err t b i n r s k = own-parts p w fd (Datagrams.with_error_unmarked err) e (λ x y. refl) i (fit-failed err e t n k (h.endpoints fd e i)) (parts p w h)
  deliver-parts e (Some to) d err t b i n r s k =
      let got : Parts p (one_world p w to (Datagrams.with_datagram d)) = one-parts p w to (Datagrams.with_datagram d) (λ x y. refl) (λ x j. fit-got d x (b to x refl j) (has-room (endpoint p w to) x r j) s (h.endpoints to x j)) (parts p w h) in
      one-parts p (one_world p w to (Datagrams.with_datagram d)) fd (Datagrams.mark_flow None) (λ x y. refl) (λ x j. fit-marked None x tt (λ z. refl) (got.1 fd x j)) got

  send-keeps : (address options : List ℕ) (number : ℕ) (bytes : List ℕ) (e : Endpoint) (o : Option ℕ) → ((to : ℕ) (y : Endpoint) → o ≡ Some to → endpoint p w to ≡ Some y → y.prov ≡ e.prov) → valid p ≡ true → endpoint p w fd ≡ Some e → Keeps (Parts p) p w (Datagrams.send_from p w fd address options number bytes e o)
  send-keeps address options number bytes e o b v i = record { changes = effect; lost = effect; marks = marks }
    where
      rows : List Row
      rows = Datagrams.send_rows p address options number bytes (option_and_then (endpoint p w) o) e

      short : (eqb (length address) 0 || nat_lt 64 (length address)) ≡ false → length address ≤ 64
      short b = ltb-false 64 (length address) (or_parts (eqb (length address) 0) (nat_lt 64 (length address)) b).1

      limited : (q : Prov) → not (has_datagrams q) ≡ false → has_limit (profile p q).tsdu ≡ true
      limited Ticots k = absurd (false≢true (sym k))
      limited Ticotsord k = absurd (false≢true (sym k))
      limited Ticlts k = (valid-parts p v).clts.1
      limited Other k = absurd (false≢true (sym k))

      effect : has_effect (first rows) ≡ true → Parts p (changed p w (Datagrams.send_changes fd address options bytes o e))
      effect g =
          let c = cleared rows g in
          deliver-parts e o (Datagrams.datagram_from e options bytes) (Datagrams.error_to address options) (not-false (has_datagrams e.prov) c.0) (λ to y j k. (ap has_datagrams (b to y j k) ∙ not-false (has_datagrams e.prov) c.0)) i (none-wait e.datagram_errors c.1.1.1.1.1.1.0) (not-false (takes_datagram (option_and_then (endpoint p w) o)) c.1.1.1.1.1.1.1.0)
          (short-address e.address (h.endpoints fd e i).listening.short, few-options options _ c.1.1.1.0, within-limit (profile p e.prov).tsdu (length bytes) (limited e.prov c.0) (or_parts (Datagrams.is_over (profile p e.prov).tsdu (length bytes)) _ c.1.1.1.1.1.0).0) (short c.1.1.0, few-options options _ c.1.1.1.0)

      marks : goes (first rows) ≡ true → Parts p (changed p w (at_endpoint fd (Datagrams.mark_flow (Some address)) ∷ []))
      marks g =
          let c = passed rows g in
          own-parts p w fd (Datagrams.mark_flow (Some address)) e (λ x y. refl) i (fit-marked (Some address) e (short c.1.1.0) (λ t. absurd (not-both (has_datagrams e.prov) t (not-false (has_datagrams e.prov) c.0))) (h.endpoints fd e i)) (parts p w h)

  pub sndudata-parts : (address options : List ℕ) (number : ℕ) (bytes : List ℕ) → valid p ≡ true → Parts p (left_by w (step_of p w (Datagrams.send_plan p w fd address options number bytes)))
  sndudata-parts address options number bytes v =
      call-keeps (Parts p) p w fd (λ e. Datagrams.send_from p w fd address options number bytes e (bound (the_switch p w) e.prov address)) (parts p w h)
      (λ e i. send-keeps address options number bytes e (bound (the_switch p w) e.prov address) (λ to y j k. (let q = bound-open p w e.prov address to h j in ap (λ z. z.prov) (some-is y q.there (sym k ∙ q.is_open)) ∙ q.is_of)) v i)

  received-quiet : (max : ℕ) → Quiet (Datagrams.received max)
  received-quiet max z e = quiet-cond (Datagrams.has_rest max (Datagrams.first_of e)) (record e { datagrams = Datagrams.shortened max (Datagrams.first_of e) ∷ drop 1 e.datagrams; begun = true }) (Datagrams.dropped e) e z refl refl

  shown-quiet : (o : Option Event) → Quiet (Show.shown o)
  shown-quiet None z e = refl
  shown-quiet (Some event.T_GODATA) z e = refl
  shown-quiet (Some event.T_GOEXDATA) z e = refl
  shown-quiet (Some other) z e = refl

  own-sound : (f : Endpoint → Endpoint) → Quiet f → Fit f → Parts p (changed p w (at_endpoint fd f ∷ []))
  own-sound f q k = one-parts p w fd f q (λ e i. k e (h.endpoints fd e i)) (parts p w h)

  pub rcvudata-parts : (sizes max amax omax : ℕ) → Parts p (left_by w (step_of p w (Datagrams.receive_plan p w fd sizes max amax omax)))
  rcvudata-parts sizes max amax omax = call-keeps (Parts p) p w fd (Datagrams.receive_from fd sizes max amax omax) (parts p w h)
      (λ e i. record { changes = λ g. own-sound (Datagrams.received max) (received-quiet max) (fit-datagram max); lost = λ g. own-sound Datagrams.dropped (λ x y. refl) fit-dropped; marks = λ g. parts p w h })

  abbrev own-plan : Endpoint → List Row → (Endpoint → Endpoint) → Outcome → Plan
  own-plan e rows f outcome = plan_of fd e rows (at_endpoint fd f ∷ []) outcome

  own-keeps : (e : Endpoint) (rows : List Row) (f : Endpoint → Endpoint) (outcome : Outcome) → Quiet f → Fit f → Keeps (Parts p) p w (own-plan e rows f outcome)
  own-keeps e rows f outcome q k = record { changes = λ g. own-sound f q k; lost = λ g. own-sound f q k; marks = λ g. parts p w h }

  pub rcvuderr-parts : (amax omax : ℕ) → Parts p (left_by w (step_of p w (Datagrams.error_plan p w fd amax omax)))
  rcvuderr-parts amax omax = call-keeps (Parts p) p w fd _ (parts p w h) (λ e i. own-keeps e _ Datagrams.without_error _ (λ x y. refl) fit-without_error)

  pub look-parts : Parts p (left_by w (step_of p w (Show.look_plan p w fd)))
  look-parts = call-keeps (Parts p) p w fd (λ e. Show.look_in fd e (around p w fd e)) (parts p w h)
      (λ e i. own-keeps e [] (Show.shown (Show.first_pending (around p w fd e) e)) _ (shown-quiet (Show.first_pending (around p w fd e) e)) (fit-shown (Show.first_pending (around p w fd e) e)))

  pub mode-parts : (nonblock : Bool) → Parts p (left_by w (step_of p w (Show.mode_plan p w fd nonblock)))
  mode-parts nonblock = call-keeps (Parts p) p w fd _ (parts p w h) (λ e i. own-keeps e [] (Show.in_mode nonblock) _ (λ x y. refl) (fit-mode nonblock))

  pub option-parts : (action : ℕ) (options : List ℕ) (omax : ℕ) → Parts p (left_by w (step_of p w (Show.option_plan p w fd action options omax)))
  option-parts action options omax = call-keeps (Parts p) p w fd (λ e. Show.option_plan_of fd (Show.negotiated p action options e) action options omax e) (parts p w h)
      (λ e i. own-keeps e _ (Show.with_settings (Show.negotiated p action options e).settings) _ (λ x y. refl) (λ x k. fit-settings p action options e x (h.endpoints fd e i) k))

  pub state-parts : Parts p (left_by w (step_of p w (Show.state_plan p w fd)))
  state-parts = call-keeps (Parts p) p w fd _ (parts p w h) (λ e i. record { changes = λ g. parts p w h; lost = λ g. parts p w h; marks = λ g. parts p w h })

  pub info-parts : Parts p (left_by w (step_of p w (Show.info_plan p w fd)))
  info-parts = call-keeps (Parts p) p w fd _ (parts p w h) (λ e i. record { changes = λ g. parts p w h; lost = λ g. parts p w h; marks = λ g. parts p w h })

  pub addresses-parts : (amax pmax : ℕ) → Parts p (left_by w (step_of p w (Show.addresses_plan p w fd amax pmax)))
  addresses-parts amax pmax = call-keeps (Parts p) p w fd _ (parts p w h) (λ e i. record { changes = λ g. parts p w h; lost = λ g. parts p w h; marks = λ g. parts p w h })

-- Open.
pub open-parts : (p : Providers) (w : World) (prov : Prov) (nonblock : Bool) → valid p ≡ true → SoundWorld p w → Parts p (left_by w (step_of p w (Open.plan p w prov nonblock)))
open-parts p w prov nonblock v h = go (is_provider prov) (free_place p (the_switch p w)) refl
  where
    refused : Parts p (left_by w (step_of p w (Open.refused_plan p (the_switch p w) prov nonblock)))
    refused = step-keeps (Parts p) p w (Open.refused_plan p (the_switch p w) prov nonblock) (parts p w h) (record { changes = λ g. parts p w h; lost = λ g. parts p w h; marks = λ g. parts p w h })

    opened-fit : (n : ℕ) → SoundEndpoints p (changed p w (opens_place n (opened (profile p prov) prov nonblock) ∷ []))
    opened-fit n x e o = either (opens-cases p w n (profile p prov) prov nonblock x)
      where
        either : (endpoint p (changed p w (opens_place n (opened (profile p prov) prov nonblock) ∷ [])) x ≡ endpoint p w x) ⊎ ((endpoint p w x ≡ None) × (endpoint p (changed p w (opens_place n (opened (profile p prov) prov nonblock) ∷ [])) x ≡ Some (opened (profile p prov) prov nonblock))) → SoundEndpoint e
        either (inl q) = h.endpoints x e (sym q ∙ o)
        either (inr q) = subst SoundEndpoint (some-is (opened (profile p prov) prov nonblock) e (sym q.1 ∙ o)) (fit-opened (profile p prov) prov nonblock (valid-buffers p prov v))

    go : (b : Bool) (o : Option ℕ) → free_place p (the_switch p w) ≡ o → Parts p (left_by w (step_of p w (Open.plan_where p (the_switch p w) prov nonblock (if_provider b o))))
    go false o i = refused
    go true None i = refused
    go true (Some n) i = step-keeps (Parts p) p w (Open.plan_at p (the_switch p w) prov nonblock n) (parts p w h) (record {
      changes = λ g. (opens-registered p w n (opened (profile p prov) prov nonblock) i refl h.registered, switch-fit p (changed p w (opens_place n (opened (profile p prov) prov nonblock) ∷ [])) (mark_open n) (opened-fit n));
      lost = λ g. parts p w h;
      marks = λ g. parts p w h;
    })
