-- A send keeps a world sound.
use Rattle.std.proofs.Common.{ℕ, Bool, true, false, List, [], ◌∷◌, ◌+◌, ◌-◌, ◌≡◌, ◌≤◌, refl, sym, ap, ◌∙◌, subst, cond, length, map, min, take, drop, Option, Some, None, arith}
use Rattle.std.specs.Prelude.{option_and_then, nat_lt, nat_le}
use Rattle.std.proofs.lemmas.Bool.{not-false, and_parts, or_parts, eq-eqb, ltb-true, ltb-false, leb-true}
use Rattle.std.proofs.lemmas.List.{length-take}
use Rattle.xti_model.specs.declared.profile.Providers.{Providers}
use Rattle.xti_model.specs.declared.entry.Go.{Go}
use Rattle.xti_model.specs.declared.entry.Go.TheVariants as go
use Rattle.xti_model.specs.Profile.{valid}
use Rattle.xti_model.specs.Provider.{profile, limit_over_zero}
use Rattle.xti_model.specs.Endpoint.{Endpoint}
use Rattle.xti_model.specs.World.{World, at_endpoint, changed, endpoint}
use Rattle.xti_model.specs.Links.{names, if_names, if_back, linked, at_linked}
use Rattle.xti_model.specs.Symbols.{bytes_waiting, piece}
use Rattle.xti_model.specs.Sending.{ready_for, message_limit, unfinished}
use Rattle.xti_model.specs.Arguments.{is_expedited}
use Rattle.xti_model.specs.Plan.{Row, Refusal, answers, waits, loses, first, if_open, later, later_row, later_plan, has_effect}
use Rattle.xti_model.specs.Step.{step_of, send}
use Rattle.xti_model.specs.History.{left_by}
use Rattle.xti_model.specs.Calls.Send as Send
use Rattle.xti_laws.proofs.BlockingRows.{later-same}
use Rattle.xti_laws.proofs.ChangedEndpoints.{changed-append}
use Rattle.xti_laws.proofs.KeptEndpoints.{AllKeep, keeps}
use Rattle.xti_laws.proofs.StepWays.{some-is}
use Rattle.xti_laws.specs.Endpoints.{SoundEndpoint}
use Rattle.xti_laws.specs.Invariant.{SoundWorld}
use Rattle.xti_laws.proofs.PassedRows.{passed, call-keeps, step-keeps}
use Rattle.xti_laws.proofs.ClearedRows.{cleared}
use Rattle.xti_model.specs.Events.{is_state, sending}
use Rattle.xti_laws.proofs.States.{Busy, busy-sending}
use Rattle.xti_laws.proofs.ShortLists.{piece-few}
use Rattle.xti_laws.proofs.Updates.{fit-named, fit-symbols, fit-flow, fit-sent, most_bytes, most_unfinished, unfinished_after}
use Rattle.xti_laws.proofs.QuietChanges.{Quiet, Parts, one-parts, own-parts, quiet-named}
use Rattle.xti_laws.proofs.OwnCalls.{parts}
use Rattle.xti_laws.proofs.ShowCalls.{valid-limit}
use Rattle.xti_laws.proofs.AcrossCalls.{choice}

-- a later step has an effect only where the first would
pub later-effect : (n : ℕ) (rows : List Row) → has_effect (first (map (later_row n) rows)) ≡ has_effect (first rows)
later-effect n rows = later-same has_effect n (λ r. elim r as (λ k. has_effect (Some (later n k)) ≡ has_effect (Some k)) [ answers reply ↦ refl | waits reply ↦ refl | loses ↦ refl ]) rows

symbols-quiet : (b : Bool) (symbols : List ℕ) → Quiet (Send.received b symbols)
symbols-quiet true symbols z e = refl
symbols-quiet false symbols z e = refl

sent-quiet : (p : Providers) (b ends : Bool) (now : ℕ) → Quiet (Send.sent p b ends now)
sent-quiet p true ends now z e = refl
sent-quiet p false ends now z e = refl

flow-quiet : (b on : Bool) → Quiet (Send.mark_flow b on)
flow-quiet true on z e = refl
flow-quiet false on z e = refl

-- of an endpoint: what the count of an unfinished message goes by
abbrev SendsAs : Endpoint → Option Endpoint → Type 0
SendsAs e None = Unit {0}
SendsAs e (Some y) = (y.prov ≡ e.prov) × (y.unfinished_normal ≡ e.unfinished_normal) × (y.unfinished_expedited ≡ e.unfinished_expedited) × (y.state ≡ e.state)

sends-as : (e : Endpoint) (b : Bool) (symbols : List ℕ) (y : Endpoint) → SendsAs e (Some y) → SendsAs e (Some (Send.received b symbols y))
sends-as e true symbols y h = h
sends-as e false symbols y h = h

-- the bytes that wait and those that are taken now are at most as many as may wait
within : (b : Bool) (e y : Endpoint) (left : ℕ) (symbols : List ℕ) → SoundEndpoint e → SoundEndpoint y → ready_for b e (Some y) ≡ true → bytes_waiting symbols ≤ Send.taken_now (Some y) e b left → bytes_waiting (cond b y.expedited y.normal) + bytes_waiting symbols ≤ most_bytes b
within true e y left symbols s t r l = (let k = ltb-true (bytes_waiting y.expedited) 256 (and_parts (nat_lt (bytes_waiting y.expedited) 256) _ r).0 in omega arith)
within false e y left symbols s t r l =
    let k = ltb-true (bytes_waiting y.normal) (e.sndbuf + y.rcvbuf) (and_parts (nat_lt (bytes_waiting y.normal) (e.sndbuf + y.rcvbuf)) _ r).0 in
    let a = leb-true e.sndbuf 65536 (and_parts (nat_le 1 e.sndbuf) (nat_le e.sndbuf 65536) s.buffers.send).1 in
    let d = leb-true y.rcvbuf 65536 (and_parts (nat_le 1 y.rcvbuf) (nat_le y.rcvbuf 65536) t.buffers.receive).1 in
    omega arith

-- an unfinished message is within the limit
few-more : (o : Option ℕ) (ends : Bool) (count sum top : ℕ) → count ≤ sum → ((n : ℕ) → o ≡ Some n → n ≤ top) → Send.is_over o sum ≡ false → Send.count_more o ends count ≤ top
few-more None ends count sum top l k h = omega arith
few-more (Some n) true count sum top l k h = omega arith
few-more (Some n) false count sum top l k h = (let a = ltb-false n sum h in let d = k n refl in omega arith)

unfinished-few : (p : Providers) (b ends : Bool) (now left : ℕ) (e y : Endpoint) → valid p ≡ true → SendsAs e (Some y) → now ≤ left → Send.is_over (message_limit p e b) (unfinished b e + left) ≡ false → unfinished_after p b ends now y ≤ most_unfinished b
unfinished-few p true ends now left e y v a l h = few-more (Some 128) ends (y.unfinished_expedited + now) (e.unfinished_expedited + left) 128 (let q = a.2 in omega arith) (λ n i. (let j : 128 ≡ n = some-is 128 n i in omega arith)) h
unfinished-few p false ends now left e y v a l h = few-more (limit_over_zero (profile p y.prov).tsdu) ends (y.unfinished_normal + now) (e.unfinished_normal + left) 65536 (let q = a.1 in omega arith) (valid-limit p y.prov v) (subst (λ z. Send.is_over (limit_over_zero (profile p z).tsdu) (e.unfinished_normal + left) ≡ false) (sym a.0) h)

module _ (p : Providers) (w : World) (v : valid p ≡ true) (h : SoundWorld p w) (fd : ℕ) where
  -- who names it back is linked with it
  linked-is : (e y : Endpoint) (z : ℕ) → e.peer ≡ Some z → endpoint p w z ≡ Some y → y.peer ≡ Some fd → linked p w fd e ≡ Some y
  linked-is e y z i j k =
      ap (option_and_then (λ peer. option_and_then (λ other. if_back fd other) (endpoint p w peer))) i ∙
      (ap (option_and_then (λ other. if_back fd other)) j ∙ (ap (λ o. cond (names fd o) (Some y) None) k ∙ ap (λ b. cond b (Some y) None) (eq-eqb fd fd refl)))

  sends : (e : Endpoint) → Busy e.state → endpoint p w fd ≡ Some e → (bytes : List ℕ) (flags taken now : ℕ) → now ≡ Send.taken_now (linked p w fd e) e (is_expedited flags) (length bytes - taken) → ready_for (is_expedited flags) e (linked p w fd e) ≡ true
      → Send.is_over (message_limit p e (is_expedited flags)) (unfinished (is_expedited flags) e + (length bytes - taken)) ≡ false → Parts p (changed p w (Send.changes p fd bytes flags taken now e))
  sends e b i bytes flags taken now n r u =
      subst (λ y. Parts p y) (sym (changed-append p w (at_linked fd e.peer (Send.received (is_expedited flags) symbols)) (at_endpoint fd (Send.sent p (is_expedited flags) ends now) ∷ [])))
      (one-parts p mid fd (Send.sent p (is_expedited flags) ends now) (sent-quiet p (is_expedited flags) ends now)
      (λ y j. fit-sent p (is_expedited flags) ends now y (subst Busy (sym (subst (SendsAs e) j still).3) b) (unfinished-few p (is_expedited flags) ends now (length bytes - taken) e y v (subst (SendsAs e) j still) (subst (λ z. z ≤ length bytes - taken) (sym n) (omega arith)) u) ((first e.peer refl).1 fd y j))
      (first e.peer refl))
    where
      ends : Bool
      ends = Send.closes p e flags (length bytes - taken) now

      symbols : List ℕ
      symbols = piece (take now (drop taken bytes)) ends

      mid : World
      mid = changed p w (at_linked fd e.peer (Send.received (is_expedited flags) symbols))

      few : bytes_waiting symbols ≤ now
      few = piece-few (take now (drop taken bytes)) ends now (let q : length (take now (drop taken bytes)) ≡ min now (length (drop taken bytes)) = length-take now (drop taken bytes) in omega arith)

      first : (o : Option ℕ) → e.peer ≡ o → Parts p (changed p w (at_linked fd o (Send.received (is_expedited flags) symbols)))
      first None k = parts p w h
      first (Some z) k = one-parts p w z (if_names fd (Send.received (is_expedited flags) symbols)) (quiet-named fd (Send.received (is_expedited flags) symbols) (symbols-quiet (is_expedited flags) symbols))
          (λ y j. fit-named fd (Send.received (is_expedited flags) symbols) y (h.endpoints z y j) (λ x. (let q = linked-is e y z k j x in
          fit-symbols (is_expedited flags) symbols y (within (is_expedited flags) e y (length bytes - taken) symbols (h.endpoints fd e i) (h.endpoints z y j) (subst (λ x. ready_for (is_expedited flags) e x ≡ true) q r) (subst (λ x. bytes_waiting symbols ≤ Send.taken_now x e (is_expedited flags) (length bytes - taken)) q (subst (λ x. bytes_waiting symbols ≤ x) n few))) (h.endpoints z y j))))
          (parts p w h)

      still : SendsAs e (endpoint p mid fd)
      still = keeps p (SendsAs e) fd (at_linked fd e.peer (Send.received (is_expedited flags) symbols)) (kept e.peer) w (subst (SendsAs e) (sym i) (refl, refl, refl, refl))
        where
          kept : (o : Option ℕ) → AllKeep (SendsAs e) fd (at_linked fd o (Send.received (is_expedited flags) symbols))
          kept None = tt
          kept (Some z) = ((λ j y q. choice (SendsAs e) (names fd y.peer) (Send.received (is_expedited flags) symbols y) y (sends-as e (is_expedited flags) symbols y q) q), tt)

  took : (number : ℕ) (bytes : List ℕ) (flags taken : ℕ) (e : Endpoint) → endpoint p w fd ≡ Some e → has_effect (first (Send.rows p number bytes flags taken (linked p w fd e) e)) ≡ true
      → Parts p (changed p w (Send.changes p fd bytes flags taken (Send.taken_now (linked p w fd e) e (is_expedited flags) (length bytes - taken)) e))
  took number bytes flags taken e i g =
      let c = cleared (Send.rows p number bytes flags taken (linked p w fd e) e) g in
      sends e (busy-sending e.state (not-false (is_state sending e) c.1.1.0)) i bytes flags taken (Send.taken_now (linked p w fd e) e (is_expedited flags) (length bytes - taken)) refl (not-false (ready_for (is_expedited flags) e (linked p w fd e)) c.1.1.1.1.1.1.0) (or_parts _ (Send.is_over (message_limit p e (is_expedited flags)) (unfinished (is_expedited flags) e + (length bytes - taken))) c.1.1.1.1.0).1

  pub send-parts : (number : ℕ) (bytes : List ℕ) (flags : ℕ) (g : Go) → Parts p (left_by w (step_of p w (send p w fd number bytes flags g)))
  send-parts number bytes flags go.Begin = call-keeps (Parts p) p w fd (λ e. Send.plan_to p fd number bytes flags 0 e (linked p w fd e)) (parts p w h) (λ e i. record {
    changes = λ k. took number bytes flags 0 e i k;
    lost = λ k. took number bytes flags 0 e i k;
    marks = λ k. own-parts p w fd (Send.mark_flow (is_expedited flags) true) e (flow-quiet (is_expedited flags) true) i (fit-flow (is_expedited flags) true e (busy-sending e.state (not-false (is_state sending e) (passed (Send.rows p number bytes flags 0 (linked p w fd e) e) k).1.1.0)) (h.endpoints fd e i)) (parts p w h);
  })
  send-parts number bytes flags (go.More n) = by (endpoint p w fd) refl
    where
      by : (o : Option Endpoint) → endpoint p w fd ≡ o → Parts p (left_by w (step_of p w (later_plan n (if_open fd o (λ e. Send.plan_to p fd number bytes flags n e (linked p w fd e))))))
      by None i = step-keeps (Parts p) p w (later_plan n (if_open fd None (λ e. Send.plan_to p fd number bytes flags n e (linked p w fd e)))) (parts p w h) (record { changes = λ k. parts p w h; lost = λ k. parts p w h; marks = λ k. parts p w h })
      by (Some e) i = step-keeps (Parts p) p w (later_plan n (Send.plan_to p fd number bytes flags n e (linked p w fd e))) (parts p w h) (record {
        changes = λ k. took number bytes flags n e i (sym (later-effect n (Send.rows p number bytes flags n (linked p w fd e) e)) ∙ k);
        lost = λ k. took number bytes flags n e i (sym (later-effect n (Send.rows p number bytes flags n (linked p w fd e) e)) ∙ k);
        marks = λ k. parts p w h;
      })
