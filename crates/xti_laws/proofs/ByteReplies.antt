-- The values of a step's answer: bytes where the world's are, and numbers of 32 bits.
use Rattle.std.proofs.Common.{ℕ, Bool, true, false, List, [], ◌∷◌, ◌≡◌, ◌+◌, ◌-◌, ◌<◌, ◌≤◌, ◌^◌, refl, sym, subst, cond, eqb, not, ◌&&◌, ◌||◌, length, sum, Option, Some, None, arith}
use Rattle.std.specs.Prelude.{nat_lt, nat_le, min, unwrap_or}
use Rattle.std.specs.List.{concat}
use Rattle.std.proofs.lemmas.Bool.{and_parts, or_parts, false≢true, eqb-true, ltb-true, ltb-false, leb-true}
use Rattle.std.proofs.lemmas.List.Elements.{All-take}
use Rattle.std.proofs.lemmas.List.Quantifiers.{position-Some}
use Rattle.xti_base.specs.declared.errno.Errno.TheVariants.{TNODATA}
use Rattle.xti_base.specs.declared.kinds.Prov.{Prov}
use Rattle.xti_base.specs.declared.kinds.Prov.TheVariants.{Ticots, Ticotsord, Ticlts, Other}
use Rattle.xti_base.specs.declared.kinds.State.TheVariants.{T_OUTCON, T_DATAXFER, T_OUTREL, T_INREL}
use Rattle.xti_base.specs.declared.limit.Limit.{Limit}
use Rattle.xti_base.specs.declared.limit.Limit.TheVariants.{At, Infinite, Invalid}
use Rattle.xti_base.specs.Options.{options_bytes, the_options}
use Rattle.xti_model.specs.declared.call.Call.{Call}
use Rattle.xti_model.specs.declared.call.Call.TheVariants as call
use Rattle.xti_model.specs.declared.entry.Go.{Go}
use Rattle.xti_model.specs.declared.entry.Go.TheVariants as go
use Rattle.xti_model.specs.declared.entry.Outcome.TheVariants.{Done, Part}
use Rattle.xti_model.specs.declared.entry.Reply.{Reply}
use Rattle.xti_model.specs.declared.entry.Reply.TheVariants as reply
use Rattle.xti_model.specs.declared.profile.Profile.{Profile}
use Rattle.xti_model.specs.declared.profile.Providers.{Providers}
use Rattle.xti_model.specs.Profile.{valid, valid_connections, valid_orderly, valid_datagrams, has_buffers, has_messages, has_limit, is_stream_limit, is_size}
use Rattle.xti_model.specs.Provider.{profile, has_release_data, info, is_provider, expedited_limit, connection_limit}
use Rattle.xti_model.specs.Endpoint.{Endpoint, Confirmation, address_of}
use Rattle.xti_model.specs.World.{World, Switch, closed_place, endpoint, the_switch, places, last_generation}
use Rattle.xti_model.specs.Switch.{chosen, free_place, if_provider, is_free, opening_place, place_at}
use Rattle.xti_model.specs.Links.{linked}
use Rattle.xti_model.specs.Sending.{room_for}
use Rattle.xti_model.specs.Symbols.{front}
use Rattle.xti_model.specs.Arguments.{is_expedited, is_too_many}
use Rattle.xti_model.specs.Events.{is_state, some_wait}
use Rattle.xti_model.specs.Plan.{Plan, first, trimmed, if_open, on_open, later_plan}
use Rattle.xti_model.specs.Step.{Step, plan, step, step_of, send}
use Rattle.xti_model.specs.Calls.Open as Open
use Rattle.xti_model.specs.Calls.Bind as Bind
use Rattle.xti_model.specs.Calls.Connect as Connect
use Rattle.xti_model.specs.Calls.Listen as Listen
use Rattle.xti_model.specs.Calls.Send as Send
use Rattle.xti_model.specs.Calls.Receive as Receive
use Rattle.xti_model.specs.Calls.Disconnect as Disconnects
use Rattle.xti_model.specs.Calls.Release as Release
use Rattle.xti_model.specs.Calls.Datagrams as Datagrams
use Rattle.xti_model.specs.Calls.Show as Show
use Rattle.xti_model.specs.SentBytes.{AreBytes}
use Rattle.xti_laws.proofs.StepWays.{is_denial, all_deny, none-is}
use Rattle.xti_laws.specs.Invariant.{SoundWorld}
use Rattle.xti_laws.proofs.CountingBindings.{few-in-either}
use Rattle.xti_laws.proofs.ToldOutcomes.{StepTells, step-told, RefusalTells, denied, later-told, later-none, Clear, clear, told}
use Rattle.xti_laws.specs.Values.{IsOfBytes, IsNumber, IsLimit, AreLimits, HasValues}
use Rattle.xti_laws.proofs.ByteLists.{none-bytes, chosen-bytes, front-bytes}
use Rattle.xti_laws.proofs.AnsweredOptions.{negotiated-fits}
use Rattle.xti_laws.proofs.ByteWorlds.{ByteConfirmation, ByteDisconnect, ByteDatagram, ByteError, OfBytes, Bytes, AllBytes, any-bytes, address-bytes, first-of, oldest-bytes, datagram-bytes}
use Rattle.xti_model.proofs.PlaceNumbers.{descriptor-fits}

-- ---- plans

-- what holds of every outcome of a plan, also of the number that is told where fields are lost
record Tells (x : Plan) : Type 0 where
  refused : RefusalTells HasValues (first x.rows)
  done : first x.rows ≡ None → HasValues x.outcome
  lost : IsNumber x.lost_number

step-tells : (p : Providers) (w : World) (x : Plan) → Tells x → StepTells HasValues (step_of p w x)
step-tells p w x t = step-told HasValues p w x t.lost t.refused t.done

denial : (r : Reply) → is_denial r ≡ true → HasValues (Done r)
denial (reply.Refused e) h = tt
denial (reply.Look e) h = tt
denial r h = absurd (false≢true h)

-- a call on a descriptor, whose rows deny
open-tells : (fd : ℕ) (o : Option Endpoint) (f : Endpoint → Plan) → ((e : Endpoint) → o ≡ Some e → (all_deny (f e).rows ≡ true) × (Clear (f e).rows → HasValues (f e).outcome) × IsNumber (f e).lost_number) → Tells (if_open fd o f)
open-tells fd None f k = record { refused = tt; done = λ i. tt; lost = omega arith }
open-tells fd (Some e) f k = (let t = k e refl in record { refused = denied HasValues denial (f e).rows t.0; done = λ i. t.1 (clear (f e).rows i); lost = t.2 })

tells : (p : Providers) (w : World) (fd : ℕ) (f : Endpoint → Plan) → ((e : Endpoint) → endpoint p w fd ≡ Some e → (all_deny (f e).rows ≡ true) × (Clear (f e).rows → HasValues (f e).outcome) × IsNumber (f e).lost_number) → StepTells HasValues (step_of p w (on_open p w fd f))
tells p w fd f k = step-tells p w (on_open p w fd f) (open-tells fd (endpoint p w fd) f k)

zero-fits : IsNumber 0
zero-fits = omega arith

-- ---- fields

trimmed-bytes : (bytes : List ℕ) (max : ℕ) → AreBytes bytes → AreBytes (trimmed bytes max)
trimmed-bytes bytes max a = go (eqb max 0)
  where
    go : (b : Bool) → AreBytes (cond b [] bytes)
    go true = none-bytes
    go false = a

confirmation-bytes : (o : Option Confirmation) → ByteConfirmation o → ByteConfirmation (Some (Connect.confirmation_or o))
confirmation-bytes None h = (none-bytes, none-bytes, none-bytes)
confirmation-bytes (Some c) h = h

peer-bytes : (e : Endpoint) → OfBytes e → AreBytes (Show.shown_peer e)
peer-bytes e h = go (is_state (T_OUTCON ∷ T_DATAXFER ∷ T_OUTREL ∷ T_INREL ∷ []) e)
  where
    go : (b : Bool) → AreBytes (cond b (unwrap_or e.peer_address []) [])
    go true = any-bytes e.peer_address h.4
    go false = none-bytes

told-bytes : (e : Endpoint) → OfBytes e → ByteDatagram (Datagrams.told e)
told-bytes e h = go e.begun (datagram-bytes e h)
  where
    go : (b : Bool) → ByteDatagram (Datagrams.first_of e) → ByteDatagram (cond b (record (Datagrams.first_of e) { source = []; options = [] }) (Datagrams.first_of e))
    go true k = (none-bytes, none-bytes, k.2)
    go false k = k

received-bytes : (max : ℕ) (e : Endpoint) → OfBytes e → AreBytes (front max (cond (some_wait e.expedited) e.expedited e.normal))
received-bytes max e h = go (some_wait e.expedited)
  where
    go : (b : Bool) → AreBytes (front max (cond b e.expedited e.normal))
    go true = front-bytes max e.expedited h.7
    go false = front-bytes max e.normal h.6

flags-fit : (a b : Bool) → IsNumber (Receive.flags a b)
flags-fit true true = omega arith
flags-fit true false = omega arith
flags-fit false true = omega arith
flags-fit false false = omega arith

more-fits : (b : Bool) → IsNumber (cond b 1 0)
more-fits true = omega arith
more-fits false = omega arith

queue-fits : (b : Bool) (qlen : ℕ) → IsNumber (cond b 0 (min qlen 8))
queue-fits true qlen = omega arith
queue-fits false qlen = omega arith

-- ---- the limits of a provider

provided-fits : (a b : Bool) → IsNumber (cond a 1 0 + cond b 2 0)
provided-fits true true = omega arith
provided-fits true false = omega arith
provided-fits false true = omega arith
provided-fits false false = omega arith

size-fits : (n : ℕ) → is_size n ≡ true → IsNumber n
size-fits n h = (let l = leb-true n 65536 (and_parts (nat_le 1 n) (nat_le n 65536) h).1 in omega (arith, l))

limit-fits : (l : Limit) → has_limit l ≡ true → IsLimit l
limit-fits (At n) h = size-fits n h
limit-fits Infinite h = tt
limit-fits Invalid h = tt

messages-fit : (l : Limit) → has_messages l ≡ true → IsLimit l
messages-fit (At n) h = size-fits n h
messages-fit Infinite h = tt
messages-fit Invalid h = tt

connections-fit : (q : Profile) → valid_connections q ≡ true → IsLimit q.tsdu
connections-fit q h = messages-fit q.tsdu (and_parts (has_buffers q) (has_messages q.tsdu) h).1

orderly-fit : (q : Profile) → valid_orderly q ≡ true → IsLimit q.tsdu
orderly-fit q h = go q.tsdu (and_parts (has_buffers q) (has_messages q.tsdu || (is_stream_limit q.tsdu && not q.sendzero)) h).1
  where
    zero-is : (n : ℕ) (b c : Bool) → b ≡ is_size n → (b || (eqb n 0 && c)) ≡ true → IsNumber n
    zero-is n true c i k = size-fits n (sym i)
    zero-is n false c i k = (let z : n ≡ 0 = eqb-true n 0 (and_parts (eqb n 0) c k).0 in omega (arith, z))

    go : (l : Limit) → (has_messages l || (is_stream_limit l && not q.sendzero)) ≡ true → IsLimit l
    go (At n) k = zero-is n (is_size n) (not q.sendzero) refl k
    go Infinite k = tt
    go Invalid k = tt

datagrams-fit : (q : Profile) → valid_datagrams q ≡ true → IsLimit q.tsdu
datagrams-fit q h = limit-fits q.tsdu (and_parts (has_buffers q) (has_limit q.tsdu) (and_parts (has_buffers q && has_limit q.tsdu) (not q.same_addr) h).0).1

tsdu-fits : (p : Providers) (prov : Prov) → valid p ≡ true → IsLimit (profile p prov).tsdu
tsdu-fits p prov h = go prov
  where
    two : (valid_connections p.ticots && valid_orderly p.ticotsord ≡ true) × (valid_datagrams p.ticlts ≡ true)
    two = and_parts (valid_connections p.ticots && valid_orderly p.ticotsord) (valid_datagrams p.ticlts) h

    parts : (valid_connections p.ticots ≡ true) × (valid_orderly p.ticotsord ≡ true)
    parts = and_parts (valid_connections p.ticots) (valid_orderly p.ticotsord) two.0

    go : (v : Prov) → IsLimit (profile p v).tsdu
    go Ticots = connections-fit p.ticots parts.0
    go Ticotsord = orderly-fit p.ticotsord parts.1
    go Ticlts = datagrams-fit p.ticlts two.1
    go Other = connections-fit p.ticots parts.0

expedited-fits : (prov : Prov) → IsLimit (expedited_limit prov)
expedited-fits Ticlts = tt
expedited-fits _ = omega arith

connecting-fits : (prov : Prov) → IsLimit (connection_limit prov)
connecting-fits Ticlts = tt
connecting-fits _ = omega arith

info-fits : (p : Providers) (prov : Prov) → valid p ≡ true → AreLimits (info p prov)
info-fits p prov h = record {
  addr = omega arith;
  options = omega arith;
  tsdu = tsdu-fits p prov h;
  etsdu = expedited-fits prov;
  connect = connecting-fits prov;
  discon = connecting-fits prov;
  flags = provided-fits (profile p prov).sendzero (has_release_data p prov);
}

-- ---- opens

fd-fits : (p : Providers) (s : Switch) (n : ℕ) → length s.places ≡ places p → free_place p s ≡ Some n → IsNumber (Open.fd_at p s n)
fd-fits p s n l h =
    let f = position-Some (is_free p) s.places n closed_place h in
    let g = ltb-true (place_at s n).generation (last_generation p) (and_parts (not (place_at s n).is_open) (nat_lt (place_at s n).generation (last_generation p)) f.1).1 in
    omega (arith, descriptor-fits p (place_at s n).generation n g (subst (λ m. n < m) l f.0))

opens : (p : Providers) (w : World) (prov : Prov) (nonblock : Bool) → SoundWorld p w → StepTells HasValues (step_of p w (Open.plan p w prov nonblock))
opens p w prov nonblock h = step-tells p w (Open.plan p w prov nonblock) (go (opening_place p (the_switch p w) prov) refl)
  where
    known : length (the_switch p w).places ≡ places p
    known = h.registered.agreement.places_known

    place : (b : Bool) (n : ℕ) → if_provider b (free_place p (the_switch p w)) ≡ Some n → free_place p (the_switch p w) ≡ Some n
    place true n i = i
    place false n i = absurd (none-is n i)

    go : (o : Option ℕ) → opening_place p (the_switch p w) prov ≡ o → Tells (Open.plan_where p (the_switch p w) prov nonblock o)
    go None i = record { refused = denied HasValues denial (Open.rows p (the_switch p w) prov) refl; done = λ j. omega arith; lost = omega arith }
    go (Some n) i = record { refused = denied HasValues denial (Open.rows p (the_switch p w) prov) refl; done = λ j. fd-fits p (the_switch p w) n known (place (is_provider prov) n i); lost = omega arith }

-- ---- sends

-- the bytes that were taken before
abbrev pub IsNumberGo : Go → Type 0
IsNumberGo go.Begin = Unit {0}
IsNumberGo (go.More n) = IsNumber n

counts : (b : Bool) (k : ℕ) → IsNumber k → HasValues (cond b (Done (reply.Sent k)) (Part k))
counts true k h = h
counts false k h = h

taken-fits : (p : Providers) (number : ℕ) (bytes : List ℕ) (flags taken : ℕ) (e : Endpoint) (peer : Option Endpoint) → IsNumber taken → Clear (Send.rows p number bytes flags taken peer e) → IsNumber (taken + Send.taken_now peer e (is_expedited flags) (length bytes - taken))
taken-fits p number bytes flags taken e peer k c = least (room_for (is_expedited flags) e peer)
  where
    few : length bytes ≤ 65536
    few = ltb-false 65536 (length bytes) (or_parts (is_too_many number) (nat_lt 65536 (length bytes)) c.1.1.1.0).1

    least : (room : ℕ) → taken + min (length bytes - taken) room < 2 ^ 32
    least room = omega (arith, few, k)

sends : (p : Providers) (w : World) (fd number : ℕ) (bytes : List ℕ) (flags : ℕ) (g : Go) → IsNumberGo g → StepTells HasValues (step_of p w (send p w fd number bytes flags g))
sends p w fd number bytes flags go.Begin k = tells p w fd (λ e. Send.plan_to p fd number bytes flags 0 e (linked p w fd e)) (λ e i. (refl, (λ c. counts _ _ (taken-fits p number bytes flags 0 e (linked p w fd e) (omega arith) c)), zero-fits))
sends p w fd number bytes flags (go.More n) k = step-tells p w (later_plan n (Send.plan p w fd number bytes flags n)) (by (endpoint p w fd))
  where
    by : (o : Option Endpoint) → Tells (later_plan n (if_open fd o (λ e. Send.plan_to p fd number bytes flags n e (linked p w fd e))))
    by None = record { refused = k; done = λ i. tt; lost = omega arith }
    by (Some e) = record {
      refused = later-told HasValues n k (Send.rows p number bytes flags n (linked p w fd e) e);
      done = λ j. counts _ _ (taken-fits p number bytes flags n e (linked p w fd e) k (clear (Send.rows p number bytes flags n (linked p w fd e) e) (later-none n (Send.rows p number bytes flags n (linked p w fd e) e) j)));
      lost = omega arith;
    }

asks : (b : Bool) → HasValues (cond b (Done (reply.Refused TNODATA)) (Part 0))
asks true = tt
asks false = omega arith

-- ---- all calls

module _ (p : Providers) (w : World) (valued : valid p ≡ true) (h : SoundWorld p w) (b : AllBytes p w) where
  at : (fd : ℕ) (e : Endpoint) → endpoint p w fd ≡ Some e → OfBytes e
  at fd e i = subst Bytes i (b fd)

  plain : (fd : ℕ) (f : Endpoint → Plan) → ((e : Endpoint) → (all_deny (f e).rows ≡ true) × HasValues (f e).outcome × IsNumber (f e).lost_number) → StepTells HasValues (step_of p w (on_open p w fd f))
  plain fd f k = tells p w fd f (λ e i. ((k e).0, (λ c. (k e).1), (k e).2))

  accepts : (fd resfd number : ℕ) (options udata : List ℕ) → StepTells HasValues (step_of p w (Listen.accept_plan p w fd resfd number options udata))
  accepts fd resfd number options udata = plain fd (λ e. Listen.accept_with p fd resfd number options udata e (endpoint p w resfd)) (λ e. by e (endpoint p w resfd))
    where
      by : (e : Endpoint) (o : Option Endpoint) → (all_deny (Listen.accept_with p fd resfd number options udata e o).rows ≡ true) × HasValues (Listen.accept_with p fd resfd number options udata e o).outcome × IsNumber (Listen.accept_with p fd resfd number options udata e o).lost_number
      by e None = (refl, tt, zero-fits)
      by e (Some r) = (refl, tt, zero-fits)

  confirms : (fd amax omax umax : ℕ) → StepTells HasValues (step_of p w (Connect.confirm_plan p w fd amax omax umax))
  confirms fd amax omax umax = tells p w fd _ (λ e i. (
    refl,
    (λ c. (let d = confirmation-bytes e.confirmation (at fd e i).5 in (trimmed-bytes (Connect.confirmation_or e.confirmation).address amax d.0, trimmed-bytes (Connect.confirmation_or e.confirmation).options omax d.1, trimmed-bytes (Connect.confirmation_or e.confirmation).udata umax d.2))),
    zero-fits,
  ))

  listens : (fd amax omax umax : ℕ) → StepTells HasValues (step_of p w (Listen.listen_plan p w fd amax omax umax))
  listens fd amax omax umax = tells p w fd _ (λ e i. (
    refl,
    (λ c. (let d = oldest-bytes e (at fd e i) in (d.0, trimmed-bytes (Listen.oldest e).address amax d.1, trimmed-bytes (Listen.oldest e).options omax d.2, trimmed-bytes (Listen.oldest e).udata umax d.3))),
    (oldest-bytes e (at fd e i)).0,
  ))

  receives : (fd sizes max : ℕ) → StepTells HasValues (step_of p w (Receive.plan p w fd sizes max))
  receives fd sizes max = tells p w fd _ (λ e i. (refl, (λ c. (received-bytes max e (at fd e i), flags-fit (some_wait e.expedited) (Receive.goes_on p (some_wait e.expedited) max e))), zero-fits))

  disconnects : (fd umax : ℕ) → StepTells HasValues (step_of p w (Disconnects.receive_plan p w fd umax))
  disconnects fd umax = tells p w fd _ (λ e i. (
    refl,
    (λ c. (let d : ByteDisconnect (Disconnects.oldest e) = first-of ByteDisconnect Disconnects.disconnect_or e.disconnects (λ i. refl) (zero-fits, zero-fits, none-bytes) (at fd e i).3 in (d.0, d.1, trimmed-bytes (Disconnects.oldest e).udata umax d.2))),
    zero-fits,
  ))

  releases : (fd umax : ℕ) → StepTells HasValues (step_of p w (Release.receive_data_plan p w fd umax))
  releases fd umax = tells p w fd _ (λ e i. (refl, (λ c. trimmed-bytes (Release.release_data e) umax (any-bytes e.release (at fd e i).10)), zero-fits))

  datagrams : (fd sizes max amax omax : ℕ) → StepTells HasValues (step_of p w (Datagrams.receive_plan p w fd sizes max amax omax))
  datagrams fd sizes max amax omax = tells p w fd (Datagrams.receive_from fd sizes max amax omax) (λ e i. (
    refl,
    (λ c. (
        let d = told-bytes e (at fd e i) in (
          trimmed-bytes (Datagrams.told e).source amax d.0,
          trimmed-bytes (Datagrams.told e).options omax d.1,
          All-take (λ b. b < 256) max (Datagrams.told e).bytes d.2,
          more-fits (Datagrams.has_rest max (Datagrams.told e)),
        ))),
    zero-fits,
  ))

  errors : (fd amax omax : ℕ) → StepTells HasValues (step_of p w (Datagrams.error_plan p w fd amax omax))
  errors fd amax omax = tells p w fd _ (λ e i. (
    refl,
    (λ c. (let d : ByteError (Datagrams.first_error e) = first-of ByteError Datagrams.error_or e.datagram_errors (λ i. refl) (none-bytes, none-bytes, zero-fits) (at fd e i).9 in (trimmed-bytes (Datagrams.first_error e).destination amax d.0, trimmed-bytes (Datagrams.first_error e).options omax d.1, d.2))),
    zero-fits,
  ))

  addresses : (fd amax pmax : ℕ) → StepTells HasValues (step_of p w (Show.addresses_plan p w fd amax pmax))
  addresses fd amax pmax = tells p w fd _ (λ e i. (refl, (λ c. (trimmed-bytes (address_of e) amax (address-bytes e (at fd e i)), trimmed-bytes (Show.shown_peer e) pmax (peer-bytes e (at fd e i)))), zero-fits))

  options_told : (fd action : ℕ) (opt : List ℕ) (omax : ℕ) → StepTells HasValues (step_of p w (Show.option_plan p w fd action opt omax))
  options_told fd action opt omax = tells p w fd (λ e. Show.option_plan_of fd (Show.negotiated p action opt e) action opt omax e) (λ e i. (
    refl,
    (λ c. (let f = negotiated-fits (Show.settings (profile p e.prov) e) action (the_options opt) in (small (Show.negotiated p action opt e).result f.1, trimmed-bytes (options_bytes (Show.negotiated p action opt e).options) omax f.0))),
    zero-fits,
  ))
    where
      small : (n : ℕ) → n ≤ 1024 → n < 2 ^ 32
      small n k = omega (arith, k)

  binds : (fd : ℕ) (address : List ℕ) (qlen amax : ℕ) → AreBytes address → StepTells HasValues (step_of p w (Bind.plan p w fd address qlen amax))
  binds fd address qlen amax a = tells p w fd (Bind.plan_in (the_switch p w) fd address qlen amax) (λ e i. (
    refl,
    (λ c. (trimmed-bytes (chosen (the_switch p w) e.prov address) amax (chosen-bytes (the_switch p w) e.prov address (few-in-either p w h.registered.agreement) a), queue-fits _ qlen)),
    zero-fits,
  ))

  pub replies-valued : (c : Call) (g : Go) (s : Step) → IsOfBytes c → IsNumberGo g → step p w c g ≡ Some s → HasValues s.outcome
  unfolding step plan
  replies-valued (call.TOpen prov nonblock) g s a k = told HasValues _ s (opens p w prov nonblock h)
  replies-valued (call.TClose fd) g s a k = told HasValues _ s (plain fd.0 _ (λ e. (refl, tt, zero-fits)))
  replies-valued (call.TBind fd addr qlen amax) g s a k = told HasValues _ s (binds fd.0 addr qlen amax a)
  replies-valued (call.TUnbind fd) g s a k = told HasValues _ s (plain fd.0 _ (λ e. (refl, tt, zero-fits)))
  replies-valued (call.TConnect fd addr opt udata amax omax umax) go.Begin s a k = told HasValues _ s (plain fd.0 (λ e. Connect.plan_to fd.0 addr opt udata e (Connect.found p w fd.0 addr e)) (λ e. (refl, asks e.nonblock, zero-fits)))
  replies-valued (call.TConnect fd addr opt udata amax omax umax) (go.More n) s a k = told HasValues _ s (confirms fd.0 amax omax umax)
  replies-valued (call.TRcvConnect fd amax omax umax) g s a k = told HasValues _ s (confirms fd.0 amax omax umax)
  replies-valued (call.TListen fd amax omax umax) g s a k = told HasValues _ s (listens fd.0 amax omax umax)
  replies-valued (call.TAccept fd resfd seq opt udata) g s a k = told HasValues _ s (accepts fd.0 resfd.0 seq.0 opt udata)
  replies-valued (call.TSnd fd bytes flags) g s a k = told HasValues _ s (sends p w fd.0 1 bytes flags g k)
  replies-valued (call.TSndV fd parts flags) g s a k = told HasValues _ s (sends p w fd.0 (length parts) (concat parts) flags g k)
  replies-valued (call.TRcv fd max) g s a k = told HasValues _ s (receives fd.0 1 max)
  replies-valued (call.TRcvV fd sizes) g s a k = told HasValues _ s (receives fd.0 (length sizes) (sum sizes))
  replies-valued (call.TSndDis fd seq udata) g s a k = told HasValues _ s (plain fd.0 _ (λ e. (refl, tt, zero-fits)))
  replies-valued (call.TRcvDis fd umax) g s a k = told HasValues _ s (disconnects fd.0 umax)
  replies-valued (call.TSndRel fd) g s a k = told HasValues _ s (plain fd.0 _ (λ e. (refl, tt, zero-fits)))
  replies-valued (call.TRcvRel fd) g s a k = told HasValues _ s (plain fd.0 _ (λ e. (refl, tt, zero-fits)))
  replies-valued (call.TSndRelData fd udata) g s a k = told HasValues _ s (plain fd.0 _ (λ e. (refl, tt, zero-fits)))
  replies-valued (call.TRcvRelData fd umax) g s a k = told HasValues _ s (releases fd.0 umax)
  replies-valued (call.TSndUData fd addr opt bytes) g s a k = told HasValues _ s (plain fd.0 _ (λ e. (refl, tt, zero-fits)))
  replies-valued (call.TSndVUData fd addr opt parts) g s a k = told HasValues _ s (plain fd.0 _ (λ e. (refl, tt, zero-fits)))
  replies-valued (call.TRcvUData fd max amax omax) g s a k = told HasValues _ s (datagrams fd.0 1 max amax omax)
  replies-valued (call.TRcvVUData fd sizes amax omax) g s a k = told HasValues _ s (datagrams fd.0 (length sizes) (sum sizes) amax omax)
  replies-valued (call.TRcvUDErr fd amax omax) g s a k = told HasValues _ s (errors fd.0 amax omax)
  replies-valued (call.TLookAt fd) g s a k = told HasValues _ s (plain fd.0 _ (λ e. (refl, tt, zero-fits)))
  replies-valued (call.TGetState fd) g s a k = told HasValues _ s (plain fd.0 _ (λ e. (refl, tt, zero-fits)))
  replies-valued (call.TSync fd) g s a k = told HasValues _ s (plain fd.0 _ (λ e. (refl, tt, zero-fits)))
  replies-valued (call.TGetInfo fd) g s a k = told HasValues _ s (plain fd.0 _ (λ e. (refl, info-fits p e.prov valued, zero-fits)))
  replies-valued (call.TGetProtAddr fd amax pmax) g s a k = told HasValues _ s (addresses fd.0 amax pmax)
  replies-valued (call.TOptMgmt fd action opt omax) g s a k = told HasValues _ s (options_told fd.0 action opt omax)
  replies-valued (call.SetMode fd nonblock) g s a k = told HasValues _ s (plain fd.0 _ (λ e. (refl, tt, zero-fits)))
