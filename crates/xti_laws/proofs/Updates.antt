-- Each update that a call makes leaves a sound endpoint sound.
use Rattle.std.proofs.Common.{ℕ, Bool, true, false, List, [], ◌∷◌, ◌++◌, ◌+◌, ◌≡◌, ◌<◌, ◌≤◌, refl, sym, ap, ◌∙◌, subst, cond, eqb, length, drop, Option, Some, None, is_some, is_none, arith, length-append}
use Rattle.std.proofs.lemmas.Bool.{and_parts, or_parts, false≢true, eqb-true, eqb-false}
use Rattle.std.proofs.lemmas.List.Elements.{All-append, All-nil, All-cons, All-drop, All-head}
use Rattle.std.specs.List.{All}
use Rattle.std.specs.Prelude.{slice_get}
use Rattle.xti_base.specs.declared.kinds.Prov.{Prov}
use Rattle.xti_base.specs.declared.kinds.State.{State}
use Rattle.xti_base.specs.declared.kinds.State.TheVariants.{T_UNBND, T_IDLE, T_OUTCON, T_INCON, T_DATAXFER}
use Rattle.xti_model.specs.declared.profile.Profile.{Profile}
use Rattle.xti_model.specs.declared.profile.Providers.{Providers}
use Rattle.xti_model.specs.Profile.{is_size, has_buffers}
use Rattle.xti_model.specs.Provider.{has_datagrams}
use Rattle.xti_model.specs.Endpoint.{Endpoint, Indication, Disconnect, Target, Datagram, DatagramError, opened, find_number, without_number, is_target, disconnected, ocnt}
use Rattle.xti_model.specs.Links.{broken, if_names, names, taken_back}
use Rattle.xti_model.specs.Symbols.{bytes_waiting, rest}
use Rattle.xti_model.specs.Events.{is_state, some_wait}
use Rattle.xti_model.specs.Calls.Bind as Bind
use Rattle.xti_model.specs.Calls.Close as Close
use Rattle.xti_model.specs.Calls.Connect as Connect
use Rattle.xti_model.specs.Calls.Listen as Listen
use Rattle.xti_model.specs.Calls.Send as Send
use Rattle.xti_model.specs.Calls.Receive as Receive
use Rattle.xti_model.specs.Calls.Disconnect as Disconnect
use Rattle.xti_model.specs.Calls.Release as Release
use Rattle.xti_laws.specs.Requests.{SoundRequests, is_connected}
use Rattle.xti_model.specs.Calls.Disconnect.{is_asked}
use Rattle.xti_laws.proofs.StepWays.{none-is, not-both}
use Rattle.xti_laws.proofs.EndpointUpdates.{target-none}
use Rattle.xti_laws.proofs.ListenerUpdates.{asked-hears}
use Rattle.xti_laws.specs.Endpoints.{SoundEndpoint, Unconnected, OfProvider, ShortIndication, ShortDisconnect, ShortDatagram, ShortError}
use Rattle.xti_laws.specs.Requests.{is_one_of}
use Rattle.xti_laws.proofs.States.{only, Busy, busy-data, busy-out, listening-bound, listening-bare}
use Rattle.xti_laws.proofs.ShortLists.{without-shorter, without-one, All-without, counted-append, rest-fewer}

impossible : {A : Type 0} → true ≡ false → A
impossible h = absurd (false≢true (sym h))

-- what a state that is in a connection asks of the rest
pub not-bare : (s : State) (a : Option (List ℕ)) (m : Bool) (u x : ℕ) (f g : Bool) → is_one_of (T_UNBND ∷ T_IDLE ∷ T_INCON ∷ []) s ≡ false → Unconnected s a m u x f g
not-bare s a m u x f g n = record { no_address = λ t. absurd (not-both (is_one_of (T_UNBND ∷ T_IDLE ∷ T_INCON ∷ []) s) n t); not_mid = λ t. absurd (not-both (is_one_of (T_UNBND ∷ T_IDLE ∷ T_INCON ∷ []) s) n t); finished = λ t. absurd (not-both (is_one_of (T_UNBND ∷ T_IDLE ∷ T_INCON ∷ []) s) n t); unmarked = λ t. absurd (not-both (is_one_of (T_UNBND ∷ T_IDLE ∷ T_INCON ∷ []) s) n t) }

pub clean : (s : State) → Unconnected s None false 0 0 false false
clean s = record { no_address = λ t. refl; not_mid = λ t. refl; finished = λ t. (refl, refl); unmarked = λ t. (refl, refl) }

pub bare-from : (s t : State) (a : Option (List ℕ)) (m : Bool) (u x : ℕ) (f g : Bool) → is_one_of (T_UNBND ∷ T_IDLE ∷ T_INCON ∷ []) s ≡ true → Unconnected s a m u x f g → Unconnected t a m u x f g
bare-from s t a m u x f g k b = record { no_address = λ z. b.no_address k; not_mid = λ z. b.not_mid k; finished = λ z. b.finished k; unmarked = λ z. b.unmarked k }

-- an endpoint of connections
pub connecting : (prov : Prov) (s t : State) (q r : ℕ) (ds : List Datagram) (b : Bool) (es : List DatagramError) (f : Option (List ℕ)) → has_datagrams prov ≡ false → OfProvider prov s q ds b es f → OfProvider prov t r ds b es f
connecting prov s t q r ds b es f n k = record { alone = λ z. absurd (not-both (has_datagrams prov) n z); without = k.without }

pub not-resting : (e : Endpoint) → SoundEndpoint e → is_one_of (T_UNBND ∷ T_IDLE ∷ []) e.state ≡ false → has_datagrams e.prov ≡ false
not-resting e h n = go (has_datagrams e.prov) refl
  where
    go : (b : Bool) → has_datagrams e.prov ≡ b → b ≡ false
    go false j = refl
    go true j = absurd (not-both (is_one_of (T_UNBND ∷ T_IDLE ∷ []) e.state) n (h.of_provider.alone j).1)

pub no-target : {A : Type 0} (t : Option Target) → t ≡ None → is_some t ≡ true → A
no-target t n y = absurd (false≢true (sym (ap is_some n) ∙ y))

pub not-asking : (e : Endpoint) → SoundEndpoint e → is_one_of (T_OUTCON ∷ []) e.state ≡ false → e.target ≡ None
not-asking e h n = go e.target refl
  where
    go : (t : Option Target) → e.target ≡ t → t ≡ None
    go None j = refl
    go (Some t) j = absurd (not-both (is_one_of (T_OUTCON ∷ []) e.state) n (h.disconnecting.asking (ap is_some j)))

no-peer : {A : Type 0} (o : Option ℕ) → o ≡ None → is_some o ≡ true → A
no-peer o n y = absurd (false≢true (sym (ap is_some n) ∙ y))

-- who asks has no peer
asking-alone : (e : Endpoint) → SoundEndpoint e → is_some e.target ≡ true → e.peer ≡ None
asking-alone e h t = go e.peer refl
  where
    go : (o : Option ℕ) → e.peer ≡ o → o ≡ None
    go None j = refl
    go (Some y) j = no-target e.target (h.disconnecting.with_peer (ap is_some j)).0 t

pub idle-alone : (e : Endpoint) → SoundRequests e → is_state (T_IDLE ∷ []) e ≡ true → e.peer ≡ None
idle-alone e g s = g.unlinked (ap is_connected (only e.state T_IDLE s))

pub asked-alone : (e : Endpoint) → SoundRequests e → is_asked e ≡ true → e.peer ≡ None
asked-alone e g a = g.unlinked (ap is_connected (only e.state T_INCON a))

longer : {A : Type 0} (xs : List A) (x : A) → 0 < length (xs ++ x ∷ [])
longer xs x = simp (length-append xs (x ∷ [])) (omega arith)

pub one-disconnect : (reason number : ℕ) (udata : List ℕ) → length udata ≤ 64 → All ShortDisconnect (record { reason = reason; number = number; udata = udata } ∷ [])
one-disconnect reason number udata l = All-cons ShortDisconnect (record { reason = reason; number = number; udata = udata }) [] l (All-nil ShortDisconnect)

pub fit-opened : (profile : Profile) (prov : Prov) (nonblock : Bool) → has_buffers profile ≡ true → SoundEndpoint (opened profile prov nonblock)
fit-opened profile prov nonblock h = (let q = and_parts (is_size profile.sndbuf) (is_size profile.rcvbuf) h in record {
  listening = record { queue = omega arith; short = tt; bound = refl; few = omega arith; heard = λ t. refl; unbound = λ t. refl; held = λ t. absurd (false≢true t) };
  disconnecting = record { asking = λ t. absurd (false≢true t); rest = λ t. refl; none = λ t. refl; with_peer = λ t. absurd (false≢true t); one = λ t. omega arith; broken = λ t a b. absurd (false≢true t); short = All-nil ShortDisconnect };
  request_fields = record { pending_short = All-nil ShortIndication; outstanding_short = All-nil ShortIndication; numbered = omega arith; peer = tt; confirmed = tt };
  released = tt;
  stream_data = record { normal_few = omega arith; expedited_few = omega arith; unfinished = omega arith; expedited_unfinished = omega arith };
  datagrams = record { few = omega arith; short = All-nil ShortDatagram; begins = λ t. absurd (false≢true t); one_error = omega arith; errors_short = All-nil ShortError; mark = tt };
  buffers = record { send = q.0; receive = q.1 };
  unconnected = clean T_UNBND;
  of_provider = record { alone = λ t. (refl, refl); without = λ t. (refl, refl, refl, refl) };
})

-- Bind and unbind.
pub fit-bound : (address : List ℕ) (qlen : ℕ) (e : Endpoint) → is_state (T_UNBND ∷ []) e ≡ true → e.outstanding ≡ [] → qlen ≤ 8 → (has_datagrams e.prov ≡ true → qlen ≡ 0) → length address ≤ 64 → SoundEndpoint e → SoundEndpoint (Bind.bound_to address qlen e)
fit-bound address qlen e u o q k l h =
    let s : e.state ≡ T_UNBND = only e.state T_UNBND u in
    let n : e.pending ≡ [] = h.listening.heard (ap (is_one_of (T_IDLE ∷ T_INCON ∷ [])) s) in
    record {
      listening = record { queue = q; short = l; bound = refl; few = subst (λ z. length z + length e.outstanding ≤ qlen) (sym n) (subst (λ z. 0 + length z ≤ qlen) (sym o) (omega arith)); heard = λ t. impossible t; unbound = λ t. absurd (false≢true t); held = λ t. absurd (false≢true t) };
      disconnecting = record { asking = λ t. absurd (not-both (is_one_of (T_OUTCON ∷ []) e.state) (ap (is_one_of (T_OUTCON ∷ [])) s) (h.disconnecting.asking t)); rest = λ t. h.disconnecting.rest (ap (is_one_of (T_UNBND ∷ T_IDLE ∷ [])) s); none = h.disconnecting.none; with_peer = h.disconnecting.with_peer; one = λ t. h.disconnecting.one (ap (is_one_of (T_INCON ∷ [])) s); broken = λ t a b. absurd (false≢true t); short = h.disconnecting.short };
      request_fields = h.request_fields;
      released = h.released;
      stream_data = h.stream_data;
      datagrams = h.datagrams;
      buffers = h.buffers;
      unconnected = bare-from e.state T_IDLE e.peer_address e.mid_expedited e.unfinished_normal e.unfinished_expedited e.flow_normal e.flow_expedited (ap (is_one_of (T_UNBND ∷ T_IDLE ∷ T_INCON ∷ [])) s) h.unconnected;
      of_provider = record { alone = λ t. (k t, refl); without = h.of_provider.without };
    }

pub fit-unbound : (e : Endpoint) → is_state (T_IDLE ∷ []) e ≡ true → e.pending ≡ [] → e.outstanding ≡ [] → SoundEndpoint e → SoundEndpoint (Bind.unbound e)
fit-unbound e i n o h = (let s : e.state ≡ T_IDLE = only e.state T_IDLE i in record {
  listening = record { queue = omega arith; short = tt; bound = refl; few = subst (λ z. length z + length e.outstanding ≤ 0) (sym n) (subst (λ z. 0 + length z ≤ 0) (sym o) (omega arith)); heard = λ t. n; unbound = λ t. refl; held = λ t. absurd (false≢true t) };
  disconnecting = record { asking = λ t. absurd (not-both (is_one_of (T_OUTCON ∷ []) e.state) (ap (is_one_of (T_OUTCON ∷ [])) s) (h.disconnecting.asking t)); rest = λ t. h.disconnecting.rest (ap (is_one_of (T_UNBND ∷ T_IDLE ∷ [])) s); none = h.disconnecting.none; with_peer = h.disconnecting.with_peer; one = λ t. h.disconnecting.one (ap (is_one_of (T_INCON ∷ [])) s); broken = λ t a b. absurd (false≢true t); short = h.disconnecting.short };
  request_fields = h.request_fields;
  released = h.released;
  stream_data = h.stream_data;
  datagrams = record { few = h.datagrams.few; short = h.datagrams.short; begins = h.datagrams.begins; one_error = omega arith; errors_short = All-nil ShortError; mark = tt };
  buffers = h.buffers;
  unconnected = (let k = ap (is_one_of (T_UNBND ∷ T_IDLE ∷ T_INCON ∷ [])) s in record { no_address = λ t. h.unconnected.no_address k; not_mid = λ t. h.unconnected.not_mid k; finished = λ t. h.unconnected.finished k; unmarked = λ t. (refl, refl) });
  of_provider = record { alone = λ t. (refl, refl); without = λ t. (let q = h.of_provider.without t in (q.0, q.1, refl, refl)) };
})

-- Connect.
pub fit-turned_away : (reason : ℕ) (e : Endpoint) → has_datagrams e.prov ≡ false → is_state (T_IDLE ∷ []) e ≡ true → e.pending ≡ [] → e.target ≡ None → e.peer ≡ None → e.disconnects ≡ [] → SoundEndpoint e → SoundEndpoint (Connect.turned_away reason e)
fit-turned_away reason e c i n t m d h = (let s : e.state ≡ T_IDLE = only e.state T_IDLE i in record {
  listening = record { queue = h.listening.queue; short = h.listening.short; bound = h.listening.bound ∙ ap (is_one_of (T_UNBND ∷ [])) s; few = h.listening.few; heard = λ t. n; unbound = λ t. absurd (false≢true t); held = λ t. absurd (false≢true t) };
  disconnecting = record { asking = λ y. refl; rest = λ y. absurd (false≢true y); none = λ y. absurd (false≢true (sym (ap is_some t) ∙ y)); with_peer = no-peer e.peer m; one = λ y. subst (λ z. length (z ++ record { reason = reason; number = 0; udata = [] } ∷ []) ≤ 1) (sym d) (omega arith); broken = λ t a b. longer e.disconnects (record { reason = reason; number = 0; udata = [] }); short = subst (λ z. All ShortDisconnect (z ++ record { reason = reason; number = 0; udata = [] } ∷ [])) (sym d) (one-disconnect reason 0 [] (omega arith)) };
  request_fields = h.request_fields;
  released = h.released;
  stream_data = h.stream_data;
  datagrams = h.datagrams;
  buffers = h.buffers;
  unconnected = not-bare T_OUTCON e.peer_address e.mid_expedited e.unfinished_normal e.unfinished_expedited e.flow_normal e.flow_expedited refl;
  of_provider = connecting e.prov e.state T_OUTCON e.qlen e.qlen e.datagrams e.begun e.datagram_errors e.flow_datagram c h.of_provider;
})

pub fit-asked : (caller : ℕ) (address options udata : List ℕ) (l : Endpoint) → is_one_of (T_IDLE ∷ T_INCON ∷ []) l.state ≡ true → Connect.is_full l ≡ false → length address ≤ 64 → length options ≤ 256 → length udata ≤ 64 → SoundEndpoint l → SoundEndpoint (Connect.asked caller address options udata l)
fit-asked caller address options udata l i f a o u h = record {
  listening = record { queue = h.listening.queue; short = h.listening.short; bound = h.listening.bound; few = few; heard = λ t. absurd (not-both _ t i); unbound = h.listening.unbound; held = h.listening.held };
  disconnecting = h.disconnecting;
  request_fields = record { pending_short = All-append ShortIndication l.pending (new ∷ []) h.request_fields.pending_short (All-cons ShortIndication new [] (a, o, u) (All-nil ShortIndication)); outstanding_short = h.request_fields.outstanding_short; numbered = numbered; peer = h.request_fields.peer; confirmed = h.request_fields.confirmed };
  released = h.released;
  stream_data = h.stream_data;
  datagrams = h.datagrams;
  buffers = h.buffers;
  unconnected = h.unconnected;
  of_provider = h.of_provider;
}
  where
    new : Indication
    new = record { number = l.last_number + 1; caller = caller; address = address; options = options; udata = udata }

    parts : (eqb (length l.pending + length l.outstanding) l.qlen ≡ false) × (eqb l.last_number 4294967295 ≡ false)
    parts = or_parts (eqb (length l.pending + length l.outstanding) l.qlen) (eqb l.last_number 4294967295) f

    few : length (l.pending ++ new ∷ []) + length l.outstanding ≤ l.qlen
    few = simp (length-append l.pending (new ∷ [])) (let d = eqb-false (length l.pending + length l.outstanding) l.qlen parts.0 in let q = h.listening.few in omega arith)

    numbered : l.last_number + 1 ≤ 4294967295
    numbered = (let d = eqb-false l.last_number 4294967295 parts.1 in let q = h.request_fields.numbered in omega arith)

pub fit-asking : (l n : ℕ) (e : Endpoint) → has_datagrams e.prov ≡ false → is_state (T_IDLE ∷ []) e ≡ true → e.pending ≡ [] → e.peer ≡ None → e.disconnects ≡ [] → SoundEndpoint e → SoundEndpoint (Connect.asking l n e)
fit-asking l n e c i p m d h = (let s : e.state ≡ T_IDLE = only e.state T_IDLE i in record {
  listening = record { queue = h.listening.queue; short = h.listening.short; bound = h.listening.bound ∙ ap (is_one_of (T_UNBND ∷ [])) s; few = h.listening.few; heard = λ t. p; unbound = λ t. absurd (false≢true t); held = λ t. absurd (false≢true t) };
  disconnecting = record { asking = λ y. refl; rest = λ y. d; none = λ y. d; with_peer = no-peer e.peer m; one = λ y. subst (λ z. length z ≤ 1) (sym d) (omega arith); broken = λ t a b. absurd (none-is (record { listener = l; number = n }) (sym a)); short = h.disconnecting.short };
  request_fields = h.request_fields;
  released = h.released;
  stream_data = h.stream_data;
  datagrams = h.datagrams;
  buffers = h.buffers;
  unconnected = not-bare T_OUTCON e.peer_address e.mid_expedited e.unfinished_normal e.unfinished_expedited e.flow_normal e.flow_expedited refl;
  of_provider = connecting e.prov e.state T_OUTCON e.qlen e.qlen e.datagrams e.begun e.datagram_errors e.flow_datagram c h.of_provider;
})

-- from a busy state to another
pub fit-moved : (s : State) (e : Endpoint) → Busy e.state → Busy s → e.target ≡ None → SoundEndpoint e → SoundEndpoint (record e { state = s })
fit-moved s e b c t h = record {
  listening = record { queue = h.listening.queue; short = h.listening.short; bound = h.listening.bound ∙ (b.not_unbound ∙ sym c.not_unbound); few = h.listening.few; heard = λ z. h.listening.heard b.not_heard; unbound = λ z. absurd (not-both (is_one_of (T_UNBND ∷ []) s) c.not_unbound z); held = λ z. absurd (not-both (is_one_of (T_INCON ∷ []) s) c.not_asked z) };
  disconnecting = record { asking = no-target e.target t; rest = λ y. absurd (not-both (is_one_of (T_UNBND ∷ T_IDLE ∷ []) s) c.not_resting y); none = h.disconnecting.none; with_peer = h.disconnecting.with_peer; one = λ y. h.disconnecting.one b.not_asked; broken = λ t a m. h.disconnecting.broken b.connected a m; short = h.disconnecting.short };
  request_fields = h.request_fields;
  released = h.released;
  stream_data = h.stream_data;
  datagrams = h.datagrams;
  buffers = h.buffers;
  unconnected = not-bare s e.peer_address e.mid_expedited e.unfinished_normal e.unfinished_expedited e.flow_normal e.flow_expedited c.not_bare;
  of_provider = connecting e.prov e.state s e.qlen e.qlen e.datagrams e.begun e.datagram_errors e.flow_datagram (not-resting e h b.not_resting) h.of_provider;
}

pub fit-confirmed : (e : Endpoint) → Busy e.state → e.target ≡ None → SoundEndpoint e → SoundEndpoint (Connect.confirmed e)
fit-confirmed e b t h = (let m = fit-moved T_DATAXFER e b (busy-data T_DATAXFER refl) t h in record {
  listening = m.listening;
  disconnecting = m.disconnecting;
  request_fields = record { pending_short = h.request_fields.pending_short; outstanding_short = h.request_fields.outstanding_short; numbered = h.request_fields.numbered; peer = h.request_fields.peer; confirmed = tt };
  released = h.released;
  stream_data = h.stream_data;
  datagrams = h.datagrams;
  buffers = h.buffers;
  unconnected = m.unconnected;
  of_provider = m.of_provider;
})

-- Listen and accept.
pub fit-listened : (e : Endpoint) → has_datagrams e.prov ≡ false → is_one_of (T_IDLE ∷ T_INCON ∷ []) e.state ≡ true → some_wait e.pending ≡ true → SoundEndpoint e → SoundEndpoint (Listen.listened e)
fit-listened e c i w h = record {
  listening = record { queue = h.listening.queue; short = h.listening.short; bound = h.listening.bound ∙ listening-bound e.state i; few = few e.pending w h.listening.few; heard = λ t. impossible t; unbound = λ t. absurd (false≢true t); held = λ t. simp (length-append e.outstanding (Listen.oldest e ∷ [])) (omega arith) };
  disconnecting = record { asking = no-target e.target (not-asking e h (listening-bare e.state i).1); rest = λ y. absurd (false≢true y); none = h.disconnecting.none; with_peer = h.disconnecting.with_peer; one = λ y. impossible y; broken = λ t a b. absurd (false≢true t); short = h.disconnecting.short };
  request_fields = record { pending_short = All-drop ShortIndication 1 e.pending h.request_fields.pending_short; outstanding_short = All-append ShortIndication e.outstanding (Listen.oldest e ∷ []) h.request_fields.outstanding_short (All-cons ShortIndication (Listen.oldest e) [] (oldest e.pending w h.request_fields.pending_short) (All-nil ShortIndication)); numbered = h.request_fields.numbered; peer = h.request_fields.peer; confirmed = h.request_fields.confirmed };
  released = h.released;
  stream_data = h.stream_data;
  datagrams = h.datagrams;
  buffers = h.buffers;
  unconnected = bare-from e.state T_INCON e.peer_address e.mid_expedited e.unfinished_normal e.unfinished_expedited e.flow_normal e.flow_expedited (listening-bare e.state i).0 h.unconnected;
  of_provider = connecting e.prov e.state T_INCON e.qlen e.qlen e.datagrams e.begun e.datagram_errors e.flow_datagram c h.of_provider;
}
  where
    few : (ps : List Indication) → some_wait ps ≡ true → length ps + length e.outstanding ≤ e.qlen → length (drop 1 ps) + length (e.outstanding ++ Listen.oldest e ∷ []) ≤ e.qlen
    few [] w k = absurd (false≢true w)
    few (p ∷ ps) w k = simp (length-append e.outstanding (Listen.oldest e ∷ [])) (omega (arith, k))

    oldest : (ps : List Indication) → some_wait ps ≡ true → All ShortIndication ps → ShortIndication (Listen.indication_or (slice_get ps 0))
    oldest [] w a = absurd (false≢true w)
    oldest (p ∷ ps) w a = All-head ShortIndication p ps a

-- with the disconnects that are left, of which none is left where the last request goes
pub fit-taken_out : (n : ℕ) (ds : List Disconnect) (e : Endpoint) → is_asked e ≡ true → e.target ≡ None → e.peer ≡ None → (ocnt e ≡ 1 → ds ≡ []) → All ShortDisconnect ds → SoundEndpoint e → SoundEndpoint (record (Listen.taken_out n e) { disconnects = ds })
fit-taken_out n ds e i t m k a h = record {
  listening = record { queue = h.listening.queue; short = h.listening.short; bound = bound (eqb (ocnt e) 1); few = (let q = h.listening.few in let r = without-shorter n e.outstanding in omega arith); heard = heard (eqb (ocnt e) 1); unbound = unbound (eqb (ocnt e) 1); held = held (eqb (ocnt e) 1) refl };
  disconnecting = record { asking = no-target e.target t; rest = rest (eqb (ocnt e) 1) refl; none = λ y. absurd (false≢true (sym (ap is_some t) ∙ y)); with_peer = no-peer e.peer m; one = one (eqb (ocnt e) 1) refl; broken = λ y q b. absurd (apart (eqb (ocnt e) 1) y); short = a };
  request_fields = record { pending_short = h.request_fields.pending_short; outstanding_short = All-without ShortIndication n e.outstanding h.request_fields.outstanding_short; numbered = h.request_fields.numbered; peer = h.request_fields.peer; confirmed = h.request_fields.confirmed };
  released = h.released;
  stream_data = h.stream_data;
  datagrams = h.datagrams;
  buffers = h.buffers;
  unconnected = bare-from e.state (cond (eqb (ocnt e) 1) T_IDLE e.state) e.peer_address e.mid_expedited e.unfinished_normal e.unfinished_expedited e.flow_normal e.flow_expedited (ap (is_one_of (T_UNBND ∷ T_IDLE ∷ T_INCON ∷ [])) s) h.unconnected;
  of_provider = connecting e.prov e.state (cond (eqb (ocnt e) 1) T_IDLE e.state) e.qlen e.qlen e.datagrams e.begun e.datagram_errors e.flow_datagram (not-resting e h (ap (is_one_of (T_UNBND ∷ T_IDLE ∷ [])) s)) h.of_provider;
}
  where
    s : e.state ≡ T_INCON
    s = only e.state T_INCON i

    bound : (b : Bool) → is_none e.address ≡ is_one_of (T_UNBND ∷ []) (cond b T_IDLE e.state)
    bound true = h.listening.bound ∙ ap (is_one_of (T_UNBND ∷ [])) s
    bound false = h.listening.bound

    heard : (b : Bool) → is_one_of (T_IDLE ∷ T_INCON ∷ []) (cond b T_IDLE e.state) ≡ false → e.pending ≡ []
    heard true y = impossible y
    heard false y = h.listening.heard y

    unbound : (b : Bool) → is_one_of (T_UNBND ∷ []) (cond b T_IDLE e.state) ≡ true → e.qlen ≡ 0
    unbound true y = absurd (false≢true y)
    unbound false y = h.listening.unbound y

    held : (b : Bool) → eqb (ocnt e) 1 ≡ b → is_one_of (T_INCON ∷ []) (cond b T_IDLE e.state) ≡ true → 0 < length (without_number n e.outstanding)
    held true j y = absurd (false≢true y)
    held false j y = (let q = h.listening.held y in let r = without-one n e.outstanding in let k = eqb-false (ocnt e) 1 j in omega arith)

    apart : (b : Bool) → is_connected (cond b T_IDLE e.state) ≡ true → ⊥
    apart true y = false≢true y
    apart false y = not-both (is_connected e.state) (ap is_connected s) y

    rest : (b : Bool) → eqb (ocnt e) 1 ≡ b → is_one_of (T_UNBND ∷ T_IDLE ∷ []) (cond b T_IDLE e.state) ≡ true → ds ≡ []
    rest true j y = k (eqb-true (ocnt e) 1 j)
    rest false j y = absurd (not-both (is_one_of (T_UNBND ∷ T_IDLE ∷ []) e.state) (ap (is_one_of (T_UNBND ∷ T_IDLE ∷ [])) s) y)

    one : (b : Bool) → eqb (ocnt e) 1 ≡ b → is_one_of (T_INCON ∷ []) (cond b T_IDLE e.state) ≡ false → length ds ≤ 1
    one true j y = subst (λ z. length z ≤ 1) (sym (k (eqb-true (ocnt e) 1 j))) (omega arith)
    one false j y = absurd (not-both (is_asked e) y i)

-- a responding endpoint with an address
pub fit-responding : (i : Indication) (r : Endpoint) → has_datagrams r.prov ≡ false → r.target ≡ None → is_none r.address ≡ false → r.pending ≡ [] → r.disconnects ≡ [] → length i.address ≤ 64 → SoundEndpoint r → SoundEndpoint (Listen.responding i r)
fit-responding i r c t b n d l h = record {
  listening = record { queue = h.listening.queue; short = h.listening.short; bound = b; few = h.listening.few; heard = λ z. n; unbound = λ t. absurd (false≢true t); held = λ t. absurd (false≢true t) };
  disconnecting = record { asking = no-target r.target t; rest = λ y. absurd (false≢true y); none = h.disconnecting.none; with_peer = λ z. (t, d); one = λ z. subst (λ q. length q ≤ 1) (sym d) (omega arith); broken = λ t a b. absurd (none-is i.caller (sym b)); short = h.disconnecting.short };
  request_fields = record { pending_short = h.request_fields.pending_short; outstanding_short = h.request_fields.outstanding_short; numbered = h.request_fields.numbered; peer = l; confirmed = h.request_fields.confirmed };
  released = h.released;
  stream_data = h.stream_data;
  datagrams = h.datagrams;
  buffers = h.buffers;
  unconnected = not-bare T_DATAXFER (Some i.address) r.mid_expedited r.unfinished_normal r.unfinished_expedited r.flow_normal r.flow_expedited refl;
  of_provider = connecting r.prov r.state T_DATAXFER r.qlen r.qlen r.datagrams r.begun r.datagram_errors r.flow_datagram c h.of_provider;
}

-- a responding endpoint that was not bound has the listener's address
pub fit-joining : (i : Indication) (address : List ℕ) (r : Endpoint) → has_datagrams r.prov ≡ false → is_state (T_UNBND ∷ []) r ≡ true → r.pending ≡ [] → r.outstanding ≡ [] → length address ≤ 64 → length i.address ≤ 64 → SoundEndpoint r → SoundEndpoint (Listen.responding i (record r { address = Some address; qlen = 0 }))
fit-joining i address r c u n o a l h = (let s : r.state ≡ T_UNBND = only r.state T_UNBND u in record {
  listening = record { queue = omega arith; short = a; bound = refl; few = subst (λ z. length z + length r.outstanding ≤ 0) (sym n) (subst (λ z. 0 + length z ≤ 0) (sym o) (omega arith)); heard = λ t. n; unbound = λ t. absurd (false≢true t); held = λ t. absurd (false≢true t) };
  disconnecting = record { asking = no-target r.target (not-asking r h (ap (is_one_of (T_OUTCON ∷ [])) s)); rest = λ y. absurd (false≢true y); none = h.disconnecting.none; with_peer = λ y. (not-asking r h (ap (is_one_of (T_OUTCON ∷ [])) s), h.disconnecting.rest (ap (is_one_of (T_UNBND ∷ T_IDLE ∷ [])) s)); one = λ t. h.disconnecting.one (ap (is_one_of (T_INCON ∷ [])) s); broken = λ t a b. absurd (none-is i.caller (sym b)); short = h.disconnecting.short };
  request_fields = record { pending_short = h.request_fields.pending_short; outstanding_short = h.request_fields.outstanding_short; numbered = h.request_fields.numbered; peer = l; confirmed = h.request_fields.confirmed };
  released = h.released;
  stream_data = h.stream_data;
  datagrams = h.datagrams;
  buffers = h.buffers;
  unconnected = not-bare T_DATAXFER (Some i.address) r.mid_expedited r.unfinished_normal r.unfinished_expedited r.flow_normal r.flow_expedited refl;
  of_provider = connecting r.prov r.state T_DATAXFER r.qlen 0 r.datagrams r.begun r.datagram_errors r.flow_datagram c h.of_provider;
})

pub fit-accepted : (resfd : ℕ) (address options udata : List ℕ) (c : Endpoint) → is_some c.target ≡ true → length address ≤ 64 → length options ≤ 256 → length udata ≤ 64 → SoundEndpoint c → SoundEndpoint (Listen.accepted resfd address options udata c)
fit-accepted resfd address options udata c t a o u h = record {
  listening = h.listening;
  disconnecting = record { asking = λ z. absurd (false≢true z); rest = h.disconnecting.rest; none = λ z. absurd (false≢true z); with_peer = λ z. (refl, h.disconnecting.none t); one = h.disconnecting.one; broken = λ t a b. absurd (none-is resfd (sym b)); short = h.disconnecting.short };
  request_fields = record { pending_short = h.request_fields.pending_short; outstanding_short = h.request_fields.outstanding_short; numbered = h.request_fields.numbered; peer = a; confirmed = (a, o, u) };
  released = h.released;
  stream_data = h.stream_data;
  datagrams = h.datagrams;
  buffers = h.buffers;
  unconnected = not-bare c.state (Some address) c.mid_expedited c.unfinished_normal c.unfinished_expedited c.flow_normal c.flow_expedited (busy-out c.state (h.disconnecting.asking t)).not_bare;
  of_provider = h.of_provider;
}

-- Data.
abbrev pub most_bytes : Bool → ℕ
most_bytes b = cond b 256 131072

abbrev pub most_unfinished : Bool → ℕ
most_unfinished b = cond b 128 65536

pub fit-symbols : (b : Bool) (symbols : List ℕ) (e : Endpoint) → bytes_waiting (cond b e.expedited e.normal) + bytes_waiting symbols ≤ most_bytes b → SoundEndpoint e → SoundEndpoint (Send.received b symbols e)
fit-symbols true symbols e l h = record {
  listening = h.listening;
  disconnecting = h.disconnecting;
  request_fields = h.request_fields;
  released = h.released;
  stream_data = record { normal_few = h.stream_data.normal_few; expedited_few = (let k : bytes_waiting (e.expedited ++ symbols) ≡ bytes_waiting e.expedited + bytes_waiting symbols = counted-append _ e.expedited symbols in omega arith); unfinished = h.stream_data.unfinished; expedited_unfinished = h.stream_data.expedited_unfinished };
  datagrams = h.datagrams;
  buffers = h.buffers;
  unconnected = h.unconnected;
  of_provider = h.of_provider;
}
fit-symbols false symbols e l h = record {
  listening = h.listening;
  disconnecting = h.disconnecting;
  request_fields = h.request_fields;
  released = h.released;
  stream_data = record { normal_few = (let k : bytes_waiting (e.normal ++ symbols) ≡ bytes_waiting e.normal + bytes_waiting symbols = counted-append _ e.normal symbols in omega arith); expedited_few = h.stream_data.expedited_few; unfinished = h.stream_data.unfinished; expedited_unfinished = h.stream_data.expedited_unfinished };
  datagrams = h.datagrams;
  buffers = h.buffers;
  unconnected = h.unconnected;
  of_provider = h.of_provider;
}

pub fit-flow : (b on : Bool) (e : Endpoint) → Busy e.state → SoundEndpoint e → SoundEndpoint (Send.mark_flow b on e)
fit-flow true on e b h = record { listening = h.listening; disconnecting = h.disconnecting; request_fields = h.request_fields; released = h.released; stream_data = h.stream_data; datagrams = h.datagrams; buffers = h.buffers; unconnected = not-bare e.state e.peer_address e.mid_expedited e.unfinished_normal e.unfinished_expedited e.flow_normal on b.not_bare; of_provider = h.of_provider }
fit-flow false on e b h = record { listening = h.listening; disconnecting = h.disconnecting; request_fields = h.request_fields; released = h.released; stream_data = h.stream_data; datagrams = h.datagrams; buffers = h.buffers; unconnected = not-bare e.state e.peer_address e.mid_expedited e.unfinished_normal e.unfinished_expedited on e.flow_expedited b.not_bare; of_provider = h.of_provider }

-- the number of bytes that an unfinished message has after a send
abbrev pub unfinished_after : Providers → Bool → Bool → ℕ → Endpoint → ℕ
unfinished_after p true ends now e = (Send.sent p true ends now e).unfinished_expedited
unfinished_after p false ends now e = (Send.sent p false ends now e).unfinished_normal

pub fit-sent : (p : Providers) (b ends : Bool) (now : ℕ) (e : Endpoint) → Busy e.state → unfinished_after p b ends now e ≤ most_unfinished b → SoundEndpoint e → SoundEndpoint (Send.sent p b ends now e)
fit-sent p true ends now e b l h = record { listening = h.listening; disconnecting = h.disconnecting; request_fields = h.request_fields; released = h.released; stream_data = record { normal_few = h.stream_data.normal_few; expedited_few = h.stream_data.expedited_few; unfinished = h.stream_data.unfinished; expedited_unfinished = l }; datagrams = h.datagrams; buffers = h.buffers; unconnected = not-bare e.state e.peer_address e.mid_expedited e.unfinished_normal (unfinished_after p true ends now e) e.flow_normal false b.not_bare; of_provider = h.of_provider }
fit-sent p false ends now e b l h = record { listening = h.listening; disconnecting = h.disconnecting; request_fields = h.request_fields; released = h.released; stream_data = record { normal_few = h.stream_data.normal_few; expedited_few = h.stream_data.expedited_few; unfinished = l; expedited_unfinished = h.stream_data.expedited_unfinished }; datagrams = h.datagrams; buffers = h.buffers; unconnected = not-bare e.state e.peer_address e.mid_expedited (unfinished_after p false ends now e) e.unfinished_expedited false e.flow_expedited b.not_bare; of_provider = h.of_provider }

pub fit-read : (p : Providers) (max : ℕ) (e : Endpoint) → Busy e.state → SoundEndpoint e → SoundEndpoint (Receive.received p max e)
fit-read p max e b h = go (some_wait e.expedited)
  where
    go : (b : Bool) → SoundEndpoint (cond b (record e { expedited = rest max e.expedited; mid_expedited = Receive.goes_on p true max e }) (record e { normal = rest max e.normal }))
    go true = record { listening = h.listening; disconnecting = h.disconnecting; request_fields = h.request_fields; released = h.released; stream_data = record { normal_few = h.stream_data.normal_few; expedited_few = (let k = rest-fewer max e.expedited in let q = h.stream_data.expedited_few in omega arith); unfinished = h.stream_data.unfinished; expedited_unfinished = h.stream_data.expedited_unfinished }; datagrams = h.datagrams; buffers = h.buffers; unconnected = not-bare e.state e.peer_address (Receive.goes_on p true max e) e.unfinished_normal e.unfinished_expedited e.flow_normal e.flow_expedited b.not_bare; of_provider = h.of_provider }
    go false = record { listening = h.listening; disconnecting = h.disconnecting; request_fields = h.request_fields; released = h.released; stream_data = record { normal_few = (let k = rest-fewer max e.normal in let q = h.stream_data.normal_few in omega arith); expedited_few = h.stream_data.expedited_few; unfinished = h.stream_data.unfinished; expedited_unfinished = h.stream_data.expedited_unfinished }; datagrams = h.datagrams; buffers = h.buffers; unconnected = not-bare e.state e.peer_address e.mid_expedited e.unfinished_normal e.unfinished_expedited e.flow_normal e.flow_expedited b.not_bare; of_provider = h.of_provider }

-- The end of a connection.
pub fit-idle : (e : Endpoint) → is_one_of (T_UNBND ∷ []) e.state ≡ false → SoundEndpoint e → SoundEndpoint (Disconnect.idle e)
fit-idle e n h = record {
  listening = record { queue = h.listening.queue; short = h.listening.short; bound = h.listening.bound ∙ n; few = h.listening.few; heard = λ t. impossible t; unbound = λ t. absurd (false≢true t); held = λ t. absurd (false≢true t) };
  disconnecting = record { asking = λ y. absurd (false≢true y); rest = λ y. refl; none = λ y. refl; with_peer = λ y. absurd (false≢true y); one = λ y. omega arith; broken = λ t a b. absurd (false≢true t); short = All-nil ShortDisconnect };
  request_fields = record { pending_short = h.request_fields.pending_short; outstanding_short = h.request_fields.outstanding_short; numbered = h.request_fields.numbered; peer = tt; confirmed = tt };
  released = tt;
  stream_data = record { normal_few = omega arith; expedited_few = omega arith; unfinished = omega arith; expedited_unfinished = omega arith };
  datagrams = record { few = h.datagrams.few; short = h.datagrams.short; begins = h.datagrams.begins; one_error = h.datagrams.one_error; errors_short = h.datagrams.errors_short; mark = tt };
  buffers = h.buffers;
  unconnected = clean T_IDLE;
  of_provider = record { alone = λ t. ((h.of_provider.alone t).0, refl); without = λ t. (let q = h.of_provider.without t in (q.0, q.1, q.2, refl)) };
}

pub fit-broken : (reason : ℕ) (udata : List ℕ) (e : Endpoint) → length udata ≤ 64 → is_one_of (T_UNBND ∷ T_IDLE ∷ []) e.state ≡ false → SoundEndpoint e → SoundEndpoint (broken reason udata e)
fit-broken reason udata e l n h = record {
  listening = h.listening;
  disconnecting = record { asking = λ y. absurd (false≢true y); rest = λ y. absurd (not-both (is_one_of (T_UNBND ∷ T_IDLE ∷ []) e.state) n y); none = λ y. absurd (false≢true y); with_peer = λ y. absurd (false≢true y); one = λ y. omega arith; broken = λ t a b. omega arith; short = one-disconnect reason 0 udata l };
  request_fields = record { pending_short = h.request_fields.pending_short; outstanding_short = h.request_fields.outstanding_short; numbered = h.request_fields.numbered; peer = tt; confirmed = tt };
  released = tt;
  stream_data = record { normal_few = omega arith; expedited_few = omega arith; unfinished = omega arith; expedited_unfinished = omega arith };
  datagrams = record { few = h.datagrams.few; short = h.datagrams.short; begins = h.datagrams.begins; one_error = h.datagrams.one_error; errors_short = h.datagrams.errors_short; mark = tt };
  buffers = h.buffers;
  unconnected = clean e.state;
  of_provider = record { alone = h.of_provider.alone; without = λ t. (let q = h.of_provider.without t in (q.0, q.1, q.2, refl)) };
}

-- a disconnect more, and no target
fit-cut : (reason number : ℕ) (udata : List ℕ) (t : Option Target) (e : Endpoint) → t ≡ None → e.peer ≡ None → length udata ≤ 64 → is_one_of (T_UNBND ∷ T_IDLE ∷ []) e.state ≡ false → (is_one_of (T_INCON ∷ []) e.state ≡ false → e.disconnects ≡ []) → SoundEndpoint e → SoundEndpoint (record (disconnected reason number udata e) { target = t })
fit-cut reason number udata t e n m l r k h = record {
  listening = h.listening;
  disconnecting = record { asking = no-target t n; rest = λ y. absurd (not-both (is_one_of (T_UNBND ∷ T_IDLE ∷ []) e.state) r y); none = λ y. absurd (false≢true (sym (ap is_some n) ∙ y)); with_peer = no-peer e.peer m; one = λ y. subst (λ z. length (z ++ record { reason = reason; number = number; udata = udata } ∷ []) ≤ 1) (sym (k y)) (omega arith); broken = λ t a b. longer e.disconnects (record { reason = reason; number = number; udata = udata }); short = All-append ShortDisconnect e.disconnects _ h.disconnecting.short (one-disconnect reason number udata l) };
  request_fields = h.request_fields;
  released = h.released;
  stream_data = h.stream_data;
  datagrams = h.datagrams;
  buffers = h.buffers;
  unconnected = h.unconnected;
  of_provider = h.of_provider;
}

pub fit-given_up : (fd n : ℕ) (e : Endpoint) → SoundEndpoint e → SoundEndpoint (Close.given_up fd n e)
fit-given_up fd n e h = go e.target refl (is_target fd n e.target) refl
  where
    go : (t : Option Target) → e.target ≡ t → (b : Bool) → is_target fd n t ≡ b → SoundEndpoint (cond b (record (disconnected 5 0 [] e) { target = None }) e)
    go t i false j = h
    go None i true j = absurd (false≢true j)
    go (Some t) i true j = fit-cut 5 0 [] None e refl (asking-alone e h (ap is_some i)) (omega arith) (busy-out e.state (h.disconnecting.asking (ap is_some i))).not_resting (λ y. h.disconnecting.none (ap is_some i)) h

pub fit-rejected : (udata : List ℕ) (e : Endpoint) → is_some e.target ≡ true → length udata ≤ 64 → SoundEndpoint e → SoundEndpoint (Disconnect.rejected udata e)
fit-rejected udata e t l h = fit-cut 3 0 udata None e refl (asking-alone e h t) l (busy-out e.state (h.disconnecting.asking t)).not_resting (λ y. h.disconnecting.none t) h

pub fit-taken_back : (number reason : ℕ) (udata : List ℕ) (e : Endpoint) → length udata ≤ 64 → SoundRequests e → SoundEndpoint e → SoundEndpoint (taken_back number reason udata e)
fit-taken_back number reason udata e l g h = go (is_some (find_number number e.pending)) (is_some (find_number number e.outstanding)) refl
  where
    some-cons : {A : Type 0} → is_some (find_number number []) ≡ true → A
    some-cons y = absurd (false≢true y)

    asked : (b : Bool) → is_asked e ≡ b → is_some (find_number number e.outstanding) ≡ true → is_asked e ≡ true
    asked true j y = j
    asked false j y = some-cons (ap (λ z. is_some (find_number number z)) (sym (g.outstanding j)) ∙ y)

    told : is_some (find_number number e.outstanding) ≡ true → SoundEndpoint (disconnected reason number udata e)
    told y =
        let a : is_asked e ≡ true = asked (is_asked e) refl y in
        fit-cut reason number udata e.target e (target-none e g (asked-hears e.state a).not_out) (asked-alone e g a) l (ap (is_one_of (T_UNBND ∷ T_IDLE ∷ [])) (only e.state T_INCON a)) (λ x. absurd (not-both (is_asked e) x a)) h

    go : (b d : Bool) → is_some (find_number number e.outstanding) ≡ d → SoundEndpoint (cond b (record e { pending = without_number number e.pending }) (cond d (disconnected reason number udata e) e))
    go true d j = record {
      listening = record { queue = h.listening.queue; short = h.listening.short; bound = h.listening.bound; few = (let q = h.listening.few in let r = without-shorter number e.pending in omega arith); heard = λ t. ap (without_number number) (h.listening.heard t); unbound = h.listening.unbound; held = h.listening.held };
      disconnecting = h.disconnecting;
      request_fields = record { pending_short = All-without ShortIndication number e.pending h.request_fields.pending_short; outstanding_short = h.request_fields.outstanding_short; numbered = h.request_fields.numbered; peer = h.request_fields.peer; confirmed = h.request_fields.confirmed };
      released = h.released;
      stream_data = h.stream_data;
      datagrams = h.datagrams;
      buffers = h.buffers;
      unconnected = h.unconnected;
      of_provider = h.of_provider;
    }
    go false true j = told j
    go false false j = h

pub fit-named : (fd : ℕ) (f : Endpoint → Endpoint) (e : Endpoint) → SoundEndpoint e → (e.peer ≡ Some fd → SoundEndpoint (f e)) → SoundEndpoint (if_names fd f e)
fit-named fd f e h k = go e.peer refl
  where
    go : (o : Option ℕ) → e.peer ≡ o → SoundEndpoint (cond (names fd o) (f e) e)
    go None i = h
    go (Some y) i = by (eqb y fd) refl
      where
        by : (b : Bool) → eqb y fd ≡ b → SoundEndpoint (cond b (f e) e)
        by true j = k (i ∙ ap Some (eqb-true y fd j))
        by false j = h

pub fit-released : (udata : List ℕ) (e : Endpoint) → length udata ≤ 64 → SoundEndpoint e → SoundEndpoint (Release.released udata e)
fit-released udata e l h = record { listening = h.listening; disconnecting = h.disconnecting; request_fields = h.request_fields; released = l; stream_data = h.stream_data; datagrams = h.datagrams; buffers = h.buffers; unconnected = h.unconnected; of_provider = h.of_provider }
