-- The updates of releases, datagrams, options and looks, and of a disconnect that is received.
use Rattle.std.proofs.Common.{ℕ, Bool, true, false, List, [], ◌∷◌, ◌++◌, ◌≡◌, ◌<◌, ◌≤◌, refl, sym, ap, ◌∙◌, subst, cond, eqb, length, drop, Option, Some, None, arith, length-append, length-drop}
use Rattle.std.proofs.lemmas.Bool.{and_from, false≢true, eqb-false, le-leb, ltb-true}
use Rattle.std.proofs.lemmas.List.Elements.{All-get_or, All-append, All-nil, All-cons, All-drop}
use Rattle.std.specs.List.{All}
use Rattle.std.specs.Prelude.{slice_get, nat_le}
use Rattle.xti_base.specs.declared.kinds.State.TheVariants.{T_UNBND, T_IDLE, T_OUTCON, T_INCON, T_DATAXFER, T_OUTREL, T_INREL}
use Rattle.xti_base.specs.declared.kinds.Event.{Event}
use Rattle.xti_base.specs.declared.kinds.Event.TheVariants as event
use Rattle.xti_base.specs.declared.options.Opt.{Opt}
use Rattle.xti_base.specs.Negotiation.{Settings, Negotiated, Meaning, send_size, receive_size, low_water, unknown, sized, asked_size, buffer_answer, low_water_answer, answer_meant, set_meant, negotiate_one, negotiate_from, meaning, only_asks, answer, without_setting, low_water_mark, most_room, t_check, t_negotiate, t_current, t_success, t_failure, t_partsuccess, t_readonly}
use Rattle.xti_base.specs.Options.{the_options, word, word_bytes}
use Rattle.xti_model.specs.declared.profile.Providers.{Providers}
use Rattle.xti_model.specs.Provider.{profile, has_datagrams}
use Rattle.xti_model.specs.Profile.{is_size}
use Rattle.xti_model.specs.Endpoint.{Endpoint, Disconnect, Datagram, DatagramError}
use Rattle.xti_model.specs.Events.{is_state}
use Rattle.xti_model.specs.Calls.Listen as Listen
use Rattle.xti_model.specs.Calls.Disconnect as Disconnect
use Rattle.xti_model.specs.Calls.Release as Release
use Rattle.xti_model.specs.Calls.Datagrams as Datagrams
use Rattle.xti_model.specs.Calls.Show as Show
use Rattle.xti_laws.specs.Requests.{SoundRequests}
use Rattle.xti_model.specs.Calls.Disconnect.{is_asked}
use Rattle.xti_laws.proofs.EndpointUpdates.{target-none}
use Rattle.xti_laws.proofs.StepWays.{not-both}
use Rattle.xti_laws.proofs.ListenerUpdates.{asked-hears}
use Rattle.xti_laws.specs.Endpoints.{SoundEndpoint, OfProvider, ShortAddress, ShortDisconnect, ShortDatagram, ShortError}
use Rattle.xti_laws.specs.Requests.{is_one_of}
use Rattle.xti_laws.proofs.States.{only, busy-data, busy-receiving, busy-sending}
use Rattle.xti_laws.proofs.ShortLists.{cuts-few}
use Rattle.xti_laws.proofs.Updates.{not-asking, asked-alone, fit-moved, fit-idle, fit-taken_out}

-- Releases.
pub fit-after_send : (e : Endpoint) → is_one_of (T_UNBND ∷ []) e.state ≡ false → SoundEndpoint e → SoundEndpoint (Release.after_send e)
fit-after_send e n h = go (is_state (T_DATAXFER ∷ []) e) refl
  where
    go : (b : Bool) → is_state (T_DATAXFER ∷ []) e ≡ b → SoundEndpoint (cond b (record e { state = T_OUTREL }) (Disconnect.idle e))
    go true i = fit-moved T_OUTREL e (busy-data e.state i) (busy-receiving T_OUTREL refl) (not-asking e h (ap (is_one_of (T_OUTCON ∷ [])) (only e.state T_DATAXFER i))) h
    go false i = fit-idle e n h

pub fit-after_receive : (e : Endpoint) → is_one_of (T_UNBND ∷ []) e.state ≡ false → SoundEndpoint e → SoundEndpoint (Release.after_receive e)
fit-after_receive e n h = go (is_state (T_DATAXFER ∷ []) e) refl
  where
    go : (b : Bool) → is_state (T_DATAXFER ∷ []) e ≡ b → SoundEndpoint (cond b (record e { release = None; state = T_INREL }) (Disconnect.idle e))
    go true i = (let m = fit-moved T_INREL e (busy-data e.state i) (busy-sending T_INREL refl) (not-asking e h (ap (is_one_of (T_OUTCON ∷ [])) (only e.state T_DATAXFER i))) h in record { listening = m.listening; disconnecting = m.disconnecting; request_fields = m.request_fields; released = tt; stream_data = m.stream_data; datagrams = m.datagrams; buffers = m.buffers; unconnected = m.unconnected; of_provider = m.of_provider })
    go false i = fit-idle e n h

drop-one : (ds : List Disconnect) → length ds ≤ 1 → drop 1 ds ≡ []
drop-one [] h = refl
drop-one (d ∷ []) h = refl
drop-one (d ∷ c ∷ ds) h = absurd (omega arith)

-- The oldest disconnect is received.
pub fit-cut_received : (e : Endpoint) → is_one_of (T_UNBND ∷ []) e.state ≡ false → SoundRequests e → SoundEndpoint e → SoundEndpoint (Disconnect.received e)
fit-cut_received e n g h = go (is_asked e) refl
  where
    go : (b : Bool) → is_asked e ≡ b → SoundEndpoint (cond b (record (Listen.taken_out (Disconnect.oldest e).number e) { disconnects = drop 1 e.disconnects }) (Disconnect.idle e))
    go true i = fit-taken_out (Disconnect.oldest e).number (drop 1 e.disconnects) e i (target-none e g (asked-hears e.state i).not_out) (asked-alone e g i)
        (λ o. drop-one e.disconnects (let k : length e.disconnects ≤ length e.outstanding = cuts-few e.disconnects e.outstanding (g.known i) in omega arith))
        (All-drop ShortDisconnect 1 e.disconnects h.disconnecting.short) h
    go false i = fit-idle e n h

-- Datagrams.
-- other datagrams, errors, mark and mode
abbrev holding : List Datagram → Bool → List DatagramError → Option (List ℕ) → Bool → Endpoint → Endpoint
holding datagrams begun errors mark nonblock e = record e { datagrams = datagrams; begun = begun; datagram_errors = errors; flow_datagram = mark; nonblock = nonblock }

abbrev FewDatagrams : List Datagram → Bool → Type 0
FewDatagrams datagrams begun = (length datagrams ≤ 16) × All ShortDatagram datagrams × (begun ≡ true → 0 < length datagrams)

abbrev FewErrors : List DatagramError → Type 0
FewErrors errors = (length errors ≤ 1) × All ShortError errors

holding-fit : (datagrams : List Datagram) (begun : Bool) (errors : List DatagramError) (mark : Option (List ℕ)) (nonblock : Bool) (e : Endpoint)
    → FewDatagrams datagrams begun → FewErrors errors → ShortAddress mark → OfProvider e.prov e.state e.qlen datagrams begun errors mark → SoundEndpoint e → SoundEndpoint (holding datagrams begun errors mark nonblock e)
holding-fit datagrams begun errors mark nonblock e d r m k h = record {
  listening = h.listening;
  disconnecting = h.disconnecting;
  request_fields = h.request_fields;
  released = h.released;
  stream_data = h.stream_data;
  datagrams = record { few = d.0; short = d.1; begins = d.2; one_error = r.0; errors_short = r.1; mark = m };
  buffers = h.buffers;
  unconnected = h.unconnected;
  of_provider = k;
}

few-held : (e : Endpoint) → SoundEndpoint e → FewDatagrams e.datagrams e.begun
few-held e h = (h.datagrams.few, h.datagrams.short, h.datagrams.begins)

few-errors : (e : Endpoint) → SoundEndpoint e → FewErrors e.datagram_errors
few-errors e h = (h.datagrams.one_error, h.datagrams.errors_short)

-- of an endpoint of datagrams
has-them : (e : Endpoint) (ds : List Datagram) (b : Bool) (es : List DatagramError) (f : Option (List ℕ)) → has_datagrams e.prov ≡ true → SoundEndpoint e → OfProvider e.prov e.state e.qlen ds b es f
has-them e ds b es f y h = record { alone = h.of_provider.alone; without = λ t. absurd (not-both (has_datagrams e.prov) t y) }

pub fit-marked : (to : Option (List ℕ)) (e : Endpoint) → ShortAddress to → (has_datagrams e.prov ≡ false → to ≡ None) → SoundEndpoint e → SoundEndpoint (Datagrams.mark_flow to e)
fit-marked to e m k h = holding-fit e.datagrams e.begun e.datagram_errors to e.nonblock e (few-held e h) (few-errors e h) m (record { alone = h.of_provider.alone; without = λ t. (let q = h.of_provider.without t in (q.0, q.1, q.2, k t)) }) h

pub fit-got : (d : Datagram) (e : Endpoint) → has_datagrams e.prov ≡ true → length e.datagrams < 16 → ShortDatagram d → SoundEndpoint e → SoundEndpoint (Datagrams.with_datagram d e)
fit-got d e y l k h = holding-fit (e.datagrams ++ d ∷ []) e.begun e.datagram_errors e.flow_datagram e.nonblock e
    (simp (length-append e.datagrams (d ∷ [])) (omega (arith, l)), All-append ShortDatagram e.datagrams (d ∷ []) h.datagrams.short (All-cons ShortDatagram d [] k (All-nil ShortDatagram)), λ b. simp (length-append e.datagrams (d ∷ [])) (omega arith)) (few-errors e h) h.datagrams.mark (has-them e (e.datagrams ++ d ∷ []) e.begun e.datagram_errors e.flow_datagram y h) h

pub fit-failed : (d : DatagramError) (e : Endpoint) → has_datagrams e.prov ≡ true → e.datagram_errors ≡ [] → ShortError d → SoundEndpoint e → SoundEndpoint (Datagrams.with_error_unmarked d e)
fit-failed d e y n k h = holding-fit e.datagrams e.begun (e.datagram_errors ++ d ∷ []) None e.nonblock e (few-held e h) (subst (λ z. FewErrors (z ++ d ∷ [])) (sym n) (omega arith, All-cons ShortError d [] k (All-nil ShortError))) tt (has-them e e.datagrams e.begun (e.datagram_errors ++ d ∷ []) None y h) h

pub fit-dropped : (e : Endpoint) → SoundEndpoint e → SoundEndpoint (Datagrams.dropped e)
fit-dropped e h = holding-fit (drop 1 e.datagrams) false e.datagram_errors e.flow_datagram e.nonblock e
    (simp (length-drop 1 e.datagrams) (omega (arith, h.datagrams.few)), All-drop ShortDatagram 1 e.datagrams h.datagrams.short, λ b. absurd (false≢true b)) (few-errors e h) h.datagrams.mark (record { alone = h.of_provider.alone; without = λ t. (let q = h.of_provider.without t in (ap (drop 1) q.0, refl, q.2, q.3)) }) h

first-short : (ds : List Datagram) → All ShortDatagram ds → ShortDatagram (Datagrams.datagram_or (slice_get ds 0))
first-short [] h = (omega arith, omega arith, omega arith)
first-short (d ∷ ds) h = All-get_or ShortDatagram (d ∷ ds) 0 d (omega arith) h

shortened-fit : (max : ℕ) (e : Endpoint) → Datagrams.has_rest max (Datagrams.first_of e) ≡ true → SoundEndpoint e → SoundEndpoint (record e { datagrams = Datagrams.shortened max (Datagrams.first_of e) ∷ drop 1 e.datagrams; begun = true })
shortened-fit max e y h =
    let f = first-short e.datagrams h.datagrams.short in
    let r : ShortDatagram (Datagrams.shortened max (Datagrams.first_of e)) = (f.0, f.1, simp (length-drop max (Datagrams.first_of e).bytes) (omega (arith, f.2))) in
    holding-fit (Datagrams.shortened max (Datagrams.first_of e) ∷ drop 1 e.datagrams) true e.datagram_errors e.flow_datagram e.nonblock e
    (few e.datagrams h.datagrams.few, All-cons ShortDatagram (Datagrams.shortened max (Datagrams.first_of e)) (drop 1 e.datagrams) r (All-drop ShortDatagram 1 e.datagrams h.datagrams.short), λ b. omega arith) (few-errors e h) h.datagrams.mark (record { alone = h.of_provider.alone; without = λ t. absurd (none (h.of_provider.without t).0) }) h
  where
    none : e.datagrams ≡ [] → ⊥
    none n = (let k : Datagrams.has_rest max (Datagrams.datagram_or None) ≡ true = ap (λ ds. Datagrams.has_rest max (Datagrams.datagram_or (slice_get ds 0))) (sym n) ∙ y in let l = ltb-true max 0 k in omega arith)

    few : (ds : List Datagram) → length ds ≤ 16 → length (Datagrams.shortened max (Datagrams.first_of e) ∷ drop 1 ds) ≤ 16
    few [] k = omega arith
    few (d ∷ ds) k = k

pub fit-datagram : (max : ℕ) (e : Endpoint) → SoundEndpoint e → SoundEndpoint (Datagrams.received max e)
fit-datagram max e h = go (Datagrams.has_rest max (Datagrams.first_of e)) refl
  where
    go : (b : Bool) → Datagrams.has_rest max (Datagrams.first_of e) ≡ b → SoundEndpoint (cond b (record e { datagrams = Datagrams.shortened max (Datagrams.first_of e) ∷ drop 1 e.datagrams; begun = true }) (Datagrams.dropped e))
    go true y = shortened-fit max e y h
    go false y = fit-dropped e h

pub fit-without_error : (e : Endpoint) → SoundEndpoint e → SoundEndpoint (Datagrams.without_error e)
fit-without_error e h = holding-fit e.datagrams e.begun (drop 1 e.datagram_errors) e.flow_datagram e.nonblock e (few-held e h) (simp (length-drop 1 e.datagram_errors) (omega (arith, h.datagrams.one_error)), All-drop ShortError 1 e.datagram_errors h.datagrams.errors_short) h.datagrams.mark (record { alone = h.of_provider.alone; without = λ t. (let q = h.of_provider.without t in (q.0, q.1, ap (drop 1) q.2, q.3)) }) h

pub fit-mode : (nonblock : Bool) (e : Endpoint) → SoundEndpoint e → SoundEndpoint (Show.in_mode nonblock e)
fit-mode nonblock e h = holding-fit e.datagrams e.begun e.datagram_errors e.flow_datagram nonblock e (few-held e h) (few-errors e h) h.datagrams.mark h.of_provider h

unmarked : (normal expedited : Bool) (mark : Option (List ℕ)) (e : Endpoint) → ShortAddress mark → (is_one_of (T_UNBND ∷ T_IDLE ∷ T_INCON ∷ []) e.state ≡ true → (normal ≡ false) × (expedited ≡ false)) → (has_datagrams e.prov ≡ false → mark ≡ None) → SoundEndpoint e → SoundEndpoint (record e { flow_normal = normal; flow_expedited = expedited; flow_datagram = mark })
unmarked normal expedited mark e m n k h = (let q = fit-marked mark e m k h in record { listening = q.listening; disconnecting = q.disconnecting; request_fields = q.request_fields; released = q.released; stream_data = q.stream_data; datagrams = q.datagrams; buffers = q.buffers; unconnected = record { no_address = h.unconnected.no_address; not_mid = h.unconnected.not_mid; finished = h.unconnected.finished; unmarked = n }; of_provider = q.of_provider })

pub fit-shown : (o : Option Event) (e : Endpoint) → SoundEndpoint e → SoundEndpoint (Show.shown o e)
fit-shown None e h = h
fit-shown (Some event.T_GODATA) e h = unmarked false e.flow_expedited None e tt (λ t. (refl, (h.unconnected.unmarked t).1)) (λ t. refl) h
fit-shown (Some event.T_GOEXDATA) e h = unmarked e.flow_normal false e.flow_datagram e h.datagrams.mark (λ t. ((h.unconnected.unmarked t).0, refl)) (λ t. (h.of_provider.without t).3) h
fit-shown (Some other) e h = h

-- Options: the sizes stay within their bounds.
abbrev pub HasSizes : Settings → Type 0
HasSizes s = (is_size s.sndbuf ≡ true) × (is_size s.rcvbuf ≡ true)

abbrev SetsSize : Option ℕ → Type 0
SetsSize None = Unit
SetsSize (Some n) = is_size n ≡ true

sized-size : (current n : ℕ) → SetsSize (sized current n).sets
sized-size current n = go (eqb n 0) refl (nat_le n 65536) refl
  where
    size : eqb n 0 ≡ false → nat_le n 65536 ≡ true → is_size n ≡ true
    size i j = and_from (nat_le 1 n) (nat_le n 65536) (le-leb 1 n (let d = eqb-false n 0 i in omega arith)) j

    go : (b : Bool) → eqb n 0 ≡ b → (d : Bool) → nat_le n 65536 ≡ d → SetsSize (cond b (answer t_failure (word_bytes current) None) (cond d (answer t_success (word_bytes n) (Some n)) (answer t_partsuccess (word_bytes most_room) (Some most_room)))).sets
    go true i d j = tt
    go false i true j = size i j
    go false i false j = refl

asked-size : (current : ℕ) (value : List ℕ) → SetsSize (asked_size current value).sets
asked-size current value = go (eqb (length value) 4)
  where
    go : (b : Bool) → SetsSize (cond b (sized current (word 0 value)) (answer t_failure (word_bytes current) None)).sets
    go true = sized-size current (word 0 value)
    go false = tt

buffer-size : (action current start : ℕ) (value : List ℕ) → SetsSize (buffer_answer action current start value).sets
buffer-size action current start value = go (only_asks action value) (eqb action t_negotiate) (eqb action t_check) (eqb action t_current)
  where
    go : (a b c d : Bool) → SetsSize (cond a (answer t_success [] None) (cond b (asked_size current value) (cond c (without_setting (asked_size current value)) (cond d (answer t_success (word_bytes current) None) (answer t_success (word_bytes start) None))))).sets
    go true b c d = tt
    go false true c d = asked-size current value
    go false false true d = tt
    go false false false true = tt
    go false false false false = tt

low-size : (action : ℕ) (value : List ℕ) → (low_water_answer action value).sets ≡ None
low-size action value = go (only_asks action value)
  where
    go : (a : Bool) → (cond a (answer t_readonly [] None) (answer t_readonly (word_bytes low_water_mark) None)).sets ≡ None
    go true = refl
    go false = refl

set-size : (s : Settings) (o : Option ℕ) (m : Meaning) → HasSizes s → SetsSize o → HasSizes (set_meant s m o)
set-size s None m h k = h
set-size s (Some n) send_size h k = (k, h.1)
set-size s (Some n) receive_size h k = (h.0, k)
set-size s (Some n) low_water h k = h
set-size s (Some n) unknown h k = h

answer-size : (s : Settings) (action : ℕ) (value : List ℕ) (m : Meaning) → SetsSize (answer_meant s action value m).sets
answer-size s action value send_size = buffer-size action s.sndbuf s.start_sndbuf value
answer-size s action value receive_size = buffer-size action s.rcvbuf s.start_rcvbuf value
answer-size s action value low_water = subst SetsSize (sym (low-size action value)) tt
answer-size s action value unknown = tt

negotiated-sizes : (n : Negotiated) (action : ℕ) (os : List Opt) → HasSizes n.settings → HasSizes (negotiate_from n action os).settings
negotiated-sizes n action [] h = h
negotiated-sizes n action (o ∷ os) h = negotiated-sizes (negotiate_one n o (answer_meant n.settings action o.value (meaning o))) action os (set-size n.settings (answer_meant n.settings action o.value (meaning o)).sets (meaning o) h (answer-size n.settings action o.value (meaning o)))

pub fit-settings : (p : Providers) (action : ℕ) (options : List ℕ) (e x : Endpoint) → SoundEndpoint e → SoundEndpoint x → SoundEndpoint (Show.with_settings (Show.negotiated p action options e).settings x)
fit-settings p action options e x h k =
    let q : HasSizes (Show.negotiated p action options e).settings = negotiated-sizes (record { settings = Show.settings (profile p e.prov) e; options = []; result = t_success }) action (the_options options) (h.buffers.send, h.buffers.receive) in
    record { listening = k.listening; disconnecting = k.disconnecting; request_fields = k.request_fields; released = k.released; stream_data = k.stream_data; datagrams = k.datagrams; buffers = record { send = q.0; receive = q.1 }; unconnected = k.unconnected; of_provider = k.of_provider }
