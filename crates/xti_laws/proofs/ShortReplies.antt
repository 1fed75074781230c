-- Replies are short.
use Rattle.std.proofs.Common.{ℕ, zero, suc, Bool, true, false, List, [], ◌∷◌, ◌++◌, ◌≡◌, ◌+◌, ◌*◌, ◌≤◌, refl, sym, ap, ◌∙◌, subst, cond, eqb, not, ◌&&◌, ◌||◌, length, sum, take, replicate, Option, Some, None, arith, append_assoc, length-append, length-drop, ◌-◌}
use Rattle.std.specs.Prelude.{nat_lt, nat_le, min, slice_get, unwrap_or, option_map}
use Rattle.std.specs.List.{All, concat, prefix_len, list_any}
use Rattle.std.proofs.lemmas.Bool.{and_parts, or_parts, false≢true, ltb-false, leb-true}
use Rattle.std.proofs.lemmas.List.{length-take, length-replicate}
use Rattle.std.proofs.lemmas.List.Elements.{All-head}
use Rattle.std.proofs.lemmas.List.Sums.{prefix_len-le-length, sum_by-cons, sum_by-take-le}
use Rattle.std.proofs.lemmas.List.Folds.{length-prefix_len}
use Rattle.xti_base.specs.declared.options.Opt.{Opt}
use Rattle.xti_base.specs.Options.{word, word_bytes, filling, option_bytes, options_bytes, begins_option, front_length, front_size, front_option, behind_option, options_within, the_options, is_option_list}
use Rattle.xti_base.specs.Negotiation.{Settings, Negotiated, Answer, Meaning, send_size, receive_size, low_water, unknown, answer, answered, without_setting, sized, asked_size, buffer_answer, low_water_answer, answer_meant, meaning, negotiate_one, negotiate_from, negotiate, only_asks, low_water_mark, most_room, t_success, t_failure, t_partsuccess, t_readonly, t_negotiate, t_check, t_current}
use Rattle.xti_model.specs.declared.call.Call.{Call}
use Rattle.xti_model.specs.declared.call.Call.TheVariants as call
use Rattle.xti_model.specs.declared.entry.Go.{Go}
use Rattle.xti_model.specs.declared.entry.Go.TheVariants as go
use Rattle.xti_model.specs.declared.entry.Outcome.TheVariants.{Done, Part}
use Rattle.xti_model.specs.declared.entry.Reply.{Reply}
use Rattle.xti_model.specs.declared.entry.Reply.TheVariants as reply
use Rattle.xti_model.specs.declared.profile.Providers.{Providers}
use Rattle.xti_model.specs.Provider.{profile}
use Rattle.xti_model.specs.Endpoint.{Endpoint, Confirmation, address_of}
use Rattle.xti_model.specs.World.{World, endpoint, the_switch}
use Rattle.xti_model.specs.Switch.{chosen, opening_place}
use Rattle.xti_model.specs.Links.{linked}
use Rattle.xti_model.specs.Symbols.{is_byte, bytes_waiting, front}
use Rattle.xti_model.specs.Events.{is_state, some_wait}
use Rattle.xti_model.specs.Plan.{Plan, Field, field, is_too_long, trimmed, if_open, on_open, later_plan}
use Rattle.xti_model.specs.Step.{Step, plan, step, step_of, send}
use Rattle.xti_model.specs.Calls.Open as Open
use Rattle.xti_model.specs.Calls.Bind as Bind
use Rattle.xti_model.specs.Calls.Connect as Connect
use Rattle.xti_model.specs.Calls.Listen as Listen
use Rattle.xti_model.specs.Calls.Send as Send
use Rattle.xti_model.specs.Calls.Receive as Receive
use Rattle.xti_model.specs.Calls.Disconnect as Disconnect
use Rattle.xti_model.specs.Calls.Release as Release
use Rattle.xti_model.specs.Calls.Datagrams as Datagrams
use Rattle.xti_model.specs.Calls.Show as Show
use Rattle.xti_base.specs.declared.kinds.State.TheVariants.{T_OUTCON, T_DATAXFER, T_OUTREL, T_INREL}
use Rattle.xti_base.specs.declared.errno.Errno.TheVariants.{TNODATA}
use Rattle.xti_laws.proofs.StepWays.{is_denial, all_deny}
use Rattle.xti_laws.specs.Endpoints.{SoundEndpoint, ShortIndication, ShortDisconnect, ShortConfirmation, ShortRelease, ShortDatagram, ShortError}
use Rattle.xti_laws.specs.Invariant.{SoundWorld}
use Rattle.xti_laws.proofs.CountingBindings.{few-in-either, chosen-short}
use Rattle.xti_laws.proofs.OwnCalls.{short-address}
use Rattle.xti_laws.proofs.ToldOutcomes.{StepTells, Tells, step-tells, denied, later-told, Clear, clear, open-tells, told}
use Rattle.xti_laws.specs.Replies.{Lengths, lengths, answered_length, bound_length, lengths_of, IsShortOutcome}

-- An answered option has at most four bytes of value, and so 20 in all.
abbrev Few : Answer → Type 0
Few a = length a.value ≤ 4

sized-few : (current n : ℕ) → Few (sized current n)
sized-few current n = go (eqb n 0) (nat_le n 65536)
  where
    go : (b d : Bool) → Few (cond b (answer t_failure (word_bytes current) None) (cond d (answer t_success (word_bytes n) (Some n)) (answer t_partsuccess (word_bytes most_room) (Some most_room))))
    go true d = omega arith
    go false true = omega arith
    go false false = omega arith

asked-few : (current : ℕ) (value : List ℕ) → Few (asked_size current value)
asked-few current value = go (eqb (length value) 4)
  where
    go : (b : Bool) → Few (cond b (sized current (word 0 value)) (answer t_failure (word_bytes current) None))
    go true = sized-few current (word 0 value)
    go false = omega arith

buffer-few : (action current start : ℕ) (value : List ℕ) → Few (buffer_answer action current start value)
buffer-few action current start value = go (only_asks action value) (eqb action t_negotiate) (eqb action t_check) (eqb action t_current)
  where
    go : (a b c d : Bool) → Few (cond a (answer t_success [] None) (cond b (asked_size current value) (cond c (without_setting (asked_size current value)) (cond d (answer t_success (word_bytes current) None) (answer t_success (word_bytes start) None)))))
    go true b c d = omega arith
    go false true c d = asked-few current value
    go false false true d = asked-few current value
    go false false false true = omega arith
    go false false false false = omega arith

low-few : (action : ℕ) (value : List ℕ) → Few (low_water_answer action value)
low-few action value = go (only_asks action value)
  where
    go : (a : Bool) → Few (cond a (answer t_readonly [] None) (answer t_readonly (word_bytes low_water_mark) None))
    go true = omega arith
    go false = omega arith

meant-few : (s : Settings) (action : ℕ) (value : List ℕ) (m : Meaning) → Few (answer_meant s action value m)
meant-few s action value send_size = buffer-few action s.sndbuf s.start_sndbuf value
meant-few s action value receive_size = buffer-few action s.rcvbuf s.start_rcvbuf value
meant-few s action value low_water = low-few action value
meant-few s action value unknown = omega arith

filled-few : (n : ℕ) → n ≤ 4 → n + filling n ≤ 4
filled-few n h = omega (arith, h)

one-few : (o : Opt) → length o.value ≤ 4 → length (option_bytes o) ≤ 20
one-few o h =
    let zeros : List ℕ = replicate (filling (length o.value)) 0 in
    let a : length (o.value ++ zeros) ≡ length o.value + length zeros = length-append o.value zeros in
    let b : length zeros ≡ filling (length o.value) = length-replicate (filling (length o.value)) 0 in
    let f : length o.value + filling (length o.value) ≤ 4 = filled-few (length o.value) h in
    omega (arith, a, b, f)

bytes-append : (xs ys : List Opt) → options_bytes (xs ++ ys) ≡ options_bytes xs ++ options_bytes ys
bytes-append [] ys = refl
bytes-append (x ∷ xs) ys = ap (λ z. option_bytes x ++ z) (bytes-append xs ys) ∙ sym (append_assoc (option_bytes x) (options_bytes xs) (options_bytes ys))

all-few : (n : Negotiated) (action : ℕ) (os : List Opt) → length (options_bytes (negotiate_from n action os).options) ≤ length (options_bytes n.options) + 20 * length os
all-few n action [] = omega arith
all-few n action (o ∷ os) =
    let a : Answer = answer_meant n.settings action o.value (meaning o) in
    let h : length (options_bytes (negotiate_from (negotiate_one n o a) action os).options) ≤ length (options_bytes (n.options ++ answered o a ∷ [])) + 20 * length os = all-few (negotiate_one n o a) action os in
    let j : length (options_bytes (n.options ++ answered o a ∷ [])) ≡ length (options_bytes n.options) + length (option_bytes (answered o a) ++ []) = ap length (bytes-append n.options (answered o a ∷ [])) ∙ length-append (options_bytes n.options) (option_bytes (answered o a) ++ []) in
    let k : length (option_bytes (answered o a) ++ []) ≡ length (option_bytes (answered o a)) + 0 = length-append (option_bytes (answered o a)) [] in
    let l : length (option_bytes (answered o a)) ≤ 20 = one-few (answered o a) (meant-few n.settings action o.value (meaning o)) in
    omega (arith, h, j, k, l)

-- an option that is asked has at least 16 bytes
begins-long : (bytes : List ℕ) → begins_option bytes ≡ true → (16 ≤ front_size bytes) × (front_size bytes ≤ length bytes)
unfolding begins_option
begins-long bytes h =
    let a = (and_parts (nat_le 16 (length bytes) && nat_le 16 (front_length bytes) && nat_le (front_size bytes) (length bytes)) _ h).0 in
    let b = and_parts (nat_le 16 (length bytes) && nat_le 16 (front_length bytes)) (nat_le (front_size bytes) (length bytes)) a in
    let c = and_parts (nat_le 16 (length bytes)) (nat_le 16 (front_length bytes)) b.0 in
    let d : 16 ≤ front_length bytes = leb-true 16 (front_length bytes) c.1 in
    (at-least (front_length bytes) d, leb-true (front_size bytes) (length bytes) b.1)
  where
    at-least : (n : ℕ) → 16 ≤ n → 16 ≤ n + filling n
    at-least n k = omega (arith, k)

asked-many : (most : ℕ) (bytes : List ℕ) → 16 * length (unwrap_or (options_within most bytes) []) ≤ length bytes
unfolding options_within
asked-many zero [] = omega arith
asked-many (suc most) [] = omega arith
asked-many zero (b ∷ bytes) = omega arith
asked-many (suc most) (b ∷ bytes) = go (begins_option (b ∷ bytes)) refl (options_within most (behind_option (b ∷ bytes))) (asked-many most (behind_option (b ∷ bytes)))
  where
    go : (d : Bool) → begins_option (b ∷ bytes) ≡ d → (o : Option (List Opt)) → 16 * length (unwrap_or o []) ≤ length (behind_option (b ∷ bytes))
        → 16 * length (unwrap_or (cond d (option_map (λ rest. front_option (b ∷ bytes) ∷ rest) o) None) []) ≤ length (b ∷ bytes)
    go false i o k = omega arith
    go true i None k = omega arith
    go true i (Some os) k =
        let f = begins-long (b ∷ bytes) i in
        let l : length (behind_option (b ∷ bytes)) ≡ length (b ∷ bytes) - front_size (b ∷ bytes) = length-drop (front_size (b ∷ bytes)) (b ∷ bytes) in
        omega (arith, f.0, f.1, l, k)

answered-few : (s : Settings) (action : ℕ) (options : List ℕ) → length options ≤ 256 → length (options_bytes (negotiate s action (the_options options)).options) ≤ answered_length options
answered-few s action options h =
    let a : 16 * length (the_options options) ≤ length options = asked-many (length options) options in
    let b : length (options_bytes (negotiate s action (the_options options)).options) ≤ 0 + 20 * length (the_options options) = all-few (record { settings = s; options = []; result = t_success }) action (the_options options) in
    omega (arith, a, b, h)

-- What is received is as long as the caller takes at most, and as what waits.
prefix-few : (xs : List ℕ) → prefix_len is_byte xs ≤ bytes_waiting xs
prefix-few [] = omega arith
prefix-few (x ∷ xs) = (let c : bytes_waiting (x ∷ xs) ≡ cond (is_byte x) 1 0 + bytes_waiting xs = sum_by-cons (λ y. cond (is_byte y) 1 0) x xs in go (is_byte x) c (prefix-few xs))
  where
    go : (b : Bool) → bytes_waiting (x ∷ xs) ≡ cond b 1 0 + bytes_waiting xs → prefix_len is_byte xs ≤ bytes_waiting xs → cond b (1 + prefix_len is_byte xs) 0 ≤ bytes_waiting (x ∷ xs)
    go true c h = omega (arith, c, h)
    go false c h = omega arith

front-few : (max k : ℕ) (xs : List ℕ) → bytes_waiting xs ≤ k → length (front max xs) ≤ min max k
front-few max k xs h =
    let a : length (front max xs) ≡ prefix_len is_byte (take max xs) = length-prefix_len is_byte (take max xs) in
    let b : prefix_len is_byte (take max xs) ≤ length (take max xs) = prefix_len-le-length is_byte (take max xs) in
    let c : length (take max xs) ≡ min max (length xs) = length-take max xs in
    let d : prefix_len is_byte (take max xs) ≤ bytes_waiting (take max xs) = prefix-few (take max xs) in
    let e : bytes_waiting (take max xs) ≤ bytes_waiting xs = sum_by-take-le (λ y. cond (is_byte y) 1 0) xs max in
    omega (arith, a, b, c, d, e, h)

received-few : (max : ℕ) (e : Endpoint) → SoundEndpoint e → length (front max (cond (some_wait e.expedited) e.expedited e.normal)) ≤ min max 131072
received-few max e h = go (some_wait e.expedited)
  where
    go : (b : Bool) → length (front max (cond b e.expedited e.normal)) ≤ min max 131072
    go true = (let a : length (front max e.expedited) ≤ min max 256 = front-few max 256 e.expedited h.stream_data.expedited_few in omega (arith, a))
    go false = front-few max 131072 e.normal h.stream_data.normal_few

-- A field that is not too long is as long as the caller takes at most.
fits : (bytes : List ℕ) (max k : ℕ) → is_too_long (field bytes max) ≡ false → length bytes ≤ k → length (trimmed bytes max) ≤ min max k
fits bytes max k h l = go (eqb max 0) h
  where
    go : (b : Bool) → (not b && nat_lt max (length bytes)) ≡ false → length (cond b [] bytes) ≤ min max k
    go true i = omega arith
    go false i = (let m : length bytes ≤ max = ltb-false max (length bytes) i in omega (arith, m, l))

one-fits : (f : Field) → list_any is_too_long (f ∷ []) ≡ false → is_too_long f ≡ false
one-fits f h = (or_parts (is_too_long f) false h).0

two-fit : (f g : Field) → list_any is_too_long (f ∷ g ∷ []) ≡ false → (is_too_long f ≡ false) × (is_too_long g ≡ false)
two-fit f g h = (let a = or_parts (is_too_long f) (is_too_long g || false) h in (a.0, (or_parts (is_too_long g) false a.1).0))

three-fit : (f g k : Field) → list_any is_too_long (f ∷ g ∷ k ∷ []) ≡ false → (is_too_long f ≡ false) × (is_too_long g ≡ false) × (is_too_long k ≡ false)
three-fit f g k h =
    let a = or_parts (is_too_long f) (is_too_long g || (is_too_long k || false)) h in
    let b = two-fit g k a.1 in (a.0, b.0, b.1)

-- The first that waits is short where each is.
first-of : {X : Type 0} (P : X → Type 0) (or : Option X → X) (xs : List X) → ((x : X) → or (Some x) ≡ x) → P (or None) → All P xs → P (or (slice_get xs 0))
first-of P or [] s n a = n
first-of P or (x ∷ xs) s n a = subst P (sym (s x)) (All-head P x xs a)

told-short : (e : Endpoint) → SoundEndpoint e → ShortDatagram (Datagrams.told e)
told-short e h = go e.begun (first-of ShortDatagram Datagrams.datagram_or e.datagrams (λ d. refl) (omega arith, omega arith, omega arith) h.datagrams.short)
  where
    go : (b : Bool) → ShortDatagram (Datagrams.first_of e) → ShortDatagram (cond b (record (Datagrams.first_of e) { source = []; options = [] }) (Datagrams.first_of e))
    go true k = (omega arith, omega arith, k.2)
    go false k = k

confirmation-short : (o : Option Confirmation) → ShortConfirmation o → ShortConfirmation (Some (Connect.confirmation_or o))
confirmation-short None h = (omega arith, omega arith, omega arith)
confirmation-short (Some c) h = h

release-short : (o : Option (List ℕ)) → ShortRelease o → length (unwrap_or o []) ≤ 64
release-short None h = omega arith
release-short (Some udata) h = h

peer-short : (e : Endpoint) → SoundEndpoint e → length (Show.shown_peer e) ≤ 64
peer-short e h = go (is_state (T_OUTCON ∷ T_DATAXFER ∷ T_OUTREL ∷ T_INREL ∷ []) e)
  where
    go : (b : Bool) → length (cond b (unwrap_or e.peer_address []) []) ≤ 64
    go true = short-address e.peer_address h.request_fields.peer
    go false = omega arith

taken-few : (max k : ℕ) (bytes : List ℕ) → length bytes ≤ k → length (take max bytes) ≤ min max k
taken-few max k bytes h = (let a : length (take max bytes) ≡ min max (length bytes) = length-take max bytes in omega (arith, a, h))

chosen-few : (p : Providers) (w : World) (e : Endpoint) (address : List ℕ) → SoundWorld p w → length address ≤ 64 → length (chosen (the_switch p w) e.prov address) ≤ bound_length address
chosen-few p w e [] h l = chosen-short (the_switch p w) e.prov (few-in-either p w h.registered.agreement)
chosen-few p w e (a ∷ address) h l = omega (arith, l)

-- Calls.
module _ (n : Lengths) (p : Providers) (w : World) where
  denial : (r : Reply) → is_denial r ≡ true → IsShortOutcome n (Done r)
  denial (reply.Refused e) h = tt
  denial (reply.Look e) h = tt
  denial r h = absurd (false≢true h)

  short : (fd : ℕ) (f : Endpoint → Plan) → ((e : Endpoint) → endpoint p w fd ≡ Some e → (all_deny (f e).rows ≡ true) × (Clear (f e).rows → IsShortOutcome n (f e).outcome)) → StepTells (IsShortOutcome n) (step_of p w (on_open p w fd f))
  short fd f k = step-tells (IsShortOutcome n) (λ m. tt) p w (on_open p w fd f) (open-tells (IsShortOutcome n) fd (endpoint p w fd) f tt (λ e i. record { refused = denied (IsShortOutcome n) denial (f e).rows (k e i).0; done = λ j. (k e i).1 (clear (f e).rows j) }))

  opens : (prov : _) (nonblock : Bool) (o : Option ℕ) → StepTells (IsShortOutcome n) (step_of p w (Open.plan_where p (the_switch p w) prov nonblock o))
  opens prov nonblock None = step-tells (IsShortOutcome n) (λ m. tt) p w (Open.plan_where p (the_switch p w) prov nonblock None) (record { refused = denied (IsShortOutcome n) denial (Open.rows p (the_switch p w) prov) refl; done = λ j. tt })
  opens prov nonblock (Some place) = step-tells (IsShortOutcome n) (λ m. tt) p w (Open.plan_where p (the_switch p w) prov nonblock (Some place)) (record { refused = denied (IsShortOutcome n) denial (Open.rows p (the_switch p w) prov) refl; done = λ j. tt })

  counts : (b : Bool) (k : ℕ) → IsShortOutcome n (cond b (Done (reply.Sent k)) (Part k))
  counts true k = tt
  counts false k = tt

  asks : (b : Bool) → IsShortOutcome n (cond b (Done (reply.Refused TNODATA)) (Part 0))
  asks true = tt
  asks false = tt

  sends : (fd number : ℕ) (bytes : List ℕ) (flags : ℕ) (g : Go) → StepTells (IsShortOutcome n) (step_of p w (send p w fd number bytes flags g))
  sends fd number bytes flags go.Begin = short fd (λ e. Send.plan_to p fd number bytes flags 0 e (linked p w fd e)) (λ e i. (refl, λ c. counts _ _))
  sends fd number bytes flags (go.More m) = step-tells (IsShortOutcome n) (λ k. tt) p w (later_plan m (Send.plan p w fd number bytes flags m)) (by (endpoint p w fd))
    where
      by : (o : Option Endpoint) → Tells (IsShortOutcome n) (later_plan m (if_open fd o (λ e. Send.plan_to p fd number bytes flags m e (linked p w fd e))))
      by None = record { refused = tt; done = λ i. tt }
      by (Some e) = record { refused = later-told (IsShortOutcome n) m tt (Send.rows p number bytes flags m (linked p w fd e) e); done = λ j. counts _ _ }

  accepts : (fd resfd number : ℕ) (options udata : List ℕ) → StepTells (IsShortOutcome n) (step_of p w (Listen.accept_plan p w fd resfd number options udata))
  accepts fd resfd number options udata = short fd (λ e. Listen.accept_with p fd resfd number options udata e (endpoint p w resfd)) (λ e i. by e (endpoint p w resfd))
    where
      by : (e : Endpoint) (o : Option Endpoint) → (all_deny (Listen.accept_with p fd resfd number options udata e o).rows ≡ true) × (Clear (Listen.accept_with p fd resfd number options udata e o).rows → IsShortOutcome n (Listen.accept_with p fd resfd number options udata e o).outcome)
      by e None = (refl, λ c. tt)
      by e (Some r) = (refl, λ c. tt)

module _ (p : Providers) (w : World) (h : SoundWorld p w) where
  confirms : (fd amax omax umax : ℕ) → StepTells (IsShortOutcome (lengths (min amax 64) (min omax 256) (min umax 64))) (step_of p w (Connect.confirm_plan p w fd amax omax umax))
  confirms fd amax omax umax = short _ p w fd _ (λ e i. (
    refl,
    λ c. (
        let d = confirmation-short e.confirmation (h.endpoints fd e i).request_fields.confirmed in
        let f = three-fit (field (Connect.confirmation_or e.confirmation).address amax) (field (Connect.confirmation_or e.confirmation).options omax) (field (Connect.confirmation_or e.confirmation).udata umax) c.1.1.1.1.0 in
        (fits (Connect.confirmation_or e.confirmation).address amax 64 f.0 d.0, fits (Connect.confirmation_or e.confirmation).options omax 256 f.1 d.1, fits (Connect.confirmation_or e.confirmation).udata umax 64 f.2 d.2)),
  ))

  listens : (fd amax omax umax : ℕ) → StepTells (IsShortOutcome (lengths (min amax 64) (min omax 256) (min umax 64))) (step_of p w (Listen.listen_plan p w fd amax omax umax))
  listens fd amax omax umax = short _ p w fd _ (λ e i. (
    refl,
    λ c. (
        let d : ShortIndication (Listen.oldest e) = first-of ShortIndication Listen.indication_or e.pending (λ i. refl) (omega arith, omega arith, omega arith) (h.endpoints fd e i).request_fields.pending_short in
        let f = three-fit (field (Listen.oldest e).address amax) (field (Listen.oldest e).options omax) (field (Listen.oldest e).udata umax) c.1.1.1.1.1.1.0 in
        (fits (Listen.oldest e).address amax 64 f.0 d.0, fits (Listen.oldest e).options omax 256 f.1 d.1, fits (Listen.oldest e).udata umax 64 f.2 d.2)),
  ))

  receives : (fd sizes max : ℕ) → StepTells (IsShortOutcome (lengths (min max 131072) 0 0)) (step_of p w (Receive.plan p w fd sizes max))
  receives fd sizes max = short _ p w fd _ (λ e i. (refl, λ c. received-few max e (h.endpoints fd e i)))

  disconnects : (fd umax : ℕ) → StepTells (IsShortOutcome (lengths (min umax 64) 0 0)) (step_of p w (Disconnect.receive_plan p w fd umax))
  disconnects fd umax = short _ p w fd _ (λ e i. (
    refl,
    λ c. (
        let d : ShortDisconnect (Disconnect.oldest e) = first-of ShortDisconnect Disconnect.disconnect_or e.disconnects (λ i. refl) (omega arith) (h.endpoints fd e i).disconnecting.short in
        fits (Disconnect.oldest e).udata umax 64 (one-fits (field (Disconnect.oldest e).udata umax) c.1.1.1.0) d),
  ))

  releases : (fd umax : ℕ) → StepTells (IsShortOutcome (lengths (min umax 64) 0 0)) (step_of p w (Release.receive_data_plan p w fd umax))
  releases fd umax = short _ p w fd _ (λ e i. (
    refl,
    λ c.
        fits (Release.release_data e) umax 64 (one-fits (field (Release.release_data e) umax) c.1.1.1.1.0) (release-short e.release (h.endpoints fd e i).released),
  ))

  datagrams : (fd sizes max amax omax : ℕ) → StepTells (IsShortOutcome (lengths (min amax 64) (min omax 256) (min max 65536))) (step_of p w (Datagrams.receive_plan p w fd sizes max amax omax))
  datagrams fd sizes max amax omax = short _ p w fd (Datagrams.receive_from fd sizes max amax omax) (λ e i. (
    refl,
    λ c. (
        let d = told-short e (h.endpoints fd e i) in
        let f = two-fit (field (Datagrams.told e).source amax) (field (Datagrams.told e).options omax) c.1.1.1.1.1.0 in
        (fits (Datagrams.told e).source amax 64 f.0 d.0, fits (Datagrams.told e).options omax 256 f.1 d.1, taken-few max 65536 (Datagrams.told e).bytes d.2)),
  ))

  errors : (fd amax omax : ℕ) → StepTells (IsShortOutcome (lengths (min amax 64) (min omax 256) 0)) (step_of p w (Datagrams.error_plan p w fd amax omax))
  errors fd amax omax = short _ p w fd _ (λ e i. (
    refl,
    λ c. (
        let d : ShortError (Datagrams.first_error e) = first-of ShortError Datagrams.error_or e.datagram_errors (λ i. refl) (omega arith, omega arith) (h.endpoints fd e i).datagrams.errors_short in
        let f = two-fit (field (Datagrams.first_error e).destination amax) (field (Datagrams.first_error e).options omax) c.1.1.1.0 in
        (fits (Datagrams.first_error e).destination amax 64 f.0 d.0, fits (Datagrams.first_error e).options omax 256 f.1 d.1)),
  ))

  addresses : (fd amax pmax : ℕ) → StepTells (IsShortOutcome (lengths (min amax 64) (min pmax 64) 0)) (step_of p w (Show.addresses_plan p w fd amax pmax))
  addresses fd amax pmax = short _ p w fd _ (λ e i. (
    refl,
    λ c. (
        let f = two-fit (field (address_of e) amax) (field (Show.shown_peer e) pmax) c.0 in
        (fits (address_of e) amax 64 f.0 (short-address e.address (h.endpoints fd e i).listening.short), fits (Show.shown_peer e) pmax 64 f.1 (peer-short e (h.endpoints fd e i)))),
  ))

  options_told : (fd action : ℕ) (opt : List ℕ) (omax : ℕ) → StepTells (IsShortOutcome (lengths (min omax (answered_length opt)) 0 0)) (step_of p w (Show.option_plan p w fd action opt omax))
  options_told fd action opt omax = short _ p w fd (λ e. Show.option_plan_of fd (Show.negotiated p action opt e) action opt omax e) (λ e i. (
    refl,
    λ c. (
        let l : length opt ≤ 256 = ltb-false 256 (length opt) (or_parts (nat_lt 256 (length opt)) (not (is_option_list opt)) (or_parts (nat_lt 256 (length opt) || not (is_option_list opt)) _ c.1.0).0).0 in
        fits (options_bytes (Show.negotiated p action opt e).options) omax (answered_length opt) (one-fits (field (options_bytes (Show.negotiated p action opt e).options) omax) c.1.1.0) (answered-few (Show.settings (profile p e.prov) e) action opt l)),
  ))

  binds : (fd : ℕ) (address : List ℕ) (qlen amax : ℕ) → StepTells (IsShortOutcome (lengths (min amax (bound_length address)) 0 0)) (step_of p w (Bind.plan p w fd address qlen amax))
  binds fd address qlen amax = short _ p w fd (Bind.plan_in (the_switch p w) fd address qlen amax) (λ e i. (
    refl,
    λ c.
        fits (chosen (the_switch p w) e.prov address) amax (bound_length address) (one-fits (field (chosen (the_switch p w) e.prov address) amax) c.1.1.1.0) (chosen-few p w e address h (ltb-false 64 (length address) c.1.0)),
  ))

  pub replies-short : (c : Call) (g : Go) (s : Step) → step p w c g ≡ Some s → IsShortOutcome (lengths_of c) s.outcome
  unfolding step plan
  replies-short (call.TOpen prov nonblock) g s = told (IsShortOutcome _) _ s (opens (lengths 0 0 0) p w prov nonblock (opening_place p (the_switch p w) prov))
  replies-short (call.TClose fd) g s = told (IsShortOutcome _) _ s (short (lengths 0 0 0) p w fd.0 _ (λ e i. (refl, λ c. tt)))
  replies-short (call.TBind fd addr qlen amax) g s = told (IsShortOutcome _) _ s (binds fd.0 addr qlen amax)
  replies-short (call.TUnbind fd) g s = told (IsShortOutcome _) _ s (short (lengths 0 0 0) p w fd.0 _ (λ e i. (refl, λ c. tt)))
  replies-short (call.TConnect fd addr opt udata amax omax umax) go.Begin s = told (IsShortOutcome _) _ s (short (lengths (min amax 64) (min omax 256) (min umax 64)) p w fd.0 (λ e. Connect.plan_to fd.0 addr opt udata e (Connect.found p w fd.0 addr e)) (λ e i. (refl, λ c. asks (lengths (min amax 64) (min omax 256) (min umax 64)) p w e.nonblock)))
  replies-short (call.TConnect fd addr opt udata amax omax umax) (go.More n) s = told (IsShortOutcome _) _ s (confirms fd.0 amax omax umax)
  replies-short (call.TRcvConnect fd amax omax umax) g s = told (IsShortOutcome _) _ s (confirms fd.0 amax omax umax)
  replies-short (call.TListen fd amax omax umax) g s = told (IsShortOutcome _) _ s (listens fd.0 amax omax umax)
  replies-short (call.TAccept fd resfd seq opt udata) g s = told (IsShortOutcome _) _ s (accepts (lengths 0 0 0) p w fd.0 resfd.0 seq.0 opt udata)
  replies-short (call.TSnd fd bytes flags) g s = told (IsShortOutcome _) _ s (sends (lengths 0 0 0) p w fd.0 1 bytes flags g)
  replies-short (call.TSndV fd parts flags) g s = told (IsShortOutcome _) _ s (sends (lengths 0 0 0) p w fd.0 (length parts) (concat parts) flags g)
  replies-short (call.TRcv fd max) g s = told (IsShortOutcome _) _ s (receives fd.0 1 max)
  replies-short (call.TRcvV fd sizes) g s = told (IsShortOutcome _) _ s (receives fd.0 (length sizes) (sum sizes))
  replies-short (call.TSndDis fd seq udata) g s = told (IsShortOutcome _) _ s (short (lengths 0 0 0) p w fd.0 _ (λ e i. (refl, λ c. tt)))
  replies-short (call.TRcvDis fd umax) g s = told (IsShortOutcome _) _ s (disconnects fd.0 umax)
  replies-short (call.TSndRel fd) g s = told (IsShortOutcome _) _ s (short (lengths 0 0 0) p w fd.0 _ (λ e i. (refl, λ c. tt)))
  replies-short (call.TRcvRel fd) g s = told (IsShortOutcome _) _ s (short (lengths 0 0 0) p w fd.0 _ (λ e i. (refl, λ c. tt)))
  replies-short (call.TSndRelData fd udata) g s = told (IsShortOutcome _) _ s (short (lengths 0 0 0) p w fd.0 _ (λ e i. (refl, λ c. tt)))
  replies-short (call.TRcvRelData fd umax) g s = told (IsShortOutcome _) _ s (releases fd.0 umax)
  replies-short (call.TSndUData fd addr opt bytes) g s = told (IsShortOutcome _) _ s (short (lengths 0 0 0) p w fd.0 _ (λ e i. (refl, λ c. tt)))
  replies-short (call.TSndVUData fd addr opt parts) g s = told (IsShortOutcome _) _ s (short (lengths 0 0 0) p w fd.0 _ (λ e i. (refl, λ c. tt)))
  replies-short (call.TRcvUData fd max amax omax) g s = told (IsShortOutcome _) _ s (datagrams fd.0 1 max amax omax)
  replies-short (call.TRcvVUData fd sizes amax omax) g s = told (IsShortOutcome _) _ s (datagrams fd.0 (length sizes) (sum sizes) amax omax)
  replies-short (call.TRcvUDErr fd amax omax) g s = told (IsShortOutcome _) _ s (errors fd.0 amax omax)
  replies-short (call.TLookAt fd) g s = told (IsShortOutcome _) _ s (short (lengths 0 0 0) p w fd.0 _ (λ e i. (refl, λ c. tt)))
  replies-short (call.TGetState fd) g s = told (IsShortOutcome _) _ s (short (lengths 0 0 0) p w fd.0 _ (λ e i. (refl, λ c. tt)))
  replies-short (call.TSync fd) g s = told (IsShortOutcome _) _ s (short (lengths 0 0 0) p w fd.0 _ (λ e i. (refl, λ c. tt)))
  replies-short (call.TGetInfo fd) g s = told (IsShortOutcome _) _ s (short (lengths 0 0 0) p w fd.0 _ (λ e i. (refl, λ c. tt)))
  replies-short (call.TGetProtAddr fd amax pmax) g s = told (IsShortOutcome _) _ s (addresses fd.0 amax pmax)
  replies-short (call.TOptMgmt fd action opt omax) g s = told (IsShortOutcome _) _ s (options_told fd.0 action opt omax)
  replies-short (call.SetMode fd nonblock) g s = told (IsShortOutcome _) _ s (short (lengths 0 0 0) p w fd.0 _ (λ e i. (refl, λ c. tt)))
