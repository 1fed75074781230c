-- Where calls are of bytes, all that a world keeps is of bytes, and its numbers have 32 bits.
use Rattle.std.proofs.Common.{ℕ, Bool, true, false, List, [], ◌∷◌, ◌++◌, ◌+◌, ◌-◌, ◌≡◌, ◌≢◌, ◌<◌, ◌^◌, refl, sym, subst, eqb, cond, not, length, sum, map, take, drop, Option, Some, None, is_some, arith}
use Rattle.std.specs.Prelude.{option_and_then, option_map, slice_get, unwrap_or}
use Rattle.std.specs.List.{All, concat}
use Rattle.std.proofs.lemmas.Bool.{eqb-true, eqb-false, or_parts, false≢true}
use Rattle.std.proofs.lemmas.List.Elements.{All-nil, All-cons, All-append, All-take, All-drop, All-head, All-tail}
use Rattle.xti_base.specs.declared.kinds.Prov.{Prov}
use Rattle.xti_base.specs.declared.kinds.Event.{Event}
use Rattle.xti_base.specs.declared.kinds.Event.TheVariants as event
use Rattle.xti_base.specs.declared.kinds.State.TheVariants.{T_UNBND, T_DATAXFER, T_OUTREL, T_INREL}
use Rattle.xti_model.specs.declared.call.Call.{Call}
use Rattle.xti_model.specs.declared.call.Call.TheVariants as call
use Rattle.xti_model.specs.declared.entry.Go.{Go}
use Rattle.xti_model.specs.declared.entry.Go.TheVariants as go
use Rattle.xti_model.specs.declared.profile.Providers.{Providers}
use Rattle.xti_model.specs.Endpoint.{Endpoint, Indication, Disconnect, Confirmation, Datagram, DatagramError, Target, has_number, find_number, without_number, disconnected, is_target, address_of, reset}
use Rattle.xti_model.specs.World.{World, Change, Switch, at_endpoint, at_switch, changed, endpoint, the_switch}
use Rattle.xti_model.specs.Switch.{bound, chosen, listener, give_address, give_up_address, opening_place}
use Rattle.xti_model.specs.Links.{names, linked, at_linked, take_back, taken_back, break, broken}
use Rattle.xti_model.specs.Symbols.{rest, piece}
use Rattle.xti_model.specs.Events.{is_state, some_wait, around}
use Rattle.xti_model.specs.Arguments.{is_expedited}
use Rattle.xti_model.specs.Plan.{Plan, if_open, later_plan}
use Rattle.xti_model.specs.Step.{plan, step, step_of, send}
use Rattle.xti_model.specs.History.{left_by}
use Rattle.xti_model.specs.Calls.Open as Open
use Rattle.xti_model.specs.Calls.Close as Close
use Rattle.xti_model.specs.Calls.Bind as Bind
use Rattle.xti_model.specs.Calls.Connect as Connect
use Rattle.xti_model.specs.Calls.Listen as Listen
use Rattle.xti_model.specs.Calls.Send as Send
use Rattle.xti_model.specs.Calls.Receive as Receive
use Rattle.xti_model.specs.Calls.Disconnect as Disconnects
use Rattle.xti_model.specs.Calls.Release as Release
use Rattle.xti_model.specs.Calls.Datagrams as Datagrams
use Rattle.xti_model.specs.Calls.Show as Show
use Rattle.xti_model.specs.SentBytes.{AreBytes}
use Rattle.xti_laws.proofs.ChangedEndpoints.{endpoint-same, endpoint-other}
use Rattle.xti_laws.proofs.KeptEndpoints.{AllKeep, append-keep, keeps}
use Rattle.xti_laws.specs.Invariant.{SoundWorld}
use Rattle.xti_laws.proofs.PassedRows.{step-keeps, call-keeps}
use Rattle.xti_laws.proofs.ShortLists.{All-without, All-find}
use Rattle.xti_laws.proofs.CountingBindings.{few-in-either}
use Rattle.xti_laws.specs.Values.{IsOfBytes, IsNumber}
use Rattle.xti_laws.proofs.ByteLists.{none-bytes, chosen-bytes, IsSymbol, none-symbols, piece-symbols}

-- ---- what an endpoint keeps

abbrev pub BytesIfAny : Option (List ℕ) → Type 0
BytesIfAny None = Unit {0}
BytesIfAny (Some bytes) = AreBytes bytes

abbrev pub ByteIndication : Indication → Type 0
ByteIndication i = IsNumber i.number × AreBytes i.address × AreBytes i.options × AreBytes i.udata

abbrev pub ByteDisconnect : Disconnect → Type 0
ByteDisconnect d = IsNumber d.reason × IsNumber d.number × AreBytes d.udata

abbrev pub ByteConfirmation : Option Confirmation → Type 0
ByteConfirmation None = Unit {0}
ByteConfirmation (Some c) = AreBytes c.address × AreBytes c.options × AreBytes c.udata

abbrev pub ByteDatagram : Datagram → Type 0
ByteDatagram d = AreBytes d.source × AreBytes d.options × AreBytes d.bytes

abbrev pub ByteError : DatagramError → Type 0
ByteError d = AreBytes d.destination × AreBytes d.options × IsNumber d.code

abbrev pub OfBytes : Endpoint → Type 0
OfBytes e =
    BytesIfAny e.address × All ByteIndication e.pending × All ByteIndication e.outstanding × All ByteDisconnect e.disconnects × BytesIfAny e.peer_address × ByteConfirmation e.confirmation
    × All IsSymbol e.normal × All IsSymbol e.expedited × All ByteDatagram e.datagrams × All ByteError e.datagram_errors × BytesIfAny e.release

abbrev pub Bytes : Option Endpoint → Type 0
Bytes None = Unit {0}
Bytes (Some e) = OfBytes e

-- of every endpoint
abbrev pub AllBytes : Providers → World → Type 0
AllBytes p w = (z : ℕ) → Bytes (endpoint p w z)

-- lists of changes that keep it everywhere
abbrev KeepBytes : List Change → Type 0
KeepBytes cs = (z : ℕ) → AllKeep Bytes z cs

kept-bytes : (p : Providers) (w : World) (cs : List Change) → KeepBytes cs → AllBytes p w → AllBytes p (changed p w cs)
kept-bytes p w cs k h z = keeps p Bytes z cs (k z) w (h z)

record PlanBytes (x : Plan) : Type 0 where
  changes : KeepBytes x.changes
  marks : KeepBytes x.marks
  lost : KeepBytes x.lost

by-plan : (p : Providers) (w : World) (x : Plan) → PlanBytes x → AllBytes p w → AllBytes p (left_by w (step_of p w x))
by-plan p w x k h = step-keeps (AllBytes p) p w x h (record { changes = λ g. kept-bytes p w x.changes k.changes h; lost = λ g. kept-bytes p w x.lost k.lost h; marks = λ g. kept-bytes p w x.marks k.marks h })

on-open : (p : Providers) (w : World) (fd : ℕ) (f : Endpoint → Plan) → ((e : Endpoint) → OfBytes e → PlanBytes (f e)) → AllBytes p w → AllBytes p (left_by w (step_of p w (if_open fd (endpoint p w fd) f)))
on-open p w fd f k h = go (endpoint p w fd) (h fd)
  where
    go : (o : Option Endpoint) → Bytes o → AllBytes p (left_by w (step_of p w (if_open fd o f)))
    go None b = by-plan p w (if_open fd None f) (record { changes = λ z. tt; marks = λ z. tt; lost = λ z. tt }) h
    go (Some e) b = by-plan p w (f e) (k e b) h

-- ---- updates
abbrev Holds : (Endpoint → Endpoint) → Type 0
Holds f = (e : Endpoint) → OfBytes e → OfBytes (f e)

choose : (b : Bool) (x y : Endpoint) → OfBytes x → OfBytes y → OfBytes (cond b x y)
choose true x y h k = h
choose false x y h k = k

no_disconnects : All ByteDisconnect []
no_disconnects = All-nil ByteDisconnect

-- none where there are no bytes
pub any-bytes : (o : Option (List ℕ)) → BytesIfAny o → AreBytes (unwrap_or o [])
any-bytes None k = none-bytes
any-bytes (Some bytes) k = k

pub address-bytes : (e : Endpoint) → OfBytes e → AreBytes (address_of e)
address-bytes e h = any-bytes e.address h.0

-- the first that waits
pub first-of : {X : Type 0} (P : X → Type 0) (or : Option X → X) (xs : List X) → ((x : X) → or (Some x) ≡ x) → P (or None) → All P xs → P (or (slice_get xs 0))
first-of P or [] s n a = n
first-of P or (x ∷ xs) s n a = subst P (sym (s x)) (All-head P x xs a)

pub oldest-bytes : (e : Endpoint) → OfBytes e → ByteIndication (Listen.oldest e)
oldest-bytes e h = first-of ByteIndication Listen.indication_or e.pending (λ i. refl) (omega arith, none-bytes, none-bytes, none-bytes) h.1

pub datagram-bytes : (e : Endpoint) → OfBytes e → ByteDatagram (Datagrams.first_of e)
datagram-bytes e h = first-of ByteDatagram Datagrams.datagram_or e.datagrams (λ i. refl) (none-bytes, none-bytes, none-bytes) h.8

idle-bytes : Holds Disconnects.idle
idle-bytes e h = (h.0, h.1, h.2, no_disconnects, tt, tt, none-symbols, none-symbols, h.8, h.9, tt)

disconnected-bytes : (reason number : ℕ) (udata : List ℕ) → IsNumber reason → IsNumber number → AreBytes udata → Holds (disconnected reason number udata)
disconnected-bytes reason number udata r n u e h = (h.0, h.1, h.2, All-append ByteDisconnect e.disconnects (new ∷ []) h.3 (All-cons ByteDisconnect new [] (r, n, u) no_disconnects), h.4, h.5, h.6, h.7, h.8, h.9, h.10)
  where
    new : Disconnect
    new = record { reason = reason; number = number; udata = udata }

broken-bytes : (reason : ℕ) (udata : List ℕ) → IsNumber reason → AreBytes udata → Holds (broken reason udata)
broken-bytes reason udata r u e h = disconnected-bytes reason 0 udata r (omega arith) u (reset e) (h.0, h.1, h.2, no_disconnects, tt, tt, none-symbols, none-symbols, h.8, h.9, tt)

read-bytes : (p : Providers) (max : ℕ) → Holds (Receive.received p max)
read-bytes p max e h = choose (some_wait e.expedited) (record e { expedited = rest max e.expedited; mid_expedited = Receive.goes_on p true max e }) (record e { normal = rest max e.normal })
    (h.0, h.1, h.2, h.3, h.4, h.5, h.6, All-drop IsSymbol _ e.expedited h.7, h.8, h.9, h.10)
    (h.0, h.1, h.2, h.3, h.4, h.5, All-drop IsSymbol _ e.normal h.6, h.7, h.8, h.9, h.10)

one : (fd : ℕ) (f : Endpoint → Endpoint) → Holds f → KeepBytes (at_endpoint fd f ∷ [])
one fd f k z = ((λ j e q. k e q), tt)

own : (fd : ℕ) (f : Endpoint → Endpoint) (x : Plan) → Holds f → x.changes ≡ at_endpoint fd f ∷ [] → x.lost ≡ at_endpoint fd f ∷ [] → x.marks ≡ [] → PlanBytes x
own fd f x k a b m = record { changes = λ z. subst (AllKeep Bytes z) (sym a) (one fd f k z); marks = λ z. subst (AllKeep Bytes z) (sym m) tt; lost = λ z. subst (AllKeep Bytes z) (sym b) (one fd f k z) }

twice : (cs : List Change) (x : Plan) → KeepBytes cs → x.changes ≡ cs → x.lost ≡ cs → x.marks ≡ [] → PlanBytes x
twice cs x k a b m = record { changes = λ z. subst (AllKeep Bytes z) (sym a) (k z); marks = λ z. subst (AllKeep Bytes z) (sym m) tt; lost = λ z. subst (AllKeep Bytes z) (sym b) (k z) }

still : (x : Plan) → x.changes ≡ [] → x.lost ≡ [] → x.marks ≡ [] → PlanBytes x
still x a b m = twice [] x (λ z. tt) a b m

both : (cs ds : List Change) → KeepBytes cs → KeepBytes ds → KeepBytes (cs ++ ds)
both cs ds a b z = append-keep Bytes z cs ds (a z) (b z)

linked-bytes : (fd : ℕ) (o : Option ℕ) (f : Endpoint → Endpoint) → Holds f → KeepBytes (at_linked fd o f)
linked-bytes fd None f k z = tt
linked-bytes fd (Some y) f k z = ((λ j e q. choose (names fd e.peer) (f e) e (k e q) q), tt)

-- a number that is found among the requests is one of theirs
found-number : (n : ℕ) (xs : List Indication) → All ByteIndication xs → is_some (find_number n xs) ≡ true → IsNumber n
found-number n [] a h = absurd (false≢true h)
found-number n (x ∷ xs) a h = go (has_number n x) refl h (found-number n xs (All-tail ByteIndication x xs a))
  where
    go : (b : Bool) → has_number n x ≡ b → is_some (cond b (Some x) (find_number n xs)) ≡ true → (is_some (find_number n xs) ≡ true → IsNumber n) → IsNumber n
    go true i j k = subst IsNumber (eqb-true x.number n i) (All-head ByteIndication x xs a).0
    go false i j k = k j

taken-bytes : (n reason : ℕ) (udata : List ℕ) → IsNumber reason → AreBytes udata → Holds (taken_back n reason udata)
taken-bytes n reason udata r u e h = choose (is_some (find_number n e.pending)) (record e { pending = without_number n e.pending }) (cond (is_some (find_number n e.outstanding)) (disconnected reason n udata e) e)
    (h.0, All-without ByteIndication n e.pending h.1, h.2, h.3, h.4, h.5, h.6, h.7, h.8, h.9, h.10) (go (is_some (find_number n e.outstanding)) refl)
  where
    go : (b : Bool) → is_some (find_number n e.outstanding) ≡ b → OfBytes (cond b (disconnected reason n udata e) e)
    go true i = disconnected-bytes reason n udata r (found-number n e.outstanding h.2 i) u e h
    go false i = h

take-bytes : (t : Option Target) (reason : ℕ) (udata : List ℕ) → IsNumber reason → AreBytes udata → KeepBytes (take_back t reason udata)
take-bytes None reason udata r u z = tt
take-bytes (Some t) reason udata r u z = ((λ j e q. taken-bytes t.number reason udata r u e q), tt)

break-bytes : (fd : ℕ) (e : Endpoint) (reason : ℕ) (udata : List ℕ) → IsNumber reason → AreBytes udata → KeepBytes (break fd e reason udata)
break-bytes fd e reason udata r u = both (at_linked fd e.peer (broken reason udata)) (take_back e.target reason udata) (linked-bytes fd e.peer (broken reason udata) (broken-bytes reason udata r u)) (take-bytes e.target reason udata r u)

given-bytes : (fd n : ℕ) → Holds (Close.given_up fd n)
given-bytes fd n e h = choose (is_target fd n e.target) (record (disconnected 5 0 [] e) { target = None }) e (disconnected-bytes 5 0 [] (omega arith) (omega arith) none-bytes e h) h

callers-bytes : (fd : ℕ) (is : List Indication) → KeepBytes (map (Close.give_up_caller fd) is)
callers-bytes fd [] z = tt
callers-bytes fd (i ∷ is) z = ((λ j e q. given-bytes fd i.number e q), callers-bytes fd is z)

close-bytes : (p : Providers) (fd : ℕ) (e : Endpoint) → KeepBytes (Close.changes p fd e)
close-bytes p fd e = both (break fd e 5 [] ++ map (Close.give_up_caller fd) (e.pending ++ e.outstanding)) (Close.closing p fd) (both (break fd e 5 []) (map (Close.give_up_caller fd) (e.pending ++ e.outstanding)) (break-bytes fd e 5 [] (omega arith) none-bytes) (callers-bytes fd (e.pending ++ e.outstanding))) (λ z. ((λ j. tt), (tt, tt)))

turned-bytes : (reason : ℕ) → IsNumber reason → Holds (Connect.turned_away reason)
turned-bytes reason r e h = disconnected-bytes reason 0 [] r (omega arith) none-bytes e h

listened-bytes : Holds Listen.listened
listened-bytes e h = (h.0, All-drop ByteIndication 1 e.pending h.1, All-append ByteIndication e.outstanding (Listen.oldest e ∷ []) h.2 (All-cons ByteIndication (Listen.oldest e) [] (oldest-bytes e h) (All-nil ByteIndication)), h.3, h.4, h.5, h.6, h.7, h.8, h.9, h.10)

out-bytes : (n : ℕ) → Holds (Listen.taken_out n)
out-bytes n e h = (h.0, h.1, All-without ByteIndication n e.outstanding h.2, h.3, h.4, h.5, h.6, h.7, h.8, h.9, h.10)

accept-bytes : (p : Providers) (fd resfd number : ℕ) (options udata : List ℕ) (e : Endpoint) (o : Option Endpoint) → AreBytes options → AreBytes udata → OfBytes e → Bytes o → PlanBytes (Listen.accept_with p fd resfd number options udata e o)
accept-bytes p fd resfd number options udata e None a u h k = still _ refl refl refl
accept-bytes p fd resfd number options udata e (Some r) a u h k = twice (Listen.accept_found fd resfd (find_number number e.outstanding) options udata e r) _ (go (find_number number e.outstanding) refl) refl refl refl
  where
    like : (y : Endpoint) → OfBytes y → OfBytes (Listen.bound_like e y)
    like y q = choose (is_state (T_UNBND ∷ []) y) (record y { address = Some (address_of e); qlen = 0 }) y (address-bytes e h, q.1, q.2, q.3, q.4, q.5, q.6, q.7, q.8, q.9, q.10) q

    bind : (d : Bool) → KeepBytes (cond d (at_endpoint resfd (Listen.bound_like e) ∷ at_switch (give_address r.prov (address_of e) resfd false) ∷ []) [])
    bind true z = ((λ j y q. like y q), (tt, tt))
    bind false z = tt

    go : (i : Option Indication) → find_number number e.outstanding ≡ i → KeepBytes (Listen.accept_found fd resfd i options udata e r)
    go None f z = tt
    go (Some i) f z =
        let b : ByteIndication i = All-find ByteIndication number e.outstanding i h.2 f in
        let address : AreBytes (address_of (Listen.bound_like e r)) = address-bytes (Listen.bound_like e r) (like r k) in (
          (λ j y q. out-bytes i.number y q),
          both (Listen.bind_like e resfd r) (Listen.linking resfd i (address_of (Listen.bound_like e r)) options udata) (bind (is_state (T_UNBND ∷ []) r))
              (λ z. ((λ j y q. (q.0, q.1, q.2, q.3, b.1, q.5, q.6, q.7, q.8, q.9, q.10)), ((λ j y q. (q.0, q.1, q.2, q.3, address, (address, a, u), q.6, q.7, q.8, q.9, q.10)), tt))) z,
        )

rejected-bytes : (udata : List ℕ) → AreBytes udata → Holds (Disconnects.rejected udata)
rejected-bytes udata u e h = disconnected-bytes 3 0 udata (omega arith) (omega arith) u e h

snddis-bytes : (fd number : ℕ) (udata : List ℕ) (e : Endpoint) → AreBytes udata → KeepBytes (Disconnects.send_changes fd number udata e)
snddis-bytes fd number udata e u = go (Disconnects.is_asked e) (find_number number e.outstanding)
  where
    go : (x : Bool) (o : Option Indication) → KeepBytes (cond x (Disconnects.reject fd udata o) (break fd e 4 udata ++ at_endpoint fd Disconnects.idle ∷ []))
    go true None z = tt
    go true (Some i) z = ((λ j y q. out-bytes i.number y q), ((λ j y q. rejected-bytes udata u y q), tt))
    go false o z = both (break fd e 4 udata) (at_endpoint fd Disconnects.idle ∷ []) (break-bytes fd e 4 udata (omega arith) u) (one fd Disconnects.idle idle-bytes) z

cut-bytes : Holds Disconnects.received
cut-bytes e h = choose (Disconnects.is_asked e) (record (Listen.taken_out (Disconnects.oldest e).number e) { disconnects = drop 1 e.disconnects }) (Disconnects.idle e)
    (h.0, h.1, All-without ByteIndication (Disconnects.oldest e).number e.outstanding h.2, All-drop ByteDisconnect 1 e.disconnects h.3, h.4, h.5, h.6, h.7, h.8, h.9, h.10) (idle-bytes e h)

sent-bytes : Holds Release.after_send
sent-bytes e h = choose (is_state (T_DATAXFER ∷ []) e) (record e { state = T_OUTREL }) (Disconnects.idle e) h (idle-bytes e h)

released-bytes : (udata : List ℕ) → AreBytes udata → Holds (Release.released udata)
released-bytes udata u e h = (h.0, h.1, h.2, h.3, h.4, h.5, h.6, h.7, h.8, h.9, u)

left-bytes : Holds Release.after_receive
left-bytes e h = choose (is_state (T_DATAXFER ∷ []) e) (record e { release = None; state = T_INREL }) (Disconnects.idle e) (h.0, h.1, h.2, h.3, h.4, h.5, h.6, h.7, h.8, h.9, tt) (idle-bytes e h)

sndrel-bytes : (p : Providers) (w : World) (fd : ℕ) (udata : List ℕ) → AreBytes udata → AllBytes p w → AllBytes p (left_by w (step_of p w (Release.send_plan p w fd udata)))
sndrel-bytes p w fd udata u h = on-open p w fd _ (λ e b. twice (at_linked fd e.peer (Release.released udata) ++ at_endpoint fd Release.after_send ∷ []) _ (both (at_linked fd e.peer (Release.released udata)) (at_endpoint fd Release.after_send ∷ []) (linked-bytes fd e.peer (Release.released udata) (released-bytes udata u)) (one fd Release.after_send sent-bytes)) refl refl refl) h

-- ---- sends

came-bytes : (b : Bool) (came : List ℕ) → All IsSymbol came → Holds (Send.received b came)
came-bytes true came a e h = (h.0, h.1, h.2, h.3, h.4, h.5, h.6, All-append IsSymbol e.expedited came h.7 a, h.8, h.9, h.10)
came-bytes false came a e h = (h.0, h.1, h.2, h.3, h.4, h.5, All-append IsSymbol e.normal came h.6 a, h.7, h.8, h.9, h.10)

flow-bytes : (b on : Bool) → Holds (Send.mark_flow b on)
flow-bytes true on e h = h
flow-bytes false on e h = h

count-bytes : (p : Providers) (b ends : Bool) (now : ℕ) → Holds (Send.sent p b ends now)
count-bytes p true ends now e h = h
count-bytes p false ends now e h = h

sends-bytes : (p : Providers) (fd : ℕ) (bytes : List ℕ) (flags taken now : ℕ) (e : Endpoint) → AreBytes bytes → KeepBytes (Send.changes p fd bytes flags taken now e)
sends-bytes p fd bytes flags taken now e a =
    both (at_linked fd e.peer (Send.received (is_expedited flags) came)) (at_endpoint fd (Send.sent p (is_expedited flags) ends now) ∷ [])
    (linked-bytes fd e.peer (Send.received (is_expedited flags) came) (came-bytes (is_expedited flags) came (piece-symbols (take now (drop taken bytes)) ends (All-take (λ z. z < 256) now (drop taken bytes) (All-drop (λ z. z < 256) taken bytes a)))))
    (one fd (Send.sent p (is_expedited flags) ends now) (count-bytes p (is_expedited flags) ends now))
  where
    ends : Bool
    ends = Send.closes p e flags (length bytes - taken) now

    came : List ℕ
    came = piece (take now (drop taken bytes)) ends

send-bytes : (p : Providers) (w : World) (fd number : ℕ) (bytes : List ℕ) (flags : ℕ) (g : Go) → AreBytes bytes → AllBytes p w → AllBytes p (left_by w (step_of p w (send p w fd number bytes flags g)))
send-bytes p w fd number bytes flags go.Begin a h = on-open p w fd (λ e. Send.plan_to p fd number bytes flags 0 e (linked p w fd e)) (λ e b. record {
  changes = sends-bytes p fd bytes flags 0 _ e a;
  lost = sends-bytes p fd bytes flags 0 _ e a;
  marks = one fd (Send.mark_flow (is_expedited flags) true) (flow-bytes (is_expedited flags) true);
}) h
send-bytes p w fd number bytes flags (go.More n) a h = by (endpoint p w fd)
  where
    by : (o : Option Endpoint) → AllBytes p (left_by w (step_of p w (later_plan n (if_open fd o (λ e. Send.plan_to p fd number bytes flags n e (linked p w fd e))))))
    by None = by-plan p w (later_plan n (if_open fd None (λ e. Send.plan_to p fd number bytes flags n e (linked p w fd e)))) (record { changes = λ z. tt; marks = λ z. tt; lost = λ z. tt }) h
    by (Some e) = by-plan p w (later_plan n (Send.plan_to p fd number bytes flags n e (linked p w fd e))) (record {
      changes = sends-bytes p fd bytes flags n _ e a;
      lost = sends-bytes p fd bytes flags n _ e a;
      marks = λ z. tt;
    }) h

-- ---- datagrams

deliver-bytes : (fd : ℕ) (address options bytes : List ℕ) (o : Option ℕ) (e : Endpoint) → AreBytes address → AreBytes options → AreBytes bytes → OfBytes e → KeepBytes (Datagrams.send_changes fd address options bytes o e)
deliver-bytes fd address options bytes None e a b c h z = ((λ j y q. (q.0, q.1, q.2, q.3, q.4, q.5, q.6, q.7, q.8, All-append ByteError y.datagram_errors (Datagrams.error_to address options ∷ []) q.9 (All-cons ByteError (Datagrams.error_to address options) [] (a, b, omega arith) (All-nil ByteError)), q.10)), tt)
deliver-bytes fd address options bytes (Some to) e a b c h z =
    ((λ j y q. (q.0, q.1, q.2, q.3, q.4, q.5, q.6, q.7, All-append ByteDatagram y.datagrams (Datagrams.datagram_from e options bytes ∷ []) q.8 (All-cons ByteDatagram (Datagrams.datagram_from e options bytes) [] (address-bytes e h, b, c) (All-nil ByteDatagram)), q.9, q.10)), ((λ j y q. q), tt))

sndudata-bytes : (p : Providers) (fd : ℕ) (address options : List ℕ) (number : ℕ) (bytes : List ℕ) (e : Endpoint) (o : Option ℕ) (there : Option Endpoint) → AreBytes address → AreBytes options → AreBytes bytes → OfBytes e → PlanBytes (Datagrams.send_to p fd address options number bytes e o there)
sndudata-bytes p fd address options number bytes e o there a b c h = record { changes = deliver-bytes fd address options bytes o e a b c h; marks = λ z. ((λ j y q. q), tt); lost = deliver-bytes fd address options bytes o e a b c h }

drop-bytes : Holds Datagrams.dropped
drop-bytes e h = (h.0, h.1, h.2, h.3, h.4, h.5, h.6, h.7, All-drop ByteDatagram 1 e.datagrams h.8, h.9, h.10)

got-bytes : (max : ℕ) → Holds (Datagrams.received max)
got-bytes max e h =
    let d = datagram-bytes e h in
    let short : ByteDatagram (Datagrams.shortened max (Datagrams.first_of e)) = (d.0, d.1, All-drop (λ b. b < 256) max (Datagrams.first_of e).bytes d.2) in
    choose (Datagrams.has_rest max (Datagrams.first_of e)) (record e { datagrams = Datagrams.shortened max (Datagrams.first_of e) ∷ drop 1 e.datagrams; begun = true }) (Datagrams.dropped e)
    (h.0, h.1, h.2, h.3, h.4, h.5, h.6, h.7, All-cons ByteDatagram (Datagrams.shortened max (Datagrams.first_of e)) (drop 1 e.datagrams) short (All-drop ByteDatagram 1 e.datagrams h.8), h.9, h.10) (drop-bytes e h)

error-bytes : Holds Datagrams.without_error
error-bytes e h = (h.0, h.1, h.2, h.3, h.4, h.5, h.6, h.7, h.8, All-drop ByteError 1 e.datagram_errors h.9, h.10)

shown-bytes : (o : Option Event) → Holds (Show.shown o)
shown-bytes None e h = h
shown-bytes (Some event.T_GODATA) e h = h
shown-bytes (Some event.T_GOEXDATA) e h = h
shown-bytes (Some other) e h = h

open-bytes : (p : Providers) (s : Switch) (prov : Prov) (nonblock : Bool) (o : Option ℕ) → PlanBytes (Open.plan_where p s prov nonblock o)
open-bytes p s prov nonblock None = still _ refl refl refl
open-bytes p s prov nonblock (Some n) = record {
  changes = λ z. ((λ q. (tt, All-nil ByteIndication, All-nil ByteIndication, no_disconnects, tt, tt, none-symbols, none-symbols, All-nil ByteDatagram, All-nil ByteError, tt)), (tt, tt));
  marks = λ z. tt;
  lost = λ z. tt;
}

-- ---- requests to connect, whose numbers are new

one-all : (p : Providers) (w : World) (z : ℕ) (f : Endpoint → Endpoint) → AllBytes p w → ((y : Endpoint) → endpoint p w z ≡ Some y → OfBytes (f y)) → AllBytes p (changed p w (at_endpoint z f ∷ []))
one-all p w z f h k x = go (eqb x z) refl
  where
    mapped : (o : Option Endpoint) → endpoint p w z ≡ o → Bytes (option_map f o)
    mapped None i = tt
    mapped (Some y) i = k y i

    go : (b : Bool) → eqb x z ≡ b → Bytes (endpoint p (changed p w (at_endpoint z f ∷ [])) x)
    go true j = subst (λ n. Bytes (endpoint p (changed p w (at_endpoint z f ∷ [])) n)) (sym (eqb-true x z j)) (subst Bytes (sym (endpoint-same p z f w)) (mapped (endpoint p w z) refl))
    go false j = subst Bytes (sym (endpoint-other p z x j f w)) (h x)

module _ (p : Providers) (w : World) (s : SoundWorld p w) (h : AllBytes p w) (fd : ℕ) where
  bytes-at : (z : ℕ) (y : Endpoint) → endpoint p w z ≡ Some y → OfBytes y
  bytes-at z y i = subst Bytes i (h z)

  asked-bytes : (address options udata : List ℕ) (l : ℕ) (y : Endpoint) → AreBytes address → AreBytes options → AreBytes udata → endpoint p w l ≡ Some y → Connect.is_full y ≡ false → OfBytes (Connect.asked fd address options udata y)
  asked-bytes address options udata l y a o u i f = (q.0, All-append ByteIndication y.pending (new ∷ []) q.1 (All-cons ByteIndication new [] (small, a, o, u) (All-nil ByteIndication)), q.2, q.3, q.4, q.5, q.6, q.7, q.8, q.9, q.10)
    where
      q : OfBytes y
      q = bytes-at l y i

      new : Indication
      new = record { number = y.last_number + 1; caller = fd; address = address; options = options; udata = udata }

      small : y.last_number + 1 < 2 ^ 32
      small =
          let d : y.last_number ≢ 4294967295 = eqb-false y.last_number 4294967295 (or_parts (eqb (length y.pending + length y.outstanding) y.qlen) (eqb y.last_number 4294967295) f).1 in
          let n = (s.endpoints l y i).request_fields.numbered in omega (arith, d, n)

  reached-bytes : (options udata : List ℕ) (e le : Endpoint) (l : ℕ) → AreBytes options → AreBytes udata → OfBytes e → endpoint p w l ≡ Some le
      → (x y : Bool) → Connect.is_full le ≡ y → AllBytes p (changed p w (cond x (at_endpoint fd (Connect.turned_away 1) ∷ []) (cond y (at_endpoint fd (Connect.turned_away 2) ∷ []) (at_endpoint l (Connect.asked fd (address_of e) options udata) ∷ at_endpoint fd (Connect.asking l (le.last_number + 1)) ∷ []))))
  reached-bytes options udata e le l o u b i true y v = kept-bytes p w (at_endpoint fd (Connect.turned_away 1) ∷ []) (one fd (Connect.turned_away 1) (turned-bytes 1 (omega arith))) h
  reached-bytes options udata e le l o u b i false true v = kept-bytes p w (at_endpoint fd (Connect.turned_away 2) ∷ []) (one fd (Connect.turned_away 2) (turned-bytes 2 (omega arith))) h
  reached-bytes options udata e le l o u b i false false v =
      kept-bytes p (changed p w (at_endpoint l (Connect.asked fd (address_of e) options udata) ∷ [])) (at_endpoint fd (Connect.asking l (le.last_number + 1)) ∷ []) (one fd (Connect.asking l (le.last_number + 1)) (λ y q. q))
      (one-all p w l (Connect.asked fd (address_of e) options udata) h (λ y j. (let same : le ≡ y = cc in asked-bytes (address_of e) options udata l y (address-bytes e b) o u j (subst (λ z. Connect.is_full z ≡ false) same v))))

  request-bytes : (options udata : List ℕ) (e : Endpoint) → AreBytes options → AreBytes udata → OfBytes e → (o : Option ℕ) → AllBytes p (changed p w (Connect.request fd options udata e (Connect.found_at p w o)))
  request-bytes options udata e o u b None = kept-bytes p w (at_endpoint fd (Connect.turned_away 1) ∷ []) (one fd (Connect.turned_away 1) (turned-bytes 1 (omega arith))) h
  request-bytes options udata e o u b (Some l) = go (endpoint p w l) refl
    where
      go : (y : Option Endpoint) → endpoint p w l ≡ y → AllBytes p (changed p w (Connect.request fd options udata e (option_map (λ e. record { fd = l; endpoint = e }) y)))
      go None i = kept-bytes p w (at_endpoint fd (Connect.turned_away 1) ∷ []) (one fd (Connect.turned_away 1) (turned-bytes 1 (omega arith))) h
      go (Some le) i = reached-bytes options udata e le l o u b i (not (Connect.is_listening le)) (Connect.is_full le) refl

  connect-bytes : (addr options udata : List ℕ) → AreBytes options → AreBytes udata → AllBytes p (left_by w (step_of p w (Connect.plan p w fd addr options udata)))
  connect-bytes addr options udata o u = call-keeps (AllBytes p) p w fd (λ e. Connect.plan_to fd addr options udata e (Connect.found p w fd addr e)) h (λ e i. record {
    changes = λ g. request-bytes options udata e o u (bytes-at fd e i) (listener (the_switch p w) e.prov addr fd);
    lost = λ g. request-bytes options udata e o u (bytes-at fd e i) (listener (the_switch p w) e.prov addr fd);
    marks = λ g. h;
  })

-- ---- all calls

pub next-bytes : (p : Providers) (w : World) (c : Call) (g : Go) → IsOfBytes c → SoundWorld p w → AllBytes p w → AllBytes p (left_by w (step p w c g))
unfolding step plan
next-bytes p w (call.TOpen prov nonblock) g a s h = by-plan p w (Open.plan_where p (the_switch p w) prov nonblock (opening_place p (the_switch p w) prov)) (open-bytes p (the_switch p w) prov nonblock (opening_place p (the_switch p w) prov)) h
next-bytes p w (call.TClose fd) g a s h = on-open p w fd.0 _ (λ e b. twice (Close.changes p fd.0 e) _ (close-bytes p fd.0 e) refl refl refl) h
next-bytes p w (call.TBind fd addr qlen amax) g a s h = on-open p w fd.0 (Bind.plan_in (the_switch p w) fd.0 addr qlen amax) (λ e b. twice (Bind.changes fd.0 e.prov (chosen (the_switch p w) e.prov addr) (Bind.queue e.prov qlen)) _ (λ z. ((λ j y q. (chosen-bytes (the_switch p w) e.prov addr (few-in-either p w s.registered.agreement) a, q.1, q.2, q.3, q.4, q.5, q.6, q.7, q.8, q.9, q.10)), (tt, tt))) refl refl refl) h
next-bytes p w (call.TUnbind fd) g a s h = on-open p w fd.0 _ (λ e b. twice (at_endpoint fd.0 Bind.unbound ∷ at_switch (give_up_address fd.0) ∷ []) _ (λ z. ((λ j y q. (tt, q.1, q.2, q.3, q.4, q.5, q.6, q.7, q.8, All-nil ByteError, q.10)), (tt, tt))) refl refl refl) h
next-bytes p w (call.TConnect fd addr opt udata amax omax umax) go.Begin a s h = connect-bytes p w s h fd.0 addr opt udata a.1 a.2
next-bytes p w (call.TConnect fd addr opt udata amax omax umax) (go.More n) a s h = on-open p w fd.0 _ (λ e b. own fd.0 Connect.confirmed _ (λ y q. (q.0, q.1, q.2, q.3, q.4, tt, q.6, q.7, q.8, q.9, q.10)) refl refl refl) h
next-bytes p w (call.TRcvConnect fd amax omax umax) g a s h = on-open p w fd.0 _ (λ e b. own fd.0 Connect.confirmed _ (λ y q. (q.0, q.1, q.2, q.3, q.4, tt, q.6, q.7, q.8, q.9, q.10)) refl refl refl) h
next-bytes p w (call.TListen fd amax omax umax) g a s h = on-open p w fd.0 _ (λ e b. own fd.0 Listen.listened _ listened-bytes refl refl refl) h
next-bytes p w (call.TAccept fd resfd seq opt udata) g a s h = on-open p w fd.0 (λ e. Listen.accept_with p fd.0 resfd.0 seq.0 opt udata e (endpoint p w resfd.0)) (λ e b. accept-bytes p fd.0 resfd.0 seq.0 opt udata e (endpoint p w resfd.0) a.0 a.1 b (h resfd.0)) h
next-bytes p w (call.TSnd fd bytes flags) g a s h = send-bytes p w fd.0 1 bytes flags g a h
next-bytes p w (call.TSndV fd parts flags) g a s h = send-bytes p w fd.0 (length parts) (concat parts) flags g a h
next-bytes p w (call.TRcv fd max) g a s h = on-open p w fd.0 _ (λ e b. own fd.0 (Receive.received p max) _ (read-bytes p max) refl refl refl) h
next-bytes p w (call.TRcvV fd sizes) g a s h = on-open p w fd.0 _ (λ e b. own fd.0 (Receive.received p (sum sizes)) _ (read-bytes p (sum sizes)) refl refl refl) h
next-bytes p w (call.TSndDis fd seq udata) g a s h = on-open p w fd.0 _ (λ e b. twice (Disconnects.send_changes fd.0 seq.0 udata e) _ (snddis-bytes fd.0 seq.0 udata e a) refl refl refl) h
next-bytes p w (call.TRcvDis fd umax) g a s h = on-open p w fd.0 _ (λ e b. own fd.0 Disconnects.received _ cut-bytes refl refl refl) h
next-bytes p w (call.TSndRel fd) g a s h = sndrel-bytes p w fd.0 [] none-bytes h
next-bytes p w (call.TRcvRel fd) g a s h = on-open p w fd.0 _ (λ e b. own fd.0 Release.after_receive _ left-bytes refl refl refl) h
next-bytes p w (call.TSndRelData fd udata) g a s h = sndrel-bytes p w fd.0 udata a h
next-bytes p w (call.TRcvRelData fd umax) g a s h = on-open p w fd.0 _ (λ e b. own fd.0 Release.after_receive _ left-bytes refl refl refl) h
next-bytes p w (call.TSndUData fd addr opt bytes) g a s h = on-open p w fd.0 (λ e. Datagrams.send_from p w fd.0 addr opt 1 bytes e (bound (the_switch p w) e.prov addr)) (λ e b. sndudata-bytes p fd.0 addr opt 1 bytes e (bound (the_switch p w) e.prov addr) (option_and_then (endpoint p w) (bound (the_switch p w) e.prov addr)) a.0 a.1 a.2 b) h
next-bytes p w (call.TSndVUData fd addr opt parts) g a s h = on-open p w fd.0 (λ e. Datagrams.send_from p w fd.0 addr opt (length parts) (concat parts) e (bound (the_switch p w) e.prov addr)) (λ e b. sndudata-bytes p fd.0 addr opt (length parts) (concat parts) e (bound (the_switch p w) e.prov addr) (option_and_then (endpoint p w) (bound (the_switch p w) e.prov addr)) a.0 a.1 a.2 b) h
next-bytes p w (call.TRcvUData fd max amax omax) g a s h = on-open p w fd.0 (Datagrams.receive_from fd.0 1 max amax omax) (λ e b. record { changes = one fd.0 (Datagrams.received max) (got-bytes max); marks = λ z. tt; lost = one fd.0 Datagrams.dropped drop-bytes }) h
next-bytes p w (call.TRcvVUData fd sizes amax omax) g a s h = on-open p w fd.0 (Datagrams.receive_from fd.0 (length sizes) (sum sizes) amax omax) (λ e b. record { changes = one fd.0 (Datagrams.received (sum sizes)) (got-bytes (sum sizes)); marks = λ z. tt; lost = one fd.0 Datagrams.dropped drop-bytes }) h
next-bytes p w (call.TRcvUDErr fd amax omax) g a s h = on-open p w fd.0 _ (λ e b. own fd.0 Datagrams.without_error _ error-bytes refl refl refl) h
next-bytes p w (call.TLookAt fd) g a s h = on-open p w fd.0 (λ e. Show.look_in fd.0 e (around p w fd.0 e)) (λ e b. own fd.0 (Show.shown (Show.first_pending (around p w fd.0 e) e)) _ (shown-bytes (Show.first_pending (around p w fd.0 e) e)) refl refl refl) h
next-bytes p w (call.TGetState fd) g a s h = on-open p w fd.0 _ (λ e b. still _ refl refl refl) h
next-bytes p w (call.TSync fd) g a s h = on-open p w fd.0 _ (λ e b. still _ refl refl refl) h
next-bytes p w (call.TGetInfo fd) g a s h = on-open p w fd.0 _ (λ e b. still _ refl refl refl) h
next-bytes p w (call.TGetProtAddr fd amax pmax) g a s h = on-open p w fd.0 _ (λ e b. still _ refl refl refl) h
next-bytes p w (call.TOptMgmt fd action opt omax) g a s h = on-open p w fd.0 (λ e. Show.option_plan_of fd.0 (Show.negotiated p action opt e) action opt omax e) (λ e b. own fd.0 (Show.with_settings (Show.negotiated p action opt e).settings) _ (λ y q. q) refl refl refl) h
next-bytes p w (call.SetMode fd nonblock) g a s h = on-open p w fd.0 _ (λ e b. own fd.0 (Show.in_mode nonblock) _ (λ y q. q) refl refl refl) h
