-- Sends of bytes leave few ends.
use Rattle.std.proofs.Common.{ℕ, Bool, true, false, List, [], ◌∷◌, ◌++◌, ◌+◌, ◌-◌, ◌≡◌, ◌<◌, ◌≤◌, refl, sym, ap, ◌∙◌, subst, eqb, cond, not, length, sum, map, take, drop, ◌&&◌, Option, Some, None, is_some, arith}
use Rattle.std.specs.Prelude.{option_and_then, option_map, nat_lt}
use Rattle.std.specs.List.{All, concat}
use Rattle.std.proofs.lemmas.Bool.{not-false, and_parts, eqb-true, eq-eqb, ne_eqb, ltb-true}
use Rattle.std.proofs.lemmas.List.Elements.{All-nil, All-cons, All-append, All-take, All-drop, All-head, All-tail}
use Rattle.xti_base.specs.declared.kinds.Prov.{Prov}
use Rattle.xti_base.specs.declared.kinds.Event.{Event}
use Rattle.xti_base.specs.declared.kinds.Event.TheVariants as event
use Rattle.xti_base.specs.declared.kinds.State.TheVariants.{T_UNBND, T_DATAXFER, T_OUTREL, T_INREL}
use Rattle.xti_model.specs.declared.call.Call.{Call}
use Rattle.xti_model.specs.declared.call.Call.TheVariants as call
use Rattle.xti_model.specs.declared.entry.Go.{Go}
use Rattle.xti_model.specs.declared.entry.Go.TheVariants as go
use Rattle.xti_model.specs.declared.profile.Providers.{Providers}
use Rattle.xti_model.specs.Provider.{profile, is_stream}
use Rattle.xti_model.specs.Endpoint.{Endpoint, Indication, Target, find_number, without_number, disconnected, is_target, address_of, opened}
use Rattle.xti_model.specs.World.{World, Change, at_endpoint, at_switch, changed, endpoint, the_switch}
use Rattle.xti_model.specs.Switch.{bound, chosen, give_address, give_up_address, opening_place}
use Rattle.xti_model.specs.Links.{names, if_names, if_back, linked, at_linked, take_back, taken_back, break, broken}
use Rattle.xti_model.specs.Symbols.{is_end, ends_waiting, bytes_waiting, front, ended, rest, piece}
use Rattle.xti_model.specs.Sending.{ready_for, has_ends}
use Rattle.xti_model.specs.Events.{is_state, some_wait, around}
use Rattle.xti_model.specs.Arguments.{is_expedited, has_more}
use Rattle.xti_model.specs.Plan.{Plan, if_open, first, later_plan, has_effect}
use Rattle.xti_model.specs.Step.{Step, plan, step, step_of, send}
use Rattle.xti_model.specs.History.{left_by}
use Rattle.xti_model.specs.Calls.Open as Open
use Rattle.xti_model.specs.Calls.Close as Close
use Rattle.xti_model.specs.Calls.Bind as Bind
use Rattle.xti_model.specs.Calls.Connect as Connect
use Rattle.xti_model.specs.Calls.Listen as Listen
use Rattle.xti_model.specs.Calls.Send as Send
use Rattle.xti_model.specs.Calls.Receive as Receive
use Rattle.xti_model.specs.Calls.Disconnect as Disconnect
use Rattle.xti_model.specs.Calls.Release as Release
use Rattle.xti_model.specs.Calls.Datagrams as Datagrams
use Rattle.xti_model.specs.Calls.Show as Show
use Rattle.xti_laws.proofs.ChangedEndpoints.{changed-append, endpoint-same, endpoint-other}
use Rattle.xti_laws.proofs.KeptEndpoints.{AllKeep, append-keep, keeps}
use Rattle.xti_laws.specs.Invariant.{Paired}
use Rattle.xti_model.specs.SentBytes.{AreBytes, SendsBytes}
use Rattle.xti_laws.specs.Symbols.{FewEnds, SoundSymbols}
use Rattle.xti_laws.proofs.PassedRows.{call-keeps, step-keeps}
use Rattle.xti_laws.proofs.ClearedRows.{cleared}
use Rattle.xti_laws.proofs.ShortLists.{counted-append, counted-drop}
use Rattle.xti_laws.proofs.AcrossCalls.{KeepsAt, choice}
use Rattle.xti_laws.proofs.SendCalls.{later-effect}

abbrev Few : Providers → Option Endpoint → Type 0
Few p None = Unit {0}
Few p (Some e) = FewEnds p e

abbrev AllFew : Providers → World → Type 0
AllFew p w = (z : ℕ) → Few p (endpoint p w z)

-- lists of changes that keep it everywhere
abbrev KeepFew : Providers → List Change → Type 0
KeepFew p cs = (z : ℕ) → AllKeep (Few p) z cs

kept-few : (p : Providers) (w : World) (cs : List Change) → KeepFew p cs → AllFew p w → AllFew p (changed p w cs)
kept-few p w cs k h z = keeps p (Few p) z cs (k z) w (h z)

record PlanFew (p : Providers) (x : Plan) : Type 0 where
  changes : KeepFew p x.changes
  marks : KeepFew p x.marks
  lost : KeepFew p x.lost

by-plan : (p : Providers) (w : World) (x : Plan) → PlanFew p x → AllFew p w → AllFew p (left_by w (step_of p w x))
by-plan p w x k h = step-keeps (AllFew p) p w x h (record { changes = λ g. kept-few p w x.changes k.changes h; lost = λ g. kept-few p w x.lost k.lost h; marks = λ g. kept-few p w x.marks k.marks h })

on-open : (p : Providers) (w : World) (fd : ℕ) (f : Endpoint → Plan) → ((e : Endpoint) → PlanFew p (f e)) → AllFew p w → AllFew p (left_by w (step_of p w (if_open fd (endpoint p w fd) f)))
on-open p w fd f k h = go (endpoint p w fd)
  where
    go : (o : Option Endpoint) → AllFew p (left_by w (step_of p w (if_open fd o f)))
    go None = by-plan p w (if_open fd None f) (record { changes = λ z. tt; marks = λ z. tt; lost = λ z. tt }) h
    go (Some e) = by-plan p w (f e) (k e) h

-- updates
abbrev Holds : Providers → (Endpoint → Endpoint) → Type 0
Holds p f = KeepsAt (Few p) f

same-few : (p : Providers) → (e e' : Endpoint) → e'.prov ≡ e.prov → e'.normal ≡ e.normal → e'.expedited ≡ e.expedited → FewEnds p e → FewEnds p e'
same-few p e e' v n x h = record { stream = λ t. subst (λ z. ends_waiting z ≡ 0) (sym n) (h.stream (ap (is_stream p) (sym v) ∙ t)); normal = subst (λ z. ends_waiting z ≤ 256) (sym n) h.normal; expedited = subst (λ z. ends_waiting z ≤ 16) (sym x) h.expedited; normal_symbols = subst (All (λ s. s ≤ 256)) (sym n) h.normal_symbols; expedited_symbols = subst (All (λ s. s ≤ 256)) (sym x) h.expedited_symbols }

none-few : (p : Providers) → (e : Endpoint) → e.normal ≡ [] → e.expedited ≡ [] → FewEnds p e
none-few p e n x = record { stream = λ t. subst (λ z. ends_waiting z ≡ 0) (sym n) refl; normal = subst (λ z. ends_waiting z ≤ 256) (sym n) (omega arith); expedited = subst (λ z. ends_waiting z ≤ 16) (sym x) (omega arith); normal_symbols = subst (All (λ s. s ≤ 256)) (sym n) (All-nil _); expedited_symbols = subst (All (λ s. s ≤ 256)) (sym x) (All-nil _) }

idle-few : (p : Providers) → Holds p Disconnect.idle
idle-few p e h = none-few p (Disconnect.idle e) refl refl

broken-few : (p : Providers) → (reason : ℕ) (udata : List ℕ) → Holds p (broken reason udata)
broken-few p reason udata e h = none-few p (broken reason udata e) refl refl

read-few : (p : Providers) (max : ℕ) → Holds p (Receive.received p max)
read-few p max e h = choice (Few p) (some_wait e.expedited) (record e { expedited = rest max e.expedited; mid_expedited = Receive.goes_on p true max e }) (record e { normal = rest max e.normal })
    (record { stream = h.stream; normal = h.normal; expedited = (let q : ends_waiting (rest max e.expedited) ≤ ends_waiting e.expedited = counted-drop is_end (length (front max e.expedited) + cond (ended max e.expedited) 1 0) e.expedited in let r = h.expedited in omega arith); normal_symbols = h.normal_symbols; expedited_symbols = All-drop (λ s. s ≤ 256) _ e.expedited h.expedited_symbols })
    (record { stream = λ t. (let q : ends_waiting (rest max e.normal) ≤ ends_waiting e.normal = counted-drop is_end (length (front max e.normal) + cond (ended max e.normal) 1 0) e.normal in let r = h.stream t in omega arith); normal = (let q : ends_waiting (rest max e.normal) ≤ ends_waiting e.normal = counted-drop is_end (length (front max e.normal) + cond (ended max e.normal) 1 0) e.normal in let r = h.normal in omega arith); expedited = h.expedited; normal_symbols = All-drop (λ s. s ≤ 256) _ e.normal h.normal_symbols; expedited_symbols = h.expedited_symbols })

one : (p : Providers) → (fd : ℕ) (f : Endpoint → Endpoint) → Holds p f → KeepFew p (at_endpoint fd f ∷ [])
one p fd f k z = ((λ j e q. k e q), tt)

own-few : (p : Providers) → (fd : ℕ) (f : Endpoint → Endpoint) (x : Plan) → Holds p f → x.changes ≡ at_endpoint fd f ∷ [] → x.lost ≡ at_endpoint fd f ∷ [] → x.marks ≡ [] → PlanFew p x
own-few p fd f x k a b m = record { changes = λ z. subst (AllKeep (Few p) z) (sym a) (one p fd f k z); marks = λ z. subst (AllKeep (Few p) z) (sym m) tt; lost = λ z. subst (AllKeep (Few p) z) (sym b) (one p fd f k z) }

twice : (p : Providers) → (cs : List Change) (x : Plan) → KeepFew p cs → x.changes ≡ cs → x.lost ≡ cs → x.marks ≡ [] → PlanFew p x
twice p cs x k a b m = record { changes = λ z. subst (AllKeep (Few p) z) (sym a) (k z); marks = λ z. subst (AllKeep (Few p) z) (sym m) tt; lost = λ z. subst (AllKeep (Few p) z) (sym b) (k z) }

still : (p : Providers) → (x : Plan) → x.changes ≡ [] → x.lost ≡ [] → x.marks ≡ [] → PlanFew p x
still p x a b m = twice p [] x (λ z. tt) a b m

linked-few : (p : Providers) → (fd : ℕ) (o : Option ℕ) (f : Endpoint → Endpoint) → Holds p f → KeepFew p (at_linked fd o f)
linked-few p fd None f k z = tt
linked-few p fd (Some y) f k z = ((λ j e q. choice (Few p) (names fd e.peer) (f e) e (k e q) q), tt)

taken-few : (p : Providers) → (n reason : ℕ) (udata : List ℕ) → Holds p (taken_back n reason udata)
taken-few p n reason udata e h = choice (Few p) (is_some (find_number n e.pending)) (record e { pending = without_number n e.pending }) (cond (is_some (find_number n e.outstanding)) (disconnected reason n udata e) e) (same-few p e _ refl refl refl h) (choice (Few p) (is_some (find_number n e.outstanding)) (disconnected reason n udata e) e (same-few p e _ refl refl refl h) h)

take-few : (p : Providers) → (t : Option Target) (reason : ℕ) (udata : List ℕ) → KeepFew p (take_back t reason udata)
take-few p None reason udata z = tt
take-few p (Some t) reason udata z = ((λ j e q. taken-few p t.number reason udata e q), tt)

both-few : (p : Providers) → (cs ds : List Change) → KeepFew p cs → KeepFew p ds → KeepFew p (cs ++ ds)
both-few p cs ds a b z = append-keep (Few p) z cs ds (a z) (b z)

break-few : (p : Providers) → (fd : ℕ) (e : Endpoint) (reason : ℕ) (udata : List ℕ) → KeepFew p (break fd e reason udata)
break-few p fd e reason udata = both-few p (at_linked fd e.peer (broken reason udata)) (take_back e.target reason udata) (linked-few p fd e.peer (broken reason udata) (broken-few p reason udata)) (take-few p e.target reason udata)

given-few : (p : Providers) → (fd n : ℕ) → Holds p (Close.given_up fd n)
given-few p fd n e h = choice (Few p) (is_target fd n e.target) (record (disconnected 5 0 [] e) { target = None }) e (same-few p e _ refl refl refl h) h

callers-few : (p : Providers) → (fd : ℕ) (is : List Indication) → KeepFew p (map (Close.give_up_caller fd) is)
callers-few p fd [] z = tt
callers-few p fd (i ∷ is) z = ((λ j e q. given-few p fd i.number e q), callers-few p fd is z)

close-few : (p : Providers) (fd : ℕ) (e : Endpoint) → KeepFew p (Close.changes p fd e)
close-few p fd e = both-few p (break fd e 5 [] ++ map (Close.give_up_caller fd) (e.pending ++ e.outstanding)) (Close.closing p fd) (both-few p (break fd e 5 []) (map (Close.give_up_caller fd) (e.pending ++ e.outstanding)) (break-few p fd e 5 []) (callers-few p fd (e.pending ++ e.outstanding))) (λ z. ((λ j. tt), (tt, tt)))

request-few : (p : Providers) → (fd : ℕ) (options udata : List ℕ) (e : Endpoint) (o : Option Connect.Found) → KeepFew p (Connect.request fd options udata e o)
request-few p fd options udata e None z = ((λ j y q. same-few p y _ refl refl refl q), tt)
request-few p fd options udata e (Some l) z = go (not (Connect.is_listening l.endpoint)) (Connect.is_full l.endpoint)
  where
    go : (x y : Bool) → AllKeep (Few p) z (cond x (at_endpoint fd (Connect.turned_away 1) ∷ []) (cond y (at_endpoint fd (Connect.turned_away 2) ∷ []) (at_endpoint l.fd (Connect.asked fd (address_of e) options udata) ∷ at_endpoint fd (Connect.asking l.fd (l.endpoint.last_number + 1)) ∷ [])))
    go true y = ((λ j y q. same-few p y _ refl refl refl q), tt)
    go false true = ((λ j y q. same-few p y _ refl refl refl q), tt)
    go false false = ((λ j y q. same-few p y _ refl refl refl q), ((λ j y q. same-few p y _ refl refl refl q), tt))

accept-few : (p : Providers) (fd resfd number : ℕ) (options udata : List ℕ) (e : Endpoint) (o : Option Endpoint) → PlanFew p (Listen.accept_with p fd resfd number options udata e o)
accept-few p fd resfd number options udata e None = still p _ refl refl refl
accept-few p fd resfd number options udata e (Some r) = twice p (Listen.accept_found fd resfd (find_number number e.outstanding) options udata e r) _ (go (find_number number e.outstanding)) refl refl refl
  where
    bind : (d : Bool) → KeepFew p (cond d (at_endpoint resfd (Listen.bound_like e) ∷ at_switch (give_address r.prov (address_of e) resfd false) ∷ []) [])
    bind true z = ((λ j y q. choice (Few p) (is_state (T_UNBND ∷ []) y) (record y { address = Some (address_of e); qlen = 0 }) y (same-few p y _ refl refl refl q) q), (tt, tt))
    bind false z = tt

    go : (i : Option Indication) → KeepFew p (Listen.accept_found fd resfd i options udata e r)
    go None z = tt
    go (Some i) z = ((λ j y q. same-few p y _ refl refl refl q), both-few p (Listen.bind_like e resfd r) (Listen.linking resfd i (address_of (Listen.bound_like e r)) options udata) (bind (is_state (T_UNBND ∷ []) r)) (λ z. ((λ j y q. same-few p y _ refl refl refl q), ((λ j y q. same-few p y _ refl refl refl q), tt))) z)

snddis-few : (p : Providers) → (fd number : ℕ) (udata : List ℕ) (e : Endpoint) → KeepFew p (Disconnect.send_changes fd number udata e)
snddis-few p fd number udata e = go (Disconnect.is_asked e) (find_number number e.outstanding)
  where
    go : (x : Bool) (o : Option Indication) → KeepFew p (cond x (Disconnect.reject fd udata o) (break fd e 4 udata ++ at_endpoint fd Disconnect.idle ∷ []))
    go true None z = tt
    go true (Some i) z = ((λ j y q. same-few p y _ refl refl refl q), ((λ j y q. same-few p y _ refl refl refl q), tt))
    go false o z = both-few p (break fd e 4 udata) (at_endpoint fd Disconnect.idle ∷ []) (break-few p fd e 4 udata) (one p fd Disconnect.idle (idle-few p)) z

cut-few : (p : Providers) → Holds p Disconnect.received
cut-few p e h = choice (Few p) (Disconnect.is_asked e) (record (Listen.taken_out (Disconnect.oldest e).number e) { disconnects = drop 1 e.disconnects }) (Disconnect.idle e) (same-few p e _ refl refl refl h) (idle-few p e h)

sent-few : (p : Providers) → Holds p Release.after_send
sent-few p e h = choice (Few p) (is_state (T_DATAXFER ∷ []) e) (record e { state = T_OUTREL }) (Disconnect.idle e) (same-few p e _ refl refl refl h) (idle-few p e h)

left-few : (p : Providers) → Holds p Release.after_receive
left-few p e h = choice (Few p) (is_state (T_DATAXFER ∷ []) e) (record e { release = None; state = T_INREL }) (Disconnect.idle e) (same-few p e _ refl refl refl h) (idle-few p e h)

-- A send of bytes.
bytes-no-ends : (bytes : List ℕ) → AreBytes bytes → ends_waiting bytes ≡ 0
bytes-no-ends [] a = refl
bytes-no-ends (b ∷ bytes) a =
    let k : ends_waiting bytes ≡ 0 = bytes-no-ends bytes (All-tail (λ z. z < 256) b bytes a) in
    let l : b < 256 = All-head (λ z. z < 256) b bytes a in
    let n : is_end b ≡ false = ne_eqb b 256 (λ e. omega (arith, e, l)) in
    let c : ends_waiting (b ∷ bytes) ≡ ends_waiting (b ∷ []) + ends_waiting bytes = counted-append is_end (b ∷ []) bytes in
    let d : ends_waiting (b ∷ []) ≡ 0 = ap (λ z. 0 + cond z 1 0) n in omega arith

piece-ends : (bytes : List ℕ) (closes : Bool) → AreBytes bytes → (ends_waiting (piece bytes closes) ≤ 1) × All (λ s. s ≤ 256) (piece bytes closes)
piece-ends bytes closes a = go closes
  where
    symbols : (xs : List ℕ) → AreBytes xs → All (λ s. s ≤ 256) xs
    symbols [] k = All-nil _
    symbols (x ∷ xs) k = All-cons (λ s. s ≤ 256) x xs (let l : x < 256 = All-head (λ z. z < 256) x xs k in omega arith) (symbols xs (All-tail (λ z. z < 256) x xs k))

    go : (b : Bool) → (ends_waiting (piece bytes b) ≤ 1) × All (λ s. s ≤ 256) (piece bytes b)
    go false = ((let k = bytes-no-ends bytes a in omega arith), symbols bytes a)
    go true = ((let k = bytes-no-ends bytes a in let c : ends_waiting (bytes ++ 256 ∷ []) ≡ ends_waiting bytes + 1 = counted-append is_end bytes (256 ∷ []) in omega arith), All-append (λ s. s ≤ 256) bytes (256 ∷ []) (symbols bytes a) (All-cons (λ s. s ≤ 256) 256 [] (omega arith) (All-nil _)))

one-all : (p : Providers) (w : World) (z : ℕ) (f : Endpoint → Endpoint) → AllFew p w → ((y : Endpoint) → endpoint p w z ≡ Some y → FewEnds p (f y)) → AllFew p (changed p w (at_endpoint z f ∷ []))
one-all p w z f h k x = go (eqb x z) refl
  where
    mapped : (o : Option Endpoint) → endpoint p w z ≡ o → Few p (option_map f o)
    mapped None i = tt
    mapped (Some y) i = k y i

    go : (b : Bool) → eqb x z ≡ b → Few p (endpoint p (changed p w (at_endpoint z f ∷ [])) x)
    go true j = subst (λ n. Few p (endpoint p (changed p w (at_endpoint z f ∷ [])) n)) (sym (eqb-true x z j)) (subst (Few p) (sym (endpoint-same p z f w)) (mapped (endpoint p w z) refl))
    go false j = subst (Few p) (sym (endpoint-other p z x j f w)) (h x)

received-few : (p : Providers) → (b : Bool) (symbols : List ℕ) (e y : Endpoint) → ready_for b e (Some y) ≡ true → (ends_waiting symbols ≤ 1) × All (λ s. s ≤ 256) symbols → (b ≡ false → is_stream p y.prov ≡ true → ends_waiting symbols ≡ 0) → FewEnds p y → FewEnds p (Send.received b symbols y)
received-few p true symbols e y r a x h = record {
  stream = h.stream;
  normal = h.normal;
  expedited = (let k = ltb-true (ends_waiting y.expedited) 16 (and_parts (nat_lt (bytes_waiting y.expedited) 256) (nat_lt (ends_waiting y.expedited) 16) r).1 in let c : ends_waiting (y.expedited ++ symbols) ≡ ends_waiting y.expedited + ends_waiting symbols = counted-append is_end y.expedited symbols in let d = a.0 in omega arith);
  normal_symbols = h.normal_symbols;
  expedited_symbols = All-append (λ s. s ≤ 256) y.expedited symbols h.expedited_symbols a.1;
}
received-few p false symbols e y r a x h = record {
  stream = λ t. (let c : ends_waiting (y.normal ++ symbols) ≡ ends_waiting y.normal + ends_waiting symbols = counted-append is_end y.normal symbols in let d = x refl t in let q = h.stream t in omega arith);
  normal = (let k = ltb-true (ends_waiting y.normal) 256 (and_parts (nat_lt (bytes_waiting y.normal) (e.sndbuf + y.rcvbuf)) (nat_lt (ends_waiting y.normal) 256) r).1 in let c : ends_waiting (y.normal ++ symbols) ≡ ends_waiting y.normal + ends_waiting symbols = counted-append is_end y.normal symbols in let d = a.0 in omega arith);
  expedited = h.expedited;
  normal_symbols = All-append (λ s. s ≤ 256) y.normal symbols h.normal_symbols a.1;
  expedited_symbols = h.expedited_symbols;
}

flow-few : (p : Providers) → (b on : Bool) → Holds p (Send.mark_flow b on)
flow-few p true on e h = same-few p e _ refl refl refl h
flow-few p false on e h = same-few p e _ refl refl refl h

count-few : (p : Providers) (b ends : Bool) (now : ℕ) → Holds p (Send.sent p b ends now)
count-few p true ends now e h = same-few p e _ refl refl refl h
count-few p false ends now e h = same-few p e _ refl refl refl h

module _ (p : Providers) (w : World) (h : AllFew p w) (pairs : Paired p w) (fd : ℕ) where
  linked-is : (e y : Endpoint) (z : ℕ) → e.peer ≡ Some z → endpoint p w z ≡ Some y → y.peer ≡ Some fd → linked p w fd e ≡ Some y
  linked-is e y z i j k =
      ap (option_and_then (λ peer. option_and_then (λ other. if_back fd other) (endpoint p w peer))) i ∙
      (ap (option_and_then (λ other. if_back fd other)) j ∙ (ap (λ o. cond (names fd o) (Some y) None) k ∙ ap (λ b. cond b (Some y) None) (eq-eqb fd fd refl)))

  few-at : (z : ℕ) (y : Endpoint) → endpoint p w z ≡ Some y → FewEnds p y
  few-at z y i = subst (Few p) i (h z)

  named-few : (f : Endpoint → Endpoint) (y : Endpoint) → FewEnds p y → (y.peer ≡ Some fd → FewEnds p (f y)) → FewEnds p (if_names fd f y)
  named-few f y q k = go y.peer refl
    where
      go : (o : Option ℕ) → y.peer ≡ o → FewEnds p (cond (names fd o) (f y) y)
      go None i = q
      go (Some x) i = by (eqb x fd) refl
        where
          by : (b : Bool) → eqb x fd ≡ b → FewEnds p (cond b (f y) y)
          by true j = k (i ∙ ap Some (eqb-true x fd j))
          by false j = q

  sends-few : (e : Endpoint) → endpoint p w fd ≡ Some e → (bytes : List ℕ) (flags taken now : ℕ) → AreBytes bytes → ready_for (is_expedited flags) e (linked p w fd e) ≡ true → AllFew p (changed p w (Send.changes p fd bytes flags taken now e))
  sends-few e i bytes flags taken now a r =
      subst (λ y. AllFew p y) (sym (changed-append p w (at_linked fd e.peer (Send.received (is_expedited flags) symbols)) (at_endpoint fd (Send.sent p (is_expedited flags) ends now) ∷ [])))
      (kept-few p (changed p w (at_linked fd e.peer (Send.received (is_expedited flags) symbols))) (at_endpoint fd (Send.sent p (is_expedited flags) ends now) ∷ []) (one p fd (Send.sent p (is_expedited flags) ends now) (count-few p (is_expedited flags) ends now)) (first e.peer refl))
    where
      ends : Bool
      ends = Send.closes p e flags (length bytes - taken) now

      symbols : List ℕ
      symbols = piece (take now (drop taken bytes)) ends

      few : (ends_waiting symbols ≤ 1) × All (λ s. s ≤ 256) symbols
      few = piece-ends (take now (drop taken bytes)) ends (All-take (λ z. z < 256) now (drop taken bytes) (All-drop (λ z. z < 256) taken bytes a))

      -- in a stream no end is sent
      none : is_expedited flags ≡ false → is_stream p e.prov ≡ true → ends_waiting symbols ≡ 0
      none x t = subst (λ z. ends_waiting (piece (take now (drop taken bytes)) z) ≡ 0) (sym (open_still (eqb now (length bytes - taken)) (not (has_more flags)))) (bytes-no-ends (take now (drop taken bytes)) (All-take (λ z. z < 256) now (drop taken bytes) (All-drop (λ z. z < 256) taken bytes a)))
        where
          open_still : (c d : Bool) → (c && d && has_ends p e (is_expedited flags)) ≡ false
          open_still false d = refl
          open_still true false = refl
          open_still true true = ap (λ v. cond v true (not (is_stream p e.prov))) x ∙ ap not t

      first : (o : Option ℕ) → e.peer ≡ o → AllFew p (changed p w (at_linked fd o (Send.received (is_expedited flags) symbols)))
      first None k = h
      first (Some z) k = one-all p w z (if_names fd (Send.received (is_expedited flags) symbols)) h (λ y j. named-few (Send.received (is_expedited flags) symbols) y (few-at z y j) (λ b. received-few p (is_expedited flags) symbols e y (subst (λ x. ready_for (is_expedited flags) e x ≡ true) (linked-is e y z k j b) r) few (λ x t. none x (ap (is_stream p) (pairs fd z e y i j k b).0 ∙ t)) (few-at z y j)))

  took : (number : ℕ) (bytes : List ℕ) (flags taken : ℕ) (e : Endpoint) → endpoint p w fd ≡ Some e → AreBytes bytes → has_effect (first (Send.rows p number bytes flags taken (linked p w fd e) e)) ≡ true
      → AllFew p (changed p w (Send.changes p fd bytes flags taken (Send.taken_now (linked p w fd e) e (is_expedited flags) (length bytes - taken)) e))
  took number bytes flags taken e i a g =
      let c = cleared (Send.rows p number bytes flags taken (linked p w fd e) e) g in
      sends-few e i bytes flags taken (Send.taken_now (linked p w fd e) e (is_expedited flags) (length bytes - taken)) a (not-false (ready_for (is_expedited flags) e (linked p w fd e)) c.1.1.1.1.1.1.0)

  send-few : (number : ℕ) (bytes : List ℕ) (flags : ℕ) (g : Go) → AreBytes bytes → AllFew p (left_by w (step_of p w (send p w fd number bytes flags g)))
  send-few number bytes flags go.Begin a = call-keeps (AllFew p) p w fd (λ e. Send.plan_to p fd number bytes flags 0 e (linked p w fd e)) h (λ e i. record {
    changes = λ k. took number bytes flags 0 e i a k;
    lost = λ k. took number bytes flags 0 e i a k;
    marks = λ k. kept-few p w (at_endpoint fd (Send.mark_flow (is_expedited flags) true) ∷ []) (one p fd (Send.mark_flow (is_expedited flags) true) (flow-few p (is_expedited flags) true)) h;
  })
  send-few number bytes flags (go.More n) a = by (endpoint p w fd) refl
    where
      by : (o : Option Endpoint) → endpoint p w fd ≡ o → AllFew p (left_by w (step_of p w (later_plan n (if_open fd o (λ e. Send.plan_to p fd number bytes flags n e (linked p w fd e))))))
      by None i = step-keeps (AllFew p) p w (later_plan n (if_open fd None (λ e. Send.plan_to p fd number bytes flags n e (linked p w fd e)))) h (record { changes = λ k. h; lost = λ k. h; marks = λ k. h })
      by (Some e) i = step-keeps (AllFew p) p w (later_plan n (Send.plan_to p fd number bytes flags n e (linked p w fd e))) h (record {
        changes = λ k. took number bytes flags n e i a (sym (later-effect n (Send.rows p number bytes flags n (linked p w fd e) e)) ∙ k);
        lost = λ k. took number bytes flags n e i a (sym (later-effect n (Send.rows p number bytes flags n (linked p w fd e) e)) ∙ k);
        marks = λ k. h;
      })

deliver-few : (p : Providers) → (fd : ℕ) (address options : List ℕ) (bytes : List ℕ) (o : Option ℕ) (e : Endpoint) → KeepFew p (Datagrams.send_changes fd address options bytes o e)
deliver-few p fd address options bytes None e z = ((λ j y q. same-few p y _ refl refl refl q), tt)
deliver-few p fd address options bytes (Some to) e z = ((λ j y q. same-few p y _ refl refl refl q), ((λ j y q. same-few p y _ refl refl refl q), tt))

sndudata-few : (p : Providers) (fd : ℕ) (address options : List ℕ) (number : ℕ) (bytes : List ℕ) (e : Endpoint) (o : Option ℕ) (there : Option Endpoint) → PlanFew p (Datagrams.send_to p fd address options number bytes e o there)
sndudata-few p fd address options number bytes e o there = record { changes = deliver-few p fd address options bytes o e; marks = λ z. ((λ j y q. same-few p y _ refl refl refl q), tt); lost = deliver-few p fd address options bytes o e }

got-few : (p : Providers) → (max : ℕ) → Holds p (Datagrams.received max)
got-few p max e h = choice (Few p) (Datagrams.has_rest max (Datagrams.first_of e)) (record e { datagrams = Datagrams.shortened max (Datagrams.first_of e) ∷ drop 1 e.datagrams; begun = true }) (Datagrams.dropped e) (same-few p e _ refl refl refl h) (same-few p e _ refl refl refl h)

shown-few : (p : Providers) → (o : Option Event) → Holds p (Show.shown o)
shown-few p None e h = h
shown-few p (Some event.T_GODATA) e h = same-few p e _ refl refl refl h
shown-few p (Some event.T_GOEXDATA) e h = same-few p e _ refl refl refl h
shown-few p (Some other) e h = h

open-few : (p : Providers) (s : _) (prov : Prov) (nonblock : Bool) (o : Option ℕ) → PlanFew p (Open.plan_where p s prov nonblock o)
open-few p s prov nonblock None = still p _ refl refl refl
open-few p s prov nonblock (Some n) = record { changes = λ z. ((λ q. none-few p (opened (profile p prov) prov nonblock) refl refl), (tt, tt)); marks = λ z. tt; lost = λ z. tt }

like-it : (p : Providers) → (f : Endpoint → Endpoint) → ((e : Endpoint) → ((f e).prov ≡ e.prov) × ((f e).normal ≡ e.normal) × ((f e).expedited ≡ e.expedited)) → Holds p f
like-it p f k e h = same-few p e (f e) (k e).0 (k e).1 (k e).2 h

sndrel-few : (p : Providers) (w : World) → AllFew p w → (fd : ℕ) (udata : List ℕ) → AllFew p (left_by w (step_of p w (Release.send_plan p w fd udata)))
sndrel-few p w h fd udata = on-open p w fd _ (λ e. twice p (at_linked fd e.peer (Release.released udata) ++ at_endpoint fd Release.after_send ∷ []) _ (both-few p (at_linked fd e.peer (Release.released udata)) (at_endpoint fd Release.after_send ∷ []) (linked-few p fd e.peer (Release.released udata) (like-it p (Release.released udata) (λ y. (refl, refl, refl)))) (one p fd Release.after_send (sent-few p))) refl refl refl) h

next-few : (p : Providers) (w : World) (c : Call) (g : Go) → SendsBytes c → Paired p w → AllFew p w → AllFew p (left_by w (step p w c g))
unfolding step plan
next-few p w (call.TOpen prov nonblock) g a b h = by-plan p w (Open.plan_where p (the_switch p w) prov nonblock (opening_place p (the_switch p w) prov)) (open-few p (the_switch p w) prov nonblock (opening_place p (the_switch p w) prov)) h
next-few p w (call.TClose fd) g a b h = on-open p w fd.0 _ (λ e. twice p (Close.changes p fd.0 e) _ (close-few p fd.0 e) refl refl refl) h
next-few p w (call.TBind fd addr qlen amax) g a b h = on-open p w fd.0 (Bind.plan_in (the_switch p w) fd.0 addr qlen amax) (λ e. twice p (Bind.changes fd.0 e.prov (chosen (the_switch p w) e.prov addr) (Bind.queue e.prov qlen)) _ (λ z. ((λ j y q. same-few p y _ refl refl refl q), (tt, tt))) refl refl refl) h
next-few p w (call.TUnbind fd) g a b h = on-open p w fd.0 _ (λ e. twice p (at_endpoint fd.0 Bind.unbound ∷ at_switch (give_up_address fd.0) ∷ []) _ (λ z. ((λ j y q. same-few p y _ refl refl refl q), (tt, tt))) refl refl refl) h
next-few p w (call.TConnect fd addr opt udata amax omax umax) go.Begin a b h = on-open p w fd.0 (λ e. Connect.plan_to fd.0 addr opt udata e (Connect.found p w fd.0 addr e)) (λ e. twice p (Connect.request fd.0 opt udata e (Connect.found p w fd.0 addr e)) _ (request-few p fd.0 opt udata e (Connect.found p w fd.0 addr e)) refl refl refl) h
next-few p w (call.TConnect fd addr opt udata amax omax umax) (go.More n) a b h = on-open p w fd.0 _ (λ e. own-few p fd.0 Connect.confirmed _ (like-it p Connect.confirmed (λ y. (refl, refl, refl))) refl refl refl) h
next-few p w (call.TRcvConnect fd amax omax umax) g a b h = on-open p w fd.0 _ (λ e. own-few p fd.0 Connect.confirmed _ (like-it p Connect.confirmed (λ y. (refl, refl, refl))) refl refl refl) h
next-few p w (call.TListen fd amax omax umax) g a b h = on-open p w fd.0 _ (λ e. own-few p fd.0 Listen.listened _ (like-it p Listen.listened (λ y. (refl, refl, refl))) refl refl refl) h
next-few p w (call.TAccept fd resfd seq opt udata) g a b h = on-open p w fd.0 (λ e. Listen.accept_with p fd.0 resfd.0 seq.0 opt udata e (endpoint p w resfd.0)) (λ e. accept-few p fd.0 resfd.0 seq.0 opt udata e (endpoint p w resfd.0)) h
next-few p w (call.TSnd fd bytes flags) g a b h = send-few p w h b fd.0 1 bytes flags g a
next-few p w (call.TSndV fd parts flags) g a b h = send-few p w h b fd.0 (length parts) (concat parts) flags g a
next-few p w (call.TRcv fd max) g a b h = on-open p w fd.0 _ (λ e. own-few p fd.0 (Receive.received p max) _ (read-few p max) refl refl refl) h
next-few p w (call.TRcvV fd sizes) g a b h = on-open p w fd.0 _ (λ e. own-few p fd.0 (Receive.received p (sum sizes)) _ (read-few p (sum sizes)) refl refl refl) h
next-few p w (call.TSndDis fd seq udata) g a b h = on-open p w fd.0 _ (λ e. twice p (Disconnect.send_changes fd.0 seq.0 udata e) _ (snddis-few p fd.0 seq.0 udata e) refl refl refl) h
next-few p w (call.TRcvDis fd umax) g a b h = on-open p w fd.0 _ (λ e. own-few p fd.0 Disconnect.received _ (cut-few p) refl refl refl) h
next-few p w (call.TSndRel fd) g a b h = sndrel-few p w h fd.0 []
next-few p w (call.TRcvRel fd) g a b h = on-open p w fd.0 _ (λ e. own-few p fd.0 Release.after_receive _ (left-few p) refl refl refl) h
next-few p w (call.TSndRelData fd udata) g a b h = sndrel-few p w h fd.0 udata
next-few p w (call.TRcvRelData fd umax) g a b h = on-open p w fd.0 _ (λ e. own-few p fd.0 Release.after_receive _ (left-few p) refl refl refl) h
next-few p w (call.TSndUData fd addr opt bytes) g a b h = on-open p w fd.0 (λ e. Datagrams.send_from p w fd.0 addr opt 1 bytes e (bound (the_switch p w) e.prov addr)) (λ e. sndudata-few p fd.0 addr opt 1 bytes e (bound (the_switch p w) e.prov addr) (option_and_then (endpoint p w) (bound (the_switch p w) e.prov addr))) h
next-few p w (call.TSndVUData fd addr opt parts) g a b h = on-open p w fd.0 (λ e. Datagrams.send_from p w fd.0 addr opt (length parts) (concat parts) e (bound (the_switch p w) e.prov addr)) (λ e. sndudata-few p fd.0 addr opt (length parts) (concat parts) e (bound (the_switch p w) e.prov addr) (option_and_then (endpoint p w) (bound (the_switch p w) e.prov addr))) h
next-few p w (call.TRcvUData fd max amax omax) g a b h = on-open p w fd.0 (Datagrams.receive_from fd.0 1 max amax omax) (λ e. record { changes = one p fd.0 (Datagrams.received max) (got-few p max); marks = λ z. tt; lost = one p fd.0 Datagrams.dropped (like-it p Datagrams.dropped (λ y. (refl, refl, refl))) }) h
next-few p w (call.TRcvVUData fd sizes amax omax) g a b h = on-open p w fd.0 (Datagrams.receive_from fd.0 (length sizes) (sum sizes) amax omax) (λ e. record { changes = one p fd.0 (Datagrams.received (sum sizes)) (got-few p (sum sizes)); marks = λ z. tt; lost = one p fd.0 Datagrams.dropped (like-it p Datagrams.dropped (λ y. (refl, refl, refl))) }) h
next-few p w (call.TRcvUDErr fd amax omax) g a b h = on-open p w fd.0 _ (λ e. own-few p fd.0 Datagrams.without_error _ (like-it p Datagrams.without_error (λ y. (refl, refl, refl))) refl refl refl) h
next-few p w (call.TLookAt fd) g a b h = on-open p w fd.0 (λ e. Show.look_in fd.0 e (around p w fd.0 e)) (λ e. own-few p fd.0 (Show.shown (Show.first_pending (around p w fd.0 e) e)) _ (shown-few p (Show.first_pending (around p w fd.0 e) e)) refl refl refl) h
next-few p w (call.TGetState fd) g a b h = on-open p w fd.0 _ (λ e. still p _ refl refl refl) h
next-few p w (call.TSync fd) g a b h = on-open p w fd.0 _ (λ e. still p _ refl refl refl) h
next-few p w (call.TGetInfo fd) g a b h = on-open p w fd.0 _ (λ e. still p _ refl refl refl) h
next-few p w (call.TGetProtAddr fd amax pmax) g a b h = on-open p w fd.0 _ (λ e. still p _ refl refl refl) h
next-few p w (call.TOptMgmt fd action opt omax) g a b h = on-open p w fd.0 (λ e. Show.option_plan_of fd.0 (Show.negotiated p action opt e) action opt omax e) (λ e. own-few p fd.0 (Show.with_settings (Show.negotiated p action opt e).settings) _ (like-it p (Show.with_settings (Show.negotiated p action opt e).settings) (λ y. (refl, refl, refl))) refl refl refl) h
next-few p w (call.SetMode fd nonblock) g a b h = on-open p w fd.0 _ (λ e. own-few p fd.0 (Show.in_mode nonblock) _ (like-it p (Show.in_mode nonblock) (λ y. (refl, refl, refl))) refl refl refl) h

all-few : (p : Providers) (w : World) → SoundSymbols p w → AllFew p w
all-few p w h z = go (endpoint p w z) refl
  where
    go : (o : Option Endpoint) → endpoint p w z ≡ o → Few p o
    go None i = tt
    go (Some e) i = h z e i

pub step-symbols : (p : Providers) (w : World) (c : Call) (g : Go) (s : Step) → SendsBytes c → Paired p w → SoundSymbols p w → step p w c g ≡ Some s → SoundSymbols p s.world
step-symbols p w c g s a b h i z e o = subst (Few p) o (subst (λ x. AllFew p (left_by w x)) i (next-few p w c g a b (all-few p w h)) z)
