-- What each update does to the state and to the count of outstanding indications: most keep both.
use Rattle.std.proofs.Common.{ℕ, Bool, true, false, List, [], ◌∷◌, ◌≡◌, ◌-◌, ◌<◌, refl, ap, cond, length, Option, Some, None, eqb, drop, arith}
use Rattle.std.proofs.lemmas.Bool.{false≢true, eq-eqb}
use Rattle.std.specs.Prelude.{is_some}
use Rattle.std.specs.List.{list_any}
use Rattle.xti_base.specs.Kinds.{same_state}
use Rattle.xti_base.specs.declared.kinds.State.{State}
use Rattle.xti_base.specs.declared.kinds.State.TheVariants.{T_UNBND, T_IDLE, T_INCON, T_DATAXFER, T_OUTREL, T_INREL}
use Rattle.xti_base.specs.declared.kinds.Event.{Event}
use Rattle.xti_base.specs.declared.kinds.Event.TheVariants.{T_GODATA, T_GOEXDATA}
use Rattle.xti_model.specs.declared.profile.Providers.{Providers}
use Rattle.xti_model.specs.Endpoint.{Endpoint, Indication, has_number, address_of, ocnt, find_number, without_number, disconnected, is_target}
use Rattle.xti_model.specs.Events.{is_state, some_wait}
use Rattle.xti_model.specs.Links.{names, if_names, taken_back}
use Rattle.xti_model.specs.Symbols.{rest}
use Rattle.xti_model.specs.Calls.Close as Close
use Rattle.xti_model.specs.Calls.Listen as Listen
use Rattle.xti_model.specs.Calls.Send as Send
use Rattle.xti_model.specs.Calls.Receive as Receive
use Rattle.xti_model.specs.Calls.Disconnect as Disconnect
use Rattle.xti_model.specs.Calls.Release as Release
use Rattle.xti_model.specs.Calls.Datagrams as Datagrams
use Rattle.xti_model.specs.Calls.Show as Show

-- where an endpoint stands in the state table
pub record Standing : Type 0 where
  pub state : State
  pub count : ℕ

abbrev pub stands : State → ℕ → Standing
stands s n = record { state = s; count = n }

abbrev pub standing : Endpoint → Standing
standing e = stands e.state (ocnt e)

-- the update keeps both
abbrev pub Steady : (Endpoint → Endpoint) → Type 0
Steady f = (e : Endpoint) → standing (f e) ≡ standing e

-- the standing after the update is settled by that before
abbrev pub Sets : (Standing → Standing) → (Endpoint → Endpoint) → Type 0
Sets g f = (e : Endpoint) → standing (f e) ≡ g (standing e)

abbrev pub moved : (State → State) → Standing → Standing
moved g v = stands (g v.state) v.count

pub choice : (b : Bool) (x y : Endpoint) (s : Standing) → standing x ≡ s → standing y ≡ s → standing (cond b x y) ≡ s
choice true x y s h k = h
choice false x y s h k = k

pub names-steady : (fd : ℕ) (f : Endpoint → Endpoint) → Steady f → Steady (if_names fd f)
names-steady fd f h e = choice (names fd e.peer) (f e) e (standing e) (h e) refl

pub mark_flow-steady : (expedited on : Bool) → Steady (Send.mark_flow expedited on)
mark_flow-steady true on e = refl
mark_flow-steady false on e = refl

pub sent-steady : (p : Providers) (expedited ends : Bool) (now : ℕ) → Steady (Send.sent p expedited ends now)
sent-steady p true ends now e = refl
sent-steady p false ends now e = refl

pub symbols-steady : (expedited : Bool) (symbols : List ℕ) → Steady (Send.received expedited symbols)
symbols-steady true symbols e = refl
symbols-steady false symbols e = refl

pub received-steady : (p : Providers) (max : ℕ) → Steady (Receive.received p max)
received-steady p max e = choice (some_wait e.expedited) (record e { expedited = rest max e.expedited; mid_expedited = Receive.goes_on p true max e }) (record e { normal = rest max e.normal }) (standing e) refl refl

pub taken_back-steady : (number reason : ℕ) (udata : List ℕ) → Steady (taken_back number reason udata)
taken_back-steady number reason udata e = choice (is_some (find_number number e.pending)) (record e { pending = without_number number e.pending }) (cond (is_some (find_number number e.outstanding)) (disconnected reason number udata e) e) (standing e) refl
    (choice (is_some (find_number number e.outstanding)) (disconnected reason number udata e) e (standing e) refl refl)

pub given_up-steady : (fd number : ℕ) → Steady (Close.given_up fd number)
given_up-steady fd number e = choice (is_target fd number e.target) (record (disconnected 5 0 [] e) { target = None }) e (standing e) refl refl

pub bound_like-steady : (listener : Endpoint) → Steady (Listen.bound_like listener)
bound_like-steady listener e = choice (is_state (T_UNBND ∷ []) e) (record e { address = Some (address_of listener); qlen = 0 }) e (standing e) refl refl

pub datagram-steady : (max : ℕ) → Steady (Datagrams.received max)
datagram-steady max e = choice (Datagrams.has_rest max (Datagrams.first_of e)) (record e { datagrams = Datagrams.shortened max (Datagrams.first_of e) ∷ drop 1 e.datagrams; begun = true }) (Datagrams.dropped e) (standing e) refl refl

pub shown-steady : (o : Option Event) → Steady (Show.shown o)
shown-steady None e = refl
shown-steady (Some T_GODATA) e = refl
shown-steady (Some T_GOEXDATA) e = refl
shown-steady (Some other) e = refl

abbrev pub after_sndrel : State → State
after_sndrel s = cond (list_any (same_state s) (T_DATAXFER ∷ [])) T_OUTREL T_IDLE

pub send_release-sets : Sets (moved after_sndrel) Release.after_send
send_release-sets e = go (is_state (T_DATAXFER ∷ []) e)
  where
    go : (b : Bool) → standing (cond b (record e { state = T_OUTREL }) (Disconnect.idle e)) ≡ stands (cond b T_OUTREL T_IDLE) (ocnt e)
    go true = refl
    go false = refl

abbrev pub after_rcvrel : State → State
after_rcvrel s = cond (list_any (same_state s) (T_DATAXFER ∷ [])) T_INREL T_IDLE

pub receive_release-sets : Sets (moved after_rcvrel) Release.after_receive
receive_release-sets e = go (is_state (T_DATAXFER ∷ []) e)
  where
    go : (b : Bool) → standing (cond b (record e { release = None; state = T_INREL }) (Disconnect.idle e)) ≡ stands (cond b T_INREL T_IDLE) (ocnt e)
    go true = refl
    go false = refl

-- a listener whose last indication is taken is idle
abbrev pub after_last : ℕ → State → State
after_last count s = cond (eqb count 1) T_IDLE s

-- a listener loses an indication; any other endpoint is idle
abbrev pub after_rcvdis : ℕ → State → State
after_rcvdis count s = cond (list_any (same_state s) (T_INCON ∷ [])) (after_last count s) T_IDLE

pub disconnect-state : (e : Endpoint) → (Disconnect.received e).state ≡ after_rcvdis (ocnt e) e.state
disconnect-state e = go (Disconnect.is_asked e)
  where
    go : (b : Bool) → (cond b (record (Listen.taken_out (Disconnect.oldest e).number e) { disconnects = drop 1 e.disconnects }) (Disconnect.idle e)).state ≡ cond b (after_last (ocnt e) e.state) T_IDLE
    go true = refl
    go false = refl

some-is : (a b : Indication) → Some a ≡ Some b → a ≡ b
some-is a b h = cc

-- a number that is found is of an indication
pub found-some : (number : ℕ) (is : List Indication) → is_some (find_number number is) ≡ true → 0 < length is
found-some number [] h = absurd (false≢true h)
found-some number (j ∷ is) h = omega arith

-- an indication that is found has a number by which it is found
pub found-again : (number : ℕ) (i : Indication) (is : List Indication) → find_number number is ≡ Some i → is_some (find_number i.number is) ≡ true
found-again number i [] h = absurd (false≢true (ap is_some h))
found-again number i (j ∷ is) h = go (has_number number j) refl h (found-again number i is)
  where
    here : j ≡ i → is_some (find_number i.number (j ∷ is)) ≡ true
    here e = ap (λ b. is_some (cond b (Some j) (find_number i.number is))) (eq-eqb j.number i.number (ap (λ z. z.number) e))

    later : (b : Bool) → is_some (find_number i.number is) ≡ true → is_some (cond b (Some j) (find_number i.number is)) ≡ true
    later true k = refl
    later false k = k

    go : (b : Bool) → has_number number j ≡ b → cond b (Some j) (find_number number is) ≡ Some i → (find_number number is ≡ Some i → is_some (find_number i.number is) ≡ true) → is_some (find_number i.number (j ∷ is)) ≡ true
    go true e k l = here (some-is j i k)
    go false e k l = later (has_number i.number j) (l k)

-- one less is outstanding where the number is found
pub length-without : (number : ℕ) (is : List Indication) → is_some (find_number number is) ≡ true → length (without_number number is) ≡ length is - 1
length-without number [] h = absurd (false≢true h)
length-without number (i ∷ is) h = go (has_number number i) h (length-without number is)
  where
    go : (b : Bool) → is_some (cond b (Some i) (find_number number is)) ≡ true → (is_some (find_number number is) ≡ true → length (without_number number is) ≡ length is - 1) → length (cond b is (i ∷ without_number number is)) ≡ length (i ∷ is) - 1
    go true j k = omega arith
    go false j k = let e = k j in let l = found-some number is j in omega (arith, e, l)

abbrev pub count_rcvdis : ℕ → State → ℕ
count_rcvdis count s = cond (list_any (same_state s) (T_INCON ∷ [])) (count - 1) count

pub disconnect-count : (e : Endpoint) → (Disconnect.is_asked e ≡ true → is_some (find_number (Disconnect.oldest e).number e.outstanding) ≡ true) → ocnt (Disconnect.received e) ≡ count_rcvdis (ocnt e) e.state
disconnect-count e h = go (Disconnect.is_asked e) h
  where
    go : (b : Bool) → (b ≡ true → is_some (find_number (Disconnect.oldest e).number e.outstanding) ≡ true)
        → ocnt (cond b (record (Listen.taken_out (Disconnect.oldest e).number e) { disconnects = drop 1 e.disconnects }) (Disconnect.idle e)) ≡ cond b (ocnt e - 1) (ocnt e)
    go true k = length-without (Disconnect.oldest e).number e.outstanding (k refl)
    go false k = refl
