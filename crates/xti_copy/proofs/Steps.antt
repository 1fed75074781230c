-- The socket calls of a copy, with the rider and the sockets after them.
use Rattle.std.proofs.Common.{◌≡◌, ℕ, Bool, true, false, List, [], ◌∷◌, ◌++◌, length, take, drop, Result, Ok, Err, ◌⊎◌, inl, inr, sym, ◌∙◌, subst, append_assoc}
use Rattle.std.specs.Prelude.{MatchResult, IfErr}
use Rattle.xti_base.specs.declared.kinds.Event.TheVariants.{T_ORDREL}
use Rattle.xti_base.specs.declared.kinds.Fd.{Fd}
use Rattle.xti_base.specs.declared.kinds.Prov.TheVariants.{Ticotsord}
use Rattle.xti_base.specs.declared.kinds.State.{State}
use Rattle.xti_model.specs.declared.call.Call.TheVariants as call
use Rattle.xti_model.specs.declared.entry.Entry.{Entry}
use Rattle.xti_model.specs.declared.entry.Reply.TheVariants as reply
use Rattle.xti_laws_streams.specs.Copying.{answered, service, listener, client}
use Rattle.xti_copy.specs.Rides.{Ride, sight_of}
use Rattle.xti_sock.specs.declared.fail.SockFail.{SockFail}
use Rattle.xti_sock.specs.declared.fail.SockFail.TheVariants.{Again, Ended, OutOfMemory, Reset, WouldBlock, WrongPhase, Xti}
use Rattle.xti_sock.specs.declared.phase.Phase.TheVariants.{Open, Dead}
use Rattle.xti_sock.specs.declared.sock.Sock.{Sock}
use Rattle.xti_sock.specs.Accepting.{accept}
use Rattle.xti_sock.specs.Rows.{OpensOne, new_sock, bind, listen, connect, finish, send, recv, shutdown, is_dead, close}
use Rattle.xti_sock.specs.Scripts.{Runs, Makes, done, made, received, counted}
use Rattle.xti_sock.specs.Socks.{in_phase}
use Rattle.xti_copy.specs.declared.connecting.Ends.{Ends}
use Rattle.xti_copy.specs.Ends.{accepting, asking, listening_sock, asking_sock, client_sock, receiver_sock}
use Rattle.xti_copy.specs.Going.{IsAt, Comes, IsMemory, IsWaiting}
use Rattle.xti_copy.proofs.Calls.{named, bind-follows, listen-follows, connect-follows, accept-follows, finish-follows, send-follows, recv-follows, end-follows, shutdown-follows, close-follows}
use Rattle.xti_copy.proofs.Rows.{if-err, if-ok, first-comes, makes-done, runs-done, makes-waits, makes-counted, runs-received, makes-made, opens}

-- it fails only where memory runs out; else this holds of its value
pub record Goes (T : Type 0) (a : Result T SockFail) (P : T → Type 0) : Type 0 where
  pub fails : IfErr a IsMemory
  pub holds : (v : T) → a ≡ Ok v → P v

goes : (T : Type 0) (a : Result T SockFail) (P : T → Type 0) → MatchResult a P IsMemory → Goes T a P
goes T a P m = record { fails = if-err a P IsMemory m; holds = λ v e. if-ok a v P IsMemory m e }

-- the rider has made just these entries, and the socket is that one
abbrev pub Leads : List Entry → Ride → Sock → Sock → Type 0
Leads front r k j = IsAt front r × (k ≡ j)

abbrev pub Done : Result (Unit {0}) SockFail → List Entry → Ride → Sock → Sock → Type 0
Done a front r k j = Goes (Unit {0}) a (λ u. Leads front r k j)

-- ---- two ends are made and connected

pub open-goes : (front rest : List Entry) (fd : Fd) (after : State) (r r' : Ride) (a : Result Sock SockFail) →
    Comes front (answered (call.TOpen Ticotsord true) (reply.Opened fd) after ∷ rest) → IsAt front r → OpensOne true (sight_of r) (sight_of r') a →
    Goes Sock a (λ s. Leads (front ++ answered (call.TOpen Ticotsord true) (reply.Opened fd) after ∷ []) r' s (new_sock fd))
open-goes front rest fd after r r' a comes at o =
    goes Sock a _ (opens front fd after r r' a (first-comes front (answered (call.TOpen Ticotsord true) (reply.Opened fd) after ∷ []) rest comes) at o)

pub bind-goes : (front es : List Entry) (s : Sock) (r r' : Ride) (a : Result (Unit {0}) SockFail) (k : Sock) →
    s ≡ new_sock listener → Comes front es → IsAt front r → Makes (bind s service) s (sight_of r) (sight_of r') (done a) k → Done a (front ++ []) r' k named
bind-goes front es s r r' a k e comes at m =
    goes (Unit {0}) a _ (makes-done (bind s service) [] front s r r' a k named (first-comes front [] es comes) (bind-follows s e) at m)

pub listen-goes : (front rest : List Entry) (after : State) (s : Sock) (r r' : Ride) (a : Result (Unit {0}) SockFail) (k : Sock) →
    s ≡ named → Comes front (answered (call.TBind listener service 1 0) (reply.Bound [] 1) after ∷ rest) → IsAt front r → Makes (listen s 1) s (sight_of r) (sight_of r') (done a) k →
    Done a (front ++ answered (call.TBind listener service 1 0) (reply.Bound [] 1) after ∷ []) r' k listening_sock
listen-goes front rest after s r r' a k e comes at m =
    let es = answered (call.TBind listener service 1 0) (reply.Bound [] 1) after ∷ [] in
    goes (Unit {0}) a _ (makes-done (listen s 1) es front s r r' a k listening_sock (first-comes front es rest comes) (listen-follows s after e) at m)

-- it would have to wait, or memory ran out; and this holds where it would
pub record Waits (a : Result (Unit {0}) SockFail) (P : Type 0) : Type 0 where
  pub fails : IsWaiting a
  pub holds : a ≡ Err WouldBlock → P

same-fail : (e f : SockFail) → (let x : Result (Unit {0}) SockFail = Err e in x) ≡ Err f → e ≡ f
same-fail e f q = cc

memory-waits : (f : SockFail) → IsMemory f → IsWaiting (Err f)
memory-waits WouldBlock m = absurd m
memory-waits OutOfMemory m = m
memory-waits WrongPhase m = m
memory-waits (Xti errno) m = m
memory-waits (Reset reason) m = m
memory-waits (Ended e) m = m
memory-waits (Again turns) m = m

waits : (a : Result (Unit {0}) SockFail) (P Q : Type 0) → ((a ≡ Err WouldBlock) × P × Q) ⊎ ((e : SockFail) × (a ≡ Err e) × IsMemory e) → Waits a (P × Q)
waits a P Q (inl w) = record { fails = subst IsWaiting (sym w.0) tt; holds = λ e. (w.1, w.2) }
waits a P Q (inr w) = record {
  fails = subst IsWaiting (sym w.1) (memory-waits w.0 w.2);
  holds = λ e. absurd (subst IsMemory (same-fail w.0 WouldBlock (sym w.1 ∙ e)) w.2);
}

pub connect-goes : (front : List Entry) (s : Sock) (r r' : Ride) (a : Result (Unit {0}) SockFail) (k : Sock) →
    s ≡ new_sock client → Comes front (drop 1 asking) → IsAt front r → Makes (connect s service) s (sight_of r) (sight_of r') (done a) k →
    Waits a (Leads (front ++ drop 1 asking) r' k asking_sock)
connect-goes front s r r' a k e comes at m =
    waits a (IsAt (front ++ drop 1 asking) r') (k ≡ asking_sock) (makes-waits (connect s service) (drop 1 asking) front s r r' a k asking_sock comes (connect-follows s e) at m)

pub accept-goes : (front : List Entry) (s : Sock) (r r' : Ride) (a : Result Sock SockFail) (k : Sock) →
    s ≡ listening_sock → Comes front accepting → IsAt front r → Makes (accept s true) s (sight_of r) (sight_of r') (made a) k →
    Goes Sock a (λ i. IsAt (front ++ take 3 accepting) r' × (k ≡ listening_sock) × (i ≡ receiver_sock))
accept-goes front s r r' a k e comes at m =
    goes Sock a _ (makes-made (accept s true) (take 3 accepting) front s r r' a k listening_sock receiver_sock (first-comes front (take 3 accepting) (drop 3 accepting) comes) (accept-follows s e) at m)

pub finish-goes : (front : List Entry) (s : Sock) (r r' : Ride) (a : Result (Unit {0}) SockFail) (k : Sock) →
    s ≡ asking_sock → Comes front (drop 3 accepting) → IsAt front r → Runs (finish s) (sight_of r) (sight_of r') (done a) k →
    Done a (front ++ drop 3 accepting) r' k client_sock
finish-goes front s r r' a k e comes at m =
    goes (Unit {0}) a _ (runs-done (finish s) (drop 3 accepting) front r r' a k client_sock comes (finish-follows s e) at m)

-- ---- a piece goes over

abbrev sent : Fd → List ℕ → State → List Entry
sent fd piece after = answered (call.TSnd fd piece 0) (reply.Sent (length piece)) after ∷ []

pub send-goes : (front rest : List Entry) (fd : Fd) (ended : Bool) (piece : List ℕ) (after : State) (s : Sock) (r r' : Ride) (a : Result ℕ SockFail) (k : Sock) →
    s ≡ in_phase (new_sock fd) (Open false ended) → Comes front (sent fd piece after ++ rest) → IsAt front r → Makes (send s piece) s (sight_of r) (sight_of r') (counted a) k →
    Goes ℕ a (λ n. Leads (front ++ sent fd piece after) r' k s)
send-goes front rest fd ended piece after s r r' a k e comes at m =
    goes ℕ a _ (makes-counted (send s piece) (sent fd piece after) front s r r' a k s (length piece) (first-comes front (sent fd piece after) rest comes) (send-follows s fd ended piece after e) at m)

pub recv-goes : (front : List Entry) (fd : Fd) (shut : Bool) (max : ℕ) (piece : List ℕ) (after : State) (s : Sock) (r r' : Ride) (a : Result (List ℕ) SockFail) (k : Sock) →
    s ≡ in_phase (new_sock fd) (Open shut false) → Comes front (answered (call.TRcv fd max) (reply.Got piece 0) after ∷ []) → IsAt front r → Runs (recv s max) (sight_of r) (sight_of r') (received a) k →
    Goes (List ℕ) a (λ b. Leads (front ++ answered (call.TRcv fd max) (reply.Got piece 0) after ∷ []) r' k s)
recv-goes front fd shut max piece after s r r' a k e comes at m =
    goes (List ℕ) a _ (runs-received (recv s max) (answered (call.TRcv fd max) (reply.Got piece 0) after ∷ []) front r r' a k s piece comes (recv-follows s fd shut max piece after e) at m)

-- ---- the release

abbrev taken : Fd → ℕ → State → State → List Entry
taken fd max after at = answered (call.TRcv fd max) (reply.Look T_ORDREL) after ∷ answered (call.TRcvRel fd) reply.Plain at ∷ []

pub end-goes : (front : List Entry) (fd : Fd) (shut : Bool) (max : ℕ) (after then : State) (s : Sock) (r r' : Ride) (a : Result (List ℕ) SockFail) (k : Sock) →
    s ≡ in_phase (new_sock fd) (Open shut false) → Comes front (taken fd max after then) → IsAt front r → Runs (recv s max) (sight_of r) (sight_of r') (received a) k →
    Goes (List ℕ) a (λ b. Leads (front ++ taken fd max after then) r' k (in_phase (new_sock fd) (Open shut true)))
end-goes front fd shut max after then s r r' a k e comes at m =
    goes (List ℕ) a _ (runs-received (recv s max) (taken fd max after then) front r r' a k (in_phase (new_sock fd) (Open shut true)) [] comes (end-follows s fd shut max after then e) at m)

pub shutdown-goes : (front rest : List Entry) (fd : Fd) (ended : Bool) (after : State) (s : Sock) (r r' : Ride) (a : Result (Unit {0}) SockFail) (k : Sock) →
    s ≡ in_phase (new_sock fd) (Open false ended) → Comes front (answered (call.TSndRel fd) reply.Plain after ∷ rest) → IsAt front r → Runs (shutdown s) (sight_of r) (sight_of r') (done a) k →
    Done a (front ++ answered (call.TSndRel fd) reply.Plain after ∷ []) r' k (in_phase (new_sock fd) (Open true ended))
shutdown-goes front rest fd ended after s r r' a k e comes at m =
    let es = answered (call.TSndRel fd) reply.Plain after ∷ [] in
    goes (Unit {0}) a _ (runs-done (shutdown s) es front r r' a k (in_phase (new_sock fd) (Open true ended)) (first-comes front es rest comes) (shutdown-follows s fd ended after e) at m)

pub close-goes : (front rest : List Entry) (j : Sock) (after : State) (s : Sock) (r r' : Ride) (a : Result (Unit {0}) SockFail) (k : Sock) →
    s ≡ j → is_dead j.phase ≡ false → Comes front (answered (call.TClose j.fd) reply.Plain after ∷ rest) → IsAt front r → Runs (close s) (sight_of r) (sight_of r') (done a) k →
    Done a (front ++ answered (call.TClose j.fd) reply.Plain after ∷ []) r' k (in_phase j Dead)
close-goes front rest j after s r r' a k e live comes at m =
    let es = answered (call.TClose j.fd) reply.Plain after ∷ [] in
    goes (Unit {0}) a _ (runs-done (close s) es front r r' a k (in_phase j Dead) (first-comes front es rest comes) (close-follows s j after e live) at m)

-- ---- the ends

pub at-both : (front xs ys : List Entry) (r : Ride) → IsAt ((front ++ xs) ++ ys) r → IsAt (front ++ (xs ++ ys)) r
at-both front xs ys r at = subst (λ z. IsAt z r) (append_assoc front xs ys) at

pub ends-are : (l c i l' c' i' : Sock) → l ≡ l' → c ≡ c' → i ≡ i' →
    (let x : Ends = record { listener = l; client = c; receiver = i } in x) ≡ record { listener = l'; client = c'; receiver = i' }
ends-are l c i l' c' i' p q s = cc
