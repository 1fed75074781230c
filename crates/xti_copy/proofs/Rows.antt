-- What each socket call of a copy makes.
use Rattle.std.proofs.Common.{◌≡◌, ℕ, true, List, [], ◌∷◌, ◌++◌, Result, Ok, Err, ◌⊎◌, inl, inr, refl, sym, ap, ◌∙◌, subst, append_assoc}
use Rattle.std.specs.Prelude.{MatchResult, IfErr}
use Rattle.xti_base.specs.declared.kinds.Fd.{Fd}
use Rattle.xti_base.specs.declared.kinds.Prov.TheVariants.{Ticotsord}
use Rattle.xti_base.specs.declared.kinds.State.{State}
use Rattle.xti_model.specs.declared.call.Call.TheVariants as call
use Rattle.xti_model.specs.declared.entry.Entry.{Entry}
use Rattle.xti_model.specs.declared.entry.Reply.TheVariants as reply
use Rattle.xti_model.specs.History.{Legal}
use Rattle.xti_model.specs.Profile.{usual}
use Rattle.xti_laws_streams.specs.Copying.{answered}
use Rattle.xti_laws_streams.specs.CopyLaws.{IsNextEntry}
use Rattle.xti_copy.specs.Rides.{Ride, sight_of}
use Rattle.xti_sock.specs.declared.fail.SockFail.{SockFail}
use Rattle.xti_sock.specs.declared.fail.SockFail.TheVariants.{WouldBlock}
use Rattle.xti_sock.specs.declared.sock.Sock.{Sock}
use Rattle.xti_sock.specs.Rows.{OpensOne, opened, new_sock}
use Rattle.xti_sock.specs.Scripts.{Answer, Script, Value, gives, asks, nothing, count, octets, socket, Runs, Makes, done, made, received, counted}
use Rattle.xti_copy.specs.Going.{IsAt, Comes, IsMemory}
use Rattle.xti_copy.proofs.Following.{At, Follows, Went, went, went-makes}

-- ---- results

pub if-err : {T : Type 0} {E : Type 0} (r : Result T E) (P : T → Type 0) (Q : E → Type 0) → MatchResult r P Q → IfErr r Q
if-err (Ok v) P Q m = tt
if-err (Err e) P Q m = m

pub if-ok : {T : Type 0} {E : Type 0} (r : Result T E) (v : T) (P : T → Type 0) (Q : E → Type 0) → MatchResult r P Q → r ≡ Ok v → P v
if-ok r v P Q m e = subst (λ z. MatchResult z P Q) e m

-- ---- riders

at-of : (front : List Entry) (r : Ride) → IsAt front r → At front (sight_of r)
at-of front r k = record { providers = k.providers; number = refl; seen = k.entries; mine = k.entries; free = k.free }

is-at : (front : List Entry) (r : Ride) → At front (sight_of r) → IsAt front r
is-at front r k = record { providers = k.providers; entries = k.seen; free = k.free }

-- what comes first, and what after that
pub first-comes : (front xs ys : List Entry) → Comes front (xs ++ ys) → Comes front xs
first-comes front xs ys k =
    let e = ap (λ z. front ++ z) (append_assoc xs ys k.rest) in
    record { rest = ys ++ k.rest; legal = subst (Legal usual) e k.legal; only = subst IsNextEntry e k.only }

pub then-comes : (front xs ys : List Entry) → Comes front (xs ++ ys) → Comes (front ++ xs) ys
then-comes front xs ys k =
    let e = ap (λ z. front ++ z) (append_assoc xs ys k.rest) ∙ sym (append_assoc front xs (ys ++ k.rest)) in
    record { rest = k.rest; legal = subst (Legal usual) e k.legal; only = subst IsNextEntry e k.only }

-- ---- socket calls, by what they answer

pub makes-done : (x : Script) (es front : List Entry) (old : Sock) (r r' : Ride) (a : Result (Unit {0}) SockFail) (k j : Sock) →
    Comes front es → Follows x es (Ok nothing) j → IsAt front r → Makes x old (sight_of r) (sight_of r') (done a) k → MatchResult a (λ u. IsAt (front ++ es) r' × (k ≡ j)) IsMemory
makes-done x es front old r r' a k j comes f at m = by a (went-makes x es front old (sight_of r) (sight_of r') (done a) k (Ok nothing) j comes f (at-of front r at) refl refl m)
  where
    by : (a : Result (Unit {0}) SockFail) → Went front es (sight_of r') (done a) k (Ok nothing) j → MatchResult a (λ u. IsAt (front ++ es) r' × (k ≡ j)) IsMemory
    by (Ok u) (inl w) = (is-at (front ++ es) r' w.0, w.2)
    by (Ok u) (inr l) = absurd l
    by (Err e) (inl w) = absurd (let z = w.1 in cc)
    by (Err e) (inr l) = l

pub runs-done : (x : Script) (es front : List Entry) (r r' : Ride) (a : Result (Unit {0}) SockFail) (k j : Sock) →
    Comes front es → Follows x es (Ok nothing) j → IsAt front r → Runs x (sight_of r) (sight_of r') (done a) k → MatchResult a (λ u. IsAt (front ++ es) r' × (k ≡ j)) IsMemory
runs-done x es front r r' a k j comes f at m = makes-done x es front j r r' a k j comes f at (inl m)

-- it would have to wait
pub makes-waits : (x : Script) (es front : List Entry) (old : Sock) (r r' : Ride) (a : Result (Unit {0}) SockFail) (k j : Sock) →
    Comes front es → Follows x es (Err WouldBlock) j → IsAt front r → Makes x old (sight_of r) (sight_of r') (done a) k → ((a ≡ Err WouldBlock) × IsAt (front ++ es) r' × (k ≡ j)) ⊎ ((e : SockFail) × (a ≡ Err e) × IsMemory e)
makes-waits x es front old r r' a k j comes f at m = by a (went-makes x es front old (sight_of r) (sight_of r') (done a) k (Err WouldBlock) j comes f (at-of front r at) refl refl m)
  where
    by : (a : Result (Unit {0}) SockFail) → Went front es (sight_of r') (done a) k (Err WouldBlock) j → ((a ≡ Err WouldBlock) × IsAt (front ++ es) r' × (k ≡ j)) ⊎ ((e : SockFail) × (a ≡ Err e) × IsMemory e)
    by (Ok u) (inl w) = absurd (let z = w.1 in cc)
    by (Ok u) (inr l) = absurd l
    by (Err e) (inl w) = inl (let z = w.1 in cc, is-at (front ++ es) r' w.0, w.2)
    by (Err e) (inr l) = inr (e, refl, l)

pub makes-counted : (x : Script) (es front : List Entry) (old : Sock) (r r' : Ride) (a : Result ℕ SockFail) (k j : Sock) (n : ℕ) →
    Comes front es → Follows x es (Ok (count n)) j → IsAt front r → Makes x old (sight_of r) (sight_of r') (counted a) k → MatchResult a (λ u. IsAt (front ++ es) r' × (k ≡ j)) IsMemory
makes-counted x es front old r r' a k j n comes f at m = by a (went-makes x es front old (sight_of r) (sight_of r') (counted a) k (Ok (count n)) j comes f (at-of front r at) refl refl m)
  where
    by : (a : Result ℕ SockFail) → Went front es (sight_of r') (counted a) k (Ok (count n)) j → MatchResult a (λ u. IsAt (front ++ es) r' × (k ≡ j)) IsMemory
    by (Ok u) (inl w) = (is-at (front ++ es) r' w.0, w.2)
    by (Ok u) (inr l) = absurd l
    by (Err e) (inl w) = absurd (let z = w.1 in cc)
    by (Err e) (inr l) = l

pub runs-received : (x : Script) (es front : List Entry) (r r' : Ride) (a : Result (List ℕ) SockFail) (k j : Sock) (bytes : List ℕ) →
    Comes front es → Follows x es (Ok (octets bytes)) j → IsAt front r → Runs x (sight_of r) (sight_of r') (received a) k → MatchResult a (λ u. IsAt (front ++ es) r' × (k ≡ j)) IsMemory
runs-received x es front r r' a k j bytes comes f at m = by a (went x es front (sight_of r) (sight_of r') (received a) k (Ok (octets bytes)) j comes f (at-of front r at) refl refl m)
  where
    by : (a : Result (List ℕ) SockFail) → Went front es (sight_of r') (received a) k (Ok (octets bytes)) j → MatchResult a (λ u. IsAt (front ++ es) r' × (k ≡ j)) IsMemory
    by (Ok u) (inl w) = (is-at (front ++ es) r' w.0, w.2)
    by (Ok u) (inr l) = absurd l
    by (Err e) (inl w) = absurd (let z = w.1 in cc)
    by (Err e) (inr l) = l

same-sock : (a b : Sock) → socket a ≡ socket b → a ≡ b
same-sock a b e = cc

ok-value : (v w : Value) → (let x : Answer = Ok v in x) ≡ Ok w → v ≡ w
ok-value v w e = cc

pub makes-made : (x : Script) (es front : List Entry) (old : Sock) (r r' : Ride) (a : Result Sock SockFail) (k j i : Sock) →
    Comes front es → Follows x es (Ok (socket i)) j → IsAt front r → Makes x old (sight_of r) (sight_of r') (made a) k → MatchResult a (λ s. IsAt (front ++ es) r' × (k ≡ j) × (s ≡ i)) IsMemory
makes-made x es front old r r' a k j i comes f at m = by a (went-makes x es front old (sight_of r) (sight_of r') (made a) k (Ok (socket i)) j comes f (at-of front r at) refl refl m)
  where
    by : (a : Result Sock SockFail) → Went front es (sight_of r') (made a) k (Ok (socket i)) j → MatchResult a (λ s. IsAt (front ++ es) r' × (k ≡ j) × (s ≡ i)) IsMemory
    by (Ok s) (inl w) = (is-at (front ++ es) r' w.0, w.2, same-sock s i (ok-value (socket s) (socket i) w.1))
    by (Ok s) (inr l) = absurd l
    by (Err e) (inl w) = absurd (let z = w.1 in cc)
    by (Err e) (inr l) = l

-- an open, as a script
opening : Sock → Script
opening k = asks (call.TOpen Ticotsord true) (λ h. gives (made (opened h)) k)

pub opens : (front : List Entry) (fd : Fd) (state : State) (r r' : Ride) (a : Result Sock SockFail) →
    Comes front (answered (call.TOpen Ticotsord true) (reply.Opened fd) state ∷ []) → IsAt front r → OpensOne true (sight_of r) (sight_of r') a →
    MatchResult a (λ s. IsAt (front ++ answered (call.TOpen Ticotsord true) (reply.Opened fd) state ∷ []) r' × (s ≡ new_sock fd)) IsMemory
unfolding opening
opens front fd state r r' a comes at o =
    by a (makes-made (opening k) es front k r r' a k k (new_sock fd) comes (reply.Opened fd, record { worker = refl; begins = refl; outcome = refl }, λ n. tt, (refl, refl)) at (inl (o.heard, sight_of r', o.asked, (refl, ap made o.result_is, refl))))
  where
    k : Sock
    k = new_sock fd

    es : List Entry
    es = answered (call.TOpen Ticotsord true) (reply.Opened fd) state ∷ []

    by : (a : Result Sock SockFail) → MatchResult a (λ s. IsAt (front ++ es) r' × (k ≡ k) × (s ≡ new_sock fd)) IsMemory → MatchResult a (λ s. IsAt (front ++ es) r' × (s ≡ new_sock fd)) IsMemory
    by (Ok s) m = (m.0, m.2)
    by (Err e) m = m
