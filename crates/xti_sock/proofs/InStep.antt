-- A socket that is in step with its caller's entries stays so.
use Rattle.std.proofs.Common.{◌≡◌, ◌∙◌, true, false, Bool, ◌||◌, List, [], ◌∷◌, Option, Some, None, refl, sym, ap, inl, inr}
use Rattle.std.specs.Prelude.{ℕ, zero, suc, Ok, if◌then◌else◌}
use Rattle.std.proofs.lemmas.Bool.{eq-eqb}
use Rattle.std.proofs.lemmas.List.Folds.{list_any-append}
use Rattle.std.proofs.Math.Bool.{or-false, or-true}
use Rattle.xti_base.specs.declared.errno.Errno.TheVariants.{TNODATA}
use Rattle.xti_base.specs.declared.kinds.Event.TheVariants.{T_LISTEN, T_DISCONNECT, T_ORDREL}
use Rattle.xti_base.specs.declared.kinds.Fd.{Fd}
use Rattle.xti_model.specs.declared.call.Call.{Call}
use Rattle.xti_model.specs.declared.call.Call.TheVariants.{TClose, TBind, TConnect, TRcvConnect, TSnd, TRcv, TRcvDis, TSndRel, TRcvRel}
use Rattle.xti_model.specs.declared.entry.Act.TheVariants.{Begin}
use Rattle.xti_model.specs.declared.entry.Entry.{Entry}
use Rattle.xti_model.specs.declared.entry.Outcome.TheVariants as outcome
use Rattle.xti_model.specs.declared.entry.Reply.{Reply}
use Rattle.xti_model.specs.declared.entry.Reply.TheVariants as reply
use Rattle.xti_model.specs.Arguments.{is_expedited}
use Rattle.xti_sock.specs.declared.heard.Heard.{Heard}
use Rattle.xti_sock.specs.declared.heard.Heard.TheVariants.{Done, Bound, Connected, Sent, Got, Urgent, Broken, Disconnect, Release, Waits, Ended}
use Rattle.xti_sock.specs.declared.phase.Phase.{Phase}
use Rattle.xti_sock.specs.declared.phase.Phase.TheVariants as phase
use Rattle.xti_sock.specs.declared.sock.Sock.{Sock}
use Rattle.xti_sock.specs.declared.limits.TheConstants.{MOST_TURNS}
use Rattle.xti_sock.specs.Sights.{Sight}
use Rattle.xti_sock.specs.Socks.{IsInStep, has_ended, is_live, is_plain, is_release, is_unreleased, takes_release, was_released, spare_of, in_phase}
use Rattle.xti_sock.specs.Scripts.{Answer, Script, gives, asks, Asked, Makes, Runs, heard_of, octets}
use Rattle.xti_sock.specs.Rows.{stops, on_disconnect, reset, with_end, on_release, release, on_send, on_send_again, send, send_in, send_again, on_recv, recv, recv_in, recv_turns, wrong, bind, bind_in, on_listen, listen, listen_in, bound_in, on_connect, request, on_bound, bound_request, connect, connect_in, on_finish, finish, finish_in, shut_in, on_shutdown, shutdown, shutdown_in, is_dead, on_close, close}
use Rattle.xti_sock.proofs.Entries.{InOne, step, none, in-one, released-other}

-- ---- the release itself

abbrev is_done : Heard → Bool
is_done Done = true
is_done h = false

plain-got : (b : Bool) (bytes : List ℕ) → false ≡ is_done (if b then Urgent else Got bytes)
plain-got true bytes = refl
plain-got false bytes = refl

plain-heard : (r : Reply) → is_plain (outcome.Done r) ≡ is_done (heard_of r)
plain-heard reply.Plain = refl
plain-heard (reply.Got bytes flags) = plain-got (is_expedited flags) bytes
plain-heard (reply.Look T_DISCONNECT) = refl
plain-heard (reply.Look T_ORDREL) = refl
plain-heard (reply.Look T_LISTEN) = refl
plain-heard (reply.Look e) = refl
plain-heard (reply.Refused TNODATA) = refl
plain-heard (reply.Refused e) = refl
plain-heard r = refl

-- it is received just where Done is heard
pub released-release : (f : Fd) (s t : Sight) (h : Heard) → Asked s (TRcvRel f) h t → was_released f t.mine ≡ (was_released f s.mine || is_done h)
released-release f s t h a = by-one (in-one s t (TRcvRel f) h refl a)
  where
    by-one : InOne s (TRcvRel f) h t → was_released f t.mine ≡ (was_released f s.mine || is_done h)
    by-one (step e r m act out q) =
        rw (m, list_any-append (takes_release f) s.mine (e ∷ []), act, out, eq-eqb f.0 f.0 refl, plain-heard r, q) (ap (λ (b : Bool). was_released f s.mine || b) (or-false (is_done (heard_of r))))
    by-one (none e m q) = rw (m, q) (sym (or-false (was_released f s.mine)))

-- ---- scripts that keep a socket in step

abbrev pub KeepsStep : Sock → Script → Type 0
KeepsStep s x = (u t : Sight) (a : Answer) (k : Sock) → IsInStep s u.mine → Runs x u t a k → IsInStep k t.mine

pub unreleased-moved : (o : Option Fd) (xs ys : List Entry) → ((f : Fd) → was_released f ys ≡ was_released f xs) → is_unreleased o xs → is_unreleased o ys
unreleased-moved None xs ys e h = tt
unreleased-moved (Some f) xs ys e h = e f ∙ h

in-step-moved : (s : Sock) (xs ys : List Entry) → ((f : Fd) → was_released f ys ≡ was_released f xs) → IsInStep s xs → IsInStep s ys
in-step-moved s xs ys e i = record { own = λ l. e s.fd ∙ i.own l; spare = unreleased-moved (spare_of s.phase) xs ys e i.spare }

gives-same : (s : Sock) (b : Answer) → KeepsStep s (gives b s)
gives-same s b u t a k i r = rw (r.0, r.2) i

gives-dead : (s : Sock) (b : Answer) → KeepsStep s (gives b (in_phase s phase.Dead))
gives-dead s b u t a k i r = rw (r.0, r.2) (record { own = λ l. absurd (cc l); spare = tt })

gives-failed : (s : Sock) (b : Answer) → KeepsStep s (gives b (in_phase s phase.Failed))
gives-failed s b u t a k i r = rw (r.0, r.2) (record { own = λ l. absurd (cc l); spare = tt })

-- another phase, whose input has ended or not as before
gives-phase : (s : Sock) (b : Answer) (p : Phase) → is_live s.phase ≡ true → has_ended p ≡ has_ended s.phase → spare_of p ≡ None → KeepsStep s (gives b (in_phase s p))
gives-phase s b p l e z u t a k i r = rw (r.0, r.2) (record { own = λ _. i.own l ∙ sym e; spare = rw z tt })

stops-keeps : (h : Heard) (s : Sock) → KeepsStep s (stops h s)
stops-keeps (Ended e) s = gives-dead s _
stops-keeps h s = gives-same s _

-- a call that is no release
asks-keeps : (s : Sock) (c : Call) (next : Heard → Script) → ((f : Fd) → is_release f (Begin c) ≡ false) → ((h : Heard) → KeepsStep s (next h)) → KeepsStep s (asks c next)
asks-keeps s c next q f u t a k i (h, v, asked, more) = f h v t a k (in-step-moved s u.mine v.mine (λ x. released-other x u v c h (q x) asked) i) more

disconnect-keeps : (s : Sock) (h : Heard) → KeepsStep s (on_disconnect s h)
disconnect-keeps s (Broken reason seq) = gives-failed s _
disconnect-keeps s (Ended e) = gives-dead s _
disconnect-keeps s h = gives-same s _

reset-keeps : (s : Sock) → KeepsStep s (reset s)
reset-keeps s = asks-keeps s (TRcvDis s.fd 0) (on_disconnect s) (λ f. refl) (disconnect-keeps s)

-- the release of an open socket
release-keeps : (s : Sock) (shut ended : Bool) (next : Script) → s.phase ≡ phase.Open shut ended → KeepsStep (with_end s) next → KeepsStep s (release next s)
release-keeps s shut ended next p f u t a k i (h, v, asked, more) = by-heard h asked more
  where
    same : (h : Heard) → is_done h ≡ false → Asked u (TRcvRel s.fd) h v → IsInStep s v.mine
    same h d x = record {
      own = λ l. released-release s.fd u v h x ∙ (rw d (or-false (was_released s.fd u.mine)) ∙ i.own l);
      spare = rw p tt;
    }

    by-heard : (h : Heard) → Asked u (TRcvRel s.fd) h v → Runs (on_release next s h) v t a k → IsInStep k t.mine
    by-heard Done x r =
        f v t a k (record {
          own = λ l. released-release s.fd u v Done x ∙ (or-true (was_released s.fd u.mine) ∙ rw p refl);
          spare = rw p tt;
        }) r
    by-heard (Ended e) x r = gives-dead s _ v t a k (same (Ended e) refl x) r
    by-heard h x r = gives-same s _ v t a k (same h refl x) r

-- no room was found before the first call, or the script was run
pub makes-keeps : (s : Sock) (x : Script) → KeepsStep s x → (u t : Sight) (a : Answer) (k : Sock) → IsInStep s u.mine → Makes x s u t a k → IsInStep k t.mine
makes-keeps s x f u t a k i (inl r) = f u t a k i r
makes-keeps s x f u t a k i (inr r) = rw (r.1, r.3) i

-- ---- send

send-again-keeps : (s : Sock) (bytes : List ℕ) → KeepsStep s (send_again bytes s)
send-again-keeps s bytes = asks-keeps s (TSnd s.fd bytes 0) (on_send_again s) (λ f. refl) by-heard
  where
    by-heard : (h : Heard) → KeepsStep s (on_send_again s h)
    by-heard (Sent n) = gives-same s _
    by-heard Disconnect = reset-keeps s
    by-heard (Ended e) = gives-dead s _
    by-heard h = gives-same s _

pub send-keeps : (s : Sock) (bytes : List ℕ) → KeepsStep s (send s bytes)
send-keeps s bytes = by-phase s.phase refl
  where
    by-heard : (shut ended : Bool) → s.phase ≡ phase.Open shut ended → (h : Heard) → KeepsStep s (on_send bytes s h)
    by-heard shut ended p (Sent n) = gives-same s _
    by-heard shut ended p Disconnect = reset-keeps s
    by-heard shut ended p Release = release-keeps s shut ended (send_again bytes (with_end s)) p (send-again-keeps (with_end s) bytes)
    by-heard shut ended p (Ended e) = gives-dead s _
    by-heard shut ended p h = gives-same s _

    by-phase : (q : Phase) → s.phase ≡ q → KeepsStep s (send_in q bytes s)
    by-phase (phase.Open false ended) p = asks-keeps s (TSnd s.fd bytes 0) (on_send bytes s) (λ f. refl) (by-heard false ended p)
    by-phase q p = gives-same s _

-- ---- recv

recv-turns-keep : (n : ℕ) (s : Sock) (max : ℕ) (shut ended : Bool) → s.phase ≡ phase.Open shut ended → KeepsStep s (recv_turns n s max)
unfolding recv_turns
recv-turns-keep zero s max shut ended p = gives-same s _
recv-turns-keep (suc n) s max shut ended p = asks-keeps s (TRcv s.fd max) (on_recv (recv_turns n s max) s) (λ f. refl) (by-heard (recv-turns-keep n s max shut ended p))
  where
    by-heard : KeepsStep s (recv_turns n s max) → (h : Heard) → KeepsStep s (on_recv (recv_turns n s max) s h)
    by-heard again (Got bytes) = gives-same s _
    by-heard again Urgent = again
    by-heard again Disconnect = reset-keeps s
    by-heard again Release = release-keeps s shut ended (gives (Ok (octets [])) (with_end s)) p (gives-same (with_end s) _)
    by-heard again (Ended e) = gives-dead s _
    by-heard again h = gives-same s _

pub recv-keeps : (s : Sock) (max : ℕ) → KeepsStep s (recv s max)
recv-keeps s max = by-phase s.phase refl
  where
    by-phase : (q : Phase) → s.phase ≡ q → KeepsStep s (recv_in q s max)
    by-phase (phase.Open shut false) p = recv-turns-keep MOST_TURNS s max shut false p
    by-phase (phase.Open shut true) p = gives-same s _
    by-phase q p = gives-same s _

-- ---- how a socket comes to be connected, and how it ends

pub bind-keeps : (s : Sock) (address : List ℕ) → KeepsStep s (bind s address)
bind-keeps s address = by-phase s.phase refl
  where
    by-phase : (q : Phase) → s.phase ≡ q → KeepsStep s (bind_in q address s)
    by-phase phase.New p = gives-phase s _ (phase.Named address false) (rw p refl) (rw p refl) refl
    by-phase q p = gives-same s _

pub listen-keeps : (s : Sock) (backlog : ℕ) → KeepsStep s (listen s backlog)
listen-keeps s backlog = by-phase s.phase refl
  where
    by-heard : (address : List ℕ) (bound : Bool) → s.phase ≡ phase.Named address bound → (h : Heard) → KeepsStep s (on_listen s h)
    by-heard address bound p Bound = gives-phase s _ (phase.Listening [] None) (rw p refl) (rw p refl) refl
    by-heard address bound p (Ended e) = gives-dead s _
    by-heard address bound p h = gives-same s _

    by-phase : (q : Phase) → s.phase ≡ q → KeepsStep s (listen_in q backlog s)
    by-phase (phase.Named address bound) p = asks-keeps s (TBind s.fd address backlog 0) (on_listen s) (λ f. refl) (by-heard address bound p)
    by-phase q p = gives-same s _

request-keeps : (s : Sock) (to : List ℕ) → is_live s.phase ≡ true → has_ended s.phase ≡ false → KeepsStep s (request to s)
request-keeps s to l e = asks-keeps s (TConnect s.fd to [] [] 0 0 0) (on_connect s) (λ f. refl) by-heard
  where
    by-heard : (h : Heard) → KeepsStep s (on_connect s h)
    by-heard Connected = gives-phase s _ (phase.Open false false) l (sym e) refl
    by-heard Waits = gives-phase s _ phase.Connecting l (sym e) refl
    by-heard Disconnect = reset-keeps s
    by-heard (Ended x) = gives-dead s _
    by-heard h = gives-same s _

bound-request-keeps : (s : Sock) (address to : List ℕ) (b : List ℕ) → is_live s.phase ≡ true → has_ended s.phase ≡ false → bound_in s.phase ≡ phase.Named b true → KeepsStep s (bound_request address to s)
bound-request-keeps s address to b l e p = asks-keeps s (TBind s.fd address 0 0) (on_bound (request to (in_phase s (bound_in s.phase))) s) (λ f. refl) by-heard
  where
    named : (u : Sight) → IsInStep s u.mine → IsInStep (in_phase s (bound_in s.phase)) u.mine
    named u i = record { own = λ _. i.own l ∙ (e ∙ rw p refl); spare = rw p tt }

    by-heard : (h : Heard) → KeepsStep s (on_bound (request to (in_phase s (bound_in s.phase))) s h)
    by-heard Bound = λ u t a k i r. request-keeps (in_phase s (bound_in s.phase)) to (rw p refl) (rw p refl) u t a k (named u i) r
    by-heard (Ended x) = gives-dead s _
    by-heard h = gives-same s _

pub connect-keeps : (s : Sock) (to : List ℕ) → KeepsStep s (connect s to)
connect-keeps s to = by-phase s.phase refl
  where
    by-phase : (q : Phase) → s.phase ≡ q → KeepsStep s (connect_in q to s)
    by-phase phase.New p = bound-request-keeps s [] to [] (rw p refl) (rw p refl) (rw p refl)
    by-phase (phase.Named address false) p = bound-request-keeps s address to address (rw p refl) (rw p refl) (rw p refl)
    by-phase (phase.Named address true) p = request-keeps s to (rw p refl) (rw p refl)
    by-phase q p = gives-same s _

pub finish-keeps : (s : Sock) → KeepsStep s (finish s)
finish-keeps s = by-phase s.phase refl
  where
    by-heard : s.phase ≡ phase.Connecting → (h : Heard) → KeepsStep s (on_finish s h)
    by-heard p Connected = gives-phase s _ (phase.Open false false) (rw p refl) (rw p refl) refl
    by-heard p Disconnect = reset-keeps s
    by-heard p (Ended e) = gives-dead s _
    by-heard p h = gives-same s _

    by-phase : (q : Phase) → s.phase ≡ q → KeepsStep s (finish_in q s)
    by-phase phase.Connecting p = asks-keeps s (TRcvConnect s.fd 0 0 0) (on_finish s) (λ f. refl) (by-heard p)
    by-phase q p = gives-same s _

pub shutdown-keeps : (s : Sock) → KeepsStep s (shutdown s)
shutdown-keeps s = by-phase s.phase refl
  where
    by-heard : (ended : Bool) → s.phase ≡ phase.Open false ended → (h : Heard) → KeepsStep s (on_shutdown s h)
    by-heard ended p Done = gives-phase s _ (shut_in s.phase) (rw p refl) (rw p refl) (rw p refl)
    by-heard ended p Disconnect = reset-keeps s
    by-heard ended p (Ended e) = gives-dead s _
    by-heard ended p h = gives-same s _

    by-phase : (q : Phase) → s.phase ≡ q → KeepsStep s (shutdown_in q s)
    by-phase (phase.Open false ended) p = asks-keeps s (TSndRel s.fd) (on_shutdown s) (λ f. refl) (by-heard ended p)
    by-phase q p = gives-same s _

pub close-keeps : (s : Sock) → KeepsStep s (close s)
close-keeps s = by-dead (is_dead s.phase)
  where
    by-heard : (h : Heard) → KeepsStep s (on_close s h)
    by-heard Done = gives-dead s _
    by-heard (Ended e) = gives-dead s _
    by-heard h = gives-same s _

    by-dead : (b : Bool) → KeepsStep s (if b then wrong s else asks (TClose s.fd) (on_close s))
    by-dead true = gives-same s _
    by-dead false = asks-keeps s (TClose s.fd) (on_close s) (λ f. refl) by-heard
