-- A receive after which a release stands among the caller's entries answers no bytes.
use Rattle.std.proofs.Common.{◌≡◌, ◌∙◌, true, false, [], refl, ap}
use Rattle.std.specs.Prelude.{ℕ, zero, suc}
use Rattle.xti_model.specs.declared.call.Call.{Call}
use Rattle.xti_model.specs.declared.call.Call.TheVariants.{TRcv, TRcvDis, TRcvRel}
use Rattle.xti_sock.specs.declared.heard.Heard.{Heard}
use Rattle.xti_sock.specs.declared.heard.Heard.TheVariants.{Done, Got, Urgent, Broken, Disconnect, Release}
use Rattle.xti_sock.specs.declared.phase.Phase.{Phase}
use Rattle.xti_sock.specs.declared.phase.Phase.TheVariants as phase
use Rattle.xti_sock.specs.declared.sock.Sock.{Sock}
use Rattle.xti_sock.specs.declared.limits.TheConstants.{MOST_TURNS}
use Rattle.xti_sock.specs.Sights.{Sight}
use Rattle.xti_sock.specs.Socks.{IsInStep, is_live, has_ended, was_released}
use Rattle.xti_sock.specs.Streams.{bytes_in}
use Rattle.xti_sock.specs.Scripts.{Answer, Script, gives, asks, Asked, Runs}
use Rattle.xti_sock.specs.Rows.{stops, on_disconnect, reset, on_release, release, on_recv, recv, recv_in, recv_turn, recv_turns}
use Rattle.xti_sock.proofs.Entries.{released-other}

-- ---- scripts that answer no bytes

abbrev pub AnswersNone : Script → Type 0
AnswersNone x = (u t : Sight) (a : Answer) (k : Sock) → Runs x u t a k → bytes_in a ≡ []

gives-none : (b : Answer) (s : Sock) → bytes_in b ≡ [] → AnswersNone (gives b s)
gives-none b s z u t a k r = ap bytes_in r.1 ∙ z

asks-none : (c : Call) (next : Heard → Script) → ((h : Heard) → AnswersNone (next h)) → AnswersNone (asks c next)
asks-none c next f u t a k (h, v, asked, more) = f h v t a k more

stops-none : (h : Heard) (s : Sock) → AnswersNone (stops h s)
stops-none h s = gives-none _ _ refl

disconnect-none : (s : Sock) (h : Heard) → AnswersNone (on_disconnect s h)
disconnect-none s (Broken reason seq) = gives-none _ _ refl
disconnect-none s h = stops-none h s

reset-none : (s : Sock) → AnswersNone (reset s)
reset-none s = asks-none (TRcvDis s.fd 0) (on_disconnect s) (disconnect-none s)

release-none : (s : Sock) (next : Script) → AnswersNone next → AnswersNone (release next s)
release-none s next f = asks-none (TRcvRel s.fd) (on_release next s) by-heard
  where
    by-heard : (h : Heard) → AnswersNone (on_release next s h)
    by-heard Done = f
    by-heard h = stops-none h s

-- ---- receives

-- no release stands there before; where one does after it, no bytes were answered
abbrev pub EndsRight : Sock → Script → Type 0
EndsRight s x = (u t : Sight) (a : Answer) (k : Sock) → was_released s.fd u.mine ≡ false → Runs x u t a k → was_released s.fd t.mine ≡ true → bytes_in a ≡ []

turn-ends : (s : Sock) (max : ℕ) (again : Script) → EndsRight s again → EndsRight s (recv_turn s max again)
turn-ends s max again f u t a k q (h, v, asked, more) e = by-heard h asked more
  where
    by-heard : (h : Heard) → Asked u (TRcv s.fd max) h v → Runs (on_recv again s h) v t a k → bytes_in a ≡ []
    by-heard (Got bytes) x r =
        let still : was_released s.fd t.mine ≡ false = ap (λ (y : Sight). was_released s.fd y.mine) r.0 ∙ (released-other s.fd u v (TRcv s.fd max) (Got bytes) refl x ∙ q) in
        absurd (cc (still, e))
    by-heard Urgent x r = f v t a k (released-other s.fd u v (TRcv s.fd max) Urgent refl x ∙ q) r e
    by-heard Disconnect x r = reset-none s v t a k r
    by-heard Release x r = release-none s _ (gives-none _ _ refl) v t a k r
    by-heard h x r = stops-none h s v t a k r

turns-end : (n : ℕ) (s : Sock) (max : ℕ) → EndsRight s (recv_turns n s max)
unfolding recv_turns
turns-end zero s max u t a k q r e = gives-none _ _ refl u t a k r
turns-end (suc n) s max u t a k q r e = turn-ends s max (recv_turns n s max) (turns-end n s max) u t a k q r e

pub recv-ends : (s : Sock) (max : ℕ) (u t : Sight) (a : Answer) (k : Sock) → IsInStep s u.mine → Runs (recv s max) u t a k → was_released s.fd t.mine ≡ true → bytes_in a ≡ []
recv-ends s max u t a k i r e = by-phase s.phase refl r
  where
    by-phase : (q : Phase) → s.phase ≡ q → Runs (recv_in q s max) u t a k → bytes_in a ≡ []
    by-phase (phase.Open shut false) p x =
        let live : is_live s.phase ≡ true = rw p refl in
        let unended : has_ended s.phase ≡ false = rw p refl in
        turns-end MOST_TURNS s max u t a k (i.own live ∙ unended) x e
    by-phase (phase.Open shut true) p x = gives-none _ _ refl u t a k x
    by-phase q p x = gives-none _ _ refl u t a k x
