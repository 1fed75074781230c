-- What a socket call adds to the input of its socket.
use Rattle.std.proofs.Common.{◌≡◌, ◌∙◌, true, false, Bool, List, [], ◌∷◌, ◌++◌, refl, sym, ap}
use Rattle.std.specs.Prelude.{ℕ, zero, suc, if◌then◌else◌}
use Rattle.std.proofs.lemmas.Bool.{eq-eqb}
use Rattle.std.proofs.lemmas.Grind.{flat_map-append}
use Rattle.std.proofs.lemmas.List.{append-nil}
use Rattle.xti_base.specs.declared.errno.Errno.TheVariants.{TNODATA}
use Rattle.xti_base.specs.declared.kinds.Event.TheVariants.{T_LISTEN, T_DISCONNECT, T_ORDREL}
use Rattle.xti_base.specs.declared.kinds.Fd.{Fd}
use Rattle.xti_model.specs.declared.call.Call.{Call}
use Rattle.xti_model.specs.declared.call.Call.TheVariants.{TRcv, TRcvDis, TRcvRel}
use Rattle.xti_model.specs.declared.entry.Act.TheVariants.{Begin}
use Rattle.xti_model.specs.declared.entry.Outcome.{Outcome}
use Rattle.xti_model.specs.declared.entry.Outcome.TheVariants as outcome
use Rattle.xti_model.specs.declared.entry.Reply.{Reply}
use Rattle.xti_model.specs.declared.entry.Reply.TheVariants as reply
use Rattle.xti_model.specs.Arguments.{is_expedited}
use Rattle.xti_sock.specs.declared.heard.Heard.{Heard}
use Rattle.xti_sock.specs.declared.heard.Heard.TheVariants.{Done, Got, Urgent, Broken, Disconnect, Release}
use Rattle.xti_sock.specs.declared.phase.Phase.{Phase}
use Rattle.xti_sock.specs.declared.phase.Phase.TheVariants as phase
use Rattle.xti_sock.specs.declared.sock.Sock.{Sock}
use Rattle.xti_sock.specs.declared.limits.TheConstants.{MOST_TURNS}
use Rattle.xti_sock.specs.Sights.{Sight}
use Rattle.xti_sock.specs.Streams.{got_in, got_by, got_at, input, bytes_in}
use Rattle.xti_sock.specs.Scripts.{Answer, Script, gives, asks, Asked, Runs, heard_of}
use Rattle.xti_sock.specs.Rows.{stops, on_disconnect, reset, on_release, release, on_recv, recv, recv_in, recv_turn, recv_turns}
use Rattle.xti_sock.proofs.Entries.{InOne, step, none, in-one, input-other}

-- ---- one receive

-- the bytes that were heard
abbrev bytes_heard : Heard → List ℕ
bytes_heard (Got bytes) = bytes
bytes_heard h = []

heard-got : (b : Bool) (bytes : List ℕ) → (if b then [] else bytes) ≡ bytes_heard (if b then Urgent else Got bytes)
heard-got true bytes = refl
heard-got false bytes = refl

got-heard : (r : Reply) → got_in (outcome.Done r) ≡ bytes_heard (heard_of r)
got-heard (reply.Got bytes flags) = heard-got (is_expedited flags) bytes
got-heard (reply.Look T_DISCONNECT) = refl
got-heard (reply.Look T_ORDREL) = refl
got-heard (reply.Look T_LISTEN) = refl
got-heard (reply.Look e) = refl
got-heard (reply.Refused TNODATA) = refl
got-heard (reply.Refused e) = refl
got-heard r = refl

input-recv : (f : Fd) (max : ℕ) (s t : Sight) (h : Heard) → Asked s (TRcv f max) h t → input f t.mine ≡ input f s.mine ++ bytes_heard h
input-recv f max s t h a = by-one (in-one s t (TRcv f max) h refl a)
  where
    by-one : InOne s (TRcv f max) h t → input f t.mine ≡ input f s.mine ++ bytes_heard h
    by-one (step e r m act out q) =
        rw (m, flat_map-append (got_at f) s.mine (e ∷ []), act, out, eq-eqb f.0 f.0 refl, got-heard r, q) (ap (λ (b : List ℕ). input f s.mine ++ b) (append-nil (bytes_heard (heard_of r))))
    by-one (none e m q) = rw (m, q) (sym (append-nil (input f s.mine)))

-- ---- scripts that give just what was received

abbrev pub GivesInput : Fd → Script → Type 0
GivesInput f x = (u t : Sight) (a : Answer) (k : Sock) → Runs x u t a k → input f t.mine ≡ input f u.mine ++ bytes_in a

gives-none : (f : Fd) (b : Answer) (s : Sock) → bytes_in b ≡ [] → GivesInput f (gives b s)
gives-none f b s z u t a k r = rw (r.0, r.1, z) (sym (append-nil (input f u.mine)))

stops-none : (f : Fd) (h : Heard) (s : Sock) → GivesInput f (stops h s)
stops-none f h s = gives-none f _ _ refl

-- a call that receives nothing
asks-none : (f : Fd) (c : Call) (next : Heard → Script) → ((o : Outcome) → got_by f (Begin c) o ≡ []) → ((h : Heard) → GivesInput f (next h)) → GivesInput f (asks c next)
asks-none f c next q g u t a k (h, v, asked, more) = g h v t a k more ∙ ap (λ (x : List ℕ). x ++ bytes_in a) (input-other f u v c h q asked)

disconnect-none : (f : Fd) (s : Sock) (h : Heard) → GivesInput f (on_disconnect s h)
disconnect-none f s (Broken reason seq) = gives-none f _ _ refl
disconnect-none f s h = stops-none f h s

reset-none : (f : Fd) (s : Sock) → GivesInput f (reset s)
reset-none f s = asks-none f (TRcvDis s.fd 0) (on_disconnect s) (λ o. refl) (disconnect-none f s)

release-none : (f : Fd) (s : Sock) (next : Script) → GivesInput f next → GivesInput f (release next s)
release-none f s next g = asks-none f (TRcvRel s.fd) (on_release next s) (λ o. refl) by-heard
  where
    by-heard : (h : Heard) → GivesInput f (on_release next s h)
    by-heard Done = g
    by-heard h = stops-none f h s

turn-gives : (s : Sock) (max : ℕ) (again : Script) → GivesInput s.fd again → GivesInput s.fd (recv_turn s max again)
turn-gives s max again g u t a k (h, v, asked, more) = by-heard h asked more
  where
    -- nothing was received
    empty : (h : Heard) → bytes_heard h ≡ [] → Asked u (TRcv s.fd max) h v → input s.fd t.mine ≡ input s.fd v.mine ++ bytes_in a → input s.fd t.mine ≡ input s.fd u.mine ++ bytes_in a
    empty h z x e = e ∙ ap (λ (y : List ℕ). y ++ bytes_in a) (input-recv s.fd max u v h x ∙ (rw z (append-nil (input s.fd u.mine))))

    by-heard : (h : Heard) → Asked u (TRcv s.fd max) h v → Runs (on_recv again s h) v t a k → input s.fd t.mine ≡ input s.fd u.mine ++ bytes_in a
    by-heard (Got bytes) x r = rw (r.0, r.1) (input-recv s.fd max u v (Got bytes) x)
    by-heard Urgent x r = empty Urgent refl x (g v t a k r)
    by-heard Disconnect x r = empty Disconnect refl x (reset-none s.fd s v t a k r)
    by-heard Release x r = empty Release refl x (release-none s.fd s _ (gives-none s.fd _ _ refl) v t a k r)
    by-heard h x r = empty h refl x (stops-none s.fd h s v t a k r)

recv-turns-give : (n : ℕ) (s : Sock) (max : ℕ) → GivesInput s.fd (recv_turns n s max)
unfolding recv_turns
recv-turns-give zero s max = gives-none s.fd _ _ refl
recv-turns-give (suc n) s max = turn-gives s max (recv_turns n s max) (recv-turns-give n s max)

pub recv-gives : (s : Sock) (max : ℕ) → GivesInput s.fd (recv s max)
recv-gives s max = by-phase s.phase
  where
    by-phase : (q : Phase) → GivesInput s.fd (recv_in q s max)
    by-phase (phase.Open shut false) = recv-turns-give MOST_TURNS s max
    by-phase (phase.Open shut true) = gives-none s.fd _ _ refl
    by-phase q = gives-none s.fd _ _ refl
