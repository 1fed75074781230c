-- The script of each socket call of a copy, whose calls are answered as in its entries.
use Rattle.std.proofs.Common.{◌≡◌, ℕ, Bool, true, false, List, [], ◌∷◌, length, take, drop, Ok, Err, refl, sym, subst}
use Rattle.xti_base.specs.declared.kinds.Event.TheVariants.{T_ORDREL}
use Rattle.xti_base.specs.declared.kinds.Fd.{Fd}
use Rattle.xti_base.specs.declared.kinds.State.{State}
use Rattle.xti_model.specs.declared.call.Call.{Call}
use Rattle.xti_model.specs.declared.call.Call.TheVariants as call
use Rattle.xti_model.specs.declared.entry.Reply.{Reply}
use Rattle.xti_model.specs.declared.entry.Reply.TheVariants as reply
use Rattle.xti_laws_streams.specs.Copying.{answered, service, listener, client}
use Rattle.xti_sock.specs.declared.fail.SockFail.TheVariants.{WouldBlock}
use Rattle.xti_sock.specs.declared.phase.Phase.TheVariants.{Named, Open, Dead}
use Rattle.xti_sock.specs.declared.sock.Sock.{Sock}
use Rattle.xti_sock.specs.Accepting.{accept, accept_turns}
use Rattle.xti_sock.specs.Rows.{new_sock, bind, listen, connect, finish, send, recv, recv_turns, shutdown, is_dead, close}
use Rattle.xti_sock.specs.Scripts.{nothing, count, octets, socket}
use Rattle.xti_sock.specs.Socks.{in_phase}
use Rattle.xti_copy.specs.Ends.{accepting, asking, listening_sock, asking_sock, client_sock, receiver_sock}
use Rattle.xti_copy.proofs.Following.{Follows, IsAnswer}

is : (c : Call) (r : Reply) (after : State) → IsAnswer c r (answered c r after)
is c r after = record { worker = refl; begins = refl; outcome = refl }

abbrev pub named : Sock
named = in_phase (new_sock listener) (Named service false)

pub bind-follows : (s : Sock) → s ≡ new_sock listener → Follows (bind s service) [] (Ok nothing) named
bind-follows s e = subst (λ (z : Sock). Follows (bind z service) [] (Ok nothing) named) (sym e) (refl, refl)

pub listen-follows : (s : Sock) (after : State) → s ≡ named → Follows (listen s 1) (answered (call.TBind listener service 1 0) (reply.Bound [] 1) after ∷ []) (Ok nothing) listening_sock
listen-follows s after e = subst (λ (z : Sock). Follows (listen z 1) (answered (call.TBind listener service 1 0) (reply.Bound [] 1) after ∷ []) (Ok nothing) listening_sock) (sym e) (_, is _ _ _, λ n. tt, (refl, refl))

pub connect-follows : (s : Sock) → s ≡ new_sock client → Follows (connect s service) (drop 1 asking) (Err WouldBlock) asking_sock
connect-follows s e = subst (λ (z : Sock). Follows (connect z service) (drop 1 asking) (Err WouldBlock) asking_sock) (sym e)
    (_, is _ _ _, λ n. tt, (_, is _ _ _, λ n. tt, (refl, refl)))

pub accept-follows : (s : Sock) → s ≡ listening_sock → Follows (accept s true) (take 3 accepting) (Ok (socket receiver_sock)) listening_sock
unfolding accept_turns
accept-follows s e = subst (λ (z : Sock). Follows (accept z true) (take 3 accepting) (Ok (socket receiver_sock)) listening_sock) (sym e)
    (_, is _ _ _, λ n. tt, (_, is _ _ _, λ n. tt, (_, is _ _ _, λ n. tt, (refl, refl))))

pub finish-follows : (s : Sock) → s ≡ asking_sock → Follows (finish s) (drop 3 accepting) (Ok nothing) client_sock
finish-follows s e = subst (λ (z : Sock). Follows (finish z) (drop 3 accepting) (Ok nothing) client_sock) (sym e) (_, is _ _ _, λ n. tt, (refl, refl))

pub send-follows : (s : Sock) (fd : Fd) (ended : Bool) (piece : List ℕ) (after : State) → s ≡ in_phase (new_sock fd) (Open false ended) →
    Follows (send s piece) (answered (call.TSnd fd piece 0) (reply.Sent (length piece)) after ∷ []) (Ok (count (length piece))) s
send-follows s fd ended piece after e =
    subst (λ (z : Sock). Follows (send z piece) (answered (call.TSnd fd piece 0) (reply.Sent (length piece)) after ∷ []) (Ok (count (length piece))) z) (sym e) (_, is _ _ _, λ n. tt, (refl, refl))

pub recv-follows : (s : Sock) (fd : Fd) (shut : Bool) (max : ℕ) (piece : List ℕ) (after : State) → s ≡ in_phase (new_sock fd) (Open shut false) →
    Follows (recv s max) (answered (call.TRcv fd max) (reply.Got piece 0) after ∷ []) (Ok (octets piece)) s
unfolding recv_turns
recv-follows s fd shut max piece after e =
    subst (λ (z : Sock). Follows (recv z max) (answered (call.TRcv fd max) (reply.Got piece 0) after ∷ []) (Ok (octets piece)) z) (sym e) (_, is _ _ _, λ n. tt, (refl, refl))

pub end-follows : (s : Sock) (fd : Fd) (shut : Bool) (max : ℕ) (after at : State) → s ≡ in_phase (new_sock fd) (Open shut false) →
    Follows (recv s max) (answered (call.TRcv fd max) (reply.Look T_ORDREL) after ∷ answered (call.TRcvRel fd) reply.Plain at ∷ []) (Ok (octets [])) (in_phase (new_sock fd) (Open shut true))
unfolding recv_turns
end-follows s fd shut max after at e =
    subst (λ (z : Sock). Follows (recv z max) (answered (call.TRcv fd max) (reply.Look T_ORDREL) after ∷ answered (call.TRcvRel fd) reply.Plain at ∷ []) (Ok (octets [])) (in_phase (new_sock fd) (Open shut true))) (sym e)
    (_, is _ _ _, λ n. tt, (_, is _ _ _, λ n. tt, (refl, refl)))

pub shutdown-follows : (s : Sock) (fd : Fd) (ended : Bool) (after : State) → s ≡ in_phase (new_sock fd) (Open false ended) →
    Follows (shutdown s) (answered (call.TSndRel fd) reply.Plain after ∷ []) (Ok nothing) (in_phase (new_sock fd) (Open true ended))
shutdown-follows s fd ended after e =
    subst (λ (z : Sock). Follows (shutdown z) (answered (call.TSndRel fd) reply.Plain after ∷ []) (Ok nothing) (in_phase (new_sock fd) (Open true ended))) (sym e) (_, is _ _ _, λ n. tt, (refl, refl))

pub close-follows : (s : Sock) (k : Sock) (after : State) → s ≡ k → is_dead k.phase ≡ false →
    Follows (close s) (answered (call.TClose k.fd) reply.Plain after ∷ []) (Ok nothing) (in_phase k Dead)
close-follows s k after e h =
    subst (λ (z : Sock). Follows (close z) (answered (call.TClose k.fd) reply.Plain after ∷ []) (Ok nothing) (in_phase k Dead)) (sym e) (rw h (_, is _ _ _, λ n. tt, (refl, refl)))
