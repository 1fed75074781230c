-- A step is blocked exactly where its want is.
use Rattle.std.proofs.Common.{ℕ, Bool, true, false, List, [], ◌∷◌, ◌≡◌, refl, sym, ap, ◌∙◌, ◌+◌, ◌++◌, ◌-◌, ◌<◌, ◌||◌, ◌&&◌, not, length, eqb, Option, Some, None, arith}
use Rattle.std.specs.Prelude.{is_none, option_and_then}
use Rattle.std.specs.List.{concat}
use Rattle.std.proofs.lemmas.Bool.{ne_eqb, false≢true}
use Rattle.xti_base.specs.declared.errno.Errno.TheVariants.{TBADFLAG, TBADDATA, TBADADDR, TBADOPT, TBADQLEN, TQFULL, TFLOW, TNODATA}
use Rattle.xti_base.specs.declared.kinds.State.TheVariants.{T_IDLE, T_OUTCON, T_INCON}
use Rattle.xti_model.specs.declared.call.Call.{Call}
use Rattle.xti_model.specs.declared.call.Call.TheVariants as call
use Rattle.xti_model.specs.declared.entry.Go.{Go}
use Rattle.xti_model.specs.declared.entry.Go.TheVariants as go
use Rattle.xti_model.specs.declared.profile.Providers.{Providers}
use Rattle.xti_model.specs.Provider.{profile}
use Rattle.xti_model.specs.Sending.{message_limit, unfinished, ready_for, takes_datagram}
use Rattle.xti_model.specs.Endpoint.{Endpoint, ocnt}
use Rattle.xti_model.specs.Events.{sending, receiving, some_wait, looks_data, looks_datagrams, looks_disconnect}
use Rattle.xti_model.specs.Arguments.{bad_address, bad_options, is_too_many, is_expedited, has_other_flags}
use Rattle.xti_model.specs.World.{World, Switch, endpoint, the_switch}
use Rattle.xti_model.specs.Switch.{bound, opening_place}
use Rattle.xti_model.specs.Links.{linked}
use Rattle.xti_model.specs.Plan.{Row, Field, first, refuses, not_ready, overflows, outside, looks, without_connections, without_datagrams, later_plan}
use Rattle.xti_model.specs.Step.{plan, step, step_of, send}
use Rattle.xti_model.specs.Wants.{Want, want_of, want_rows, want_to_send, is_bad_left, is_bad_length, is_waiting, send_arguments, datagram_arguments}
use Rattle.xti_model.specs.History.{taken_before}
use Rattle.xti_model.specs.Wants as Wants
use Rattle.xti_model.specs.Calls.Connect as Connect
use Rattle.xti_model.specs.Calls.Listen as Listen
use Rattle.xti_model.specs.Calls.Send as Send
use Rattle.xti_model.specs.Calls.Receive as Receive
use Rattle.xti_model.specs.Calls.Datagrams as Datagrams
use Rattle.xti_laws.specs.Waiting.{BlockedAsWanted}
use Rattle.xti_laws.proofs.BlockingRows.{step_of-blocked, on_open-blocked, on_open-never, no_wait, same_row, later-waits, waits_at, and-false, NoWait}
use Rattle.xti_model.specs.Calls.Open as Open

-- fields that are too long don't wait, however many bytes are taken
overflow_last : (rows : List Row) (xs ys : List Field) → is_waiting (first (rows ++ overflows xs ∷ [])) ≡ is_waiting (first (rows ++ overflows ys ∷ []))
overflow_last [] xs ys = no_wait (overflows xs ∷ []) (refl, tt) ∙ sym (no_wait (overflows ys ∷ []) (refl, tt))
overflow_last (row ∷ rows) xs ys = same_row row (rows ++ overflows xs ∷ []) (rows ++ overflows ys ∷ []) (overflow_last rows xs ys)

confirm-waits : (amax omax umax : ℕ) (e : Endpoint) → is_waiting (first (Connect.confirm_rows amax omax umax e)) ≡ is_waiting (first (Connect.confirm_rows 0 0 0 e))
confirm-waits amax omax umax e =
    overflow_last (without_connections e ∷ outside (T_OUTCON ∷ []) e ∷ looks looks_disconnect e ∷ not_ready (is_none e.confirmation) TNODATA ∷ [])
    (Connect.fields (Connect.confirmation_or e.confirmation) amax omax umax) (Connect.fields (Connect.confirmation_or e.confirmation) 0 0 0)

listen-waits : (amax omax umax : ℕ) (e : Endpoint) → is_waiting (first (Listen.listen_rows amax omax umax e)) ≡ is_waiting (first (Listen.listen_rows 0 0 0 e))
listen-waits amax omax umax e =
    overflow_last (without_connections e ∷ outside (T_IDLE ∷ T_INCON ∷ []) e ∷ refuses (eqb e.qlen 0) TBADQLEN ∷ refuses (eqb (ocnt e) e.qlen) TQFULL ∷ looks looks_disconnect e ∷ not_ready (not (some_wait e.pending)) TNODATA ∷ [])
    (Listen.fields (Listen.oldest e) amax omax umax) (Listen.fields (Listen.oldest e) 0 0 0)

receive-waits : (sizes : ℕ) (e : Endpoint) → is_none (first (refuses (is_too_many sizes) TBADDATA ∷ [])) ≡ true → is_waiting (first (Receive.rows sizes e)) ≡ is_waiting (first (Receive.rows 1 e))
receive-waits sizes e = go (is_too_many sizes)
  where
    go : (b : Bool) → is_none (first (refuses b TBADDATA ∷ [])) ≡ true → is_waiting (first (without_connections e ∷ outside receiving e ∷ refuses b TBADDATA ∷ looks looks_data e ∷ not_ready (Receive.has_nothing e) TNODATA ∷ [])) ≡ is_waiting (first (Receive.rows 1 e))
    go true h = absurd (false≢true h)
    go false h = refl

datagram_receive-waits : (sizes amax omax : ℕ) (e : Endpoint) → is_none (first (refuses (is_too_many sizes) TBADDATA ∷ [])) ≡ true → is_waiting (first (Datagrams.receive_rows sizes amax omax e)) ≡ is_waiting (first (Datagrams.receive_rows 1 0 0 e))
datagram_receive-waits sizes amax omax e = go (is_too_many sizes)
  where
    go : (b : Bool) → is_none (first (refuses b TBADDATA ∷ [])) ≡ true
        → is_waiting (first (without_datagrams e ∷ outside (T_IDLE ∷ []) e ∷ refuses b TBADDATA ∷ looks looks_datagrams e ∷ not_ready (not (some_wait e.datagrams)) TNODATA ∷ overflows (Datagrams.fields (Datagrams.told e) amax omax) ∷ [])) ≡ is_waiting (first (Datagrams.receive_rows 1 0 0 e))
    go true h = absurd (false≢true h)
    go false h = overflow_last (without_datagrams e ∷ outside (T_IDLE ∷ []) e ∷ refuses false TBADDATA ∷ looks looks_datagrams e ∷ not_ready (not (some_wait e.datagrams)) TNODATA ∷ [])
        (Datagrams.fields (Datagrams.told e) amax omax) (Datagrams.fields (Datagrams.told e) 0 0)

datagram-waits : (p : Providers) (address options : List ℕ) (parts : ℕ) (bytes : List ℕ) (there : Option Endpoint) (e : Endpoint) → is_none (first (datagram_arguments address options parts)) ≡ true
    → is_waiting (first (Datagrams.send_rows p address options parts bytes there e)) ≡ is_waiting (first (Wants.datagram_rows p (length bytes) there e))
datagram-waits p address options parts bytes there e = go (bad_address address).holds (bad_options options).holds (is_too_many parts)
  where
    go : (a b d : Bool) → is_none (first (refuses a TBADADDR ∷ refuses b TBADOPT ∷ refuses d TBADDATA ∷ [])) ≡ true
        → is_waiting (first (without_datagrams e ∷ outside (T_IDLE ∷ []) e ∷ refuses a TBADADDR ∷ refuses b TBADOPT ∷ refuses d TBADDATA ∷ refuses (Datagrams.is_bad_datagram (profile p e.prov) bytes) TBADDATA ∷ looks looks_datagrams e ∷ not_ready (not (takes_datagram there)) TFLOW ∷ []))
        ≡ is_waiting (first (Wants.datagram_rows p (length bytes) there e))
    go true b d h = absurd (false≢true h)
    go false true d h = absurd (false≢true h)
    go false false true h = absurd (false≢true h)
    go false false false h = refl

-- a send that begins has all bytes left, and one that goes on has some
abbrev Goes : ℕ → Go → Type 0
Goes n go.Begin = Unit
Goes n (go.More taken) = taken < n

left-none : (n : ℕ) (g : Go) → Goes n g → eqb n 0 ≡ eqb (n - taken_before g) 0
left-none n go.Begin h = ap (λ x. eqb x 0) (omega arith)
left-none n (go.More taken) h = ne_eqb n 0 (λ e. omega (arith, h, e)) ∙ sym (ne_eqb (n - taken) 0 (λ e. omega (arith, h, e)))

send-waits : (p : Providers) (parts : ℕ) (bytes : List ℕ) (flags : ℕ) (g : Go) (peer : Option Endpoint) (e : Endpoint) → Goes (length bytes) g → is_none (first (send_arguments parts bytes flags)) ≡ true
    → is_waiting (first (Send.rows p parts bytes flags (taken_before g) peer e)) ≡ is_waiting (first (Wants.send_rows p (length bytes - taken_before g) flags peer e))
send-waits p parts bytes flags g peer e k h = go (has_other_flags flags) (Send.is_too_much parts bytes) h ∙
    ap (λ b. is_waiting (first (without_connections e ∷ outside sending e ∷ refuses ((b && not (profile p e.prov).sendzero) || Send.is_over (message_limit p e (is_expedited flags)) (unfinished (is_expedited flags) e + (length bytes - taken_before g))) TBADDATA ∷ looks looks_data e ∷ not_ready (not (ready_for (is_expedited flags) e peer)) TFLOW ∷ []))) (left-none (length bytes) g k)
  where
    go : (a b : Bool) → is_none (first (refuses a TBADFLAG ∷ refuses b TBADDATA ∷ [])) ≡ true
        → is_waiting (first (without_connections e ∷ refuses a TBADFLAG ∷ outside sending e ∷ refuses b TBADDATA ∷ refuses (Send.is_bad_data p bytes (is_expedited flags) (taken_before g) e) TBADDATA ∷ looks looks_data e ∷ not_ready (not (ready_for (is_expedited flags) e peer)) TFLOW ∷ []))
        ≡ is_waiting (first (without_connections e ∷ outside sending e ∷ refuses (Send.is_bad_data p bytes (is_expedited flags) (taken_before g) e) TBADDATA ∷ looks looks_data e ∷ not_ready (not (ready_for (is_expedited flags) e peer)) TFLOW ∷ []))
    go true b h = absurd (false≢true h)
    go false true h = absurd (false≢true h)
    go false false h = refl

send-blocked : (p : Providers) (w : World) (fd parts : ℕ) (bytes : List ℕ) (flags : ℕ) (g : Go) → Goes (length bytes) g → is_none (first (send_arguments parts bytes flags)) ≡ true
    → is_none (step_of p w (send p w fd parts bytes flags g)) ≡ waits_at (λ e. Wants.send_rows p (length bytes - taken_before g) flags (linked p w fd e) e) (endpoint p w fd)
send-blocked p w fd parts bytes flags go.Begin k h = on_open-blocked p w fd (λ e. Send.plan_to p fd parts bytes flags 0 e (linked p w fd e)) (λ e. Wants.send_rows p (length bytes - 0) flags (linked p w fd e) e)
    (λ e. (refl, send-waits p parts bytes flags go.Begin (linked p w fd e) e k h))
send-blocked p w fd parts bytes flags (go.More n) k h =
    (step_of-blocked p w (later_plan n (Send.plan p w fd parts bytes flags n)) ∙
    (ap (λ b. not (Send.plan p w fd parts bytes flags n).nonblock && b) (later-waits n (Send.plan p w fd parts bytes flags n).rows) ∙
    sym (step_of-blocked p w (Send.plan p w fd parts bytes flags n)))) ∙
    on_open-blocked p w fd (λ e. Send.plan_to p fd parts bytes flags n e (linked p w fd e)) (λ e. Wants.send_rows p (length bytes - n) flags (linked p w fd e) e)
    (λ e. (refl, send-waits p parts bytes flags (go.More n) (linked p w fd e) e k h))

connect-blocked : (p : Providers) (w : World) (fd : _) (addr opt udata : List ℕ) (amax omax umax : ℕ) (g : Go) → BlockedAsWanted p w (call.TConnect fd addr opt udata amax omax umax) g
unfolding step plan
connect-blocked p w fd addr opt udata amax omax umax go.Begin h k = on_open-never p w fd.0 (λ e. Connect.plan_to fd.0 addr opt udata e (Connect.found p w fd.0 addr e)) (λ e. (refl, (refl, (refl, (refl, (refl, (refl, tt)))))))
connect-blocked p w fd addr opt udata amax omax umax (go.More n) h k = on_open-blocked p w fd.0 _ (Connect.confirm_rows 0 0 0) (λ e. (refl, confirm-waits amax omax umax e))

snd-goes : (p : Providers) (fd : _) (bytes : List ℕ) (flags : ℕ) (g : Go) → Wants.HasLeft (call.TSnd fd bytes flags) g → Goes (length bytes) g
snd-goes p fd bytes flags go.Begin h = tt
snd-goes p fd bytes flags (go.More n) h = h

sndv-goes : (p : Providers) (fd : _) (parts : List (List ℕ)) (flags : ℕ) (g : Go) → Wants.HasLeft (call.TSndV fd parts flags) g → Goes (length (concat parts)) g
sndv-goes p fd parts flags go.Begin h = tt
sndv-goes p fd parts flags (go.More n) h = h

accept-never : (p : Providers) (w : World) (fd resfd number : ℕ) (options udata : List ℕ) → is_none (step_of p w (Listen.accept_plan p w fd resfd number options udata)) ≡ false
accept-never p w fd resfd number options udata = on_open-never p w fd (λ e. Listen.accept_with p fd resfd number options udata e (endpoint p w resfd)) (λ e. go e (endpoint p w resfd))
  where
    go : (e : Endpoint) (o : Option Endpoint) → NoWait (Listen.accept_with p fd resfd number options udata e o).rows
    go e None = (refl, tt)
    go e (Some r) = (refl, (refl, (refl, (refl, (refl, (refl, (refl, (refl, (refl, (refl, (refl, tt)))))))))))

open-never : (p : Providers) (w : World) (s : Switch) (prov : _) (nonblock : Bool) (o : Option ℕ) → is_none (step_of p w (Open.plan_where p s prov nonblock o)) ≡ false
open-never p w s prov nonblock None = step_of-blocked p w (Open.plan_where p s prov nonblock None) ∙ (ap (λ b. not nonblock && b) (no_wait (Open.rows p s prov) (refl, (refl, tt))) ∙ and-false (not nonblock))
open-never p w s prov nonblock (Some n) = step_of-blocked p w (Open.plan_where p s prov nonblock (Some n)) ∙ (ap (λ b. not nonblock && b) (no_wait (Open.rows p s prov) (refl, (refl, tt))) ∙ and-false (not nonblock))

pub blocked-as-wanted : (p : Providers) (w : World) (c : Call) (g : Go) → BlockedAsWanted p w c g
unfolding step plan
blocked-as-wanted p w (call.TOpen prov nonblock) g h k = open-never p w (the_switch p w) prov nonblock (opening_place p (the_switch p w) prov)
blocked-as-wanted p w (call.TClose fd) g h k = on_open-never p w fd.0 _ (λ e. tt)
blocked-as-wanted p w (call.TBind fd addr qlen amax) g h k = on_open-never p w fd.0 _ (λ e. (refl, (refl, (refl, (refl, tt)))))
blocked-as-wanted p w (call.TUnbind fd) g h k = on_open-never p w fd.0 _ (λ e. (refl, (refl, tt)))
blocked-as-wanted p w (call.TConnect fd addr opt udata amax omax umax) g h k = connect-blocked p w fd addr opt udata amax omax umax g h k
blocked-as-wanted p w (call.TRcvConnect fd amax omax umax) g h k = on_open-blocked p w fd.0 _ (Connect.confirm_rows 0 0 0) (λ e. (refl, confirm-waits amax omax umax e))
blocked-as-wanted p w (call.TListen fd amax omax umax) g h k = on_open-blocked p w fd.0 _ (Listen.listen_rows 0 0 0) (λ e. (refl, listen-waits amax omax umax e))
blocked-as-wanted p w (call.TAccept fd resfd seq opt udata) g h k = accept-never p w fd.0 resfd.0 seq.0 opt udata
blocked-as-wanted p w (call.TSnd fd bytes flags) g h k = send-blocked p w fd.0 1 bytes flags g (snd-goes p fd bytes flags g k) h
blocked-as-wanted p w (call.TSndV fd parts flags) g h k = send-blocked p w fd.0 (length parts) (concat parts) flags g (sndv-goes p fd parts flags g k) h
blocked-as-wanted p w (call.TRcv fd max) g h k = on_open-blocked p w fd.0 _ (Receive.rows 1) (λ e. (refl, refl))
blocked-as-wanted p w (call.TRcvV fd sizes) g h k = on_open-blocked p w fd.0 _ (Receive.rows 1) (λ e. (refl, receive-waits (length sizes) e h))
blocked-as-wanted p w (call.TSndDis fd seq udata) g h k = on_open-never p w fd.0 _ (λ e. (refl, (refl, (refl, (refl, (refl, tt))))))
blocked-as-wanted p w (call.TRcvDis fd umax) g h k = on_open-never p w fd.0 _ (λ e. (refl, (refl, (refl, (refl, tt)))))
blocked-as-wanted p w (call.TSndRel fd) g h k = on_open-never p w fd.0 _ (λ e. (refl, (refl, (refl, (refl, tt)))))
blocked-as-wanted p w (call.TRcvRel fd) g h k = on_open-never p w fd.0 _ (λ e. (refl, (refl, (refl, (refl, (refl, tt))))))
blocked-as-wanted p w (call.TSndRelData fd udata) g h k = on_open-never p w fd.0 _ (λ e. (refl, (refl, (refl, (refl, tt)))))
blocked-as-wanted p w (call.TRcvRelData fd umax) g h k = on_open-never p w fd.0 _ (λ e. (refl, (refl, (refl, (refl, (refl, tt))))))
blocked-as-wanted p w (call.TSndUData fd addr opt bytes) g h k = on_open-blocked p w fd.0 _ (λ e. Wants.datagram_rows p (length bytes) (option_and_then (endpoint p w) (bound (the_switch p w) e.prov addr)) e)
    (λ e. (refl, datagram-waits p addr opt 1 bytes (option_and_then (endpoint p w) (bound (the_switch p w) e.prov addr)) e h))
blocked-as-wanted p w (call.TSndVUData fd addr opt parts) g h k = on_open-blocked p w fd.0 _ (λ e. Wants.datagram_rows p (length (concat parts)) (option_and_then (endpoint p w) (bound (the_switch p w) e.prov addr)) e)
    (λ e. (refl, datagram-waits p addr opt (length parts) (concat parts) (option_and_then (endpoint p w) (bound (the_switch p w) e.prov addr)) e h))
blocked-as-wanted p w (call.TRcvUData fd max amax omax) g h k = on_open-blocked p w fd.0 _ (Datagrams.receive_rows 1 0 0) (λ e. (refl, datagram_receive-waits 1 amax omax e refl))
blocked-as-wanted p w (call.TRcvVUData fd sizes amax omax) g h k = on_open-blocked p w fd.0 _ (Datagrams.receive_rows 1 0 0) (λ e. (refl, datagram_receive-waits (length sizes) amax omax e h))
blocked-as-wanted p w (call.TRcvUDErr fd amax omax) g h k = on_open-never p w fd.0 _ (λ e. (refl, (refl, (refl, (refl, tt)))))
blocked-as-wanted p w (call.TLookAt fd) g h k = on_open-never p w fd.0 _ (λ e. tt)
blocked-as-wanted p w (call.TGetState fd) g h k = on_open-never p w fd.0 _ (λ e. tt)
blocked-as-wanted p w (call.TSync fd) g h k = on_open-never p w fd.0 _ (λ e. tt)
blocked-as-wanted p w (call.TGetInfo fd) g h k = on_open-never p w fd.0 _ (λ e. tt)
blocked-as-wanted p w (call.TGetProtAddr fd amax pmax) g h k = on_open-never p w fd.0 _ (λ e. (refl, tt))
blocked-as-wanted p w (call.TOptMgmt fd action opt omax) g h k = on_open-never p w fd.0 _ (λ e. (refl, (refl, (refl, tt))))
blocked-as-wanted p w (call.SetMode fd nonblock) g h k = on_open-never p w fd.0 _ (λ e. tt)
