-- A call whose step is blocked has good arguments.
use Rattle.std.proofs.Common.{ℕ, Bool, true, false, List, [], ◌∷◌, ◌≡◌, refl, sym, ◌∙◌, length, drop}
use Rattle.std.specs.Prelude.{is_none, sum}
use Rattle.std.specs.List.{concat}
use Rattle.std.proofs.lemmas.Bool.{false≢true}
use Rattle.xti_base.specs.declared.errno.Errno.TheVariants.{TBADADDR, TBADFLAG, TBADOPT, TBADDATA}
use Rattle.xti_base.specs.declared.kinds.State.TheVariants.{T_IDLE}
use Rattle.xti_model.specs.declared.call.Call.{Call}
use Rattle.xti_model.specs.declared.call.Call.TheVariants as call
use Rattle.xti_model.specs.declared.entry.Go.{Go}
use Rattle.xti_model.specs.declared.entry.Go.TheVariants as go
use Rattle.xti_model.specs.declared.profile.Providers.{Providers}
use Rattle.xti_model.specs.Events.{sending, receiving, some_wait}
use Rattle.xti_model.specs.Arguments.{bad_address, bad_options, is_too_many, has_other_flags}
use Rattle.xti_model.specs.World.{World, at_endpoint, the_switch}
use Rattle.xti_model.specs.Switch.{bound}
use Rattle.xti_model.specs.Links.{linked}
use Rattle.xti_model.specs.Plan.{Row, first, refuses, outside, without_connections, without_datagrams, later_plan, plan_of}
use Rattle.xti_model.specs.declared.entry.Outcome.TheVariants.{Done}
use Rattle.xti_model.specs.Step.{plan, step, step_of, send}
use Rattle.xti_model.specs.Wants.{is_waiting, send_arguments, datagram_arguments}
use Rattle.xti_model.specs.Calls.Send as Send
use Rattle.xti_model.specs.Calls.Receive as Receive
use Rattle.xti_model.specs.Calls.Datagrams as Datagrams
use Rattle.xti_laws.specs.Waiting.{BlockedHasGoodArguments}
use Rattle.xti_laws.proofs.BlockingRows.{blocked-waits, open-waits, later-waits}

-- among rows that answer, none holds before one that waits
two_rows : (s a t b : Bool) (x y u v : _) (rest : List Row) → is_waiting (first (refuses s x ∷ refuses a u ∷ refuses t y ∷ refuses b v ∷ rest)) ≡ true → is_none (first (refuses a u ∷ refuses b v ∷ [])) ≡ true
two_rows true a t b x y u v rest h = absurd (false≢true h)
two_rows false true t b x y u v rest h = absurd (false≢true h)
two_rows false false true b x y u v rest h = absurd (false≢true h)
two_rows false false false true x y u v rest h = absurd (false≢true h)
two_rows false false false false x y u v rest h = refl

three_rows : (s t a b d : Bool) (x y u v z : _) (rest : List Row) → is_waiting (first (refuses s x ∷ refuses t y ∷ refuses a u ∷ refuses b v ∷ refuses d z ∷ rest)) ≡ true → is_none (first (refuses a u ∷ refuses b v ∷ refuses d z ∷ [])) ≡ true
three_rows true t a b d x y u v z rest h = absurd (false≢true h)
three_rows false true a b d x y u v z rest h = absurd (false≢true h)
three_rows false false true b d x y u v z rest h = absurd (false≢true h)
three_rows false false false true d x y u v z rest h = absurd (false≢true h)
three_rows false false false false true x y u v z rest h = absurd (false≢true h)
three_rows false false false false false x y u v z rest h = refl

one_row : (s t a : Bool) (x y u : _) (rest : List Row) → is_waiting (first (refuses s x ∷ refuses t y ∷ refuses a u ∷ rest)) ≡ true → is_none (first (refuses a u ∷ [])) ≡ true
one_row true t a x y u rest h = absurd (false≢true h)
one_row false true a x y u rest h = absurd (false≢true h)
one_row false false true x y u rest h = absurd (false≢true h)
one_row false false false x y u rest h = refl

send-good : (p : Providers) (fd parts : ℕ) (bytes : List ℕ) (flags taken : ℕ) (w : World) → is_waiting (first (Send.plan p w fd parts bytes flags taken).rows) ≡ true → is_none (first (send_arguments parts bytes flags)) ≡ true
send-good p fd parts bytes flags taken w = open-waits p w fd (λ e. Send.plan_to p fd parts bytes flags taken e (linked p w fd e)) (is_none (first (send_arguments parts bytes flags)) ≡ true)
    (λ e. two_rows (without_connections e).holds (has_other_flags flags) (outside sending e).holds (Send.is_too_much parts bytes) _ _ TBADFLAG TBADDATA (drop 4 (Send.plan_to p fd parts bytes flags taken e (linked p w fd e)).rows))

sends-good : (p : Providers) (w : World) (fd parts : ℕ) (bytes : List ℕ) (flags : ℕ) (g : Go) → is_none (step_of p w (send p w fd parts bytes flags g)) ≡ true → is_none (first (send_arguments parts bytes flags)) ≡ true
sends-good p w fd parts bytes flags go.Begin h = send-good p fd parts bytes flags 0 w (blocked-waits p w (Send.plan p w fd parts bytes flags 0) h)
sends-good p w fd parts bytes flags (go.More n) h = send-good p fd parts bytes flags n w (sym (later-waits n (Send.plan p w fd parts bytes flags n).rows) ∙ blocked-waits p w (later_plan n (Send.plan p w fd parts bytes flags n)) h)

datagram-good : (p : Providers) (w : World) (fd : ℕ) (address options : List ℕ) (parts : ℕ) (bytes : List ℕ) → is_none (step_of p w (Datagrams.send_plan p w fd address options parts bytes)) ≡ true → is_none (first (datagram_arguments address options parts)) ≡ true
datagram-good p w fd address options parts bytes h =
    open-waits p w fd (λ e. Datagrams.send_from p w fd address options parts bytes e (bound (the_switch p w) e.prov address)) (is_none (first (datagram_arguments address options parts)) ≡ true)
    (λ e. three_rows (without_datagrams e).holds (outside (T_IDLE ∷ []) e).holds (bad_address address).holds (bad_options options).holds (is_too_many parts) _ _ TBADADDR TBADOPT TBADDATA (drop 5 (Datagrams.send_from p w fd address options parts bytes e (bound (the_switch p w) e.prov address)).rows))
    (blocked-waits p w (Datagrams.send_plan p w fd address options parts bytes) h)

pub blocked-good : (p : Providers) (w : World) (c : Call) (g : Go) → BlockedHasGoodArguments p w c g
unfolding step plan
blocked-good p w (call.TSnd fd bytes flags) g h = sends-good p w fd.0 1 bytes flags g h
blocked-good p w (call.TSndV fd parts flags) g h = sends-good p w fd.0 (length parts) (concat parts) flags g h
blocked-good p w (call.TRcvV fd sizes) g h =
    open-waits p w fd.0 (λ e. plan_of fd.0 e (Receive.rows (length sizes) e) (at_endpoint fd.0 (Receive.received p (sum sizes)) ∷ []) (Done (Receive.got p (some_wait e.expedited) (sum sizes) e))) (is_none (first (refuses (is_too_many (length sizes)) TBADDATA ∷ [])) ≡ true)
    (λ e. one_row (without_connections e).holds (outside receiving e).holds (is_too_many (length sizes)) _ _ TBADDATA (drop 3 (Receive.rows (length sizes) e))) (blocked-waits p w (Receive.plan p w fd.0 (length sizes) (sum sizes)) h)
blocked-good p w (call.TSndUData fd addr opt bytes) g h = datagram-good p w fd.0 addr opt 1 bytes h
blocked-good p w (call.TSndVUData fd addr opt parts) g h = datagram-good p w fd.0 addr opt (length parts) (concat parts) h
blocked-good p w (call.TRcvVUData fd sizes amax omax) g h =
    open-waits p w fd.0 (Datagrams.receive_from fd.0 (length sizes) (sum sizes) amax omax) (is_none (first (refuses (is_too_many (length sizes)) TBADDATA ∷ [])) ≡ true)
    (λ e. one_row (without_datagrams e).holds (outside (T_IDLE ∷ []) e).holds (is_too_many (length sizes)) _ _ TBADDATA (drop 3 (Datagrams.receive_rows (length sizes) amax omax e))) (blocked-waits p w (Datagrams.receive_plan p w fd.0 (length sizes) (sum sizes) amax omax) h)
blocked-good p w other g h = refl
