-- A piece is sent whole and received whole, and then nothing waits.
use Rattle.std.proofs.Common.{ℕ, Bool, true, false, cond, List, [], ◌∷◌, ◌++◌, ◌≡◌, ◌<◌, ◌-◌, ◌+◌, refl, sym, ap, ap₂, ◌∙◌, subst, ◌&&◌, ◌||◌, not, min, eqb, length, take, flat_map, Some, None, arith, take_all, le-ltb, ne_eqb, drop_of_length-le, one-add, zero-add}
use Rattle.std.specs.List.{AllByRecursion, prefix_len}
use Rattle.std.proofs.lemmas.List.Elements.{All-head, All-tail}
use Rattle.xti_base.specs.declared.kinds.State.TheVariants.{T_DATAXFER}
use Rattle.xti_model.specs.declared.call.Call.TheVariants as call
use Rattle.xti_model.specs.declared.entry.Act.TheVariants as act
use Rattle.xti_model.specs.declared.entry.Entry.{Entry}
use Rattle.xti_model.specs.declared.entry.Outcome.{Outcome}
use Rattle.xti_model.specs.declared.entry.Outcome.TheVariants.{Done}
use Rattle.xti_model.specs.declared.entry.Reply.TheVariants.{Sent, Got}
use Rattle.xti_model.specs.World.{endpoint, state_of, changed}
use Rattle.xti_model.specs.Symbols.{front, rest, ended, is_byte, piece}
use Rattle.xti_model.specs.Events.{some_wait}
use Rattle.xti_model.specs.Profile.{usual}
use Rattle.xti_model.specs.Plan.{Plan, first}
use Rattle.xti_model.specs.Step.{plan, step, step_by, step_of, made}
use Rattle.xti_model.specs.SentBytes.{AreBytes}
use Rattle.xti_model.specs.Calls.Send as Send
use Rattle.xti_model.specs.Calls.Receive as Receive
use Rattle.xti_laws_streams.specs.Copying.{answered, exchange, ending, client, receiver}
use Rattle.xti_laws_streams.specs.declared.copies.TheConstants.{PIECE}
use Rattle.xti_laws_streams.proofs.Pieces.{IsPiece}
use Rattle.xti_laws_streams.proofs.Singles.{AreSteps, fresh, step-more}
use Rattle.xti_laws_streams.proofs.Worlds.{connected, client_end, receiver_end, ending-steps}

pub and-false : (b : Bool) → (b && false) ≡ false
and-false true = refl
and-false false = refl

or-true : (b : Bool) → (b || true) ≡ true
or-true true = refl
or-true false = refl

-- what a step tells, and what waits after it
told : (fd : ℕ) (state_is : (q : List ℕ) → state_of (endpoint usual (connected q) fd) ≡ T_DATAXFER) (o a : Outcome) (q r : List ℕ) → o ≡ a → q ≡ r → Some (made usual fd o (connected q)) ≡ Some (record { outcome = a; after = T_DATAXFER; world = connected r })
told fd state_is o a q r h k = ap₂ (λ o q. Some (made usual fd o (connected q))) h k ∙ ap (λ s. Some (record { outcome = a; after = s; world = connected r })) (state_is r)

client-state : (q : List ℕ) → state_of (endpoint usual (connected q) 1) ≡ T_DATAXFER
unfolding connected client_end
client-state q = refl

receiver-state : (q : List ℕ) → state_of (endpoint usual (connected q) 2) ≡ T_DATAXFER
unfolding connected receiver_end
receiver-state q = refl

-- ---- the send

-- with so many bytes taken
send_plan : List ℕ → ℕ → Plan
send_plan p now = Send.plan_now usual 1 1 p 0 0 now (Some (receiver_end [])) client_end

send-begins : (p : List ℕ) (e : Entry) → e.act ≡ act.Begin (call.TSnd client p 0) → fresh (connected []) e ≡ step_of usual (connected []) (send_plan p (min (length p - 0) 32768))
unfolding send_plan connected client_end receiver_end plan step
send-begins p e h = subst (λ a. fresh (connected []) (record e { act = a }) ≡ step_of usual (connected []) (send_plan p (min (length p - 0) 32768))) (sym h) refl

send-passes : (p : List ℕ) (now : ℕ) → IsPiece p → first (send_plan p now).rows ≡ None
unfolding send_plan client_end receiver_end
send-passes p now h = simp (le-ltb 65536 (length p) (omega (arith, h.most)), ne_eqb (length p) 0 (λ e. omega (arith, e, h.some))) refl

send-changes : (p : List ℕ) (now : ℕ) → changed usual (connected []) (send_plan p now).changes ≡ connected (piece (take now p) (Send.closes usual client_end 0 (length p - 0) now))
unfolding send_plan connected client_end receiver_end
send-changes p now = refl

send-tells : (p : List ℕ) (now : ℕ) → (send_plan p now).outcome ≡ Done (Sent now)
unfolding send_plan client_end
send-tells p now = rw (or-true (eqb (0 + now) (length p))) (ap (λ n. Done (Sent n)) (zero-add now))

sends-piece : (p : List ℕ) (now : ℕ) → now ≡ length p → piece (take now p) (Send.closes usual client_end 0 (length p - 0) now) ≡ p
unfolding client_end
sends-piece p now h = rw (and-false (eqb now (length p - 0) && true)) (take_all now p (omega (arith, h)))

send-made : (p : List ℕ) (now : ℕ) → IsPiece p → step_of usual (connected []) (send_plan p now) ≡ Some (made usual 1 (Done (Sent now)) (connected (piece (take now p) (Send.closes usual client_end 0 (length p - 0) now))))
unfolding send_plan client_end
send-made p now h =
    ap (step_by usual (connected []) (send_plan p now)) (send-passes p now h)
    ∙ ap₂ (λ o w. Some (made usual 1 o w)) (send-tells p now) (send-changes p now)

send-step : (p : List ℕ) (e : Entry) → IsPiece p → e.act ≡ act.Begin (call.TSnd client p 0) → fresh (connected []) e ≡ Some (record { outcome = Done (Sent (length p)); after = T_DATAXFER; world = connected p })
send-step p e h a =
    let now = min (length p - 0) 32768 in
    let all : now ≡ length p = omega (arith, h.most) in
    send-begins p e a
    ∙ send-made p now h
    ∙ told 1 client-state (Done (Sent now)) (Done (Sent (length p))) (piece (take now p) (Send.closes usual client_end 0 (length p - 0) now)) p (ap (λ n. Done (Sent n)) all) (sends-piece p now all)

-- ---- the receive

receive_plan : List ℕ → Plan
receive_plan p = Receive.plan usual (connected p) 2 1 PIECE

receive-begins : (p : List ℕ) (e : Entry) → e.act ≡ act.Begin (call.TRcv receiver PIECE) → fresh (connected p) e ≡ step_of usual (connected p) (receive_plan p)
unfolding receive_plan plan step
receive-begins p e h = subst (λ a. fresh (connected p) (record e { act = a }) ≡ step_of usual (connected p) (receive_plan p)) (sym h) refl

some-waits : (p : List ℕ) → 0 < length p → some_wait p ≡ true
some-waits [] h = absurd (omega (arith, h))
some-waits (b ∷ p) h = refl

receive-passes : (p : List ℕ) → IsPiece p → first (receive_plan p).rows ≡ None
unfolding receive_plan connected receiver_end
receive-passes p h = rw (some-waits p h.some) refl

receive-tells : (p : List ℕ) → (receive_plan p).outcome ≡ Done (Got (front PIECE p) 0)
unfolding receive_plan connected receiver_end
receive-tells p = rw (and-false (not (ended PIECE p))) refl

receive-changes : (p : List ℕ) → changed usual (connected p) (receive_plan p).changes ≡ connected (rest PIECE p)
unfolding receive_plan connected receiver_end
receive-changes p = refl

-- all bytes stand before the end of the first message
all-pass : (p : List ℕ) → AreBytes p → take (prefix_len is_byte p) p ≡ p
all-pass [] h = refl
all-pass (b ∷ p) h =
    let passes : is_byte b ≡ true = ap not (ne_eqb b 256 (λ e. omega (arith, e, All-head (λ b. b < 256) b p h))) in
    subst (λ t. take (cond t (1 + prefix_len is_byte p) 0) (b ∷ p) ≡ b ∷ p) (sym passes)
    (ap (λ n. take n (b ∷ p)) (one-add (prefix_len is_byte p)) ∙ ap (λ l. b ∷ l) (all-pass p (All-tail (λ b. b < 256) b p h)))

front-is : (p : List ℕ) → IsPiece p → front PIECE p ≡ p
front-is p h = ap (λ l. take (prefix_len is_byte l) l) (take_all PIECE p h.most) ∙ all-pass p h.bytes

rest-is : (p : List ℕ) → IsPiece p → rest PIECE p ≡ []
rest-is p h = drop_of_length-le p {i = length (front PIECE p) + cond (ended PIECE p) 1 0} (omega (arith, ap length (front-is p h)))

receive-made : (p : List ℕ) → step_by usual (connected p) (receive_plan p) None ≡ Some (made usual 2 (Done (Got (front PIECE p) 0)) (connected (rest PIECE p)))
unfolding receive_plan connected receiver_end
receive-made p = ap₂ (λ o w. Some (made usual 2 o w)) (receive-tells p) (receive-changes p)

receive-step : (p : List ℕ) (e : Entry) → IsPiece p → e.act ≡ act.Begin (call.TRcv receiver PIECE) → fresh (connected p) e ≡ Some (record { outcome = Done (Got p 0); after = T_DATAXFER; world = connected [] })
receive-step p e h a =
    receive-begins p e a
    ∙ ap (step_by usual (connected p) (receive_plan p)) (receive-passes p h)
    ∙ receive-made p
    ∙ told 2 receiver-state (Done (Got (front PIECE p) 0)) (Done (Got p 0)) (rest PIECE p) [] (ap (λ q. Done (Got q 0)) (front-is p h)) (rest-is p h)

-- ---- all pieces, and the end

pub exchanges-steps : (ps : List (List ℕ)) → AllByRecursion IsPiece ps → AreSteps (connected []) (flat_map exchange ps ++ ending)
exchanges-steps [] h = ending-steps
exchanges-steps (p ∷ ps) h =
    let sends = answered (call.TSnd client p 0) (Sent (length p)) T_DATAXFER in
    let receives = answered (call.TRcv receiver PIECE) (Got p 0) T_DATAXFER in
    let later = flat_map exchange ps ++ ending in
    step-more (connected []) (connected p) sends (receives ∷ later) (send-step p sends h.0 refl)
    (step-more (connected p) (connected []) receives later (receive-step p receives h.0 refl) (exchanges-steps ps h.1))
