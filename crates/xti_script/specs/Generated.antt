-- The script that is generated from a number: a ring of datagrams, and a connection. Eight workers each send datagrams to the
-- next one and receive those that come to them; worker 9 accepts a connection and receives, and worker 10 connects and sends.
use Rattle.std.specs.Prelude.{ℕ, ◌+◌, ◌%◌, ◌==◌, false, List, [], ◌∷◌, ◌++◌, map, replicate, codes, decimal, if◌then◌else◌}
use Rattle.std.specs.List.{flat_map, range_with_len}
use Rattle.xti_base.specs.declared.limits.TheConstants.{MOST_ADDRESS, MOST_OPTIONS, MOST_CONNECT_DATA}
use Rattle.xti_base.specs.declared.kinds.Prov.{Prov}
use Rattle.xti_base.specs.declared.kinds.Prov.TheVariants.{Ticotsord, Ticlts}
use Rattle.xti_model.specs.declared.script.NamedCall.{NamedCall}
use Rattle.xti_model.specs.declared.script.NamedCall.TheVariants as call
use Rattle.xti_model.specs.declared.script.Line.{Line}
use Rattle.xti_model.specs.declared.script.Script.{Script}
use Rattle.xti_model.specs.Profile.{usual}
use Rattle.xti_words.specs.Values.{counted}
use Rattle.xti_script.specs.declared.generating.sizes.TheConstants.{RING, MOST_SENT, ACCEPTING, CONNECTING, ROUNDS}

-- ---- calls, with the usual values of the fields that they don't name

abbrev pub opening : List ℕ → Prov → NamedCall
opening name prov = call.TOpen name prov false

abbrev pub binding : List ℕ → List ℕ → ℕ → NamedCall
binding name addr qlen = call.TBind name addr qlen MOST_ADDRESS

abbrev pub listening : List ℕ → List ℕ → NamedCall
listening name seq = call.TListen name seq MOST_ADDRESS MOST_OPTIONS MOST_CONNECT_DATA

abbrev pub accepting : List ℕ → List ℕ → List ℕ → NamedCall
accepting name resfd seq = call.TAccept name resfd seq [] []

abbrev pub connecting : List ℕ → List ℕ → NamedCall
connecting name addr = call.TConnect name addr [] [] MOST_ADDRESS MOST_OPTIONS MOST_CONNECT_DATA

abbrev pub sending : List ℕ → List ℕ → NamedCall
sending name bytes = call.TSnd name bytes 0

abbrev pub sending_to : List ℕ → List ℕ → List ℕ → NamedCall
sending_to name addr bytes = call.TSndUData name addr [] bytes

abbrev pub receiving : List ℕ → NamedCall
receiving name = call.TRcv name MOST_SENT

abbrev pub receiving_datagram : List ℕ → NamedCall
receiving_datagram name = call.TRcvUData name MOST_SENT MOST_ADDRESS MOST_OPTIONS

-- ---- lines

abbrev pub line : ℕ → NamedCall → Line
line worker call = record { worker = worker; call = call }

-- the name of the endpoint of a worker of the ring, and its address: n1, n2 and so on
abbrev pub ring_name : ℕ → List ℕ
ring_name worker = codes "n" ++ decimal worker

-- the worker to which a worker of the ring sends
abbrev pub next : ℕ → ℕ
next worker = if worker == RING then 1 else worker + 1

-- what a worker sends in a round: 1 to 64 bytes, one more than in the round before, and 1 after 64
abbrev pub round_bytes : ℕ → ℕ → ℕ → List ℕ
round_bytes shift worker round = counted (1 + (shift + worker + round) % MOST_SENT)

abbrev pub ring_setup : ℕ → List Line
ring_setup worker = line 0 (opening (ring_name worker) Ticlts) ∷ line 0 (binding (ring_name worker) (ring_name worker) 0) ∷ []

abbrev pub connection_setup : List Line
connection_setup =
    line 0 (opening (codes "l") Ticotsord) ∷ line 0 (binding (codes "l") (codes "srv") 1) ∷
    line 0 (opening (codes "c") Ticotsord) ∷ line 0 (binding (codes "c") [] 0) ∷
    line 0 (opening (codes "r") Ticotsord) ∷ []

-- a worker of the ring sends a datagram, and receives one
abbrev pub datagram_round : ℕ → ℕ → ℕ → List Line
datagram_round shift worker round =
    line worker (sending_to (ring_name worker) (ring_name (next worker)) (round_bytes shift worker round)) ∷
    line worker (receiving_datagram (ring_name worker)) ∷ []

abbrev pub send_round : ℕ → ℕ → Line
send_round shift round = line CONNECTING (sending (codes "c") (round_bytes shift CONNECTING round))

abbrev pub receive_round : Line
receive_round = line ACCEPTING (receiving (codes "r"))

-- ---- workers

-- the setups of so many workers of the ring
unfoldable pub setups : ℕ → List Line
setups workers = flat_map ring_setup (range_with_len 1 workers)

-- so many rounds of a worker of the ring
unfoldable pub datagram_rounds : ℕ → ℕ → ℕ → List Line
datagram_rounds shift worker rounds = flat_map (datagram_round shift worker) (range_with_len 0 rounds)

-- all rounds of a worker
abbrev pub worker_rounds : ℕ → ℕ → List Line
worker_rounds shift worker = datagram_rounds shift worker ROUNDS

-- the rounds of so many workers, one worker after the other
unfoldable pub ring : ℕ → ℕ → List Line
ring shift workers = flat_map (λ worker. datagram_rounds shift worker ROUNDS) (range_with_len 1 workers)

unfoldable pub receive_rounds : ℕ → List Line
receive_rounds rounds = replicate rounds receive_round

unfoldable pub send_rounds : ℕ → ℕ → List Line
send_rounds shift rounds = map (send_round shift) (range_with_len 0 rounds)

abbrev pub accepting_side : List Line
accepting_side =
    line ACCEPTING (listening (codes "l") (codes "q")) ∷ line ACCEPTING (accepting (codes "l") (codes "r") (codes "q")) ∷
    receive_rounds ROUNDS ++ line ACCEPTING (call.TRcvRel (codes "r")) ∷ []

abbrev pub connecting_side : ℕ → List Line
connecting_side shift =
    line CONNECTING (connecting (codes "c") (codes "srv")) ∷
    send_rounds shift ROUNDS ++ line CONNECTING (call.TSndRel (codes "c")) ∷ []

-- ---- the script

unfoldable pub generated_lines : ℕ → List Line
generated_lines shift = setups RING ++ connection_setup ++ ring shift RING ++ accepting_side ++ connecting_side shift

-- the script of a number: its remainder shifts the sizes
unfoldable pub generated : ℕ → Script
generated seed = record { providers = usual; lines = generated_lines (seed % MOST_SENT) }
