-- A generated script is within the limits of scripts.
use Rattle.std.proofs.Common.{subst, ℕ, zero, suc, ◌+◌, ◌*◌, ◌%◌, ◌≤◌, List, [], ◌∷◌, ◌++◌, map, replicate, length, codes, arith}
use Rattle.std.specs.Fmt.{digits}
use Rattle.std.specs.List.{flat_map, range_with_len}
use Rattle.std.proofs.lemmas.List.{length-append}
use Rattle.std.proofs.lemmas.List.FromFn.{length-map-range_with_len, length-range_with_len}
use Rattle.std.proofs.lemmas.List.Sums.{sum_by-append, sum_by-cons}
use Rattle.xti_model.specs.declared.script.NamedCall.TheVariants as call
use Rattle.xti_model.specs.declared.script.Line.{Line}
use Rattle.xti_model.specs.Work.{argument_bytes, script_bytes}
use Rattle.xti_script_reader.specs.Grammar.{IsSmall}
use Rattle.xti_script.specs.declared.generating.sizes.TheConstants.{RING, MOST_SENT, ACCEPTING, CONNECTING, ROUNDS}
use Rattle.xti_script.specs.Generated.{line, listening, accepting, connecting, ring_name, next, round_bytes, connection_setup, datagram_round, send_round, receive_round, setups, datagram_rounds, ring, receive_rounds, send_rounds, accepting_side, connecting_side, generated_lines}

-- at most so many lines, with at most so many bytes of arguments
record AreFew (lines : List Line) (count bytes : ℕ) : Type 0 where
  few_lines : length lines ≤ count
  few_bytes : script_bytes lines ≤ bytes

few_both : (xs ys : List Line) (m n b c : ℕ) → AreFew xs m b → AreFew ys n c → AreFew (xs ++ ys) (m + n) (b + c)
few_both xs ys m n b c h i = record {
  few_lines = let h' = h.few_lines in let i' = i.few_lines in omega (arith, length-append xs ys);
  few_bytes = let h' = h.few_bytes in let i' = i.few_bytes in omega (arith, sum_by-append (λ line. argument_bytes line.call) xs ys);
}

none : AreFew [] 0 0
none = record { few_lines = omega arith; few_bytes = omega arith }

one : (line : Line) (lines : List Line) (m b c : ℕ) → argument_bytes line.call ≤ b → AreFew lines m c → AreFew (line ∷ lines) (suc m) (b + c)
one line lines m b c h i = record {
  few_lines = let i' = i.few_lines in omega arith;
  few_bytes = let i' = i.few_bytes in omega (arith, sum_by-cons (λ line. argument_bytes line.call) line lines);
}

round_length : (shift worker round : ℕ) → length (round_bytes shift worker round) ≤ MOST_SENT
round_length shift worker round =
    let size : ℕ = 1 + (shift + worker + round) % MOST_SENT in
    omega (arith, length-map-range_with_len (λ i. i % 256) 0 size)

datagrams_few : (shift worker : ℕ) (rounds : List ℕ) → length (ring_name (next worker)) ≤ 2 → AreFew (flat_map (datagram_round shift worker) rounds) (2 * length rounds) (66 * length rounds)
datagrams_few shift worker [] short = none
datagrams_few shift worker (round ∷ rounds) short =
    let rest = datagrams_few shift worker rounds short in
    let l = rest.few_lines in
    let b = rest.few_bytes in
    let size = round_length shift worker round in
    let both = datagram_round shift worker round in
    record {
      few_lines = omega (arith, length-append both (flat_map (datagram_round shift worker) rounds));
      few_bytes = omega (arith, sum_by-append (λ line. argument_bytes line.call) both (flat_map (datagram_round shift worker) rounds));
    }

sends_few : (shift : ℕ) (rounds : List ℕ) → AreFew (map (send_round shift) rounds) (length rounds) (64 * length rounds)
sends_few shift [] = none
sends_few shift (round ∷ rounds) =
    let rest = sends_few shift rounds in
    let l = rest.few_lines in
    let b = rest.few_bytes in
    let size = round_length shift CONNECTING round in
    record {
      few_lines = omega arith;
      few_bytes = omega (arith, sum_by-cons (λ line. argument_bytes line.call) (send_round shift round) (map (send_round shift) rounds));
    }

receives_few : (rounds : ℕ) → AreFew (replicate rounds receive_round) rounds 0
receives_few zero = none
receives_few (suc rounds) =
    let rest = receives_few rounds in
    let l = rest.few_lines in
    let b = rest.few_bytes in
    record {
      few_lines = omega arith;
      few_bytes = omega (arith, sum_by-cons (λ line. argument_bytes line.call) receive_round (replicate rounds receive_round));
    }

rounds_few : (shift worker rounds : ℕ) → length (ring_name (next worker)) ≤ 2 → AreFew (datagram_rounds shift worker rounds) (2 * rounds) (66 * rounds)
unfolding datagram_rounds
rounds_few shift worker rounds short =
    subst (λ n. AreFew (flat_map (datagram_round shift worker) (range_with_len 0 rounds)) (2 * n) (66 * n)) (length-range_with_len 0 rounds) (datagrams_few shift worker (range_with_len 0 rounds) short)

abbrev AllShort : List ℕ → Type 0
AllShort [] = Unit {0}
AllShort (worker ∷ workers) = (length (ring_name (next worker)) ≤ 2) × AllShort workers

workers_few : (shift : ℕ) (workers : List ℕ) → AllShort workers → AreFew (flat_map (λ worker. datagram_rounds shift worker ROUNDS) workers) (2048 * length workers) (67584 * length workers)
workers_few shift [] h = none
workers_few shift (worker ∷ workers) h =
    let rest = workers_few shift workers h.1 in
    let l = rest.few_lines in
    let b = rest.few_bytes in
    let own = rounds_few shift worker ROUNDS h.0 in
    let k = own.few_lines in
    let a = own.few_bytes in
    let others : List Line = flat_map (λ worker. datagram_rounds shift worker ROUNDS) workers in
    record {
      few_lines = omega (arith, length-append (datagram_rounds shift worker ROUNDS) others);
      few_bytes = omega (arith, sum_by-append (λ line. argument_bytes line.call) (datagram_rounds shift worker ROUNDS) others);
    }

ring_few : (shift : ℕ) → AreFew (ring shift RING) 16384 540672
unfolding ring digits
ring_few shift = workers_few shift (range_with_len 1 RING)
    (omega arith, (omega arith, (omega arith, (omega arith, (omega arith, (omega arith, (omega arith, (omega arith, tt))))))))

setup_few : AreFew (setups RING ++ connection_setup) 21 19
unfolding setups digits
setup_few = record { few_lines = omega arith; few_bytes = omega arith }

receive_rounds_few : (rounds : ℕ) → AreFew (receive_rounds rounds) rounds 0
unfolding receive_rounds
receive_rounds_few rounds = receives_few rounds

send_rounds_few : (shift rounds : ℕ) → AreFew (send_rounds shift rounds) rounds (64 * rounds)
unfolding send_rounds
send_rounds_few shift rounds =
    subst (λ n. AreFew (map (send_round shift) (range_with_len 0 rounds)) n (64 * n)) (length-range_with_len 0 rounds) (sends_few shift (range_with_len 0 rounds))

accepting_few : AreFew accepting_side 1027 0
accepting_few =
    let received : List Line = receive_rounds ROUNDS in
    let listened : Line = line ACCEPTING (listening (codes "l") (codes "q")) in
    let accepted : Line = line ACCEPTING (accepting (codes "l") (codes "r") (codes "q")) in
    let released : Line = line ACCEPTING (call.TRcvRel (codes "r")) in
    let rest : List Line = received ++ released ∷ [] in
    one listened (accepted ∷ rest) 1026 0 0 (omega arith) (one accepted rest 1025 0 0 (omega arith)
    (few_both received (released ∷ []) 1024 1 0 0 (receive_rounds_few ROUNDS) (one released [] 0 0 0 (omega arith) none)))

connecting_few : (shift : ℕ) → AreFew (connecting_side shift) 1026 65539
connecting_few shift =
    let sent : List Line = send_rounds shift ROUNDS in
    let connected : Line = line CONNECTING (connecting (codes "c") (codes "srv")) in
    let released : Line = line CONNECTING (call.TSndRel (codes "c")) in
    one connected (sent ++ released ∷ []) 1025 3 65536 (omega arith)
    (few_both sent (released ∷ []) 1024 1 65536 0 (send_rounds_few shift ROUNDS) (one released [] 0 0 0 (omega arith) none))

pub generated_lines_small : (shift : ℕ) → IsSmall (generated_lines shift)
unfolding generated_lines
generated_lines_small shift =
    let before : List Line = setups RING ++ connection_setup ++ ring shift RING in
    let a = few_both (setups RING ++ connection_setup) (ring shift RING) 21 16384 19 540672 setup_few (ring_few shift) in
    let b = few_both before accepting_side 16405 1027 540691 0 a accepting_few in
    let all = few_both (before ++ accepting_side) (connecting_side shift) 17432 1026 540691 65539 b (connecting_few shift) in
    let l = all.few_lines in
    let m = all.few_bytes in
    record { few_lines = omega arith; few_bytes = omega arith }
