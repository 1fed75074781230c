-- Each line of a generated script is read from its text.
use Rattle.std.proofs.Common.{◌≡◌, refl, sym, ap, subst, ℕ, zero, suc, ◌+◌, ◌%◌, ◌≤◌, ◌<◌, true, false, not, eqb, ltb, List, [], ◌∷◌, ◌++◌, map, replicate, length, get_or, codes, arith}
use Rattle.std.specs.Fmt.{digits}
use Rattle.std.specs.List.{flat_map, list_all, range_with_len}
use Rattle.std.proofs.lemmas.Bool.{and_parts, ltb-true}
use Rattle.std.proofs.lemmas.List.Elements.{All-nil, All-cons}
use Rattle.std.proofs.lemmas.List.FromFn.{length-map-range_with_len, get_or-map-range_with_len}
use Rattle.xti_base.specs.declared.limits.TheConstants.{LAST_WORKER, MOST_ADDRESS, MOST_OPTIONS, MOST_CONNECT_DATA}
use Rattle.xti_base.specs.declared.kinds.Prov.{Prov}
use Rattle.xti_base.specs.declared.kinds.Prov.TheVariants.{Ticotsord, Ticlts}
use Rattle.xti_model.specs.declared.profile.Version.TheVariants.{One}
use Rattle.xti_model.specs.declared.script.NamedCall.TheVariants as call
use Rattle.xti_model.specs.declared.script.Line.{Line}
use Rattle.xti_model.specs.Resolve.{opens, listens}
use Rattle.xti_words.specs.Values.{counted}
use Rattle.xti_words.proofs.WordBytes.{AreBytes}
use Rattle.xti_script_reader.specs.Kinds.{Kind as kind}
use Rattle.xti_script_reader.specs.FieldValue.Value.{Name}
use Rattle.xti_script_reader.specs.Fields.{field}
use Rattle.xti_script_reader.specs.Calls.{form}
use Rattle.xti_script_reader.specs.Names.{Spot, after, is_defined, is_new}
use Rattle.xti_script.specs.Canonical.{written_call}
use Rattle.xti_script.proofs.Numbers.{Lacks}
use Rattle.xti_script.proofs.Pieces.{lacks_by}
use Rattle.xti_script.proofs.ValueTexts.{Reads, bytes_reads, options_reads, number_reads, provider_reads, mode_reads, name_reads}
use Rattle.xti_script.proofs.Lines.{LineReads}
use Rattle.xti_script.proofs.ScriptTexts.{LinesRead, both_read}
use Rattle.xti_script.specs.declared.generating.sizes.TheConstants.{RING, MOST_SENT, ACCEPTING, CONNECTING, ROUNDS}
use Rattle.xti_script.specs.Generated.{opening, binding, listening, accepting, connecting, sending, sending_to, receiving, receiving_datagram, line, ring_name, next, round_bytes, ring_setup, connection_setup, datagram_round, send_round, receive_round, setups, datagram_rounds, ring, receive_rounds, send_rounds, accepting_side, connecting_side, generated_lines}
use Rattle.xti_script.proofs.KnownNames.{still_known, just_known, AreSilent, silent_both, not_known}

-- ---- values

-- a name that has no space and no end of a line
record IsWord (name : List ℕ) : Type 0 where
  spaceless : Lacks 32 name
  endless : Lacks 10 name

word_by : (name : List ℕ) → list_all (λ c. not (eqb c 32)) name ≡ true → list_all (λ c. not (eqb c 10)) name ≡ true → IsWord name
word_by name h i = record { spaceless = lacks_by 32 name h; endless = lacks_by 10 name i }

bytes_by : (bytes : List ℕ) → list_all (λ b. ltb b 256) bytes ≡ true → AreBytes bytes
bytes_by [] h = All-nil (λ b. b < 256)
bytes_by (b ∷ bytes) h =
    let parts = and_parts (ltb b 256) (list_all (λ b. ltb b 256) bytes) h in
    All-cons (λ b. b < 256) b bytes (ltb-true b 256 parts.0) (bytes_by bytes parts.1)

no_bytes : AreBytes []
no_bytes = All-nil (λ b. b < 256)

counted_bytes : (n : ℕ) → AreBytes (counted n)
counted_bytes n = λ k d l.
    let long : length (counted n) ≡ n = length-map-range_with_len (λ i. i % 256) 0 n in
    let is : get_or (counted n) k d ≡ k % 256 = get_or-map-range_with_len (λ i. i % 256) 0 n k k d (omega (arith, l, long)) (omega arith) in
    subst (λ b. b < 256) (sym is) (omega arith)

known_reads : (s : Spot) (name : List ℕ) → is_defined opens s name ≡ true → IsWord name → Reads s kind.Endpoint (Name name)
known_reads s name h w = name_reads s kind.Endpoint name refl h w.spaceless w.endless

-- ---- lines

module _ (earlier : List Line) (worker : ℕ) (small : worker ≤ LAST_WORKER) where
  opening_reads : (name : List ℕ) (prov : Prov) → is_new opens (after earlier worker) name ≡ true → IsWord name → LineReads One earlier (line worker (opening name prov))
  unfolding written_call form field
  opening_reads name prov h w = record {
    is_worker = small;
    in_texts = refl;
    call = (name_reads (after earlier worker) kind.NewEndpoint name refl h w.spaceless w.endless, (provider_reads (after earlier worker) prov, (mode_reads (after earlier worker) false, tt)));
  }

  binding_reads : (name addr : List ℕ) (qlen : ℕ) → is_defined opens (after earlier worker) name ≡ true → IsWord name → AreBytes addr → qlen < 4294967296 → LineReads One earlier (line worker (binding name addr qlen))
  unfolding written_call form field
  binding_reads name addr qlen h w b q = record {
    is_worker = small;
    in_texts = refl;
    call = (known_reads (after earlier worker) name h w, (bytes_reads (after earlier worker) addr b, (number_reads (after earlier worker) qlen q, (number_reads (after earlier worker) MOST_ADDRESS (omega arith), tt))));
  }

  listening_reads : (name seq : List ℕ) → is_defined opens (after earlier worker) name ≡ true → IsWord name → is_new listens (after earlier worker) seq ≡ true → IsWord seq → LineReads One earlier (line worker (listening name seq))
  unfolding written_call form field
  listening_reads name seq h w i v = record {
    is_worker = small;
    in_texts = refl;
    call = (
      known_reads (after earlier worker) name h w,
      (
        name_reads (after earlier worker) kind.NewSequence seq refl i v.spaceless v.endless,
        (number_reads (after earlier worker) MOST_ADDRESS (omega arith), (number_reads (after earlier worker) MOST_OPTIONS (omega arith), (number_reads (after earlier worker) MOST_CONNECT_DATA (omega arith), tt))),
      ),
    );
  }

  accepting_reads : (name resfd seq : List ℕ) → is_defined opens (after earlier worker) name ≡ true → IsWord name → is_defined opens (after earlier worker) resfd ≡ true → IsWord resfd
      → is_defined listens (after earlier worker) seq ≡ true → IsWord seq → LineReads One earlier (line worker (accepting name resfd seq))
  unfolding written_call form field
  accepting_reads name resfd seq h w i v j u = record {
    is_worker = small;
    in_texts = refl;
    call = (
      known_reads (after earlier worker) name h w,
      (
        known_reads (after earlier worker) resfd i v,
        (
          name_reads (after earlier worker) kind.Sequence seq refl j u.spaceless u.endless,
          (options_reads (after earlier worker) [] no_bytes, (bytes_reads (after earlier worker) [] no_bytes, tt)),
        ),
      ),
    );
  }

  connecting_reads : (name addr : List ℕ) → is_defined opens (after earlier worker) name ≡ true → IsWord name → AreBytes addr → LineReads One earlier (line worker (connecting name addr))
  unfolding written_call form field
  connecting_reads name addr h w b = record {
    is_worker = small;
    in_texts = refl;
    call = (
      known_reads (after earlier worker) name h w,
      (
        bytes_reads (after earlier worker) addr b,
        (
          options_reads (after earlier worker) [] no_bytes,
          (
            bytes_reads (after earlier worker) [] no_bytes,
            (number_reads (after earlier worker) MOST_ADDRESS (omega arith), (number_reads (after earlier worker) MOST_OPTIONS (omega arith), (number_reads (after earlier worker) MOST_CONNECT_DATA (omega arith), tt))),
          ),
        ),
      ),
    );
  }

  sending_reads : (name bytes : List ℕ) → is_defined opens (after earlier worker) name ≡ true → IsWord name → AreBytes bytes → LineReads One earlier (line worker (sending name bytes))
  unfolding written_call form field
  sending_reads name bytes h w b = record {
    is_worker = small;
    in_texts = refl;
    call = (known_reads (after earlier worker) name h w, (bytes_reads (after earlier worker) bytes b, (number_reads (after earlier worker) 0 (omega arith), tt)));
  }

  sending_to_reads : (name addr bytes : List ℕ) → is_defined opens (after earlier worker) name ≡ true → IsWord name → AreBytes addr → AreBytes bytes → LineReads One earlier (line worker (sending_to name addr bytes))
  unfolding written_call form field
  sending_to_reads name addr bytes h w a b = record {
    is_worker = small;
    in_texts = refl;
    call = (known_reads (after earlier worker) name h w, (bytes_reads (after earlier worker) addr a, (options_reads (after earlier worker) [] no_bytes, (bytes_reads (after earlier worker) bytes b, tt))));
  }

  receiving_reads : (name : List ℕ) → is_defined opens (after earlier worker) name ≡ true → IsWord name → LineReads One earlier (line worker (receiving name))
  unfolding written_call form field
  receiving_reads name h w = record {
    is_worker = small;
    in_texts = refl;
    call = (known_reads (after earlier worker) name h w, (number_reads (after earlier worker) MOST_SENT (omega arith), tt));
  }

  receiving_datagram_reads : (name : List ℕ) → is_defined opens (after earlier worker) name ≡ true → IsWord name → LineReads One earlier (line worker (receiving_datagram name))
  unfolding written_call form field
  receiving_datagram_reads name h w = record {
    is_worker = small;
    in_texts = refl;
    call = (known_reads (after earlier worker) name h w, (number_reads (after earlier worker) MOST_SENT (omega arith), (number_reads (after earlier worker) MOST_ADDRESS (omega arith), (number_reads (after earlier worker) MOST_OPTIONS (omega arith), tt))));
  }

  releasing_reads : (name : List ℕ) → is_defined opens (after earlier worker) name ≡ true → IsWord name → LineReads One earlier (line worker (call.TSndRel name))
  unfolding written_call form field
  releasing_reads name h w = record { is_worker = small; in_texts = refl; call = (known_reads (after earlier worker) name h w, tt) }

  taking_release_reads : (name : List ℕ) → is_defined opens (after earlier worker) name ≡ true → IsWord name → LineReads One earlier (line worker (call.TRcvRel name))
  unfolding written_call form field
  taking_release_reads name h w = record { is_worker = small; in_texts = refl; call = (known_reads (after earlier worker) name h w, tt) }

-- ---- rounds

-- what holds of a worker of the ring, whatever the lines before
record IsInRing (worker : ℕ) : Type 0 where
  small : worker ≤ LAST_WORKER
  word : IsWord (ring_name worker)
  address : AreBytes (ring_name (next worker))

datagrams_read : (shift worker : ℕ) (rounds : List ℕ) (earlier : List Line) → IsInRing worker → is_defined opens (after earlier worker) (ring_name worker) ≡ true
    → LinesRead One earlier (flat_map (datagram_round shift worker) rounds)
datagrams_read shift worker [] earlier w known = tt
datagrams_read shift worker (round ∷ rounds) earlier w known =
    let name : List ℕ = ring_name worker in
    let sent : Line = line worker (sending_to name (ring_name (next worker)) (round_bytes shift worker round)) in
    let then : List Line = earlier ++ sent ∷ [] in
    let received : Line = line worker (receiving_datagram name) in
    let known_then = still_known opens earlier (sent ∷ []) worker name known in
    let known_after = still_known opens then (received ∷ []) worker name known_then in (
      sending_to_reads earlier worker w.small name (ring_name (next worker)) (round_bytes shift worker round) known w.word w.address (counted_bytes (1 + (shift + worker + round) % MOST_SENT)),
      (
        receiving_datagram_reads then worker w.small name known_then w.word,
        datagrams_read shift worker rounds (then ++ received ∷ []) w known_after,
      ),
    )

sends_read : (shift : ℕ) (rounds : List ℕ) (earlier : List Line) → is_defined opens (after earlier CONNECTING) (codes "c") ≡ true → LinesRead One earlier (map (send_round shift) rounds)
sends_read shift [] earlier known = tt
sends_read shift (round ∷ rounds) earlier known = (
  sending_reads earlier CONNECTING (omega arith) (codes "c") (round_bytes shift CONNECTING round) known (word_by (codes "c") refl refl) (counted_bytes (1 + (shift + CONNECTING + round) % MOST_SENT)),
  sends_read shift rounds (earlier ++ send_round shift round ∷ []) (still_known opens earlier (send_round shift round ∷ []) CONNECTING (codes "c") known),
)

receives_read : (rounds : ℕ) (earlier : List Line) → is_defined opens (after earlier ACCEPTING) (codes "r") ≡ true → LinesRead One earlier (replicate rounds receive_round)
receives_read zero earlier known = tt
receives_read (suc rounds) earlier known = (
  receiving_reads earlier ACCEPTING (omega arith) (codes "r") known (word_by (codes "r") refl refl),
  receives_read rounds (earlier ++ receive_round ∷ []) (still_known opens earlier (receive_round ∷ []) ACCEPTING (codes "r") known),
)

-- ---- the ring

-- each of these workers is in the ring, and knows its endpoint
abbrev KnowTheirs : List Line → List ℕ → Type 0
KnowTheirs earlier [] = Unit {0}
KnowTheirs earlier (worker ∷ workers) = IsInRing worker × (is_defined opens (after earlier worker) (ring_name worker) ≡ true) × KnowTheirs earlier workers

still_theirs : (earlier more : List Line) (workers : List ℕ) → KnowTheirs earlier workers → KnowTheirs (earlier ++ more) workers
still_theirs earlier more [] h = tt
still_theirs earlier more (worker ∷ workers) h = (h.0, still_known opens earlier more worker (ring_name worker) h.1, still_theirs earlier more workers h.2)

rounds_read : (shift worker rounds : ℕ) (earlier : List Line) → IsInRing worker → is_defined opens (after earlier worker) (ring_name worker) ≡ true → LinesRead One earlier (datagram_rounds shift worker rounds)
unfolding datagram_rounds
rounds_read shift worker rounds earlier w known = datagrams_read shift worker (range_with_len 0 rounds) earlier w known

workers_read : (shift : ℕ) (workers : List ℕ) (earlier : List Line) → KnowTheirs earlier workers → LinesRead One earlier (flat_map (λ worker. datagram_rounds shift worker ROUNDS) workers)
workers_read shift [] earlier h = tt
workers_read shift (worker ∷ workers) earlier h =
    let lines : List Line = datagram_rounds shift worker ROUNDS in
    both_read One earlier lines (flat_map (λ worker. datagram_rounds shift worker ROUNDS) workers) (rounds_read shift worker ROUNDS earlier h.0 h.1)
    (workers_read shift workers (earlier ++ lines) (still_theirs earlier lines workers h.2))

-- ---- the setup

abbrev setup : List Line
setup = setups RING ++ connection_setup

-- each of these workers can be set up after the earlier lines: its name is new, and known when its endpoint is open
abbrev CanSetUp : List Line → List ℕ → Type 0
CanSetUp earlier [] = Unit {0}
CanSetUp earlier (worker ∷ workers) =
    IsWord (ring_name worker) × AreBytes (ring_name worker) × (is_new opens (after earlier 0) (ring_name worker) ≡ true)
    × (is_defined opens (after (earlier ++ line 0 (opening (ring_name worker) Ticlts) ∷ []) 0) (ring_name worker) ≡ true)
    × CanSetUp ((earlier ++ line 0 (opening (ring_name worker) Ticlts) ∷ []) ++ line 0 (binding (ring_name worker) (ring_name worker) 0) ∷ []) workers

ring_set_up : (workers : List ℕ) (earlier : List Line) → CanSetUp earlier workers → LinesRead One earlier (flat_map ring_setup workers)
ring_set_up [] earlier h = tt
ring_set_up (worker ∷ workers) earlier h =
    let name : List ℕ = ring_name worker in
    let then : List Line = earlier ++ line 0 (opening name Ticlts) ∷ [] in (
      opening_reads earlier 0 (omega arith) name Ticlts h.2 h.0,
      (
        binding_reads then 0 (omega arith) name name 0 h.3 h.0 h.1 (omega arith),
        ring_set_up workers (then ++ line 0 (binding name name 0) ∷ []) h.4,
      ),
    )

setups_read : LinesRead One [] (setups RING)
unfolding setups digits
setups_read = ring_set_up (range_with_len 1 RING) [] (
  word_by (ring_name 1) refl refl,
  bytes_by (ring_name 1) refl,
  refl,
  refl,
  (
    word_by (ring_name 2) refl refl,
    bytes_by (ring_name 2) refl,
    refl,
    refl,
    (
      word_by (ring_name 3) refl refl,
      bytes_by (ring_name 3) refl,
      refl,
      refl,
      (
        word_by (ring_name 4) refl refl,
        bytes_by (ring_name 4) refl,
        refl,
        refl,
        (
          word_by (ring_name 5) refl refl,
          bytes_by (ring_name 5) refl,
          refl,
          refl,
          (
            word_by (ring_name 6) refl refl,
            bytes_by (ring_name 6) refl,
            refl,
            refl,
            (
              word_by (ring_name 7) refl refl,
              bytes_by (ring_name 7) refl,
              refl,
              refl,
              (word_by (ring_name 8) refl refl, bytes_by (ring_name 8) refl, refl, refl, tt),
            ),
          ),
        ),
      ),
    ),
  ),
)

-- no line of the ring's setup has the name of an endpoint of the connection
connection_set_up : LinesRead One (setups RING) connection_setup
unfolding setups digits
connection_set_up =
    let listener : IsWord (codes "l") = word_by (codes "l") refl refl in
    let connector : IsWord (codes "c") = word_by (codes "c") refl refl in
    let none_open : List Line = setups RING in
    let l_open : List Line = none_open ++ line 0 (opening (codes "l") Ticotsord) ∷ [] in
    let l_bound : List Line = l_open ++ line 0 (binding (codes "l") (codes "srv") 1) ∷ [] in
    let c_open : List Line = l_bound ++ line 0 (opening (codes "c") Ticotsord) ∷ [] in
    let c_bound : List Line = c_open ++ line 0 (binding (codes "c") [] 0) ∷ [] in (
      opening_reads none_open 0 (omega arith) (codes "l") Ticotsord refl listener,
      (
        binding_reads l_open 0 (omega arith) (codes "l") (codes "srv") 1 refl listener (bytes_by (codes "srv") refl) (omega arith),
        (
          opening_reads l_bound 0 (omega arith) (codes "c") Ticotsord refl connector,
          (
            binding_reads c_open 0 (omega arith) (codes "c") [] 0 refl connector no_bytes (omega arith),
            (opening_reads c_bound 0 (omega arith) (codes "r") Ticotsord refl (word_by (codes "r") refl refl), tt),
          ),
        ),
      ),
    )

setup_read : LinesRead One [] setup
setup_read = both_read One [] (setups RING) connection_setup setups_read connection_set_up

in_ring_by : (worker : ℕ) → worker ≤ LAST_WORKER → list_all (λ c. not (eqb c 32)) (ring_name worker) ≡ true → list_all (λ c. not (eqb c 10)) (ring_name worker) ≡ true
    → list_all (λ b. ltb b 256) (ring_name (next worker)) ≡ true → IsInRing worker
in_ring_by worker small h i j = record { small = small; word = word_by (ring_name worker) h i; address = bytes_by (ring_name (next worker)) j }

all_know : KnowTheirs setup (range_with_len 1 RING)
unfolding setups digits
all_know = (
  in_ring_by 1 (omega arith) refl refl refl,
  refl,
  (
    in_ring_by 2 (omega arith) refl refl refl,
    refl,
    (
      in_ring_by 3 (omega arith) refl refl refl,
      refl,
      (
        in_ring_by 4 (omega arith) refl refl refl,
        refl,
        (
          in_ring_by 5 (omega arith) refl refl refl,
          refl,
          (
            in_ring_by 6 (omega arith) refl refl refl,
            refl,
            (
              in_ring_by 7 (omega arith) refl refl refl,
              refl,
              (in_ring_by 8 (omega arith) refl refl refl, refl, tt),
            ),
          ),
        ),
      ),
    ),
  ),
)

ring_read : (shift : ℕ) → LinesRead One setup (ring shift RING)
unfolding ring
ring_read shift = workers_read shift (range_with_len 1 RING) setup all_know

-- ---- the connection

-- the names of the connection's endpoints are known after the setup
record KnowEndpoints (lines : List Line) : Type 0 where
  listener : is_defined opens (after lines ACCEPTING) (codes "l") ≡ true
  receiver : is_defined opens (after lines ACCEPTING) (codes "r") ≡ true
  connector : is_defined opens (after lines CONNECTING) (codes "c") ≡ true

still_endpoints : (lines more : List Line) → KnowEndpoints lines → KnowEndpoints (lines ++ more)
still_endpoints lines more h = record {
  listener = still_known opens lines more ACCEPTING (codes "l") h.listener;
  receiver = still_known opens lines more ACCEPTING (codes "r") h.receiver;
  connector = still_known opens lines more CONNECTING (codes "c") h.connector;
}

setup_endpoints : KnowEndpoints setup
unfolding setups digits
setup_endpoints = record { listener = refl; receiver = refl; connector = refl }

-- no line before the accepting worker's names a request
datagrams_silent : (shift worker : ℕ) (rounds : List ℕ) → AreSilent listens (codes "q") (flat_map (datagram_round shift worker) rounds)
datagrams_silent shift worker [] = refl
datagrams_silent shift worker (round ∷ rounds) = datagrams_silent shift worker rounds

rounds_silent : (shift worker rounds : ℕ) → AreSilent listens (codes "q") (datagram_rounds shift worker rounds)
unfolding datagram_rounds
rounds_silent shift worker rounds = datagrams_silent shift worker (range_with_len 0 rounds)

workers_silent : (shift : ℕ) (workers : List ℕ) → AreSilent listens (codes "q") (flat_map (λ worker. datagram_rounds shift worker ROUNDS) workers)
workers_silent shift [] = refl
workers_silent shift (worker ∷ workers) =
    silent_both listens (codes "q") (datagram_rounds shift worker ROUNDS) (flat_map (λ worker. datagram_rounds shift worker ROUNDS) workers) (rounds_silent shift worker ROUNDS) (workers_silent shift workers)

ring_silent : (shift : ℕ) → AreSilent listens (codes "q") (ring shift RING)
unfolding ring
ring_silent shift = workers_silent shift (range_with_len 1 RING)

setup_silent : AreSilent listens (codes "q") setup
unfolding setups
setup_silent = refl

receive_rounds_read : (rounds : ℕ) (earlier : List Line) → is_defined opens (after earlier ACCEPTING) (codes "r") ≡ true → LinesRead One earlier (receive_rounds rounds)
unfolding receive_rounds
receive_rounds_read rounds earlier known = receives_read rounds earlier known

send_rounds_read : (shift rounds : ℕ) (earlier : List Line) → is_defined opens (after earlier CONNECTING) (codes "c") ≡ true → LinesRead One earlier (send_rounds shift rounds)
unfolding send_rounds
send_rounds_read shift rounds earlier known = sends_read shift (range_with_len 0 rounds) earlier known

accepting_read : (earlier : List Line) → KnowEndpoints earlier → AreSilent listens (codes "q") earlier → LinesRead One earlier accepting_side
accepting_read earlier known silent =
    let l : IsWord (codes "l") = word_by (codes "l") refl refl in
    let r : IsWord (codes "r") = word_by (codes "r") refl refl in
    let q : IsWord (codes "q") = word_by (codes "q") refl refl in
    let new : is_new listens (after earlier ACCEPTING) (codes "q") ≡ true = ap not (not_known listens (codes "q") earlier ACCEPTING silent) in
    let listened : Line = line ACCEPTING (listening (codes "l") (codes "q")) in
    let accepted : Line = line ACCEPTING (accepting (codes "l") (codes "r") (codes "q")) in
    let then : List Line = earlier ++ listened ∷ [] in
    let known_then : KnowEndpoints then = still_endpoints earlier (listened ∷ []) known in
    let open_both : List Line = then ++ accepted ∷ [] in
    let known_open : KnowEndpoints open_both = still_endpoints then (accepted ∷ []) known_then in
    let received : List Line = receive_rounds ROUNDS in
    let known_last : KnowEndpoints (open_both ++ received) = still_endpoints open_both received known_open in (
      listening_reads earlier ACCEPTING (omega arith) (codes "l") (codes "q") known.listener l new q,
      (
        accepting_reads then ACCEPTING (omega arith) (codes "l") (codes "r") (codes "q") known_then.listener l known_then.receiver r
            (just_known listens earlier listened ACCEPTING (codes "q") refl) q,
        both_read One open_both received (line ACCEPTING (call.TRcvRel (codes "r")) ∷ []) (receive_rounds_read ROUNDS open_both known_open.receiver)
            (taking_release_reads (open_both ++ received) ACCEPTING (omega arith) (codes "r") known_last.receiver r, tt),
      ),
    )

connecting_read : (shift : ℕ) (earlier : List Line) → KnowEndpoints earlier → LinesRead One earlier (connecting_side shift)
connecting_read shift earlier known =
    let c : IsWord (codes "c") = word_by (codes "c") refl refl in
    let connected : Line = line CONNECTING (connecting (codes "c") (codes "srv")) in
    let then : List Line = earlier ++ connected ∷ [] in
    let known_then : KnowEndpoints then = still_endpoints earlier (connected ∷ []) known in
    let sent : List Line = send_rounds shift ROUNDS in
    let known_last : KnowEndpoints (then ++ sent) = still_endpoints then sent known_then in (
      connecting_reads earlier CONNECTING (omega arith) (codes "c") (codes "srv") known.connector c (bytes_by (codes "srv") refl),
      both_read One then sent (line CONNECTING (call.TSndRel (codes "c")) ∷ []) (send_rounds_read shift ROUNDS then known_then.connector)
          (releasing_reads (then ++ sent) CONNECTING (omega arith) (codes "c") known_last.connector c, tt),
    )

-- ---- all lines

pub generated_lines_read : (shift : ℕ) → LinesRead One [] (generated_lines shift)
unfolding generated_lines
generated_lines_read shift =
    let lines : List Line = ring shift RING in
    let known : KnowEndpoints (setup ++ lines) = still_endpoints setup lines setup_endpoints in
    let before : List Line = setup ++ lines in
    both_read One [] (before ++ accepting_side) (connecting_side shift)
    (both_read One [] before accepting_side (both_read One [] setup lines setup_read (ring_read shift))
    (accepting_read before known (silent_both listens (codes "q") setup lines setup_silent (ring_silent shift))))
    (connecting_read shift (before ++ accepting_side) (still_endpoints before accepting_side known))
