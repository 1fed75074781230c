-- The lines of one more worker, or of one more round.
use Rattle.std.proofs.Common.{◌≡◌, sym, ap, ◌∙◌, ℕ, zero, suc, ◌+◌, ◌-◌, ◌≤◌, List, [], ◌∷◌, ◌++◌, append-nil, append_assoc, arith}
use Rattle.std.specs.List.{flat_map, range_with_len}
use Rattle.std.proofs.lemmas.Grind.{flat_map-append, replicate_next}
use Rattle.std.proofs.lemmas.List.FromFn.{map-range_with_len_more}
use Rattle.xti_model.specs.declared.script.Line.{Line}
use Rattle.xti_script.specs.declared.generating.sizes.TheConstants.{ROUNDS}
use Rattle.xti_script.specs.Generated.{ring_setup, datagram_round, send_round, receive_round, setups, datagram_rounds, ring, receive_rounds, send_rounds}

-- lines that were added to more lines
pub added : (start now new lines more last : List Line) → now ≡ start ++ lines → new ≡ now ++ last → more ≡ lines ++ last → new ≡ start ++ more
added start now new lines more last h i e = i ∙ ap (λ l. l ++ last) h ∙ append_assoc start lines last ∙ ap (λ l. start ++ l) (sym e)

counted_more : (a n j : ℕ) → a + n ≡ j → range_with_len a (suc n) ≡ range_with_len a n ++ j ∷ []
counted_more a zero j e = let same : a ≡ j = omega arith in ap (λ k. k ∷ []) same
counted_more a (suc n) j e = ap (λ l. a ∷ l) (counted_more (a + 1) n j (omega arith))

one_more : (lines : ℕ → List Line) (a n j : ℕ) → a + n ≡ j → flat_map lines (range_with_len a (suc n)) ≡ flat_map lines (range_with_len a n) ++ lines j
one_more lines a n j e =
    ap (flat_map lines) (counted_more a n j e) ∙ flat_map-append lines (range_with_len a n) (j ∷ [])
    ∙ ap (λ l. flat_map lines (range_with_len a n) ++ l) (append-nil (lines j))

pub more_setups : (worker : ℕ) → 1 ≤ worker → setups (worker + 1 - 1) ≡ setups (worker - 1) ++ ring_setup worker
unfolding setups
more_setups worker h =
    let e : worker + 1 - 1 ≡ suc (worker - 1) = omega arith in
    ap (λ n. flat_map ring_setup (range_with_len 1 n)) e ∙ one_more ring_setup 1 (worker - 1) worker (omega arith)

pub more_datagrams : (shift worker round : ℕ) → datagram_rounds shift worker (round + 1) ≡ datagram_rounds shift worker round ++ datagram_round shift worker round
unfolding datagram_rounds
more_datagrams shift worker round =
    let e : round + 1 ≡ suc round = omega arith in
    ap (λ n. flat_map (datagram_round shift worker) (range_with_len 0 n)) e ∙ one_more (datagram_round shift worker) 0 round round (omega arith)

pub more_ring : (shift worker : ℕ) → 1 ≤ worker → ring shift (worker + 1 - 1) ≡ ring shift (worker - 1) ++ datagram_rounds shift worker ROUNDS
unfolding ring
more_ring shift worker h =
    let e : worker + 1 - 1 ≡ suc (worker - 1) = omega arith in
    ap (λ n. flat_map (λ w. datagram_rounds shift w ROUNDS) (range_with_len 1 n)) e ∙ one_more (λ w. datagram_rounds shift w ROUNDS) 1 (worker - 1) worker (omega arith)

pub more_sends : (shift round : ℕ) → send_rounds shift (round + 1) ≡ send_rounds shift round ++ send_round shift round ∷ []
unfolding send_rounds
more_sends shift round = map-range_with_len_more (send_round shift) 0 round round (omega arith)

pub more_receives : (round : ℕ) → receive_rounds (round + 1) ≡ receive_rounds round ++ receive_round ∷ []
unfolding receive_rounds
more_receives round = replicate_next round receive_round
