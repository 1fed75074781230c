-- What the first of waiting frames alone gives.
use Rattle.std.proofs.Common.{◌≡◌, ◌≤◌, ◌<◌, ◌+◌, ◌-◌, ◌++◌, ℕ, true, false, List, [], ◌∷◌, length, take, drop, refl, ap, sym, ◌∙◌, arith, length-drop}
use Rattle.tpi_prim.specs.Primitive.{user_of}
use Rattle.tpi_prim.specs.Fields.{primitive_in}
use Rattle.xti_model.specs.Symbols.{piece}
use Rattle.xti_queue.specs.Indications.{ends_message}
use Rattle.xti_queue.specs.Kept.{IsWithin}
use Rattle.xti_queue.specs.Front.{symbols_in, IsTakenFrom}
use Rattle.xti_queue.proofs.Steps.{IsFirst, bytes-take, taken_long, symbols_first, cut_moves, cut_stops, cut_left, end_left, wait-drop, within_none}

cut_within : (hs : List (List ℕ)) (f : List ℕ) (n k : ℕ) (u : List ℕ) → IsFirst hs f n u → k < length u → IsWithin (n + k) hs
cut_within [] f n k u t less = absurd (omega (arith, t.some))
cut_within (h ∷ hs) f n k u t less =
    let same : length (user_of (primitive_in f)) ≡ length (user_of (primitive_in h)) = ap (λ (g : List ℕ). length (user_of (primitive_in g))) t.is in
    omega (arith, less, ap length t.user, length-drop n (user_of (primitive_in f)), same)

none_dropped : (hs : List (List ℕ)) → hs ≡ drop (length hs - length hs) hs
none_dropped hs = let z : length hs - length hs ≡ 0 = omega arith in rw z refl

one_dropped : (hs : List (List ℕ)) → 0 < length hs → drop 1 hs ≡ drop (length hs - length (drop 1 hs)) hs
one_dropped hs some = let one : length hs - length (drop 1 hs) ≡ 1 = omega (arith, some, length-drop 1 hs) in ap (λ n. drop n hs) (sym one)

-- a part of it
pub cut_taken : (hs : List (List ℕ)) (f : List ℕ) (n k : ℕ) (u b : List ℕ) → IsFirst hs f n u → k < length u → b ≡ take k u → IsTakenFrom k n hs (n + k) hs b false
cut_taken hs f n k u b t less is =
    let long : length b ≡ k = ap length is ∙ taken_long k u (omega (arith, less)) in
    record {
      moved = cut_moves hs f n k u [] b t is;
      stops = λ e. cut_stops hs f n k (length b) k u t less long;
      left = cut_left hs f n k u t less;
      wait = t.wait;
      within = cut_within hs f n k u t less;
      most = omega (arith, long);
      are_bytes = rw is (bytes-take k u t.bytes);
      items = none_dropped hs;
      shorter = omega arith;
    }

all_taken : (hs : List (List ℕ)) (f : List ℕ) (n max : ℕ) (u : List ℕ) → IsFirst hs f n u → length u ≤ max → ends_message (primitive_in f) ≡ true → IsTakenFrom max n hs 0 (drop 1 hs) u true
all_taken hs f n max u t all closes = record {
  moved = symbols_first hs f n u t ∙ ap (λ e. piece u e ++ symbols_in 0 (drop 1 hs)) closes;
  stops = λ e. absurd (cc);
  left = end_left hs f n max u t all closes;
  wait = wait-drop hs t.wait;
  within = within_none (drop 1 hs);
  most = all;
  are_bytes = t.bytes;
  items = one_dropped hs t.some;
  shorter = omega (arith, length-drop 1 hs);
}

-- the whole of it, and the end after it
pub end_taken : (hs kept : List (List ℕ)) (f : List ℕ) (n max : ℕ) (u b : List ℕ) → IsFirst hs f n u → length u ≤ max → ends_message (primitive_in f) ≡ true
    → kept ≡ drop 1 hs → b ≡ u → IsTakenFrom max n hs 0 kept b true
end_taken hs kept f n max u b t all closes rest is = rw (rest, is) (all_taken hs f n max u t all closes)
