-- The entries of a copy begin its calls, in their order.
use Rattle.std.proofs.Common.{ℕ, List, [], ◌∷◌, ◌++◌, ◌≡◌, refl, ap, map, flat_map}
use Rattle.xti_model.specs.declared.entry.Act.{Act}
use Rattle.xti_model.specs.declared.entry.Act.TheVariants as act
use Rattle.xti_laws_streams.specs.Copying.{exchange, exchange_calls, ending, ending_calls, copied, connecting_calls, copy_calls, pieces, AreCalls}
use Rattle.xti_laws_streams.proofs.Singles.{all-own, copied-single}

exchanges-begin : (ps : List (List ℕ)) → map (λ e. e.act) (flat_map exchange ps ++ ending) ≡ map (λ c. act.Begin c) (flat_map exchange_calls ps ++ ending_calls)
exchanges-begin [] = refl
exchanges-begin (p ∷ ps) = ap (λ (acts : List Act). map (λ c. act.Begin c) (exchange_calls p) ++ acts) (exchanges-begin ps)

pub makes-calls : (input : List ℕ) → AreCalls 0 (copy_calls input) (copied input)
makes-calls input = record {
  own = all-own (copied input) (copied-single input);
  acts = ap (λ (acts : List Act). map (λ c. act.Begin c) connecting_calls ++ acts) (exchanges-begin (pieces input));
}
