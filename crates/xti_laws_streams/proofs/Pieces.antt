-- The pieces of an input: joined they are the input, and each has 1 to 1,024 bytes.
use Rattle.std.proofs.Common.{ℕ, zero, suc, ◌≤◌, ◌<◌, List, [], ◌∷◌, ◌++◌, ◌≡◌, refl, ap, ◌∙◌, length, take, drop, arith, take-append-drop, length-take, length-drop}
use Rattle.std.specs.List.{concat, AllByRecursion}
use Rattle.std.proofs.lemmas.List.Elements.{All-take, All-drop}
use Rattle.xti_model.specs.SentBytes.{AreBytes}
use Rattle.xti_laws_streams.specs.Copying.{pieces, pieces_within}
use Rattle.xti_laws_streams.specs.declared.copies.TheConstants.{PIECE}

joined-within : (most : ℕ) (bytes : List ℕ) → length bytes ≤ most → concat (pieces_within most bytes) ≡ bytes
unfolding pieces_within
joined-within most [] h = refl
joined-within zero (b ∷ bytes) h = absurd (omega arith)
joined-within (suc most) (b ∷ bytes) h =
    ap (λ rest. take PIECE (b ∷ bytes) ++ rest) (joined-within most (drop PIECE (b ∷ bytes)) (omega (arith, length-drop PIECE (b ∷ bytes))))
    ∙ take-append-drop PIECE (b ∷ bytes)

pub joined : (bytes : List ℕ) → concat (pieces bytes) ≡ bytes
joined bytes = joined-within (length bytes) bytes (omega arith)

-- a piece, which can be sent
pub record IsPiece (piece : List ℕ) : Type 0 where
  pub some : 0 < length piece
  pub most : length piece ≤ 1024
  pub bytes : AreBytes piece

each-within : (most : ℕ) (bytes : List ℕ) → AreBytes bytes → AllByRecursion IsPiece (pieces_within most bytes)
unfolding pieces_within
each-within most [] h = tt
each-within zero (b ∷ bytes) h = tt
each-within (suc most) (b ∷ bytes) h =
    let n = length-take PIECE (b ∷ bytes) in (
      record { some = omega (arith, n); most = omega (arith, n); bytes = All-take (λ b. b < 256) PIECE (b ∷ bytes) h },
      each-within most (drop PIECE (b ∷ bytes)) (All-drop (λ b. b < 256) PIECE (b ∷ bytes) h),
    )

pub each : (bytes : List ℕ) → AreBytes bytes → AllByRecursion IsPiece (pieces bytes)
each bytes h = each-within (length bytes) bytes h
