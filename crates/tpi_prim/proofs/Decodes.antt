-- What is decoded is what was encoded.
use Rattle.std.proofs.Common.{◌≡◌, ◌≤◌, ℕ, List, ◌++◌, length, take, drop, take-append-drop, length-append, arith, refl, sym, ◌∙◌, ap}
use Rattle.std.proofs.Math.Seq.{take-append_seam}
use Rattle.std.proofs.lemmas.List.{length-take-le}
use Rattle.tpi_grammar.specs.Frame.{IsFilled, spelling}
use Rattle.tpi_grammar.specs.Measured.{IsFrame, HasNoFrame}
use Rattle.tpi_grammar.proofs.FrameLists.{apart}
use Rattle.tpi_prim.specs.declared.primitive.Prim.{Prim}
use Rattle.tpi_prim.specs.declared.decoding.Decoded.TheVariants.{Value}
use Rattle.tpi_prim.specs.Primitive.{filled}
use Rattle.tpi_prim.specs.Fields.{primitive_in}
use Rattle.tpi_prim.specs.Decoding.{MeansDecoded, GivesBack}
use Rattle.tpi_prim.proofs.FrameReads.{spelled_by, reads_back}

pub value_means : (bs : List ℕ) (used : ℕ) (prim : Prim) → used ≤ length bs → IsFrame (take used bs) → prim ≡ primitive_in (take used bs)
    → MeansDecoded bs (Value prim used)
value_means bs used prim within frame is = (within, rw is (spelled_by (take used bs) frame))

-- the frame that stands at the start
pub same_front : (bs : List ℕ) (used : ℕ) (p : Prim) (rest : List ℕ) → IsFrame (take used bs) → IsFilled (filled p) → bs ≡ spelling (filled p) ++ rest
    → take used bs ≡ spelling (filled p)
same_front bs used p rest framed good is =
    apart (take used bs) (spelling (filled p)) (drop used bs) rest framed (filled p, good, refl) (take-append-drop used bs ∙ is)

pub value_back : (bs : List ℕ) (used : ℕ) (prim : Prim) → used ≤ length bs → IsFrame (take used bs) → prim ≡ primitive_in (take used bs)
    → (p : Prim) (rest : List ℕ) → IsFilled (filled p) → bs ≡ spelling (filled p) ++ rest → GivesBack p (Value prim used)
value_back bs used prim within framed is p rest good at =
    let same = same_front bs used p rest framed good at in
    (is ∙ reads_back p (take used bs) (record { good = good; text = same }), sym (length-take-le used bs within) ∙ ap length same)

pub none_back : (bs : List ℕ) → HasNoFrame bs → (p : Prim) (rest : List ℕ) → IsFilled (filled p) → bs ≡ spelling (filled p) ++ rest → ⊥
none_back bs none p rest good at =
    let n : ℕ = length (spelling (filled p)) in
    let front : take n bs ≡ spelling (filled p) = ap (take n) at ∙ take-append_seam (spelling (filled p)) rest in
    none n (omega (arith, ap length at, length-append (spelling (filled p)) rest)) (filled p, good, front)
