-- The fields of a datagram error's frame.
use Rattle.std.proofs.Common.{◌≡◌, ℕ, List, Some, refl}
use Rattle.tpi_grammar.specs.declared.kind.Kind.TheVariants as kind
use Rattle.tpi_prim.specs.declared.primitive.Prim.TheVariants as prim
use Rattle.tpi_prim.specs.declared.primitive.Part.TheVariants.{Dest, Opt}
use Rattle.tpi_prim.specs.Primitive.{part_of, reason_of}
use Rattle.tpi_prim.specs.Fields.{kind_in, primitive_in, part_in, word_in}
use Rattle.xti_end.specs.Frames.{error_in}

frame-is : (f : List ℕ) → kind_in f ≡ kind.T_UDERROR_IND → primitive_in f ≡ prim.T_UDERROR_IND (part_in f 12) (part_in f 20) (word_in f 28)
unfolding primitive_in
frame-is f h = rw h refl

pub destination-is : (f r : List ℕ) → kind_in f ≡ kind.T_UDERROR_IND → part_of Dest (primitive_in f) ≡ Some r → r ≡ (error_in f).destination
destination-is f r k e = let h : Some (part_in f 12) ≡ Some r = rw (frame-is f k) at e in rw (frame-is f k) cc

pub options-is : (f r : List ℕ) → kind_in f ≡ kind.T_UDERROR_IND → part_of Opt (primitive_in f) ≡ Some r → r ≡ (error_in f).options
options-is f r k e = let h : Some (part_in f 20) ≡ Some r = rw (frame-is f k) at e in rw (frame-is f k) cc

pub code-is : (f : List ℕ) (r : ℕ) → kind_in f ≡ kind.T_UDERROR_IND → reason_of (primitive_in f) ≡ Some r → r ≡ (error_in f).code
code-is f r k e = let h : Some (word_in f 28) ≡ Some r = rw (frame-is f k) at e in rw (frame-is f k) cc
