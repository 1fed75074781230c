-- The fields of a disconnect's frame.
use Rattle.std.proofs.Common.{◌≡◌, ℕ, List, Some, refl}
use Rattle.tpi_grammar.specs.declared.kind.Kind.TheVariants as kind
use Rattle.tpi_prim.specs.declared.primitive.Prim.TheVariants as prim
use Rattle.tpi_prim.specs.Primitive.{reason_of, seq_of, user_of}
use Rattle.tpi_prim.specs.Fields.{kind_in, primitive_in, user_in, word_in}
use Rattle.xti_end.specs.Frames.{disconnect_in}

frame-is : (f : List ℕ) → kind_in f ≡ kind.T_DISCON_IND → primitive_in f ≡ prim.T_DISCON_IND (word_in f 12) (word_in f 16) (user_in f)
unfolding primitive_in
frame-is f h = rw h refl

pub reason-is : (f : List ℕ) (r : ℕ) → kind_in f ≡ kind.T_DISCON_IND → reason_of (primitive_in f) ≡ Some r → r ≡ (disconnect_in f).reason
reason-is f r k e = let h : Some (word_in f 12) ≡ Some r = rw (frame-is f k) at e in rw (frame-is f k) cc

pub number-is : (f : List ℕ) (r : ℕ) → kind_in f ≡ kind.T_DISCON_IND → seq_of (primitive_in f) ≡ Some r → r ≡ (disconnect_in f).number
number-is f r k e = let h : Some (word_in f 16) ≡ Some r = rw (frame-is f k) at e in rw (frame-is f k) cc

pub data-is : (f r : List ℕ) → kind_in f ≡ kind.T_DISCON_IND → user_of (primitive_in f) ≡ r → r ≡ (disconnect_in f).udata
data-is f r k e = let h : user_in f ≡ r = rw (frame-is f k) at e in rw (frame-is f k) cc
