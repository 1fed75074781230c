-- The fields of the frames of a request and of its answer; a request that is listened for.
use Rattle.std.proofs.Common.{◌≡◌, ℕ, List, Some, refl}
use Rattle.tpi_grammar.specs.declared.kind.Kind.TheVariants as kind
use Rattle.tpi_prim.specs.declared.primitive.Prim.TheVariants as prim
use Rattle.tpi_prim.specs.declared.primitive.Part.TheVariants.{Src, Res, Opt}
use Rattle.tpi_prim.specs.Primitive.{part_of, seq_of, user_of}
use Rattle.tpi_prim.specs.Fields.{kind_in, primitive_in, part_in, user_in, word_in}
use Rattle.xti_end.specs.declared.indications.Ind.{Ind}
use Rattle.xti_end.specs.Frames.{confirmation_in, indication_of, IsRequest}
use Rattle.xti_end.proofs.Callers.{request-is}

pub address-is : (i : Ind) (r : List ℕ) → IsRequest i → part_of Src (primitive_in i.frame) ≡ Some r → r ≡ (indication_of i).address
address-is i r k e = let h : Some (part_in i.frame 12) ≡ Some r = rw (request-is i.frame k) at e in rw (request-is i.frame k) cc

pub options-is : (i : Ind) (r : List ℕ) → IsRequest i → part_of Opt (primitive_in i.frame) ≡ Some r → r ≡ (indication_of i).options
options-is i r k e = let h : Some (part_in i.frame 20) ≡ Some r = rw (request-is i.frame k) at e in rw (request-is i.frame k) cc

pub number-is : (i : Ind) (r : ℕ) → IsRequest i → seq_of (primitive_in i.frame) ≡ Some r → r ≡ (indication_of i).number
number-is i r k e = let h : Some (word_in i.frame 28) ≡ Some r = rw (request-is i.frame k) at e in rw (request-is i.frame k) cc

pub data-is : (i : Ind) (r : List ℕ) → IsRequest i → user_of (primitive_in i.frame) ≡ r → r ≡ (indication_of i).udata
data-is i r k e = let h : user_in i.frame ≡ r = rw (request-is i.frame k) at e in rw (request-is i.frame k) cc

answer-is : (f : List ℕ) → kind_in f ≡ kind.T_CONN_CON → primitive_in f ≡ prim.T_CONN_CON (part_in f 12) (part_in f 20) (user_in f)
unfolding primitive_in
answer-is f h = rw h refl

pub answer-address-is : (f r : List ℕ) → kind_in f ≡ kind.T_CONN_CON → part_of Res (primitive_in f) ≡ Some r → r ≡ (confirmation_in f).address
answer-address-is f r k e = let h : Some (part_in f 12) ≡ Some r = rw (answer-is f k) at e in rw (answer-is f k) cc

pub answer-options-is : (f r : List ℕ) → kind_in f ≡ kind.T_CONN_CON → part_of Opt (primitive_in f) ≡ Some r → r ≡ (confirmation_in f).options
answer-options-is f r k e = let h : Some (part_in f 20) ≡ Some r = rw (answer-is f k) at e in rw (answer-is f k) cc

pub answer-data-is : (f r : List ℕ) → kind_in f ≡ kind.T_CONN_CON → user_of (primitive_in f) ≡ r → r ≡ (confirmation_in f).udata
answer-data-is f r k e = let h : user_in f ≡ r = rw (answer-is f k) at e in rw (answer-is f k) cc
