-- The first of the datagrams that wait, and what taking from it leaves.
use Rattle.std.proofs.Common.{◌≡◌, ℕ, zero, suc, ◌+◌, ◌<◌, Bool, true, false, ltb, eqb, List, [], ◌∷◌, ◌++◌, length, get_or, take, drop, Some, None, refl, ap, arith}
use Rattle.std.specs.Prelude.{map, take_while, if◌then◌else◌, slice_get, option_map}
use Rattle.std.proofs.lemmas.Bool.{ne_eqb}
use Rattle.tpi_grammar.specs.Frame.{AreBytes}
use Rattle.tpi_grammar.specs.declared.kind.Kind.TheVariants as kind
use Rattle.tpi_prim.specs.declared.primitive.Prim.{Prim}
use Rattle.tpi_prim.specs.declared.primitive.Prim.TheVariants as prim
use Rattle.tpi_prim.specs.declared.primitive.Part.TheVariants.{Src, Opt}
use Rattle.tpi_prim.specs.Primitive.{part_of, user_of}
use Rattle.tpi_prim.specs.Fields.{kind_in, primitive_in, part_in, user_in}
use Rattle.xti_model.specs.Endpoint.{Datagram}
use Rattle.xti_model.specs.Events.{some_wait}
use Rattle.xti_model.specs.Symbols as waiting
use Rattle.xti_model.specs.Calls.Datagrams.{datagram_or, has_rest, shortened}
use Rattle.xti_queue.specs.Indications.{begun, with_user, left_behind, ends_message, symbols_of_all}
use Rattle.xti_end.specs.Frames.{datagram_of, AreDatagrams, no_datagram}

pub are_bytes : (bs : List ℕ) → ((i : ℕ) → get_or bs i 0 < 256) → AreBytes bs
are_bytes [] h = tt
are_bytes (b ∷ bs) h = (h 0, are_bytes bs (λ i. h (suc i)))

-- a T_UNITDATA_IND
pub frame-is : (f : List ℕ) → kind_in f ≡ kind.T_UNITDATA_IND → primitive_in f ≡ prim.T_UNITDATA_IND (part_in f 12) (part_in f 20) (user_in f)
unfolding primitive_in
frame-is f h = rw h refl

pub begun-is : (taken : ℕ) (f : List ℕ) (fs : List (List ℕ)) → kind_in f ≡ kind.T_UNITDATA_IND → begun taken (f ∷ fs) ≡ prim.T_UNITDATA_IND (part_in f 12) (part_in f 20) (drop taken (user_in f)) ∷ map primitive_in fs
unfolding begun with_user
begun-is taken f fs h = rw (frame-is f h) refl

begun-none : (taken : ℕ) → begun taken [] ≡ []
unfolding begun
begun-none taken = refl

abbrev pub datagram : List ℕ → List ℕ → List ℕ → Datagram
datagram s o u = record { source = s; options = o; bytes = u }

-- the first datagram of frames, of the first of which so many bytes were taken
abbrev pub first_in : ℕ → List (List ℕ) → Datagram
first_in taken fs = datagram_or (slice_get (map datagram_of (begun taken fs)) 0)

pub kind-first : (fs : List (List ℕ)) (f : List ℕ) → AreDatagrams fs → Some f ≡ slice_get fs 0 → kind_in f ≡ kind.T_UNITDATA_IND
kind-first [] f all e = cc
kind-first (g ∷ gs) f (k, ks) e = let h : f ≡ g = cc in rw h k

pub first-is : (taken : ℕ) (fs : List (List ℕ)) (f : List ℕ) → AreDatagrams fs → Some f ≡ slice_get fs 0 → first_in taken fs ≡ datagram (part_in f 12) (part_in f 20) (drop taken (user_in f))
first-is taken [] f all e = cc
first-is taken (g ∷ gs) f (k, ks) e = let h : f ≡ g = cc in rw (h, begun-is taken g gs k) refl

pub first-none : (taken : ℕ) (fs : List (List ℕ)) → None ≡ slice_get fs 0 → first_in taken fs ≡ no_datagram
first-none taken [] e = rw (begun-none taken) refl
first-none taken (g ∷ gs) e = cc

pub src-is : (f r : List ℕ) → kind_in f ≡ kind.T_UNITDATA_IND → part_of Src (primitive_in f) ≡ Some r → r ≡ part_in f 12
src-is f r k e = let h : Some (part_in f 12) ≡ Some r = rw (frame-is f k) at e in cc

pub opt-is : (f r : List ℕ) → kind_in f ≡ kind.T_UNITDATA_IND → part_of Opt (primitive_in f) ≡ Some r → r ≡ part_in f 20
opt-is f r k e = let h : Some (part_in f 20) ≡ Some r = rw (frame-is f k) at e in cc

pub rest-is : (taken : ℕ) (fs : List (List ℕ)) (r : List ℕ) → AreDatagrams fs → Some r ≡ option_map user_of (slice_get (begun taken fs) 0) → r ≡ (first_in taken fs).bytes
rest-is taken [] r all e = let h : Some r ≡ None = rw (begun-none taken) at e in cc
rest-is taken (g ∷ gs) r (k, ks) e = let h : Some r ≡ Some (drop taken (user_in g)) = rw (begun-is taken g gs k) at e in rw (begun-is taken g gs k) cc

pub rest-none : (taken : ℕ) (fs : List (List ℕ)) → AreDatagrams fs → None ≡ option_map user_of (slice_get (begun taken fs) 0) → [] ≡ (first_in taken fs).bytes
rest-none taken [] all e = rw (begun-none taken) refl
rest-none taken (g ∷ gs) (k, ks) e = let h : None ≡ Some (drop taken (user_in g)) = rw (begun-is taken g gs k) at e in cc

one-left : (max : ℕ) (s o u : List ℕ) (ps : List Prim) (b : Bool) → ltb max (length u) ≡ b
    → map datagram_of (left_behind max (prim.T_UNITDATA_IND s o u ∷ ps)) ≡ (if b then datagram s o (drop max u) ∷ map datagram_of ps else map datagram_of ps)
unfolding left_behind with_user ends_message
one-left max s o u ps true h = rw h refl
one-left max s o u ps false h = rw h refl

take-more : (n b : ℕ) (bs : List ℕ) → take (1 + n) (b ∷ bs) ≡ b ∷ take n bs
take-more n b bs = let e : 1 + n ≡ suc n = omega arith in rw e refl

bytes-first : (u more : List ℕ) (max : ℕ) → AreBytes u → take_while waiting.is_byte (take max ((u ++ 256 ∷ []) ++ more)) ≡ take max u
bytes-first [] more zero h = refl
bytes-first [] more (suc n) h = refl
bytes-first (b ∷ u) more zero h = refl
bytes-first (b ∷ u) more (suc n) (lt, h) = let e : eqb b 256 ≡ false = ne_eqb b 256 (λ k. omega arith) in rw (e, take-more) (ap (λ (bs : List ℕ). b ∷ bs) (bytes-first u more n h))

one-front : (max : ℕ) (s o u : List ℕ) (ps : List Prim) → AreBytes u → waiting.front max (symbols_of_all (prim.T_UNITDATA_IND s o u ∷ ps)) ≡ take max u
unfolding symbols_of_all ends_message
one-front max s o u ps h = bytes-first u (symbols_of_all ps) max h

-- the bytes that are taken are those of the first datagram
pub front-is : (max taken : ℕ) (fs : List (List ℕ)) → AreDatagrams fs → some_wait (map datagram_of (begun taken fs)) ≡ true → AreBytes (first_in taken fs).bytes
    → waiting.front max (symbols_of_all (begun taken fs)) ≡ take max (first_in taken fs).bytes
front-is max taken [] all w h = let f : false ≡ true = rw (begun-none taken) at w in cc
front-is max taken (g ∷ gs) (k, ks) w h =
    let b : AreBytes (drop taken (user_in g)) = rw (begun-is taken g gs k) at h in
    rw (begun-is taken g gs k) (one-front max (part_in g 12) (part_in g 20) (drop taken (user_in g)) (map primitive_in gs) b)

-- what is left of the datagrams
pub left-is : (max taken : ℕ) (fs : List (List ℕ)) (b : Bool) → AreDatagrams fs → some_wait (map datagram_of (begun taken fs)) ≡ true → has_rest max (first_in taken fs) ≡ b
    → map datagram_of (left_behind max (begun taken fs)) ≡ (if b then shortened max (first_in taken fs) ∷ drop 1 (map datagram_of (begun taken fs)) else drop 1 (map datagram_of (begun taken fs)))
left-is max taken [] b all w h = let f : false ≡ true = rw (begun-none taken) at w in cc
left-is max taken (g ∷ gs) b (k, ks) w h =
    let l : ltb max (length (drop taken (user_in g))) ≡ b = rw (begun-is taken g gs k) at h in
    rw (begun-is taken g gs k) (one-left max (part_in g 12) (part_in g 20) (drop taken (user_in g)) (map primitive_in gs) b l)
