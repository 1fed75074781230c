-- What waiting frames come to, frame by frame.
use Rattle.std.proofs.Common.{◌≡◌, ◌≤◌, ◌<◌, ◌+◌, ◌-◌, ◌++◌, ℕ, suc, Bool, true, false, not, List, [], ◌∷◌, length, drop, map, Some, refl, sym, ap, ◌∙◌, arith, subst, lit≤, lt-ltb, le-ltb}
use Rattle.std.proofs.lemmas.List.{drop-drop, length-map}
use Rattle.std.specs.List.{flat_map}
use Rattle.tpi_grammar.specs.Frame.{AreBytes}
use Rattle.tpi_grammar.specs.Kinds.{row_of}
use Rattle.tpi_grammar.specs.Measured.{IsFrame}
use Rattle.tpi_grammar.specs.declared.kind.Kind.{Kind}
use Rattle.tpi_grammar.specs.declared.kind.Kind.TheVariants as kind
use Rattle.tpi_prim.specs.declared.primitive.Prim.{Prim}
use Rattle.tpi_prim.specs.declared.primitive.Prim.TheVariants as prim
use Rattle.tpi_prim.specs.declared.primitive.Part.{Part}
use Rattle.tpi_prim.specs.declared.primitive.Part.TheVariants.{Dest, Src, Res, Addr, Opt}
use Rattle.tpi_prim.specs.Primitive.{user_of, kind_of, more_of, part_of, filled}
use Rattle.tpi_prim.specs.Fields.{kind_in, primitive_in}
use Rattle.tpi_prim.proofs.FrameReads.{spelled_by, kind_of-primitive_in, is_spelled, primitive_is}
use Rattle.xti_model.specs.Symbols.{piece}
use Rattle.xti_queue.specs.Indications.{can_wait, ends_message, with_user, without, symbols_of, begun, symbols_of_all, left_behind}
use Rattle.xti_queue.specs.Front.{symbols_in}

-- ---- one indication

waits_user : (p : Prim) (u : List ℕ) → can_wait (kind_of p) ≡ true → user_of (with_user u p) ≡ u
unfolding with_user
waits_user (prim.T_DATA_IND more user) u can = refl
waits_user (prim.T_EXDATA_IND more user) u can = refl
waits_user (prim.T_UNITDATA_IND src opt user) u can = refl
waits_user _ u can = absurd (cc)

pub ends_with_user : (p : Prim) (u : List ℕ) → ends_message (with_user u p) ≡ ends_message p
unfolding with_user ends_message
ends_with_user (prim.T_DATA_IND more user) u = refl
ends_with_user _ u = refl

pub kind_with_user : (p : Prim) (u : List ℕ) → kind_of (with_user u p) ≡ kind_of p
unfolding with_user
kind_with_user (prim.T_DATA_IND more user) u = refl
kind_with_user _ u = refl

part_with_user : (which : Part) (p : Prim) (u : List ℕ) → part_of which (with_user u p) ≡ part_of which p
unfolding with_user
part_with_user Dest (prim.T_DATA_IND more user) u = refl
part_with_user Dest _ u = refl
part_with_user Src (prim.T_DATA_IND more user) u = refl
part_with_user Src _ u = refl
part_with_user Res (prim.T_DATA_IND more user) u = refl
part_with_user Res _ u = refl
part_with_user Addr (prim.T_DATA_IND more user) u = refl
part_with_user Addr _ u = refl
part_with_user Opt (prim.T_DATA_IND more user) u = refl
part_with_user Opt _ u = refl

twice_with_user : (p : Prim) (u v : List ℕ) → with_user u (with_user v p) ≡ with_user u p
unfolding with_user
twice_with_user (prim.T_DATA_IND more user) u v = refl
twice_with_user _ u v = refl

pub without_none : (p : Prim) → without 0 p ≡ p
unfolding with_user
without_none (prim.T_DATA_IND more user) = refl
without_none _ = refl

ends_more : (p : Prim) (more : Bool) → can_wait (kind_of p) ≡ true → more_of p ≡ Some more → not more ≡ ends_message p
unfolding ends_message
ends_more (prim.T_DATA_IND m user) more can is = cc
ends_more (prim.T_EXDATA_IND m user) more can is = cc
ends_more (prim.T_UNITDATA_IND src opt user) more can is = absurd (cc)
ends_more _ more can is = absurd (cc)

ends_datagram : (p : Prim) → can_wait (kind_of p) ≡ true → (kind_of p ≡ kind.T_DATA_IND → ⊥) → (kind_of p ≡ kind.T_EXDATA_IND → ⊥) → true ≡ ends_message p
unfolding ends_message
ends_datagram (prim.T_DATA_IND m user) can normal expedited = absurd (normal refl)
ends_datagram (prim.T_EXDATA_IND m user) can normal expedited = absurd (expedited refl)
ends_datagram (prim.T_UNITDATA_IND src opt user) can normal expedited = refl
ends_datagram _ can normal expedited = absurd (cc)

-- ---- one frame

can_be : (f : List ℕ) → can_wait (kind_in f) ≡ true → can_wait (kind_of (primitive_in f)) ≡ true
can_be f can = rw (kind_of-primitive_in f) can

pub flag_ends : (f : List ℕ) (more : Bool) → can_wait (kind_in f) ≡ true → more_of (primitive_in f) ≡ Some more → not more ≡ ends_message (primitive_in f)
flag_ends f more can is = ends_more (primitive_in f) more (can_be f can) is

pub datagram_ends : (f : List ℕ) (k : Kind) → can_wait (kind_in f) ≡ true → k ≡ kind_in f → (k ≡ kind.T_DATA_IND → ⊥) → (k ≡ kind.T_EXDATA_IND → ⊥)
    → true ≡ ends_message (primitive_in f)
datagram_ends f k can is normal expedited =
    let e : k ≡ kind_of (primitive_in f) = is ∙ sym (kind_of-primitive_in f) in
    ends_datagram (primitive_in f) (can_be f can) (λ h. normal (e ∙ h)) (λ h. expedited (e ∙ h))

pub part_left : (which : Part) (f : List ℕ) (n : ℕ) → part_of which (without n (primitive_in f)) ≡ part_of which (primitive_in f)
part_left which f n = part_with_user which (primitive_in f) (drop n (user_of (primitive_in f)))

pub user_left : (f : List ℕ) (n : ℕ) → can_wait (kind_in f) ≡ true → user_of (without n (primitive_in f)) ≡ drop n (user_of (primitive_in f))
user_left f n can = waits_user (primitive_in f) (drop n (user_of (primitive_in f))) (can_be f can)

pub ends_left : (f : List ℕ) (n : ℕ) → ends_message (without n (primitive_in f)) ≡ ends_message (primitive_in f)
ends_left f n = ends_with_user (primitive_in f) (drop n (user_of (primitive_in f)))

pub kind_left : (f : List ℕ) (n : ℕ) → kind_of (without n (primitive_in f)) ≡ kind_in f
kind_left f n = kind_with_user (primitive_in f) (drop n (user_of (primitive_in f))) ∙ kind_of-primitive_in f

-- ---- frames

all_as_read : (fs : List (List ℕ)) → begun 0 fs ≡ map primitive_in fs
unfolding begun
all_as_read [] = refl
all_as_read (f ∷ fs) = ap (λ p. p ∷ map primitive_in fs) (without_none (primitive_in f))

pub begun-none : (n : ℕ) → begun n [] ≡ []
unfolding begun
begun-none n = refl

pub begun-cons : (n : ℕ) (f : List ℕ) (fs : List (List ℕ)) → begun n (f ∷ fs) ≡ without n (primitive_in f) ∷ begun 0 fs
unfolding begun
begun-cons n f fs = ap (λ ps. without n (primitive_in f) ∷ ps) (sym (all_as_read fs))

pub symbols_in-none : (n : ℕ) → symbols_in n [] ≡ []
unfolding begun symbols_of_all
symbols_in-none n = refl

pub symbols_in-cons : (n : ℕ) (f : List ℕ) (fs : List (List ℕ)) → can_wait (kind_in f) ≡ true
    → symbols_in n (f ∷ fs) ≡ piece (drop n (user_of (primitive_in f))) (ends_message (primitive_in f)) ++ symbols_in 0 fs
unfolding symbols_of_all
symbols_in-cons n f fs can =
    rw (begun-cons n f fs)
    (ap (λ u. piece u (ends_message (without n (primitive_in f))) ++ flat_map symbols_of (begun 0 fs)) (user_left f n can)
    ∙ ap (λ e. piece (drop n (user_of (primitive_in f))) e ++ flat_map symbols_of (begun 0 fs)) (ends_left f n))

pub begun-drop : (hs : List (List ℕ)) (n : ℕ) → begun 0 (drop 1 hs) ≡ drop 1 (begun n hs)
unfolding begun
begun-drop [] n = refl
begun-drop (f ∷ fs) n = all_as_read fs

pub begun-length : (hs : List (List ℕ)) (n : ℕ) → length hs ≡ length (begun n hs)
unfolding begun
begun-length [] n = refl
begun-length (f ∷ fs) n = ap suc (sym (length-map fs primitive_in))

-- ---- what is left after

pub left_behind-none : (max n : ℕ) → left_behind max (begun n []) ≡ begun n []
unfolding begun left_behind
left_behind-none max n = refl

left_part : (max : ℕ) (p : Prim) (ps : List Prim) → max < length (user_of p) → left_behind max (p ∷ ps) ≡ without max p ∷ ps
unfolding left_behind
left_part max p ps less = rw (lt-ltb max (length (user_of p)) less) refl

left_end : (max : ℕ) (p : Prim) (ps : List Prim) → length (user_of p) ≤ max → ends_message p ≡ true → left_behind max (p ∷ ps) ≡ ps
unfolding left_behind
left_end max p ps all closes = rw (le-ltb max (length (user_of p)) all, closes) refl

left_more : (max : ℕ) (p : Prim) (ps : List Prim) → length (user_of p) ≤ max → ends_message p ≡ false → left_behind max (p ∷ ps) ≡ left_behind (max - length (user_of p)) ps
unfolding left_behind
left_more max p ps all closes = rw (le-ltb max (length (user_of p)) all, closes) refl

without-without : (m n : ℕ) (f : List ℕ) → can_wait (kind_in f) ≡ true → without m (without n (primitive_in f)) ≡ without (n + m) (primitive_in f)
without-without m n f can =
    twice_with_user (primitive_in f) (drop m (user_of (without n (primitive_in f)))) (drop n (user_of (primitive_in f)))
    ∙ ap (λ u. with_user (drop m u) (primitive_in f)) (user_left f n can)
    ∙ ap (λ u. with_user u (primitive_in f)) (drop-drop m n (user_of (primitive_in f)))

-- a part of the first frame
pub left_behind-part : (max n : ℕ) (f : List ℕ) (fs : List (List ℕ)) → can_wait (kind_in f) ≡ true → max < length (drop n (user_of (primitive_in f)))
    → left_behind max (begun n (f ∷ fs)) ≡ begun (n + max) (f ∷ fs)
left_behind-part max n f fs can less =
    ap (λ ps. left_behind max ps) (begun-cons n f fs)
    ∙ left_part max (without n (primitive_in f)) (begun 0 fs) (subst (λ (u : List ℕ). max < length u) (sym (user_left f n can)) less)
    ∙ ap (λ p. p ∷ begun 0 fs) (without-without max n f can)
    ∙ sym (begun-cons (n + max) f fs)

-- the whole first frame, and its end
pub left_behind-end : (max n : ℕ) (f : List ℕ) (fs : List (List ℕ)) → can_wait (kind_in f) ≡ true → length (drop n (user_of (primitive_in f))) ≤ max
    → ends_message (primitive_in f) ≡ true → left_behind max (begun n (f ∷ fs)) ≡ begun 0 fs
left_behind-end max n f fs can all closes =
    ap (λ ps. left_behind max ps) (begun-cons n f fs)
    ∙ left_end max (without n (primitive_in f)) (begun 0 fs) (subst (λ (u : List ℕ). length u ≤ max) (sym (user_left f n can)) all) (ends_left f n ∙ closes)

-- the whole first frame, whose message goes on
pub left_behind-more : (max n : ℕ) (f : List ℕ) (fs : List (List ℕ)) → can_wait (kind_in f) ≡ true → length (drop n (user_of (primitive_in f))) ≤ max
    → ends_message (primitive_in f) ≡ false → left_behind max (begun n (f ∷ fs)) ≡ left_behind (max - length (drop n (user_of (primitive_in f)))) (begun 0 fs)
left_behind-more max n f fs can all closes =
    ap (λ ps. left_behind max ps) (begun-cons n f fs)
    ∙ left_more max (without n (primitive_in f)) (begun 0 fs) (subst (λ (u : List ℕ). length u ≤ max) (sym (user_left f n can)) all) (ends_left f n ∙ closes)
    ∙ ap (λ u. left_behind (max - length u) (begun 0 fs)) (user_left f n can)
