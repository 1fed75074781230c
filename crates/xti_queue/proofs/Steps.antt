-- Taking from the first of waiting frames.
use Rattle.std.proofs.Common.{◌≡◌, ◌≤◌, ◌<◌, ◌+◌, ◌-◌, ◌++◌, ℕ, suc, zero, Bool, true, false, List, [], ◌∷◌, length, take, drop, slice_index_or, refl, sym, ap, ◌∙◌, arith, subst, append_assoc, take-append-drop, length-append, length-drop}
use Rattle.std.proofs.lemmas.List.{append-nil, drop-drop}
use Rattle.tpi_grammar.specs.Frame.{AreBytes}
use Rattle.tpi_prim.specs.Primitive.{user_of}
use Rattle.tpi_prim.specs.Fields.{kind_in, primitive_in}
use Rattle.xti_model.specs.Symbols.{front, piece, end_of_message}
use Rattle.xti_queue.specs.Indications.{can_wait, ends_message, begun, left_behind}
use Rattle.xti_queue.specs.Kept.{AllWait, IsWithin}
use Rattle.xti_queue.specs.Front.{symbols_in, StopsAt}
use Rattle.xti_queue.proofs.Indicated.{symbols_in-none, symbols_in-cons, left_behind-none, left_behind-part, left_behind-end, left_behind-more}
use Rattle.xti_queue.proofs.Fronts.{front-bytes, front-end, front-none, room_for}

-- the first frame, and what is left of its user data
pub record IsFirst (hs : List (List ℕ)) (f : List ℕ) (n : ℕ) (u : List ℕ) : Type 0 where
  pub some : 0 < length hs
  pub is : f ≡ slice_index_or hs 0 f
  pub wait : AllWait hs
  pub user : u ≡ drop n (user_of (primitive_in f))
  pub bytes : AreBytes u

-- ---- lists of bytes

pub bytes-append : (a b : List ℕ) → AreBytes a → AreBytes b → AreBytes (a ++ b)
bytes-append [] b one two = two
bytes-append (x ∷ a) b (low, one) two = (low, bytes-append a b one two)

pub bytes-take : (k : ℕ) (u : List ℕ) → AreBytes u → AreBytes (take k u)
bytes-take zero u bs = tt
bytes-take (suc k) [] bs = tt
bytes-take (suc k) (x ∷ u) (low, bs) = (low, bytes-take k u bs)

pub bytes-drop : (k : ℕ) (u : List ℕ) → AreBytes u → AreBytes (drop k u)
bytes-drop zero u bs = bs
bytes-drop (suc k) [] bs = tt
bytes-drop (suc k) (x ∷ u) (low, bs) = bytes-drop k u bs

pub take-all : (k : ℕ) (u : List ℕ) → length u ≤ k → take k u ≡ u
take-all zero [] all = refl
take-all zero (x ∷ u) all = absurd (omega (arith, all))
take-all (suc k) [] all = refl
take-all (suc k) (x ∷ u) all = ap (λ l. x ∷ l) (take-all k u (omega (arith, all)))

cut_piece : (k : ℕ) (u : List ℕ) (e : Bool) → piece u e ≡ take k u ++ piece (drop k u) e
cut_piece k u true = ap (λ l. l ++ end_of_message ∷ []) (sym (take-append-drop k u)) ∙ append_assoc (take k u) (drop k u) (end_of_message ∷ [])
cut_piece k u false = sym (take-append-drop k u)

byte_stops : (u : List ℕ) (e : Bool) (s : List ℕ) (m max : ℕ) → 0 < length u → AreBytes u → m ≡ max → StopsAt m (piece u e ++ s) max
byte_stops [] e s m max some bs full = absurd (omega (arith, some))
byte_stops (x ∷ u) true s m max some (low, bs) full = (full, low)
byte_stops (x ∷ u) false s m max some (low, bs) full = (full, low)

-- ---- the first frame

first_of : (hs : List (List ℕ)) (f : List ℕ) → 0 < length hs → f ≡ slice_index_or hs 0 f → hs ≡ f ∷ drop 1 hs
first_of [] f some is = absurd (omega (arith, some))
first_of (h ∷ hs) f some is = ap (λ g. g ∷ hs) (sym is)

pub can_first : (hs : List (List ℕ)) (f : List ℕ) → 0 < length hs → f ≡ slice_index_or hs 0 f → AllWait hs → can_wait (kind_in f) ≡ true
can_first [] f some is wait = absurd (omega (arith, some))
can_first (h ∷ hs) f some is (can, wait) = ap (λ g. can_wait (kind_in g)) is ∙ can

pub can_be_first : (hs : List (List ℕ)) (f : List ℕ) (n : ℕ) (u : List ℕ) → IsFirst hs f n u → can_wait (kind_in f) ≡ true
can_be_first hs f n u t = can_first hs f t.some t.is t.wait

begun_first : (hs : List (List ℕ)) (f : List ℕ) (n m : ℕ) (u : List ℕ) → IsFirst hs f n u → begun m hs ≡ begun m (f ∷ drop 1 hs)
begun_first hs f n m u t = ap (λ l. begun m l) (first_of hs f t.some t.is)

pub symbols_first : (hs : List (List ℕ)) (f : List ℕ) (n : ℕ) (u : List ℕ) → IsFirst hs f n u
    → symbols_in n hs ≡ piece u (ends_message (primitive_in f)) ++ symbols_in 0 (drop 1 hs)
symbols_first hs f n u t =
    ap (λ l. symbols_in n l) (first_of hs f t.some t.is)
    ∙ symbols_in-cons n f (drop 1 hs) (can_be_first hs f n u t)
    ∙ ap (λ v. piece v (ends_message (primitive_in f)) ++ symbols_in 0 (drop 1 hs)) (sym t.user)

-- the same first frame, of which k bytes more were taken
cut_first : (hs : List (List ℕ)) (f : List ℕ) (n k : ℕ) (u : List ℕ) → IsFirst hs f n u → IsFirst hs f (n + k) (drop k u)
cut_first hs f n k u t = record {
  some = t.some;
  is = t.is;
  wait = t.wait;
  user = ap (λ v. drop k v) t.user ∙ drop-drop k n (user_of (primitive_in f));
  bytes = bytes-drop k u t.bytes;
}

regroup : (b t d s : List ℕ) → b ++ ((t ++ d) ++ s) ≡ (b ++ t) ++ (d ++ s)
regroup b t d s = simp append_assoc

-- ---- a part of it

pub cut_moves : (hs : List (List ℕ)) (f : List ℕ) (n k : ℕ) (u b c : List ℕ) → IsFirst hs f n u → c ≡ b ++ take k u
    → b ++ symbols_in n hs ≡ c ++ symbols_in (n + k) hs
cut_moves hs f n k u b c t more =
    let e = ends_message (primitive_in f) in
    let s = symbols_in 0 (drop 1 hs) in
    ap (λ l. b ++ l) (symbols_first hs f n u t)
    ∙ ap (λ l. b ++ (l ++ s)) (cut_piece k u e)
    ∙ regroup b (take k u) (piece (drop k u) e) s
    ∙ ap (λ l. (b ++ take k u) ++ l) (sym (symbols_first hs f (n + k) (drop k u) (cut_first hs f n k u t)))
    ∙ ap (λ l. l ++ symbols_in (n + k) hs) (sym more)

pub cut_stops : (hs : List (List ℕ)) (f : List ℕ) (n k m max : ℕ) (u : List ℕ) → IsFirst hs f n u → k < length u → m ≡ max
    → StopsAt m (symbols_in (n + k) hs) max
cut_stops hs f n k m max u t less full =
    let c = cut_first hs f n k u t in
    subst (λ (l : List ℕ). StopsAt m l max) (sym (symbols_first hs f (n + k) (drop k u) c))
    (byte_stops (drop k u) (ends_message (primitive_in f)) (symbols_in 0 (drop 1 hs)) m max (omega (arith, length-drop k u, less)) c.bytes full)

pub cut_left : (hs : List (List ℕ)) (f : List ℕ) (n k : ℕ) (u : List ℕ) → IsFirst hs f n u → k < length u → left_behind k (begun n hs) ≡ begun (n + k) hs
cut_left hs f n k u t less =
    ap (λ ps. left_behind k ps) (begun_first hs f n n u t)
    ∙ left_behind-part k n f (drop 1 hs) (can_be_first hs f n u t) (subst (λ (v : List ℕ). k < length v) t.user less)
    ∙ sym (begun_first hs f n (n + k) u t)

pub cut_room : (hs : List (List ℕ)) (f : List ℕ) (n k max : ℕ) (u b : List ℕ) → IsFirst hs f n u → AreBytes b → length (b ++ take k u) ≤ max
    → length (b ++ take k u) ≤ length (front max (b ++ symbols_in n hs))
cut_room hs f n k max u b t bs most =
    subst (λ (l : List ℕ). length (b ++ take k u) ≤ length (front max l)) (sym (cut_moves hs f n k u b (b ++ take k u) t refl))
    (room_for (b ++ take k u) (symbols_in (n + k) hs) max (bytes-append b (take k u) bs (bytes-take k u t.bytes)) most)

-- ---- the whole of it

pub end_moves : (hs : List (List ℕ)) (f : List ℕ) (n k : ℕ) (u b c : List ℕ) → IsFirst hs f n u → c ≡ b ++ take k u → length u ≤ k
    → ends_message (primitive_in f) ≡ true → b ++ symbols_in n hs ≡ c ++ end_of_message ∷ symbols_in 0 (drop 1 hs)
end_moves hs f n k u b c t more all closes =
    let s = symbols_in 0 (drop 1 hs) in
    ap (λ l. b ++ l) (symbols_first hs f n u t)
    ∙ ap (λ e. b ++ (piece u e ++ s)) closes
    ∙ regroup b u (end_of_message ∷ []) s
    ∙ ap (λ l. (b ++ l) ++ end_of_message ∷ s) (sym (take-all k u all))
    ∙ ap (λ l. l ++ end_of_message ∷ s) (sym more)

pub more_moves : (hs : List (List ℕ)) (f : List ℕ) (n k : ℕ) (u b c : List ℕ) → IsFirst hs f n u → c ≡ b ++ take k u → length u ≤ k
    → ends_message (primitive_in f) ≡ false → b ++ symbols_in n hs ≡ c ++ symbols_in 0 (drop 1 hs)
more_moves hs f n k u b c t more all closes =
    let s = symbols_in 0 (drop 1 hs) in
    ap (λ l. b ++ l) (symbols_first hs f n u t)
    ∙ ap (λ e. b ++ (piece u e ++ s)) closes
    ∙ sym (append_assoc b u s)
    ∙ ap (λ l. (b ++ l) ++ s) (sym (take-all k u all))
    ∙ ap (λ l. l ++ s) (sym more)

pub end_left : (hs : List (List ℕ)) (f : List ℕ) (n m : ℕ) (u : List ℕ) → IsFirst hs f n u → length u ≤ m → ends_message (primitive_in f) ≡ true
    → left_behind m (begun n hs) ≡ begun 0 (drop 1 hs)
end_left hs f n m u t all closes =
    ap (λ ps. left_behind m ps) (begun_first hs f n n u t)
    ∙ left_behind-end m n f (drop 1 hs) (can_be_first hs f n u t) (subst (λ (v : List ℕ). length v ≤ m) t.user all) closes

pub more_left : (hs : List (List ℕ)) (f : List ℕ) (n m : ℕ) (u : List ℕ) → IsFirst hs f n u → length u ≤ m → ends_message (primitive_in f) ≡ false
    → left_behind m (begun n hs) ≡ left_behind (m - length u) (begun 0 (drop 1 hs))
more_left hs f n m u t all closes =
    ap (λ ps. left_behind m ps) (begun_first hs f n n u t)
    ∙ left_behind-more m n f (drop 1 hs) (can_be_first hs f n u t) (subst (λ (v : List ℕ). length v ≤ m) t.user all) closes
    ∙ ap (λ v. left_behind (m - length v) (begun 0 (drop 1 hs))) (sym t.user)

-- ---- no frame

none_of : (hs : List (List ℕ)) → (0 < length hs → ⊥) → hs ≡ []
none_of [] empty = refl
none_of (h ∷ hs) empty = absurd (empty (omega arith))

pub none_stops : (hs : List (List ℕ)) (n m max : ℕ) → (0 < length hs → ⊥) → StopsAt m (symbols_in n hs) max
none_stops hs n m max empty = subst (λ (l : List ℕ). StopsAt m l max) (sym (ap (λ l. symbols_in n l) (none_of hs empty) ∙ symbols_in-none n)) tt

pub none_left : (hs : List (List ℕ)) (n max : ℕ) → (0 < length hs → ⊥) → left_behind max (begun n hs) ≡ begun n hs
none_left hs n max empty =
    ap (λ l. left_behind max (begun n l)) (none_of hs empty) ∙ left_behind-none max n ∙ ap (λ l. begun n l) (sym (none_of hs empty))

-- ---- how long what is taken is

pub taken_long : (m : ℕ) (u : List ℕ) → m ≤ length u → length (take m u) ≡ m
taken_long zero u full = refl
taken_long (suc m) [] full = absurd (omega (arith, full))
taken_long (suc m) (x ∷ u) full = ap suc (taken_long m u (omega (arith, full)))

front_upto : (u s : List ℕ) (m : ℕ) → AreBytes u → length u ≡ m → length (front m (u ++ s)) ≡ m
front_upto u s m bs full =
    let none : m - length u ≡ 0 = omega (arith, full) in
    let sum : length u + 0 ≡ m = omega (arith, full) in
    let most : length u ≤ m = omega (arith, full) in
    ap length (front-bytes u s m bs most) ∙ length-append u (front (m - length u) s) ∙ ap (λ k. length u + length (front k s)) none ∙ sum

pub len_full : (hs : List (List ℕ)) (f : List ℕ) (n m : ℕ) (u : List ℕ) → IsFirst hs f n u → m ≤ length u → length (front m (symbols_in n hs)) ≡ m
len_full hs f n m u t full =
    ap (λ l. length (front m l)) (cut_moves hs f n m u [] (take m u) t refl)
    ∙ front_upto (take m u) (symbols_in (n + m) hs) m (bytes-take m u t.bytes) (taken_long m u full)

pub len_end : (hs : List (List ℕ)) (f : List ℕ) (n m : ℕ) (u : List ℕ) → IsFirst hs f n u → length u ≤ m → ends_message (primitive_in f) ≡ true
    → length (front m (symbols_in n hs)) ≡ length u
len_end hs f n m u t all closes =
    let s = symbols_in 0 (drop 1 hs) in
    ap (λ l. length (front m l)) (end_moves hs f n (length u) u [] (take (length u) u) t refl (omega arith) closes)
    ∙ ap (λ l. length (front m (l ++ end_of_message ∷ s))) (take-all (length u) u (omega arith))
    ∙ ap length (front-bytes u (end_of_message ∷ s) m t.bytes all)
    ∙ ap (λ l. length (u ++ l)) (front-end (m - length u) s)
    ∙ ap length (append-nil u)

pub len_more : (hs : List (List ℕ)) (f : List ℕ) (n m : ℕ) (u : List ℕ) → IsFirst hs f n u → length u ≤ m → ends_message (primitive_in f) ≡ false
    → length (front m (symbols_in n hs)) ≡ length u + length (front (m - length u) (symbols_in 0 (drop 1 hs)))
len_more hs f n m u t all closes =
    let s = symbols_in 0 (drop 1 hs) in
    ap (λ l. length (front m l)) (more_moves hs f n (length u) u [] (take (length u) u) t refl (omega arith) closes)
    ∙ ap (λ l. length (front m (l ++ s))) (take-all (length u) u (omega arith))
    ∙ ap length (front-bytes u s m t.bytes all)
    ∙ length-append u (front (m - length u) s)

pub none_front : (hs : List (List ℕ)) (n m : ℕ) → length hs ≤ 0 → length (front m (symbols_in n hs)) ≡ 0
none_front hs n m none = ap (λ l. length (front m l)) (ap (λ l. symbols_in n l) (none_of hs (λ some. absurd (omega (arith, some, none)))) ∙ symbols_in-none n) ∙ ap length (front-none m)

-- ---- what stays true of the frames after

pub within_none : (hs : List (List ℕ)) → IsWithin 0 hs
within_none [] = refl
within_none (h ∷ hs) = omega arith

pub wait-drop : (hs : List (List ℕ)) → AllWait hs → AllWait (drop 1 hs)
wait-drop [] wait = tt
wait-drop (h ∷ hs) (can, wait) = wait

-- the frame at a place is the first of those from there on
pub first_at : (hs : List (List ℕ)) (i : ℕ) (f : List ℕ) → i < length hs → f ≡ slice_index_or hs i f → (0 < length (drop i hs)) × (f ≡ slice_index_or (drop i hs) 0 f)
first_at [] i f some is = absurd (omega (arith, some))
first_at (h ∷ hs) zero f some is = (some, is)
first_at (h ∷ hs) (suc i) f some is = first_at hs i f (omega (arith, some)) is
