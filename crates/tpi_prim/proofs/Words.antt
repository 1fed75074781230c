-- The words of a frame, one after another.
use Rattle.std.proofs.Common.{◌≡◌, ◌≤◌, ◌+◌, ℕ, List, [], ◌∷◌, ◌++◌, length, take, drop, get_or, length-append, length-drop, append_assoc, append-nil, refl, sym, ◌∙◌, ap, arith}
use Rattle.std.proofs.lemmas.List.{get_or-drop}
use Rattle.std.proofs.lemmas.Grind.{flat_map-append}
use Rattle.tpi_grammar.specs.Frame.{Slot, upto, part, Value, num, text, AreBytes, be, words, part_of, parts, offset, slots_size}
use Rattle.tpi_prim.specs.declared.encoding.Field.{Field}
use Rattle.tpi_prim.specs.declared.encoding.Field.TheVariants.{Number}
use Rattle.tpi_prim.specs.Lent.{value_of, values_of, HasShape}
use Rattle.tpi_prim.proofs.FilledIn.{AreBytes-append, front_bytes, back_bytes}

four : (bs : List ℕ) → 4 ≤ length bs → take 4 bs ≡ get_or bs 0 0 ∷ get_or bs 1 0 ∷ get_or bs 2 0 ∷ get_or bs 3 0 ∷ []
four [] long = absurd (omega (arith, long))
four (a ∷ []) long = absurd (omega (arith, long))
four (a ∷ b ∷ []) long = absurd (omega (arith, long))
four (a ∷ b ∷ c ∷ []) long = absurd (omega (arith, long))
four (a ∷ b ∷ c ∷ d ∷ bs) long = refl

-- four bytes from a place on
pub four_at : (bs : List ℕ) (place : ℕ) → place + 4 ≤ length bs
    → take 4 (drop place bs) ≡ get_or bs place 0 ∷ get_or bs (place + 1) 0 ∷ get_or bs (place + 2) 0 ∷ get_or bs (place + 3) 0 ∷ []
four_at bs place long =
    let here : place + 0 ≡ place = omega arith in
    four (drop place bs) (omega (arith, length-drop place bs, long))
    ∙ rw (get_or-drop place bs 0 0, get_or-drop place bs 1 0, get_or-drop place bs 2 0, get_or-drop place bs 3 0, here) refl

-- the parts of the later values lie after those of the former
words_append : (a b : List Value) (place : ℕ) → words place (a ++ b) ≡ words place a ++ words (place + length (parts a)) b
words_append [] b place = ap (λ (at : ℕ). words at b) (omega arith)
words_append (num n ∷ a) b place =
    ap (λ (xs : List ℕ). be n ++ xs) (words_append a b place) ∙ sym (append_assoc (be n) (words place a) (words (place + length (parts a)) b))
words_append (text t ∷ a) b place =
    let front : List ℕ = be (length t) ++ be (offset (length t) place) in
    let at : ℕ = place + length t in
    ap (λ (xs : List ℕ). front ++ xs) (words_append a b at)
    ∙ sym (append_assoc front (words at a) (words (at + length (parts a)) b))
    ∙ ap (λ (k : ℕ). (front ++ words at a) ++ words k b) (omega (arith, length-append t (parts a)))

words_of_three : (a b c : List Value) (place : ℕ) → words place (a ++ (b ++ (c ++ []))) ≡ words place a ++ words (place + length (parts a)) b ++ words (place + length (parts a) + length (parts b)) c
words_of_three a b c place =
    let second : ℕ = place + length (parts a) in
    let third : ℕ = second + length (parts b) in
    words_append a (b ++ (c ++ [])) place
    ∙ ap (λ (xs : List ℕ). words place a ++ xs) (words_append b (c ++ []) second ∙ ap (λ (vs : List Value). words second b ++ words third vs) (append-nil c))
    ∙ sym (append_assoc (words place a) (words second b) (words third c))

both_are_bytes : (a b : List Value) → AreBytes (parts a) → AreBytes (parts b) → AreBytes (parts (a ++ b))
both_are_bytes [] b x y = y
both_are_bytes (num n ∷ a) b x y = both_are_bytes a b x y
both_are_bytes (text t ∷ a) b x y = AreBytes-append t (parts (a ++ b)) (front_bytes t (parts a) x) (both_are_bytes a b (back_bytes t (parts a) x) y)

abbrev at : List Field → ℕ → List Value
at fs k = value_of (get_or fs k (Number 0))

values_three : (fs : List Field) → length fs ≡ 3 → values_of fs ≡ at fs 0 ++ (at fs 1 ++ (at fs 2 ++ []))
values_three [] three = absurd (omega (arith, three))
values_three (a ∷ []) three = absurd (omega (arith, three))
values_three (a ∷ b ∷ []) three = absurd (omega (arith, three))
values_three (a ∷ b ∷ c ∷ []) three = refl
values_three (a ∷ b ∷ c ∷ d ∷ fs) three = absurd (omega (arith, three))

words_three : (fs : List Field) (place : ℕ) → length fs ≡ 3
    → words place (values_of fs) ≡ words place (at fs 0) ++ words (place + length (parts (at fs 0))) (at fs 1) ++ words (place + length (parts (at fs 0)) + length (parts (at fs 1))) (at fs 2)
words_three fs place three = ap (words place) (values_three fs three) ∙ words_of_three (at fs 0) (at fs 1) (at fs 2) place

regrouped : (old a b c : List ℕ) → ((old ++ a) ++ b) ++ c ≡ old ++ ((a ++ b) ++ c)
regrouped old a b c = simp append_assoc

-- the words of three fields, one after another
pub words_grown : (fs : List Field) (place p q : ℕ) (old one two three : List ℕ) → length fs ≡ 3
    → p ≡ place + length (parts (at fs 0)) → q ≡ p + length (parts (at fs 1))
    → one ≡ old ++ words place (at fs 0) → two ≡ one ++ words p (at fs 1) → three ≡ two ++ words q (at fs 2)
    → three ≡ old ++ words place (values_of fs)
words_grown fs place p q old one two three n ps qs a b c =
    rw (words_three fs place n, c, b, a, qs, ps)
    (regrouped old (words place (at fs 0)) (words (place + length (parts (at fs 0))) (at fs 1)) (words (place + length (parts (at fs 0)) + length (parts (at fs 1))) (at fs 2)))

parts_append : (a b : List Value) → parts (a ++ b) ≡ parts a ++ parts b
parts_append a b = flat_map-append part_of a b

-- the parts and the bytes of three fields
pub parts_three : (fs : List Field) → length fs ≡ 3 → parts (values_of fs) ≡ parts (at fs 0) ++ parts (at fs 1) ++ parts (at fs 2)
parts_three fs three =
    let second : List Value = at fs 1 in
    let third : List Value = at fs 2 in
    ap parts (values_three fs three)
    ∙ parts_append (at fs 0) (second ++ (third ++ []))
    ∙ ap (λ (xs : List ℕ). parts (at fs 0) ++ xs) (parts_append second (third ++ []) ∙ ap (λ (vs : List Value). parts second ++ parts vs) (append-nil third))
    ∙ sym (append_assoc (parts (at fs 0)) (parts second) (parts third))

pub bytes_three : (fs : List Field) → length fs ≡ 3 → AreBytes (parts (at fs 0)) → AreBytes (parts (at fs 1)) → AreBytes (parts (at fs 2)) → AreBytes (parts (values_of fs))
bytes_three fs three x y z =
    rw (values_three fs three) (both_are_bytes (at fs 0) (at fs 1 ++ (at fs 2 ++ [])) x (both_are_bytes (at fs 1) (at fs 2 ++ []) y (both_are_bytes (at fs 2) [] z tt)))

-- how long the words are
pub head_length : (ss : List Slot) (vs : List Value) (place : ℕ) → HasShape ss vs → length (words place vs) ≡ slots_size ss
head_length [] [] place shape = refl
head_length [] (v ∷ vs) place shape = elim shape [ ]
head_length (upto m ∷ ss) [] place shape = elim shape [ ]
head_length (part ∷ ss) [] place shape = elim shape [ ]
head_length (upto m ∷ ss) (text bs ∷ vs) place shape = elim shape [ ]
head_length (part ∷ ss) (num n ∷ vs) place shape = elim shape [ ]
head_length (upto m ∷ ss) (num n ∷ vs) place shape = omega (arith, length-append (be n) (words place vs), head_length ss vs place shape.1)
head_length (part ∷ ss) (text bs ∷ vs) place shape =
    omega (arith, length-append (be (length bs) ++ be (offset (length bs) place)) (words (place + length bs) vs), head_length ss vs (place + length bs) shape)
