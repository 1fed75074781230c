-- Texts that are written with a byte between them are read as these texts.
use Rattle.std.proofs.Common.{◌≡◌, refl, sym, ap, ap₂, subst, ◌∙◌, ℕ, suc, ◌≤◌, ◌<◌, Bool, true, false, cond, not, eqb, leb, List, [], ◌∷◌, ◌++◌, take, take_all, append-nil, append_assoc, length, Option, Some, None, codes, arith, eq-eqb, le-leb, leb-true}
use Rattle.std.specs.Prelude.{flat_map, map}
use Rattle.std.specs.List.{list_all, onto_first}
use Rattle.std.proofs.lemmas.List.Elements.{All-nil, All-cons, All-head, All-tail, All-append}
use Rattle.std.proofs.lemmas.List.Splits.{slice_split_none, slice_split_at, length-slice_split}
use Rattle.xti_words.specs.declared.values.TheConstants.{MOST_PIECES}
use Rattle.xti_words.specs.Texts.{lines_of, pieces_of}
use Rattle.xti_words.specs.Values.{onto, each_in, list_in}
use Rattle.xti_script.specs.Canonical.{listed}
use Rattle.xti_script.proofs.Numbers.{Lacks, both}

-- ---- texts without a byte

abbrev pub AllLack : ℕ → List (List ℕ) → Type 0
AllLack byte [] = Unit {0}
AllLack byte (text ∷ texts) = Lacks byte text × AllLack byte texts

-- by a test that computes
pub lacks_by : (byte : ℕ) (text : List ℕ) → list_all (λ c. not (eqb c byte)) text ≡ true → Lacks byte text
lacks_by byte [] h = All-nil (λ c. eqb c byte ≡ false)
lacks_by byte (c ∷ cs) h =
    let b = both (not (eqb c byte)) (list_all (λ c. not (eqb c byte)) cs) h in
    All-cons (λ c. eqb c byte ≡ false) c cs (turned (eqb c byte) b.0) (lacks_by byte cs b.1)
  where
    turned : (t : Bool) → not t ≡ true → t ≡ false
    turned true e = absurd (cc)
    turned false e = refl

pub lacks_both : (byte : ℕ) (a b : List ℕ) → Lacks byte a → Lacks byte b → Lacks byte (a ++ b)
lacks_both byte a b h i = All-append (λ c. eqb c byte ≡ false) a b h i

pub lacks_rest : (byte : ℕ) (a b : List ℕ) → Lacks byte (a ++ b) → Lacks byte b
lacks_rest byte [] b h = h
lacks_rest byte (c ∷ a) b h = lacks_rest byte a b (All-tail (λ c. eqb c byte ≡ false) c (a ++ b) h)

-- the pieces of a text lack the byte at which it was cut, and what the text lacks
pub pieces_lack : (sep byte : ℕ) (text : List ℕ) → Lacks byte text → AllLack byte (pieces_of sep text)
pieces_lack sep byte [] h = (All-nil (λ c. eqb c byte ≡ false), tt)
pieces_lack sep byte (c ∷ text) h = cut (eqb c sep) (pieces_of sep text) (pieces_lack sep byte text (All-tail p c text h))
  where
    p : ℕ → Type 0
    p d = eqb d byte ≡ false

    begun : (pieces : List (List ℕ)) → AllLack byte pieces → AllLack byte (onto_first c pieces)
    begun [] k = (All-cons p c [] (All-head p c text h) (All-nil p), tt)
    begun (piece ∷ pieces) k = (All-cons p c piece (All-head p c text h) k.0, k.1)

    cut : (b : Bool) (pieces : List (List ℕ)) → AllLack byte pieces → AllLack byte (cond b ([] ∷ pieces) (onto_first c pieces))
    cut true pieces k = (All-nil p, k)
    cut false pieces k = begun pieces k

pub pieces_lack_separator : (sep : ℕ) (text : List ℕ) → AllLack sep (pieces_of sep text)
pieces_lack_separator sep [] = (All-nil (λ c. eqb c sep ≡ false), tt)
pieces_lack_separator sep (c ∷ text) = cut (eqb c sep) refl (pieces_of sep text) (pieces_lack_separator sep text)
  where
    p : ℕ → Type 0
    p d = eqb d sep ≡ false

    begun : eqb c sep ≡ false → (pieces : List (List ℕ)) → AllLack sep pieces → AllLack sep (onto_first c pieces)
    begun e [] k = (All-cons p c [] e (All-nil p), tt)
    begun e (piece ∷ pieces) k = (All-cons p c piece e k.0, k.1)

    cut : (b : Bool) → eqb c sep ≡ b → (pieces : List (List ℕ)) → AllLack sep pieces → AllLack sep (cond b ([] ∷ pieces) (onto_first c pieces))
    cut true e pieces k = (All-nil p, k)
    cut false e pieces k = begun e pieces k

-- ---- texts with a byte between them

-- the texts, each after this byte
abbrev pub after_each : ℕ → List (List ℕ) → List ℕ
after_each sep texts = flat_map (λ text. sep ∷ text) texts

pub cut_again : (sep : ℕ) (text : List ℕ) (texts : List (List ℕ)) → Lacks sep text → AllLack sep texts → pieces_of sep (text ++ after_each sep texts) ≡ text ∷ texts
cut_again sep text [] h k = ap (pieces_of sep) (append-nil text) ∙ slice_split_none (λ c. eqb c sep) text h
cut_again sep text (next ∷ texts) h k =
    slice_split_at (λ c. eqb c sep) text sep (next ++ after_each sep texts) h (eq-eqb sep sep refl)
    ∙ ap (λ pieces. text ∷ pieces) (cut_again sep next texts k.0 k.1)

-- ---- lines

pub line_first : (line text : List ℕ) → Lacks 10 line → lines_of (line ++ 10 ∷ text) ≡ line ∷ lines_of text
line_first [] text h = refl
line_first (c ∷ line) text h =
    let p : ℕ → Type 0 = λ c. eqb c 10 ≡ false in
    let other : eqb c 10 ≡ false = All-head p c line h in
    let behind : lines_of (line ++ 10 ∷ text) ≡ line ∷ lines_of text = line_first line text (All-tail p c line h) in
    rw (other, behind) refl

-- ---- lists of values, separated by commas

-- each value's text is read as it, and has no comma
abbrev pub AllRead : {A : Type 0} → (List ℕ → Option A) → (A → List ℕ) → List A → Type 0
AllRead read text [] = Unit {0}
AllRead read text (x ∷ xs) = (read (text x) ≡ Some x) × Lacks 44 (text x) × AllRead read text xs

texts_lack : {A : Type 0} (read : List ℕ → Option A) (text : A → List ℕ) (xs : List A) → AllRead read text xs → AllLack 44 (map text xs)
texts_lack read text [] h = tt
texts_lack read text (x ∷ xs) h = (h.1, texts_lack read text xs h.2)

each_again : {A : Type 0} (read : List ℕ → Option A) (text : A → List ℕ) (xs : List A) → AllRead read text xs → each_in read (map text xs) ≡ Some xs
each_again read text [] h = refl
each_again read text (x ∷ xs) h = rw (h.0, each_again read text xs h.2) refl

texts_length : {A : Type 0} (text : A → List ℕ) (xs : List A) → length (map text xs) ≡ length xs
texts_length text [] = refl
texts_length text (x ∷ xs) = ap suc (texts_length text xs)

-- each text after a comma
commas : {A : Type 0} (text : A → List ℕ) (xs : List A) → flat_map (λ y. codes "," ++ text y) xs ≡ after_each 44 (map text xs)
commas text [] = refl
commas text (x ∷ xs) = ap (λ t. 44 ∷ (text x ++ t)) (commas text xs)

in_list : {A : Type 0} (read : List ℕ → Option A) (word : List ℕ) (pieces : List (List ℕ)) (xs : List A) → pieces_of 44 word ≡ pieces → length pieces ≤ MOST_PIECES → each_in read pieces ≡ Some xs → list_in read word ≡ Some xs
unfolding list_in
in_list read word pieces xs cut few each =
    let within : leb (length pieces) MOST_PIECES ≡ true = le-leb (length pieces) MOST_PIECES few in
    rw (cut, within) each

pub list_again : {A : Type 0} (read : List ℕ → Option A) (text : A → List ℕ) (xs : List A) → AllRead read text xs → 0 < length xs → length xs ≤ MOST_PIECES → list_in read (listed text xs) ≡ Some xs
list_again read text [] h some few = absurd (omega arith)
list_again read text (x ∷ xs) h some few =
    in_list read _ (map text (x ∷ xs)) (x ∷ xs) (ap (λ t. pieces_of 44 (text x ++ t)) (commas text xs) ∙ cut_again 44 (text x) (map text xs) h.1 (texts_lack read text xs h.2))
    (omega (arith, texts_length text (x ∷ xs))) (each_again read text (x ∷ xs) h)

-- what is read of each piece has what each reading gives
abbrev pub Each : {A : Type 0} → (A → Type 0) → List A → Type 0
Each P [] = Unit {0}
Each P (x ∷ xs) = P x × Each P xs

onto_is : {A : Type 0} (o : Option A) (others : Option (List A)) (xs : List A) → onto o others ≡ Some xs → (y : A) × (ys : List A) × (o ≡ Some y) × (others ≡ Some ys) × (xs ≡ y ∷ ys)
onto_is None others xs h = absurd (cc)
onto_is (Some y) None xs h = absurd (cc)
onto_is (Some y) (Some ys) xs h = (y, ys, refl, refl, cc)

each_has : {A : Type 0} (read : List ℕ → Option A) (P : A → Type 0) → ((word : List ℕ) (x : A) → read word ≡ Some x → P x) → (pieces : List (List ℕ)) (xs : List A) → each_in read pieces ≡ Some xs → Each P xs × (length xs ≡ length pieces)
each_has read P gives [] [] h = (tt, refl)
each_has read P gives [] (x ∷ xs) h = absurd (cc)
each_has read P gives (piece ∷ pieces) xs h =
    let o = onto_is (read piece) (each_in read pieces) xs h in
    let others = each_has read P gives pieces o.1 o.3 in
    (subst (Each P) (sym o.4) (gives piece o.0 o.2, others.0), ap length o.4 ∙ ap suc others.1)

pub list_has : {A : Type 0} (read : List ℕ → Option A) (P : A → Type 0) → ((word : List ℕ) (x : A) → read word ≡ Some x → P x) → (word : List ℕ) (xs : List A) → list_in read word ≡ Some xs → Each P xs × (0 < length xs) × (length xs ≤ MOST_PIECES)
unfolding list_in
list_has read P gives word xs h = go (leb (length (pieces_of 44 word)) MOST_PIECES) refl h
  where
    go : (b : Bool) → leb (length (pieces_of 44 word)) MOST_PIECES ≡ b → cond b (each_in read (pieces_of 44 word)) None ≡ Some xs → Each P xs × (0 < length xs) × (length xs ≤ MOST_PIECES)
    go true e k =
        let each = each_has read P gives (pieces_of 44 word) xs k in
        let few = leb-true (length (pieces_of 44 word)) MOST_PIECES e in
        let some = length-slice_split (λ c. eqb c 44) word in
        (each.0, omega (arith, each.1, some), omega (arith, each.1, few))
    go false e k = absurd (cc)

-- a list's text has no byte that its values' texts and commas lack
pub list_lacks : {A : Type 0} (byte : ℕ) (text : A → List ℕ) (xs : List A) → eqb 44 byte ≡ false → Each (λ x. Lacks byte (text x)) xs → Lacks byte (listed text xs)
list_lacks byte text [] comma h = All-nil (λ c. eqb c byte ≡ false)
list_lacks byte text (x ∷ xs) comma h = lacks_both byte (text x) (flat_map (λ y. codes "," ++ text y) xs) h.0 (others xs h.1)
  where
    others : (ys : List _) → Each (λ x. Lacks byte (text x)) ys → Lacks byte (flat_map (λ y. codes "," ++ text y) ys)
    others [] k = All-nil (λ c. eqb c byte ≡ false)
    others (y ∷ ys) k = All-cons (λ c. eqb c byte ≡ false) 44 (text y ++ flat_map (λ y. codes "," ++ text y) ys) comma
        (lacks_both byte (text y) (flat_map (λ y. codes "," ++ text y) ys) k.0 (others ys k.1))

-- a list's text, as a loop over all but the first value writes it
pub listed_by_loop : {A : Type 0} (text : A → List ℕ) (out begun now : List ℕ) (x : A) (xs all : List A) (n : ℕ) → all ≡ x ∷ xs → length xs ≤ n → begun ≡ out ++ text x
    → now ≡ begun ++ flat_map (λ y. codes "," ++ text y) (take n xs) → now ≡ out ++ listed text all
listed_by_loop text out begun now x xs all n is whole first h =
    h ∙ ap₂ (λ b ys. b ++ flat_map (λ y. codes "," ++ text y) ys) first (take_all n xs whole)
    ∙ append_assoc out (text x) (flat_map (λ y. codes "," ++ text y) xs) ∙ ap (λ ys. out ++ listed text ys) (sym is)
