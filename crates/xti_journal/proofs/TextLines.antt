-- Texts line by line.
use Rattle.std.proofs.Common.{◌≡◌, ℕ, zero, suc, ◌+◌, ◌<◌, ◌≤◌, Bool, true, false, cond, eqb, List, [], ◌∷◌, ◌++◌, length, map, get_or, drop, take, Option, Some, None, refl, sym, ap, ◌∙◌, append_assoc, arith}
use Rattle.std.specs.Prelude.{All}
use Rattle.std.specs.List.{onto_first, concat, join_with_byte}
use Rattle.std.proofs.lemmas.Bool.{eqb-true, eq-eqb}
use Rattle.std.proofs.lemmas.List.{take-append-le, map-append, length-map}
use Rattle.std.proofs.lemmas.List.Elements.{All-head, All-tail, All-weaker}
use Rattle.std.proofs.lemmas.List.Splits.{join_with_byte-slice_split}
use Rattle.std.proofs.lemmas.Grind.{common_steps}
use Rattle.memchr.specs.Find.{IsFirstByte, is_byte}
use Rattle.xti_words.specs.Texts.{words_of}
use Rattle.xti_journal.specs.Line.{IsLine}
use Rattle.xti_journal.specs.Refused.{lines_of, some, ended_lines}
use Rattle.xti_journal.proofs.NumberLaws.{Above}
use Rattle.xti_journal.proofs.Splits.{pieces-join, join-above, above_less}

abbrev pub AreLines : List (List ℕ) → Type 0
AreLines [] = Unit {0}
AreLines (line ∷ lines) = IsLine line × AreLines lines

-- a line with its LF
abbrev pub ended : List ℕ → List ℕ
ended line = line ++ 10 ∷ []

-- these lines, each with its LF
abbrev pub text_of : List (List ℕ) → List ℕ
text_of [] = []
text_of (line ∷ lines) = ended line ++ text_of lines

pub lines-append : (xs ys : List (List ℕ)) → text_of (xs ++ ys) ≡ text_of xs ++ text_of ys
lines-append [] ys = refl
lines-append (x ∷ xs) ys = ap (λ (l : List ℕ). ended x ++ l) (lines-append xs ys) ∙ sym (append_assoc (ended x) (text_of xs) (text_of ys))

pub are-append : (xs ys : List (List ℕ)) → AreLines xs → AreLines ys → AreLines (xs ++ ys)
are-append [] ys h k = k
are-append (x ∷ xs) ys h k = (h.0, are-append xs ys h.1 k)

pub above_is_line : (line : List ℕ) → Above 31 line → IsLine line
above_is_line [] h = tt
above_is_line (c ∷ cs) h = (other c (All-head (λ c. 31 < c) c cs h), above_is_line cs (All-tail (λ c. 31 < c) c cs h))
  where
    other : (c : ℕ) → 31 < c → eqb c 10 ≡ false
    other c h = go (eqb c 10) refl
      where
        go : (b : Bool) → eqb c 10 ≡ b → b ≡ false
        go true e = let s = eqb-true c 10 e in absurd (omega arith)
        go false e = refl

-- words that are joined by spaces make a line
pub words_line : (words : List (List ℕ)) → All (Above 32) words → IsLine (join_with_byte 32 words)
words_line words h = above_is_line (join_with_byte 32 words) (join-above 31 32 words (omega arith) (lower words h))
  where
    lower : (ws : List (List ℕ)) → All (Above 32) ws → All (Above 31) ws
    lower ws h = All-weaker (Above 32) (Above 31) (λ w g. above_less 32 31 w (omega arith) g) ws h

pub words_are : (word : List ℕ) (words : List (List ℕ)) → Above 32 word → All (Above 32) words → words_of (join_with_byte 32 (word ∷ words)) ≡ word ∷ words
words_are word words h hs = pieces-join 32 word words h hs

pub joined_again : (line : List ℕ) → join_with_byte 32 (words_of line) ≡ line
joined_again line = join_with_byte-slice_split 32 line

-- a text is cut at its first LF in one way
pub one_cut : (l m a b : List ℕ) → IsLine l → IsLine m → ended l ++ a ≡ ended m ++ b → (l ≡ m) × (a ≡ b)
one_cut [] [] a b h k e = (refl, cc)
one_cut [] (d ∷ m) a b h k e =
    let s : 10 ≡ d = cc in
    let t : eqb d 10 ≡ true = eq-eqb d 10 (sym s) in
    let c : true ≡ false = sym t ∙ k.0 in
    absurd cc
one_cut (c ∷ l) [] a b h k e =
    let s : c ≡ 10 = cc in
    let t : eqb c 10 ≡ true = eq-eqb c 10 s in
    let f : true ≡ false = sym t ∙ h.0 in
    absurd cc
one_cut (c ∷ l) (d ∷ m) a b h k e =
    let s : c ≡ d = cc in
    let t : ended l ++ a ≡ ended m ++ b = cc in
    let r = one_cut l m a b h.1 k.1 t in
    (ap (λ (x : ℕ). x ∷ l) s ∙ ap (λ (x : List ℕ). d ∷ x) r.0, r.1)

line_then : (line rest : List ℕ) → IsLine line → lines_of (ended line ++ rest) ≡ ended line ∷ lines_of rest
line_then [] rest h = refl
line_then (c ∷ cs) rest h = rw (h.0, line_then cs rest h.1) refl

alone : (c : ℕ) (cs : List ℕ) → IsLine (c ∷ cs) → lines_of (c ∷ cs) ≡ (c ∷ cs) ∷ []
alone c [] h = rw h.0 refl
alone c (d ∷ cs) h = rw (h.0, alone d cs h.1) refl

pub lines_then : (lines : List (List ℕ)) (rest : List ℕ) → AreLines lines → lines_of (text_of lines ++ rest) ≡ map ended lines ++ lines_of rest
lines_then [] rest h = refl
lines_then (line ∷ lines) rest h =
    ap lines_of (append_assoc (ended line) (text_of lines) rest) ∙ line_then line (text_of lines ++ rest) h.0 ∙ ap (λ (ls : List (List ℕ)). ended line ∷ ls) (lines_then lines rest h.1)

-- ---- the first lines

-- the lines that are the first in both texts are all that is compared
pub same_first : (lines : List (List ℕ)) (a b : List ℕ) (m : ℕ) → AreLines lines → m ≤ length lines → take m (ended_lines (text_of lines ++ a)) ≡ take m (ended_lines (text_of lines ++ b))
same_first lines a b m h le = shown a ∙ sym (shown b)
  where
    shown : (x : List ℕ) → take m (ended_lines (text_of lines ++ x)) ≡ take m (map some (map ended lines))
    shown x =
        let short : m ≤ length (map some (map ended lines)) = omega (arith, length-map (map ended lines) some, length-map lines ended) in
        ap (λ (ls : List (List ℕ)). take m (map some ls ++ None ∷ [])) (lines_then lines x h)
        ∙ ap (λ (ls : List (Option (List ℕ))). take m (ls ++ None ∷ [])) (map-append some (map ended lines) (lines_of x))
        ∙ ap (take m) (append_assoc (map some (map ended lines)) (map some (lines_of x)) (None ∷ []))
        ∙ take-append-le m (map some (map ended lines)) (map some (lines_of x) ++ None ∷ []) short

-- the first of the lines that are left, or the end
abbrev pub first_of : List (List ℕ) → Option (List ℕ)
first_of [] = None
first_of (line ∷ lines) = Some line

-- the first line of a text, or its end
abbrev pub first_left : List ℕ → Option (List ℕ)
first_left text = first_of (lines_of text)

pub record Cut (text first : List ℕ) (others : List (List ℕ)) : Type 0 where
  pub rest : List ℕ
  pub whole : text ≡ first ++ rest
  pub later : lines_of rest ≡ others

onto_end : (c : ℕ) (ls : List (List ℕ)) → concat (onto_first c ls) ≡ c ∷ concat ls
onto_end c [] = refl
onto_end c (l ∷ ls) = refl

whole_again : (text : List ℕ) → concat (lines_of text) ≡ text
whole_again [] = refl
whole_again (c ∷ text) = go (whole_again text) (eqb c 10)
  where
    go : concat (lines_of text) ≡ text → (b : Bool) → concat (cond b ((c ∷ []) ∷ lines_of text) (onto_first c (lines_of text))) ≡ c ∷ text
    go w true = ap (λ (l : List ℕ). c ∷ l) w
    go w false = onto_end c (lines_of text) ∙ ap (λ (l : List ℕ). c ∷ l) w

tails : {A : Type 0} (x y : A) (xs ys : List A) → x ∷ xs ≡ y ∷ ys → xs ≡ ys
tails x y xs ys e = cc

-- a text whose first line is this one with its LF goes on after it
pub cut : (text line : List ℕ) (others : List (List ℕ)) → IsLine line → lines_of text ≡ ended line ∷ others → Cut text (ended line) others
cut text line others h e =
    let w : text ≡ ended line ++ concat others = sym (whole_again text) ∙ ap concat e in
    let l : lines_of text ≡ ended line ∷ lines_of (concat others) = ap lines_of w ∙ line_then line (concat others) h in
    record { rest = concat others; whole = w; later = tails (ended line) (ended line) (lines_of (concat others)) others (sym l ∙ e) }

pub record Goes (text : List ℕ) (lines : List (List ℕ)) (a : List ℕ) : Type 0 where
  pub rest : List ℕ
  pub whole : text ≡ text_of lines ++ rest
  pub first : first_left rest ≡ first_left a

first_line_is : (os ls : List (List ℕ)) → take 1 (map some os ++ None ∷ []) ≡ take 1 (map some ls ++ None ∷ []) → first_of os ≡ first_of ls
first_line_is [] [] e = refl
first_line_is [] (a ∷ ls) e = absurd cc
first_line_is (o ∷ os) [] e = absurd cc
first_line_is (o ∷ os) (a ∷ ls) e = let p : o ≡ a = cc in ap (λ (x : List ℕ). Some x) p

take_tails : (x y : Option (List ℕ)) (xs ys : List (Option (List ℕ))) (m : ℕ) → take (suc m) (x ∷ xs) ≡ take (suc m) (y ∷ ys) → take m xs ≡ take m ys
take_tails x y xs ys m e = let t : x ∷ take m xs ≡ y ∷ take m ys = e in cc

-- a text that has the same first lines as these and one more goes on after these, and its next line is the same
pub goes_on : (other : List ℕ) (lines : List (List ℕ)) (a : List ℕ) → AreLines lines → take (suc (length lines)) (ended_lines other) ≡ take (suc (length lines)) (ended_lines (text_of lines ++ a)) → Goes other lines a
goes_on other [] a h e = record { rest = other; whole = refl; first = first_line_is (lines_of other) (lines_of a) e }
goes_on other (line ∷ lines) a h e =
    let shown : ended_lines ((ended line ++ text_of lines) ++ a) ≡ Some (ended line) ∷ ended_lines (text_of lines ++ a) =
    ap (λ (t : List ℕ). ended_lines t) (append_assoc (ended line) (text_of lines) a) ∙ ap (λ (ls : List (List ℕ)). map some ls ++ None ∷ []) (line_then line (text_of lines ++ a) h.0) in
    by_lines (λ o t. goes_on o lines a h.1 t) (lines_of other) refl (ap (take (suc (suc (length lines)))) refl ∙ e ∙ ap (take (suc (suc (length lines)))) shown)
  where
    by_lines : ((o : List ℕ) → take (suc (length lines)) (ended_lines o) ≡ take (suc (length lines)) (ended_lines (text_of lines ++ a)) → Goes o lines a) → (os : List (List ℕ)) → lines_of other ≡ os → take (suc (suc (length lines))) (map some (lines_of other) ++ None ∷ []) ≡ take (suc (suc (length lines))) (Some (ended line) ∷ ended_lines (text_of lines ++ a)) → Goes other (line ∷ lines) a
    by_lines later [] p q =
        let r : None ∷ [] ≡ Some (ended line) ∷ take (suc (length lines)) (ended_lines (text_of lines ++ a)) = sym (ap (λ (ls : List (List ℕ)). take (suc (suc (length lines))) (map some ls ++ None ∷ [])) p) ∙ q in
        absurd cc
    by_lines later (o ∷ os) p q =
        let r : take (suc (suc (length lines))) (Some o ∷ (map some os ++ None ∷ [])) ≡ take (suc (suc (length lines))) (Some (ended line) ∷ ended_lines (text_of lines ++ a)) = sym (ap (λ (ls : List (List ℕ)). take (suc (suc (length lines))) (map some ls ++ None ∷ [])) p) ∙ q in
        let same : o ≡ ended line = heads o (ended line) _ _ r in
        let c = cut other line os h.0 (p ∙ ap (λ (x : List ℕ). x ∷ os) same) in
        let t : take (suc (length lines)) (ended_lines c.rest) ≡ take (suc (length lines)) (ended_lines (text_of lines ++ a)) =
        ap (λ (ls : List (List ℕ)). take (suc (length lines)) (map some ls ++ None ∷ [])) c.later ∙ take_tails (Some o) (Some (ended line)) _ _ (suc (length lines)) r in
        let g = later c.rest t in
        record { rest = g.rest; whole = c.whole ∙ ap (λ (x : List ℕ). ended line ++ x) g.whole ∙ sym (append_assoc (ended line) (text_of lines) g.rest); first = g.first }
      where
        heads : (x y : List ℕ) (xs ys : List (Option (List ℕ))) → Some x ∷ xs ≡ Some y ∷ ys → x ≡ y
        heads x y xs ys e = cc

-- ---- a text that begins with a line

pub first_is : (line rest : List ℕ) → IsLine line → first_left (ended line ++ rest) ≡ Some (ended line)
first_is line rest h = ap first_of (line_then line rest h)

pub first_unended : (line : List ℕ) → IsLine line → (m : List ℕ) → first_left line ≡ Some (ended m) → ⊥
first_unended [] h m e = let f : None ≡ Some (ended m) = e in cc
first_unended (c ∷ cs) h m e =
    let l : first_left (c ∷ cs) ≡ Some (c ∷ cs) = ap first_of (alone c cs h) in
    let s : c ∷ cs ≡ ended m = some_same (c ∷ cs) (ended m) (sym l ∙ e) in
    no_end (c ∷ cs) m h s
  where
    some_same : (x y : List ℕ) → Some x ≡ Some y → x ≡ y
    some_same x y e = cc

    no_end : (line m : List ℕ) → IsLine line → line ≡ ended m → ⊥
    no_end [] [] h e = cc
    no_end [] (d ∷ m) h e = cc
    no_end (c ∷ cs) [] h e =
        let s : c ≡ 10 = cc in
        let t : eqb c 10 ≡ true = eq-eqb c 10 s in
        let f : true ≡ false = sym t ∙ h.0 in
        cc
    no_end (c ∷ cs) (d ∷ m) h e = let t : cs ≡ ended m = cc in no_end cs m h.1 t

-- ---- the first LF

cut_at : (text : List ℕ) (i : ℕ) → i < length text → eqb (get_or text i 0) 10 ≡ true → ((k : ℕ) → k < i → eqb (get_or text k 0) 10 ≡ false) → IsLine (take i text) × (text ≡ ended (take i text) ++ drop 1 (drop i text))
cut_at [] i lt here before = absurd (omega arith)
cut_at (c ∷ text) zero lt here before = (tt, ap (λ (x : ℕ). x ∷ text) (eqb-true c 10 here))
cut_at (c ∷ text) (suc i) lt here before =
    let later = cut_at text i (omega arith) here (λ k h. before (suc k) (omega arith)) in
    let first : eqb c 10 ≡ false = before 0 (omega arith) in
    ((first, later.0), ap (λ (l : List ℕ). c ∷ l) later.1)

none_at : (text : List ℕ) → ((k : ℕ) → k < length text → eqb (get_or text k 0) 10 ≡ false) → IsLine text
none_at [] before = tt
none_at (c ∷ text) before = (before 0 (omega arith), none_at text (λ k h. before (suc k) (omega arith)))

fails : (b : Bool) → (b ≡ true → ⊥) → b ≡ false
fails true h = absurd (h refl)
fails false h = refl

pub cut_none : (text : List ℕ) → IsFirstByte (is_byte 10) text None → IsLine text
cut_none text h = none_at text (λ k lt. fails (eqb (get_or text k 0) 10) (h k (omega arith) lt))

pub cut_some : (text : List ℕ) (i n : ℕ) → IsFirstByte (is_byte 10) text (Some i) → length text ≤ n + (i + 1) → IsLine (take i text) × (text ≡ ended (take i text) ++ take n (drop (i + 1) text))
cut_some text i n h long =
    let c = cut_at text i h.0.high h.1 (λ k lt. fails (eqb (get_or text k 0) 10) (h.0.before k (omega arith) lt)) in
    let rest : take n (drop (i + 1) text) ≡ drop 1 (drop i text) = grind (arith, common_steps) in
    (c.0, c.1 ∙ ap (λ (l : List ℕ). ended (take i text) ++ l) (sym rest))
