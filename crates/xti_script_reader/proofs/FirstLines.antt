-- The first lines of texts.
use Rattle.std.proofs.Common.{◌≡◌, ℕ, suc, ◌≤◌, Bool, true, false, cond, eqb, List, [], ◌∷◌, ◌++◌, length, map, take, Option, Some, None, refl, sym, ap, subst, ◌∙◌, append_assoc, arith}
use Rattle.std.specs.List.{onto_first}
use Rattle.std.proofs.lemmas.List.{take-append-le, map-append, length-map}
use Rattle.xti_model.specs.declared.script.Script.{Script}
use Rattle.xti_words.specs.Texts.{lines_of, text_of}
use Rattle.xti_script_reader.specs.Refused.{some, ended_lines, Form, CanBegin}

-- ---- a text of given lines

abbrev pub HasNoEnd : List ℕ → Type 0
HasNoEnd [] = Unit {0}
HasNoEnd (c ∷ cs) = (eqb c 10 ≡ false) × HasNoEnd cs

abbrev pub HaveNoEnds : List (List ℕ) → Type 0
HaveNoEnds [] = Unit {0}
HaveNoEnds (line ∷ lines) = HasNoEnd line × HaveNoEnds lines

line_then : (line rest : List ℕ) → HasNoEnd line → lines_of (line ++ 10 ∷ rest) ≡ line ∷ lines_of rest
line_then [] rest h = refl
line_then (c ∷ cs) rest h = rw (h.0, line_then cs rest h.1) refl

pub lines_of-text_of : (lines : List (List ℕ)) → HaveNoEnds lines → lines_of (text_of lines) ≡ lines
lines_of-text_of [] h = refl
lines_of-text_of (line ∷ lines) h = line_then line (text_of lines) h.0 ∙ ap (λ (ls : List (List ℕ)). line ∷ ls) (lines_of-text_of lines h.1)

onto : (c : ℕ) (lines : List (List ℕ)) → eqb c 10 ≡ false → HaveNoEnds lines → HaveNoEnds (onto_first c lines)
onto c [] e h = ((e, tt), tt)
onto c (line ∷ lines) e h = ((e, h.0), h.1)

end_or : (b : Bool) (c : ℕ) (lines : List (List ℕ)) → eqb c 10 ≡ b → HaveNoEnds lines → HaveNoEnds (cond b ([] ∷ lines) (onto_first c lines))
end_or true c lines e h = (tt, h)
end_or false c lines e h = onto c lines e h

pub lines_end : (text : List ℕ) → HaveNoEnds (lines_of text)
lines_end [] = tt
lines_end (c ∷ text) = end_or (eqb c 10) c (lines_of text) refl (lines_end text)

pub front_ends : (front back : List (List ℕ)) → HaveNoEnds (front ++ back) → HaveNoEnds front
front_ends [] back h = tt
front_ends (line ∷ front) back h = (h.0, front_ends front back h.1)

-- ---- the first lines

pub take_front : (xs ys : List (List ℕ)) (m : ℕ) → m ≤ length xs → take m (map some (xs ++ ys) ++ None ∷ []) ≡ take m (map some xs)
take_front xs ys m le =
    let short : m ≤ length (map some xs) = omega (arith, length-map xs some) in
    rw (map-append some xs ys, append_assoc (map some xs) (map some ys) (None ∷ [])) (take-append-le m (map some xs) (map some ys ++ None ∷ []) short)

pub take_whole : (xs : List (List ℕ)) (m : ℕ) → m ≤ length xs → take m (map some xs ++ None ∷ []) ≡ take m (map some xs)
take_whole xs m le = take-append-le m (map some xs) (None ∷ []) (omega (arith, length-map xs some))

same_later : (o f : List ℕ) (others front : List (List ℕ)) (wrong : List ℕ) → o ≡ f → (back : List (List ℕ)) × (others ≡ front ++ wrong ∷ back) → (back : List (List ℕ)) × (o ∷ others ≡ (f ∷ front) ++ wrong ∷ back)
same_later o f others front wrong h (back, e) = (back, ap (λ (x : List ℕ). x ∷ others) h ∙ ap (λ (ls : List (List ℕ)). f ∷ ls) e)

-- lines that begin with the same are these and others
pub same_front : (others front : List (List ℕ)) (wrong : List ℕ) (tail : List (Option (List ℕ))) → take (suc (length front)) (map some others ++ None ∷ []) ≡ take (suc (length front)) (map some front ++ Some wrong ∷ tail)
    → (back : List (List ℕ)) × (others ≡ front ++ wrong ∷ back)
same_front [] [] wrong tail e = absurd cc
same_front [] (f ∷ front) wrong tail e = absurd cc
same_front (o ∷ others) [] wrong tail e = let h : o ≡ wrong = cc in (others, ap (λ (l : List ℕ). l ∷ others) h)
same_front (o ∷ others) (f ∷ front) wrong tail e =
    let h : o ≡ f = cc in
    let t : take (suc (length front)) (map some others ++ None ∷ []) ≡ take (suc (length front)) (map some front ++ Some wrong ∷ tail) = cc in
    same_later o f others front wrong h (same_front others front wrong tail t)

-- the text of the first lines begins as the text does
pub begins : (form : Form) (text : List ℕ) (front back : List (List ℕ)) (s : Script) (m : ℕ) → lines_of text ≡ front ++ back → ((other : List ℕ) → lines_of other ≡ front → form s other) → m ≤ length front → CanBegin form text m
begins form text front back s m parts formed le =
    let ends : HaveNoEnds front = front_ends front back (subst HaveNoEnds parts (lines_end text)) in
    let same : lines_of (text_of front) ≡ front = lines_of-text_of front ends in
    let here : take m (ended_lines (text_of front)) ≡ take m (map some front) = ap (λ (ls : List (List ℕ)). take m (map some ls ++ None ∷ [])) same ∙ take_whole front m le in
    let there : take m (ended_lines text) ≡ take m (map some front) = ap (λ (ls : List (List ℕ)). take m (map some ls ++ None ∷ [])) parts ∙ take_front front back m le in
    record { script = s; other = text_of front; has_form = formed (text_of front) same; same = here ∙ sym there }

pub with_wrong : (front : List (List ℕ)) (wrong : List ℕ) (back : List (List ℕ)) → map some (front ++ wrong ∷ back) ++ None ∷ [] ≡ map some front ++ Some wrong ∷ (map some back ++ None ∷ [])
with_wrong [] wrong back = refl
with_wrong (f ∷ front) wrong back = ap (λ (ls : List (Option (List ℕ))). Some f ∷ ls) (with_wrong front wrong back)

-- a text with the same lines up to one has that line there
pub goes_on : (text other : List ℕ) (front : List (List ℕ)) (line : List ℕ) (back : List (List ℕ)) (n : ℕ) → lines_of text ≡ front ++ line ∷ back → n ≡ suc (length front) → take n (ended_lines other) ≡ take n (ended_lines text)
    → (later : List (List ℕ)) × (lines_of other ≡ front ++ line ∷ later)
goes_on text other front line back n parts place same =
    let shown : ended_lines text ≡ map some front ++ Some line ∷ (map some back ++ None ∷ []) = ap (λ (ls : List (List ℕ)). map some ls ++ None ∷ []) parts ∙ with_wrong front line back in
    same_front (lines_of other) front line (map some back ++ None ∷ []) (rw place at same ∙ ap (take (suc (length front))) shown)
