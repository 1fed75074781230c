-- Looking for the first mark, line by line.
use Rattle.std.proofs.Common.{◌≡◌, ℕ, ◌+◌, ◌-◌, ◌<◌, ◌⊎◌, inl, inr, Bool, true, false, eqb, List, [], ◌∷◌, ◌++◌, length, take, Option, Some, None, refl, sym, ap, subst, ◌∙◌, append_assoc, arith}
use Rattle.std.proofs.lemmas.Bool.{eqb-true}
use Rattle.std.proofs.lemmas.List.{append-nil, length-append, nil_from_length}
use Rattle.xti_words.specs.Texts.{lines_of, text_of}
use Rattle.xti_script_reader.specs.Grammar.{is_mark}
use Rattle.xti_script_reader.specs.Marks.{IsSplit}
use Rattle.xti_script_reader.specs.Reading.{to_mark, onto_parts}
use Rattle.xti_script_reader.proofs.Heads.{Parts}

-- these lines before what is found later
abbrev pub onto_all : List (List ℕ) → Option Parts → Option Parts
onto_all lines None = None
onto_all lines (Some parts) = Some (lines ++ parts.0, parts.1)

-- the lines before the rest have no mark
pub record Passed (text rest : List ℕ) (count : ℕ) : Type 0 where
  pub lines : List (List ℕ)
  pub size : count ≡ length lines
  pub found : to_mark (lines_of text) ≡ onto_all lines (to_mark (lines_of rest))
  pub whole : 0 < length rest → text ≡ text_of lines ++ rest

nothing_passed : (o : Option Parts) → o ≡ onto_all [] o
nothing_passed None = refl
nothing_passed (Some parts) = refl

pub at_first : (text : List ℕ) → Passed text text 0
at_first text = record { lines = []; size = refl; found = nothing_passed (to_mark (lines_of text)); whole = λ lt. refl }

one_line_more : (lines : List (List ℕ)) (line : List ℕ) (o : Option Parts) → onto_all lines (onto_parts line o) ≡ onto_all (lines ++ line ∷ []) o
one_line_more lines line None = refl
one_line_more lines line (Some parts) = ap (λ (ls : List (List ℕ)). Some (ls, parts.1)) (sym (append_assoc lines (line ∷ []) parts.0))

text_more : (lines : List (List ℕ)) (line : List ℕ) → text_of (lines ++ line ∷ []) ≡ text_of lines ++ (line ++ 10 ∷ [])
text_more [] line = refl
text_more (l ∷ lines) line = ap (λ (t : List ℕ). l ++ 10 ∷ t) (text_more lines line) ∙ sym (append_assoc l (10 ∷ text_of lines) (line ++ 10 ∷ []))

pub goes_on : (text rest line later : List ℕ) (count : ℕ) (b : Bool) → Passed text rest count → 0 < length rest → lines_of rest ≡ line ∷ lines_of later → (rest ≡ line ++ 10 ∷ later) ⊎ ((rest ≡ line) × (later ≡ [])) → b ≡ is_mark line → b ≡ false
    → Passed text later (count + 1)
goes_on text rest line later count b p some first end t f = record {
  lines = p.lines ++ line ∷ [];
  size = omega (arith, p.size, length-append p.lines (line ∷ []));
  found = p.found ∙ ap (λ (ls : List (List ℕ)). onto_all p.lines (to_mark ls)) first ∙ ap (onto_all p.lines) unmarked ∙ one_line_more p.lines line (to_mark (lines_of later));
  whole = λ lt. by_end lt end;
}
  where
    unmarked : to_mark (line ∷ lines_of later) ≡ onto_parts line (to_mark (lines_of later))
    unmarked = let e : is_mark line ≡ false = sym t ∙ f in rw e refl

    by_end : 0 < length later → (rest ≡ line ++ 10 ∷ later) ⊎ ((rest ≡ line) × (later ≡ [])) → text ≡ text_of (p.lines ++ line ∷ []) ++ later
    by_end lt (inl e) = p.whole some ∙ ap (λ (t : List ℕ). text_of p.lines ++ t) (e ∙ sym (append_assoc line (10 ∷ []) later)) ∙ sym (append_assoc (text_of p.lines) (line ++ 10 ∷ []) later) ∙ ap (λ (t : List ℕ). t ++ later) (sym (text_more p.lines line))
    by_end lt (inr e) = let none : length later ≡ 0 = ap length e.1 in absurd (omega arith)

pub none_left : (text rest : List ℕ) (count : ℕ) (empty : Bool) → Passed text rest count → empty ≡ true → empty ≡ eqb (length rest) 0 → to_mark (lines_of text) ≡ None
none_left text rest count empty p t h =
    let e : rest ≡ [] = nil_from_length rest (eqb-true _ _ (sym h ∙ t)) in
    p.found ∙ ap (λ (r : List ℕ). onto_all p.lines (to_mark (lines_of r))) e

front_of : (front back : List ℕ) → take (length (front ++ back) - length back) (front ++ back) ≡ front
front_of front back = rw (size front back) (first front back)
  where
    size : (front back : List ℕ) → length (front ++ back) - length back ≡ length front
    size front back = omega (arith, length-append front back)

    first : (front back : List ℕ) → take (length front) (front ++ back) ≡ front
    first [] back = refl
    first (c ∷ front) back = ap (λ (cs : List ℕ). c ∷ cs) (first front back)

pub found_here : (text rest line later : List ℕ) (count : ℕ) (b : Bool) → Passed text rest count → 0 < length rest → lines_of rest ≡ line ∷ lines_of later → b ≡ is_mark line → b ≡ true → IsSplit text (take (length text - length rest) text) count later
found_here text rest line later count b p some first t f = record {
  texts = p.lines;
  parts = p.found ∙ ap (λ (ls : List (List ℕ)). onto_all p.lines (to_mark ls)) first ∙ ap (onto_all p.lines) marked ∙ ap (λ (ls : List (List ℕ)). Some (ls, lines_of later)) (append-nil p.lines);
  before = let e = p.whole some in subst (λ (t : List ℕ). take (length t - length rest) t ≡ text_of p.lines) (sym e) (front_of (text_of p.lines) rest);
  count = p.size;
}
  where
    marked : to_mark (line ∷ lines_of later) ≡ Some ([], lines_of later)
    marked = let e : is_mark line ≡ true = sym t ∙ f in rw e refl
