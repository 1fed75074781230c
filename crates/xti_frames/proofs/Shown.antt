-- What is shown so far, and what is wrong after it.
use Rattle.std.proofs.lemmas.Bool.{false≢true}
use Rattle.std.proofs.Common.{◌==◌, false, ◌≡◌, ◌≢◌, ◌+◌, ◌-◌, ◌∙◌, ℕ, List, [], ◌∷◌, ◌++◌, map, length, take, drop, refl, sym, ap, subst, arith, append_assoc, append-nil, take-append-drop, length-append}
use Rattle.tpi_grammar.specs.Frame.{IsFilled, spelling}
use Rattle.tpi_grammar.specs.Frames.{AreFilled, IsFrames, IsFirstWrong, spellings}
use Rattle.tpi_prim.specs.declared.primitive.Prim.{Prim}
use Rattle.tpi_prim.specs.Primitive.{filled, Spells}
use Rattle.xti_frames.specs.FrameText.{IsShown, frame_line, frames_text}

-- the input is the encodings of primitives up to the rest, and the text shows them
pub record ShownTo (input rest text : List ℕ) : Type 0 where
  pub prims : List Prim
  pub are_frames : AreFilled (map filled prims)
  pub spelled : input ≡ spellings (map filled prims) ++ rest
  pub shown : text ≡ frames_text prims

more_spelled : (prims : List Prim) (p : Prim) → spellings (map filled (prims ++ p ∷ [])) ≡ spellings (map filled prims) ++ spelling (filled p)
more_spelled [] p = append-nil (spelling (filled p))
more_spelled (q ∷ qs) p = ap (λ bs. spelling (filled q) ++ bs) (more_spelled qs p) ∙ sym (append_assoc (spelling (filled q)) (spellings (map filled qs)) (spelling (filled p)))

more_filled : (prims : List Prim) (p : Prim) → AreFilled (map filled prims) → IsFilled (filled p) → AreFilled (map filled (prims ++ p ∷ []))
more_filled [] p h k = (k, tt)
more_filled (q ∷ qs) p h k = (h.0, more_filled qs p h.1 k)

more_text : (prims : List Prim) (p : Prim) → frames_text (prims ++ p ∷ []) ≡ frames_text prims ++ frame_line p
more_text [] p = append-nil (frame_line p)
more_text (q ∷ qs) p = ap (λ bs. frame_line q ++ bs) (more_text qs p) ∙ sym (append_assoc (frame_line q) (frames_text qs) (frame_line p))

pub shown_none : (input : List ℕ) → ShownTo input input []
shown_none input = record { prims = []; are_frames = tt; spelled = refl; shown = refl }

pub shown_more : (input rest text next : List ℕ) (p : Prim) (used : ℕ) → ShownTo input rest text → Spells p (take used rest) → next ≡ text ++ frame_line p → ShownTo input (drop used rest) next
shown_more input rest text next p used h spells k = record {
  prims = h.prims ++ p ∷ [];
  are_frames = more_filled h.prims p h.are_frames spells.good;
  spelled =
      h.spelled ∙
      ap (λ bs. spellings (map filled h.prims) ++ bs) (sym (take-append-drop used rest) ∙ ap (λ bs. bs ++ drop used rest) spells.text) ∙
      sym (append_assoc (spellings (map filled h.prims)) (spelling (filled p)) (drop used rest)) ∙
      ap (λ bs. bs ++ drop used rest) (sym (more_spelled h.prims p));
  shown = k ∙ ap (λ bs. bs ++ frame_line p) h.shown ∙ sym (more_text h.prims p);
}

pub shown_all : (input rest text : List ℕ) → ShownTo input rest text → rest ≡ [] → IsShown input text
shown_all input rest text h none = record {
  prims = h.prims;
  are_frames = h.are_frames;
  spelled = h.spelled ∙ ap (λ bs. spellings (map filled h.prims) ++ bs) none ∙ append-nil (spellings (map filled h.prims));
  shown = h.shown;
}

pub in_front : (input rest text : List ℕ) (h : ShownTo input rest text) → IsFrames (spellings (map filled h.prims))
in_front input rest text h = (map filled h.prims, h.are_frames, refl)

pub wrong_at : (input rest text : List ℕ) (h : ShownTo input rest text) (at place : ℕ) → IsFirstWrong (spellings (map filled h.prims) ++ rest) (length (spellings (map filled h.prims)) + at) → place ≡ length input - length rest + at → IsFirstWrong input place
wrong_at input rest text h at place w e =
    let long : length input ≡ length (spellings (map filled h.prims)) + length rest = ap length h.spelled ∙ length-append (spellings (map filled h.prims)) rest in
    let same : length (spellings (map filled h.prims)) + at ≡ place = omega (arith, long, e) in
    subst (λ n. IsFirstWrong input n) same (subst (λ bs. IsFirstWrong bs (length (spellings (map filled h.prims)) + at)) (sym h.spelled) w)

pub cut_at : (input rest text : List ℕ) (h : ShownTo input rest text) → IsFirstWrong (spellings (map filled h.prims) ++ rest) (length (spellings (map filled h.prims) ++ rest)) → IsFirstWrong input (length input)
cut_at input rest text h w = subst (λ bs. IsFirstWrong bs (length bs)) (sym h.spelled) w

pub not_empty : (rest : List ℕ) → (length rest == 0) ≡ false → rest ≢ []
not_empty [] h e = absurd (false≢true (sym h))
not_empty (b ∷ bs) h e = cc
