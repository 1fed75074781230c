-- Frames one after the other are read one by one.
use Rattle.std.proofs.Common.{◌≡◌, ◌≢◌, ◌≤◌, ◌<◌, ◌+◌, ◌⊎◌, ℕ, suc, List, [], ◌∷◌, ◌++◌, length, take, drop, length-append, length-take-le, take_all, take-append-drop, append_assoc, append-nil, refl, sym, ◌∙◌, ap, arith, inl, inr, subst}
use Rattle.std.proofs.Math.Seq.{take-append_seam, take-append-add}
use Rattle.std.proofs.Math.Nat.{eq-or-lt_of_le}
use Rattle.std.proofs.lemmas.Bool.{cases_lt}
use Rattle.std.proofs.lemmas.List.{take-append-le, take-take}
use Rattle.tpi_grammar.specs.Form.{short, bad}
use Rattle.tpi_grammar.specs.Frame.{Filled, IsFilled, spelling, frame}
use Rattle.tpi_grammar.specs.Measured.{IsFrame, BeginsFrame, HasNoFrame, MeansFrame}
use Rattle.tpi_grammar.specs.Frames.{AreFilled, spellings, IsFrames, BeginsFrames, IsFirstWrong}
use Rattle.tpi_grammar.proofs.Meaning.{from_frame}
use Rattle.tpi_grammar.proofs.OneSpelling.{no_prefix, split_same, one_filled}

pub apart : (a b x y : List ℕ) → IsFrame a → IsFrame b → a ++ x ≡ b ++ y → a ≡ b
apart a b x y ia ib e = no_prefix frame a b x y (from_frame a ia) (from_frame b ib) e

spelling_long : (f : Filled) → 0 < length (spelling f)
spelling_long f = omega arith

together : (fs gs : List Filled) → spellings fs ++ spellings gs ≡ spellings (fs ++ gs)
together [] gs = refl
together (f ∷ fs) gs = append_assoc (spelling f) (spellings fs) (spellings gs) ∙ ap (λ bs. spelling f ++ bs) (together fs gs)

both_filled : (fs gs : List Filled) → AreFilled fs → AreFilled gs → AreFilled (fs ++ gs)
both_filled [] gs hf hg = hg
both_filled (f ∷ fs) gs hf hg = (hf.0, both_filled fs gs hf.1 hg)

pub both_frames : (a b : List ℕ) → IsFrames a → IsFrames b → IsFrames (a ++ b)
both_frames a b ia ib = (ia.0 ++ ib.0, both_filled ia.0 ib.0 ia.1 ib.1, rw (ia.2, ib.2) (together ia.0 ib.0))

one_frame : (a : List ℕ) → IsFrame a → IsFrames a
one_frame a i = (i.0 ∷ [], (i.1, tt), i.2 ∙ sym (append-nil (spelling i.0)))

pub one_more : (front last : List ℕ) → IsFrames front → IsFrame last → IsFrames (front ++ last)
one_more front last hf i = both_frames front last hf (one_frame last i)

-- what stands after frames, where the whole is frames
rest_is : (fs gs : List Filled) (xs : List ℕ) → AreFilled fs → AreFilled gs → spellings fs ++ xs ≡ spellings gs → IsFrames xs
rest_is [] gs xs hf hg e = (gs, hg, e)
rest_is (f ∷ fs) [] xs hf hg e =
    absurd (omega (arith, spelling_long f, ap length (sym (append_assoc (spelling f) (spellings fs) xs) ∙ e), length-append (spelling f) (spellings fs ++ xs)))
rest_is (f ∷ fs) (g ∷ gs) xs hf hg e =
    let same : spelling f ++ (spellings fs ++ xs) ≡ spelling g ++ spellings gs = sym (append_assoc (spelling f) (spellings fs) xs) ∙ e in
    let one : spelling f ≡ spelling g = apart (spelling f) (spelling g) (spellings fs ++ xs) (spellings gs) (f, hf.0, refl) (g, hg.0, refl) same in
    rest_is fs gs xs hf.1 hg.1 (split_same (spelling f) (spelling g) (spellings fs ++ xs) (spellings gs) (ap length one) same).1

pub behind : (front xs : List ℕ) → IsFrames front → IsFrames (front ++ xs) → IsFrames xs
behind front xs a b = rest_is a.0 b.0 xs a.1 b.1 (ap (λ ws. ws ++ xs) (sym a.2) ∙ b.2)

pub one_reading : (fs gs : List Filled) → AreFilled fs → AreFilled gs → spellings fs ≡ spellings gs → fs ≡ gs
one_reading [] [] hf hg e = refl
one_reading [] (g ∷ gs) hf hg e = absurd (omega (arith, spelling_long g, ap length e, length-append (spelling g) (spellings gs)))
one_reading (f ∷ fs) [] hf hg e = absurd (omega (arith, spelling_long f, ap length e, length-append (spelling f) (spellings fs)))
one_reading (f ∷ fs) (g ∷ gs) hf hg e =
    let one : spelling f ≡ spelling g = apart (spelling f) (spelling g) (spellings fs) (spellings gs) (f, hf.0, refl) (g, hg.0, refl) e in
    let front : f ≡ g = one_filled f g hf.0 hg.0 one in
    let rest : fs ≡ gs = one_reading fs gs hf.1 hg.1 (split_same (spelling f) (spelling g) (spellings fs) (spellings gs) (ap length one) e).1 in
    cc

-- a frame, and what stands after it
record Splits (bs : List ℕ) : Type 0 where
  first : Filled
  rest : List ℕ
  good : IsFilled first
  text : bs ≡ spelling first ++ rest

-- frames that aren't nothing begin with one
splits : (bs : List ℕ) → bs ≢ [] → IsFrames bs → Splits bs
splits bs some i = go i.0 i.1 i.2
  where
    go : (fs : List Filled) → AreFilled fs → bs ≡ spellings fs → Splits bs
    go [] h e = absurd (some e)
    go (f ∷ fs) h e = record { first = f; rest = spellings fs; good = h.0; text = e }

-- where no frame stands at the start, and none begins with these first bytes, frames don't begin with them
none_begin : (bs more : List ℕ) (k : ℕ) → 0 < k → k ≤ length bs → (BeginsFrame (take k bs) → ⊥) → HasNoFrame bs → IsFrames (take k bs ++ more) → ⊥
none_begin bs more k pos le wrong none i =
    let s = splits (take k bs ++ more) (λ e. omega (arith, pos, le, ap length e, length-append (take k bs) more, length-take-le k bs le)) i in
    go s (cases_lt (length (spelling s.first)) k)
  where
    go : (s : Splits (take k bs ++ more)) → (length (spelling s.first) < k) ⊎ (k ≤ length (spelling s.first)) → ⊥
    go s (inl lt) =
        let n : ℕ = length (spelling s.first) in
        let front : take n (take k bs ++ more) ≡ spelling s.first = ap (take n) s.text ∙ take-append_seam (spelling s.first) s.rest in
        let inner : take n (take k bs ++ more) ≡ take n (take k bs) = take-append-le n (take k bs) more (omega (arith, lt, length-take-le k bs le)) in
        none n (omega (arith, lt, le)) (s.first, s.good, sym (take-take n k bs (omega (arith, lt))) ∙ sym inner ∙ front)
    go s (inr long) =
        let front : take k (take k bs ++ more) ≡ take k bs = subst (λ m. take m (take k bs ++ more) ≡ take k bs) (length-take-le k bs le) (take-append_seam (take k bs) more) in
        let start : take k (spelling s.first ++ s.rest) ≡ take k (spelling s.first) = take-append-le k (spelling s.first) s.rest long in
        let same : take k bs ≡ take k (spelling s.first) = sym front ∙ ap (take k) s.text ∙ start in
        wrong (drop k (spelling s.first), (s.first, s.good, ap (λ ws. ws ++ drop k (spelling s.first)) same ∙ take-append-drop k (spelling s.first)))

-- frames, and then the start of one
frames_begin : (front bs : List ℕ) → IsFrames front → BeginsFrame bs → BeginsFrames (front ++ bs)
frames_begin front bs hf b = (b.0, subst IsFrames (sym (append_assoc front bs b.0)) (one_more front (bs ++ b.0) hf b.1))

pub bad_frame : (front rest : List ℕ) (at : ℕ) → IsFrames front → MeansFrame rest (bad at) → IsFirstWrong (front ++ rest) (length front + at)
bad_frame front rest at hf m = record {
  within = omega (arith, m.0, length-append front rest);
  begins = subst BeginsFrames (sym (take-append-add front rest at)) (frames_begin front (take at rest) hf m.1);
  wrong = λ lt b.
      let place : suc (length front + at) ≡ length front + suc at = omega arith in
      let cut : take (suc (length front + at)) (front ++ rest) ≡ front ++ take (suc at) rest = ap (λ n. take n (front ++ rest)) place ∙ take-append-add front rest (suc at) in
      let this : BeginsFrames (front ++ take (suc at) rest) = subst BeginsFrames cut b in
      none_begin rest this.0 (suc at) (omega arith) (omega (arith, m.0)) m.2 m.3
      (behind front (take (suc at) rest ++ this.0) hf (subst IsFrames (append_assoc front (take (suc at) rest) this.0) this.1));
  cut = λ e i. omega (arith, e, m.0, length-append front rest);
}

pub cut_frame : (front rest : List ℕ) → IsFrames front → MeansFrame rest short → rest ≢ [] → IsFirstWrong (front ++ rest) (length (front ++ rest))
cut_frame front rest hf m some = record {
  within = omega arith;
  begins = subst BeginsFrames (sym (take_all (length (front ++ rest)) (front ++ rest) (omega arith))) (frames_begin front rest hf m.0);
  wrong = λ lt b. omega (arith, lt);
  cut = λ e i. whole (splits rest some (behind front rest hf i));
}
  where
    whole : Splits rest → ⊥
    whole s = m.1 (length (spelling s.first)) (omega (arith, ap length s.text, length-append (spelling s.first) s.rest))
        (s.first, s.good, ap (take (length (spelling s.first))) s.text ∙ take-append_seam (spelling s.first) s.rest)

pub never_both : (bs : List ℕ) (at : ℕ) → IsFirstWrong bs at → IsFrames bs → ⊥
never_both bs at w i = go (eq-or-lt_of_le w.within)
  where
    go : (at ≡ length bs) ⊎ (at < length bs) → ⊥
    go (inl e) = w.cut e i
    go (inr lt) = w.wrong lt (drop (suc at) bs, subst IsFrames (sym (take-append-drop (suc at) bs)) i)

-- what frames begin with, they begin with less of
begins_less : (bs : List ℕ) (k n : ℕ) → k ≤ n → BeginsFrames (take n bs) → BeginsFrames (take k bs)
begins_less bs k n le b =
    let parts : take n bs ≡ take k bs ++ drop k (take n bs) = sym (take-append-drop k (take n bs)) ∙ ap (λ ws. ws ++ drop k (take n bs)) (take-take k n bs le) in
    (drop k (take n bs) ++ b.0, subst IsFrames (ap (λ ws. ws ++ b.0) parts ∙ append_assoc (take k bs) (drop k (take n bs)) b.0) b.1)

not_earlier : (bs : List ℕ) (a b : ℕ) → IsFirstWrong bs a → IsFirstWrong bs b → a < b → ⊥
not_earlier bs a b wa wb lt = wa.wrong (omega (arith, lt, wb.within)) (begins_less bs (suc a) b (omega (arith, lt)) wb.begins)

pub one_place : (bs : List ℕ) (a b : ℕ) → IsFirstWrong bs a → IsFirstWrong bs b → a ≡ b
one_place bs a b wa wb = go (cases_lt a b) (cases_lt b a)
  where
    go : (a < b) ⊎ (b ≤ a) → (b < a) ⊎ (a ≤ b) → a ≡ b
    go (inl lt) later = absurd (not_earlier bs a b wa wb lt)
    go (inr le) (inl lt) = absurd (not_earlier bs b a wb wa lt)
    go (inr le) (inr ge) = omega (arith, le, ge)
