-- Frames one after the other, read from bytes that come in pieces.
use Rattle.std.proofs.Common.{Bool, true, ◌==◌, ◌≡◌, ◌≤◌, ◌<◌, ◌+◌, ◌-◌, ◌^◌, ℕ, List, [], ◌∷◌, ◌++◌, length, take, drop, map, suc, Option, None, MatchOption, Err, take-append-drop, append_assoc, length-append, length-take, length-drop, arith, refl, sym, ◌∙◌, ap, subst}
use Rattle.std.proofs.Math.Seq.{take-add, take-append-add, take-append_seam}
use Rattle.std.proofs.lemmas.Bool.{eqb-true}
use Rattle.std.proofs.lemmas.List.{map-append, length-take-le, take_all}
use Rattle.tpi_grammar.specs.Form.{short, bad}
use Rattle.tpi_grammar.specs.Frame.{Filled, IsFilled, spelling}
use Rattle.tpi_grammar.specs.Measured.{MeansFrame}
use Rattle.tpi_grammar.specs.Frames.{spellings, AreFilled, IsFrames, IsFirstWrong}
use Rattle.tpi_grammar.specs.declared.kind.Kind.TheVariants as kind
use Rattle.tpi_grammar.proofs.FrameLists.{bad_frame, both_frames, behind}
use Rattle.tpi_prim.specs.declared.primitive.Prim.{Prim}
use Rattle.tpi_prim.specs.Primitive.{filled, of_kind, Spells}
use Rattle.tpi_prim.specs.Fed.{Fed}
use Rattle.tpi_prim.specs.Reading.{SpellAll, IsFront, GoesWrong, Takes, Fails, Feeds, HasRead, nothing, one_more, HasGiven, capped}
use Rattle.tpi_prim.specs.declared.reading.FeedFail.TheVariants.{Bad}
use Rattle.tpi_prim.proofs.FilledIn.{is_filled}

-- no bytes are a proper prefix of a frame
pub nothing_short : MeansFrame [] short
nothing_short =
    let f : Filled = of_kind kind.T_UNBIND_REQ [] [] in
    let good : IsFilled f = is_filled kind.T_UNBIND_REQ [] [] tt tt tt (omega arith) (omega arith) in
    ((spelling f, (f, good, refl)), λ n le frame. absurd (omega (arith, ap length frame.2, length-take {A = ℕ} n [])))

spellings-append : (fs gs : List Filled) → spellings (fs ++ gs) ≡ spellings fs ++ spellings gs
spellings-append [] gs = refl
spellings-append (f ∷ fs) gs = ap (λ xs. spelling f ++ xs) (spellings-append fs gs) ∙ sym (append_assoc (spelling f) (spellings fs) (spellings gs))

AreFilled-append : (fs : List Filled) (f : Filled) → AreFilled fs → IsFilled f → AreFilled (fs ++ f ∷ [])
AreFilled-append [] f h good = (good, tt)
AreFilled-append (g ∷ fs) f h good = (h.0, AreFilled-append fs f h.1 good)

append_nil : (xs : List ℕ) → xs ++ [] ≡ xs
append_nil [] = refl
append_nil (x ∷ xs) = ap (λ ys. x ∷ ys) (append_nil xs)

-- what is left after `used` bytes, as a slice has it
abbrev pub rest_of : ℕ → List ℕ → List ℕ
rest_of used bs = take (length bs - used) (drop used bs)

pub rest_of-drop : (used : ℕ) (bs : List ℕ) → rest_of used bs ≡ drop used bs
rest_of-drop used bs = take_all (length bs - used) (drop used bs) (omega (arith, length-drop used bs))

pub spell_more : (bs : List ℕ) (ps : List Prim) (used : ℕ) (p : Prim) (more : ℕ) → SpellAll ps (take used bs) → Spells p (take more (rest_of used bs))
    → SpellAll (ps ++ p ∷ []) (take (used + more) bs)
spell_more bs ps used p more s one' = let one = subst (λ (xs : List ℕ). Spells p (take more xs)) (rest_of-drop used bs) one' in record {
  each = subst AreFilled (sym (map-append filled ps (p ∷ []))) (AreFilled-append (map filled ps) (filled p) s.each one.good);
  bytes = take-add used more bs ∙ rw (s.bytes, one.text, map-append filled ps (p ∷ []), spellings-append (map filled ps) (filled p ∷ []))
      (ap (λ (xs : List ℕ). spellings (map filled ps) ++ xs) (sym (append_nil (spelling (filled p)))));
}

pub grows : (bs : List ℕ) (p : Prim) (more : ℕ) → Spells p (take more bs) → 0 < more
grows bs p more one = omega (arith, ap length one.text, length-take more bs)

pub goes_wrong : (bs : List ℕ) (ps : List Prim) (used at : ℕ) → used ≤ length bs → SpellAll ps (take used bs) → MeansFrame (rest_of used bs) (bad at) → GoesWrong bs (used + at)
goes_wrong bs ps used at within s wrong' = let wrong = subst (λ (xs : List ℕ). MeansFrame xs (bad at)) (rest_of-drop used bs) wrong' in record {
  within = omega (arith, wrong.0, length-drop used bs);
  first = subst (λ (xs : List ℕ). IsFirstWrong xs (used + at)) (take-append-drop used bs)
      (subst (λ n. IsFirstWrong (take used bs ++ drop used bs) (n + at)) (length-take-le used bs within)
      (bad_frame (take used bs) (drop used bs) at (map filled ps, s.each, s.bytes) wrong));
}

pub takes : (old new : Fed) (piece all : List ℕ) (ps : List Prim) (used : ℕ) → all ≡ old.rest ++ piece → IsFront all ps used → new.rest ≡ drop used all
    → new.passed ≡ capped (old.passed + used) → new.wrong ≡ None → Takes old new piece ps
takes old new piece all ps used is front rest passed wrong = record {
  frames = (
    take used all,
    front.frames,
    sym is ∙ sym (take-append-drop used all) ∙ ap (λ (xs : List ℕ). take used all ++ xs) (sym rest),
    passed ∙ ap (λ n. capped (old.passed + n)) (sym (length-take-le used all front.within)),
  );
  rest = subst (λ (xs : List ℕ). MeansFrame xs short) (sym rest) front.rest;
  wrong = wrong;
}

pub none_in : (xs : List ℕ) (b : Bool) → b ≡ (length xs == 0) → b ≡ true → xs ≡ []
none_in [] b e t = refl
none_in (x ∷ xs) b e t = absurd (omega (arith, eqb-true (length (x ∷ xs)) 0 (sym e ∙ t)))

-- no bytes complete nothing
pub takes_nothing : (old : Fed) (piece : List ℕ) → old.passed < 2 ^ 64 → MeansFrame old.rest short → old.wrong ≡ None → piece ≡ [] → Takes old old piece []
takes_nothing old piece small rest wrong none = record {
  frames = ([], record { each = tt; bytes = refl }, ap (λ (xs : List ℕ). old.rest ++ xs) none ∙ append_nil old.rest, omega (arith, small));
  rest = rest;
  wrong = wrong;
}

pub as_before : (held : ℕ) (old piece all : List ℕ) → held ≡ length old → all ≡ old ++ piece → take held all ≡ old
as_before held old piece all long is = rw (long, is) (take-append_seam old piece)

pub is_front : (bs : List ℕ) (ps : List Prim) (used : ℕ) → used ≤ length bs → SpellAll ps (take used bs) → MeansFrame (rest_of used bs) short → IsFront bs ps used
is_front bs ps used within s rest =
    record { within = within; frames = s; rest = subst (λ (xs : List ℕ). MeansFrame xs short) (rest_of-drop used bs) rest }

-- ---- over any pieces

AreFilled-both : (fs gs : List Filled) → AreFilled fs → AreFilled gs → AreFilled (fs ++ gs)
AreFilled-both [] gs a b = b
AreFilled-both (f ∷ fs) gs a b = (a.0, AreFilled-both fs gs a.1 b)

SpellAll-both : (ps qs : List Prim) (a b : List ℕ) → SpellAll ps a → SpellAll qs b → SpellAll (ps ++ qs) (a ++ b)
SpellAll-both ps qs a b s t = record {
  each = rw (map-append filled ps qs) (AreFilled-both (map filled ps) (map filled qs) s.each t.each);
  bytes = rw (s.bytes, t.bytes, map-append filled ps qs) (sym (spellings-append (map filled ps) (map filled qs)));
}

capped_twice : (a b c : ℕ) → c ≡ capped (capped a + b) → c ≡ capped (a + b)
capped_twice a b c e = omega (arith, e)

pub has_given : (fed : List ℕ) (ps : List Prim) (r : Fed) → HasRead fed ps r → HasGiven fed ps r
has_given _ _ _ nothing = record { frames = ([], record { each = tt; bytes = refl }, refl, refl); rest = nothing_short; wrong = refl }
has_given _ _ _ (one_more {fed} {ps} {old} h new piece qs f) =
    let before = has_given fed ps old h in
    let a : List ℕ = before.frames.0 in
    let b : List ℕ = f.1.frames.0 in
    record {
      frames = (
        a ++ b,
        SpellAll-both ps qs a b before.frames.1 f.1.frames.1,
        ap (λ (xs : List ℕ). xs ++ piece) before.frames.2 ∙ append_assoc a old.rest piece ∙ ap (λ (xs : List ℕ). a ++ xs) f.1.frames.2 ∙ sym (append_assoc a b new.rest),
        capped_twice (length a) (length b) new.passed (f.1.frames.3 ∙ ap (λ n. capped (n + length b)) before.frames.3) ∙ ap capped (sym (length-append a b)),
      );
      rest = f.1.rest;
      wrong = f.1.wrong;
    }

-- what goes wrong after frames goes wrong as a whole
wrong_behind : (front xs : List ℕ) (n : ℕ) → IsFrames front → GoesWrong xs n → GoesWrong (front ++ xs) (length front + n)
wrong_behind front xs n hf g = record {
  within = omega (arith, g.within, length-append front xs);
  first = record {
    within = omega (arith, g.within, length-append front xs);
    begins =
        let b = g.first.begins in
        (b.0, rw (take-append-add front xs n, append_assoc front (take n xs) b.0) (both_frames front (take n xs ++ b.0) hf b.1));
    wrong = λ lt b. g.first.wrong g.within (b.0, behind front (take (suc n) xs ++ b.0) hf (later b.0 b.1));
    cut = λ e i. absurd (omega (arith, e, g.within, length-append front xs));
  };
}
  where
    later : (rest : List ℕ) → IsFrames (take (suc (length front + n)) (front ++ xs) ++ rest) → IsFrames (front ++ (take (suc n) xs ++ rest))
    later rest i =
        let same : suc (length front + n) ≡ length front + suc n = omega arith in
        let cut : take (suc (length front + n)) (front ++ xs) ≡ front ++ take (suc n) xs = rw same (take-append-add front xs (suc n)) in
        subst IsFrames (rw cut (append_assoc front (take (suc n) xs) rest)) i

failed : (old new : Fed) (piece : List ℕ) (at : ℕ) → old.wrong ≡ None → Feeds old new piece (Err (Bad at)) → Fails old new piece at
failed old new piece at none f = subst (λ (o : Option ℕ). MatchOption o (Fails old new piece at) (λ place. (at ≡ place) × (new ≡ old))) none f

pub has_failed : (fed : List ℕ) (ps : List Prim) (old new : Fed) (piece : List ℕ) (at : ℕ) → HasRead fed ps old → Feeds old new piece (Err (Bad at))
    → (n : ℕ) × GoesWrong (fed ++ piece) n × (at ≡ capped n)
has_failed fed ps old new piece at h f =
    let given = has_given fed ps old h in
    let front : List ℕ = given.frames.0 in
    let spelled = given.frames.1 in
    let fail = failed old new piece at given.wrong f in
    let n : ℕ = fail.place.0 in (
      length front + n,
      subst (λ (xs : List ℕ). GoesWrong xs (length front + n)) (sym (append_assoc front old.rest piece) ∙ ap (λ (xs : List ℕ). xs ++ piece) (sym given.frames.2))
          (wrong_behind front (old.rest ++ piece) n (map filled ps, spelled.each, spelled.bytes) fail.place.1),
      capped_twice (length front) n at (fail.place.2 ∙ ap (λ k. capped (k + n)) given.frames.3),
    )
