-- Heads: where they end, and that the lines have but one.
use Rattle.std.proofs.Common.{◌≡◌, ℕ, ◌⊎◌, inl, inr, Bool, true, false, cond, List, [], ◌∷◌, ◌++◌, Option, Some, None, refl, sym, ap, subst, ◌∙◌, append_assoc}
use Rattle.std.specs.Prelude.{codes}
use Rattle.std.specs.List.{list_any}
use Rattle.std.specs.Str.{bytes_eq}
use Rattle.std.proofs.lemmas.Bool.{or_parts}
use Rattle.xti_model.specs.declared.script.Line.{Line}
use Rattle.xti_model.specs.declared.profile.Providers.{Providers}
use Rattle.xti_model.specs.declared.profile.Version.{Version}
use Rattle.xti_model.specs.declared.profile.Version.TheVariants.{One, Two}
use Rattle.xti_model.specs.Profile.{usual_of}
use Rattle.xti_head.specs.Head.{head_of}
use Rattle.xti_words.specs.Texts.{text_of, words_of}
use Rattle.xti_words.specs.Values.{number_in}
use Rattle.xti_script_reader.specs.Grammar.{first_line, AreLines, is_mark, calls_in, HasHead, HasNoHead}
use Rattle.xti_script_reader.specs.Reading.{to_mark, onto_parts, any_line_of}
use Rattle.xti_script_reader.proofs.CallLaws.{is_word, is_line}

abbrev pub mark : List ℕ
mark = codes "+++"

abbrev pub Parts : Type 0
Parts = List (List ℕ) × List (List ℕ)

-- ---- the first line

-- a text has one version by it
pub same_version : (v w : Version) (texts others : List (List ℕ)) → first_line v ∷ texts ≡ first_line w ∷ others → v ≡ w
same_version One One texts others e = refl
same_version Two Two texts others e = refl
same_version One Two texts others e =
    let same : first_line One ≡ first_line Two = cc in
    let never : true ≡ false = ap (λ (line : List ℕ). bytes_eq line (first_line One)) same in
    absurd cc
same_version Two One texts others e =
    let same : first_line Two ≡ first_line One = cc in
    let never : true ≡ false = ap (λ (line : List ℕ). bytes_eq line (first_line Two)) same in
    absurd cc

-- ---- the first mark

pub mark_at : (head rest : List (List ℕ)) → list_any is_mark head ≡ false → to_mark (head ++ mark ∷ rest) ≡ Some (head, rest)
mark_at [] rest never = refl
mark_at (text ∷ head) rest never =
    let n = or_parts (is_mark text) (list_any is_mark head) never in
    rw (n.0, mark_at head rest n.1) refl

pub record Marked (texts : List (List ℕ)) (parts : Parts) : Type 0 where
  pub split : texts ≡ parts.0 ++ mark ∷ parts.1
  pub next : list_any is_mark parts.0 ≡ false

later_mark : (text : List ℕ) (texts : List (List ℕ)) (o : Option Parts) (parts : Parts) → is_mark text ≡ false → ((p : Parts) → o ≡ Some p → Marked texts p) → onto_parts text o ≡ Some parts → Marked (text ∷ texts) parts
later_mark text texts None parts never later e = absurd cc
later_mark text texts (Some p) parts never later e =
    let m = later p refl in
    let same : (text ∷ p.0, p.1) ≡ parts = cc in
    subst (Marked (text ∷ texts)) same (record { split = ap (λ (ts : List (List ℕ)). text ∷ ts) m.split; next = rw never m.next })

by_test : (text : List ℕ) (texts : List (List ℕ)) (b : Bool) (parts : Parts) → is_mark text ≡ b → ((p : Parts) → to_mark texts ≡ Some p → Marked texts p) → cond b (Some ([], texts)) (onto_parts text (to_mark texts)) ≡ Some parts → Marked (text ∷ texts) parts
by_test text texts true parts t later e =
    let same : ([], texts) ≡ parts = cc in
    let is : text ≡ mark = is_word text mark t in
    subst (Marked (text ∷ texts)) same (record { split = ap (λ (x : List ℕ). x ∷ texts) is; next = refl })
by_test text texts false parts t later e = later_mark text texts (to_mark texts) parts t later e

pub marked : (texts : List (List ℕ)) (parts : Parts) → to_mark texts ≡ Some parts → Marked texts parts
marked [] parts e = absurd cc
marked (text ∷ texts) parts e = by_test text texts (is_mark text) parts refl (λ p. marked texts p) e

-- ---- the lines after the first, with a head or without

-- the first line isn't a mark
abbrev pub IsUnmarked : List (List ℕ) → Type 0
IsUnmarked texts = (more : List (List ℕ)) → texts ≡ mark ∷ more → ⊥

-- a head, or no mark
abbrev pub Opens : Providers → List (List ℕ) → List (List ℕ) → Type 0
Opens p texts rest = HasHead p texts rest ⊎ (HasNoHead p texts rest × IsUnmarked texts)

pub tails : (x y : List ℕ) (xs ys : List (List ℕ)) → x ∷ xs ≡ y ∷ ys → xs ≡ ys
tails x y xs ys e = cc

given : (x y : Providers) → Some x ≡ Some y → x ≡ y
given x y e = cc

pair : (x y : Parts) → Some x ≡ Some y → x ≡ y
pair x y e = cc

pub head_after : (p : Providers) (texts rest : List (List ℕ)) → HasHead p (mark ∷ texts) rest → (head : List (List ℕ)) × (to_mark texts ≡ Some (head, rest)) × (head_of p.version (text_of head) ≡ Some p)
head_after p texts rest h = (h.head, ap to_mark (tails mark mark texts (h.head ++ mark ∷ rest) h.split) ∙ mark_at h.head rest h.next, h.gives)

two_heads : (p q : Providers) (texts rest other : List (List ℕ)) → p.version ≡ q.version → HasHead p texts rest → HasHead q texts other → (p ≡ q) × (rest ≡ other)
two_heads p q texts rest other v h k =
    let same : h.head ++ mark ∷ rest ≡ k.head ++ mark ∷ other = tails mark mark _ _ (sym h.split ∙ k.split) in
    let e = pair _ _ (sym (mark_at h.head rest h.next) ∙ ap to_mark same ∙ mark_at k.head other k.next) in
    let head : h.head ≡ k.head = ap (λ (x : Parts). x.0) e in
    (given p q (sym h.gives ∙ ap (λ (w : Version). head_of w (text_of h.head)) v ∙ ap (λ (ts : List (List ℕ)). head_of q.version (text_of ts)) head ∙ k.gives), ap (λ (x : Parts). x.1) e)

pub one_head : (p q : Providers) (texts rest other : List (List ℕ)) → p.version ≡ q.version → Opens p texts rest → Opens q texts other → (p ≡ q) × (rest ≡ other)
one_head p q texts rest other v (inl h) (inl k) = two_heads p q texts rest other v h k
one_head p q texts rest other v (inl h) (inr k) = absurd (k.1 _ h.split)
one_head p q texts rest other v (inr h) (inl k) = absurd (h.1 _ k.split)
one_head p q texts rest other v (inr h) (inr k) = (h.0.0 ∙ ap usual_of v ∙ sym k.0.0, sym h.0.1 ∙ k.0.1)

-- a mark is no line
no_line : (version : Version) → any_line_of version [] (words_of mark) ≡ None
unfolding any_line_of number_in
no_line version = refl

pub unmarked : (version : Version) (lines : List Line) (texts : List (List ℕ)) → AreLines version [] lines (calls_in texts) → IsUnmarked texts
unmarked version lines texts good more e = by_lines lines (subst (λ (ts : List (List ℕ)). AreLines version [] lines (calls_in ts)) e good)
  where
    by_lines : (lines : List Line) → AreLines version [] lines (mark ∷ calls_in more) → ⊥
    by_lines [] g = g
    by_lines (line ∷ lines) g = let never = sym (no_line version) ∙ is_line version [] mark line g.0 in cc

pub opens : (p : Providers) (lines : List Line) (texts rest : List (List ℕ)) → HasHead p texts rest ⊎ HasNoHead p texts rest → AreLines p.version [] lines (calls_in rest) → Opens p texts rest
opens p lines texts rest (inl h) good = inl h
opens p lines texts rest (inr h) good = inr (h, rw h.1 (unmarked p.version lines rest good))

-- ---- the same head before other lines

pub record Before (p : Providers) (texts rest : List (List ℕ)) : Type 0 where
  pub head : List (List ℕ)
  pub parts : texts ≡ head ++ rest
  pub again : (other : List (List ℕ)) → HasHead p (head ++ other) other ⊎ HasNoHead p (head ++ other) other
  pub opens_again : (other : List (List ℕ)) → (IsUnmarked rest → IsUnmarked other) → Opens p (head ++ other) other

pub before : (p : Providers) (texts rest : List (List ℕ)) → Opens p texts rest → Before p texts rest
before p texts rest (inl h) = record {
  head = mark ∷ (h.head ++ mark ∷ []);
  parts = h.split ∙ sym (grouped rest);
  again = λ other. inl (headed other);
  opens_again = λ other never. inl (headed other);
}
  where
    grouped : (other : List (List ℕ)) → (mark ∷ (h.head ++ mark ∷ [])) ++ other ≡ mark ∷ (h.head ++ mark ∷ other)
    grouped other = ap (λ (ts : List (List ℕ)). mark ∷ ts) (append_assoc h.head (mark ∷ []) other)

    headed : (other : List (List ℕ)) → HasHead p ((mark ∷ (h.head ++ mark ∷ [])) ++ other) other
    headed other = record { head = h.head; split = grouped other; next = h.next; gives = h.gives }
before p texts rest (inr h) = record {
  head = [];
  parts = h.0.1;
  again = λ other. inr (h.0.0, refl);
  opens_again = λ other never. inr ((h.0.0, refl), never (rw h.0.1 at h.1));
}

-- what begins with the same lines
pub unmarked_too : (front : List (List ℕ)) (text : List ℕ) (back other : List (List ℕ)) → IsUnmarked (front ++ text ∷ back) → IsUnmarked (front ++ text ∷ other)
unmarked_too [] text back other never more e = let is : text ≡ mark = cc in never back (ap (λ (x : List ℕ). x ∷ back) is)
unmarked_too (first ∷ front) text back other never more e = let is : first ≡ mark = cc in never (front ++ text ∷ back) (ap (λ (x : List ℕ). x ∷ (front ++ text ∷ back)) is)
