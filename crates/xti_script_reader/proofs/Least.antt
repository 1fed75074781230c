-- A line that is refused is the first by which no script goes on.
use Rattle.std.proofs.Common.{◌≡◌, ℕ, suc, ◌+◌, ◌<◌, ◌≤◌, ◌⊎◌, inl, inr, false, List, [], ◌∷◌, ◌++◌, length, map, take, Some, None, refl, sym, ap, subst, ◌∙◌, append_assoc, arith}
use Rattle.std.proofs.lemmas.List.{length-append}
use Rattle.xti_model.specs.declared.profile.Providers.{Providers}
use Rattle.xti_model.specs.declared.script.Line.{Line}
use Rattle.xti_model.specs.Profile.{usual}
use Rattle.xti_model.specs.declared.profile.Version.{Version}
use Rattle.xti_model.specs.declared.profile.Version.TheVariants.{One}
use Rattle.xti_words.specs.Texts.{lines_of, words_of}
use Rattle.xti_script_reader.specs.declared.script_text.ScriptFail.{ScriptFail}
use Rattle.xti_script_reader.specs.declared.script_text.ScriptFail.TheVariants as fail
use Rattle.xti_script_reader.specs.Grammar.{first_line, AreLines, HasHead, HasForm, IsSmall, IsScript, calls_in}
use Rattle.xti_script_reader.specs.Refused.{some, ended_lines, CanBegin, HasWrongHead, IsWrongAt}
use Rattle.xti_script_reader.specs.Read.{IsBad}
use Rattle.xti_script_reader.specs.Reading.{any_line_of, has_room}
use Rattle.xti_script_reader.proofs.CallLaws.{line_is}
use Rattle.xti_script_reader.proofs.FirstLines.{begins, goes_on}
use Rattle.xti_script_reader.proofs.Heads.{mark, same_version, tails, Opens, IsUnmarked, Before, before, one_head, opens, unmarked_too}
use Rattle.xti_script_reader.proofs.LineLaws.{Stop, Next, next, too_many, calls_around, lines_append}

-- ---- texts whose first line is wrong

abbrev weaker : (text : List ℕ) (n : ℕ) → CanBegin IsScript text n → CanBegin HasForm text n
weaker text n can = record { script = can.script; other = can.other; has_form = can.has_form.form; same = can.same }

abbrev pub IsNoStart : List ℕ → Type 0
IsNoStart text = (version : Version) (texts : List (List ℕ)) → lines_of text ≡ first_line version ∷ texts → ⊥

no_start : (text : List ℕ) → IsNoStart text → CanBegin HasForm text 1 → ⊥
no_start text never can =
    let here : take 1 (ended_lines can.other) ≡ Some first ∷ [] = ap (λ (ls : List (List ℕ)). take 1 (map some ls ++ None ∷ [])) can.has_form.first in
    by_lines (lines_of text) refl (sym here ∙ can.same)
  where
    version : Version
    version = can.script.providers.version

    first : List ℕ
    first = first_line version

    by_lines : (ls : List (List ℕ)) → lines_of text ≡ ls → Some first ∷ [] ≡ take 1 (map some ls ++ None ∷ []) → ⊥
    by_lines [] p q = cc
    by_lines (l ∷ ls) p q = let h : first ≡ l = cc in never version ls (p ∙ ap (λ (x : List ℕ). x ∷ ls) (sym h))

nothing_first : (text : List ℕ) (m : ℕ) → m < 1 → CanBegin IsScript text m
nothing_first text m lt =
    let z : m ≡ 0 = omega arith in
    record {
      script = record { providers = usual; lines = [] };
      other = first_line One;
      has_form = record {
        form = record { texts = []; rest = []; first = refl; head = inr (refl, refl); lines = tt };
        small = record { few_lines = omega arith; few_bytes = omega arith };
      };
      same = rw z refl;
    }

no_head : (text : List ℕ) → IsNoStart text → HasWrongHead text → ⊥
no_head text never h = never _ _ h.begins

-- the first line that is wrong, whatever the limits, is the first by which the text is no script
wrong_there : (text : List ℕ) (n : ℕ) → (HasWrongHead text → ⊥) → (CanBegin HasForm text n → ⊥) → ((m : ℕ) → m < n → CanBegin IsScript text m) → IsBad text (fail.Bad n)
wrong_there text n head never can =
    (inr (head, record { refused = λ c. never (weaker text n c); least = can }), inr (head, record { refused = never; least = λ m lt. weaker text m (can m lt) }))

pub bad_start : (text : List ℕ) → IsNoStart text → IsBad text (fail.Bad 1)
bad_start text never = wrong_there text 1 (no_head text never) (no_start text never) (nothing_first text)

pub bad_head : (text : List ℕ) → HasWrongHead text → IsBad text (fail.Bad 2)
bad_head text h = (inl (h, refl), inl (h, refl))

-- ---- texts that are refused later

-- the first line, and a head or none
pub record Opened (text : List ℕ) : Type 0 where
  pub p : Providers
  pub texts : List (List ℕ)
  pub rest : List (List ℕ)
  pub number : ℕ
  pub first : lines_of text ≡ first_line p.version ∷ texts
  pub opened : Opens p texts rest
  pub place : number + length rest ≡ 2 + length texts

opened_well : (text : List ℕ) (o : Opened text) → HasWrongHead text → ⊥
opened_well text o h =
    let e : first_line o.p.version ∷ o.texts ≡ first_line h.version ∷ (mark ∷ h.texts) = sym o.first ∙ h.begins in
    by_opening (same_version o.p.version h.version o.texts (mark ∷ h.texts) e) o.opened (tails _ _ o.texts (mark ∷ h.texts) e)
  where
    by_opening : o.p.version ≡ h.version → Opens o.p o.texts o.rest → o.texts ≡ mark ∷ h.texts → ⊥
    by_opening v (inl k) e = h.wrong o.p o.rest v (subst (λ (ts : List (List ℕ)). HasHead o.p ts o.rest) e k)
    by_opening v (inr k) e = k.1 h.texts e

-- where the lines stop
record Place (text : List ℕ) (o : Opened text) (e : ScriptFail) (s : Stop o.p.version o.number [] o.rest e) : Type 0 where
  b : Before o.p o.texts o.rest
  front : List (List ℕ)
  is : front ≡ first_line o.p.version ∷ (b.head ++ s.front)
  parts : lines_of text ≡ front ++ s.text ∷ s.back
  count : o.number + length s.front ≡ suc (length front)

place_of : (text : List ℕ) (o : Opened text) (e : ScriptFail) (s : Stop o.p.version o.number [] o.rest e) → Place text o e s
place_of text o e s =
    let b = before o.p o.texts o.rest o.opened in
    let whole : o.texts ≡ (b.head ++ s.front) ++ s.text ∷ s.back = b.parts ∙ ap (λ (ts : List (List ℕ)). b.head ++ ts) s.parts ∙ sym (append_assoc b.head s.front (s.text ∷ s.back)) in
    let size : length o.texts ≡ length b.head + length o.rest = ap length b.parts ∙ length-append b.head o.rest in
    let both : length (b.head ++ s.front) ≡ length b.head + length s.front = length-append b.head s.front in
    let at = o.place in
    record {
      b = b;
      front = first_line o.p.version ∷ (b.head ++ s.front);
      is = refl;
      parts = o.first ∙ ap (λ (ts : List (List ℕ)). first_line o.p.version ∷ ts) whole;
      count = omega arith;
    }

-- the lines that were read begin a script
can_begin : (text : List ℕ) (o : Opened text) (e : ScriptFail) (s : Stop o.p.version o.number [] o.rest e) (m : ℕ) → m < o.number + length s.front → CanBegin IsScript text m
can_begin text o e s m lt =
    let at = place_of text o e s in
    let le : m ≤ length at.front = omega (arith, at.count) in
    begins IsScript text at.front (s.text ∷ s.back) (record { providers = o.p; lines = s.lines }) m at.parts (λ other same. record {
      form = record { texts = at.b.head ++ s.front; rest = s.front; first = same ∙ at.is; head = at.b.again s.front; lines = s.good };
      small = s.small;
    }) le

-- a text with the same first lines has the next one too
next_line : (text : List ℕ) (o : Opened text) (e : ScriptFail) (s : Stop o.p.version o.number [] o.rest e) (can : CanBegin HasForm text (o.number + length s.front)) → Next o.p.version [] s.lines can.script.lines s.text
next_line text o e s can =
    let at = place_of text o e s in
    let g = goes_on text can.other at.front s.text s.back (o.number + length s.front) at.parts at.count can.same in
    let h = can.has_form in
    let rest : List (List ℕ) = s.front ++ s.text ∷ g.0 in
    let all : first_line can.script.providers.version ∷ h.texts ≡ first_line o.p.version ∷ ((at.b.head ++ s.front) ++ s.text ∷ g.0) = sym h.first ∙ g.1 ∙ ap (λ (ts : List (List ℕ)). ts ++ s.text ∷ g.0) at.is in
    let version : can.script.providers.version ≡ o.p.version = same_version _ _ _ _ all in
    let texts : h.texts ≡ at.b.head ++ rest = tails _ _ _ _ all ∙ append_assoc at.b.head s.front (s.text ∷ g.0) in
    let theirs : Opens can.script.providers h.texts h.rest = opens can.script.providers can.script.lines h.texts h.rest h.head h.lines in
    let ours : Opens o.p h.texts rest = subst (λ (ts : List (List ℕ)). Opens o.p ts rest) (sym texts) (at.b.opens_again rest (λ never. unmarked_too s.front s.text s.back g.0 (subst IsUnmarked s.parts never))) in
    let same : h.rest ≡ rest = (one_head can.script.providers o.p h.texts h.rest rest version theirs ours).1 in
    let read : AreLines o.p.version [] can.script.lines (calls_in h.rest) = subst (λ (v : Version). AreLines v [] can.script.lines (calls_in h.rest)) version h.lines in
    let lines : AreLines o.p.version [] can.script.lines (calls_in s.front ++ s.text ∷ calls_in g.0) = subst (λ (ts : List (List ℕ)). AreLines o.p.version [] can.script.lines ts) (ap calls_in same ∙ calls_around s.front s.text g.0 s.call) read in
    next o.p.version [] s.lines can.script.lines (calls_in s.front) s.text (calls_in g.0) s.good lines

-- a text with a call more
with_call : (text : List ℕ) (o : Opened text) (e : ScriptFail) (s : Stop o.p.version o.number [] o.rest e) (line : Line) → any_line_of o.p.version ([] ++ s.lines) (words_of s.text) ≡ Some line → CanBegin HasForm text (o.number + length s.front)
with_call text o e s line is =
    let at = place_of text o e s in
    let front : List (List ℕ) = at.front ++ s.text ∷ [] in
    let parts : lines_of text ≡ front ++ s.back = at.parts ∙ sym (append_assoc at.front (s.text ∷ []) s.back) in
    let size : length front ≡ length at.front + 1 = length-append at.front (s.text ∷ []) in
    let lines : AreLines o.p.version [] (s.lines ++ line ∷ []) (calls_in (s.front ++ s.text ∷ [])) = subst (λ (ts : List (List ℕ)). AreLines o.p.version [] (s.lines ++ line ∷ []) ts) (sym (calls_around s.front s.text [] s.call)) (lines_append o.p.version [] s.lines (line ∷ []) (calls_in s.front) (s.text ∷ []) s.good (line_is o.p.version ([] ++ s.lines) s.text line is, tt)) in
    let le : o.number + length s.front ≤ length front = omega (arith, at.count) in
    begins HasForm text front s.back (record { providers = o.p; lines = s.lines ++ line ∷ [] }) (o.number + length s.front) parts (λ other same. record {
      texts = at.b.head ++ (s.front ++ s.text ∷ []);
      rest = s.front ++ s.text ∷ [];
      first = same ∙ ap (λ (ts : List (List ℕ)). ts ++ s.text ∷ []) at.is ∙ ap (λ (ts : List (List ℕ)). first_line o.p.version ∷ ts) (append_assoc at.b.head s.front (s.text ∷ []));
      head = at.b.again (s.front ++ s.text ∷ []);
      lines = lines;
    }) le

-- a line for which there is no room
full_there : (text : List ℕ) (o : Opened text) (e : ScriptFail) (s : Stop o.p.version o.number [] o.rest e) (line : Line) → any_line_of o.p.version ([] ++ s.lines) (words_of s.text) ≡ Some line → has_room ([] ++ s.lines) line ≡ false → IsBad text (fail.TooMany (o.number + length s.front))
full_there text o e s line is none = (inr (opened_well text o, record { refused = full; least = can_begin text o e s }), not_wrong)
  where
    full : CanBegin IsScript text (o.number + length s.front) → ⊥
    full can =
        let n = next_line text o e s (weaker text (o.number + length s.front) can) in
        let same : n.line ≡ line = let q = sym n.is ∙ is in cc in
        too_many s.lines n.more line none (subst (λ (l : Line). IsSmall (s.lines ++ l ∷ n.more)) same (subst IsSmall n.same can.has_form.small))

    not_wrong : IsWrongAt text (o.number + length s.front) → ⊥
    not_wrong (inl h) = opened_well text o h.0
    not_wrong (inr h) = h.1.refused (with_call text o e s line is)

-- a script that is read up to a line
pub stopped : (text : List ℕ) (o : Opened text) (e : ScriptFail) (s : Stop o.p.version o.number [] o.rest e) → IsBad text e
stopped text o e s = by_why s.why
  where
    by_why : ((e ≡ fail.Bad (o.number + length s.front)) × (any_line_of o.p.version ([] ++ s.lines) (words_of s.text) ≡ None)) ⊎ ((line : Line) × (e ≡ fail.TooMany (o.number + length s.front)) × (any_line_of o.p.version ([] ++ s.lines) (words_of s.text) ≡ Some line) × (has_room ([] ++ s.lines) line ≡ false))
        → IsBad text e
    by_why (inl w) = rw w.0 (wrong_there text (o.number + length s.front) (opened_well text o) (λ can. let q = sym (next_line text o e s can).is ∙ w.1 in cc) (can_begin text o e s))
    by_why (inr w) = rw w.1 (full_there text o e s w.0 w.2 w.3)
