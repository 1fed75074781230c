-- How a text opens, as reading sees it.
use Rattle.std.proofs.Common.{◌≡◌, ℕ, suc, ◌+◌, inl, inr, Bool, true, false, cond, List, [], ◌∷◌, length, Option, Some, None, Result, Err, refl, sym, ap, subst, ◌∙◌, arith}
use Rattle.std.specs.Str.{bytes_eq}
use Rattle.std.proofs.lemmas.List.{length-append}
use Rattle.xti_model.specs.declared.profile.Providers.{Providers}
use Rattle.xti_model.specs.declared.script.Script.{Script}
use Rattle.xti_model.specs.Profile.{usual_of}
use Rattle.xti_model.specs.declared.profile.Version.{Version}
use Rattle.xti_model.specs.declared.profile.Version.TheVariants.{One, Two}
use Rattle.xti_head.specs.Head.{head_of}
use Rattle.xti_head.proofs.Releases.{head_told}
use Rattle.xti_words.specs.Texts.{lines_of, text_of}
use Rattle.xti_script_reader.specs.declared.script_text.ScriptFail.{ScriptFail}
use Rattle.xti_script_reader.specs.declared.script_text.ScriptFail.TheVariants as fail
use Rattle.xti_script_reader.specs.Grammar.{first_line, is_mark}
use Rattle.xti_script_reader.specs.Refused.{HasWrongHead}
use Rattle.xti_script_reader.specs.Reading.{to_mark, script_from, with_head, by_head, body_of, version_of, by_version, all_of}
use Rattle.xti_script_reader.proofs.CallLaws.{is_word}
use Rattle.xti_script_reader.proofs.Heads.{mark, Parts, marked, head_after}
use Rattle.xti_script_reader.proofs.Least.{IsNoStart, Opened}

abbrev Read : Type 0
Read = Result Script ScriptFail

pub data Seen (text : List ℕ) : Type 0 where
  no_start : IsNoStart text → all_of (lines_of text) ≡ Err (fail.Bad 1) → Seen text
  wrong_head : HasWrongHead text → all_of (lines_of text) ≡ Err (fail.Bad 2) → Seen text
  opened : (o : Opened text) → all_of (lines_of text) ≡ script_from o.number o.p o.rest → Seen text

-- a head that gives nothing
no_gift : (text : List ℕ) (version : Version) (texts : List (List ℕ)) (parts : Parts) → lines_of text ≡ first_line version ∷ mark ∷ texts → to_mark texts ≡ Some parts → head_of version (text_of parts.0) ≡ None → HasWrongHead text
no_gift text version texts parts begins m g = record {
  version = version;
  texts = texts;
  begins = begins;
  wrong = λ p rest v h. let a = head_after p texts rest h in
      let same : Some parts ≡ Some (a.0, rest) = sym m ∙ a.1 in
      let head : parts.0 ≡ a.0 = let q : parts ≡ (a.0, rest) = cc in ap (λ (x : Parts). x.0) q in
      let never : None ≡ Some p = sym g ∙ ap (λ (ts : List (List ℕ)). head_of version (text_of ts)) head ∙ ap (λ (w : Version). head_of w (text_of a.0)) (sym v) ∙ a.2 in
      cc;
}

by_given : (text : List ℕ) (version : Version) (texts : List (List ℕ)) (parts : Parts) (o : Option Providers) → lines_of text ≡ first_line version ∷ mark ∷ texts → to_mark texts ≡ Some parts → head_of version (text_of parts.0) ≡ o
    → all_of (lines_of text) ≡ with_head (4 + length parts.0) parts.1 o → Seen text
by_given text version texts parts None begins m g read = wrong_head (no_gift text version texts parts begins m g) read
by_given text version texts parts (Some p) begins m g read =
    let v : version ≡ p.version = sym (head_told version (text_of parts.0) p g).same in
    let w = marked texts parts m in
    let size : length texts ≡ length parts.0 + suc (length parts.1) = ap length w.split ∙ length-append parts.0 (mark ∷ parts.1) in
    opened (record {
      p = p;
      texts = mark ∷ texts;
      rest = parts.1;
      number = 4 + length parts.0;
      first = subst (λ (x : Version). lines_of text ≡ first_line x ∷ mark ∷ texts) v begins;
      opened = inl (record {
        head = parts.0;
        split = ap (λ (ts : List (List ℕ)). mark ∷ ts) w.split;
        next = w.next;
        gives = subst (λ (x : Version). head_of x (text_of parts.0) ≡ Some p) v g;
      });
      place = omega arith;
    }) read

by_parts : (text : List ℕ) (version : Version) (texts : List (List ℕ)) (o : Option Parts) → lines_of text ≡ first_line version ∷ mark ∷ texts → to_mark texts ≡ o → all_of (lines_of text) ≡ by_head version o → Seen text
by_parts text version texts None begins m read = wrong_head (record {
  version = version;
  texts = texts;
  begins = begins;
  wrong = λ p rest v h. let a = head_after p texts rest h in let never = sym m ∙ a.1 in cc;
}) read
by_parts text version texts (Some parts) begins m read = by_given text version texts parts (head_of version (text_of parts.0)) begins m refl read

by_mark : (text : List ℕ) (version : Version) (second : List ℕ) (texts : List (List ℕ)) (b : Bool) → lines_of text ≡ first_line version ∷ second ∷ texts → is_mark second ≡ b → all_of (lines_of text) ≡ body_of version (second ∷ texts) → Seen text
unfolding body_of
by_mark text version second texts true first t read =
    let is : second ≡ mark = is_word second mark t in
    by_parts text version texts (to_mark texts) (first ∙ ap (λ (x : List ℕ). first_line version ∷ x ∷ texts) is) refl (rw t at read)
by_mark text version second texts false first t read = opened (record {
  p = usual_of version;
  texts = second ∷ texts;
  rest = second ∷ texts;
  number = 2;
  first = first;
  opened = inr ((refl, refl), λ more e. let is : second ≡ mark = cc in let yes : is_mark second ≡ true = rw is refl in let never = sym yes ∙ t in cc);
  place = refl;
}) (rw t at read)

by_body : (text : List ℕ) (version : Version) (texts : List (List ℕ)) → lines_of text ≡ first_line version ∷ texts → all_of (lines_of text) ≡ body_of version texts → Seen text
unfolding body_of
by_body text version [] first read = opened (record { p = usual_of version; texts = []; rest = []; number = 2; first = first; opened = inr ((refl, refl), λ more e. cc); place = refl }) read
by_body text version (second ∷ texts) first read = by_mark text version second texts (is_mark second) first refl read

-- ---- the first line

is_first : (version : Version) → version_of (first_line version) ≡ Some version
unfolding version_of
is_first One = refl
is_first Two = refl

first_is : (line : List ℕ) (version : Version) → version_of line ≡ Some version → line ≡ first_line version
unfolding version_of
first_is line version e = by_one (bytes_eq line (first_line One)) (bytes_eq line (first_line Two)) refl refl e
  where
    by_one : (a b : Bool) → bytes_eq line (first_line One) ≡ a → bytes_eq line (first_line Two) ≡ b → cond a (Some One) (cond b (Some Two) None) ≡ Some version → line ≡ first_line version
    by_one true b s t k = let v : One ≡ version = cc in is_word line (first_line One) s ∙ ap first_line v
    by_one false true s t k = let v : Two ≡ version = cc in is_word line (first_line Two) t ∙ ap first_line v
    by_one false false s t k = absurd cc

by_first : (text first : List ℕ) (texts : List (List ℕ)) (o : Option Version) → lines_of text ≡ first ∷ texts → version_of first ≡ o → Seen text
unfolding all_of
by_first text first texts (Some version) e t = by_body text version texts (e ∙ ap (λ (x : List ℕ). x ∷ texts) (first_is first version t)) (rw (e, t) refl)
by_first text first texts None e t = no_start (λ version ts p.
    let h : first ≡ first_line version = let q = sym e ∙ p in cc in
    let u : version_of first ≡ Some version = ap version_of h ∙ is_first version in
    let v : None ≡ Some version = sym t ∙ u in
    cc) (rw (e, t) refl)

by_lines : (text : List ℕ) (ls : List (List ℕ)) → lines_of text ≡ ls → Seen text
unfolding all_of
by_lines text [] e = no_start (λ version ts p. let q = sym e ∙ p in cc) (rw e refl)
by_lines text (first ∷ texts) e = by_first text first texts (version_of first) e refl

pub seen : (text : List ℕ) → Seen text
seen text = by_lines text (lines_of text) refl
