-- A script has its canonical text, where the texts of its values are read as these, and so where it has a text.
use Rattle.std.proofs.Common.{◌≡◌, refl, sym, ap, subst, ◌∙◌, ℕ, ◌≤◌, ◌⊎◌, inl, inr, Bool, true, false, cond, not, eqb, List, [], ◌∷◌, ◌++◌, append-nil, append_assoc, codes, arith, ne_eqb}
use Rattle.std.specs.Prelude.{flat_map, filter}
use Rattle.std.specs.List.{onto_first}
use Rattle.std.proofs.lemmas.List.Elements.{All-nil, All-cons}
use Rattle.xti_base.specs.declared.limits.TheConstants.{LAST_WORKER}
use Rattle.xti_model.specs.declared.profile.Version.{Version}
use Rattle.xti_model.specs.declared.script.Line.{Line}
use Rattle.xti_model.specs.declared.script.Script.{Script}
use Rattle.xti_model.specs.Profile.{usual_of}
use Rattle.xti_model.specs.declared.profile.Version.TheVariants.{One, Two}
use Rattle.xti_words.specs.Texts.{lines_of, is_digit}
use Rattle.xti_script_reader.specs.Grammar.{first_line, AreLines, HasHead, HasNoHead, IsSmall, IsScript, HasText, is_passed, calls_in}
use Rattle.xti_script.specs.Canonical.{call_text, line_text, script_text}
use Rattle.xti_script.proofs.Numbers.{Lacks, number_begins, digit_bounds}
use Rattle.xti_script.proofs.Pieces.{AllLack, lacks_by, line_first}
use Rattle.xti_script.proofs.Lines.{LineReads, bare_line, line_is, line_written, line_read}

-- ---- what is written

abbrev bare_lines : List Line → List (List ℕ)
bare_lines [] = []
bare_lines (line ∷ lines) = bare_line line ∷ bare_lines lines

-- the texts of the values of each of these lines, one after the other
abbrev pub LinesRead : Version → List Line → List Line → Type 0
LinesRead version earlier [] = Unit {0}
LinesRead version earlier (line ∷ lines) = LineReads version earlier line × LinesRead version (earlier ++ line ∷ []) lines

pub both_read : (version : Version) (earlier lines others : List Line) → LinesRead version earlier lines → LinesRead version (earlier ++ lines) others → LinesRead version earlier (lines ++ others)
both_read version earlier [] others h i = subst (λ e. LinesRead version e others) (append-nil earlier) i
both_read version earlier (line ∷ lines) others h i =
    (h.0, both_read version (earlier ++ line ∷ []) lines others h.1 (subst (λ e. LinesRead version e others) (sym (append_assoc earlier (line ∷ []) lines)) i))

lines_written : (version : Version) (earlier lines : List Line) → LinesRead version earlier lines → AreLines version earlier lines (bare_lines lines) × AllLack 10 (bare_lines lines)
lines_written version earlier [] h = (tt, tt)
lines_written version earlier (line ∷ lines) h =
    let one = line_written version earlier line h.0 in
    let others = lines_written version (earlier ++ line ∷ []) lines h.1 in
    ((one.is_line, others.0), (one.endless, others.1))

text_lines : (lines : List Line) → AllLack 10 (bare_lines lines) → lines_of (flat_map line_text lines) ≡ bare_lines lines
text_lines [] h = refl
text_lines (line ∷ lines) h =
    ap lines_of (line_is line (flat_map line_text lines)) ∙ line_first (bare_line line) (flat_map line_text lines) h.0
    ∙ ap (λ ls. bare_line line ∷ ls) (text_lines lines h.1)

-- a line begins with a digit: it is not passed over
kept_digit : (c : ℕ) (cs text : List ℕ) → text ≡ c ∷ cs → is_digit c ≡ true → is_passed text ≡ false
kept_digit c cs text e h =
    let bounds = digit_bounds c h in
    let other : eqb c 35 ≡ false = ne_eqb c 35 (λ e. omega (arith, bounds.0, e)) in
    ap is_passed e ∙ rw other refl

line_kept : (line : Line) → line.worker ≤ LAST_WORKER → is_passed (bare_line line) ≡ false
line_kept line h =
    let b = number_begins line.worker (omega (arith, h)) in
    kept_digit b.0 (b.1 ++ codes " " ++ call_text line.call) (bare_line line) (ap (λ ds. ds ++ codes " " ++ call_text line.call) b.2) b.3

lines_kept : (version : Version) (earlier lines : List Line) → LinesRead version earlier lines → calls_in (bare_lines lines) ≡ bare_lines lines
lines_kept version earlier [] h = refl
lines_kept version earlier (line ∷ lines) h =
    let kept : is_passed (bare_line line) ≡ false = line_kept line h.0.is_worker in
    rw kept (ap (λ ls. bare_line line ∷ ls) (lines_kept version (earlier ++ line ∷ []) lines h.1))

first_lacks : (version : Version) → Lacks 10 (first_line version)
first_lacks One = lacks_by 10 (first_line One) refl
first_lacks Two = lacks_by 10 (first_line Two) refl

-- a script whose values' texts are read as these is the script of its canonical text
pub script_written : (s : Script) → s.providers ≡ usual_of s.providers.version → LinesRead s.providers.version [] s.lines → IsSmall s.lines → IsScript s (script_text s)
unfolding script_text
script_written s u h small =
    let version = s.providers.version in
    let whole = lines_written version [] s.lines h in
    let first : lines_of (script_text s) ≡ first_line version ∷ bare_lines s.lines =
    ap lines_of (append_assoc (first_line version) (codes "\n") (flat_map line_text s.lines))
    ∙ line_first (first_line version) (flat_map line_text s.lines) (first_lacks version)
    ∙ ap (λ ls. first_line version ∷ ls) (text_lines s.lines whole.1) in
    record {
      form = record {
        texts = bare_lines s.lines;
        rest = bare_lines s.lines;
        first = first;
        head = inr (u, refl);
        lines = subst (AreLines version [] s.lines) (sym (lines_kept version [] s.lines h)) whole.0;
      };
      small = small;
    }

-- ---- what was read

lines_lack : (text : List ℕ) → AllLack 10 (lines_of text)
lines_lack [] = tt
lines_lack (c ∷ text) = cut (eqb c 10) refl (lines_of text) (lines_lack text)
  where
    p : ℕ → Type 0
    p d = eqb d 10 ≡ false

    begun : eqb c 10 ≡ false → (lines : List (List ℕ)) → AllLack 10 lines → AllLack 10 (onto_first c lines)
    begun e [] k = (All-cons p c [] e (All-nil p), tt)
    begun e (line ∷ lines) k = (All-cons p c line e k.0, k.1)

    cut : (b : Bool) → eqb c 10 ≡ b → (lines : List (List ℕ)) → AllLack 10 lines → AllLack 10 (cond b ([] ∷ lines) (onto_first c lines))
    cut true e lines k = (All-nil p, k)
    cut false e lines k = begun e lines k

lack_after : (byte : ℕ) (xs ys : List (List ℕ)) → AllLack byte (xs ++ ys) → AllLack byte ys
lack_after byte [] ys h = h
lack_after byte (x ∷ xs) ys h = lack_after byte xs ys h.1

lack_chosen : (byte : ℕ) (p : List ℕ → Bool) (xs : List (List ℕ)) → AllLack byte xs → AllLack byte (filter p xs)
lack_chosen byte p [] h = tt
lack_chosen byte p (x ∷ xs) h = go (p x) (lack_chosen byte p xs h.1)
  where
    go : (b : Bool) → AllLack byte (filter p xs) → AllLack byte (cond b (x ∷ filter p xs) (filter p xs))
    go true k = (h.0, k)
    go false k = k

rest_lacks : (s : Script) (texts rest : List (List ℕ)) → AllLack 10 texts → HasHead s.providers texts rest ⊎ HasNoHead s.providers texts rest → AllLack 10 rest
rest_lacks s texts rest h (inl head) = (lack_after 10 head.head (codes "+++" ∷ rest) (subst (AllLack 10) head.split h).1).1
rest_lacks s texts rest h (inr none) = subst (AllLack 10) none.1 h

lines_read : (version : Version) (earlier lines : List Line) (texts : List (List ℕ)) → AllLack 10 texts → AreLines version earlier lines texts → LinesRead version earlier lines
lines_read version earlier [] texts end h = tt
lines_read version earlier (line ∷ lines) [] end h = absurd h
lines_read version earlier (line ∷ lines) (text ∷ texts) end h = (line_read version earlier line text end.0 h.0, lines_read version (earlier ++ line ∷ []) lines texts end.1 h.1)

-- so a script that has a text has its canonical text
pub script_again : (s : Script) → HasText s → s.providers ≡ usual_of s.providers.version → IsScript s (script_text s)
script_again s (text, h) u =
    let f = h.form in
    let end : AllLack 10 f.texts = (subst (AllLack 10) f.first (lines_lack text)).1 in
    script_written s u (lines_read s.providers.version [] s.lines (calls_in f.rest) (lack_chosen 10 (λ t. not (is_passed t)) f.rest (rest_lacks s f.texts f.rest end f.head)) f.lines) h.small
