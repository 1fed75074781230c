-- Lines one after the other: where reading them ends, and what each script with such lines has.
use Rattle.std.proofs.Common.{◌≡◌, ℕ, suc, ◌+◌, ◌⊎◌, inl, inr, Bool, true, false, cond, ltb, leb, List, [], ◌∷◌, ◌++◌, length, Option, Some, None, Result, Ok, Err, refl, sym, ap, subst, ◌∙◌, arith}
use Rattle.std.proofs.lemmas.Bool.{ltb-true, lt-ltb, leb-true, le-leb, and_parts}
use Rattle.std.proofs.lemmas.List.{append-nil, length-append}
use Rattle.std.proofs.lemmas.List.Elements.{filter-append}
use Rattle.std.proofs.lemmas.List.Sums.{sum_by-append}
use Rattle.std.specs.Prelude.{not}
use Rattle.xti_base.specs.declared.limits.TheConstants.{MOST_LINES, MOST_ARGUMENT_BYTES}
use Rattle.xti_model.specs.declared.profile.Version.{Version}
use Rattle.xti_model.specs.declared.script.Line.{Line}
use Rattle.xti_model.specs.Work.{argument_bytes, script_bytes}
use Rattle.xti_words.specs.Texts.{words_of}
use Rattle.xti_script_reader.specs.declared.draft.Taken.{Taken}
use Rattle.xti_script_reader.specs.declared.draft.Taken.TheVariants as taken
use Rattle.xti_script_reader.specs.declared.script_text.ScriptFail.{ScriptFail}
use Rattle.xti_script_reader.specs.declared.script_text.ScriptFail.TheVariants as fail
use Rattle.xti_script_reader.specs.Grammar.{AreLines, IsSmall, is_passed, calls_in}
use Rattle.xti_script_reader.specs.Reading.{any_line_of, has_room, extended, longer, after_text, lines_from}
use Rattle.xti_script_reader.proofs.CallLaws.{line_is, is_line, one_line, regroup}

-- ---- the limits

some_bytes : (earlier more : List Line) (line : Line) → script_bytes (earlier ++ line ∷ more) ≡ script_bytes earlier + ((0 + argument_bytes line.call) + script_bytes more)
some_bytes earlier more line = sum_by-append (λ (l : Line). argument_bytes l.call) earlier (line ∷ more) ∙ ap (λ (n : ℕ). script_bytes earlier + n) (sum_by-append (λ (l : Line). argument_bytes l.call) (line ∷ []) more)

some_lines : (earlier more : List Line) (line : Line) → length (earlier ++ line ∷ more) ≡ length earlier + suc (length more)
some_lines earlier more line = length-append earlier (line ∷ more)

-- a line for which there is room
grows : (earlier : List Line) (line : Line) → has_room earlier line ≡ true → IsSmall (earlier ++ line ∷ [])
grows earlier line room =
    let r = and_parts (ltb (length earlier) MOST_LINES) (leb (script_bytes earlier + argument_bytes line.call) MOST_ARGUMENT_BYTES) room in
    let few = ltb-true _ _ r.0 in
    let bytes = leb-true _ _ r.1 in
    record { few_lines = omega (arith, some_lines earlier [] line); few_bytes = omega (arith, some_bytes earlier [] line) }

-- and one for which there is none
pub too_many : (earlier more : List Line) (line : Line) → has_room earlier line ≡ false → IsSmall (earlier ++ line ∷ more) → ⊥
too_many earlier more line none small =
    let lines = small.few_lines in
    let bytes = small.few_bytes in
    let few : ltb (length earlier) MOST_LINES ≡ true = lt-ltb _ _ (omega (arith, some_lines earlier more line)) in
    let fits : leb (script_bytes earlier + argument_bytes line.call) MOST_ARGUMENT_BYTES ≡ true = le-leb _ _ (omega (arith, some_bytes earlier more line)) in
    let room : has_room earlier line ≡ true = rw (few, fits) refl in
    let no : true ≡ false = sym room ∙ none in
    cc

-- ---- one text

-- what a text is after the earlier lines
data Fate (version : Version) (earlier : List Line) (text : List ℕ) (outcome : Taken × List Line) : Type 0 where
  passed : is_passed text ≡ true → outcome ≡ (taken.Read, earlier) → Fate version earlier text outcome
  added : (line : Line) → is_passed text ≡ false → any_line_of version earlier (words_of text) ≡ Some line → has_room earlier line ≡ true → outcome ≡ (taken.Read, earlier ++ line ∷ []) → Fate version earlier text outcome
  wrong : is_passed text ≡ false → any_line_of version earlier (words_of text) ≡ None → outcome ≡ (taken.Wrong, earlier) → Fate version earlier text outcome
  over : (line : Line) → is_passed text ≡ false → any_line_of version earlier (words_of text) ≡ Some line → has_room earlier line ≡ false → outcome ≡ (taken.TooMany, earlier) → Fate version earlier text outcome

by_room : (version : Version) (earlier : List Line) (text : List ℕ) (line : Line) (outcome : Taken × List Line) (room : Bool) → is_passed text ≡ false → any_line_of version earlier (words_of text) ≡ Some line → has_room earlier line ≡ room
    → outcome ≡ cond room (taken.Read, earlier ++ line ∷ []) (taken.TooMany, earlier) → Fate version earlier text outcome
by_room version earlier text line outcome true n s r e = added line n s r e
by_room version earlier text line outcome false n s r e = over line n s r e

by_line : (version : Version) (earlier : List Line) (text : List ℕ) (outcome : Taken × List Line) (o : Option Line) → is_passed text ≡ false → any_line_of version earlier (words_of text) ≡ o → outcome ≡ longer earlier o → Fate version earlier text outcome
unfolding extended
by_line version earlier text outcome None n s e = wrong n s e
by_line version earlier text outcome (Some line) n s e = by_room version earlier text line outcome (has_room earlier line) n s refl e

by_passing : (version : Version) (earlier : List Line) (text : List ℕ) (outcome : Taken × List Line) (b : Bool) → is_passed text ≡ b → outcome ≡ cond b (taken.Read, earlier) (longer earlier (any_line_of version earlier (words_of text))) → Fate version earlier text outcome
by_passing version earlier text outcome true p e = passed p e
by_passing version earlier text outcome false p e = by_line version earlier text outcome (any_line_of version earlier (words_of text)) p refl e

fate : (version : Version) (earlier : List Line) (text : List ℕ) → Fate version earlier text (after_text version earlier text)
unfolding after_text
fate version earlier text = by_passing version earlier text _ (is_passed text) refl refl

-- ---- calls among the lines

call_first : (text : List ℕ) (texts : List (List ℕ)) → is_passed text ≡ false → calls_in (text ∷ texts) ≡ text ∷ calls_in texts
call_first text texts n = rw n refl

call_passed : (text : List ℕ) (texts : List (List ℕ)) → is_passed text ≡ true → calls_in (text ∷ texts) ≡ calls_in texts
call_passed text texts n = rw n refl

pub calls_append : (front back : List (List ℕ)) → calls_in (front ++ back) ≡ calls_in front ++ calls_in back
calls_append front back = filter-append (λ (text : List ℕ). not (is_passed text)) front back

-- a call in the midst
pub calls_around : (front : List (List ℕ)) (text : List ℕ) (back : List (List ℕ)) → is_passed text ≡ false → calls_in (front ++ text ∷ back) ≡ calls_in front ++ text ∷ calls_in back
calls_around front text back n = calls_append front (text ∷ back) ∙ ap (λ (ts : List (List ℕ)). calls_in front ++ ts) (call_first text back n)

-- ---- what is read

pub record Whole (version : Version) (earlier all : List Line) (texts : List (List ℕ)) : Type 0 where
  pub lines : List Line
  pub same : all ≡ earlier ++ lines
  pub good : AreLines version earlier lines (calls_in texts)
  pub small : IsSmall all

abbrev read : List Line → Result (List Line) ScriptFail
read x = Ok x

got : (x y : List Line) → read x ≡ read y → x ≡ y
got x y e = cc

pub lines_are : (version : Version) (number : ℕ) (earlier all : List Line) (texts : List (List ℕ)) → IsSmall earlier → lines_from version number earlier texts ≡ Ok all → Whole version earlier all texts
unfolding lines_from
lines_are version number earlier all [] small e =
    let same : earlier ≡ all = got earlier all e in
    record { lines = []; same = sym same ∙ sym (append-nil earlier); good = tt; small = subst IsSmall same small }
lines_are version number earlier all (text ∷ texts) small e = by_fate (λ lines. lines_are version (number + 1) lines all texts) (fate version earlier text)
  where
    by_fate : ((lines : List Line) → IsSmall lines → lines_from version (number + 1) lines texts ≡ Ok all → Whole version lines all texts) → Fate version earlier text (after_text version earlier text) → Whole version earlier all (text ∷ texts)
    by_fate on (passed p o) =
        let later = on earlier small (rw o at e) in
        record { lines = later.lines; same = later.same; good = rw (call_passed text texts p) later.good; small = later.small }
    by_fate on (added line n s r o) =
        let later = on (earlier ++ line ∷ []) (grows earlier line r) (rw o at e) in
        record {
          lines = line ∷ later.lines;
          same = later.same ∙ regroup earlier later.lines line;
          good = rw (call_first text texts n) (line_is version earlier text line s, later.good);
          small = later.small;
        }
    by_fate on (wrong n s o) = let never : Err (fail.Bad number) ≡ Ok all = rw o at e in absurd cc
    by_fate on (over line n s r o) = let never : Err (fail.TooMany number) ≡ Ok all = rw o at e in absurd cc

-- ---- where reading stops

-- why a text is refused after these lines: it is wrong, or there is no room for it
abbrev pub Why : Version → List Line → List ℕ → ℕ → ScriptFail → Type 0
Why version lines text n e =
    ((e ≡ fail.Bad n) × (any_line_of version lines (words_of text) ≡ None)) ⊎ ((line : Line) × (e ≡ fail.TooMany n) × (any_line_of version lines (words_of text) ≡ Some line) × (has_room lines line ≡ false))

pub record Stop (version : Version) (number : ℕ) (earlier : List Line) (texts : List (List ℕ)) (e : ScriptFail) : Type 0 where
  pub front : List (List ℕ)
  pub text : List ℕ
  pub back : List (List ℕ)
  pub lines : List Line
  pub parts : texts ≡ front ++ text ∷ back
  pub good : AreLines version earlier lines (calls_in front)
  pub small : IsSmall (earlier ++ lines)
  pub call : is_passed text ≡ false
  pub why : Why version (earlier ++ lines) text (number + length front) e

abbrev unread : ScriptFail → Result (List Line) ScriptFail
unread x = Err x

failed : (x y : ScriptFail) → unread x ≡ unread y → x ≡ y
failed x y e = cc

pub stops : (version : Version) (number : ℕ) (earlier : List Line) (texts : List (List ℕ)) (e : ScriptFail) → IsSmall earlier → lines_from version number earlier texts ≡ Err e → Stop version number earlier texts e
unfolding lines_from
stops version number earlier [] e small r = absurd cc
stops version number earlier (text ∷ texts) e small r = by_fate (λ lines. stops version (number + 1) lines texts e) (fate version earlier text)
  where
    here : is_passed text ≡ false → Why version earlier text number e → Stop version number earlier (text ∷ texts) e
    here n why = record {
      front = [];
      text = text;
      back = texts;
      lines = [];
      parts = refl;
      good = tt;
      small = rw append-nil small;
      call = n;
      why = rw (append-nil, zero_more number) why;
    }
      where
        zero_more : (n : ℕ) → n + 0 ≡ n
        zero_more n = omega arith

    by_fate : ((lines : List Line) → IsSmall lines → lines_from version (number + 1) lines texts ≡ Err e → Stop version (number + 1) lines texts e) → Fate version earlier text (after_text version earlier text) → Stop version number earlier (text ∷ texts) e
    by_fate on (passed p o) =
        let l = on earlier small (rw o at r) in
        let place : (number + 1) + length l.front ≡ number + length (text ∷ l.front) = omega arith in
        record {
          front = text ∷ l.front;
          text = l.text;
          back = l.back;
          lines = l.lines;
          parts = ap (λ (ts : List (List ℕ)). text ∷ ts) l.parts;
          good = rw (call_passed text l.front p) l.good;
          small = l.small;
          call = l.call;
          why = subst (λ (n : ℕ). Why version (earlier ++ l.lines) l.text n e) place l.why;
        }
    by_fate on (added line n s room o) =
        let l = on (earlier ++ line ∷ []) (grows earlier line room) (rw o at r) in
        let place : (number + 1) + length l.front ≡ number + length (text ∷ l.front) = omega arith in
        record {
          front = text ∷ l.front;
          text = l.text;
          back = l.back;
          lines = line ∷ l.lines;
          parts = ap (λ (ts : List (List ℕ)). text ∷ ts) l.parts;
          good = rw (call_first text l.front n) (line_is version earlier text line s, l.good);
          small = rw (← regroup earlier l.lines line) l.small;
          call = l.call;
          why = subst (λ (n : ℕ). Why version (earlier ++ (line ∷ l.lines)) l.text n e) place (rw (regroup earlier l.lines line) at l.why);
        }
    by_fate on (wrong n s o) = here n (inl (sym (failed _ _ (rw o at r)), s))
    by_fate on (over line n s room o) = here n (inr (line, sym (failed _ _ (rw o at r)), s, room))

-- ---- lines that begin with others

-- what follows the lines of the first texts
pub record Further (version : Version) (earlier lines all : List Line) (back : List (List ℕ)) : Type 0 where
  pub more : List Line
  pub same : all ≡ lines ++ more
  pub good : AreLines version (earlier ++ lines) more back

pub further : (version : Version) (earlier lines all : List Line) (front back : List (List ℕ)) → AreLines version earlier lines front → AreLines version earlier all (front ++ back) → Further version earlier lines all back
further version earlier [] all [] back good whole = record { more = all; same = refl; good = rw append-nil whole }
further version earlier [] all (text ∷ front) back good whole = absurd good
further version earlier (line ∷ lines) all [] back good whole = absurd good
further version earlier (line ∷ lines) [] (text ∷ front) back good whole = absurd whole
further version earlier (line ∷ lines) (other ∷ all) (text ∷ front) back good whole =
    let one : line ≡ other = one_line version earlier text line other good.0 whole.0 in
    let later = further version (earlier ++ line ∷ []) lines all front back good.1 (rw (← one) at whole.1) in
    record {
      more = later.more;
      same = ap (λ (l : Line). l ∷ all) (sym one) ∙ ap (λ (ls : List Line). line ∷ ls) later.same;
      good = rw (← regroup earlier lines line) later.good;
    }

-- two lists of lines of the same texts are one
pub same_lines : (version : Version) (earlier lines all : List Line) (texts : List (List ℕ)) → AreLines version earlier lines texts → AreLines version earlier all texts → lines ≡ all
same_lines version earlier lines all texts good whole =
    let f = further version earlier lines all texts [] good (rw append-nil whole) in
    none f.more f.good f.same
  where
    none : (more : List Line) → AreLines version (earlier ++ lines) more [] → all ≡ lines ++ more → lines ≡ all
    none [] g e = sym (e ∙ append-nil lines)
    none (l ∷ more) g e = absurd g

-- the line of a text after these
pub record Next (version : Version) (earlier lines all : List Line) (text : List ℕ) : Type 0 where
  pub line : Line
  pub more : List Line
  pub same : all ≡ lines ++ line ∷ more
  pub is : any_line_of version (earlier ++ lines) (words_of text) ≡ Some line

pub next : (version : Version) (earlier lines all : List Line) (front : List (List ℕ)) (text : List ℕ) (back : List (List ℕ)) → AreLines version earlier lines front → AreLines version earlier all (front ++ text ∷ back) → Next version earlier lines all text
next version earlier lines all front text back good whole =
    let f = further version earlier lines all front (text ∷ back) good whole in
    by_more f.more f.same f.good
  where
    by_more : (more : List Line) → all ≡ lines ++ more → AreLines version (earlier ++ lines) more (text ∷ back) → Next version earlier lines all text
    by_more [] e g = absurd g
    by_more (line ∷ more) e g = record { line = line; more = more; same = e; is = is_line version (earlier ++ lines) text line g.0 }

-- lines and then others
pub lines_append : (version : Version) (earlier lines more : List Line) (front back : List (List ℕ)) → AreLines version earlier lines front → AreLines version (earlier ++ lines) more back → AreLines version earlier (lines ++ more) (front ++ back)
lines_append version earlier [] more [] back good others = rw append-nil at others
lines_append version earlier [] more (text ∷ front) back good others = absurd good
lines_append version earlier (line ∷ lines) more [] back good others = absurd good
lines_append version earlier (line ∷ lines) more (text ∷ front) back good others = (good.0, lines_append version (earlier ++ line ∷ []) lines more front back good.1 (rw (regroup earlier lines line) others))
