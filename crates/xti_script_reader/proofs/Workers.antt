-- The sets of the names of each worker, and one more name.
use Rattle.std.proofs.Common.{◌≡◌, ℕ, zero, suc, ◌+◌, ◌-◌, ◌<◌, ◌≤◌, Bool, true, false, cond, ◌&&◌, ◌||◌, eqb, ltb, leb, List, [], ◌∷◌, ◌++◌, length, Option, Some, None, refl, sym, ap, ◌∙◌, arith, set, take}
use Rattle.std.specs.Prelude.{slice_get}
use Rattle.std.specs.List.{list_any}
use Rattle.std.specs.Str.{bytes_eq}
use Rattle.std.proofs.lemmas.Bool.{ltb-true, lt-ltb, leb-true, leb-false, le-leb, eq-eqb, eqb-true}
use Rattle.std.proofs.lemmas.List.Folds.{list_any-append}
use Rattle.std.proofs.lemmas.List.Sums.{sum_by-append}
use Rattle.std.proofs.Math.Seq.{take-append_seam}
use Rattle.xti_model.specs.declared.script.NamedCall.{NamedCall}
use Rattle.xti_model.specs.declared.script.Line.{Line}
use Rattle.xti_model.specs.Resolve.{opens, listens}
use Rattle.xti_model.specs.Work.{argument_bytes, script_bytes}
use Rattle.xti_base.specs.declared.limits.TheConstants.{MOST_LINES, MOST_ARGUMENT_BYTES}
use Rattle.xti_script_reader.specs.Names.{Defining, after, defines, is_defined}
use Rattle.xti_script_reader.specs.TextSets.{AreEmpty, TextSet, has, has_at}
use Rattle.xti_script_reader.specs.Known.{is_own, TakesName, HaveNames, Knows}
use Rattle.xti_script_reader.specs.declared.draft.Taken.TheVariants as taken
use Rattle.xti_script_reader.specs.Reading.{less, room_after, extended}

-- ---- one more text in the set at a place

or_false : (a : Bool) → a ≡ (a || false)
or_false true = refl
or_false false = refl

unequal : (a b : ℕ) (t : Bool) → eqb a b ≡ t → (a ≡ b → ⊥) → t ≡ false
unequal a b true e h = absurd (h (eqb-true a b e))
unequal a b false e h = refl

eqb-suc_suc : (a b : ℕ) → eqb (suc a) (suc b) ≡ eqb a b
eqb-suc_suc a b = by_test (eqb a b) refl
  where
    by_test : (t : Bool) → eqb a b ≡ t → eqb (suc a) (suc b) ≡ t
    by_test true e = let h : a ≡ b = eqb-true a b e in eq-eqb (suc a) (suc b) (omega arith)
    by_test false e = unequal (suc a) (suc b) (eqb (suc a) (suc b)) refl (λ h. let s : a ≡ b = omega arith in let u : eqb a b ≡ true = eq-eqb a b s in let c : true ≡ false = sym u ∙ e in cc)

pub more_at : (sets : List TextSet) (place : ℕ) (texts : TextSet) (text : List ℕ) → slice_get sets place ≡ Some texts → (more : TextSet) → ((other : List ℕ) → has more other ≡ (has texts other || bytes_eq text other))
    → (at : ℕ) (other : List ℕ) → has_at (set sets place more) at other ≡ (has_at sets at other || (eqb place at && bytes_eq text other))
more_at [] place texts text e more h at other = absurd cc
more_at (x ∷ sets) zero texts text e more h zero other =
    let s : x ≡ texts = cc in
    rw s (h other)
more_at (x ∷ sets) zero texts text e more h (suc at) other =
    let no : eqb 0 (suc at) ≡ false = unequal 0 (suc at) (eqb 0 (suc at)) refl (λ e. absurd (omega arith)) in
    rw no (or_false (has_at sets at other))
more_at (x ∷ sets) (suc place) texts text e more h zero other =
    let no : eqb (suc place) 0 ≡ false = unequal (suc place) 0 (eqb (suc place) 0) refl (λ e. absurd (omega arith)) in
    rw no (or_false (has x other))
more_at (x ∷ sets) (suc place) texts text e more h (suc at) other = rw (eqb-suc_suc place at) (more_at sets place texts text e more h at other)

-- ---- empty sets

pub none_empty : (sets : List TextSet) → sets ≡ [] → AreEmpty sets
none_empty sets e at other = rw e refl

pub one_more_empty : (sets : List TextSet) (texts : TextSet) → ((other : List ℕ) → has texts other ≡ false) → AreEmpty sets → AreEmpty (sets ++ texts ∷ [])
one_more_empty [] texts h k zero other = h other
one_more_empty [] texts h k (suc at) other = refl
one_more_empty (x ∷ sets) texts h k zero other = k zero other
one_more_empty (x ∷ sets) texts h k (suc at) other = one_more_empty sets texts h (λ a o. k (suc a) o) at other

-- ---- names

same_or : (a b c p : Bool) → ((a || b) && c) ≡ ((a && c) || (b && c))
same_or true true true p = refl
same_or true true false p = refl
same_or true false true p = refl
same_or true false false p = refl
same_or false b c p = refl

exchange : (a b c d : Bool) → ((a || b) || (c || d)) ≡ ((a || c) || (b || d))
exchange true b c d = refl
exchange false true true d = refl
exchange false true false d = refl
exchange false false c d = refl

-- a name is defined for a worker by its own lines or by those of worker 0
pub own_or_setup : (d : Defining) (lines : List Line) (worker : ℕ) (name : List ℕ) → is_defined d (after lines worker) name ≡ (list_any (is_own d worker name) lines || list_any (is_own d 0 name) lines)
own_or_setup d [] worker name = refl
own_or_setup d (line ∷ lines) worker name =
    let one : defines d worker name line ≡ (is_own d worker name line || is_own d 0 name line) = same_or (eqb line.worker worker) (eqb line.worker 0) (d name line.call) true in
    rw (one, own_or_setup d lines worker name) (exchange (is_own d worker name line) (is_own d 0 name line) (list_any (is_own d worker name) lines) (list_any (is_own d 0 name) lines))

or_nothing : (a : Bool) → (a || false) ≡ a
or_nothing true = refl
or_nothing false = refl

have_more : (d : Defining) (lines : List Line) (line : Line) (old new : List TextSet) → HaveNames d lines old → length new ≡ length old → TakesName d line old new → HaveNames d (lines ++ line ∷ []) new
have_more d lines line old new h w k = record { workers = w ∙ h.workers; own = own }
  where
    own : (worker : ℕ) (name : List ℕ) → has_at new worker name ≡ list_any (is_own d worker name) (lines ++ line ∷ [])
    own worker name =
        let all : list_any (is_own d worker name) (lines ++ line ∷ []) ≡ (list_any (is_own d worker name) lines || (is_own d worker name line || false)) = list_any-append (is_own d worker name) lines (line ∷ []) in
        rw (all, k worker name, h.own worker name) (ap (λ (b : Bool). list_any (is_own d worker name) lines || b) (sym (or_nothing (is_own d worker name line))))

-- ---- bytes

pub less_less : (left a b : ℕ) (o : Option ℕ) (middle : ℕ) → o ≡ less left a → o ≡ Some middle → less middle b ≡ less left (a + b)
less_less left a b o middle e s = by_test (leb a left) refl (sym e ∙ s)
  where
    again : (m : ℕ) (x y : Bool) → a ≤ left → m ≡ left - a → leb b m ≡ x → leb (a + b) left ≡ y → cond x (Some (m - b)) None ≡ cond y (Some (left - (a + b))) None
    again m true true h i p q = ap (λ (n : ℕ). Some n) (omega arith)
    again m false false h i p q = refl
    again m true false h i p q = let u : b ≤ m = leb-true _ _ p in let v : left < a + b = leb-false _ _ q in absurd (omega arith)
    again m false true h i p q = let u : m < b = leb-false _ _ p in let v : a + b ≤ left = leb-true _ _ q in absurd (omega arith)

    by_test : (t : Bool) → leb a left ≡ t → cond t (Some (left - a)) None ≡ Some middle → less middle b ≡ less left (a + b)
    by_test false t r = absurd cc
    by_test true t r =
        let m : left - a ≡ middle = cc in
        let h : a ≤ left = leb-true _ _ t in
        again middle (leb b middle) (leb (a + b) left) h (sym m) refl refl

pub less_none : (left a b : ℕ) (o : Option ℕ) → o ≡ less left a → o ≡ None → None ≡ less left (a + b)
less_none left a b o e s = by_test (leb a left) refl (sym e ∙ s)
  where
    nothing : Option ℕ
    nothing = None

    by_test : (t : Bool) → leb a left ≡ t → cond t (Some (left - a)) None ≡ nothing → None ≡ less left (a + b)
    by_test true t r = absurd cc
    by_test false t r =
        let h : left < a = leb-false _ _ t in
        at_last (leb (a + b) left) refl h
      where
        at_last : (y : Bool) → leb (a + b) left ≡ y → left < a → None ≡ cond y (Some (left - (a + b))) None
        at_last false q h = refl
        at_last true q h = let v : a + b ≤ left = leb-true _ _ q in absurd (omega arith)

pub defined_is : (d : Defining) (lines now : List Line) (sets : List TextSet) (worker : ℕ) (name : List ℕ) (r : Bool) → HaveNames d lines sets → lines ≡ now → r ≡ (has_at sets worker name || has_at sets 0 name) → r ≡ is_defined d (after now worker) name
defined_is d lines now sets worker name r k v e =
    let a : has_at sets worker name ≡ list_any (is_own d worker name) lines = k.own worker name in
    let b : has_at sets 0 name ≡ list_any (is_own d 0 name) lines = k.own 0 name in
    rw (← v) (rw (a, b) at e ∙ sym (own_or_setup d lines worker name))

-- ---- one more line

less_is : (left n more : ℕ) (o : Option ℕ) → o ≡ less left n → o ≡ Some more → (n ≤ left) × (more ≡ left - n)
less_is left n more o e s = by_test (leb n left) refl (sym e ∙ s)
  where
    by_test : (t : Bool) → leb n left ≡ t → cond t (Some (left - n)) None ≡ Some more → (n ≤ left) × (more ≡ left - n)
    by_test false t r = absurd cc
    by_test true t r = let m : left - n ≡ more = cc in (leb-true _ _ t, sym m)

less_fails : (left n : ℕ) (o : Option ℕ) → o ≡ less left n → o ≡ None → left < n
less_fails left n o e s = by_test (leb n left) refl (sym e ∙ s)
  where
    nothing : Option ℕ
    nothing = None

    by_test : (t : Bool) → leb n left ≡ t → cond t (Some (left - n)) None ≡ nothing → left < n
    by_test true t r = absurd cc
    by_test false t r = leb-false _ _ t

record Room (count left : ℕ) (call : NamedCall) (more : ℕ) : Type 0 where
  few : count < MOST_LINES
  fits : argument_bytes call ≤ left
  rest : more ≡ left - argument_bytes call

room_is : (count left : ℕ) (call : NamedCall) (more : ℕ) (o : Option ℕ) → o ≡ room_after count left call → o ≡ Some more → Room count left call more
unfolding room_after
room_is count left call more o e s = by_test (ltb count MOST_LINES) refl (sym e ∙ s)
  where
    by_test : (t : Bool) → ltb count MOST_LINES ≡ t → cond t (less left (argument_bytes call)) None ≡ Some more → Room count left call more
    by_test false t r = absurd cc
    by_test true t r =
        let l = less_is left (argument_bytes call) more (less left (argument_bytes call)) refl r in
        record { few = ltb-true _ _ t; fits = l.0; rest = l.1 }

and_no : (a : Bool) → (a && false) ≡ false
and_no true = refl
and_no false = refl

test_no : (n m : ℕ) (t : Bool) → leb n m ≡ t → m < n → t ≡ false
test_no n m true e h = let u : n ≤ m = leb-true n m e in absurd (omega arith)
test_no n m false e h = refl

fits_in : (total left used n : ℕ) → left + used ≡ total → n ≤ left → used + n ≤ total
fits_in total left used n h k = omega arith

is_over : (total left used n : ℕ) → left + used ≡ total → left < n → total < used + n
is_over total left used n h k = omega arith

leaves : (total left used n more : ℕ) → left + used ≡ total → n ≤ left → more ≡ left - n → more + (used + (0 + n)) ≡ total
leaves total left used n more h k e = omega arith

-- the limits allow a line where there is room for it
pub line_added : (lines now more_lines : List Line) (opened listened : List TextSet) (left more : ℕ) (line : Line) (o : Option ℕ) → Knows lines opened listened left → lines ≡ now → more_lines ≡ lines ++ line ∷ [] → o ≡ room_after (length lines) left line.call → o ≡ Some more
    → (taken.Read, more_lines) ≡ extended now line
unfolding extended
line_added lines now more_lines opened listened left more line o k v m e s =
    let t = room_is (length lines) left line.call more o e s in
    let count : ltb (length lines) MOST_LINES ≡ true = lt-ltb _ _ t.few in
    let size : leb (script_bytes lines + argument_bytes line.call) MOST_ARGUMENT_BYTES ≡ true = le-leb _ _ (fits_in MOST_ARGUMENT_BYTES left (script_bytes lines) (argument_bytes line.call) k.bytes t.fits) in
    rw (← v, m) (rw (count, size) refl)

pub line_refused : (lines now more_lines : List Line) (opened listened : List TextSet) (left : ℕ) (line : Line) (o : Option ℕ) → Knows lines opened listened left → lines ≡ now → more_lines ≡ lines → o ≡ room_after (length lines) left line.call → o ≡ None → (taken.TooMany, more_lines) ≡ extended now line
unfolding extended room_after
line_refused lines now more_lines opened listened left line o k v m e s = rw (← v, m) (by_test (ltb (length lines) MOST_LINES) refl (sym e ∙ s))
  where
    nothing : Option ℕ
    nothing = None

    by_test : (t : Bool) → ltb (length lines) MOST_LINES ≡ t → cond t (less left (argument_bytes line.call)) None ≡ nothing → (taken.TooMany, lines) ≡ extended lines line
    by_test false t r = rw t refl
    by_test true t r =
        let over : left < argument_bytes line.call = less_fails left (argument_bytes line.call) (less left (argument_bytes line.call)) refl r in
        let size : leb (script_bytes lines + argument_bytes line.call) MOST_ARGUMENT_BYTES ≡ false = test_no (script_bytes lines + argument_bytes line.call) MOST_ARGUMENT_BYTES (leb (script_bytes lines + argument_bytes line.call) MOST_ARGUMENT_BYTES) refl (is_over MOST_ARGUMENT_BYTES left (script_bytes lines) (argument_bytes line.call) k.bytes over) in
        rw size (rw and_no refl)

pub knows_more : (lines more_lines : List Line) (line : Line) (opened listened new_opened new_listened : List TextSet) (left more : ℕ) (o : Option ℕ) → Knows lines opened listened left → more_lines ≡ lines ++ line ∷ [] → o ≡ room_after (length lines) left line.call → o ≡ Some more
    → length new_opened ≡ length opened → TakesName opens line opened new_opened → length new_listened ≡ length listened → TakesName listens line listened new_listened → Knows more_lines new_opened new_listened more
knows_more lines more_lines line opened listened new_opened new_listened left more o k m e s w names v sequences =
    let t = room_is (length lines) left line.call more o e s in
    let sum : script_bytes (lines ++ line ∷ []) ≡ script_bytes lines + (0 + argument_bytes line.call) = sum_by-append (λ (l : Line). argument_bytes l.call) lines (line ∷ []) in
    let bytes : more + script_bytes (lines ++ line ∷ []) ≡ MOST_ARGUMENT_BYTES = ap (λ (n : ℕ). more + n) sum ∙ leaves MOST_ARGUMENT_BYTES left (script_bytes lines) (argument_bytes line.call) more k.bytes t.fits t.rest in
    rw m (record {
      endpoints = have_more opens lines line opened new_opened k.endpoints w names;
      sequences = have_more listens lines line listened new_listened k.sequences v sequences;
      bytes = bytes;
    })

-- the names as slices of the whole write them back
pub knows_written : (lines : List Line) (opened more_opened listened more_listened : List TextSet) (count long left : ℕ) → Knows lines opened listened left → count ≡ length opened → long ≡ length listened → Knows lines (take count (opened ++ more_opened)) (take long (listened ++ more_listened)) left
knows_written lines opened more_opened listened more_listened count long left k e f = rw (e, f, take-append_seam opened more_opened, take-append_seam listened more_listened) k
