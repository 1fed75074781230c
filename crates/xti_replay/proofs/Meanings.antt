-- The tables of names, and what the names of a line stand for.
use Rattle.std.proofs.Common.{◌≡◌, ℕ, zero, suc, ◌+◌, ◌≤◌, Bool, true, false, cond, ltb, List, [], ◌∷◌, ◌++◌, length, take, Option, Some, None, refl, ap, ◌∙◌, arith}
use Rattle.std.specs.Prelude.{option_map, slice_get, unwrap_or}
use Rattle.std.proofs.lemmas.Option.{same_Some}
use Rattle.std.proofs.Math.Path.{fun_ext}
use Rattle.xti_base.specs.declared.kinds.Fd.{Fd}
use Rattle.xti_base.specs.declared.kinds.Seq.{Seq}
use Rattle.xti_model.specs.declared.entry.Outcome.{Outcome}
use Rattle.xti_model.specs.declared.entry.Entry.{Entry}
use Rattle.xti_model.specs.declared.script.Line.{Line}
use Rattle.xti_model.specs.Resolve.{Meanings, is_of, lines_of, begun, answer_of, answer_to, or_else, meanings}
use Rattle.xti_replay.specs.declared.names.Known.{Known}
use Rattle.xti_replay.specs.declared.names.Names.{Names}
use Rattle.xti_replay.specs.Spots.{Spot, spots_from}
use Rattle.xti_replay.specs.Known.{Kind, endpoints, sequences, Table, known_in, told_by, known_by, or_known, Holds, Knows, number_before, or_number, stands_for, meanings_before}

pub known-nothing : (kind : Kind) (name : List ℕ) (spots : List Spot) → known_by kind name spots [] ≡ None
known-nothing kind name [] = refl
known-nothing kind name (s ∷ spots) = refl

-- what one entry tells of a name
abbrev pub told_at : Kind → List ℕ → Spot → Entry → Option Known
told_at kind name s e = told_by kind s.place s.line.call e.outcome name

or_none : (o : Option Known) → or_known o None ≡ o
or_none None = refl
or_none (Some k) = refl

-- one line more is begun
pub known-more : (kind : Kind) (name : List ℕ) (spots : List Spot) (es : List Entry) (s : Spot) (e : Entry) → slice_get spots (length es) ≡ Some s
    → known_by kind name spots (es ++ e ∷ []) ≡ or_known (known_by kind name spots es) (told_at kind name s e)
known-more kind name [] es s e h = absurd cc
known-more kind name (x ∷ spots) [] s e h = rw (same_Some x s h, known-nothing kind name spots) (or_none (told_at kind name s e))
known-more kind name (x ∷ spots) (y ∷ es) s e h = by (told_at kind name x y) (known-more kind name spots es s e h)
  where
    by : (o : Option Known) → known_by kind name spots (es ++ e ∷ []) ≡ or_known (known_by kind name spots es) (told_at kind name s e)
        → or_known o (known_by kind name spots (es ++ e ∷ [])) ≡ or_known (or_known o (known_by kind name spots es)) (told_at kind name s e)
    by None later = later
    by (Some k) later = refl

-- no line from this place on stands before it
not-before : (kind : Kind) (name : List ℕ) (from : ℕ) (lines : List Line) (worker n : ℕ) (es : List Entry) → n ≤ from → number_before n (known_by kind name (spots_from from lines worker) es) ≡ None
not-before kind name from [] worker n es le = refl
not-before kind name from (line ∷ lines) worker n es le = by (is_of worker line) es (λ rest. not-before kind name (from + 1) lines worker n rest (omega arith))
  where
    first : (b : Bool) (k : ℕ) (later : Option Known) → number_before n later ≡ None → number_before n (or_known (cond b (Some (record { place = from; number = k })) None) later) ≡ None
    first true k later h = let no : ltb from n ≡ false = grind arith in rw no refl
    first false k later h = h

    by : (b : Bool) (es : List Entry) → ((rest : List Entry) → number_before n (known_by kind name (spots_from (from + 1) lines worker) rest) ≡ None)
        → number_before n (known_by kind name (cond b (record { place = from; line = line } ∷ spots_from (from + 1) lines worker) (spots_from (from + 1) lines worker)) es) ≡ None
    by true [] later = refl
    by true (e ∷ es) later = first (kind.defines name line.call) (kind.number (Some e.outcome)) (known_by kind name (spots_from (from + 1) lines worker) es) (later es)
    by false es later = later es

-- the number by what an entry answered
abbrev number_of : Kind → Outcome → ℕ
number_of kind o = kind.number (Some o)

-- what is known of a name before a place is what the lines up to there answered
pub known-before : (kind : Kind) (name : List ℕ) (from : ℕ) (lines : List Line) (worker n i : ℕ) (es : List Entry) → n ≡ from + i
    → number_before n (known_by kind name (spots_from from lines worker) es) ≡ option_map (number_of kind) (answer_of (kind.defines name) (lines_of (take i lines) worker) es)
known-before kind name from [] worker n zero es same = refl
known-before kind name from [] worker n (suc i) es same = refl
known-before kind name from (line ∷ lines) worker n zero es same = not-before kind name from (line ∷ lines) worker n es (omega arith)
known-before kind name from (line ∷ lines) worker n (suc i) es same = by (is_of worker line) es (λ rest. known-before kind name (from + 1) lines worker n i rest (omega arith))
  where
    first : (b : Bool) (e : Entry) (later : Option Known) (others : Option Outcome) → number_before n later ≡ option_map (number_of kind) others
        → number_before n (or_known (cond b (Some (record { place = from; number = number_of kind e.outcome })) None) later) ≡ option_map (number_of kind) (cond b (Some e.outcome) others)
    first true e later others h = let yes : ltb from n ≡ true = grind arith in rw yes refl
    first false e later others h = h

    by : (b : Bool) (es : List Entry)
        → ((rest : List Entry) → number_before n (known_by kind name (spots_from (from + 1) lines worker) rest) ≡ option_map (number_of kind) (answer_of (kind.defines name) (lines_of (take i lines) worker) rest))
        → number_before n (known_by kind name (cond b (record { place = from; line = line } ∷ spots_from (from + 1) lines worker) (spots_from (from + 1) lines worker)) es)
        ≡ option_map (number_of kind) (answer_of (kind.defines name) (cond b (line ∷ lines_of (take i lines) worker) (lines_of (take i lines) worker)) es)
    by true [] later = refl
    by true (e ∷ es) later =
        first (kind.defines name line.call) e (known_by kind name (spots_from (from + 1) lines worker) es) (answer_of (kind.defines name) (lines_of (take i lines) worker) es) (later es)
    by false es later = later es

-- The names of a line.

number-before : (kind : Kind) (lines : List Line) (past : List Entry) (worker place : ℕ) (table : Table) → Holds kind lines past worker table → (name : List ℕ)
    → number_before place (known_in table name) ≡ option_map (number_of kind) (answer_of (kind.defines name) (lines_of (take place lines) worker) (begun past worker))
number-before kind lines past worker place table k name =
    ap (number_before place) (k name) ∙ known-before kind name 0 lines worker place place (begun past worker) (omega arith)

both : (kind : Kind) (a b : Option Outcome) → unwrap_or (or_number (option_map (number_of kind) a) (option_map (number_of kind) b)) (kind.number None) ≡ kind.number (or_else a b)
both kind None None = refl
both kind None (Some o) = refl
both kind (Some o) b = refl

number-same : (kind : Kind) (lines : List Line) (past : List Entry) (worker place : ℕ) (own setup : Table) → Holds kind lines past worker own → Holds kind lines past 0 setup → (name : List ℕ)
    → stands_for kind place own setup name ≡ kind.number (answer_to (take place lines) worker past (kind.defines name))
number-same kind lines past worker place own setup k z name =
    let here = number-before kind lines past worker place own k name in
    let there = number-before kind lines past 0 place setup z name in
    ap (λ (n : Option ℕ). unwrap_or (or_number n (number_before place (known_in setup name))) (kind.number None)) here
    ∙ ap (λ (n : Option ℕ). unwrap_or (or_number (option_map (number_of kind) (answer_of (kind.defines name) (lines_of (take place lines) worker) (begun past worker))) n) (kind.number None)) there
    ∙ both kind (answer_of (kind.defines name) (lines_of (take place lines) worker) (begun past worker)) (answer_of (kind.defines name) (lines_of (take place lines) 0) (begun past 0))

abbrev fd_of : ℕ → Fd
fd_of n = record { 0 = n }

abbrev seq_of : ℕ → Seq
seq_of n = record { 0 = n }

abbrev meanings_by : (List ℕ → Fd) → (List ℕ → Seq) → Meanings
meanings_by fd seq = record { fd = fd; seq = seq }

-- the tables give the names of a line what they stand for
pub meanings-same : (lines : List Line) (past : List Entry) (worker place : ℕ) (own setup : Names) → Knows lines past worker own → Knows lines past 0 setup → meanings_before place own setup ≡ meanings (take place lines) worker past
meanings-same lines past worker place own setup k z =
    ap (λ (fd : List ℕ → Fd). meanings_by fd (meanings_before place own setup).seq) (fun_ext (λ name. ap fd_of (number-same endpoints lines past worker place own.endpoints setup.endpoints k.endpoints z.endpoints name)))
    ∙ ap (meanings_by (meanings (take place lines) worker past).fd) (fun_ext (λ name. ap seq_of (number-same sequences lines past worker place own.sequences setup.sequences k.sequences z.sequences name)))
