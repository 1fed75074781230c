-- What names stand for: each worker's own table, and that of worker 0, whose lines count as far as they stand before.
use Rattle.std.specs.Prelude.{ℕ, ◌≡◌, Bool, List, [], ◌∷◌, Vec, Option, Some, None, nat_lt, unwrap_or, if◌then◌else◌}
use Rattle.std.specs.declared.alloc.Global.{Global}
use Rattle.std.specs.HashMap.{HashMap, get_by}
use Rattle.std.specs.declared.hash.BuildHasherDefault.{BuildHasherDefault}
use Rattle.std.specs.declared.hash.FoldHasher.{FoldHasher}
use Rattle.std.specs.Str.{bytes_eq}
use Rattle.xti_model.specs.declared.entry.Outcome.{Outcome}
use Rattle.xti_model.specs.declared.entry.Entry.{Entry}
use Rattle.xti_model.specs.declared.script.Line.{Line}
use Rattle.xti_model.specs.declared.script.NamedCall.{NamedCall}
use Rattle.xti_model.specs.Resolve.{Meanings, begun, opens, opened_fd, listens, listened_number}
use Rattle.xti_replay.specs.declared.names.Known.{Known}
use Rattle.xti_replay.specs.declared.names.Names.{Names}
use Rattle.xti_replay.specs.declared.resolving.Scope.{Scope}
use Rattle.xti_replay.specs.Spots.{Spot, spots_of}

-- a kind of names: whether a line defines one, and the number by what its entry answered, if there is one
pub record Kind : Type 0 where
  pub defines : List ℕ → NamedCall → Bool
  pub number : Option Outcome → ℕ

abbrev pub endpoints : Kind
endpoints = record { defines = opens; number = opened_fd }

abbrev pub sequences : Kind
sequences = record { defines = listens; number = listened_number }

-- what each name of a kind stands for
abbrev pub Table : Type 0
Table = HashMap (Vec ℕ Global) Known (BuildHasherDefault FoldHasher)

abbrev pub known_in : Table → List ℕ → Option Known
known_in table name = get_by (λ k. bytes_eq name k.items) table

-- what the entry of the line at this place tells of the name, where the line defines it
abbrev pub told_by : Kind → ℕ → NamedCall → Outcome → List ℕ → Option Known
told_by kind place call outcome name = if kind.defines name call then Some (record { place = place; number = kind.number (Some outcome) }) else None

-- the first of two, where there is one
abbrev pub or_known : Option Known → Option Known → Option Known
or_known None other = other
or_known (Some k) other = Some k

-- what the entries of these lines tell of the name: the first line that defines it counts
abbrev pub known_by : Kind → List ℕ → List Spot → List Entry → Option Known
known_by kind name [] entries = None
known_by kind name (s ∷ spots) [] = None
known_by kind name (s ∷ spots) (e ∷ entries) = or_known (told_by kind s.place s.line.call e.outcome name) (known_by kind name spots entries)

-- the table has what the worker's lines have defined so far
abbrev pub Holds : Kind → List Line → List Entry → ℕ → Table → Type 0
Holds kind lines past number table = (name : List ℕ) → known_in table name ≡ known_by kind name (spots_of lines number) (begun past number)

-- each of the worker's tables has it
pub record Knows (lines : List Line) (past : List Entry) (number : ℕ) (names : Names) : Type 0 where
  pub endpoints : Holds endpoints lines past number names.endpoints
  pub sequences : Holds sequences lines past number names.sequences

-- the table has what the entry of the line at this place tells, beside what it had
abbrev pub Adds : Kind → ℕ → NamedCall → Outcome → Table → Table → Type 0
Adds kind place call outcome old new = (name : List ℕ) → known_in new name ≡ or_known (known_in old name) (told_by kind place call outcome name)

-- the name stands for this, where it stood for nothing, and other names stand for what they did
abbrev pub AddsName : List ℕ → Known → Table → Table → Type 0
AddsName name known old new = (other : List ℕ) → known_in new other ≡ or_known (known_in old other) (if bytes_eq name other then Some known else None)

-- each name stands for what it did
abbrev pub TellsSame : Table → Table → Type 0
TellsSame old new = (name : List ℕ) → known_in new name ≡ known_in old name

-- in both tables
pub record TellSame (old new : Names) : Type 0 where
  pub endpoints : TellsSame old.endpoints new.endpoints
  pub sequences : TellsSame old.sequences new.sequences

pub record HasLearnt (place : ℕ) (call : NamedCall) (outcome : Outcome) (old new : Names) : Type 0 where
  pub endpoints : Adds endpoints place call outcome old.endpoints new.endpoints
  pub sequences : Adds sequences place call outcome old.sequences new.sequences

-- the number, where the line that defined it stands before this place
abbrev pub number_before : ℕ → Option Known → Option ℕ
number_before place None = None
number_before place (Some k) = if nat_lt k.place place then Some k.number else None

-- the first of two, where there is one
abbrev pub or_number : Option ℕ → Option ℕ → Option ℕ
or_number None other = other
or_number (Some n) other = Some n

-- the number of a name of a line at this place, by the worker's own table and then by worker 0's
abbrev pub first_number : ℕ → Table → Table → List ℕ → Option ℕ
first_number place own setup name = or_number (number_before place (known_in own name)) (number_before place (known_in setup name))

-- what such a name stands for, also where it has no number
abbrev pub stands_for : Kind → ℕ → Table → Table → List ℕ → ℕ
stands_for kind place own setup name = unwrap_or (first_number place own setup name) (kind.number None)

-- what the names of a line at this place stand for, by what its worker and worker 0 know
abbrev pub meanings_before : ℕ → Names → Names → Meanings
meanings_before place own setup = record {
  fd = λ name. record { 0 = stands_for endpoints place own.endpoints setup.endpoints name };
  seq = λ name. record { 0 = stands_for sequences place own.sequences setup.sequences name };
}

-- what the names of a line in this scope stand for
abbrev pub meanings_in : Scope → Meanings
meanings_in s = meanings_before s.place s.own.now s.setup.now
