-- What a worker's names are known to stand for, and what its entries tell of them.
use Rattle.std.proofs.Common.{◌≡◌, ℕ, List, [], ◌∷◌, ◌++◌, length, Option, Some, None, sym, ap, ◌∙◌}
use Rattle.std.specs.Prelude.{slice_get}
use Rattle.xti_model.specs.declared.entry.Entry.{Entry}
use Rattle.xti_model.specs.declared.script.Line.{Line}
use Rattle.xti_model.specs.Resolve.{begun}
use Rattle.xti_replay.specs.declared.names.Known.{Known}
use Rattle.xti_replay.specs.declared.names.Names.{Names}
use Rattle.xti_replay.specs.Spots.{Spot, spots_of}
use Rattle.xti_replay.specs.Known.{Kind, endpoints, sequences, Table, known_in, known_by, or_known, Holds, Knows, Adds, HasLearnt}
use Rattle.xti_replay.proofs.Meanings.{told_at, known-nothing, known-more}

-- before any entry nothing is known
pub knows-nothing : (lines : List Line) (number : ℕ) (names : Names) → ((name : List ℕ) → known_in names.endpoints name ≡ None) → ((name : List ℕ) → known_in names.sequences name ≡ None) → Knows lines [] number names
knows-nothing lines number names e s = record {
  endpoints = λ name. e name ∙ sym (known-nothing endpoints name (spots_of lines number));
  sequences = λ name. s name ∙ sym (known-nothing sequences name (spots_of lines number));
}

-- whatever the lines are
pub knows-none : (lines more : List Line) (number : ℕ) (names : Names) → Knows lines [] number names → Knows more [] number names
knows-none lines more number names k =
    knows-nothing more number names (λ name. k.endpoints name ∙ known-nothing endpoints name (spots_of lines number)) (λ name. k.sequences name ∙ known-nothing sequences name (spots_of lines number))

-- no line was begun
pub knows-still : (lines : List Line) (past later : List Entry) (number : ℕ) (names : Names) → begun later number ≡ begun past number → Knows lines past number names → Knows lines later number names
knows-still lines past later number names same k = record {
  endpoints = λ name. k.endpoints name ∙ ap (known_by endpoints name (spots_of lines number)) (sym same);
  sequences = λ name. k.sequences name ∙ ap (known_by sequences name (spots_of lines number)) (sym same);
}

holds-more : (kind : Kind) (lines : List Line) (past later : List Entry) (number : ℕ) (s : Spot) (e : Entry) (old new : Table) → slice_get (spots_of lines number) (length (begun past number)) ≡ Some s → begun later number ≡ begun past number ++ e ∷ []
    → Holds kind lines past number old → Adds kind s.place s.line.call e.outcome old new → Holds kind lines later number new
holds-more kind lines past later number s e old new at grown k a name =
    a name
    ∙ ap (λ (o : Option Known). or_known o (told_at kind name s e)) (k name)
    ∙ sym (known-more kind name (spots_of lines number) (begun past number) s e at)
    ∙ ap (known_by kind name (spots_of lines number)) (sym grown)

-- this line was begun
pub knows-more : (lines : List Line) (past later : List Entry) (number : ℕ) (s : Spot) (e : Entry) (old new : Names) → slice_get (spots_of lines number) (length (begun past number)) ≡ Some s → begun later number ≡ begun past number ++ e ∷ []
    → Knows lines past number old → HasLearnt s.place s.line.call e.outcome old new → Knows lines later number new
knows-more lines past later number s e old new at grown k h = record {
  endpoints = holds-more endpoints lines past later number s e old.endpoints new.endpoints at grown k.endpoints h.endpoints;
  sequences = holds-more sequences lines past later number s e old.sequences new.sequences at grown k.sequences h.sequences;
}
