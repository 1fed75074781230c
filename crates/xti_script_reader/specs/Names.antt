-- The names that a line may use or define, by the lines before it.
use Rattle.std.specs.Prelude.{ℕ, ◌==◌, Bool, false, not, ◌&&◌, ◌||◌, List}
use Rattle.std.specs.List.{list_any}
use Rattle.xti_model.specs.declared.script.NamedCall.{NamedCall}
use Rattle.xti_model.specs.declared.script.Line.{Line}
use Rattle.xti_model.specs.Resolve.{opens, listens}
use Rattle.xti_script_reader.specs.Kinds.{Kind}
use Rattle.xti_script_reader.specs.Kinds.{Kind as kind}
use Rattle.xti_words.specs.Texts.{is_name}

-- where a line stands: the lines before it, and its worker
pub record Spot : Type 0 where
  pub earlier : List Line
  pub worker : ℕ

abbrev pub after : List Line → ℕ → Spot
after earlier worker = record { earlier = earlier; worker = worker }

-- which names a call defines: those of endpoints, or those of sequence numbers
abbrev pub Defining : Type 0
Defining = List ℕ → NamedCall → Bool

-- whether the line defines the name for the worker: it is the worker's own, or one of worker 0
abbrev pub defines : Defining → ℕ → List ℕ → Line → Bool
defines defining worker name line = ((line.worker == worker) || (line.worker == 0)) && defining name line.call

abbrev pub is_defined : Defining → Spot → List ℕ → Bool
is_defined defining s name = list_any (defines defining s.worker name) s.earlier

abbrev pub is_new : Defining → Spot → List ℕ → Bool
is_new defining s name = is_name name && not (is_defined defining s name)

-- whether the text is a name of this kind; the names of endpoints and those of sequence numbers are apart
abbrev pub can_name : Spot → Kind → List ℕ → Bool
can_name s kind.NewEndpoint text = is_new opens s text
can_name s kind.Endpoint text = is_defined opens s text
can_name s kind.NewSequence text = is_new listens s text
can_name s kind.Sequence text = is_defined listens s text
can_name s other text = false
