-- The first line by which a text is no script.
use Rattle.std.specs.Prelude.{◌≡◌, ℕ, ◌<◌, ◌⊎◌, List, [], ◌∷◌, ◌++◌, map, take, codes, Option, Some, None}
use Rattle.xti_model.specs.declared.profile.Providers.{Providers}
use Rattle.xti_model.specs.declared.profile.Version.{Version}
use Rattle.xti_model.specs.declared.script.Script.{Script}
use Rattle.xti_words.specs.Texts.{lines_of}
use Rattle.xti_script_reader.specs.Grammar.{first_line, HasHead, HasForm, IsScript}

abbrev pub some : List ℕ → Option (List ℕ)
some line = Some line

-- the lines of a text, and its end as one more
abbrev pub ended_lines : List ℕ → List (Option (List ℕ))
ended_lines text = map some (lines_of text) ++ None ∷ []

-- the form of a text of a script, or that and the limits
abbrev pub Form : Type 1
Form = Script → List ℕ → Type 0

-- a text of this form has the first n lines of the text
pub record CanBegin (form : Form) (text : List ℕ) (n : ℕ) : Type 0 where
  pub script : Script
  pub other : List ℕ
  pub has_form : form script other
  pub same : take n (ended_lines other) ≡ take n (ended_lines text)

-- n is the least number of first lines that no text of this form has
pub record IsLeast (form : Form) (text : List ℕ) (n : ℕ) : Type 0 where
  pub refused : CanBegin form text n → ⊥
  pub least : (m : ℕ) → m < n → CanBegin form text m

-- line 2 is `+++`, and begins no head: what stands up to the next `+++` is none, or there is no other `+++`
pub record HasWrongHead (text : List ℕ) : Type 0 where
  pub version : Version
  pub texts : List (List ℕ)
  pub begins : lines_of text ≡ first_line version ∷ codes "+++" ∷ texts
  pub wrong : (p : Providers) (rest : List (List ℕ)) → p.version ≡ version → HasHead p (codes "+++" ∷ texts) rest → ⊥

-- n is the first line by which the text isn't of this form: what is wrong in a head is so at line 2
abbrev pub IsFirst : Form → List ℕ → ℕ → Type 0
IsFirst form text n = (HasWrongHead text × (n ≡ 2)) ⊎ ((HasWrongHead text → ⊥) × IsLeast form text n)

-- whatever the limits
abbrev pub IsWrongAt : List ℕ → ℕ → Type 0
IsWrongAt = IsFirst HasForm

-- the first line by which the text is no script
abbrev pub IsRefusedAt : List ℕ → ℕ → Type 0
IsRefusedAt = IsFirst IsScript
