-- Scripts, as a relation between a script and its text. A line is judged after the earlier lines.
use Rattle.std.specs.Prelude.{◌≡◌, ℕ, ◌≤◌, nat_le, ◌==◌, ◌⊎◌, Bool, true, false, not, ◌&&◌, List, [], ◌∷◌, ◌++◌, length, codes, Some}
use Rattle.std.specs.List.{filter, list_all, list_any}
use Rattle.std.specs.Str.{bytes_eq}
use Rattle.xti_base.specs.declared.limits.TheConstants.{LAST_WORKER, MOST_LINES, MOST_ARGUMENT_BYTES}
use Rattle.xti_model.specs.declared.script.NamedCall.{NamedCall}
use Rattle.xti_model.specs.declared.script.Line.{Line}
use Rattle.xti_model.specs.declared.script.Script.{Script}
use Rattle.xti_model.specs.Profile.{usual_of}
use Rattle.xti_model.specs.declared.profile.Providers.{Providers}
use Rattle.xti_model.specs.declared.profile.Version.{Version}
use Rattle.xti_model.specs.declared.profile.Version.TheVariants.{One, Two}
use Rattle.xti_model.specs.Work.{script_bytes}
use Rattle.xti_head.specs.Head.{head_of}
use Rattle.xti_script_reader.specs.FieldValue.{Value}
use Rattle.xti_verbs.specs.declared.verb.Verb.{Verb}
use Rattle.xti_script_reader.specs.Names.{Spot, after}
use Rattle.xti_words.specs.Texts.{lines_of, text_of, words_of, is_ascii}
use Rattle.xti_words.specs.Values.{number_in}
use Rattle.xti_script_reader.specs.Fields.{AreFields}
use Rattle.xti_verbs.specs.Verbs.{is_in_texts, verb_word}
use Rattle.xti_script_reader.specs.Calls.{form, call_with}

-- the first line, by which a text has its version
abbrev pub first_line : Version → List ℕ
first_line One = codes "xti-script 1"
first_line Two = codes "xti-script 2"

-- the words of a call of a line there: the word of a call that scripts of the version have, and its fields
pub record IsCall (version : Version) (s : Spot) (call : NamedCall) (words : List (List ℕ)) : Type 0 where
  pub verb : Verb
  pub fields : List (List ℕ)
  pub values : List Value
  pub in_texts : is_in_texts version verb ≡ true
  pub spelled : words ≡ verb_word verb ∷ fields
  pub are_fields : AreFields s (form verb) values fields
  pub made : call_with verb values ≡ Some call

-- a worker, and a call
pub record IsLine (version : Version) (earlier : List Line) (line : Line) (text : List ℕ) : Type 0 where
  pub number : List ℕ
  pub words : List (List ℕ)
  pub split : words_of text ≡ number ∷ words
  pub worker : number_in number ≡ Some line.worker
  pub is_worker : line.worker ≤ LAST_WORKER
  pub call : IsCall version (after earlier line.worker) line.call words

-- each line has a worker
abbrev pub HaveWorkers : List Line → Type 0
HaveWorkers lines = list_all (λ line. nat_le line.worker LAST_WORKER) lines ≡ true

-- these lines, one after the other
abbrev pub AreLines : Version → List Line → List Line → List (List ℕ) → Type 0
AreLines version earlier [] [] = Unit {0}
AreLines version earlier (line ∷ lines) (text ∷ texts) = IsLine version earlier line text × AreLines version (earlier ++ line ∷ []) lines texts
AreLines version earlier [] (text ∷ texts) = ⊥
AreLines version earlier (line ∷ lines) [] = ⊥

-- passed over are empty lines, and comments: ASCII that begins with `#`
abbrev pub is_passed : List ℕ → Bool
is_passed [] = true
is_passed (c ∷ cs) = (c == 35) && is_ascii (c ∷ cs)

abbrev pub calls_in : List (List ℕ) → List (List ℕ)
calls_in texts = filter (λ text. not (is_passed text)) texts

-- `+++` stands before a head and after it
abbrev pub is_mark : List ℕ → Bool
is_mark text = bytes_eq text (codes "+++")

-- the lines begin with a head, which gives these values and ends at the next `+++`; others follow
pub record HasHead (p : Providers) (texts rest : List (List ℕ)) : Type 0 where
  pub head : List (List ℕ)
  pub split : texts ≡ codes "+++" ∷ (head ++ codes "+++" ∷ rest)
  pub next : list_any is_mark head ≡ false
  pub gives : head_of p.version (text_of head) ≡ Some p

-- the lines have no head
abbrev pub HasNoHead : Providers → List (List ℕ) → List (List ℕ) → Type 0
HasNoHead p texts rest = (p ≡ usual_of p.version) × (texts ≡ rest)

-- the form of scripts, whatever the limits: the first line of the version, a head or none, and the lines of calls
pub record HasForm (s : Script) (text : List ℕ) : Type 0 where
  pub texts : List (List ℕ)
  pub rest : List (List ℕ)
  pub first : lines_of text ≡ first_line s.providers.version ∷ texts
  pub head : HasHead s.providers texts rest ⊎ HasNoHead s.providers texts rest
  pub lines : AreLines s.providers.version [] s.lines (calls_in rest)

-- the limits count calls alone
pub record IsSmall (lines : List Line) : Type 0 where
  pub few_lines : length lines ≤ MOST_LINES
  pub few_bytes : script_bytes lines ≤ MOST_ARGUMENT_BYTES

-- a script and its text
pub record IsScript (s : Script) (text : List ℕ) : Type 0 where
  pub form : HasForm s text
  pub small : IsSmall s.lines

-- a script that has a text
abbrev pub HasText : Script → Type 0
HasText s = (text : List ℕ) × IsScript s text
