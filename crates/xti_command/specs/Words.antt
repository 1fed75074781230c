-- The words of the command line, over clap's own reading of them.
use Rattle.std.specs.Prelude.{◌≡◌, ◌<◌, ◌^◌, ℕ, Bool, true, false, ◌&&◌, nat_lt, length, List, [], ◌∷◌, Option, Some, None, if◌then◌else◌, codes, decimal, map, String, string_bytes, option_map, option_and_then}
use Rattle.std.specs.declared.alloc.Global.{Global}
use Rattle.std.specs.Char.{digit_value}
use Rattle.std.specs.List.{list_all}
use Rattle.std.specs.Str.{bytes_eq}
use Rattle.std.specs.Str.Parse.{digits_value, without_leading_plus}
use Rattle.clap.specs.Words.{App, Kinds, Row, Rule, Text, fault_of, first_of, matches_of, new_app, new_rule, takes, with_rule}
use Rattle.xti_command.specs.declared.command.Command.{Command}
use Rattle.clap.specs.declared.builder.action.ArgAction.TheVariants.{SetTrue}
use Rattle.xti_command.specs.declared.command.Command.TheVariants.{Read, Gen}
use Rattle.xti_command.specs.declared.command.Reading.{Reading}
use Rattle.xti_command.specs.declared.command.Reading.TheVariants.{Replay, Run, Check, Frames, Link, Sock}

-- the texts of strings
abbrev pub texts : List (String Global) → List Text
texts = map (λ s. string_bytes s)

-- a word that must stand
abbrev pub word_rule : Rule
word_rule = record (new_rule (codes "command")) { required = true }

-- the flag `--summary`
abbrev pub summary_rule : Rule
summary_rule = record (new_rule (codes "summary")) { long = Some (codes "summary"); action = Some SetTrue }

-- the option `--seed`
abbrev pub seed_rule : Rule
seed_rule = record (new_rule (codes "seed")) { long = Some (codes "seed") }

-- no name of a program stands before the words, and clap adds no flags of its own
abbrev pub bare_app : App
bare_app = record { top = record ((new_app (codes "xti")).top) { no_binary_name = true; disable_help_flag = true; disable_version_flag = true }; subs = [] }

-- the form of a command line: one word that must stand, the flag and the option
abbrev pub command_form : App
command_form = with_rule (with_rule (with_rule bare_app word_rule) summary_rule) seed_rule

-- what is wrong with the words, as clap finds it; nothing where it takes them
unfoldable pub faults_in : List Text → Kinds
faults_in words = fault_of command_form words

-- what clap finds in words that it takes
unfoldable pub found_in : List Text → List Row
found_in words = matches_of command_form words

-- clap takes the words
unfoldable pub is_taken : List Text → Bool
is_taken words = takes command_form words

-- these words are taken
abbrev pub AreTaken : List Text → Type 0
AreTaken words = is_taken words ≡ true

-- the flag stands, by the text that clap keeps of it
abbrev pub is_true : Option Text → Bool
is_true None = false
is_true (Some text) = bytes_eq text (codes "true")

-- decimal digits, one or more
abbrev pub are_digits : Text → Bool
are_digits text = nat_lt 0 (length text) && list_all (λ c. nat_lt (digit_value c) 10) text

-- the number of 64 bits that these digits write
abbrev pub number_of : Text → Option ℕ
number_of digits = if are_digits digits && nat_lt (digits_value 10 digits) (2 ^ 64) then Some (digits_value 10 digits) else None

-- the number of a seed; a plus may stand before its digits
abbrev pub seed_of : Text → Option ℕ
seed_of text = number_of (without_leading_plus text)

-- a reading beside which no seed may stand
abbrev pub without_seed : Reading → Option Text → Option Command
without_seed reading None = Some (Read reading)
without_seed reading (Some seed) = None

-- a reading beside which nothing may stand
abbrev pub alone : Reading → Bool → Option Text → Option Command
alone reading summary seed = if summary then None else without_seed reading seed

-- the command that generates, whose seed must stand
abbrev pub generating : Bool → Option Text → Option Command
generating summary None = None
generating summary (Some seed) = option_map (λ n. Gen n summary) (seed_of seed)

-- the command of a word, with the flag and the seed that stand beside it
abbrev pub named : Text → Bool → Option Text → Option Command
named word summary seed =
    if bytes_eq word (codes "replay") then without_seed (Replay summary) seed
    else if bytes_eq word (codes "run") then without_seed (Run summary) seed
    else if bytes_eq word (codes "check") then alone Check summary seed
    else if bytes_eq word (codes "frames") then alone Frames summary seed
    else if bytes_eq word (codes "link") then alone Link summary seed
    else if bytes_eq word (codes "sock") then without_seed (Sock summary) seed
    else if bytes_eq word (codes "gen") then generating summary seed
    else None

-- the command that stands in what clap found
abbrev pub command_in : List Row → Option Command
command_in rows =
    option_and_then (λ word. named word (is_true (first_of (codes "summary") rows)) (first_of (codes "seed") rows)) (first_of (codes "command") rows)

-- no command stands in what clap finds in these words
abbrev pub NamesNone : List Text → Type 0
NamesNone words = command_in (found_in words) ≡ None

abbrev pub unless_wrong : Kinds → Option Command → Option Command
unless_wrong [] command = command
unless_wrong (fault ∷ faults) command = None

-- the command that the words are
unfoldable pub command_of : List Text → Option Command
command_of words = unless_wrong (faults_in words) (command_in (found_in words))

-- `--summary` or nothing
abbrev pub summary_words : Bool → List Text
summary_words true = codes "--summary" ∷ []
summary_words false = []

-- the plain words of a command: its own name, and what it takes beside it
pub data IsPlain : List Text → Command → Type 0 where
  replay : (summary : Bool) → IsPlain (codes "replay" ∷ summary_words summary) (Read (Replay summary))
  run : (summary : Bool) → IsPlain (codes "run" ∷ summary_words summary) (Read (Run summary))
  check : IsPlain (codes "check" ∷ []) (Read Check)
  frames : IsPlain (codes "frames" ∷ []) (Read Frames)
  link : IsPlain (codes "link" ∷ []) (Read Link)
  sock : (summary : Bool) → IsPlain (codes "sock" ∷ summary_words summary) (Read (Sock summary))
  gen : (seed : ℕ) (summary : Bool) → seed < 2 ^ 64 → IsPlain (codes "gen" ∷ codes "--seed" ∷ decimal seed ∷ summary_words summary) (Gen seed summary)

-- this holds of the plain words of each command
abbrev pub OfPlainWords : (List Text → Command → Type 0) → Type 0
OfPlainWords holds = (words : List Text) (command : Command) → IsPlain words command → holds words command
