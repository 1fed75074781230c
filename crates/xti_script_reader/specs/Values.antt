-- What a word of a line stands for as a value of a field.
use Rattle.std.specs.Prelude.{ℕ, Bool, true, false, List, codes, Option, Some, None, option_map}
use Rattle.std.specs.Str.{bytes_eq}
use Rattle.xti_model.specs.Resolve.{listens}
use Rattle.xti_words.specs.Values.{number_in, bytes_in, list_in, options_in, provider_in, mode_in, action_in}
use Rattle.xti_script_reader.specs.Kinds.{Kind}
use Rattle.xti_script_reader.specs.Kinds.{Kind as kind}
use Rattle.xti_script_reader.specs.FieldValue.{Value}
use Rattle.xti_script_reader.specs.FieldValue.{Value as value}
use Rattle.xti_script_reader.specs.Names.{Spot, is_defined, can_name}

abbrev pub named : Bool → List ℕ → Option Value
named true text = Some (value.Name text)
named false text = None

-- `-` for no sequence number
abbrev pub sequence_or_none : Bool → Bool → List ℕ → Option Value
sequence_or_none true known text = Some (value.NameOrNone None)
sequence_or_none false true text = Some (value.NameOrNone (Some text))
sequence_or_none false false text = None

-- what a text of a line there stands for as this kind of value
abbrev pub value_in : Spot → Kind → List ℕ → Option Value
value_in s kind.Bytes text = option_map value.Bytes (bytes_in text)
value_in s kind.Options text = option_map value.Bytes (options_in text)
value_in s kind.Number text = option_map value.Number (number_in text)
value_in s kind.Parts text = option_map value.Parts (list_in bytes_in text)
value_in s kind.Sizes text = option_map value.Sizes (list_in number_in text)
value_in s kind.SequenceOrNone text = sequence_or_none (bytes_eq text (codes "-")) (is_defined listens s text) text
value_in s kind.Provider text = option_map value.Provider (provider_in text)
value_in s kind.Mode text = option_map value.Mode (mode_in text)
value_in s kind.Action text = option_map value.Number (action_in text)
value_in s name text = named (can_name s name text) text
