-- What words stand for: numbers, bytes, several of them, options, providers, modes and actions.
use Rattle.std.specs.Prelude.{ℕ, ◌+◌, ◌-◌, ◌*◌, ◌%◌, ◌==◌, Bool, true, false, not, ◌&&◌, nat_eq, nat_lt, nat_le, List, [], ◌∷◌, length, drop, map, find, codes, Option, Some, None, if◌then◌else◌, option_map}
use Rattle.std.specs.List.{list_all, starts_with, range_with_len}
use Rattle.std.specs.Str.{bytes_eq}
use Rattle.xti_base.specs.declared.kinds.Prov.{Prov}
use Rattle.xti_base.specs.declared.kinds.Prov.TheVariants.{Ticots, Ticotsord, Ticlts, Other}
use Rattle.xti_base.specs.declared.options.Opt.{Opt}
use Rattle.xti_base.specs.declared.limits.TheConstants.{MOST_SEND}
use Rattle.xti_base.specs.Kinds.{prov_name}
use Rattle.xti_base.specs.Negotiation.{t_negotiate, t_check, t_default, t_current}
use Rattle.xti_base.specs.Options.{word_bytes, options_bytes}
use Rattle.xti_words.specs.declared.values.TheConstants.{MOST_PIECES}
use Rattle.xti_words.specs.Texts.{pieces_of, is_digit, is_plain_text}

-- the number of the digits, after a number
abbrev pub decimal_behind : ℕ → List ℕ → ℕ
decimal_behind n [] = n
decimal_behind n (c ∷ cs) = decimal_behind (n * 10 + (c - 48)) cs

abbrev pub decimal : List ℕ → ℕ
decimal digits = decimal_behind 0 digits

-- at least one digit, and no zero before others
abbrev pub is_decimal : List ℕ → Bool
is_decimal [] = false
is_decimal (c ∷ []) = is_digit c
is_decimal (c ∷ d ∷ cs) = not (c == 48) && list_all is_digit (c ∷ d ∷ cs)

-- a number is decimal without leading zeros, and fits 32 bits
unfoldable pub number_in : List ℕ → Option ℕ
number_in word = if is_decimal word && nat_lt (decimal word) 4294967296 then Some (decimal word) else None

-- 0 to 9 and a to f
abbrev pub hex_digit : ℕ → Option ℕ
hex_digit c = if is_digit c then Some (c - 48) else if nat_le 97 c && nat_le c 102 then Some (c - 87) else None

abbrev pub hex_pair : Option ℕ → Option ℕ → Option ℕ
hex_pair (Some high) (Some low) = Some (high * 16 + low)
hex_pair (Some high) None = None
hex_pair None low = None

-- a value before others, where each has one
abbrev pub onto : {A : Type 0} → Option A → Option (List A) → Option (List A)
onto None others = None
onto (Some x) None = None
onto (Some x) (Some xs) = Some (x ∷ xs)

-- two digits are a byte
abbrev pub hex_bytes : List ℕ → Option (List ℕ)
hex_bytes [] = Some []
hex_bytes (c ∷ []) = None
hex_bytes (c ∷ d ∷ digits) = onto (hex_pair (hex_digit c) (hex_digit d)) (hex_bytes digits)

abbrev pub plain_bytes : List ℕ → Option (List ℕ)
plain_bytes text = if is_plain_text text then Some text else None

-- the bytes i mod 256 for each i from 0 below the number
abbrev pub counted : ℕ → List ℕ
counted n = map (λ i. i % 256) (range_with_len 0 n)

abbrev pub counted_bytes : Option ℕ → Option (List ℕ)
counted_bytes None = None
counted_bytes (Some n) = if nat_le n MOST_SEND then Some (counted n) else None

-- `t:` and plain text, `x:` and pairs of hexadecimal digits, or `f:` and how many bytes to count
unfoldable pub bytes_in : List ℕ → Option (List ℕ)
bytes_in word =
    if starts_with nat_eq word (codes "t:") then plain_bytes (drop 2 word) else
    if starts_with nat_eq word (codes "x:") then hex_bytes (drop 2 word) else
    if starts_with nat_eq word (codes "f:") then counted_bytes (number_in (drop 2 word)) else None

-- what the pieces stand for, where each stands for something
abbrev pub each_in : {A : Type 0} → (List ℕ → Option A) → List (List ℕ) → Option (List A)
each_in in_piece [] = Some []
each_in in_piece (piece ∷ pieces) = onto (in_piece piece) (each_in in_piece pieces)

-- one or more, separated by commas, within the limit
unfoldable pub list_in : {A : Type 0} → (List ℕ → Option A) → List ℕ → Option (List A)
list_in in_piece word = if nat_le (length (pieces_of 44 word)) MOST_PIECES then each_in in_piece (pieces_of 44 word) else None

-- ---- options

-- an option of this level and name with status 0, and the value as one word or none
abbrev pub plain_option : Option ℕ → Option ℕ → List ℕ → Option Opt
plain_option None name value = None
plain_option (Some level) None value = None
plain_option (Some level) (Some name) value = Some (record { level = level; name = name; status = 0; value = value })

abbrev pub valued_option : Option ℕ → Option ℕ → Option ℕ → Option Opt
valued_option level name None = None
valued_option level name (Some value) = plain_option level name (word_bytes value)

-- the pieces around the sign of equality
abbrev pub option_at : Option ℕ → List (List ℕ) → Option Opt
option_at level (name ∷ []) = plain_option level (number_in name) []
option_at level (name ∷ value ∷ []) = valued_option level (number_in name) (number_in value)
option_at level other = None

-- the option of this level, and of the name and the value that a sign of equality parts
abbrev pub option_with : List ℕ → List ℕ → Option Opt
option_with level others = option_at (number_in level) (pieces_of 61 others)

-- the pieces around the slash
abbrev pub option_of : List (List ℕ) → Option Opt
option_of (level ∷ others ∷ []) = option_with level others
option_of other = None

-- `LEVEL/NAME=VALUE`, or `LEVEL/NAME`
unfoldable pub option_in : List ℕ → Option Opt
option_in piece = option_of (pieces_of 47 piece)

-- `o:` and one or more options, separated by commas, or another byte word
unfoldable pub options_in : List ℕ → Option (List ℕ)
options_in word =
    if starts_with nat_eq word (codes "o:") then option_map options_bytes (each_in option_in (pieces_of 44 (drop 2 word))) else bytes_in word

-- ---- words without a key

unfoldable pub provider_in : List ℕ → Option Prov
provider_in text = find (λ prov. bytes_eq text (prov_name prov)) (Ticots ∷ Ticotsord ∷ Ticlts ∷ Other ∷ [])

unfoldable pub mode_in : List ℕ → Option Bool
mode_in text = if bytes_eq text (codes "nonblock") then Some true else if bytes_eq text (codes "block") then Some false else None

-- an action by its name, or by a number
unfoldable pub action_in : List ℕ → Option ℕ
action_in text =
    if bytes_eq text (codes "negotiate") then Some t_negotiate else
    if bytes_eq text (codes "check") then Some t_check else
    if bytes_eq text (codes "default") then Some t_default else
    if bytes_eq text (codes "current") then Some t_current else number_in text
