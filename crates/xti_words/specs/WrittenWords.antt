-- Words of printed lines: each is written after the text that separates it from the word before, as " " or " addr=".
use Rattle.std.specs.Prelude.{ℕ, ℤ, ◌+◌, ◌/◌, ◌%◌, List, [], ◌∷◌, ◌++◌, codes, decimal, if◌then◌else◌, nat_lt}
use Rattle.std.specs.List.{flat_map}
use Rattle.std.specs.Fmt.{signed_decimal}

abbrev pub number_word : List ℕ → ℕ → List ℕ
number_word key n = key ++ decimal n

abbrev pub signed_word : List ℕ → ℤ → List ℕ
signed_word key n = key ++ signed_decimal n

abbrev pub hex_digit : ℕ → ℕ
hex_digit d = if nat_lt d 10 then 48 + d else 87 + d

abbrev pub hex_pair : ℕ → List ℕ
hex_pair b = hex_digit (b / 16) ∷ hex_digit (b % 16) ∷ []

-- two hexadecimal digits for each byte, after a text
abbrev pub pairs_word : List ℕ → List ℕ → List ℕ
pairs_word key bytes = key ++ flat_map hex_pair bytes

-- bytes as `x:` and two hexadecimal digits for each
abbrev pub octets_word : List ℕ → List ℕ → List ℕ
octets_word key bytes = key ++ codes "x:" ++ flat_map hex_pair bytes
