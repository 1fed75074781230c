-- ASCII is UTF-8.
use Rattle.std.proofs.Common.{◌≡◌, ℕ, zero, suc, ◌<◌, true, List, [], ◌∷◌, ltb, arith}
use Rattle.std.specs.Prelude.{slice_index}
use Rattle.std.specs.Str.{IsUtf8}
use Rattle.std.proofs.lemmas.Bool.{ltb-true, and_parts}
use Rattle.std.proofs.lemmas.Str.{IsUtf8-from_ascii}
use Rattle.xti_words.specs.Texts.{is_ascii}

byte_at : (text : List ℕ) → is_ascii text ≡ true → (i : ℕ) → slice_index text i < 128
byte_at [] h i = omega arith
byte_at (c ∷ text) h zero = ltb-true _ _ (and_parts (ltb c 128) (is_ascii text) h).0
byte_at (c ∷ text) h (suc i) = byte_at text (and_parts (ltb c 128) (is_ascii text) h).1 i

pub is_utf8 : (text : List ℕ) → is_ascii text ≡ true → IsUtf8 text
is_utf8 text h = IsUtf8-from_ascii text (byte_at text h)
