-- A word: four bytes, high byte first, whose value lies in one of some ranges.
use Rattle.std.specs.Prelude.{◌≡◌, ◌+◌, ◌*◌, ℕ, Bool, ◌&&◌, List, drop, nat_lt, nat_le}
use Rattle.std.specs.List.{list_any}
use Rattle.tpi_grammar.specs.Form.{Form, byte, Outcome, short, bad, later, scan}
use Rattle.tpi_grammar.specs.declared.word.Range.{Range}
use Rattle.tpi_grammar.specs.declared.word.WordRead.{WordRead}
use Rattle.tpi_grammar.specs.declared.word.WordRead.TheVariants.{Value, Short, Bad}

-- some number of the range lies among the `unit` numbers from x * unit on
abbrev pub meets : ℕ → ℕ → Range → Bool
meets unit x r = nat_lt r.low ((x + 1) * unit) && nat_le (x * unit) r.high

-- some range has such a number
abbrev pub viable : List Range → ℕ → ℕ → Bool
viable rs unit x = list_any (meets unit x) rs

-- the byte may follow bytes that encode x, where `unit` numbers begin with these bytes and the new one
abbrev pub may_follow : List Range → ℕ → ℕ → ℕ → Bool
may_follow rs unit x b = nat_lt b 256 && viable rs unit (256 * x + b)

-- a word in the ranges, and then what follows its value
unfoldable pub word : List Range → (ℕ → Form) → Form
word rs next = byte (may_follow rs 16777216 0) (λ a.
    byte (may_follow rs 65536 a) (λ b.
    byte (may_follow rs 256 (256 * a + b)) (λ c.
    byte (may_follow rs 1 (256 * (256 * a + b) + c)) (λ d.
    next (256 * (256 * (256 * a + b) + c) + d)))))

-- the same, told four bytes earlier
abbrev pub after_word : Outcome → Outcome
after_word o = later (later (later (later o)))

-- the same, told twelve bytes earlier
abbrev pub after_head : Outcome → Outcome
after_head o = after_word (after_word (after_word o))

-- what a word that was read so makes of the whole
abbrev pub goes : WordRead → (ℕ → Form) → List ℕ → Outcome
goes (Value v) next rest = after_word (scan (next v) rest)
goes Short next rest = short
goes (Bad at) next rest = bad at

-- reading a word in the ranges from the start of these bytes comes to this, whatever follows it
abbrev pub ReadsWord : List Range → List ℕ → WordRead → Type 0
ReadsWord rs bs read = (next : ℕ → Form) → scan (word rs next) bs ≡ goes read next (drop 4 bs)
