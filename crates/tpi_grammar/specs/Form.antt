-- A form that is read byte by byte, and what an input has of a text of that form at its start.
use Rattle.std.specs.Prelude.{◌≡◌, ◌≤◌, ◌<◌, ℕ, suc, Bool, true, List, [], ◌∷◌, ◌++◌, length, take, if◌then◌else◌}

-- what may come next: nothing, or a byte that passes a test, with what follows it
pub data Form : Type 0 where
  done : Form
  byte : (ℕ → Bool) → (ℕ → Form) → Form

-- the text is of the form
abbrev pub In : Form → List ℕ → Type 0
In done [] = Unit {0}
In done (b ∷ bs) = ⊥
In (byte ok next) [] = ⊥
In (byte ok next) (b ∷ bs) = (ok b ≡ true) × In (next b) bs

-- wherever a byte must come, one may
abbrev pub Live : Form → Type 0
Live done = Unit {0}
Live (byte ok next) = ((b : ℕ) × (ok b ≡ true)) × ((b : ℕ) → ok b ≡ true → Live (next b))

-- some text of the form begins so
abbrev pub Begins : Form → List ℕ → Type 0
Begins f bs = (more : List ℕ) × In f (bs ++ more)

-- what is at the start of an input: a text of so many bytes; the start of one; or neither, from this place on
pub data Outcome : Type 0 where
  whole : ℕ → Outcome
  short : Outcome
  bad : ℕ → Outcome

-- the same, told one byte earlier
abbrev pub later : Outcome → Outcome
later (whole n) = whole (suc n)
later short = short
later (bad n) = bad (suc n)

-- how a form is read
abbrev pub scan : Form → List ℕ → Outcome
scan done bs = whole 0
scan (byte ok next) [] = short
scan (byte ok next) (b ∷ bs) = if ok b then later (scan (next b) bs) else bad 0

-- no text of the form is a prefix of the input
abbrev pub HasNone : Form → List ℕ → Type 0
HasNone f bs = (n : ℕ) → n ≤ length bs → In f (take n bs) → ⊥

-- what an outcome says: the first n bytes are of the form; the input is a proper prefix of a text of the form; or no text of
-- the form is a prefix of it, and `at` is the first place such that none begins with the bytes up to and with it
abbrev pub Means : Form → List ℕ → Outcome → Type 0
Means f bs (whole n) = (n ≤ length bs) × In f (take n bs)
Means f bs short = Begins f bs × HasNone f bs
Means f bs (bad at) = (at < length bs) × Begins f (take at bs) × (Begins f (take (suc at) bs) → ⊥) × HasNone f bs
