-- What a source that tells its bytes gives.
use Rattle.std.specs.Prelude.{◌≡◌, ℕ, ◌+◌, ◌<◌, ◌≤◌, List, [], ◌++◌, length, take, Option, Some, None, Result, Ok, Err}

-- these bytes went from the start of what was left
abbrev pub Gives : Option (List ℕ) → Option (List ℕ) → List ℕ → Type 0
Gives None now front = Unit {0}
Gives (Some bytes) now front = (rest : List ℕ) × (now ≡ Some rest) × (bytes ≡ front ++ rest)

-- at most so many bytes went from the start of what was left
abbrev pub GivesUpTo : ℕ → Option (List ℕ) → Option (List ℕ) → Type 0
GivesUpTo most before now = (front : List ℕ) × (length front ≤ most) × Gives before now front

-- so many bytes went from it
abbrev pub GivesCount : ℕ → Option (List ℕ) → Option (List ℕ) → Type 0
GivesCount count before now = (front : List ℕ) × (length front ≡ count) × Gives before now front

-- more bytes than the limit, by one, went from what a source had left
abbrev pub GivesOver : {S : Type 0} → (S → Option (List ℕ)) → ℕ → S → S → Type 0
GivesOver left limit before now = GivesCount (limit + 1) (left before) (left now)

-- at least one byte went from it
abbrev pub GivesSome : Option (List ℕ) → Option (List ℕ) → Type 0
GivesSome before now = (front : List ℕ) × (0 < length front) × Gives before now front

-- the same of what a source had left
abbrev pub GivesAny : {S : Type 0} → (S → Option (List ℕ)) → S → S → Type 0
GivesAny left before now = GivesSome (left before) (left now)

-- nothing is left
abbrev pub IsAtEnd : Option (List ℕ) → Type 0
IsAtEnd None = Unit {0}
IsAtEnd (Some bytes) = bytes ≡ []

-- something is left
abbrev pub HasMore : Option (List ℕ) → Type 0
HasMore None = Unit {0}
HasMore (Some bytes) = 0 < length bytes

-- one read: the next bytes come to the start of the buffer, and an Ok is 0 exactly at the end; after an Err all is as before
abbrev pub Reads : {E : Type 0} → Option (List ℕ) → Option (List ℕ) → Result ℕ E → List ℕ → Type 0
Reads before now (Ok n) buf = (n ≤ length buf) × Gives before now (take n buf) × (n ≡ 0 → IsAtEnd before) × (0 < n → HasMore before)
Reads before now (Err e) buf = now ≡ before

-- these bytes are all that was left
abbrev pub GivesAll : Option (List ℕ) → Option (List ℕ) → List ℕ → Type 0
GivesAll None now all = Unit {0}
GivesAll (Some bytes) now all = (now ≡ Some []) × (bytes ≡ all)
