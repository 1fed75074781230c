-- Sets of descriptors with the events that are asked of each.
use Rattle.std.specs.Prelude.{◌≡◌, ℕ, ◌<◌, ◌==◌, ◌&&◌, ◌||◌, Bool, true, false, not, List, [], ◌∷◌, length, get_or, nat_le, bit_or, sum_by, if◌then◌else◌}
use Rattle.xti_base.specs.declared.kinds.Fd.{Fd}
use Rattle.xti_base.specs.Kinds.{event_number}
use Rattle.xti_model.specs.Events.{events}
use Rattle.xti_poll.specs.declared.asked.Asked.{Asked}

-- the number has a bit, and each of its bits is the number of an event
abbrev pub are_events : ℕ → Bool
are_events n = not (n == 0) && (bit_or n (sum_by event_number events) == sum_by event_number events)

-- the pair is of this descriptor
abbrev pub is_of : Fd → Asked → Bool
is_of fd a = a.fd.0 == fd.0

-- a pair of the descriptor is there
abbrev pub has : Fd → List Asked → Bool
has fd [] = false
has fd (a ∷ s) = is_of fd a || has fd s

-- no descriptor stands in two pairs
abbrev pub are_apart : List Asked → Bool
are_apart [] = true
are_apart (a ∷ s) = not (has a.fd s) && are_apart s

-- the pair in the place of that of the same descriptor, else last
abbrev pub with_pair : Asked → List Asked → List Asked
with_pair x [] = x ∷ []
with_pair x (a ∷ s) = if is_of x.fd a then x ∷ s else a ∷ with_pair x s

-- without the pair of the descriptor
abbrev pub without : Fd → List Asked → List Asked
without fd [] = []
without fd (a ∷ s) = if is_of fd a then s else a ∷ without fd s

-- as many other descriptors are there as a set has at most
abbrev pub is_full_for : Fd → List Asked → Bool
is_full_for fd s = not (has fd s) && nat_le 64 (length s)

-- the first pair of the descriptor is in this place
pub record IsFirstOf (fd : Fd) (s : List Asked) (k : ℕ) : Type 0 where
  pub within : k < length s
  pub here : (d : Asked) → is_of fd (get_or s k d) ≡ true
  pub before : (j : ℕ) (d : Asked) → j < k → is_of fd (get_or s j d) ≡ false
