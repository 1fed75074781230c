-- Values before others, where no others are there or none of them could be read.
use Rattle.std.proofs.Common.{◌≡◌, ℕ, List, [], ◌∷◌, Some, None, refl}
use Rattle.xti_journal.specs.FieldValue.{Value}
use Rattle.xti_journal.specs.Unread.{all_before}

pub before_none : (values : List Value) (words : List (List ℕ)) → all_before values (Some ([], words)) ≡ Some (values, words)
before_none [] words = refl
before_none (v ∷ vs) words = rw (before_none vs words) refl

pub before_wrong : (values : List Value) → all_before values None ≡ None
before_wrong [] = refl
before_wrong (v ∷ vs) = rw (before_wrong vs) refl
