-- What contracts see of one who makes calls.
use Rattle.std.specs.Prelude.{◌≡◌, ℕ, true, Bool, List, None, is_none}
use mathlib.Core.List.{IsPrefix}
use Rattle.xti_model.specs.declared.entry.Entry.{Entry}
use Rattle.xti_model.specs.declared.profile.Providers.{Providers}
use Rattle.xti_model.specs.History.{Legal, own, unfinished_from}
use Rattle.xti_model.specs.Profile.{valid}
use Rattle.xti_model.specs.SentBytes.{AllSendBytes}

-- the providers, the caller's number, the history as far as it has seen it, its own entries in that, and whether it has no
-- unfinished call
pub record Sight : Type 0 where
  pub providers : Providers
  pub number : ℕ
  pub seen : List Entry
  pub mine : List Entry
  pub free : Bool

-- the providers are valid; what was seen is a legal history, in which what is sent on connections is bytes; the caller's own
-- entries are its own part of that, and it is free where they leave no call unfinished
pub record IsStanding (s : Sight) : Type 0 where
  pub valid_providers : valid s.providers ≡ true
  pub legal : Legal s.providers s.seen
  pub bytes : AllSendBytes s.seen
  pub mine : own s.seen s.number ≡ s.mine
  pub free : s.free ≡ is_none (unfinished_from None None s.mine)

-- the same caller later: what was seen before is a prefix of what is seen now
pub record Later (s t : Sight) : Type 0 where
  pub providers : t.providers ≡ s.providers
  pub number : t.number ≡ s.number
  pub seen : IsPrefix s.seen t.seen
