-- The want of a call's step, in a value with bounded fields.
use Rattle.std.specs.Prelude.{◌≡◌, ◌<◌, ◌≤◌, ◌^◌, ℕ, true, List, length, Some, None}
use Rattle.xti_base.specs.declared.kinds.Fd.{Fd}
use Rattle.xti_base.specs.declared.limits.TheConstants.{MOST_ADDRESS}
use Rattle.xti_model.specs.declared.call.Call.{Call}
use Rattle.xti_model.specs.declared.entry.Go.{Go}
use Rattle.xti_model.specs.declared.profile.Providers.{Providers}
use Rattle.xti_model.specs.Profile.{valid}
use Rattle.xti_model.specs.Spot.{spot_bytes}
use Rattle.xti_model.specs.Step.{is_blocked}
use Rattle.xti_model.specs.Wants as wants
use Rattle.xti_model.specs.Wants.{HasLeft, is_want_blocked}
use Rattle.xti_model.specs.World.{World}
use Rattle.xti_wants.specs.declared.want.Want.{Want}
use Rattle.xti_wants.specs.declared.want.WantKind.{WantKind}
use Rattle.xti_wants.specs.Meaning.{meaning}

-- the fields are these, where so many bytes have 32 bits, and the destination is no longer than an address
pub record IsMade (kind : WantKind) (fd : Fd) (left flags : ℕ) (to : List ℕ) (w : Want) : Type 0 where
  pub kind_is : w.kind ≡ kind
  pub fd_is : w.fd ≡ fd
  pub left_is : left < 2 ^ 32 → w.left ≡ left
  pub flags_is : w.flags ≡ flags
  pub to_is : length to ≤ MOST_ADDRESS → spot_bytes w.to ≡ to

-- the step has a want; where fewer than 2^32 bytes are left to send and the destination is no longer than an address, it is this one
abbrev pub IsWant : Call → Go → Want → Type 0
IsWant c g w = (v : wants.Want) × (wants.want_of c g ≡ Some v) × (v.left < 2 ^ 32 → length v.to ≤ MOST_ADDRESS → meaning w ≡ v)

-- a step that is blocked has a want
abbrev pub BlockedHasWant : Providers → World → Call → Go → Type 0
BlockedHasWant p w c g = HasLeft c g → is_blocked p w c g ≡ true → wants.want_of c g ≡ None → ⊥

-- and the want is blocked
abbrev pub BlockedIsWanted : Providers → World → Call → Go → Type 0
BlockedIsWanted p w c g =
    valid p ≡ true → HasLeft c g → is_blocked p w c g ≡ true → (x : Want) → IsWant c g x → is_want_blocked p w (meaning x) ≡ true
