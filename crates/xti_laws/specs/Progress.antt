-- How far a send has come, as its steps tell it.
use Rattle.std.specs.Prelude.{ℕ, ◌<◌, ◌≤◌, ◌≡◌, length}
use Rattle.std.specs.List.{concat}
use Rattle.xti_model.specs.declared.call.Call.{Call}
use Rattle.xti_model.specs.declared.call.Call.TheVariants as call
use Rattle.xti_model.specs.declared.entry.Go.{Go}
use Rattle.xti_model.specs.declared.entry.Go.TheVariants as go
use Rattle.xti_model.specs.declared.entry.Outcome.{Outcome}
use Rattle.xti_model.specs.declared.entry.Outcome.TheVariants.{Done, Part}
use Rattle.xti_model.specs.declared.entry.Reply.TheVariants.{Sent}
use Rattle.xti_model.specs.History.{taken_before}

-- a part goes on and leaves bytes; a send that is done tells at least what was taken before, and at most all its bytes
abbrev pub GoesOn : ℕ → ℕ → Outcome → Type 0
GoesOn total before (Part n) = (before < n) × (n < total)
GoesOn total before (Done (Sent n)) = (before ≤ n) × (n ≤ total)
GoesOn total before (Done other) = Unit {0}

-- a request is a part where it waits for its answer, and tells no bytes
abbrev pub IsRequest : Outcome → Type 0
IsRequest (Part n) = n ≡ 0
IsRequest (Done (Sent n)) = ⊥
IsRequest (Done other) = Unit {0}

-- no part and no number of bytes
abbrev pub IsWhole : Outcome → Type 0
IsWhole (Part n) = ⊥
IsWhole (Done (Sent n)) = ⊥
IsWhole (Done other) = Unit {0}

-- what each call tells of its progress, where no more bytes were taken before than it has
abbrev pub Progress : Call → Go → Outcome → Type 0
Progress (call.TSnd fd bytes flags) g outcome = taken_before g ≤ length bytes → GoesOn (length bytes) (taken_before g) outcome
Progress (call.TSndV fd parts flags) g outcome = taken_before g ≤ length (concat parts) → GoesOn (length (concat parts)) (taken_before g) outcome
Progress (call.TConnect fd addr opt udata amax omax umax) go.Begin outcome = IsRequest outcome
Progress other g outcome = IsWhole outcome
