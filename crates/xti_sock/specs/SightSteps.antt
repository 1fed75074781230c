-- What all steps of a call tell the one who makes it.
use Rattle.std.specs.Prelude.{◌≡◌, ◌≤◌, ℕ, true, false, Bool, List, [], ◌∷◌, ◌++◌, length, take, Option, Some, None}
use Rattle.std.specs.List.{AllByRecursion}
use Rattle.xti_model.specs.declared.call.Call.{Call}
use Rattle.xti_model.specs.declared.call.Call.TheVariants as call
use Rattle.xti_model.specs.declared.entry.Act.TheVariants as act
use Rattle.xti_model.specs.declared.entry.Go.{Go}
use Rattle.xti_model.specs.declared.entry.Go.TheVariants as go
use Rattle.xti_model.specs.declared.entry.Entry.{Entry}
use Rattle.xti_model.specs.declared.entry.Reply.{Reply}
use Rattle.xti_model.specs.declared.entry.Outcome.TheVariants.{Done, Part}
use Rattle.xti_model.specs.History.{Going, unfinished_from, after, taken_before}
use Rattle.xti_model.specs.Robin.{act_of}
use Rattle.xti_model.specs.Step.{step}
use Rattle.xti_sock.specs.Sights.{Sight}

-- what is unfinished where this is the next step of the call: nothing where it begins
abbrev pub going_at : Call → Go → Option Going
going_at c go.Begin = None
going_at c (go.More n) = Some (record { call = c; so_far = go.More n })

abbrev pub IsMore : Entry → Type 0
IsMore e = e.act ≡ act.More

-- the step took bytes, and did not finish its call
abbrev pub IsPart : Entry → Type 0
IsPart e = (taken : ℕ) × (e.outcome ≡ Part taken)

-- steps of one call one after the other, from this one on
abbrev pub AreSteps : Call → Go → List Entry → Type 0
AreSteps c g [] = Unit {0}
AreSteps c g (e ∷ es) = (e.act ≡ act_of g c) × AllByRecursion IsMore es

-- requests and sends alone are made in parts
abbrev pub has_parts : Call → Bool
has_parts (call.TConnect fd addr opt udata amax omax umax) = true
has_parts (call.TSnd fd bytes flags) = true
has_parts (call.TSndV fd parts flags) = true
has_parts other = false

-- steps before the last one of the call
pub record AreParts (c : Call) (parts : List Entry) : Type 0 where
  pub each : AllByRecursion IsPart parts
  pub none : has_parts c ≡ false → parts ≡ []

-- all steps of the call were made; the last one is the last entry that was seen, and answered this
pub record Answered (c : Call) (s t : Sight) (reply : Reply) : Type 0 where
  pub parts : List Entry
  pub last : Entry
  pub are_parts : AreParts c parts
  pub steps : AreSteps c go.Begin (parts ++ last ∷ [])
  pub mine : t.mine ≡ s.mine ++ (parts ++ last ∷ [])
  pub outcome : last.outcome ≡ Done reply
  pub before : List Entry
  pub ends : t.seen ≡ before ++ last ∷ []

-- the steps of the call that were made, if any, are all parts, and so many bytes are taken; the next is `so_far`
pub record Stopped (c : Call) (s t : Sight) (taken : ℕ) : Type 0 where
  pub parts : List Entry
  pub are_parts : AreParts c parts
  pub steps : AreSteps c go.Begin parts
  pub mine : t.mine ≡ s.mine ++ parts
  pub so_far : Go
  pub unmoved : parts ≡ [] → so_far ≡ go.Begin
  pub taken_is : taken ≡ taken_before so_far
  pub is_at : unfinished_from None None t.mine ≡ going_at c so_far

-- the next step is blocked after so many first entries, which are no fewer than were seen before the call
pub record StoppedAtStall (c : Call) (s t : Sight) (taken at : ℕ) : Type 0 where
  pub stopped : Stopped c s t taken
  pub later : length s.seen ≤ at
  pub within : at ≤ length t.seen
  pub blocked : step t.providers (after t.providers (take at t.seen)) c stopped.so_far ≡ None
