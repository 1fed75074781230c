-- What all steps of a call tell its seat.
use Rattle.std.specs.Prelude.{◌≡◌, ℕ, List, [], ◌∷◌, ◌++◌, Option, Some, None}
use Rattle.std.specs.List.{AllByRecursion}
use Rattle.xti_model.specs.declared.call.Call.{Call}
use Rattle.xti_model.specs.declared.entry.Act.TheVariants as act
use Rattle.xti_model.specs.declared.entry.Go.{Go}
use Rattle.xti_model.specs.declared.entry.Go.TheVariants as go
use Rattle.xti_model.specs.declared.entry.Entry.{Entry}
use Rattle.xti_model.specs.declared.entry.Reply.{Reply}
use Rattle.xti_model.specs.declared.entry.Outcome.TheVariants.{Done, Part}
use Rattle.xti_model.specs.History.{Going, unfinished_from}
use Rattle.xti_model.specs.Robin.{act_of}
use Rattle.xti_model.specs.Step.{step}
use Rattle.xti_model.specs.History.{taken_before}
use Rattle.xti_hall_rule.specs.declared.view.View.{View}
use Rattle.xti_hall_rule.specs.declared.view.Mark.TheVariants.{Free, Resting}
use Rattle.xti_hall_rule.specs.Histories.{after}
use Rattle.xti_wants.specs.declared.want.Want.{Want}
use Rattle.xti_wants.specs.Wanted.{IsWant}
use Rattle.xti_hall.specs.declared.stall.Stall.{Stall}
use Rattle.xti_hall.specs.Stalls.{IsStall}
use Rattle.xti_calls.specs.declared.calling.Halt.{Halt}
use Rattle.xti_calls.specs.declared.calling.Halt.TheVariants.{OutOfMemory, Stalled}

-- what is unfinished where this is the next step of the call: nothing where it begins
abbrev pub going_at : Call → Go → Option Going
going_at c go.Begin = None
going_at c (go.More n) = Some (record { call = c; so_far = go.More n })

-- the next step of the call is the seat's next
abbrev pub IsAt : View → Call → Go → Type 0
IsAt v c g = unfinished_from None None v.mine ≡ going_at c g

-- the seat has begun the call and not finished it
abbrev pub IsUnfinished : View → Call → Type 0
IsUnfinished v c = (n : ℕ) × IsAt v c (go.More n)

-- how far the seat's unfinished call has come
abbrev pub so_far_in : Option Going → Go
so_far_in None = go.Begin
so_far_in (Some g) = g.so_far

abbrev pub where_left : View → Go
where_left v = so_far_in (unfinished_from None None v.mine)

abbrev pub IsMore : Entry → Type 0
IsMore e = e.act ≡ act.More

-- the step took bytes, and did not finish its call
abbrev pub IsPart : Entry → Type 0
IsPart e = (taken : ℕ) × (e.outcome ≡ Part taken)

-- steps of one call one after the other, from this one on
abbrev pub AreSteps : Call → Go → List Entry → Type 0
AreSteps c g [] = Unit {0}
AreSteps c g (e ∷ es) = (e.act ≡ act_of g c) × AllByRecursion IsMore es

-- all steps of the call that were left were made, parts and then the last one, which is the last entry that was seen, and answered
-- this; the seat goes about its calls
pub record Answered (v : View) (c : Call) (g : Go) (v' : View) (reply : Reply) : Type 0 where
  pub parts : List Entry
  pub last : Entry
  pub steps : AreSteps c g (parts ++ last ∷ [])
  pub are_parts : AllByRecursion IsPart parts
  pub mine : v'.mine ≡ v.mine ++ (parts ++ last ∷ [])
  pub outcome : last.outcome ≡ Done reply
  pub finished : unfinished_from None None v'.mine ≡ None
  pub before : List Entry
  pub ends : v'.seen ≡ before ++ last ∷ []
  pub free : v'.mark ≡ Free

-- the steps of the call that were made, if any, are all parts, and so many bytes are taken; the next is `so_far`
pub record Stopped (v : View) (c : Call) (g : Go) (v' : View) (taken : ℕ) : Type 0 where
  pub parts : List Entry
  pub steps : AreSteps c g parts
  pub are_parts : AllByRecursion IsPart parts
  pub mine : v'.mine ≡ v.mine ++ parts
  pub so_far : Go
  pub unmoved : parts ≡ [] → so_far ≡ g
  pub taken_is : taken ≡ taken_before so_far
  pub is_at : IsAt v' c so_far

-- the next step is blocked after what was seen, and each seat that is out rests there, or waits for what is blocked; the seat
-- counts as resting from now on
pub record StoppedAtStall (v : View) (c : Call) (g : Go) (v' : View) (taken : ℕ) (s : Stall) : Type 0 where
  pub stopped : Stopped v c g v' taken
  pub blocked : step v'.setting.providers (after v'.setting v'.seen) c stopped.so_far ≡ None
  pub want : Want
  pub want_is : IsWant c stopped.so_far want
  pub stall : IsStall v' want s
  pub rests : v'.mark ≡ Resting

abbrev pub Halted : View → Call → Go → View → Halt → Type 0
Halted v c g v' (OutOfMemory taken) = Stopped v c g v' taken
Halted v c g v' (Stalled taken stall) = StoppedAtStall v c g v' taken stall
