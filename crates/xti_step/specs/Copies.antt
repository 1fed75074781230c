-- What is copied of a step whose entry is kept.
use Rattle.std.specs.Prelude.{◌≡◌, Bool, true, false, Box, Option, Some, None}
use Rattle.std.specs.declared.alloc.Global.{Global}
use Rattle.xti_model.specs.declared.call.Call.{Call}
use Rattle.xti_model.specs.declared.entry.Act.{Act}
use Rattle.xti_model.specs.declared.entry.Entry.{Entry}
use Rattle.xti_model.specs.declared.entry.Go.{Go}
use Rattle.xti_model.specs.Robin.{act_of}
use Rattle.xti_laws.specs.Replies.{Lengths, lengths_of}
use Rattle.xti_hall_rule.specs.declared.view.View.{View}
use Rattle.xti_hall.specs.declared.made_step.MadeStep.{MadeStep}

-- what the entry shows of the call, and room for the reply
abbrev pub IsCopy : Call → Go → Box (Act × Lengths) Global → Type 0
IsCopy c g b = (b.value.0 ≡ act_of g c) × (b.value.1 ≡ lengths_of c)

-- the same, just where entries are kept
abbrev pub AreCopies : Bool → Call → Go → Option (Box (Act × Lengths) Global) → Type 0
AreCopies keeps c g (Some b) = (keeps ≡ true) × IsCopy c g b
AreCopies keeps c g None = keeps ≡ false

-- the seat's entry of this step, which shows of its call what was copied
abbrev pub entry_with : Box (Act × Lengths) Global → View → MadeStep → Entry
entry_with b v s = record { worker = v.number; act = b.value.0; outcome = s.outcome.now; after = s.after }
