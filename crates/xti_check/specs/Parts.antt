-- Calls that are part way, by the places of the entries that began them.
use Rattle.std.specs.Prelude.{ℕ, List, slice_get, Option, Some, None}
use Rattle.xti_model.specs.declared.call.Call.{Call}
use Rattle.xti_model.specs.declared.entry.Act.{Act}
use Rattle.xti_model.specs.declared.entry.Act.TheVariants.{Begin, More}
use Rattle.xti_model.specs.declared.entry.Go.TheVariants as go
use Rattle.xti_model.specs.declared.entry.Entry.{Entry}
use Rattle.xti_model.specs.declared.entry.Outcome.{Outcome}
use Rattle.xti_model.specs.declared.entry.Outcome.TheVariants as outcome
use Rattle.xti_model.specs.History.{Going}
use Rattle.xti_check.specs.declared.going.Part.{Part}
use Rattle.xti_check.specs.declared.going.Going.{Going as Made}

abbrev pub call_of : Act → Option Call
call_of (Begin call) = Some call
call_of More = None

abbrev pub begun_by : Option Entry → Option Call
begun_by None = None
begun_by (Some e) = call_of e.act

-- the call that the entry at this place begins
abbrev pub call_at : List Entry → ℕ → Option Call
call_at entries place = begun_by (slice_get entries place)

abbrev pub part_of : Option Call → ℕ → Option Going
part_of None taken = None
part_of (Some call) taken = Some (record { call = call; so_far = go.More taken })

-- the call that is part way, and how far it has come
abbrev pub going_of : List Entry → Option Part → Option Going
going_of entries None = None
going_of entries (Some part) = part_of (call_at entries part.entry) part.taken

-- the same, as it is found
abbrev pub made : Option Made → Option Going
made None = None
made (Some m) = Some (record { call = m.call.now; so_far = m.go })

-- the place of the entry that began the call of the entry at this place
abbrev pub begun_at : Option Part → Act → ℕ → ℕ
begun_at None act place = place
begun_at (Some part) (Begin call) place = place
begun_at (Some part) More place = part.entry

-- what is left of the call that was begun there
abbrev pub left_after : ℕ → Outcome → Option Part
left_after entry (outcome.Done reply) = None
left_after entry (outcome.Part taken) = Some (record { entry = entry; taken = taken })
