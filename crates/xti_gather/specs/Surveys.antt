-- What a survey of descriptors tells its seat.
use Rattle.std.specs.Prelude.{ℕ, List, map, Option}
use Rattle.xti_base.specs.declared.kinds.Fd.{Fd}
use Rattle.xti_core.specs.Looks.{events_in}
use Rattle.xti_hall_rule.specs.declared.view.View.{View}
use Rattle.xti_hall_rule.specs.Histories.{after}

-- the sum of the numbers of the events that are pending at the descriptor, in the world after what the seat has seen; none
-- where no endpoint is open with it there
abbrev pub events_after : View → Fd → Option ℕ
events_after v fd = events_in v.setting.providers (after v.setting v.seen) fd.0

-- the same of each of these descriptors, in order, all in that world
abbrev pub all_events_after : View → List Fd → List (Option ℕ)
all_events_after v fds = map (events_after v) fds
