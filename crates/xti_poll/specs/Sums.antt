-- What sums of events' numbers tell of pairs.
use Rattle.std.specs.Prelude.{ℕ, List, [], ◌∷◌, map, Option, Some, None, find, bit_and}
use Rattle.xti_base.specs.declared.kinds.Event.{Event}
use Rattle.xti_model.specs.Events.{events}
use Rattle.xti_hall_rule.specs.declared.view.View.{View}
use Rattle.xti_gather.specs.Surveys.{events_after}
use Rattle.xti_poll.specs.declared.asked.Asked.{Asked}
use Rattle.xti_poll.specs.declared.found.Found.{Found}
use Rattle.xti_poll.specs.declared.found.Found.TheVariants as found
use Rattle.xti_poll.specs.Polls.{is_asked, told}

-- the first event, in the order in which events are shown, whose number is in both sums
abbrev pub first_in_both : ℕ → ℕ → Option Event
first_in_both pending asked = find (is_asked (bit_and pending asked)) events

-- what is told of a pair, where the events with this sum are pending, or no endpoint is open
abbrev pub told_of : Asked → Option ℕ → Found
told_of a None = found.Gone a.fd
told_of a (Some pending) = told a.fd (first_in_both pending a.events)

-- the same of each pair
abbrev pub all_told : List Asked → List (Option ℕ) → List Found
all_told [] pending = []
all_told (a ∷ s) [] = []
all_told (a ∷ s) (p ∷ pending) = told_of a p ∷ all_told s pending

-- the events that are pending at each pair's descriptor after what the seat has seen
abbrev pub all_pending_after : View → List Asked → List (Option ℕ)
all_pending_after v s = map (λ a. events_after v a.fd) s
