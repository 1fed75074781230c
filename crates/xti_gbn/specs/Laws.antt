-- What holds of a link whatever befalls it, and what a round without loss comes to.
use Rattle.std.specs.Prelude.{◌≡◌, ℕ, zero, suc, ◌+◌, ◌-◌, ◌≤◌, List, [], ◌∷◌, ◌++◌, length, take}
use Rattle.xti_gbn.specs.declared.events.LinkEvent.{LinkEvent}
use Rattle.xti_gbn.specs.declared.events.LinkEvent.TheVariants.{Timeout, Data, Ack}
use Rattle.xti_gbn.specs.Link.{Link, unacknowledged, after}

-- this holds of a link whatever befell it
abbrev pub AfterAnyEvents : (Link → Type 0) → Type 0
AfterAnyEvents holds = (events : List LinkEvent) → holds (after events)

-- one list is a prefix of another; it may be the whole
abbrev pub IsPrefix : List (List ℕ) → List (List ℕ) → Type 0
IsPrefix front whole = front ≡ take (length front) whole

-- so many packets come in order, from this place on
abbrev pub data_from : ℕ → ℕ → List LinkEvent
data_from place zero = []
data_from place (suc count) = Data place ∷ data_from (place + 1) count

-- a round without loss: a timeout, every packet that it puts comes in order, and then the last acknowledgement
abbrev pub round : Link → List LinkEvent
round w =
    Timeout ∷ data_from (length w.packets) (length (unacknowledged w))
    ++ Ack (length w.acknowledgements + length (unacknowledged w) - 1) ∷ []

-- the events, and then so many such rounds
abbrev pub with_rounds : ℕ → List LinkEvent → List LinkEvent
with_rounds zero events = events
with_rounds (suc count) events = with_rounds count (events ++ round (after events))

-- all that was offered before is delivered, and acknowledged, and nothing else was offered
pub record IsDone (before now : Link) : Type 0 where
  pub offered : now.offered ≡ before.offered
  pub delivered : now.delivered ≡ before.offered
  pub acknowledged : now.acknowledged ≡ length before.offered

-- a round without loss after the events does that
abbrev pub RoundDelivers : List LinkEvent → Type 0
RoundDelivers events = IsDone (after events) (after (events ++ round (after events)))

-- so do so many rounds, where no more bodies aren't acknowledged
abbrev pub RoundsDeliver : List LinkEvent → ℕ → Type 0
RoundsDeliver events count = length (unacknowledged (after events)) ≤ count → IsDone (after events) (after (with_rounds count events))
