-- Events that a run takes.
use Rattle.std.specs.Prelude.{◌≤◌, length}
use Rattle.xti_gbn.specs.declared.events.LinkEvent.{LinkEvent}
use Rattle.xti_gbn.specs.declared.events.LinkEvent.TheVariants.{Offer, Timeout, Data, Ack}
use Rattle.xti_gbn.specs.Wire.{most_body}

-- an offered body has at most so many bytes
abbrev pub IsSmallEvent : LinkEvent → Type 0
IsSmallEvent (Offer body) = length body ≤ most_body
IsSmallEvent Timeout = Unit {0}
IsSmallEvent (Data place) = Unit {0}
IsSmallEvent (Ack place) = Unit {0}
