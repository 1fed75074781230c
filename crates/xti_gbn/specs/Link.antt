-- A link between a sender and a receiver, as lists of what its ends did.
use Rattle.std.specs.Prelude.{ℕ, ◌-◌, ◌==◌, Bool, max, List, [], ◌∷◌, ◌++◌, length, drop, Option, Some, None, slice_get, nat_lt, if◌then◌else◌}
use Rattle.xti_gbn.specs.declared.wire.Packet.{Packet}
use Rattle.xti_gbn.specs.declared.events.LinkEvent.{LinkEvent}
use Rattle.xti_gbn.specs.declared.events.LinkEvent.TheVariants.{Offer, Timeout, Data, Ack}
use Rattle.xti_gbn.specs.Numbered.{packet, packets_from}
use Rattle.xti_gbn.specs.Sending.{window}

pub record Link : Type 0 where
  -- the bodies that the sender took
  pub offered : List (List ℕ)
  -- the packets that the sender ever put
  pub packets : List Packet
  -- the acknowledgements that the receiver ever put
  pub acknowledgements : List ℕ
  -- the bodies that the receiver took
  pub delivered : List (List ℕ)
  -- how many bodies the sender knows to be delivered
  pub acknowledged : ℕ

abbrev pub opening : Link
opening = record { offered = []; packets = []; acknowledgements = []; delivered = []; acknowledged = 0 }

-- whether fewer than so many bodies are offered and not acknowledged
abbrev pub has_room : Link → Bool
has_room w = nat_lt (length w.offered - w.acknowledged) window

-- the packets of the bodies that are offered and not acknowledged
abbrev pub unacknowledged : Link → List Packet
unacknowledged w = packets_from w.acknowledged (drop w.acknowledged w.offered)

-- a body is taken where there is room, and its packet put
abbrev pub offer : List ℕ → Link → Link
offer body w =
    if has_room w then record w { offered = w.offered ++ body ∷ []; packets = w.packets ++ packet (length w.offered) body ∷ [] }
    else w

-- every packet that isn't acknowledged is put again
abbrev pub time_out : Link → Link
time_out w = record w { packets = w.packets ++ unacknowledged w }

-- what is delivered when this packet has come: its body too, where its number is the next
abbrev pub delivered_with : Packet → Link → List (List ℕ)
delivered_with p w = if p.seq == length w.delivered then w.delivered ++ p.body ∷ [] else w.delivered

-- a packet comes, and the number of bodies that are delivered is put as an acknowledgement
abbrev pub arrive : Packet → Link → Link
arrive p w = record w { delivered = delivered_with p w; acknowledgements = w.acknowledgements ++ length (delivered_with p w) ∷ [] }

abbrev pub arrive_some : Option Packet → Link → Link
arrive_some None w = w
arrive_some (Some p) w = arrive p w

-- an acknowledgement comes
abbrev pub acknowledge_some : Option ℕ → Link → Link
acknowledge_some None w = w
acknowledge_some (Some n) w = record w { acknowledged = max w.acknowledged n }

unfoldable pub after_event : LinkEvent → Link → Link
after_event (Offer body) w = offer body w
after_event Timeout w = time_out w
after_event (Data place) w = arrive_some (slice_get w.packets place) w
after_event (Ack place) w = acknowledge_some (slice_get w.acknowledgements place) w

unfoldable pub after_from : Link → List LinkEvent → Link
after_from w [] = w
after_from w (e ∷ es) = after_from (after_event e w) es

-- the link after these events
abbrev pub after : List LinkEvent → Link
after events = after_from opening events
