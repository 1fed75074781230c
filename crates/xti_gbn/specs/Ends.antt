-- What is kept of a link while it runs: both ends, and what was put, by its place.
use Rattle.std.specs.Prelude.{◌≡◌, ℕ, ◌+◌, ◌*◌, ◌^◌, ◌<◌, ◌≤◌, List, [], ◌++◌, length, drop, map, All, MatchOption, Some, slice_get, ◌-◌}
use Rattle.xti_gbn.specs.declared.wire.Packet.{Packet}
use Rattle.xti_gbn.specs.declared.events.LinkEvent.{LinkEvent}
use Rattle.xti_gbn.specs.declared.events.TheConstants.{MOST_EVENTS}
use Rattle.xti_gbn.specs.declared.ends.Ends.{Ends}
use Rattle.xti_gbn.specs.declared.report.Report.{Report}
use Rattle.xti_gbn.specs.Wire.{packet_text, most_body}
use Rattle.xti_gbn.specs.Sending.{window, next_of}
use Rattle.xti_gbn.specs.Link.{Link, after_event}
use Rattle.xti_gbn.specs.Reports.{line_of, carried_by}
use Rattle.xti_gbn.specs.Laws.{IsPrefix}

-- a body has at most so many bytes
abbrev pub IsSmallBody : List ℕ → Type 0
IsSmallBody body = length body ≤ most_body

-- the ends, with the bytes of these packets put too
abbrev pub with_packets : List Packet → Ends → Ends
with_packets packets e = record e { packets = e.packets ++ map packet_text packets }

-- the report of these lines and of what the ends have come to
abbrev pub report_at : Ends → List (List ℕ) → Report
report_at e lines = record {
  lines = lines;
  offered = next_of e.sender;
  delivered = e.receiver;
  acknowledged = e.sender.base;
  entries = 4 + 2 * e.carried;
}

-- the packet has the body of its number
abbrev pub IsOffered : List (List ℕ) → Packet → Type 0
IsOffered offered p = slice_get offered p.seq ≡ Some p.body

-- what stays true of a link
pub record IsSound (w : Link) : Type 0 where
  pub prefix : IsPrefix w.delivered w.offered
  pub acknowledged : w.acknowledged ≤ length w.delivered
  pub window : length w.offered ≤ w.acknowledged + window
  pub packets : All (IsOffered w.offered) w.packets
  pub acknowledgements : All (λ n. n ≤ length w.delivered) w.acknowledgements
  pub last : MatchOption (slice_get w.acknowledgements (length w.acknowledgements - 1)) (w.delivered ≡ []) (λ n. n ≡ length w.delivered)

-- the ends stand at this link
pub record StandsAt (w : Link) (e : Ends) : Type 0 where
  pub sound : IsSound w
  pub small : All IsSmallBody w.offered
  pub few : length w.offered < 2 ^ 32
  pub sender : e.sender ≡ record { base = w.acknowledged; kept = drop w.acknowledged w.offered }
  pub receiver : e.receiver ≡ length w.delivered
  pub packets : e.packets ≡ map packet_text w.packets
  pub acknowledgements : e.acknowledgements ≡ w.acknowledgements

-- they stand at some link
abbrev pub Stands : Ends → Type 0
Stands e = (w : Link) × StandsAt w e

-- more events may come
pub record HasRoom (e : Ends) : Type 0 where
  pub numbers : next_of e.sender < MOST_EVENTS
  pub carried : e.carried < MOST_EVENTS

-- the ends have gone from this link on by an event, with this line
pub record GoesOn (event : LinkEvent) (w : Link) (old : Ends) (line : List ℕ) (new : Ends) : Type 0 where
  pub line_is : line ≡ line_of event w
  pub carried : new.carried ≡ old.carried + carried_by event w
  pub stands : StandsAt (after_event event w) new

-- the same from whatever link they stand at
abbrev pub Steps : LinkEvent → Ends → List ℕ → Ends → Type 0
Steps event old line new = (w : Link) → StandsAt w old → GoesOn event w old line new
