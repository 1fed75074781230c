-- The report of a run: a line for each event, and four numbers.
use Rattle.std.specs.Prelude.{ℕ, ◌+◌, ◌*◌, is_some, List, [], ◌∷◌, ◌++◌, length, Option, Some, None, slice_get, codes, if◌then◌else◌}
use Rattle.std.specs.List.{flat_map}
use Rattle.xti_words.specs.WrittenWords.{number_word, octets_word}
use Rattle.xti_gbn.specs.declared.wire.Packet.{Packet}
use Rattle.xti_gbn.specs.declared.events.LinkEvent.{LinkEvent}
use Rattle.xti_gbn.specs.declared.events.LinkEvent.TheVariants.{Offer, Timeout, Data, Ack}
use Rattle.xti_gbn.specs.declared.report.Report.{Report}
use Rattle.xti_gbn.specs.Receiving.{taken_body, expected_after}
use Rattle.xti_gbn.specs.Link.{Link, opening, has_room, unacknowledged, acknowledge_some, after_event, after}

-- lines, without their line feed

abbrev pub none_line : List ℕ
none_line = codes "none"

-- of a packet that came: its body, if the receiver took it, and the acknowledgement
abbrev pub arrival_line : ℕ → Option (List ℕ) → ℕ → List ℕ
arrival_line number (Some body) ack = number_word (codes "delivered ") number ++ octets_word (codes " ") body ++ number_word (codes " ack ") ack
arrival_line number None ack = number_word (codes "dropped ack ") ack

abbrev pub data_line : Option Packet → Link → List ℕ
data_line None w = none_line
data_line (Some p) w = arrival_line p.seq (taken_body (length w.delivered) p) (expected_after (length w.delivered) p)

abbrev pub ack_line : Option ℕ → Link → List ℕ
ack_line None w = none_line
ack_line (Some n) w = number_word (codes "base ") (acknowledge_some (Some n) w).acknowledged

-- the line of an event
unfoldable pub line_of : LinkEvent → Link → List ℕ
line_of (Offer body) w = if has_room w then number_word (codes "sent ") (length w.offered) else codes "full"
line_of Timeout w = number_word (codes "again ") (length (unacknowledged w))
line_of (Data place) w = data_line (slice_get w.packets place) w
line_of (Ack place) w = ack_line (slice_get w.acknowledgements place) w

-- how often something is carried: once where a packet or an acknowledgement was put at the event's place
unfoldable pub carried_by : LinkEvent → Link → ℕ
carried_by (Offer body) w = 0
carried_by Timeout w = 0
carried_by (Data place) w = if is_some (slice_get w.packets place) then 1 else 0
carried_by (Ack place) w = if is_some (slice_get w.acknowledgements place) then 1 else 0

-- all events

unfoldable pub lines_from : Link → List LinkEvent → List (List ℕ)
lines_from w [] = []
lines_from w (e ∷ es) = line_of e w ∷ lines_from (after_event e w) es

unfoldable pub carried_from : Link → List LinkEvent → ℕ
carried_from w [] = 0
carried_from w (e ∷ es) = carried_by e w + carried_from (after_event e w) es

-- the entries are four, to open and bind both ends, and two for each time that something is carried
abbrev pub report_of : List LinkEvent → Report
report_of events = record {
  lines = lines_from opening events;
  offered = length (after events).offered;
  delivered = length (after events).delivered;
  acknowledged = (after events).acknowledged;
  entries = 4 + 2 * carried_from opening events;
}

-- texts, in which each line ends in a line feed

abbrev pub ended : List ℕ → List ℕ
ended line = line ++ codes "\n"

abbrev pub last_line : Report → List ℕ
last_line r =
    number_word (codes "offered ") r.offered ++ number_word (codes " delivered ") r.delivered
    ++ number_word (codes " acknowledged ") r.acknowledged ++ number_word (codes " entries ") r.entries

abbrev pub report_text : Report → List ℕ
report_text r = flat_map ended r.lines ++ ended (last_line r)
