-- A run event by event.
use Rattle.std.proofs.Common.{◌≡◌, ◌+◌, ◌*◌, ◌<◌, ◌≤◌, ℕ, Bool, true, false, cond, List, [], ◌∷◌, ◌++◌, length, take, get_or, Option, Some, None, refl, sym, ◌∙◌, ap, subst, arith}
use Rattle.std.specs.Prelude.{is_some, slice_get}
use Rattle.std.proofs.lemmas.List.{length_push, length-take-le, take_more, take_all}
use Rattle.xti_gbn.specs.declared.wire.Packet.{Packet}
use Rattle.xti_gbn.specs.declared.events.LinkEvent.{LinkEvent}
use Rattle.xti_gbn.specs.declared.events.LinkEvent.TheVariants.{Offer, Timeout, Data, Ack}
use Rattle.xti_gbn.specs.declared.events.TheConstants.{MOST_EVENTS}
use Rattle.xti_gbn.specs.declared.ends.Ends.{Ends}
use Rattle.xti_gbn.specs.Sending.{Sending, next_of}
use Rattle.xti_gbn.specs.Link.{Link, opening, has_room, arrive_some, acknowledge_some, after_event, after_from, after}
use Rattle.xti_gbn.specs.Reports.{line_of, carried_by, lines_from, carried_from, report_of}
use Rattle.xti_gbn.specs.Ends.{StandsAt, HasRoom, Steps}
use Rattle.xti_gbn.proofs.Rounds.{after_from-append, after_from-one}
use Rattle.xti_gbn.proofs.EndSteps.{next-is}

after_from-push : (w : Link) (es : List LinkEvent) (e : LinkEvent) → after_from w (es ++ e ∷ []) ≡ after_event e (after_from w es)
after_from-push w es e = after_from-append w es (e ∷ []) ∙ after_from-one (after_from w es) e

lines_from-push : (w : Link) (es : List LinkEvent) (e : LinkEvent) → lines_from w (es ++ e ∷ []) ≡ lines_from w es ++ line_of e (after_from w es) ∷ []
unfolding lines_from after_from
lines_from-push w [] e = refl
lines_from-push w (x ∷ es) e = ap (λ (ls : List (List ℕ)). line_of x w ∷ ls) (lines_from-push (after_event x w) es e)

carried_from-push : (w : Link) (es : List LinkEvent) (e : LinkEvent) → carried_from w (es ++ e ∷ []) ≡ carried_from w es + carried_by e (after_from w es)
unfolding carried_from after_from
carried_from-push w [] e = omega arith
carried_from-push w (x ∷ es) e = omega (arith, carried_from-push (after_event x w) es e)

at-most-one : (b : Bool) → cond b 1 0 ≤ 1
at-most-one true = omega arith
at-most-one false = omega arith

carried_by-most : (e : LinkEvent) (w : Link) → carried_by e w ≤ 1
unfolding carried_by
carried_by-most (Offer body) w = omega arith
carried_by-most Timeout w = omega arith
carried_by-most (Data place) w = at-most-one (is_some (slice_get w.packets place))
carried_by-most (Ack place) w = at-most-one (is_some (slice_get w.acknowledgements place))

carried_from-most : (w : Link) (es : List LinkEvent) → carried_from w es ≤ length es
unfolding carried_from
carried_from-most w [] = omega arith
carried_from-most w (e ∷ es) = omega (arith, carried_by-most e w, carried_from-most (after_event e w) es)

offered-most : (e : LinkEvent) (w : Link) → length (after_event e w).offered ≤ length w.offered + 1
unfolding after_event
offered-most (Offer body) w = by_room (has_room w)
  where
    by_room : (b : Bool) → length (cond b (record w { offered = w.offered ++ body ∷ []; packets = w.packets ++ Rattle.xti_gbn.specs.Numbered.packet (length w.offered) body ∷ [] }) w).offered ≤ length w.offered + 1
    by_room true = omega (arith, length_push w.offered body)
    by_room false = omega arith
offered-most Timeout w = omega arith
offered-most (Data place) w = by_packet (slice_get w.packets place)
  where
    by_packet : (o : Option Packet) → length (arrive_some o w).offered ≤ length w.offered + 1
    by_packet None = omega arith
    by_packet (Some p) = omega arith
offered-most (Ack place) w = by_number (slice_get w.acknowledgements place)
  where
    by_number : (o : Option ℕ) → length (acknowledge_some o w).offered ≤ length w.offered + 1
    by_number None = omega arith
    by_number (Some n) = omega arith

offered_from-most : (w : Link) (es : List LinkEvent) → length (after_from w es).offered ≤ length w.offered + length es
unfolding after_from
offered_from-most w [] = omega arith
offered_from-most w (e ∷ es) = omega (arith, offered-most e w, offered_from-most (after_event e w) es)

-- the run stands after these events
pub record StandsAfter (past : List LinkEvent) (ends : Ends) (lines : List (List ℕ)) : Type 0 where
  pub stands : StandsAt (after past) ends
  pub carried : ends.carried ≡ carried_from opening past
  pub lines_are : lines ≡ lines_from opening past

pub begins : (ends : Ends) (lines : List (List ℕ)) → StandsAt opening ends → ends.carried ≡ 0 → lines ≡ [] → StandsAfter [] ends lines
unfolding after_from lines_from carried_from
begins ends lines stands carried none = record { stands = stands; carried = carried; lines_are = none }

pub has-room : (events : List LinkEvent) (i : ℕ) (ends : Ends) (lines : List (List ℕ)) → StandsAfter (take i events) ends lines → i < length events → length events ≤ MOST_EVENTS → HasRoom ends
has-room events i ends lines s h most =
    let past : List LinkEvent = take i events in
    let count : length past ≡ i = length-take-le i events (omega arith) in
    record {
      numbers = omega (arith, next-is (after past) ends s.stands, offered_from-most opening past);
      carried = omega (arith, s.carried, carried_from-most opening past);
    }

pub goes-on : (events : List LinkEvent) (i : ℕ) (event : LinkEvent) (old new : Ends) (lines : List (List ℕ)) (line : List ℕ) → i < length events → event ≡ get_or events i event
    → StandsAfter (take i events) old lines → Steps event old line new → StandsAfter (take (i + 1) events) new (lines ++ line ∷ [])
goes-on events i event old new lines line h is s steps =
    let past : List LinkEvent = take i events in
    let one_more : take (i + 1) events ≡ past ++ event ∷ [] = take_more events i event h ∙ ap (λ (e : LinkEvent). past ++ e ∷ []) (sym is) in
    let step = steps (after past) s.stands in
    subst (λ (es : List LinkEvent). StandsAfter es new (lines ++ line ∷ [])) (sym one_more) (record {
      stands = subst (λ (w : Link). StandsAt w new) (sym (after_from-push opening past event)) step.stands;
      carried = step.carried ∙ ap (λ (n : ℕ). n + carried_by event (after past)) s.carried ∙ sym (carried_from-push opening past event);
      lines_are = ap (λ (ls : List (List ℕ)). ls ++ line ∷ []) s.lines_are ∙ ap (λ (l : List ℕ). lines_from opening past ++ l ∷ []) step.line_is ∙ sym (lines_from-push opening past event);
    })

pub at-end : (events : List LinkEvent) (i : ℕ) (ends : Ends) (lines : List (List ℕ)) → length events ≤ i → StandsAfter (take i events) ends lines → StandsAfter events ends lines
at-end events i ends lines h s = subst (λ (es : List LinkEvent). StandsAfter es ends lines) (take_all i events h) s

pub carried-most : (events : List LinkEvent) (ends : Ends) (lines : List (List ℕ)) → StandsAfter events ends lines → length events ≤ MOST_EVENTS → ends.carried ≤ MOST_EVENTS
carried-most events ends lines s most = omega (arith, s.carried, carried_from-most opening events)

pub report-is : (events : List LinkEvent) (ends : Ends) (lines : List (List ℕ)) → StandsAfter events ends lines
    → record { lines = lines; offered = next_of ends.sender; delivered = ends.receiver; acknowledged = ends.sender.base; entries = 4 + 2 * ends.carried } ≡ report_of events
report-is events ends lines s =
    let base : ends.sender.base ≡ (after events).acknowledged = ap (λ (x : Sending). x.base) s.stands.sender in
    let next = next-is (after events) ends s.stands in
    let expected = s.stands.receiver in
    let counted = s.carried in
    let told = s.lines_are in
    cc
