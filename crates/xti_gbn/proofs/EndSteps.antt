-- What each event makes of the ends, against what it makes of the link.
use Rattle.std.proofs.Common.{◌≡◌, ◌+◌, ◌-◌, ◌<◌, ◌≤◌, ◌^◌, ◌⊎◌, ℕ, Bool, true, false, cond, eqb, max, List, [], ◌∷◌, ◌++◌, length, drop, map, Option, Some, None, Result, Ok, Err, refl, sym, ◌∙◌, ap, subst, inl, inr, arith}
use Rattle.std.specs.declared.alloc.AllocError.{AllocError}
use Rattle.std.specs.Prelude.{All, IfOk, OnOk, slice_get, codes}
use Rattle.std.specs.Option.{option_map}
use Rattle.std.specs.List.{AllByRecursion}
use Rattle.std.proofs.lemmas.List.{length_push, length-drop, drop-append-le, drop-drop, map_push, map-append}
use Rattle.std.proofs.lemmas.List.Elements.{All-nil, All-cons, All-push}
use Rattle.std.proofs.lemmas.Option.{slice_get-map, slice_get_within}
use Rattle.std.proofs.lemmas.Bool.{ltb-true, lt-ltb, cases_lt}
use Rattle.xti_words.specs.WrittenWords.{number_word}
use Rattle.xti_gbn.specs.declared.wire.Packet.{Packet}
use Rattle.xti_gbn.specs.declared.events.LinkEvent.TheVariants.{Offer, Timeout, Data, Ack}
use Rattle.xti_gbn.specs.declared.ends.Ends.{Ends}
use Rattle.xti_gbn.specs.Wire.{packet_text, most_body, HasSmall, IsPacketText}
use Rattle.xti_gbn.specs.Numbered.{packet, packets_from}
use Rattle.xti_gbn.specs.Receiving.{taken_body, expected_after}
use Rattle.xti_gbn.specs.Sending.{Sending, window, next_of}
use Rattle.xti_gbn.specs.Link.{Link, has_room, unacknowledged, time_out, delivered_with, arrive, arrive_some, acknowledge_some, after_event}
use Rattle.xti_gbn.specs.Reports.{none_line, arrival_line, data_line, ack_line, line_of, carried_by}
use Rattle.xti_gbn.specs.Ends.{IsSmallBody, IsOffered, IsSound, StandsAt, GoesOn, Steps}
use Rattle.xti_gbn.proofs.Spellings.{packet-same}
use Rattle.xti_gbn.proofs.Soundness.{all-got, prefix-length, taken, sound-offer, sound-timeout, sound-arrive, sound-acknowledge}

-- a line that is this one has what this one has
pub told : (P : List ℕ → Type 0) (r : Result (List ℕ) AllocError) (line : List ℕ) → IfOk r (λ l. l ≡ line) → P line → IfOk r P
told P (Ok l) line e p = subst P (sym e) p
told P (Err f) line e p = e

-- the same with a fact that holds where there is a line
pub told-on : (P : List ℕ → Type 0) (r : Result (List ℕ) AllocError) (line : List ℕ) (Q : Type 0) → IfOk r (λ l. l ≡ line) → OnOk r Q → (Q → P line) → IfOk r P
told-on P (Ok l) line Q e q p = subst P (sym e) (p q)
told-on P (Err f) line Q e q p = e

within : (w : Link) → IsSound w → w.acknowledged ≤ length w.offered
within w s = omega (arith, s.acknowledged, prefix-length w.delivered w.offered s.prefix)

pub next-is : (w : Link) (e : Ends) → StandsAt w e → next_of e.sender ≡ length w.offered
next-is w e s =
    let inside = within w s.sound in
    ap next_of s.sender ∙ omega (arith, length-drop w.acknowledged w.offered)

kept-is : (w : Link) (e : Ends) → StandsAt w e → length e.sender.kept ≡ length w.offered - w.acknowledged
kept-is w e s = ap (λ (x : Sending). length x.kept) s.sender ∙ length-drop w.acknowledged w.offered

-- an offer

offer-room : (body : List ℕ) (w : Link) → has_room w ≡ true → after_event (Offer body) w ≡ taken body w
unfolding after_event
offer-room body w room = ap (λ (b : Bool). cond b (taken body w) w) room

offer-full : (body : List ℕ) (w : Link) → has_room w ≡ false → after_event (Offer body) w ≡ w
unfolding after_event
offer-full body w full = ap (λ (b : Bool). cond b (taken body w) w) full

room-line : (body : List ℕ) (w : Link) → has_room w ≡ true → line_of (Offer body) w ≡ number_word (codes "sent ") (length w.offered)
unfolding line_of
room-line body w room = ap (λ (b : Bool). cond b (number_word (codes "sent ") (length w.offered)) (codes "full")) room

full-line : (body : List ℕ) (w : Link) → has_room w ≡ false → line_of (Offer body) w ≡ codes "full"
unfolding line_of
full-line body w full = ap (λ (b : Bool). cond b (number_word (codes "sent ") (length w.offered)) (codes "full")) full

offer-carries : (body : List ℕ) (w : Link) → carried_by (Offer body) w ≡ 0
unfolding carried_by
offer-carries body w = refl

abbrev ends_with : Ends → List ℕ → Ends
ends_with old body = record old {
  sender = record { base = old.sender.base; kept = old.sender.kept ++ body ∷ [] };
  packets = old.packets ++ packet_text (packet (next_of old.sender) body) ∷ [];
}

stands-with : (w : Link) (old : Ends) (body : List ℕ) → StandsAt w old → has_room w ≡ true → length body ≤ most_body → next_of old.sender < 2 ^ 32 - 1 → StandsAt (taken body w) (ends_with old body)
stands-with w old body s room small numbers =
    let next = next-is w old s in
    let inside = within w s.sound in
    record {
      sound = sound-offer body w room s.sound;
      small = All-push IsSmallBody w.offered body s.small small;
      few = omega (arith, length_push w.offered body);
      sender = ap (λ (x : Sending). record x { kept = x.kept ++ body ∷ [] }) s.sender
          ∙ ap (λ (k : List (List ℕ)). let v : Sending = record { base = w.acknowledged; kept = k } in v) (sym (drop-append-le w.acknowledged w.offered (body ∷ []) inside));
      receiver = s.receiver;
      packets = ap (λ (ps : List (List ℕ)). ps ++ packet_text (packet (next_of old.sender) body) ∷ []) s.packets
          ∙ ap (λ (n : ℕ). map packet_text w.packets ++ packet_text (packet n body) ∷ []) next
          ∙ sym (map_push packet_text w.packets (packet (length w.offered) body));
      acknowledgements = s.acknowledgements;
    }

pub taken-steps : (old new : Ends) (body : List ℕ) → length body ≤ most_body → next_of old.sender < 2 ^ 32 - 1 → length old.sender.kept < window
    → new ≡ ends_with old body → Steps (Offer body) old (number_word (codes "sent ") (next_of old.sender)) new
taken-steps old new body small numbers few e = λ w s.
    let room : has_room w ≡ true = lt-ltb _ _ (omega (arith, kept-is w old s)) in
    subst (λ (v : Ends). GoesOn (Offer body) w old (number_word (codes "sent ") (next_of old.sender)) v) (sym e) (record {
      line_is = ap (number_word (codes "sent ")) (next-is w old s) ∙ sym (room-line body w room);
      carried = omega (arith, offer-carries body w);
      stands = subst (λ (v : Link). StandsAt v (ends_with old body)) (sym (offer-room body w room)) (stands-with w old body s room small numbers);
    })

-- the same from what the sender answered
pub sent-steps : (old new : Ends) (body : List ℕ) (s : Sending) (p : Packet) → length body ≤ most_body → next_of old.sender < 2 ^ 32 - 1 → length old.sender.kept < window
    → s ≡ record { base = old.sender.base; kept = old.sender.kept ++ body ∷ [] } → p ≡ packet (next_of old.sender) body
    → new ≡ record old { sender = s; packets = old.packets ++ packet_text p ∷ [] } → Steps (Offer body) old (number_word (codes "sent ") p.seq) new
sent-steps old new body s p small numbers few sender sent e =
    let all : new ≡ ends_with old body =
    e ∙ ap (λ (x : Sending). record old { sender = x; packets = old.packets ++ packet_text p ∷ [] }) sender
    ∙ ap (λ (q : Packet). record old { sender = record { base = old.sender.base; kept = old.sender.kept ++ body ∷ [] }; packets = old.packets ++ packet_text q ∷ [] }) sent in
    subst (λ (q : Packet). Steps (Offer body) old (number_word (codes "sent ") q.seq) new) (sym sent) (taken-steps old new body small numbers few all)

pub full-steps : (old new : Ends) (body : List ℕ) → length old.sender.kept ≡ window → new ≡ old → Steps (Offer body) old (codes "full") new
full-steps old new body full e = λ w s. by_room w s (has_room w) refl
  where
    by_room : (w : Link) → StandsAt w old → (b : Bool) → has_room w ≡ b → GoesOn (Offer body) w old (codes "full") new
    by_room w s true room = absurd (omega (arith, kept-is w old s, ltb-true _ _ room))
    by_room w s false none = record {
      line_is = sym (full-line body w none);
      carried = omega (arith, offer-carries body w, ap (λ (v : Ends). v.carried) e);
      stands = subst (λ (v : Link). StandsAt v new) (sym (offer-full body w none)) (subst (StandsAt w) (sym e) s);
    }

-- a timeout

pub small-packets : (n : ℕ) (bodies : List (List ℕ)) → AllByRecursion (λ body. length body ≤ most_body) bodies → All HasSmall (packets_from n bodies)
small-packets n [] h = All-nil HasSmall
small-packets n (body ∷ bodies) h = All-cons HasSmall (packet n body) (packets_from (n + 1) bodies) h.0 (small-packets (n + 1) bodies h.1)

timed-out : (w : Link) → after_event Timeout w ≡ time_out w
unfolding after_event
timed-out w = refl

timeout-line : (w : Link) → line_of Timeout w ≡ number_word (codes "again ") (length (unacknowledged w))
unfolding line_of
timeout-line w = refl

timeout-carries : (w : Link) → carried_by Timeout w ≡ 0
unfolding carried_by
timeout-carries w = refl

pub timeout-steps : (old new : Ends) (packets : List Packet) → packets ≡ packets_from old.sender.base old.sender.kept
    → new ≡ record old { packets = old.packets ++ map packet_text packets } → Steps Timeout old (number_word (codes "again ") (length packets)) new
timeout-steps old new packets these e = λ w s.
    let again : packets ≡ unacknowledged w = these ∙ ap (λ (x : Sending). packets_from x.base x.kept) s.sender in
    let put : old.packets ++ map packet_text packets ≡ map packet_text (w.packets ++ unacknowledged w) =
    ap (λ (ps : List (List ℕ)). ps ++ map packet_text packets) s.packets
    ∙ ap (λ (ps : List Packet). map packet_text w.packets ++ map packet_text ps) again
    ∙ sym (map-append packet_text w.packets (unacknowledged w)) in
    let stands : StandsAt (time_out w) (record old { packets = old.packets ++ map packet_text packets }) = record {
      sound = sound-timeout w s.sound;
      small = s.small;
      few = s.few;
      sender = s.sender;
      receiver = s.receiver;
      packets = put;
      acknowledgements = s.acknowledgements;
    } in
    record {
      line_is = ap (λ (ps : List Packet). number_word (codes "again ") (length ps)) again ∙ sym (timeout-line w);
      carried = omega (arith, timeout-carries w, ap (λ (v : Ends). v.carried) e);
      stands = subst (λ (v : Link). StandsAt v new) (sym (timed-out w)) (subst (StandsAt (time_out w)) (sym e) stands);
    }

-- a packet comes

data-none : (place : ℕ) (w : Link) → slice_get w.packets place ≡ None → (after_event (Data place) w ≡ w) × (line_of (Data place) w ≡ none_line) × (carried_by (Data place) w ≡ 0)
unfolding after_event line_of carried_by
data-none place w e =
    (ap (λ (o : Option Packet). arrive_some o w) e, ap (λ (o : Option Packet). data_line o w) e, ap (λ (o : Option Packet). cond (Rattle.std.specs.Option.is_some o) 1 0) e)

data-some : (place : ℕ) (w : Link) (p : Packet) → slice_get w.packets place ≡ Some p
    → (after_event (Data place) w ≡ arrive p w) × (line_of (Data place) w ≡ data_line (Some p) w) × (carried_by (Data place) w ≡ 1)
unfolding after_event line_of carried_by
data-some place w p e =
    (ap (λ (o : Option Packet). arrive_some o w) e, ap (λ (o : Option Packet). data_line o w) e, ap (λ (o : Option Packet). cond (Rattle.std.specs.Option.is_some o) 1 0) e)

none-mapped : (o : Option Packet) → option_map packet_text o ≡ None → o ≡ None
none-mapped None e = refl
none-mapped (Some p) e = cc

pub data-none-steps : (old : Ends) (place : ℕ) → slice_get old.packets place ≡ None → Steps (Data place) old (codes "none") old
data-none-steps old place none = λ w s.
    let missing : slice_get w.packets place ≡ None =
    none-mapped _ (sym (slice_get-map packet_text w.packets place) ∙ ap (λ (ps : List (List ℕ)). slice_get ps place) (sym s.packets) ∙ none) in
    let facts = data-none place w missing in
    record {
      line_is = sym facts.1;
      carried = omega (arith, facts.2);
      stands = subst (λ (v : Link). StandsAt v old) (sym facts.0) s;
    }

-- the packet that was put at a place
pub record Found (w : Link) (place : ℕ) (text : List ℕ) : Type 0 where
  pub put : Packet
  pub there : slice_get w.packets place ≡ Some put
  pub has_text : text ≡ packet_text put
  pub offered : IsOffered w.offered put
  pub fits : (put.seq < 2 ^ 32) × (length put.body ≤ most_body)
  pub below : put.seq < 2 ^ 32 - 1

pub found : (w : Link) (e : Ends) (place : ℕ) (text : List ℕ) → StandsAt w e → slice_get e.packets place ≡ Some text → Found w place text
found w e place text s is =
    by_packet (slice_get w.packets place) refl (sym (slice_get-map packet_text w.packets place) ∙ ap (λ (ps : List (List ℕ)). slice_get ps place) (sym s.packets) ∙ is)
  where
    by_packet : (o : Option Packet) → slice_get w.packets place ≡ o → option_map packet_text (slice_get w.packets place) ≡ Some text → Found w place text
    by_packet None there mapped = let no : None ≡ Some text = ap (option_map packet_text) (sym there) ∙ mapped in cc
    by_packet (Some p) there mapped =
        let same : Some (packet_text p) ≡ Some text = ap (option_map packet_text) (sym there) ∙ mapped in
        let offered = all-got (IsOffered w.offered) w.packets place p s.sound.packets there in
        let small = all-got IsSmallBody w.offered p.seq p.body s.small offered in
        let number = slice_get_within w.offered p.seq p.body offered in
        record {
          put = p;
          there = there;
          has_text = cc;
          offered = offered;
          fits = (omega (arith, s.few), small);
          below = omega (arith, s.few);
        }

pub found-text : (e : Ends) (place : ℕ) (text : List ℕ) → (w : Link) × StandsAt w e → slice_get e.packets place ≡ Some text → IsPacketText text
found-text e place text at is = let f = found at.0 e place text at.1 is in (f.put, f.fits, f.has_text)

pub came-below : (e : Ends) (place : ℕ) (text : List ℕ) (p : Packet) → (w : Link) × StandsAt w e → slice_get e.packets place ≡ Some text
    → (p.seq < 2 ^ 32) × (length p.body ≤ most_body) → text ≡ packet_text p → p.seq < 2 ^ 32 - 1
came-below e place text p at is fits text_p =
    let f = found at.0 e place text at.1 is in
    let same = packet-same text p f.put fits text_p f.fits f.has_text in
    omega (arith, ap (λ (q : Packet). q.seq) same, f.below)

number-after : (p : Packet) (w : Link) (b : Bool) → cond b (length w.delivered + 1) (length w.delivered) ≡ length (cond b (w.delivered ++ p.body ∷ []) w.delivered)
number-after p w true = sym (length_push w.delivered p.body)
number-after p w false = refl

abbrev ends_after : Ends → Packet → Ends
ends_after old p = record old {
  receiver = expected_after old.receiver p;
  acknowledgements = old.acknowledgements ++ expected_after old.receiver p ∷ [];
  carried = old.carried + 1;
}

stands-after : (w : Link) (old : Ends) (p : Packet) → StandsAt w old → IsOffered w.offered p → StandsAt (arrive p w) (ends_after old p)
stands-after w old p s offered =
    let expected : expected_after old.receiver p ≡ length (delivered_with p w) =
    ap (λ (n : ℕ). expected_after n p) s.receiver ∙ number-after p w (eqb p.seq (length w.delivered)) in
    record {
      sound = sound-arrive p w offered s.sound;
      small = s.small;
      few = s.few;
      sender = s.sender;
      receiver = expected;
      packets = s.packets;
      acknowledgements = ap (λ (ns : List ℕ). ns ++ expected_after old.receiver p ∷ []) s.acknowledgements ∙ ap (λ (n : ℕ). w.acknowledgements ++ n ∷ []) expected;
    }

pub data-some-steps : (old new : Ends) (place : ℕ) (text : List ℕ) (p : Packet) → slice_get old.packets place ≡ Some text
    → (p.seq < 2 ^ 32) × (length p.body ≤ most_body) → text ≡ packet_text p → new ≡ ends_after old p
    → Steps (Data place) old (arrival_line p.seq (taken_body old.receiver p) (expected_after old.receiver p)) new
data-some-steps old new place text p is fits text_p e = λ w s.
    let f = found w old place text s is in
    let same : f.put ≡ p = sym (packet-same text p f.put fits text_p f.fits f.has_text) in
    let there : slice_get w.packets place ≡ Some p = f.there ∙ ap (λ (q : Packet). Some q) same in
    let offered : IsOffered w.offered p = subst (IsOffered w.offered) same f.offered in
    let facts = data-some place w p there in
    record {
      line_is = ap (λ (n : ℕ). arrival_line p.seq (taken_body n p) (expected_after n p)) s.receiver ∙ sym facts.1;
      carried = omega (arith, facts.2, ap (λ (v : Ends). v.carried) e);
      stands = subst (λ (v : Link). StandsAt v new) (sym facts.0) (subst (StandsAt (arrive p w)) (sym e) (stands-after w old p s offered));
    }

-- an acknowledgement comes

ack-none : (place : ℕ) (w : Link) → slice_get w.acknowledgements place ≡ None → (after_event (Ack place) w ≡ w) × (line_of (Ack place) w ≡ none_line) × (carried_by (Ack place) w ≡ 0)
unfolding after_event line_of carried_by
ack-none place w e =
    (ap (λ (o : Option ℕ). acknowledge_some o w) e, ap (λ (o : Option ℕ). ack_line o w) e, ap (λ (o : Option ℕ). cond (Rattle.std.specs.Option.is_some o) 1 0) e)

ack-some : (place : ℕ) (w : Link) (n : ℕ) → slice_get w.acknowledgements place ≡ Some n
    → (after_event (Ack place) w ≡ acknowledge_some (Some n) w) × (line_of (Ack place) w ≡ ack_line (Some n) w) × (carried_by (Ack place) w ≡ 1)
unfolding after_event line_of carried_by
ack-some place w n e =
    (ap (λ (o : Option ℕ). acknowledge_some o w) e, ap (λ (o : Option ℕ). ack_line o w) e, ap (λ (o : Option ℕ). cond (Rattle.std.specs.Option.is_some o) 1 0) e)

pub ack-none-steps : (old : Ends) (place : ℕ) → slice_get old.acknowledgements place ≡ None → Steps (Ack place) old (codes "none") old
ack-none-steps old place none = λ w s.
    let missing : slice_get w.acknowledgements place ≡ None = ap (λ (ns : List ℕ). slice_get ns place) (sym s.acknowledgements) ∙ none in
    let facts = ack-none place w missing in
    record {
      line_is = sym facts.1;
      carried = omega (arith, facts.2);
      stands = subst (λ (v : Link). StandsAt v old) (sym facts.0) s;
    }

abbrev at_number : Link → ℕ → Sending
at_number w n = record { base = n; kept = drop n w.offered }

abbrev moved : Sending → ℕ → Sending
moved s n = record { base = n; kept = drop (n - s.base) s.kept }

moved-is : (w : Link) (n : ℕ) → w.acknowledged ≤ n → moved (at_number w w.acknowledged) n ≡ at_number w n
moved-is w n h =
    let there : w.acknowledged + (n - w.acknowledged) ≡ n = omega arith in
    ap (λ (k : List (List ℕ)). let v : Sending = record { base = n; kept = k } in v)
    (drop-drop (n - w.acknowledged) w.acknowledged w.offered ∙ ap (λ (k : ℕ). drop k w.offered) there)

-- the sender after an acknowledgement of what is delivered
sender-is : (w : Link) (old new : Ends) (n : ℕ) → StandsAt w old → n ≤ length w.delivered
    → (old.sender.base < n → n ≤ next_of old.sender → new.sender ≡ moved old.sender n)
    → ((n ≤ old.sender.base) ⊎ (next_of old.sender < n) → new.sender ≡ old.sender)
    → new.sender ≡ at_number w (max w.acknowledged n)
sender-is w old new n s known moves stays =
    let next = next-is w old s in
    let base : old.sender.base ≡ w.acknowledged = ap (λ (x : Sending). x.base) s.sender in
    let most = prefix-length w.delivered w.offered s.sound.prefix in
    elim (cases_lt w.acknowledged n) [
      | inl above ↦
          let greater : n ≡ max w.acknowledged n = omega arith in
          moves (omega arith) (omega arith) ∙ ap (λ (x : Sending). moved x n) s.sender ∙ moved-is w n (omega arith) ∙ ap (at_number w) greater
      | inr below ↦
          let greater : w.acknowledged ≡ max w.acknowledged n = omega arith in
          stays (inl (omega arith)) ∙ s.sender ∙ ap (at_number w) greater
    ]

pub ack-some-steps : (old new : Ends) (place n : ℕ) → slice_get old.acknowledgements place ≡ Some n
    → (old.sender.base < n → n ≤ next_of old.sender → new.sender ≡ record { base = n; kept = drop (n - old.sender.base) old.sender.kept })
    → ((n ≤ old.sender.base) ⊎ (next_of old.sender < n) → new.sender ≡ old.sender)
    → new ≡ record old { sender = new.sender; carried = old.carried + 1 }
    → Steps (Ack place) old (number_word (codes "base ") new.sender.base) new
ack-some-steps old new place n is moves stays e = λ w s.
    let there : slice_get w.acknowledgements place ≡ Some n = ap (λ (ns : List ℕ). slice_get ns place) (sym s.acknowledgements) ∙ is in
    let known = all-got (λ k. k ≤ length w.delivered) w.acknowledgements place n s.sound.acknowledgements there in
    let facts = ack-some place w n there in
    let sender = sender-is w old new n s known moves stays in
    let stands : StandsAt (acknowledge_some (Some n) w) (record old { sender = new.sender; carried = old.carried + 1 }) = record {
      sound = sound-acknowledge n w known s.sound;
      small = s.small;
      few = s.few;
      sender = sender;
      receiver = s.receiver;
      packets = s.packets;
      acknowledgements = s.acknowledgements;
    } in
    record {
      line_is = ap (λ (x : Sending). number_word (codes "base ") x.base) sender ∙ sym facts.1;
      carried = omega (arith, facts.2, ap (λ (v : Ends). v.carried) e);
      stands = subst (λ (v : Link). StandsAt v new) (sym facts.0) (subst (StandsAt (acknowledge_some (Some n) w)) (sym e) stands);
    }
