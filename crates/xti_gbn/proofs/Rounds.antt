-- A round without loss delivers and acknowledges all that was offered.
use Rattle.std.proofs.Common.{◌≡◌, ◌+◌, ◌-◌, ◌≤◌, ℕ, zero, suc, Bool, cond, List, [], ◌∷◌, ◌++◌, length, take, drop, Option, Some, None, refl, sym, ◌∙◌, ap, subst, inl, inr, arith, append_assoc}
use Rattle.std.specs.Prelude.{MatchOption, slice_get}
use Rattle.std.proofs.lemmas.List.{length_push, length-append, length-drop, length-take-le, take_all, take-append-drop}
use Rattle.std.proofs.lemmas.Bool.Decides.{eqb_tells}
use Rattle.xti_gbn.specs.declared.wire.Packet.{Packet}
use Rattle.xti_gbn.specs.declared.events.LinkEvent.{LinkEvent}
use Rattle.xti_gbn.specs.declared.events.LinkEvent.TheVariants.{Timeout, Data, Ack}
use Rattle.xti_gbn.specs.Numbered.{packet, packets_from}
use Rattle.xti_gbn.specs.Link.{Link, opening, unacknowledged, time_out, delivered_with, arrive, acknowledge_some, after_event, after_from, after}
use Rattle.xti_gbn.specs.Laws.{IsPrefix, IsDone, data_from, round, with_rounds}
use Rattle.xti_gbn.specs.Ends.{IsSound}
use Rattle.xti_gbn.proofs.Numbering.{length-packets_from}
use Rattle.xti_gbn.proofs.Soundness.{got-at, prefix-length, sound-event, sound-from, sound-after, grown}

-- events one after another

pub after_from-append : (w : Link) (es more : List LinkEvent) → after_from w (es ++ more) ≡ after_from (after_from w es) more
unfolding after_from
after_from-append w [] more = refl
after_from-append w (e ∷ es) more = after_from-append (after_event e w) es more

after_from-cons : (w : Link) (e : LinkEvent) (es : List LinkEvent) → after_from w (e ∷ es) ≡ after_from (after_event e w) es
unfolding after_from
after_from-cons w e es = refl

pub after_from-one : (w : Link) (e : LinkEvent) → after_from w (e ∷ []) ≡ after_event e w
unfolding after_from
after_from-one w e = refl

-- packets that come one after another

arrive_all : List Packet → Link → Link
arrive_all [] w = w
arrive_all (p ∷ ps) w = arrive_all ps (arrive p w)

data-arrives : (w : Link) (front rest : List Packet) (p : Packet) → w.packets ≡ front ++ p ∷ rest → after_event (Data (length front)) w ≡ arrive p w
unfolding after_event
data-arrives w front rest p e = ap (λ (o : Option Packet). Rattle.xti_gbn.specs.Link.arrive_some o w) (ap (λ (ps : List Packet). slice_get ps (length front)) e ∙ got-at front rest p)

all-arrive : (w : Link) (front ps : List Packet) → w.packets ≡ front ++ ps → after_from w (data_from (length front) (length ps)) ≡ arrive_all ps w
unfolding arrive_all after_from
all-arrive w front [] e = refl
all-arrive w front (p ∷ ps) e =
    let first : after_event (Data (length front)) w ≡ arrive p w = data-arrives w front ps p e in
    let split : w.packets ≡ (front ++ p ∷ []) ++ ps = e ∙ sym (append_assoc front (p ∷ []) ps) in
    ap (λ (v : Link). after_from v (data_from (length front + 1) (length ps))) first
    ∙ ap (λ (n : ℕ). after_from (arrive p w) (data_from n (length ps))) (sym (length_push front p))
    ∙ all-arrive (arrive p w) (front ++ p ∷ []) ps split

offered-stays : (ps : List Packet) (w : Link) → (arrive_all ps w).offered ≡ w.offered
unfolding arrive_all
offered-stays [] w = refl
offered-stays (p ∷ ps) w = offered-stays ps (arrive p w)

acknowledged-stays : (ps : List Packet) (w : Link) → (arrive_all ps w).acknowledged ≡ w.acknowledged
unfolding arrive_all
acknowledged-stays [] w = refl
acknowledged-stays (p ∷ ps) w = acknowledged-stays ps (arrive p w)

length-acknowledgements : (ps : List Packet) (w : Link) → length (arrive_all ps w).acknowledgements ≡ length w.acknowledgements + length ps
unfolding arrive_all
length-acknowledgements [] w = omega arith
length-acknowledgements (p ∷ ps) w =
    omega (arith, length-acknowledgements ps (arrive p w), length_push w.acknowledgements (length (delivered_with p w)))

-- the packet of the next body, or of one before, comes
record Reaches (n : ℕ) (w : Link) (delivered : List (List ℕ)) : Type 0 where
  pub prefix : IsPrefix delivered w.offered
  pub reached : n + 1 ≤ length delivered

reaches : (n : ℕ) (body : List ℕ) (w : Link) → n ≤ length w.delivered → IsPrefix w.delivered w.offered → slice_get w.offered n ≡ Some body → Reaches n w (delivered_with (packet n body) w)
reaches n body w h prefix got =
    let g = grown (packet n body) w got prefix in
    let far : n + 1 ≤ length (delivered_with (packet n body) w) =
    elim (eqb_tells n (length w.delivered)) [
      | inl e ↦ omega (arith, ap (λ (b : Bool). length (cond b (w.delivered ++ body ∷ []) w.delivered)) e.0, length_push w.delivered body)
      | inr e ↦ omega (arith, g.more, e.1)
    ] in
    record { prefix = g.prefix; reached = far }

all-delivered : (front bodies : List (List ℕ)) (w : Link) → w.offered ≡ front ++ bodies → length front ≤ length w.delivered → IsPrefix w.delivered w.offered
    → (arrive_all (packets_from (length front) bodies) w).delivered ≡ w.offered
unfolding arrive_all
all-delivered front [] w e h prefix =
    let none : List (List ℕ) = [] in
    prefix ∙ take_all (length w.delivered) w.offered (omega (arith, ap length e, length-append front none))
all-delivered front (body ∷ bodies) w e h prefix =
    let got : slice_get w.offered (length front) ≡ Some body = ap (λ (xs : List (List ℕ)). slice_get xs (length front)) e ∙ got-at front bodies body in
    let r = reaches (length front) body w h prefix got in
    let far : length (front ++ body ∷ []) ≤ length (delivered_with (packet (length front) body) w) = omega (arith, length_push front body, r.reached) in
    let split : w.offered ≡ (front ++ body ∷ []) ++ bodies = e ∙ sym (append_assoc front (body ∷ []) bodies) in
    ap (λ (n : ℕ). (arrive_all (packets_from n bodies) (arrive (packet (length front) body) w)).delivered) (sym (length_push front body))
    ∙ all-delivered (front ++ body ∷ []) bodies (arrive (packet (length front) body) w) split far r.prefix

-- the last acknowledgement comes
ack-done : (w : Link) (place : ℕ) → IsSound w → w.delivered ≡ w.offered → place ≡ length w.acknowledgements - 1 → IsDone w (after_event (Ack place) w)
unfolding after_event
ack-done w place s all at = by_number (slice_get w.acknowledgements place) (subst (λ (k : ℕ). MatchOption (slice_get w.acknowledgements k) (w.delivered ≡ []) (λ n. n ≡ length w.delivered)) (sym at) s.last)
  where
    by_number : (o : Option ℕ) → MatchOption o (w.delivered ≡ []) (λ n. n ≡ length w.delivered) → IsDone w (acknowledge_some o w)
    by_number None none = record {
      offered = refl;
      delivered = all;
      acknowledged = omega (arith, s.acknowledged, ap length none, ap length all);
    }
    by_number (Some n) is = record {
      offered = refl;
      delivered = all;
      acknowledged = omega (arith, s.acknowledged, ap length all);
    }

-- the link before the last acknowledgement of a round
abbrev before_last : Link → Link
before_last w = arrive_all (unacknowledged w) (time_out w)

timed-out : (w : Link) → after_event Timeout w ≡ time_out w
unfolding after_event
timed-out w = refl

after-round : (w : Link) → after_from w (round w) ≡ after_event (Ack (length w.acknowledgements + length (unacknowledged w) - 1)) (before_last w)
after-round w =
    let datas : List LinkEvent = data_from (length w.packets) (length (unacknowledged w)) in
    let last : LinkEvent = Ack (length w.acknowledgements + length (unacknowledged w) - 1) in
    after_from-cons w Timeout (datas ++ last ∷ [])
    ∙ ap (λ (v : Link). after_from v (datas ++ last ∷ [])) (timed-out w)
    ∙ after_from-append (time_out w) datas (last ∷ [])
    ∙ ap (λ (v : Link). after_from v (last ∷ [])) (all-arrive (time_out w) w.packets (unacknowledged w) refl)
    ∙ after_from-one (before_last w) last

waiting-delivered : (n : ℕ) (w : Link) → n ≤ length w.delivered → IsPrefix w.delivered w.offered → (arrive_all (packets_from n (drop n w.offered)) w).delivered ≡ w.offered
waiting-delivered n w h prefix =
    let within : n ≤ length w.offered = omega (arith, prefix-length w.delivered w.offered prefix) in
    let number : length (take n w.offered) ≡ n = length-take-le n w.offered within in
    let all = all-delivered (take n w.offered) (drop n w.offered) w (sym (take-append-drop n w.offered)) (omega arith) prefix in
    subst (λ (k : ℕ). (arrive_all (packets_from k (drop n w.offered)) w).delivered ≡ w.offered) number all

sound-before_last : (w : Link) → IsSound w → IsSound (before_last w)
sound-before_last w s =
    let timed : IsSound (time_out w) = subst IsSound (timed-out w) (sound-event Timeout w s) in
    subst IsSound (all-arrive (time_out w) w.packets (unacknowledged w) refl) (sound-from (time_out w) (data_from (length w.packets) (length (unacknowledged w))) timed)

pub round-done : (w : Link) → IsSound w → IsDone w (after_from w (round w))
round-done w s =
    let v : Link = before_last w in
    let offered : v.offered ≡ w.offered = offered-stays (unacknowledged w) (time_out w) in
    let delivered : v.delivered ≡ w.offered = waiting-delivered w.acknowledged (time_out w) s.acknowledged s.prefix in
    let place : length w.acknowledgements + length (unacknowledged w) - 1 ≡ length v.acknowledgements - 1 = omega (arith, length-acknowledgements (unacknowledged w) (time_out w)) in
    let done = ack-done v _ (sound-before_last w s) (delivered ∙ sym offered) place in
    subst (IsDone w) (sym (after-round w)) (record {
      offered = done.offered ∙ offered;
      delivered = done.delivered ∙ offered;
      acknowledged = done.acknowledged ∙ ap length offered;
    })

-- rounds

pub one-round : (events : List LinkEvent) → IsDone (after events) (after (events ++ round (after events)))
one-round events = subst (IsDone (after events)) (sym (after_from-append opening events (round (after events)))) (round-done (after events) (sound-after events))

length-unacknowledged : (w : Link) → length (unacknowledged w) ≡ length w.offered - w.acknowledged
length-unacknowledged w = length-packets_from w.acknowledged (drop w.acknowledged w.offered) ∙ length-drop w.acknowledged w.offered

none-left : (w : Link) → IsSound w → length (unacknowledged w) ≡ 0 → IsDone w w
none-left w s none =
    let within = prefix-length w.delivered w.offered s.prefix in
    let all : length w.offered ≤ w.acknowledged = omega (arith, length-unacknowledged w) in
    record {
      offered = refl;
      delivered = s.prefix ∙ take_all (length w.delivered) w.offered (omega (arith, s.acknowledged));
      acknowledged = omega (arith, s.acknowledged);
    }

then-done : (v w x : Link) → IsDone v w → IsDone w x → IsDone v x
then-done v w x a b = record {
  offered = b.offered ∙ a.offered;
  delivered = b.delivered ∙ a.offered;
  acknowledged = b.acknowledged ∙ ap length a.offered;
}

pub rounds-done : (count : ℕ) (events : List LinkEvent) → length (unacknowledged (after events)) ≤ count → IsDone (after events) (after (with_rounds count events))
rounds-done zero events h = none-left (after events) (sound-after events) (omega arith)
rounds-done (suc count) events h =
    let next : List LinkEvent = events ++ round (after events) in
    let one = one-round events in
    let none : length (unacknowledged (after next)) ≤ count = omega (arith, length-unacknowledged (after next), ap length one.offered, one.acknowledged) in
    then-done (after events) (after next) (after (with_rounds count next)) one (rounds-done count next none)
