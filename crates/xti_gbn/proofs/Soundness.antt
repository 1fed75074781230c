-- What stays true of a link, whatever befalls it.
use Rattle.std.proofs.Common.{◌≡◌, ◌+◌, ◌-◌, ◌<◌, ◌≤◌, ℕ, zero, suc, Bool, true, false, cond, max, List, [], ◌∷◌, ◌++◌, length, take, drop, Option, Some, None, refl, sym, ◌∙◌, ap, subst, inl, inr, arith, append_assoc}
use Rattle.std.specs.Prelude.{All, MatchOption, slice_get}
use Rattle.std.proofs.lemmas.List.{take_more, length_push, length-take, length-take-le, take-append-le, take-append-drop}
use Rattle.std.proofs.lemmas.List.Elements.{All-nil, All-cons, All-push, All-append, All-weaker, All-get_or}
use Rattle.std.proofs.lemmas.Option.{slice_get_within, get_or_from_slice_get}
use Rattle.std.proofs.lemmas.Bool.{ltb-true}
use Rattle.std.proofs.lemmas.Bool.Decides.{eqb_tells}
use Rattle.xti_gbn.specs.declared.wire.Packet.{Packet}
use Rattle.xti_gbn.specs.declared.events.LinkEvent.{LinkEvent}
use Rattle.xti_gbn.specs.declared.events.LinkEvent.TheVariants.{Offer, Timeout, Data, Ack}
use Rattle.xti_gbn.specs.Numbered.{packet, packets_from}
use Rattle.xti_gbn.specs.Sending.{window}
use Rattle.xti_gbn.specs.Link.{Link, opening, has_room, unacknowledged, time_out, delivered_with, arrive, arrive_some, acknowledge_some, after_event, after_from}
use Rattle.xti_gbn.specs.Laws.{IsPrefix}
use Rattle.xti_gbn.specs.Ends.{IsOffered, IsSound}

-- lists

pub got-before : {X : Type 0} (xs ys : List X) (k : ℕ) (x : X) → slice_get xs k ≡ Some x → slice_get (xs ++ ys) k ≡ Some x
got-before [] ys k x e = cc
got-before (y ∷ xs) ys zero x e = e
got-before (y ∷ xs) ys (suc k) x e = got-before xs ys k x e

pub got-at : {X : Type 0} (front rest : List X) (x : X) → slice_get (front ++ x ∷ rest) (length front) ≡ Some x
got-at [] rest x = refl
got-at (y ∷ front) rest x = got-at front rest x

pub all-got : {X : Type 0} (P : X → Type 0) (xs : List X) (k : ℕ) (x : X) → All P xs → slice_get xs k ≡ Some x → P x
all-got P xs k x all e = subst P (get_or_from_slice_get xs k x x e) (All-get_or P xs k x (slice_get_within xs k x e) all)

-- prefixes

pub prefix-length : (front whole : List (List ℕ)) → IsPrefix front whole → length front ≤ length whole
prefix-length front whole e = omega (arith, ap length e, length-take (length front) whole)

prefix-more : (front whole more : List (List ℕ)) → IsPrefix front whole → IsPrefix front (whole ++ more)
prefix-more front whole more e = e ∙ sym (take-append-le (length front) whole more (prefix-length front whole e))

prefix-next : (front whole : List (List ℕ)) (body : List ℕ) → IsPrefix front whole → slice_get whole (length front) ≡ Some body → IsPrefix (front ++ body ∷ []) whole
prefix-next front whole body e got =
    let one_more : take (length front + 1) whole ≡ take (length front) whole ++ body ∷ [] =
    take_more whole (length front) body (slice_get_within whole (length front) body got)
    ∙ ap (λ (x : List ℕ). take (length front) whole ++ x ∷ []) (get_or_from_slice_get whole (length front) body body got) in
    ap (λ (xs : List (List ℕ)). xs ++ body ∷ []) e ∙ sym one_more ∙ ap (λ (n : ℕ). take n whole) (sym (length_push front body))

-- packets have the body of their number

packets-offered : (front bodies : List (List ℕ)) → All (IsOffered (front ++ bodies)) (packets_from (length front) bodies)
packets-offered front [] = All-nil (IsOffered (front ++ []))
packets-offered front (body ∷ bodies) =
    let later = packets-offered (front ++ body ∷ []) bodies in
    let same_list = subst (λ (xs : List (List ℕ)). All (IsOffered xs) (packets_from (length (front ++ body ∷ [])) bodies)) (append_assoc front (body ∷ []) bodies) later in
    let same_number = subst (λ (n : ℕ). All (IsOffered (front ++ body ∷ bodies)) (packets_from n bodies)) (length_push front body) same_list in
    All-cons (IsOffered (front ++ body ∷ bodies)) (packet (length front) body) (packets_from (length front + 1) bodies) (got-at front bodies body) same_number

pub waiting-offered : (n : ℕ) (bodies : List (List ℕ)) → n ≤ length bodies → All (IsOffered bodies) (packets_from n (drop n bodies))
waiting-offered n bodies h =
    let all = packets-offered (take n bodies) (drop n bodies) in
    let same_list = subst (λ (xs : List (List ℕ)). All (IsOffered xs) (packets_from (length (take n bodies)) (drop n bodies))) (take-append-drop n bodies) all in
    subst (λ (k : ℕ). All (IsOffered bodies) (packets_from k (drop n bodies))) (length-take-le n bodies h) same_list

-- each event

pub sound-opening : IsSound opening
sound-opening = record {
  prefix = refl;
  acknowledged = omega arith;
  window = omega arith;
  packets = All-nil (IsOffered []);
  acknowledgements = All-nil (λ n. n ≤ 0);
  last = refl;
}

abbrev pub taken : List ℕ → Link → Link
taken body w = record w { offered = w.offered ++ body ∷ []; packets = w.packets ++ packet (length w.offered) body ∷ [] }

pub sound-offer : (body : List ℕ) (w : Link) → has_room w ≡ true → IsSound w → IsSound (taken body w)
sound-offer body w room s =
    let few : length w.offered - w.acknowledged < window = ltb-true _ _ room in
    let one_more = length_push w.offered body in
    record {
      prefix = prefix-more w.delivered w.offered (body ∷ []) s.prefix;
      acknowledged = s.acknowledged;
      window = omega arith;
      packets = All-push (IsOffered (w.offered ++ body ∷ [])) w.packets (packet (length w.offered) body)
          (All-weaker (IsOffered w.offered) (IsOffered (w.offered ++ body ∷ [])) (λ p e. got-before w.offered (body ∷ []) p.seq p.body e) w.packets s.packets)
          (got-at w.offered [] body);
      acknowledgements = s.acknowledgements;
      last = s.last;
    }

pub sound-timeout : (w : Link) → IsSound w → IsSound (time_out w)
sound-timeout w s =
    let within : w.acknowledged ≤ length w.offered = omega (arith, prefix-length w.delivered w.offered s.prefix, s.acknowledged) in
    record {
      prefix = s.prefix;
      acknowledged = s.acknowledged;
      window = s.window;
      packets = All-append (IsOffered w.offered) w.packets (unacknowledged w) s.packets (waiting-offered w.acknowledged w.offered within);
      acknowledgements = s.acknowledgements;
      last = s.last;
    }

pub record Grown (w : Link) (delivered : List (List ℕ)) : Type 0 where
  pub prefix : IsPrefix delivered w.offered
  pub more : length w.delivered ≤ length delivered

pub grown : (p : Packet) (w : Link) → IsOffered w.offered p → IsPrefix w.delivered w.offered → Grown w (delivered_with p w)
grown p w offered prefix =
    elim (eqb_tells p.seq (length w.delivered)) [
      | inl h ↦
          let got : slice_get w.offered (length w.delivered) ≡ Some p.body = subst (λ (n : ℕ). slice_get w.offered n ≡ Some p.body) h.1 offered in
          subst (Grown w) (sym (ap (λ (b : Bool). cond b (w.delivered ++ p.body ∷ []) w.delivered) h.0))
          (record { prefix = prefix-next w.delivered w.offered p.body prefix got; more = omega (arith, length_push w.delivered p.body) })
      | inr h ↦
          subst (Grown w) (sym (ap (λ (b : Bool). cond b (w.delivered ++ p.body ∷ []) w.delivered) h.0))
          (record { prefix = prefix; more = omega arith })
    ]

last-put : (n : ℕ) (ns : List ℕ) (P : Type 0) → MatchOption (slice_get (ns ++ n ∷ []) (length (ns ++ n ∷ []) - 1)) P (λ m. m ≡ n)
last-put n ns P =
    let place : length (ns ++ n ∷ []) - 1 ≡ length ns = omega (arith, length_push ns n) in
    let e : slice_get (ns ++ n ∷ []) (length (ns ++ n ∷ []) - 1) ≡ Some n = ap (slice_get (ns ++ n ∷ [])) place ∙ got-at ns [] n in
    subst (λ (o : Option ℕ). MatchOption o P (λ m. m ≡ n)) (sym e) refl

pub sound-arrive : (p : Packet) (w : Link) → IsOffered w.offered p → IsSound w → IsSound (arrive p w)
sound-arrive p w offered s =
    let g = grown p w offered s.prefix in
    let n : ℕ = length (delivered_with p w) in
    record {
      prefix = g.prefix;
      acknowledged = omega (arith, g.more, s.acknowledged);
      window = s.window;
      packets = s.packets;
      acknowledgements = All-push (λ k. k ≤ length (delivered_with p w)) w.acknowledgements (length (delivered_with p w))
          (All-weaker (λ k. k ≤ length w.delivered) (λ k. k ≤ length (delivered_with p w)) (λ k h. omega (arith, g.more)) w.acknowledgements s.acknowledgements)
          (omega arith);
      last = last-put (length (delivered_with p w)) w.acknowledgements (delivered_with p w ≡ []);
    }

pub sound-acknowledge : (n : ℕ) (w : Link) → n ≤ length w.delivered → IsSound w → IsSound (record w { acknowledged = max w.acknowledged n })
sound-acknowledge n w h s = record {
  prefix = s.prefix;
  acknowledged = omega (arith, s.acknowledged);
  window = omega (arith, s.window);
  packets = s.packets;
  acknowledgements = s.acknowledgements;
  last = s.last;
}

pub sound-event : (e : LinkEvent) (w : Link) → IsSound w → IsSound (after_event e w)
unfolding after_event
sound-event (Offer body) w s = by_room (has_room w) refl
  where
    by_room : (b : Bool) → has_room w ≡ b → IsSound (cond b (taken body w) w)
    by_room true e = sound-offer body w e s
    by_room false e = s
sound-event Timeout w s = sound-timeout w s
sound-event (Data place) w s = by_packet (slice_get w.packets place) refl
  where
    by_packet : (o : Option Packet) → slice_get w.packets place ≡ o → IsSound (arrive_some o w)
    by_packet None e = s
    by_packet (Some p) e = sound-arrive p w (all-got (IsOffered w.offered) w.packets place p s.packets e) s
sound-event (Ack place) w s = by_number (slice_get w.acknowledgements place) refl
  where
    by_number : (o : Option ℕ) → slice_get w.acknowledgements place ≡ o → IsSound (acknowledge_some o w)
    by_number None e = s
    by_number (Some n) e = sound-acknowledge n w (all-got (λ k. k ≤ length w.delivered) w.acknowledgements place n s.acknowledgements e) s

pub sound-from : (w : Link) (es : List LinkEvent) → IsSound w → IsSound (after_from w es)
unfolding after_from
sound-from w [] s = s
sound-from w (e ∷ es) s = sound-from (after_event e w) es (sound-event e w s)

pub sound-after : (es : List LinkEvent) → IsSound (after_from opening es)
sound-after es = sound-from opening es sound-opening
