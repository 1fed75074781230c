-- Reading line after line.
use Rattle.std.proofs.Common.{◌≡◌, ℕ, suc, ◌+◌, ◌<◌, ◌≤◌, Bool, true, false, cond, ltb, leb, List, [], ◌∷◌, ◌++◌, length, Option, Some, None, All, refl, sym, ap, subst, ◌∙◌, append_assoc, append-nil, arith}
use Rattle.std.specs.Prelude.{is_some, codes, option_map}
use Rattle.std.specs.Str.{bytes_eq}
use Rattle.std.proofs.lemmas.Bool.{ltb-true, leb-true}
use Rattle.std.proofs.lemmas.List.{length-append}
use Rattle.std.proofs.lemmas.List.Elements.{All-append, All-cons, All-nil}
use Rattle.std.proofs.lemmas.Slice.Eq.{bytes_eq-Decides}
use Rattle.xti_words.specs.Texts.{lines_of, text_of, words_of}
use Rattle.xti_words.specs.Values.{bytes_in, number_in}
use Rattle.xti_gbn.specs.declared.events.LinkEvent.{LinkEvent}
use Rattle.xti_gbn.specs.declared.events.LinkEvent.TheVariants.{Offer, Timeout, Data, Ack}
use Rattle.xti_gbn.specs.declared.events.TheConstants.{MOST_EVENTS}
use Rattle.xti_gbn.specs.Events.{IsSmallEvent}
use Rattle.xti_gbn.specs.Wire.{most_body}
use Rattle.xti_gbn.specs.Reading.{BeginsWith, event_behind}
use Rattle.xti_gbn.specs.Grammar.{header, offer_of, event_of, event_in, AreEvents, IsLinkScript}
use Rattle.xti_gbn.specs.Refused.{is_line, first_wrong, is_ended, IsRefusedAt}
use Rattle.xti_gbn.proofs.LinkLaws.{good_line}

-- the text is read up to the rest: its first line, and these events
pub record IsReadTo (text rest : List ℕ) (events : List LinkEvent) : Type 0 where
  pub lines : List (List ℕ)
  pub is : text ≡ text_of (header ∷ lines) ++ rest
  pub split : lines_of text ≡ header ∷ (lines ++ lines_of rest)
  pub are_events : AreEvents lines events
  pub few : length events ≤ MOST_EVENTS

pub begins : (text rest : List ℕ) → BeginsWith text header rest → IsReadTo text rest []
begins text rest b = record { lines = []; is = b.is; split = b.lines; are_events = tt; few = omega arith }

text_of-append : (xs ys : List (List ℕ)) → text_of (xs ++ ys) ≡ text_of xs ++ text_of ys
text_of-append [] ys = refl
text_of-append (x ∷ xs) ys = rw (text_of-append xs ys) (sym (append_assoc x (10 ∷ text_of xs) (text_of ys)))

one_more : (lines : List (List ℕ)) (events : List LinkEvent) (line : List ℕ) (e : LinkEvent) → AreEvents lines events → event_in line ≡ Some e → AreEvents (lines ++ line ∷ []) (events ++ e ∷ [])
one_more [] [] line e are is = (is, tt)
one_more [] (x ∷ events) line e are is = absurd are
one_more (l ∷ lines) [] line e are is = absurd are
one_more (l ∷ lines) (x ∷ events) line e are is = (are.0, one_more lines events line e are.1 is)

pub room_for : (before : ℕ) (line : List ℕ) (e : LinkEvent) → event_behind before line ≡ Some e → (before < MOST_EVENTS) × (event_in line ≡ Some e)
room_for before line e h = by_room (ltb before MOST_EVENTS) refl
  where
    by_room : (b : Bool) → ltb before MOST_EVENTS ≡ b → (before < MOST_EVENTS) × (event_in line ≡ Some e)
    by_room true t = (ltb-true _ _ t, rw t at h)
    by_room false t = absurd (let no : None ≡ Some e = rw t at h in cc)

-- the event that was read, by the number that was read
pub behind_at : (before : ℕ) (events : List LinkEvent) (line : List ℕ) (read found : Option LinkEvent) → before ≡ length events → read ≡ event_behind before line → read ≡ found → event_behind (length events) line ≡ found
behind_at before events line read found n r f = ap (λ (k : ℕ). event_behind k line) (sym n) ∙ sym r ∙ f

pub goes_on : (text rest line behind : List ℕ) (events : List LinkEvent) (e : LinkEvent) → IsReadTo text rest events → BeginsWith rest line behind → event_behind (length events) line ≡ Some e → IsReadTo text behind (events ++ e ∷ [])
goes_on text rest line behind events e r b h =
    let one = room_for (length events) line e h in
    let size : length (events ++ e ∷ []) ≡ length events + 1 = length-append events (e ∷ []) in
    let whole : text_of (header ∷ r.lines) ++ (line ++ 10 ∷ behind) ≡ text_of (header ∷ (r.lines ++ line ∷ [])) ++ behind = longer r.lines line behind in
    record {
      lines = r.lines ++ line ∷ [];
      is = r.is ∙ ap (λ (x : List ℕ). text_of (header ∷ r.lines) ++ x) b.is ∙ whole;
      split = r.split ∙ ap (λ (ls : List (List ℕ)). header ∷ (r.lines ++ ls)) b.lines ∙ ap (λ (ls : List (List ℕ)). header ∷ ls) (sym (append_assoc r.lines (line ∷ []) (lines_of behind)));
      are_events = one_more r.lines events line e r.are_events one.1;
      few = omega (arith, one.0);
    }
  where
    longer : (lines : List (List ℕ)) (line behind : List ℕ) → text_of (header ∷ lines) ++ (line ++ 10 ∷ behind) ≡ text_of (header ∷ (lines ++ line ∷ [])) ++ behind
    longer lines line behind =
        let parts : text_of ((header ∷ lines) ++ line ∷ []) ≡ text_of (header ∷ lines) ++ (line ++ 10 ∷ []) = text_of-append (header ∷ lines) (line ∷ []) in
        let tail : (line ++ 10 ∷ []) ++ behind ≡ line ++ 10 ∷ behind = append_assoc line (10 ∷ []) behind in
        sym (ap (λ (x : List ℕ). x ++ behind) parts ∙ append_assoc (text_of (header ∷ lines)) (line ++ 10 ∷ []) behind ∙ ap (λ (x : List ℕ). text_of (header ∷ lines) ++ x) tail)

pub ends : (text rest : List ℕ) (events : List LinkEvent) → rest ≡ [] → IsReadTo text rest events → IsLinkScript events text
ends text rest events none r =
    record {
      lines = r.lines;
      split = r.split ∙ ap (λ (x : List ℕ). header ∷ (r.lines ++ lines_of x)) none ∙ ap (λ (ls : List (List ℕ)). header ∷ ls) (append-nil r.lines);
      ended = r.is ∙ ap (λ (x : List ℕ). text_of (header ∷ r.lines) ++ x) none ∙ append-nil (text_of (header ∷ r.lines));
      are_events = r.are_events;
      few = r.few;
    }

-- ---- refused lines

-- lines of events before others are passed
passes : (before : ℕ) (lines : List (List ℕ)) (events : List LinkEvent) (last : List ℕ) (others : List (List ℕ)) (ended : Bool) → before + length events ≤ MOST_EVENTS → AreEvents lines events
    → first_wrong (suc before) (lines ++ last ∷ others) ended ≡ first_wrong (suc (before + length events)) (last ∷ others) ended
passes before [] [] last others ended few are = ap (λ (n : ℕ). first_wrong (suc n) (last ∷ others) ended) (let e : before ≡ before + 0 = omega arith in e)
passes before [] (e ∷ events) last others ended few are = absurd are
passes before (line ∷ lines) [] last others ended few are = absurd are
passes before (line ∷ []) (e ∷ events) last others ended few are =
    rw (good_line before line e (omega arith) are.0) (passes (suc before) [] events last others ended (omega arith) are.1 ∙ ap (λ (n : ℕ). first_wrong (suc n) (last ∷ others) ended) (let q : suc before + length events ≡ before + suc (length events) = omega arith in q))
passes before (line ∷ other ∷ lines) (e ∷ events) last others ended few are =
    rw (good_line before line e (omega arith) are.0) (passes (suc before) (other ∷ lines) events last others ended (omega arith) are.1 ∙ ap (λ (n : ℕ). first_wrong (suc n) (last ∷ others) ended) (let q : suc before + length events ≡ before + suc (length events) = omega arith in q))

stops : (before : ℕ) (line : List ℕ) (others : List (List ℕ)) (ended : Bool) → is_line before line ≡ false → first_wrong before (line ∷ others) ended ≡ Some (suc before)
stops before line [] ended e = rw e refl
stops before line (other ∷ others) ended e = rw e refl

at_once : (lines : List (List ℕ)) (last : List ℕ) (others : List (List ℕ)) (ended : Bool) → first_wrong 0 (header ∷ (lines ++ last ∷ others)) ended ≡ first_wrong 1 (lines ++ last ∷ others) ended
at_once [] last others ended = refl
at_once (line ∷ lines) last others ended = refl

reaches : (text rest : List ℕ) (events : List LinkEvent) (line : List ℕ) (others : List (List ℕ)) → IsReadTo text rest events → lines_of rest ≡ line ∷ others
    → first_wrong 0 (lines_of text) (is_ended text) ≡ first_wrong (suc (length events)) (line ∷ others) (is_ended text)
reaches text rest events line others r e =
    let split : lines_of text ≡ header ∷ (r.lines ++ line ∷ others) = r.split ∙ ap (λ (ls : List (List ℕ)). header ∷ (r.lines ++ ls)) e in
    ap (λ (ls : List (List ℕ)). first_wrong 0 ls (is_ended text)) split ∙ at_once r.lines line others (is_ended text) ∙ passes 0 r.lines events line others (is_ended text) (omega (arith, r.few)) r.are_events ∙ ap (λ (n : ℕ). first_wrong (suc n) (line ∷ others) (is_ended text)) (let q : 0 + length events ≡ length events = omega arith in q)

not_line : (before : ℕ) (line : List ℕ) → event_behind before line ≡ None → is_line (suc before) line ≡ false
not_line before line h = by_room (ltb before MOST_EVENTS) refl
  where
    by_room : (b : Bool) → ltb before MOST_EVENTS ≡ b → is_line (suc before) line ≡ false
    by_room true t =
        let none : event_in line ≡ None = rw t at h in
        let no : is_some (event_in line) ≡ false = ap is_some none in
        rw (t, no) refl
    by_room false t = rw t refl

pub wrong : (text rest line behind : List ℕ) (events : List LinkEvent) → IsReadTo text rest events → BeginsWith rest line behind → event_behind (length events) line ≡ None → IsRefusedAt text (length events + 2)
wrong text rest line behind events r b h =
    reaches text rest events line (lines_of behind) r b.lines ∙ stops (suc (length events)) line (lines_of behind) (is_ended text) (not_line (length events) line h) ∙ ap (λ (n : ℕ). let s : Option ℕ = Some n in s) (let q : suc (suc (length events)) ≡ length events + 2 = omega arith in q)

stops_unended : (before : ℕ) (line : List ℕ) → first_wrong (suc before) (line ∷ []) false ≡ Some (suc (suc before))
stops_unended before line = by_line (is_line (suc before) line) refl
  where
    by_line : (b : Bool) → is_line (suc before) line ≡ b → first_wrong (suc before) (line ∷ []) false ≡ Some (suc (suc before))
    by_line true t = rw t refl
    by_line false t = rw t refl

-- a text whose last line is not ended is shorter than its lines with their ends
one_short : (text rest : List ℕ) (events : List LinkEvent) → IsReadTo text rest events → lines_of rest ≡ rest ∷ [] → text ≡ text_of (lines_of text) → ⊥
one_short text rest events r e same =
    let split : lines_of text ≡ (header ∷ r.lines) ++ rest ∷ [] = r.split ∙ ap (λ (ls : List (List ℕ)). header ∷ (r.lines ++ ls)) e in
    let long : text_of (lines_of text) ≡ text_of (header ∷ r.lines) ++ (rest ++ 10 ∷ []) = ap text_of split ∙ text_of-append (header ∷ r.lines) (rest ∷ []) in
    let a : length text ≡ length (text_of (header ∷ r.lines)) + length rest = ap length r.is ∙ length-append (text_of (header ∷ r.lines)) rest in
    let b : length (text_of (lines_of text)) ≡ length (text_of (header ∷ r.lines)) + length (rest ++ 10 ∷ []) = ap length long ∙ length-append (text_of (header ∷ r.lines)) (rest ++ 10 ∷ []) in
    let d : length (rest ++ 10 ∷ []) ≡ length rest + 1 = length-append rest (10 ∷ []) in
    let q : length text ≡ length (text_of (lines_of text)) = ap length same in
    omega arith

not_true : (b : Bool) → (b ≡ true → ⊥) → b ≡ false
not_true true h = absurd (h refl)
not_true false h = refl

pub unended : (text rest : List ℕ) (events : List LinkEvent) → IsReadTo text rest events → lines_of rest ≡ rest ∷ [] → IsRefusedAt text (length events + 2)
unended text rest events r e =
    let no : is_ended text ≡ false = not_true (is_ended text) (λ t. one_short text rest events r e ((bytes_eq-Decides text (text_of (lines_of text))).0 t)) in
    reaches text rest events rest [] r e ∙ ap (λ (b : Bool). first_wrong (suc (length events)) (rest ∷ []) b) no ∙ stops_unended (length events) rest ∙ ap (λ (n : ℕ). let s : Option ℕ = Some n in s) (let q : suc (suc (length events)) ≡ length events + 2 = omega arith in q)

-- ---- small events

offer_small : (body : Option (List ℕ)) (e : LinkEvent) → offer_of body ≡ Some e → IsSmallEvent e
offer_small None e h = absurd (let no : None ≡ Some e = h in cc)
offer_small (Some body) e h = by_length (leb (length body) most_body) refl
  where
    by_length : (b : Bool) → leb (length body) most_body ≡ b → IsSmallEvent e
    by_length true t = let is : Some (Offer body) ≡ Some e = rw t at h in let same : Offer body ≡ e = cc in subst IsSmallEvent same (leb-true _ _ t)
    by_length false t = absurd (let no : None ≡ Some e = rw t at h in cc)

number_small : (make : ℕ → LinkEvent) (n : Option ℕ) (e : LinkEvent) → ((k : ℕ) → IsSmallEvent (make k)) → option_map make n ≡ Some e → IsSmallEvent e
number_small make None e all h = absurd (let no : None ≡ Some e = h in cc)
number_small make (Some k) e all h = let is : Some (make k) ≡ Some e = h in let same : make k ≡ e = cc in subst IsSmallEvent same (all k)

by_word : (a b d : Bool) (x y z : Option LinkEvent) (e : LinkEvent) → cond a x (cond b y (cond d z None)) ≡ Some e → (x ≡ Some e → IsSmallEvent e) → (y ≡ Some e → IsSmallEvent e) → (z ≡ Some e → IsSmallEvent e) → IsSmallEvent e
by_word true b d x y z e h p q r = p h
by_word false true d x y z e h p q r = q h
by_word false false true x y z e h p q r = r h
by_word false false false x y z e h p q r = absurd (let no : None ≡ Some e = h in cc)

timeout_small : (b : Bool) (e : LinkEvent) → cond b (Some Timeout) None ≡ Some e → IsSmallEvent e
timeout_small true e h = let same : Timeout ≡ e = cc in subst IsSmallEvent same tt
timeout_small false e h = absurd (let no : None ≡ Some e = h in cc)

words_small : (words : List (List ℕ)) (e : LinkEvent) → event_of words ≡ Some e → IsSmallEvent e
words_small [] e h = absurd (let no : None ≡ Some e = h in cc)
words_small (word ∷ []) e h = timeout_small (bytes_eq word (codes "timeout")) e h
words_small (word ∷ value ∷ []) e h =
    by_word (bytes_eq word (codes "offer")) (bytes_eq word (codes "data")) (bytes_eq word (codes "ack")) (offer_of (bytes_in value)) (option_map Data (number_in value)) (option_map Ack (number_in value)) e h
    (offer_small (bytes_in value) e) (number_small Data (number_in value) e (λ k. tt)) (number_small Ack (number_in value) e (λ k. tt))
words_small (word ∷ value ∷ other ∷ words) e h = absurd (let no : None ≡ Some e = h in cc)

line_small : (line : List ℕ) (e : LinkEvent) → event_in line ≡ Some e → IsSmallEvent e
unfolding event_in
line_small line e h = words_small (words_of line) e h

pub small_behind : (events more : List LinkEvent) (line : List ℕ) (e : LinkEvent) → more ≡ events ++ e ∷ [] → All IsSmallEvent events → event_behind (length events) line ≡ Some e → All IsSmallEvent more
small_behind events more line e is small h = rw is (All-append IsSmallEvent events (e ∷ []) small (All-cons IsSmallEvent e [] (line_small line e (room_for (length events) line e h).1) (All-nil IsSmallEvent)))
