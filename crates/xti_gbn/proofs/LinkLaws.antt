-- A link script is refused at no line, and has one list of events.
use Rattle.std.proofs.Common.{◌≡◌, ℕ, suc, ◌+◌, ◌<◌, ◌≤◌, true, ltb, List, [], ◌∷◌, length, Some, None, refl, sym, ap, subst, ◌∙◌, arith}
use Rattle.std.specs.Prelude.{is_some}
use Rattle.std.proofs.lemmas.Bool.{lt-ltb}
use Rattle.std.proofs.lemmas.Slice.Eq.{bytes_eq-Decides}
use Rattle.xti_words.specs.Texts.{lines_of, text_of}
use Rattle.xti_gbn.specs.declared.events.LinkEvent.{LinkEvent}
use Rattle.xti_gbn.specs.declared.events.TheConstants.{MOST_EVENTS}
use Rattle.xti_gbn.specs.Grammar.{header, event_in, AreEvents, IsLinkScript}
use Rattle.xti_gbn.specs.Refused.{is_line, first_wrong, is_ended, IsRefusedAt}

-- a line that is an event, where there may be one more
pub good_line : (before : ℕ) (line : List ℕ) (e : LinkEvent) → before < MOST_EVENTS → event_in line ≡ Some e → is_line (suc before) line ≡ true
good_line before line e lt is =
    let room : ltb before MOST_EVENTS ≡ true = lt-ltb _ _ lt in
    let some : is_some (event_in line) ≡ true = ap is_some is in
    rw (room, some) refl

-- lines of events that end with LF are not wrong
none_wrong : (before : ℕ) (lines : List (List ℕ)) (events : List LinkEvent) → before + length events ≤ MOST_EVENTS → AreEvents lines events → first_wrong (suc before) lines true ≡ None
none_wrong before [] events few are = refl
none_wrong before (line ∷ lines) [] few are = absurd are
none_wrong before (line ∷ []) (e ∷ events) few are =
    rw (good_line before line e (omega arith) are.0) refl
none_wrong before (line ∷ other ∷ lines) (e ∷ events) few are =
    rw (good_line before line e (omega arith) are.0) (none_wrong (suc before) (other ∷ lines) events (omega arith) are.1)

pub well_ended : (text : List ℕ) → text ≡ text_of (lines_of text) → is_ended text ≡ true
well_ended text e = (bytes_eq-Decides text (text_of (lines_of text))).1 e

pub never_wrong : (events : List LinkEvent) (lines : List (List ℕ)) → length events ≤ MOST_EVENTS → AreEvents lines events → first_wrong 0 (header ∷ lines) true ≡ None
never_wrong events [] few are = refl
never_wrong events (line ∷ lines) few are = none_wrong 0 (line ∷ lines) events (omega arith) are

pub never_both : (events : List LinkEvent) (text : List ℕ) (line : ℕ) → IsLinkScript events text → IsRefusedAt text line → ⊥
never_both events text line s refused =
    let ended : is_ended text ≡ true = well_ended text (s.ended ∙ ap text_of (sym s.split)) in
    let none : first_wrong 0 (lines_of text) (is_ended text) ≡ None = rw (ended, s.split) (never_wrong events s.lines s.few s.are_events) in
    let e : None ≡ Some line = sym none ∙ refused in
    cc

same_events : (lines : List (List ℕ)) (events others : List LinkEvent) → AreEvents lines events → AreEvents lines others → events ≡ others
same_events [] [] [] a b = refl
same_events [] [] (o ∷ others) a b = absurd b
same_events [] (e ∷ events) others a b = absurd a
same_events (line ∷ lines) [] others a b = absurd a
same_events (line ∷ lines) (e ∷ events) [] a b = absurd b
same_events (line ∷ lines) (e ∷ events) (o ∷ others) a b =
    let one : Some e ≡ Some o = sym a.0 ∙ b.0 in
    let more : events ≡ others = same_events lines events others a.1 b.1 in
    cc

pub one_reading : (events others : List LinkEvent) (text : List ℕ) → IsLinkScript events text → IsLinkScript others text → events ≡ others
one_reading events others text s t =
    let same : header ∷ s.lines ≡ header ∷ t.lines = sym s.split ∙ t.split in
    let lines : t.lines ≡ s.lines = cc in
    same_events s.lines events others s.are_events (subst (λ (ls : List (List ℕ)). AreEvents ls others) lines t.are_events)
