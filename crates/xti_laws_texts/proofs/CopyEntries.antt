-- Each entry of a copy has a text, after any entries.
use Rattle.std.proofs.Common.{ℕ, zero, suc, ◌+◌, ◌*◌, ◌<◌, ◌≤◌, List, [], ◌∷◌, ◌++◌, ◌≡◌, refl, ap, ◌∙◌, length, length-append, drop, flat_map, true, arith, lit<, lit≤}
use Rattle.std.specs.List.{AllByRecursion}
use Rattle.std.proofs.lemmas.List.Elements.{All-nil, All-from_recursion}
use Rattle.xti_base.specs.declared.kinds.State.{State}
use Rattle.xti_model.specs.declared.call.Call.{Call}
use Rattle.xti_model.specs.declared.entry.Entry.{Entry}
use Rattle.xti_model.specs.declared.entry.Outcome.TheVariants.{Done}
use Rattle.xti_model.specs.declared.entry.Reply.{Reply}
use Rattle.xti_model.specs.declared.profile.Version.TheVariants.{One}
use Rattle.xti_model.specs.SentBytes.{AreBytes}
use Rattle.xti_model.proofs.Appending.{all-append}
use Rattle.xti_verbs.specs.Verbs.{is_in_texts, verb_of, row_of, answer_to, MayAnswer}
use Rattle.xti_journal.specs.Fields.{AreFields, field}
use Rattle.xti_journal.specs.Calls.{form, call_values, answer_form, answer_values}
use Rattle.xti_journal.specs.Grammar.{IsEntry, AreEntries}
use Rattle.xti_laws_streams.specs.Copying.{answered, service, before, exchange, ending, copied, pieces, pieces_within}
use Rattle.xti_laws_streams.specs.declared.copies.TheConstants.{PIECE}
use Rattle.xti_laws_streams.proofs.Pieces.{IsPiece, each}

-- whatever came before
abbrev pub HasEntryText : Entry → Type 0
HasEntryText e = (past : List Entry) → IsEntry One past e

entry : (c : Call) (r : Reply) (s : State) → is_in_texts One (verb_of c) ≡ true → AreFields (form (verb_of c)) (call_values c) → MayAnswer (verb_of c) (answer_to (Done r)) → AreFields (answer_form (answer_to (Done r))) (answer_values (Done r)) → HasEntryText (answered c r s)
entry c r s t f m a past = record { worker = lit≤ tt; act = (t, f); answer = (m, a) }

no_bytes : AreBytes []
no_bytes = All-nil (λ b. b < 256)

service_bytes : AreBytes service
service_bytes = All-from_recursion (λ b. b < 256) service (lit< tt, (lit< tt, (lit< tt, tt)))

before-texts : AllByRecursion HasEntryText before
unfolding form answer_form field row_of
before-texts = (
  entry _ _ _ refl (tt, (tt, tt)) refl (lit< tt, tt),
  (
    entry _ _ _ refl (lit< tt, (service_bytes, (lit< tt, (lit< tt, tt)))) refl (no_bytes, (lit< tt, tt)),
    (
      entry _ _ _ refl (tt, (tt, tt)) refl (lit< tt, tt),
      (
        entry _ _ _ refl (lit< tt, (no_bytes, (lit< tt, (lit< tt, tt)))) refl (no_bytes, (lit< tt, tt)),
        (
          entry _ _ _ refl (lit< tt, (service_bytes, (no_bytes, (no_bytes, (lit< tt, (lit< tt, (lit< tt, tt))))))) tt (tt, tt),
          (
            entry _ _ _ refl (lit< tt, (lit< tt, (lit< tt, (lit< tt, tt)))) refl (lit< tt, (no_bytes, (no_bytes, (no_bytes, tt)))),
            (
              entry _ _ _ refl (tt, (tt, tt)) refl (lit< tt, tt),
              (
                entry _ _ _ refl (lit< tt, (lit< tt, (lit< tt, (no_bytes, (no_bytes, tt))))) refl tt,
                (
                  entry _ _ _ refl (lit< tt, (lit< tt, (lit< tt, (lit< tt, tt)))) refl (no_bytes, (no_bytes, (no_bytes, tt))),
                  tt,
                ),
              ),
            ),
          ),
        ),
      ),
    ),
  ),
)

ending-texts : AllByRecursion HasEntryText ending
unfolding form answer_form field row_of
ending-texts = (
  entry _ _ _ refl (lit< tt, tt) refl tt,
  (
    entry _ _ _ refl (lit< tt, (lit< tt, tt)) tt (tt, tt),
    (
      entry _ _ _ refl (lit< tt, tt) refl tt,
      (
        entry _ _ _ refl (lit< tt, tt) refl tt,
        (
          entry _ _ _ refl (lit< tt, (lit< tt, tt)) tt (tt, tt),
          (
            entry _ _ _ refl (lit< tt, tt) refl tt,
            (
              entry _ _ _ refl (lit< tt, tt) refl tt,
              (
                entry _ _ _ refl (lit< tt, tt) refl tt,
                (
                  entry _ _ _ refl (lit< tt, tt) refl tt,
                  tt,
                ),
              ),
            ),
          ),
        ),
      ),
    ),
  ),
)

exchanges-texts : (ps : List (List ℕ)) → AllByRecursion IsPiece ps → AllByRecursion HasEntryText (flat_map exchange ps)
unfolding form answer_form field row_of
exchanges-texts [] h = tt
exchanges-texts (p ∷ ps) h = (
  entry _ _ _ refl (lit< tt, (h.0.bytes, (lit< tt, tt))) refl (omega (arith, h.0.most), tt),
  (
    entry _ _ _ refl (lit< tt, (lit< tt, tt)) refl (h.0.bytes, (lit< tt, tt)),
    exchanges-texts ps h.1,
  ),
)

after-any : (past es : List Entry) → AllByRecursion HasEntryText es → AreEntries One past es
after-any past [] h = tt
after-any past (e ∷ es) h = (h.0 past, after-any (past ++ e ∷ []) es h.1)

pub copied-texts : (input : List ℕ) → AreBytes input → AreEntries One [] (copied input)
copied-texts input b =
    after-any [] (copied input)
    (all-append HasEntryText before (flat_map exchange (pieces input) ++ ending) before-texts
    (all-append HasEntryText (flat_map exchange (pieces input)) ending (exchanges-texts (pieces input) (each input b)) ending-texts))

-- ---- how many there are

few-pieces : (most : ℕ) (bytes : List ℕ) → length (pieces_within most bytes) ≤ most
unfolding pieces_within
few-pieces most [] = omega arith
few-pieces zero (b ∷ bytes) = omega arith
few-pieces (suc most) (b ∷ bytes) = omega (arith, few-pieces most (drop PIECE (b ∷ bytes)))

two-each : (ps : List (List ℕ)) → length (flat_map exchange ps ++ ending) ≡ 2 * length ps + 9
two-each [] = refl
two-each (p ∷ ps) = ap (λ n. suc (suc n)) (two-each ps) ∙ omega arith

pub copied-few : (input : List ℕ) → length (copied input) ≤ 18 + 2 * length input
copied-few input = omega (arith, length-append before (flat_map exchange (pieces input) ++ ending), two-each (pieces input), few-pieces (length input) input)
