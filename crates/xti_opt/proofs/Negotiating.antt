-- Negotiating a list of options, one after the other.
use Rattle.std.proofs.Common.{◌≡◌, ◌≤◌, ◌<◌, ◌+◌, ◌∙◌, sym, ℕ, List, [], ◌∷◌, ◌++◌, map, length, take, get_or, true, false, refl, ap, arith, nat_lt, All, inl, inr, append_assoc, append-nil, ◌⊎◌, Any, length-append}
use Rattle.std.proofs.lemmas.Bool.{cases_lt}
use Rattle.std.proofs.lemmas.Bool.Decides.{nat_tests}
use Rattle.std.proofs.lemmas.List.Quantifiers.{Any-push}
use Rattle.std.proofs.lemmas.List.{get_or_append_left, map-append, take_more}
use Rattle.std.proofs.lemmas.List.Elements.{All-push, All-nil}
use Rattle.xti_base.specs.declared.options.Opt.{Opt}
use Rattle.xti_base.specs.Negotiation.{Settings, Negotiated, Answer, meaning, answer_meant, answered, set_meant, badness, worse, negotiate_one, negotiate_from, negotiate, t_success}
use Rattle.xti_opt.specs.Table.{place_of}

is_less : (a b : ℕ) → a < b → nat_lt a b ≡ true
is_less a b h = grind (arith, nat_tests)

is_not_less : (a b : ℕ) → b ≤ a → nat_lt a b ≡ false
is_not_less a b h = grind (arith, nat_tests)

worse_right : (a b : ℕ) → badness a < badness b → worse a b ≡ b
worse_right a b h = rw (is_less (badness a) (badness b) h) refl

worse_left : (a b : ℕ) → badness b ≤ badness a → worse a b ≡ a
worse_left a b h = rw (is_not_less (badness a) (badness b) h) refl

worse-assoc : (a b c : ℕ) → worse (worse a b) c ≡ worse a (worse b c)
worse-assoc a b c =
    elim (cases_lt (badness a) (badness b)) [
      | inl ab ↦ ap (λ k. worse k c) (worse_right a b ab) ∙ elim (cases_lt (badness b) (badness c)) [
        | inl bc ↦ worse_right b c bc ∙ sym (ap (worse a) (worse_right b c bc) ∙ worse_right a c (omega arith))
        | inr cb ↦ worse_left b c cb ∙ sym (ap (worse a) (worse_left b c cb) ∙ worse_right a b ab)
      ]
      | inr ba ↦ ap (λ k. worse k c) (worse_left a b ba) ∙ elim (cases_lt (badness b) (badness c)) [
        | inl bc ↦ sym (ap (worse a) (worse_right b c bc))
        | inr cb ↦ worse_left a c (omega arith) ∙ sym (ap (worse a) (worse_left b c cb) ∙ worse_left a b ba)
      ]
    ]

left_below : (a b : ℕ) → badness a ≤ badness (worse a b)
left_below a b = elim (cases_lt (badness a) (badness b)) [ inl ab ↦ rw (worse_right a b ab) (omega arith) | inr ba ↦ rw (worse_left a b ba) (omega arith) ]

right_below : (a b : ℕ) → badness b ≤ badness (worse a b)
right_below a b = elim (cases_lt (badness a) (badness b)) [ inl ab ↦ rw (worse_right a b ab) (omega arith) | inr ba ↦ rw (worse_left a b ba) ba ]

le_trans : (a b c : ℕ) → a ≤ b → b ≤ c → a ≤ c
le_trans a b c h k = omega arith

abbrev start : Settings → Negotiated
start s = record { settings = s; options = []; result = t_success }

-- what was answered before, and this after it
abbrev pub behind : List Opt → ℕ → Negotiated → Negotiated
behind os result n = record { settings = n.settings; options = os ++ n.options; result = worse result n.result }

-- the answer to one option
abbrev pub told : ℕ → Negotiated → Opt → Answer
told action n o = answer_meant n.settings action o.value (meaning o)

abbrev pub next : ℕ → Negotiated → Opt → Negotiated
next action n o = negotiate_one n o (told action n o)

abbrev pub negotiated : Settings → List Opt → ℕ → Negotiated
negotiated s os result = record { settings = s; options = os; result = result }

same_negotiated : (s : Settings) (os ps : List Opt) (a b : ℕ) → os ≡ ps → a ≡ b
    → negotiated s os a ≡ negotiated s ps b
same_negotiated s os ps a b e f = rw (e, f) refl

next_behind : (os : List Opt) (result action : ℕ) (n : Negotiated) (o : Opt) → next action (behind os result n) o ≡ behind os result (next action n o)
next_behind os result action n o =
    same_negotiated _ _ _ _ _ (append_assoc os n.options _) (worse-assoc result n.result (told action n o).result)

from_behind : (os : List Opt) (result action : ℕ) (n : Negotiated) (more : List Opt) → negotiate_from (behind os result n) action more ≡ behind os result (negotiate_from n action more)
from_behind os result action n [] = refl
from_behind os result action n (o ∷ more) = ap (λ m. negotiate_from m action more) (next_behind os result action n o) ∙ from_behind os result action (next action n o) more

from-append : (action : ℕ) (n : Negotiated) (os more : List Opt) → negotiate_from n action (os ++ more) ≡ negotiate_from (negotiate_from n action os) action more
from-append action n [] more = refl
from-append action n (o ∷ os) more = from-append action (next action n o) os more

is_behind : (n : Negotiated) → n ≡ behind n.options n.result (start n.settings)
is_behind n = same_negotiated n.settings _ _ _ _ (sym (append-nil n.options)) (sym (worse_left n.result t_success (omega arith)))

pub negotiate-append : (s : Settings) (action : ℕ) (os more : List Opt)
    → negotiate s action (os ++ more) ≡ behind (negotiate s action os).options (negotiate s action os).result (negotiate (negotiate s action os).settings action more)
negotiate-append s action os more =
    from-append action (start s) os more
    ∙ ap (λ m. negotiate_from m action more) (is_behind (negotiate s action os))
    ∙ from_behind (negotiate s action os).options (negotiate s action os).result action (start (negotiate s action os).settings) more

places_from : (action : ℕ) (n : Negotiated) (os : List Opt) → map place_of (negotiate_from n action os).options ≡ map place_of n.options ++ map place_of os
places_from action n [] = sym (append-nil (map place_of n.options))
places_from action n (o ∷ os) =
    places_from action (next action n o) os
    ∙ ap (λ l. l ++ map place_of os) (map-append place_of n.options (answered o (told action n o) ∷ []))
    ∙ append_assoc (map place_of n.options) (place_of o ∷ []) (map place_of os)

pub places_kept : (s : Settings) (action : ℕ) (os : List Opt) → map place_of (negotiate s action os).options ≡ map place_of os
places_kept s action os = places_from action (start s) os

abbrev pub IsWorst : Negotiated → Type 0
IsWorst n = All (λ o. badness o.status ≤ badness n.result) n.options

next_is_worst : (action : ℕ) (n : Negotiated) (o : Opt) → IsWorst n → IsWorst (next action n o)
next_is_worst action n o worst =
    let left = left_below n.result (told action n o).result in
    All-push (λ p. badness p.status ≤ badness (worse n.result (told action n o).result)) n.options _
    (λ k d h. le_trans _ _ _ (worst k d h) left)
    (right_below n.result (told action n o).result)

worst_from : (action : ℕ) (n : Negotiated) (os : List Opt) → IsWorst n → IsWorst (negotiate_from n action os)
worst_from action n [] worst = worst
worst_from action n (o ∷ os) worst = worst_from action (next action n o) os (next_is_worst action n o worst)

pub result_is_worst : (s : Settings) (action : ℕ) (os : List Opt) → IsWorst (negotiate s action os)
result_is_worst s action os = worst_from action (start s) os (All-nil (λ o. badness o.status ≤ badness t_success))

abbrev pub IsOneOf : Negotiated → Type 0
IsOneOf n = (n.result ≡ t_success) ⊎ Any (λ o. o.status ≡ n.result) n.options

still_one : (n : Negotiated) (os : List Opt) (result : ℕ) → result ≡ n.result → IsOneOf n → (result ≡ t_success) ⊎ Any (λ o. o.status ≡ result) (n.options ++ os)
still_one n os result e (inl success) = inl (e ∙ success)
still_one n os result e (inr some) =
    inr (some.0, some.1, omega (arith, some.2, length-append n.options os), get_or_append_left n.options os some.1 some.0 some.2 ∙ some.3, some.4 ∙ sym e)

next_is_one : (action : ℕ) (n : Negotiated) (o : Opt) → IsOneOf n → IsOneOf (next action n o)
next_is_one action n o one =
    elim (cases_lt (badness n.result) (badness (told action n o).result)) [
      | inl worse' ↦ inr (Any-push (λ p. p.status ≡ worse n.result (told action n o).result) n.options (answered o (told action n o))
          (sym (worse_right n.result (told action n o).result worse')))
      | inr better ↦ still_one n (answered o (told action n o) ∷ []) (worse n.result (told action n o).result)
          (worse_left n.result (told action n o).result better) one
    ]

one_from : (action : ℕ) (n : Negotiated) (os : List Opt) → IsOneOf n → IsOneOf (negotiate_from n action os)
one_from action n [] one = one
one_from action n (o ∷ os) one = one_from action (next action n o) os (next_is_one action n o one)

pub result_is_one : (s : Settings) (action : ℕ) (os : List Opt) → IsOneOf (negotiate s action os)
result_is_one s action os = one_from action (start s) os (inl refl)

-- one more option, answered after those before it
pub negotiate_more : (s : Settings) (action : ℕ) (os : List Opt) (i : ℕ) (o : Opt) → i < length os → o ≡ get_or os i o
    → negotiate s action (take (i + 1) os) ≡ next action (negotiate s action (take i os)) o
negotiate_more s action os i o h e =
    ap (negotiate s action) (take_more os i o h)
    ∙ from-append action (start s) (take i os) (get_or os i o ∷ [])
    ∙ ap (next action (negotiate s action (take i os))) (sym e)

-- what is kept of an answer makes the next step
pub next_is : (action : ℕ) (n : Negotiated) (o : Opt) (a : Answer) (s : Settings) (os : List Opt) (result : ℕ)
    → a ≡ told action n o → s ≡ set_meant n.settings (meaning o) a.sets → os ≡ n.options ++ answered o a ∷ [] → result ≡ worse n.result a.result
    → next action n o ≡ negotiated s os result
next_is action n o a s os result e f g h = rw (f, g, h, e) refl
