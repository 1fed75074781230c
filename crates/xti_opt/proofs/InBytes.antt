-- Negotiating options that stand in bytes.
use Rattle.std.proofs.Common.{◌≡◌, ◌≤◌, ◌+◌, ◌∙◌, ◌==◌, ◌&&◌, sym, ℕ, List, [], ◌∷◌, ◌++◌, length, true, false, refl, ap, arith, append_assoc, append-nil, length-append, length-drop}
use Rattle.std.specs.List.{list_all}
use Rattle.std.proofs.lemmas.Bool.Decides.{nat_tests}
use Rattle.xti_base.specs.declared.options.Opt.{Opt}
use Rattle.xti_base.specs.Room.{Roomy}
use Rattle.xti_base.specs.Options.{begins_option, front_option, front_size, option_bytes, options_bytes, is_option_list, the_options, filling}
use Rattle.xti_base.specs.Negotiation.{Settings, Negotiated, Answer, meaning, answer_meant, set_meant, answered, worse, has_level, is_one_level, negotiate_from, negotiate, t_success}
use Rattle.xti_base.proofs.OptionLists.{front_within}
use Rattle.xti_opt.specs.declared.first.First.{First}
use Rattle.xti_opt.specs.Answers.{meaning_at}
use Rattle.xti_opt.specs.Requests.{IsFirst, told}
use Rattle.xti_opt.proofs.Lists.{options_front, behind_is_list, no_more}
use Rattle.xti_opt.proofs.Values.{value_length}
use Rattle.xti_opt.proofs.Spelling.{options_bytes-append, length-option_bytes}
use Rattle.xti_opt.proofs.Negotiating.{negotiated, next, next_is, negotiate-append}

-- the first option is read first, and the others from the rest
pub first_of_list : (bytes : List ℕ) (f : First) → IsFirst bytes f → is_option_list bytes ≡ true → the_options bytes ≡ front_option bytes ∷ the_options f.rest.now
first_of_list bytes f first is = options_front bytes first.begins is ∙ ap (λ b. front_option bytes ∷ the_options b) (sym first.rest)

pub rest_is_list : (bytes : List ℕ) (f : First) → IsFirst bytes f → is_option_list bytes ≡ true → is_option_list f.rest.now ≡ true
rest_is_list bytes f first is = ap is_option_list first.rest ∙ behind_is_list bytes first.begins is

pub rest_is_shorter : (bytes : List ℕ) (f : First) → IsFirst bytes f → length f.rest.now + 16 ≤ length bytes
rest_is_shorter bytes f first =
    let sizes = front_within bytes first.begins in
    omega (arith, ap length first.rest, length-drop (front_size bytes) bytes, sizes.0, sizes.1)

-- the first option decides whether all have a level, and then those after it
pub level_of_next : (level : ℕ) (bytes : List ℕ) (f : First) → IsFirst bytes f → is_option_list bytes ≡ true
    → list_all (has_level level) (the_options bytes) ≡ ((f.level == level) && list_all (has_level level) (the_options f.rest.now))
level_of_next level bytes f first is =
    ap (list_all (has_level level)) (first_of_list bytes f first is) ∙ ap (λ n. (n == level) && list_all (has_level level) (the_options f.rest.now)) (sym first.level)

-- the first option gives the level of all
pub level_of_first : (bytes : List ℕ) (f : First) → IsFirst bytes f → is_option_list bytes ≡ true
    → list_all (has_level f.level) (the_options f.rest.now) ≡ is_one_level (the_options bytes)
level_of_first bytes f first is =
    ap (λ n. list_all (has_level n) (the_options f.rest.now)) first.level ∙ sym (ap is_one_level (first_of_list bytes f first is))

options_bytes_push : (os : List Opt) (o : Opt) → options_bytes (os ++ o ∷ []) ≡ options_bytes os ++ option_bytes o
options_bytes_push os o = options_bytes-append os (o ∷ []) ∙ ap (λ l. options_bytes os ++ l) (append-nil (option_bytes o))

length_push : (os : List Opt) (o : Opt) → length (options_bytes (os ++ o ∷ [])) ≡ length (options_bytes os) + length (option_bytes o)
length_push os o = ap length (options_bytes_push os o) ∙ length-append (options_bytes os) (option_bytes o)

-- where an option has another level than the first, not all have one
pub another_level : (level : ℕ) (bytes : List ℕ) (f : First) → IsFirst bytes f → is_option_list bytes ≡ true → (f.level ≡ level → ⊥) → list_all (has_level level) (the_options bytes) ≡ false
another_level level bytes f first is other =
    let no : (f.level == level) ≡ false = grind (arith, nat_tests) in
    level_of_next level bytes f first is ∙ ap (λ b. b && list_all (has_level level) (the_options f.rest.now)) no

pub same_level : (level : ℕ) (bytes : List ℕ) (f : First) → IsFirst bytes f → is_option_list bytes ≡ true → f.level ≡ level
    → list_all (has_level level) (the_options f.rest.now) ≡ list_all (has_level level) (the_options bytes)
same_level level bytes f first is same =
    let yes : (f.level == level) ≡ true = grind (arith, nat_tests) in
    sym (level_of_next level bytes f first is ∙ ap (λ b. b && list_all (has_level level) (the_options f.rest.now)) yes)

pub header_written : (old a b c d one two three four : List ℕ) → one ≡ old ++ a → two ≡ one ++ b → three ≡ two ++ c → four ≡ three ++ d → four ≡ old ++ (((a ++ b) ++ c) ++ d)
header_written old a b c d one two three four e f g h = rw (h, g, f, e) (simp append_assoc)

-- the first options are negotiated, and their answers written
pub record IsNegotiatedTo (before : Settings) (room : Roomy) (action : ℕ) (request : List ℕ) (settings : Settings) (overall : ℕ) (written : Roomy) (rest : List ℕ) : Type 0 where
  pub answers : List Opt
  pub is_list : is_option_list rest ≡ true
  pub same : negotiate_from (negotiated settings answers overall) action (the_options rest) ≡ negotiate before action (the_options request)
  pub bytes : written.bytes ≡ room.bytes ++ options_bytes answers
  pub spare : room.spare ≤ written.spare + length (options_bytes answers)

pub none_yet : (s : Settings) (room : Roomy) (action : ℕ) (request : List ℕ) → is_option_list request ≡ true → IsNegotiatedTo s room action request s t_success room request
none_yet s room action request is = record { answers = []; is_list = is; same = refl; bytes = sym (append-nil room.bytes); spare = omega arith }

-- what is answered stays first
answers_stay : (action : ℕ) (n : Negotiated) (os : List Opt) → length (options_bytes n.options) ≤ length (options_bytes (negotiate_from n action os).options)
answers_stay action n [] = omega arith
answers_stay action n (o ∷ os) =
    omega (arith, answers_stay action (next action n o) os, length_push n.options (answered o (answer_meant n.settings action o.value (meaning o))))

told_answered : (bytes : List ℕ) (f : First) (a : Answer) → IsFirst bytes f → told f.level f.name a ≡ answered (front_option bytes) a
told_answered bytes f a first = rw (first.level, first.name) refl

meaning_of_first : (bytes : List ℕ) (f : First) → IsFirst bytes f → meaning_at f.level f.name ≡ meaning (front_option bytes)
meaning_of_first bytes f first = rw (first.level, first.name) refl

answer_of_first : (s : Settings) (action : ℕ) (bytes : List ℕ) (f : First) → IsFirst bytes f
    → answer_meant s action f.value.now (meaning_at f.level f.name) ≡ answer_meant s action (front_option bytes).value (meaning (front_option bytes))
answer_of_first s action bytes f first =
    ap (λ v. answer_meant s action v (meaning_at f.level f.name)) first.value ∙ ap (answer_meant s action (front_option bytes).value) (meaning_of_first bytes f first)

-- there is space for the answer to the next option
pub space_left : (before : Settings) (room : Roomy) (action : ℕ) (request : List ℕ) (settings : Settings) (overall : ℕ) (written : Roomy) (rest : List ℕ)
    → IsNegotiatedTo before room action request settings overall written rest → length (options_bytes (negotiate before action (the_options request)).options) ≤ room.spare
    → (f : First) (a : Answer) → IsFirst rest f → a ≡ answer_meant settings action f.value.now (meaning_at f.level f.name)
    → length (option_bytes (told f.level f.name a)) ≤ written.spare
space_left before room action request settings overall written rest so_far space f a first e =
    let o = front_option rest in
    let n = negotiated settings so_far.answers overall in
    let x = answered o (answer_meant settings action o.value (meaning o)) in
    let same : told f.level f.name a ≡ x = told_answered rest f a first ∙ ap (answered o) (e ∙ answer_of_first settings action rest f first) in
    let whole = ap (λ m. length (options_bytes m.options)) (sym (ap (negotiate_from n action) (first_of_list rest f first so_far.is_list)) ∙ so_far.same) in
    omega (arith, space, so_far.spare, whole, answers_stay action (next action n o) (the_options f.rest.now), length_push so_far.answers x, ap (λ p. length (option_bytes p)) same)

-- one option more
pub one_further : (before : Settings) (room : Roomy) (action : ℕ) (request : List ℕ) (settings : Settings) (overall : ℕ) (written : Roomy) (rest : List ℕ)
    → IsNegotiatedTo before room action request settings overall written rest
    → (f : First) (a : Answer) (settings' : Settings) (overall' : ℕ) (written' : Roomy) → IsFirst rest f
    → a ≡ answer_meant settings action f.value.now (meaning_at f.level f.name) → settings' ≡ set_meant settings (meaning_at f.level f.name) a.sets
    → overall' ≡ worse overall a.result
    → written'.bytes ≡ written.bytes ++ option_bytes (told f.level f.name a) → written.spare ≤ written'.spare + length (option_bytes (told f.level f.name a))
    → IsNegotiatedTo before room action request settings' overall' written' f.rest.now
one_further before room action request settings overall written rest so_far f a settings' overall' written' first e es eo eb ep =
    let o = front_option rest in
    let n = negotiated settings so_far.answers overall in
    let x = answered o a in
    let same : told f.level f.name a ≡ x = told_answered rest f a first in
    let step : next action n o ≡ negotiated settings' (so_far.answers ++ x ∷ []) overall' =
    next_is action n o a settings' (so_far.answers ++ x ∷ []) overall' (e ∙ answer_of_first settings action rest f first)
    (es ∙ ap (λ m. set_meant settings m a.sets) (meaning_of_first rest f first)) refl eo in
    record {
      answers = so_far.answers ++ x ∷ [];
      is_list = rest_is_list rest f first so_far.is_list;
      same = ap (λ m. negotiate_from m action (the_options f.rest.now)) (sym step) ∙ sym (ap (negotiate_from n action) (first_of_list rest f first so_far.is_list)) ∙ so_far.same;
      bytes = eb ∙ ap (λ b. b ++ option_bytes (told f.level f.name a)) so_far.bytes ∙ append_assoc room.bytes (options_bytes so_far.answers) (option_bytes (told f.level f.name a))
          ∙ ap (λ p. room.bytes ++ (options_bytes so_far.answers ++ option_bytes p)) same ∙ ap (λ b. room.bytes ++ b) (sym (options_bytes_push so_far.answers x));
      spare = omega (arith, so_far.spare, ep, length_push so_far.answers x, ap (λ p. length (option_bytes p)) same);
    }

-- where no option is left, all are negotiated
pub all_negotiated : (before : Settings) (room : Roomy) (action : ℕ) (request : List ℕ) (settings : Settings) (overall : ℕ) (written : Roomy) (rest : List ℕ)
    (so_far : IsNegotiatedTo before room action request settings overall written rest) → begins_option rest ≡ false
    → negotiated settings so_far.answers overall ≡ negotiate before action (the_options request)
all_negotiated before room action request settings overall written rest so_far none =
    ap (negotiate_from (negotiated settings so_far.answers overall) action) (sym (no_more rest so_far.is_list none)) ∙ so_far.same

answer_length : (s s' : Settings) (action : ℕ) (o : Opt)
    → length (option_bytes (answered o (answer_meant s action o.value (meaning o)))) ≡ length (option_bytes (answered o (answer_meant s' action o.value (meaning o))))
answer_length s s' action o =
    let x = answered o (answer_meant s action o.value (meaning o)) in
    let y = answered o (answer_meant s' action o.value (meaning o)) in
    length-option_bytes x ∙ ap (λ n. 16 + n + filling n) (value_length s s' action o.value (meaning o)) ∙ sym (length-option_bytes y)

lengths_from : (action : ℕ) (os : List Opt) (n m : Negotiated) → length (options_bytes n.options) ≡ length (options_bytes m.options)
    → length (options_bytes (negotiate_from n action os).options) ≡ length (options_bytes (negotiate_from m action os).options)
lengths_from action [] n m e = e
lengths_from action (o ∷ os) n m e =
    let x = answered o (answer_meant n.settings action o.value (meaning o)) in
    let y = answered o (answer_meant m.settings action o.value (meaning o)) in
    lengths_from action os (next action n o) (next action m o)
    (omega (arith, e, length_push n.options x, length_push m.options y, answer_length n.settings m.settings action o))

-- the answers to the first option and to the others
pub length_of_answers : (s : Settings) (action : ℕ) (o : Opt) (os : List Opt)
    → length (options_bytes (negotiate s action (o ∷ os)).options) ≡
    length (option_bytes (answered o (answer_meant s action o.value (meaning o)))) + length (options_bytes (negotiate s action os).options)
length_of_answers s action o os =
    let x = answered o (answer_meant s action o.value (meaning o)) in
    let s' = (negotiate s action (o ∷ [])).settings in
    ap (λ n. length (options_bytes n.options)) (negotiate-append s action (o ∷ []) os)
    ∙ length-append (option_bytes x) (options_bytes (negotiate s' action os).options)
    ∙ ap (λ n. length (option_bytes x) + n) (lengths_from action os _ _ refl)

-- the answers to what stands in bytes
pub length_behind : (s : Settings) (action : ℕ) (bytes : List ℕ) (f : First) → IsFirst bytes f → is_option_list bytes ≡ true
    → length (options_bytes (negotiate s action (the_options bytes)).options) ≡
    length (option_bytes (told f.level f.name (answer_meant s action f.value.now (meaning_at f.level f.name)))) + length (options_bytes (negotiate s action (the_options f.rest.now)).options)
length_behind s action bytes f first is =
    let o = front_option bytes in
    let same : told f.level f.name (answer_meant s action f.value.now (meaning_at f.level f.name)) ≡ answered o (answer_meant s action o.value (meaning o)) =
    told_answered bytes f (answer_meant s action f.value.now (meaning_at f.level f.name)) first ∙ ap (answered o) (answer_of_first s action bytes f first) in
    ap (λ os. length (options_bytes (negotiate s action os).options)) (first_of_list bytes f first is)
    ∙ length_of_answers s action o (the_options f.rest.now)
    ∙ ap (λ p. length (option_bytes p) + length (options_bytes (negotiate s action (the_options f.rest.now)).options)) (sym same)
