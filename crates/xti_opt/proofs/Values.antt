-- The values that are returned: how long they are, and that what is answered may be written.
use Rattle.std.proofs.Common.{All, ◌≡◌, ◌≤◌, ◌==◌, ◌∙◌, sym, ℕ, List, [], ◌∷◌, length, Bool, true, false, refl, arith, nat_le, if◌then◌else◌, None}
use Rattle.std.proofs.lemmas.List.Elements.{All-push, All-nil}
use Rattle.xti_base.specs.declared.options.Opt.{Opt}
use Rattle.xti_base.specs.Options.{word, word_bytes}
use Rattle.xti_base.specs.Negotiation.{Settings, Negotiated, Answer, Meaning, send_size, receive_size, low_water, unknown, meaning, answer_meant, answered, only_asks, buffer_answer, asked_size, sized, negotiate_from, negotiate, t_success, t_negotiate, t_check, t_current, most_room}
use Rattle.xti_opt.specs.Written.{IsWritable}
use Rattle.xti_opt.proofs.Negotiating.{negotiated, next}

either : (b : Bool) (x y : Answer) (n : ℕ) → length x.value ≡ n → length y.value ≡ n → length (if b then x else y).value ≡ n
either true x y n e f = e
either false x y n e f = f

sized_word : (current n : ℕ) → length (sized current n).value ≡ 4
sized_word current n = either (n == 0) _ _ 4 refl (either (nat_le n most_room) _ _ 4 refl refl)

asked_word : (current : ℕ) (value : List ℕ) → length (asked_size current value).value ≡ 4
asked_word current value = either (length value == 4) _ _ 4 (sized_word current (word 0 value)) refl

same_value : (b : Bool) (x y z : Answer) → length x.value ≡ length y.value → length (if b then z else x).value ≡ length (if b then z else y).value
same_value true x y z e = refl
same_value false x y z e = e

buffer_word : (action current start : ℕ) (value : List ℕ)
    → length (if action == t_negotiate then asked_size current value else
    if action == t_check then record (asked_size current value) { sets = None } else
    if action == t_current then record { result = t_success; value = word_bytes current; sets = None } else record { result = t_success; value = word_bytes start; sets = None }).value ≡ 4
buffer_word action current start value =
    either (action == t_negotiate) _ _ 4 (asked_word current value) (either (action == t_check) _ _ 4 (asked_word current value) (either (action == t_current) _ _ 4 refl refl))

-- how long an answer is doesn't depend on the settings
pub value_length : (s s' : Settings) (action : ℕ) (value : List ℕ) (m : Meaning) → length (answer_meant s action value m).value ≡ length (answer_meant s' action value m).value
value_length s s' action value send_size =
    same_value (only_asks action value) _ _ _ (buffer_word action s.sndbuf s.start_sndbuf value ∙ sym (buffer_word action s'.sndbuf s'.start_sndbuf value))
value_length s s' action value receive_size =
    same_value (only_asks action value) _ _ _ (buffer_word action s.rcvbuf s.start_rcvbuf value ∙ sym (buffer_word action s'.rcvbuf s'.start_rcvbuf value))
value_length s s' action value low_water = refl
value_length s s' action value unknown = refl

at_most_either : (b : Bool) (x y : Answer) (n : ℕ) → length x.value ≤ n → length y.value ≤ n → length (if b then x else y).value ≤ n
at_most_either true x y n e f = e
at_most_either false x y n e f = f

at_most_buffer : (action current start : ℕ) (value : List ℕ) → length (buffer_answer action current start value).value ≤ 4
at_most_buffer action current start value = at_most_either (only_asks action value) _ _ 4 (omega arith) (omega (arith, buffer_word action current start value))

-- a value returned is one word or empty
at_most_word : (s : Settings) (action : ℕ) (value : List ℕ) (m : Meaning) → length (answer_meant s action value m).value ≤ 4
at_most_word s action value send_size = at_most_buffer action s.sndbuf s.start_sndbuf value
at_most_word s action value receive_size = at_most_buffer action s.rcvbuf s.start_rcvbuf value
at_most_word s action value low_water = at_most_either (only_asks action value) _ _ 4 (omega arith) (omega arith)
at_most_word s action value unknown = omega arith

writable_from : (action : ℕ) (n : Negotiated) (os : List Opt) → All IsWritable n.options → All IsWritable (negotiate_from n action os).options
writable_from action n [] are = are
writable_from action n (o ∷ os) are =
    let a = answer_meant n.settings action o.value (meaning o) in
    let short : length a.value ≤ 4 = at_most_word n.settings action o.value (meaning o) in
    writable_from action (next action n o) os (All-push IsWritable n.options (answered o a) are (omega (arith, short)))

-- what is answered may be written
pub answers_writable : (s : Settings) (action : ℕ) (os : List Opt) → All IsWritable (negotiate s action os).options
answers_writable s action os = writable_from action (negotiated s [] t_success) os (All-nil IsWritable)
