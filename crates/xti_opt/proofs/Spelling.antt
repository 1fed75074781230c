-- What an option's bytes are read as, and what is written for it.
use Rattle.std.proofs.Common.{◌≡◌, ◌≤◌, ◌<◌, ◌+◌, ◌-◌, ◌^◌, ◌∙◌, sym, ℕ, zero, suc, List, [], ◌∷◌, ◌++◌, length, take, drop, replicate, true, refl, ap, arith, All, Some, length-drop, length-append, slice_range, get_or}
use Rattle.std.proofs.lemmas.List.{append_assoc, append-nil, take_more, take-append-drop, length-take, length-take-le, length-replicate, take_at, drop_at, drop-drop, drop_all, take_all, get_or-drop, get_or-take}
use Rattle.std.proofs.lemmas.List.Elements.{All-head, All-tail, All-cons, All-nil, All-from_get_or}
use Rattle.std.proofs.lemmas.Nat.{from_be_bytes-to_be_bytes_4}
use Rattle.xti_base.specs.declared.options.Opt.{Opt}
use Rattle.xti_base.specs.Options.{word, word_bytes, filling, are_zero, front_length, front_size, begins_option, behind_option, front_option, options_within, read_options, is_option_list, the_options, option_bytes, options_bytes, IsOption}
use Rattle.xti_base.proofs.OptionLists.{front_within, behind_shorter}
use Rattle.xti_opt.proofs.Words.{AreBytes, word_written, word_fits, filling_behind_header, zeros_are, replicate_is_zero, take_range}
use Rattle.xti_opt.proofs.Fronts.{begins_by, tests_pass, same_option, begins_kept, option_kept, behind_kept, length_within, zeros_within}
use Rattle.xti_opt.proofs.Lists.{headed, read_front, list_begins, options_front, behind_is_list}

abbrev zeros : Opt → List ℕ
zeros o = replicate (filling (length o.value)) 0

pub length-option_bytes : (o : Opt) → length (option_bytes o) ≡ 16 + length o.value + filling (length o.value)
length-option_bytes o = omega (arith, length-append o.value (zeros o), length-replicate {A = ℕ} (filling (length o.value)) 0)

length_spelled : (o : Opt) → IsOption o → front_length (option_bytes o) ≡ 16 + length o.value
length_spelled o is = from_be_bytes-to_be_bytes_4 (16 + length o.value) is.size

size_spelled : (o : Opt) → IsOption o → front_size (option_bytes o) ≡ length (option_bytes o)
size_spelled o is =
    ap (λ n. n + filling n) (length_spelled o is) ∙ ap (λ n. 16 + length o.value + n) (filling_behind_header (length o.value)) ∙ sym (length-option_bytes o)

behind_value : (o : Opt) → drop (16 + length o.value) (option_bytes o) ≡ zeros o
behind_value o = sym (drop-drop (length o.value) 16 (option_bytes o)) ∙ drop_at o.value (zeros o) (length o.value) refl

zeros_spelled : (o : Opt) → are_zero (slice_range (option_bytes o) (16 + length o.value) (16 + length o.value + filling (16 + length o.value))) ≡ true
zeros_spelled o =
    let n : ℕ = 16 + length o.value in
    let count : length (zeros o) ≤ n + filling n - n = omega (arith, length-replicate {A = ℕ} (filling (length o.value)) 0, filling_behind_header (length o.value)) in
    ap (λ l. are_zero (take (n + filling n - n) l)) (behind_value o)
    ∙ ap are_zero (take_all (n + filling n - n) (zeros o) count)
    ∙ replicate_is_zero (filling (length o.value))

-- what is written for an option begins with one
begins_spelled : (o : Opt) → IsOption o → begins_option (option_bytes o) ≡ true
begins_spelled o is =
    let n : ℕ = 16 + length o.value in
    let count : length (option_bytes o) ≡ n + filling n = omega (arith, length-option_bytes o, filling_behind_header (length o.value)) in
    begins_by (option_bytes o) (16 + length o.value) (length_spelled o is)
    ∙ tests_pass (length (option_bytes o)) n (n + filling n) (slice_range (option_bytes o) n (n + filling n)) (omega (arith, count)) (omega arith) (omega (arith, count)) (zeros_spelled o)

-- and it is this option
option_spelled : (o : Opt) → IsOption o → front_option (option_bytes o) ≡ o
option_spelled o is =
    let count : length o.value ≡ front_length (option_bytes o) - 16 = omega (arith, length_spelled o is) in
    same_option _ _ _ _ _ _ _ _ (from_be_bytes-to_be_bytes_4 o.level is.level) (from_be_bytes-to_be_bytes_4 o.name is.name) (from_be_bytes-to_be_bytes_4 o.status is.status)
    (take_at o.value (zeros o) (front_length (option_bytes o) - 16) count)

-- the option's bytes and others after them
read_spelled : (o : Opt) (rest : List ℕ) → IsOption o → read_options (option_bytes o ++ rest) ≡ headed o (read_options rest)
read_spelled o rest is =
    let begins = begins_spelled o is in
    let sizes = front_within (option_bytes o) begins in
    let none : behind_option (option_bytes o) ≡ [] = drop_all (front_size (option_bytes o)) (option_bytes o) (omega (arith, size_spelled o is)) in
    let both : begins_option (option_bytes o ++ rest) ≡ true = begins_kept (option_bytes o) rest (omega (arith, sizes.0, sizes.1)) sizes.1 ∙ begins in
    read_front (option_bytes o ++ rest) both
    ∙ ap (λ first. headed first (read_options (behind_option (option_bytes o ++ rest)))) (option_kept (option_bytes o) rest begins ∙ option_spelled o is)
    ∙ ap (λ behind. headed o (read_options behind)) (behind_kept (option_bytes o) rest begins ∙ ap (λ l. l ++ rest) none)

-- reading what was written gives the options back
pub read_written : (os : List Opt) → All IsOption os → read_options (options_bytes os) ≡ Some os
unfolding options_within
read_written [] are = refl
read_written (o ∷ os) are = read_spelled o (options_bytes os) (All-head IsOption o os are) ∙ ap (headed o) (read_written os (All-tail IsOption o os are))

same_bytes : (a b c d v z p q r s w y : List ℕ) → a ≡ p → b ≡ q → c ≡ r → d ≡ s → v ≡ w → z ≡ y → ((((a ++ b) ++ c) ++ d) ++ v) ++ z ≡ ((((p ++ q) ++ r) ++ s) ++ w) ++ y
same_bytes a b c d v z p q r s w y e f g h i j = cc

value_length : (bytes : List ℕ) → begins_option bytes ≡ true → length (slice_range bytes 16 (front_length bytes)) ≡ front_length bytes - 16
value_length bytes begins =
    let lengths = length_within bytes begins in
    length-take-le (front_length bytes - 16) (drop 16 bytes) (omega (arith, lengths.0, lengths.1, length-drop 16 bytes))

same_filling : (m n s : ℕ) → 16 + m ≡ n → s ≡ n + filling n → filling m ≡ s - n
same_filling m n s e f = omega arith

-- as many zeros as fill up stand between the value and the end
zeros_between : (bytes : List ℕ) (m n s : ℕ) → 16 + m ≡ n → s ≡ n + filling n → s ≤ length bytes → are_zero (slice_range bytes n s) ≡ true
    → replicate (filling m) 0 ≡ slice_range bytes n s
zeros_between bytes m n s e f h z =
    let count : length (slice_range bytes n s) ≡ s - n = length-take-le (s - n) (drop n bytes) (omega (arith, length-drop n bytes)) in
    ap (λ k. replicate k 0) (same_filling m n s e f ∙ sym count) ∙ zeros_are (slice_range bytes n s) z

zeros_written : (bytes : List ℕ) (v : List ℕ) → begins_option bytes ≡ true → length v ≡ front_length bytes - 16
    → replicate (filling (length v)) 0 ≡ slice_range bytes (front_length bytes) (front_size bytes)
zeros_written bytes v begins e =
    let lengths = length_within bytes begins in
    zeros_between bytes (length v) (front_length bytes) (front_size bytes) (omega (arith, lengths.0)) refl (front_within bytes begins).1 (zeros_within bytes begins)

header : (bytes : List ℕ) → take 16 bytes ≡ (((take 4 (drop 0 bytes) ++ take 4 (drop 4 bytes)) ++ take 4 (drop 8 bytes)) ++ take 4 (drop 12 bytes))
header bytes =
    take_range bytes 12 16 (omega arith)
    ∙ ap (λ l. l ++ take 4 (drop 12 bytes)) (take_range bytes 8 12 (omega arith) ∙ ap (λ l. l ++ take 4 (drop 8 bytes)) (take_range bytes 4 8 (omega arith)))

-- what comes first is written again as it stood
pub front_written : (bytes : List ℕ) → AreBytes bytes → begins_option bytes ≡ true → option_bytes (front_option bytes) ≡ take (front_size bytes) bytes
front_written bytes are begins =
    let lengths = length_within bytes begins in
    let sizes = front_within bytes begins in
    let n : ℕ = front_length bytes in
    let count : length (slice_range bytes 16 (front_length bytes)) ≡ front_length bytes - 16 = value_length bytes begins in
    let whole : 16 + length (slice_range bytes 16 (front_length bytes)) ≡ word 0 bytes = omega (arith, lengths.0, count) in
    same_bytes (word_bytes (16 + length (slice_range bytes 16 (front_length bytes)))) (word_bytes (word 1 bytes)) (word_bytes (word 2 bytes)) (word_bytes (word 3 bytes))
    (slice_range bytes 16 (front_length bytes)) (replicate (filling (length (slice_range bytes 16 (front_length bytes)))) 0) _ _ _ _ _ _
    (ap word_bytes whole ∙ word_written 0 bytes are (omega (arith, lengths.0, lengths.1)))
    (word_written 1 bytes are (omega (arith, lengths.0, lengths.1)))
    (word_written 2 bytes are (omega (arith, lengths.0, lengths.1)))
    (word_written 3 bytes are (omega (arith, lengths.0, lengths.1)))
    refl (zeros_written bytes (slice_range bytes 16 (front_length bytes)) begins count)
    ∙ ap (λ l. (l ++ slice_range bytes 16 (front_length bytes)) ++ slice_range bytes (front_length bytes) (front_size bytes)) (sym (header bytes))
    ∙ ap (λ l. l ++ slice_range bytes (front_length bytes) (front_size bytes)) (sym (take_range bytes 16 (front_length bytes) lengths.0))
    ∙ sym (take_range bytes (front_length bytes) (front_size bytes) (omega arith))

bytes_behind : (bytes : List ℕ) (n : ℕ) → AreBytes bytes → AreBytes (drop n bytes)
bytes_behind bytes n are = λ i. rw (get_or-drop n bytes i 0) (are (n + i))

written_within : (most : ℕ) (bytes : List ℕ) → length bytes ≤ most → AreBytes bytes → is_option_list bytes ≡ true → options_bytes (the_options bytes) ≡ bytes
unfolding options_within
written_within most [] h are is = refl
written_within zero (b ∷ bytes) h are is = absurd (let no : ⊥ = omega arith in no)
written_within (suc most) (b ∷ bytes) h are is =
    let begins : begins_option (b ∷ bytes) ≡ true = list_begins (b ∷ bytes) is (omega arith) in
    let shorter = behind_shorter (b ∷ bytes) begins in
    let rest = written_within most (behind_option (b ∷ bytes)) (omega (arith, shorter)) (bytes_behind (b ∷ bytes) (front_size (b ∷ bytes)) are) (behind_is_list (b ∷ bytes) begins is) in
    ap options_bytes (options_front (b ∷ bytes) begins is)
    ∙ ap (λ l. l ++ options_bytes (the_options (behind_option (b ∷ bytes)))) (front_written (b ∷ bytes) are begins)
    ∙ ap (λ l. take (front_size (b ∷ bytes)) (b ∷ bytes) ++ l) rest
    ∙ take-append-drop (front_size (b ∷ bytes)) (b ∷ bytes)

-- writing what was read gives the bytes back
pub written_read : (bytes : List ℕ) → AreBytes bytes → is_option_list bytes ≡ true → options_bytes (the_options bytes) ≡ bytes
written_read bytes are is = written_within (length bytes) bytes (omega arith) are is

within : (bytes : List ℕ) (i j k : ℕ) → AreBytes bytes → k < length (slice_range bytes i j) → get_or (slice_range bytes i j) k 0 < 256
within bytes i j k are h =
    let front : k < j - i = omega (arith, length-take (j - i) (drop i bytes)) in
    rw (get_or-take (j - i) (drop i bytes) k 0, get_or-drop i bytes k 0) (are (i + k))

range_bytes : (bytes : List ℕ) (i j : ℕ) → AreBytes bytes → All (λ b. b < 256) (slice_range bytes i j)
range_bytes bytes i j are = All-from_get_or (λ b. b < 256) (slice_range bytes i j) 0 (λ k h. within bytes i j k are h)

-- what is read can be written
front_is_option : (bytes : List ℕ) → AreBytes bytes → begins_option bytes ≡ true → IsOption (front_option bytes)
front_is_option bytes are begins =
    let lengths = length_within bytes begins in
    let count = value_length bytes begins in
    let fits : word 0 bytes < 2 ^ 32 = word_fits 0 bytes are in
    record {
      level = word_fits 1 bytes are;
      name = word_fits 2 bytes are;
      status = word_fits 3 bytes are;
      value = range_bytes bytes 16 (front_length bytes) are;
      size = omega (arith, lengths.0, count, fits);
    }

options_within_are : (most : ℕ) (bytes : List ℕ) → length bytes ≤ most → AreBytes bytes → is_option_list bytes ≡ true → All IsOption (the_options bytes)
unfolding options_within
options_within_are most [] h are is = All-nil IsOption
options_within_are zero (b ∷ bytes) h are is = absurd (let no : ⊥ = omega arith in no)
options_within_are (suc most) (b ∷ bytes) h are is =
    let begins : begins_option (b ∷ bytes) ≡ true = list_begins (b ∷ bytes) is (omega arith) in
    let shorter = behind_shorter (b ∷ bytes) begins in
    let rest = options_within_are most (behind_option (b ∷ bytes)) (omega (arith, shorter)) (bytes_behind (b ∷ bytes) (front_size (b ∷ bytes)) are) (behind_is_list (b ∷ bytes) begins is) in
    rw (options_front (b ∷ bytes) begins is) (All-cons IsOption (front_option (b ∷ bytes)) (the_options (behind_option (b ∷ bytes))) (front_is_option (b ∷ bytes) are begins) rest)

pub read_are_options : (bytes : List ℕ) → AreBytes bytes → is_option_list bytes ≡ true → All IsOption (the_options bytes)
read_are_options bytes are is = options_within_are (length bytes) bytes (omega arith) are is

pub options_bytes-append : (xs ys : List Opt) → options_bytes (xs ++ ys) ≡ options_bytes xs ++ options_bytes ys
options_bytes-append [] ys = refl
options_bytes-append (o ∷ os) ys = ap (λ l. option_bytes o ++ l) (options_bytes-append os ys) ∙ sym (append_assoc (option_bytes o) (options_bytes os) (options_bytes ys))

-- one more option
pub options_bytes_more : (os : List Opt) (i : ℕ) (o : Opt) → i < length os → o ≡ get_or os i o → options_bytes (take (i + 1) os) ≡ options_bytes (take i os) ++ option_bytes o
options_bytes_more os i o h e =
    ap options_bytes (take_more os i o h) ∙ options_bytes-append (take i os) (get_or os i o ∷ [])
    ∙ ap (λ l. options_bytes (take i os) ++ l) (append-nil (option_bytes (get_or os i o)))
    ∙ ap (λ x. options_bytes (take i os) ++ option_bytes x) (sym e)

-- the parts of an option, written one after the other
pub parts_written : (old a b c d v z one two three four five six : List ℕ) → one ≡ old ++ a → two ≡ one ++ b → three ≡ two ++ c → four ≡ three ++ d → five ≡ four ++ v → six ≡ five ++ z
    → six ≡ old ++ (((((a ++ b) ++ c) ++ d) ++ v) ++ z)
parts_written old a b c d v z one two three four five six e f g h i j = rw (j, i, h, g, f, e) (simp append_assoc)

pub options_bytes_front : (os : List Opt) (k : ℕ) → length (options_bytes (take k os)) ≤ length (options_bytes os)
options_bytes_front os k =
    let whole : options_bytes (take k os) ++ options_bytes (drop k os) ≡ options_bytes os = sym (options_bytes-append (take k os) (drop k os)) ∙ ap options_bytes (take-append-drop k os) in
    omega (arith, ap length whole, length-append (options_bytes (take k os)) (options_bytes (drop k os)))
