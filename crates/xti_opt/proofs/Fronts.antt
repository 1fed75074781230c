-- The first option of bytes, and what comes after it.
use Rattle.std.proofs.Common.{◌≡◌, ◌≤◌, ◌+◌, ◌-◌, ◌*◌, ◌&&◌, ◌∙◌, sym, ℕ, List, ◌++◌, length, take, drop, true, refl, ap, arith, nat_le, length-drop, length-append, slice_range, get_or}
use Rattle.std.proofs.lemmas.Bool.{and_parts}
use Rattle.std.proofs.lemmas.Bool.Decides.{nat_tests}
use Rattle.std.proofs.lemmas.List.{get_or_append_left, drop-append-le, take-append-le, take-append-drop, length-take-le}
use Rattle.xti_base.specs.declared.options.Opt.{Opt}
use Rattle.xti_base.specs.Options.{word, front_size, front_length, filling, are_zero, begins_option, behind_option, front_option}
use Rattle.xti_base.proofs.OptionLists.{front_within}

abbrev pub opt : ℕ → ℕ → ℕ → List ℕ → Opt
opt level name status value = record { level = level; name = name; status = status; value = value }

is_at_most : (a b : ℕ) → a ≤ b → nat_le a b ≡ true
is_at_most a b h = grind (arith, nat_tests)

at_most : (a b : ℕ) → nat_le a b ≡ true → a ≤ b
at_most a b h = grind (arith, nat_tests)

-- more bytes after it leave the words of the header as they are
word_kept : (place : ℕ) (xs ys : List ℕ) → 4 * place + 4 ≤ length xs → word place (xs ++ ys) ≡ word place xs
word_kept place xs ys h =
    let a : get_or (xs ++ ys) (4 * place) 0 ≡ get_or xs (4 * place) 0 = get_or_append_left xs ys 0 (4 * place) (omega arith) in
    let b : get_or (xs ++ ys) (4 * place + 1) 0 ≡ get_or xs (4 * place + 1) 0 = get_or_append_left xs ys 0 (4 * place + 1) (omega arith) in
    let c : get_or (xs ++ ys) (4 * place + 2) 0 ≡ get_or xs (4 * place + 2) 0 = get_or_append_left xs ys 0 (4 * place + 2) (omega arith) in
    let d : get_or (xs ++ ys) (4 * place + 3) 0 ≡ get_or xs (4 * place + 3) 0 = get_or_append_left xs ys 0 (4 * place + 3) (omega arith) in
    cc

pub begins_by : (bytes : List ℕ) (n : ℕ) → front_length bytes ≡ n
    → begins_option bytes ≡ (nat_le 16 (length bytes) && nat_le 16 n && nat_le (n + filling n) (length bytes) && are_zero (slice_range bytes n (n + filling n)))
unfolding begins_option
begins_by bytes n e = rw e refl

same_tests : (p q n s : ℕ) (xs ys : List ℕ) → 16 ≤ p → 16 ≤ q → s ≤ p → s ≤ q → xs ≡ ys
    → (nat_le 16 p && nat_le 16 n && nat_le s p && are_zero xs) ≡ (nat_le 16 q && nat_le 16 n && nat_le s q && are_zero ys)
same_tests p q n s xs ys a b c d e = rw (is_at_most 16 p a, is_at_most 16 q b, is_at_most s p c, is_at_most s q d, e) refl

pub tests_pass : (p n s : ℕ) (xs : List ℕ) → 16 ≤ p → 16 ≤ n → s ≤ p → are_zero xs ≡ true → (nat_le 16 p && nat_le 16 n && nat_le s p && are_zero xs) ≡ true
tests_pass p n s xs a b c e = rw (is_at_most 16 p a, is_at_most 16 n b, is_at_most s p c, e) refl

range_kept : (xs ys : List ℕ) (i j : ℕ) → i ≤ j → j ≤ length xs → slice_range (xs ++ ys) i j ≡ slice_range xs i j
range_kept xs ys i j h k =
    let front : i ≤ length xs = omega arith in
    let left : j - i ≤ length (drop i xs) = omega (arith, length-drop i xs) in
    ap (λ l. take (j - i) l) (drop-append-le i xs ys front) ∙ take-append-le (j - i) (drop i xs) ys left

-- where the bytes of the option are there, more bytes after it change nothing
pub begins_kept : (xs ys : List ℕ) → 16 ≤ length xs → front_size xs ≤ length xs → begins_option (xs ++ ys) ≡ begins_option xs
begins_kept xs ys h k =
    let more : length xs ≤ length (xs ++ ys) = omega (arith, length-append xs ys) in
    begins_by (xs ++ ys) (front_length xs) (word_kept 0 xs ys (omega arith))
    ∙ same_tests (length (xs ++ ys)) (length xs) (front_length xs) (front_size xs) _ _ (omega (arith, more)) h (omega (arith, more)) k
    (range_kept xs ys (front_length xs) (front_size xs) (omega arith) k)
    ∙ sym (begins_by xs (front_length xs) refl)

pub same_option : (a b c p q r : ℕ) (v w : List ℕ) → a ≡ p → b ≡ q → c ≡ r → v ≡ w
    → opt a b c v ≡ opt p q r w
same_option a b c p q r v w e f g h = rw (e, f, g, h) refl

-- the length of an option counts its header, and its bytes stand there
pub length_within : (bytes : List ℕ) → begins_option bytes ≡ true → (16 ≤ front_length bytes) × (front_length bytes ≤ length bytes)
unfolding begins_option
length_within bytes h =
    let sizes = front_within bytes h in
    let parts = and_parts (nat_le 16 (length bytes) && nat_le 16 (front_length bytes) && nat_le (front_size bytes) (length bytes)) (are_zero (slice_range bytes (front_length bytes) (front_size bytes))) h in
    let left = and_parts (nat_le 16 (length bytes) && nat_le 16 (front_length bytes)) (nat_le (front_size bytes) (length bytes)) parts.0 in
    let first = and_parts (nat_le 16 (length bytes)) (nat_le 16 (front_length bytes)) left.0 in
    (at_most 16 (front_length bytes) first.1, omega (arith, sizes.1))

-- the bytes that fill an option up are zero
pub zeros_within : (bytes : List ℕ) → begins_option bytes ≡ true → are_zero (slice_range bytes (front_length bytes) (front_size bytes)) ≡ true
unfolding begins_option
zeros_within bytes h = (and_parts (nat_le 16 (length bytes) && nat_le 16 (front_length bytes) && nat_le (front_size bytes) (length bytes)) (are_zero (slice_range bytes (front_length bytes) (front_size bytes))) h).1

pub option_kept : (xs ys : List ℕ) → begins_option xs ≡ true → front_option (xs ++ ys) ≡ front_option xs
option_kept xs ys h =
    let sizes = front_within xs h in
    let lengths = length_within xs h in
    let n : front_length (xs ++ ys) ≡ front_length xs = word_kept 0 xs ys (omega (arith, sizes.0, sizes.1)) in
    let level : word 1 (xs ++ ys) ≡ word 1 xs = word_kept 1 xs ys (omega (arith, sizes.0, sizes.1)) in
    let name : word 2 (xs ++ ys) ≡ word 2 xs = word_kept 2 xs ys (omega (arith, sizes.0, sizes.1)) in
    let status : word 3 (xs ++ ys) ≡ word 3 xs = word_kept 3 xs ys (omega (arith, sizes.0, sizes.1)) in
    let value : slice_range (xs ++ ys) 16 (front_length xs) ≡ slice_range xs 16 (front_length xs) = range_kept xs ys 16 (front_length xs) lengths.0 lengths.1 in
    same_option _ _ _ _ _ _ _ _ level name status (ap (λ k. slice_range (xs ++ ys) 16 k) n ∙ value)

pub behind_kept : (xs ys : List ℕ) → begins_option xs ≡ true → behind_option (xs ++ ys) ≡ behind_option xs ++ ys
behind_kept xs ys h =
    let sizes = front_within xs h in
    let n : front_length (xs ++ ys) ≡ front_length xs = word_kept 0 xs ys (omega (arith, sizes.0, sizes.1)) in
    ap (λ k. drop (k + filling k) (xs ++ ys)) n ∙ drop-append-le (front_size xs) xs ys sizes.1

-- an option that begins also begins without what comes after it
pub begins_alone : (bytes : List ℕ) → begins_option bytes ≡ true → begins_option (take (front_size bytes) bytes) ≡ true
begins_alone bytes h =
    let sizes = front_within bytes h in
    let size : length (take (front_size bytes) bytes) ≡ front_size bytes = length-take-le (front_size bytes) bytes sizes.1 in
    let whole : take (front_size bytes) bytes ++ drop (front_size bytes) bytes ≡ bytes = take-append-drop (front_size bytes) bytes in
    let n : front_length (take (front_size bytes) bytes) ≡ front_length bytes =
    sym (word_kept 0 (take (front_size bytes) bytes) (drop (front_size bytes) bytes) (omega (arith, sizes.0, size))) ∙ ap front_length whole in
    sym (begins_kept (take (front_size bytes) bytes) (drop (front_size bytes) bytes) (omega (arith, sizes.0, size)) (omega (arith, size, n)))
    ∙ ap begins_option whole ∙ h

pub size_alone : (bytes : List ℕ) → begins_option bytes ≡ true → front_size (take (front_size bytes) bytes) ≡ length (take (front_size bytes) bytes)
size_alone bytes h =
    let sizes = front_within bytes h in
    let size : length (take (front_size bytes) bytes) ≡ front_size bytes = length-take-le (front_size bytes) bytes sizes.1 in
    let whole : take (front_size bytes) bytes ++ drop (front_size bytes) bytes ≡ bytes = take-append-drop (front_size bytes) bytes in
    let n : front_length (take (front_size bytes) bytes) ≡ front_length bytes =
    sym (word_kept 0 (take (front_size bytes) bytes) (drop (front_size bytes) bytes) (omega (arith, sizes.0, size))) ∙ ap front_length whole in
    ap (λ k. k + filling k) n ∙ sym size

-- where an option begins, its header, its value and the bytes that fill it up stand there
pub header_stands : (bytes : List ℕ) → begins_option bytes ≡ true → 16 ≤ length bytes
header_stands bytes h = let lengths = length_within bytes h in omega (arith, lengths.0, lengths.1)

pub value_after_header : (bytes : List ℕ) → begins_option bytes ≡ true → 16 ≤ word 0 bytes
value_after_header bytes h = (length_within bytes h).0

pub value_stands : (bytes : List ℕ) → begins_option bytes ≡ true → word 0 bytes ≤ length bytes
value_stands bytes h = (length_within bytes h).1

pub option_stands : (bytes : List ℕ) (n : ℕ) → (begins_option bytes ≡ true) × (n ≡ front_size bytes) → n ≤ length bytes
option_stands bytes n h = rw (h.1) (front_within bytes h.0).1
