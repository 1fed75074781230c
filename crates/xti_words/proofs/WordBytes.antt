-- What words say in bytes is bytes.
use Rattle.std.proofs.Common.{◌≡◌, ℕ, zero, suc, ◌%◌, ◌+◌, ◌-◌, ◌*◌, ◌≤◌, ◌<◌, Bool, true, false, cond, ◌&&◌, ◌||◌, eqb, leb, List, [], ◌∷◌, ◌++◌, drop, Option, Some, None, refl, sym, subst, arith}
use Rattle.std.specs.Prelude.{All, codes, nat_eq, option_map, length, replicate}
use Rattle.std.specs.List.{concat, list_all, starts_with}
use Rattle.std.specs.Int.{byte_at, bytes_high_first}
use Rattle.std.proofs.lemmas.Bool.{and_parts, leb-true, eqb-true}
use Rattle.std.proofs.lemmas.List.Elements.{All-nil, All-cons, All-append, All-replicate}
use Rattle.std.proofs.lemmas.List.FromFn.{map-range_with_len_more}
use Rattle.xti_base.specs.declared.limits.TheConstants.{MOST_SEND}
use Rattle.xti_base.specs.declared.options.Opt.{Opt}
use Rattle.xti_base.specs.Options.{word_bytes, filling, option_bytes, options_bytes}
use Rattle.xti_opt.specs.Written.{IsWritable}
use Rattle.xti_words.specs.declared.values.TheConstants.{MOST_PIECES}
use Rattle.xti_words.specs.Texts.{pieces_of, is_lower, is_upper, is_digit, is_text_byte, is_plain_text}
use Rattle.xti_words.specs.Values.{number_in, hex_digit, hex_pair, hex_bytes, plain_bytes, counted, counted_bytes, onto, bytes_in, each_in, list_in, plain_option, valued_option, option_at, option_of, option_in, options_in}

-- each number is below 256
abbrev pub AreBytes : List ℕ → Type 0
AreBytes numbers = All (λ b. b < 256) numbers

pub some-is : {A : Type 0} (a b : A) → Some a ≡ Some b → a ≡ b
some-is a b h = cc

pub none-is : {A : Type 0} (b : A) → None ≡ Some b → ⊥
none-is b h = cc

either : {A : Type 0} (a b : Bool) → (a || b) ≡ true → (a ≡ true → A) → (b ≡ true → A) → A
either true b h f g = f refl
either false b h f g = g h

within : (low high c : ℕ) → (leb low c && leb c high) ≡ true → c ≤ high
within low high c h = leb-true c high (and_parts (leb low c) (leb c high) h).1

text-byte : (c : ℕ) → is_text_byte c ≡ true → c < 256
text-byte c h =
    either (is_lower c || is_upper c || is_digit c || eqb c 95 || eqb c 46) (eqb c 45) h
    (λ h. either (is_lower c || is_upper c || is_digit c || eqb c 95) (eqb c 46) h
    (λ h. either (is_lower c || is_upper c || is_digit c) (eqb c 95) h
    (λ h. either (is_lower c || is_upper c) (is_digit c) h
    (λ h. either (is_lower c) (is_upper c) h
    (λ h. (let b = within 97 122 c h in omega arith))
    (λ h. (let b = within 65 90 c h in omega arith)))
    (λ h. (let b = within 48 57 c h in omega arith)))
    (λ h. (let e = eqb-true c 95 h in omega arith)))
    (λ h. (let e = eqb-true c 46 h in omega arith)))
    (λ h. (let e = eqb-true c 45 h in omega arith))

text-bytes : (cs : List ℕ) → list_all is_text_byte cs ≡ true → AreBytes cs
text-bytes [] h = All-nil (λ b. b < 256)
text-bytes (c ∷ cs) h = let p = and_parts (is_text_byte c) (list_all is_text_byte cs) h in All-cons (λ b. b < 256) c cs (text-byte c p.0) (text-bytes cs p.1)

plain-bytes : (text bs : List ℕ) → plain_bytes text ≡ Some bs → AreBytes bs
plain-bytes text bs h = go (is_plain_text text) refl h
  where
    all : (cs : List ℕ) → is_plain_text cs ≡ true → AreBytes cs
    all [] h = All-nil (λ b. b < 256)
    all (c ∷ cs) h = text-bytes (c ∷ cs) h

    go : (b : Bool) → is_plain_text text ≡ b → cond b (Some text) None ≡ Some bs → AreBytes bs
    go true i h = subst AreBytes (some-is text bs h) (all text i)
    go false i h = absurd (none-is bs h)

pub hex-digit : (c n : ℕ) → hex_digit c ≡ Some n → n < 16
hex-digit c n h = go (is_digit c) refl (leb 97 c && leb c 102) refl h
  where
    go : (a : Bool) → is_digit c ≡ a → (b : Bool) → (leb 97 c && leb c 102) ≡ b → cond a (Some (c - 48)) (cond b (Some (c - 87)) None) ≡ Some n → n < 16
    go true i b j h = let m = within 48 57 c i in let e = some-is (c - 48) n h in omega arith
    go false i true j h = let m = within 97 102 c j in let e = some-is (c - 87) n h in omega arith
    go false i false j h = absurd (none-is n h)

hex-pair : (c d : Option ℕ) (n : ℕ) → ((m : ℕ) → c ≡ Some m → m < 16) → ((m : ℕ) → d ≡ Some m → m < 16) → hex_pair c d ≡ Some n → n < 256
hex-pair None d n f g h = absurd (none-is n h)
hex-pair (Some high) None n f g h = absurd (none-is n h)
hex-pair (Some high) (Some low) n f g h = let e = some-is (high * 16 + low) n h in let a = f high refl in let b = g low refl in omega arith

-- a list that begins with a value
record Begins {A : Type 0} (o : Option A) (os : Option (List A)) (all : List A) : Type 0 where
  first : A
  others : List A
  one : o ≡ Some first
  rest : os ≡ Some others
  both : first ∷ others ≡ all

begins : {A : Type 0} (o : Option A) (os : Option (List A)) (all : List A) → onto o os ≡ Some all → Begins o os all
begins None os all e = absurd (none-is all e)
begins (Some x) None all e = absurd (none-is all e)
begins (Some x) (Some xs) all e = record { first = x; others = xs; one = refl; rest = refl; both = some-is (x ∷ xs) all e }

hex-bytes : (text bs : List ℕ) → hex_bytes text ≡ Some bs → AreBytes bs
hex-bytes [] bs h = subst AreBytes (some-is [] bs h) (All-nil (λ b. b < 256))
hex-bytes (c ∷ []) bs h = absurd (none-is bs h)
hex-bytes (c ∷ d ∷ text) bs h =
    let b = begins (hex_pair (hex_digit c) (hex_digit d)) (hex_bytes text) bs h in
    subst AreBytes b.both (All-cons (λ b. b < 256) b.first b.others (hex-pair (hex_digit c) (hex_digit d) b.first (hex-digit c) (hex-digit d) b.one) (hex-bytes text b.others b.rest))

counted-all : (n : ℕ) → AreBytes (counted n)
counted-all zero = All-nil (λ b. b < 256)
counted-all (suc n) =
    let e : counted (n + 1) ≡ counted n ++ n % 256 ∷ [] = map-range_with_len_more (λ i. i % 256) 0 n n (omega arith) in
    let one : AreBytes (n % 256 ∷ []) = All-cons (λ b. b < 256) (n % 256) [] (omega arith) (All-nil (λ b. b < 256)) in
    let more : n + 1 ≡ suc n = omega arith in
    subst (λ m. AreBytes (counted m)) more (subst AreBytes (sym e) (All-append (λ b. b < 256) (counted n) (n % 256 ∷ []) (counted-all n) one))

counted-bytes : (n : Option ℕ) (bs : List ℕ) → counted_bytes n ≡ Some bs → AreBytes bs
counted-bytes None bs h = absurd (none-is bs h)
counted-bytes (Some n) bs h = go (leb n MOST_SEND) h
  where
    go : (b : Bool) → cond b (Some (counted n)) None ≡ Some bs → AreBytes bs
    go true h = subst AreBytes (some-is (counted n) bs h) (counted-all n)
    go false h = absurd (none-is bs h)

-- a word for bytes stands for numbers below 256
pub word-bytes : (word bs : List ℕ) → bytes_in word ≡ Some bs → AreBytes bs
unfolding bytes_in
word-bytes word bs h = go (starts_with nat_eq word (codes "t:")) (starts_with nat_eq word (codes "x:")) (starts_with nat_eq word (codes "f:")) h
  where
    go : (a b c : Bool) → cond a (plain_bytes (drop 2 word)) (cond b (hex_bytes (drop 2 word)) (cond c (counted_bytes (number_in (drop 2 word))) None)) ≡ Some bs → AreBytes bs
    go true b c h = plain-bytes (drop 2 word) bs h
    go false true c h = hex-bytes (drop 2 word) bs h
    go false false true h = counted-bytes (number_in (drop 2 word)) bs h
    go false false false h = absurd (none-is bs h)

-- ---- options

byte-small : (k n : ℕ) → byte_at k n < 256
byte-small zero n = omega arith
byte-small (suc k) n = omega arith

high-first : (k n : ℕ) → AreBytes (bytes_high_first k n)
high-first zero n = All-nil (λ b. b < 256)
high-first (suc k) n = All-cons (λ b. b < 256) (byte_at k n) (bytes_high_first k n) (byte-small k n) (high-first k n)

four-bytes : (n : ℕ) → AreBytes (word_bytes n)
four-bytes n = high-first 4 n

-- a value that is one word or none
abbrev IsPlain : Opt → Type 0
IsPlain o = AreBytes o.value × (length o.value ≤ 4)

plain-is : (level name : Option ℕ) (value : List ℕ) (o : Opt) → AreBytes value → length value ≤ 4 → plain_option level name value ≡ Some o → IsPlain o
plain-is None name value o a l h = absurd (none-is o h)
plain-is (Some level) None value o a l h = absurd (none-is o h)
plain-is (Some level) (Some name) value o a l h = let e = some-is (record { level = level; name = name; status = 0; value = value }) o h in subst IsPlain e (a, l)

valued-is : (level name value : Option ℕ) (o : Opt) → valued_option level name value ≡ Some o → IsPlain o
valued-is level name None o h = absurd (none-is o h)
valued-is level name (Some value) o h = plain-is level name (word_bytes value) o (four-bytes value) (omega arith) h

at-is : (level : Option ℕ) (pieces : List (List ℕ)) (o : Opt) → option_at level pieces ≡ Some o → IsPlain o
at-is level [] o h = absurd (none-is o h)
at-is level (name ∷ []) o h = plain-is level (number_in name) [] o (All-nil (λ b. b < 256)) (omega arith) h
at-is level (name ∷ value ∷ []) o h = valued-is level (number_in name) (number_in value) o h
at-is level (name ∷ value ∷ x ∷ xs) o h = absurd (none-is o h)

option-is : (pieces : List (List ℕ)) (o : Opt) → option_of pieces ≡ Some o → IsPlain o
option-is [] o h = absurd (none-is o h)
option-is (level ∷ []) o h = absurd (none-is o h)
option-is (level ∷ others ∷ []) o h = at-is (number_in level) (pieces_of 61 others) o h
option-is (level ∷ others ∷ x ∷ xs) o h = absurd (none-is o h)

plain-option : (piece : List ℕ) (o : Opt) → option_in piece ≡ Some o → IsPlain o
unfolding option_in
plain-option piece o h = option-is (pieces_of 47 piece) o h

written-option : (o : Opt) → AreBytes o.value → AreBytes (option_bytes o)
written-option o h =
    let fill : List ℕ = replicate (filling (length o.value)) 0 in
    let status : List ℕ = word_bytes o.status ++ o.value ++ fill in
    let name : List ℕ = word_bytes o.name ++ status in
    let below : 0 < 256 = omega arith in
    All-append (λ b. b < 256) (word_bytes (16 + length o.value)) (word_bytes o.level ++ name) (four-bytes (16 + length o.value))
    (All-append (λ b. b < 256) (word_bytes o.level) name (four-bytes o.level)
    (All-append (λ b. b < 256) (word_bytes o.name) status (four-bytes o.name)
    (All-append (λ b. b < 256) (word_bytes o.status) (o.value ++ fill) (four-bytes o.status)
    (All-append (λ b. b < 256) o.value fill h (All-replicate (λ b. b < 256) (filling (length o.value)) 0 below)))))

-- options that are read can be written, as bytes
pub written-options : (pieces : List (List ℕ)) (os : List Opt) → each_in option_in pieces ≡ Some os → All IsWritable os × AreBytes (options_bytes os)
written-options [] os h = subst (λ os. All IsWritable os × AreBytes (options_bytes os)) (some-is [] os h) (All-nil IsWritable, All-nil (λ b. b < 256))
written-options (piece ∷ pieces) os h =
    let b = begins (option_in piece) (each_in option_in pieces) os h in
    let one = plain-option piece b.first b.one in
    let others = written-options pieces b.others b.rest in
    let short = one.1 in
    subst (λ os. All IsWritable os × AreBytes (options_bytes os)) b.both
    (All-cons IsWritable b.first b.others (omega arith) others.0, All-append (λ b. b < 256) (option_bytes b.first) (options_bytes b.others) (written-option b.first one.0) others.1)

pub option-bytes : (word bs : List ℕ) → options_in word ≡ Some bs → AreBytes bs
unfolding options_in
option-bytes word bs h = go (starts_with nat_eq word (codes "o:")) h
  where
    all : (o : Option (List Opt)) → each_in option_in (pieces_of 44 (drop 2 word)) ≡ o → option_map options_bytes o ≡ Some bs → AreBytes bs
    all None e h = absurd (none-is bs h)
    all (Some os) e h = subst AreBytes (some-is (options_bytes os) bs h) (written-options (pieces_of 44 (drop 2 word)) os e).1

    go : (b : Bool) → cond b (option_map options_bytes (each_in option_in (pieces_of 44 (drop 2 word)))) (bytes_in word) ≡ Some bs → AreBytes bs
    go true h = all (each_in option_in (pieces_of 44 (drop 2 word))) refl h
    go false h = word-bytes word bs h

each-bytes : (words parts : List (List ℕ)) → each_in bytes_in words ≡ Some parts → AreBytes (concat parts)
each-bytes [] parts h = subst (λ ps. AreBytes (concat ps)) (some-is [] parts h) (All-nil (λ b. b < 256))
each-bytes (word ∷ words) parts h =
    let b = begins (bytes_in word) (each_in bytes_in words) parts h in
    subst (λ ps. AreBytes (concat ps)) b.both (All-append (λ b. b < 256) b.first (concat b.others) (word-bytes word b.first b.one) (each-bytes words b.others b.rest))

pub part-bytes : (word : List ℕ) (parts : List (List ℕ)) → list_in bytes_in word ≡ Some parts → AreBytes (concat parts)
unfolding list_in
part-bytes word parts h = go (leb (length (pieces_of 44 word)) MOST_PIECES) h
  where
    go : (b : Bool) → cond b (each_in bytes_in (pieces_of 44 word)) None ≡ Some parts → AreBytes (concat parts)
    go true h = each-bytes (pieces_of 44 word) parts h
    go false h = absurd (none-is parts h)
