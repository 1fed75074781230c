-- A field's text tells its value, where bytes are any numbers.
use Rattle.std.proofs.Common.{◌≡◌, ℕ, ◌+◌, ◌/◌, ◌%◌, ◌<◌, Bool, true, false, cond, ltb, List, [], ◌∷◌, ◌++◌, map, None, refl, sym, ap, ◌∙◌, arith}
use Rattle.std.specs.Prelude.{All, codes}
use Rattle.std.specs.List.{flat_map}
use Rattle.std.proofs.lemmas.Bool.{ltb-true}
use Rattle.std.proofs.lemmas.List.{append_cancel_left}
use Rattle.std.proofs.lemmas.List.Elements.{All-nil, All-cons, All-head, All-tail, All-append}
use Rattle.xti_base.specs.declared.kinds.Prov.TheVariants.{Ticots}
use Rattle.xti_base.specs.declared.kinds.ServType.TheVariants.{T_COTS}
use Rattle.xti_base.specs.declared.kinds.State.TheVariants.{T_IDLE}
use Rattle.xti_base.specs.declared.kinds.Event.TheVariants.{T_DATA}
use Rattle.xti_base.specs.declared.limit.Limit.TheVariants.{Infinite}
use Rattle.xti_base.specs.declared.errno.Errno.TheVariants.{TBADF}
use Rattle.xti_words.specs.WrittenWords.{hex_pair, hex_digit}
use Rattle.xti_journal.specs.Kinds.{Kind}
use Rattle.xti_journal.specs.Kinds.{Kind as kind}
use Rattle.xti_journal.specs.FieldValue.{Value}
use Rattle.xti_journal.specs.FieldValue.{Value as value}
use Rattle.xti_journal.specs.Fields.{IsNumber, AreBytes, key_word, kind_of, IsOfKind, AreFields}
use Rattle.xti_journal.specs.Values.{value_in}
use Rattle.xti_journal.proofs.NumberLaws.{Above}
use Rattle.xti_journal.proofs.ValueLaws.{some_is, octets_text, value_text, value_full, value_above}
use Rattle.xti_journal.proofs.FieldLaws.{texts, texts_above}

-- ---- hexadecimal digits

one-digit : (c d : ℕ) → hex_digit c ≡ hex_digit d → c ≡ d
one-digit c d e = go (ltb c 10) refl (ltb d 10) refl e
  where
    go : (a : Bool) → ltb c 10 ≡ a → (b : Bool) → ltb d 10 ≡ b → cond a (48 + c) (87 + c) ≡ cond b (48 + d) (87 + d) → c ≡ d
    go true i true j e = omega (arith, e)
    go true i false j e = let l = ltb-true c 10 i in absurd (omega (arith, e, l))
    go false i true j e = let l = ltb-true d 10 j in absurd (omega (arith, e, l))
    go false i false j e = omega (arith, e)

one-byte : (b c : ℕ) → hex_digit (b / 16) ≡ hex_digit (c / 16) → hex_digit (b % 16) ≡ hex_digit (c % 16) → b ≡ c
one-byte b c h l =
    let high : b / 16 ≡ c / 16 = one-digit (b / 16) (c / 16) h in
    let low : b % 16 ≡ c % 16 = one-digit (b % 16) (c % 16) l in
    omega (arith, high, low)

pairs-differ : (bs cs : List ℕ) → flat_map hex_pair bs ≡ flat_map hex_pair cs → bs ≡ cs
pairs-differ [] [] e = refl
pairs-differ [] (c ∷ cs) e = absurd cc
pairs-differ (b ∷ bs) [] e = absurd cc
pairs-differ (b ∷ bs) (c ∷ cs) e =
    let high : hex_digit (b / 16) ≡ hex_digit (c / 16) = cc in
    let low : hex_digit (b % 16) ≡ hex_digit (c % 16) = cc in
    let others : flat_map hex_pair bs ≡ flat_map hex_pair cs = cc in
    ap (λ (x : ℕ). x ∷ bs) (one-byte b c high low) ∙ ap (λ (xs : List ℕ). c ∷ xs) (pairs-differ bs cs others)

one-octets : (bs cs : List ℕ) → octets_text bs ≡ octets_text cs → bs ≡ cs
one-octets bs cs e = pairs-differ bs cs (append_cancel_left (codes "x:") (flat_map hex_pair bs) (flat_map hex_pair cs) e)

digit-above : (d : ℕ) → 32 < hex_digit d
digit-above d = go (ltb d 10)
  where
    go : (b : Bool) → 32 < cond b (48 + d) (87 + d)
    go true = omega arith
    go false = omega arith

pairs-above : (bytes : List ℕ) → Above 32 (flat_map hex_pair bytes)
pairs-above [] = All-nil (λ c. 32 < c)
pairs-above (b ∷ bytes) = All-cons (λ c. 32 < c) (hex_digit (b / 16)) (hex_digit (b % 16) ∷ flat_map hex_pair bytes) (digit-above (b / 16)) (All-cons (λ c. 32 < c) (hex_digit (b % 16)) (flat_map hex_pair bytes) (digit-above (b % 16)) (pairs-above bytes))

octets-above : (bytes : List ℕ) → Above 32 (octets_text bytes)
octets-above bytes = All-cons (λ c. 32 < c) 120 (58 ∷ flat_map hex_pair bytes) (omega arith) (All-cons (λ c. 32 < c) 58 (flat_map hex_pair bytes) (omega arith) (pairs-above bytes))

-- ---- values

abbrev IsOctets : Value → Type 0
IsOctets (value.Bytes bytes) = Unit {0}
IsOctets other = ⊥

-- a value of this kind, where bytes are any numbers
abbrev pub IsShaped : Kind → Value → Type 0
IsShaped kind.Bytes v = IsOctets v
IsShaped k v = IsOfKind k v

record AreOctets (v : Value) : Type 0 where
  bytes : List ℕ
  same : v ≡ value.Bytes bytes

octets-of : (v : Value) → IsOctets v → AreOctets v
octets-of (value.Bytes bytes) h = record { bytes = bytes; same = refl }
octets-of other h = absurd h

exact : (k : Kind) (v u : Value) → IsOfKind k v → IsOfKind k u → value_text v ≡ value_text u → v ≡ u
exact k v u h g e = some_is v u (sym (value_full k v h) ∙ ap (value_in k) e ∙ value_full k u g)

pub one-value : (k : Kind) (v u : Value) → IsShaped k v → IsShaped k u → value_text v ≡ value_text u → v ≡ u
one-value kind.Bytes v u h g e =
    let a = octets-of v h in
    let b = octets-of u g in
    let same : octets_text a.bytes ≡ octets_text b.bytes = ap value_text (sym a.same) ∙ e ∙ ap value_text b.same in
    a.same ∙ ap value.Bytes (one-octets a.bytes b.bytes same) ∙ sym b.same
one-value k v u h g e = exact k v u h g e

above : (k : Kind) (v : Value) → IsShaped k v → Above 32 (value_text v)
above kind.Bytes v h =
    let a = octets-of v h in
    let same : value_text v ≡ octets_text a.bytes = ap value_text a.same in
    rw same (octets-above a.bytes)
above k v h = value_above k v h

-- ---- fields

-- the values are of these kinds, in their order, where bytes are any numbers
abbrev pub AreShaped : List Kind → List Value → Type 0
AreShaped [] [] = Unit {0}
AreShaped (kind ∷ kinds) (value ∷ values) = IsShaped kind value × AreShaped kinds values
AreShaped kinds values = ⊥

shaped : (k : Kind) (v : Value) → IsOfKind k v → IsShaped k v
shaped kind.Bytes (value.Bytes bytes) h = tt
shaped kind.Bytes other h = absurd h
shaped k v h = h

pub are-shaped : (keys : _) (values : List Value) → AreFields keys values → AreShaped (map kind_of keys) values
are-shaped [] [] h = tt
are-shaped [] (v ∷ vs) h = absurd h
are-shaped (k ∷ ks) [] h = absurd h
are-shaped (k ∷ ks) (v ∷ vs) h = (shaped (kind_of k) v h.0, are-shaped ks vs h.1)

-- a value of each kind
abbrev value_of : Kind → Value
value_of kind.Number = value.Number 0
value_of kind.Bytes = value.Bytes []
value_of kind.Parts = value.Parts []
value_of kind.Sizes = value.Sizes []
value_of kind.Truth = value.Truth true
value_of kind.Provider = value.Provider Ticots
value_of kind.Mode = value.Mode true
value_of kind.Limit = value.Limit Infinite
value_of kind.Service = value.Service T_COTS
value_of kind.State = value.State T_IDLE
value_of kind.Event = value.Event T_DATA
value_of kind.EventOrNone = value.EventOrNone None
value_of kind.Errno = value.Errno TBADF

is-of-kind : (k : Kind) → IsOfKind k (value_of k)
is-of-kind kind.Number = omega arith
is-of-kind kind.Bytes = All-nil (λ b. b < 256)
is-of-kind kind.Parts = All-nil AreBytes
is-of-kind kind.Sizes = All-nil IsNumber
is-of-kind kind.Truth = tt
is-of-kind kind.Provider = tt
is-of-kind kind.Mode = tt
is-of-kind kind.Limit = tt
is-of-kind kind.Service = tt
is-of-kind kind.State = tt
is-of-kind kind.Event = tt
is-of-kind kind.EventOrNone = tt
is-of-kind kind.Errno = tt

first-part : (xs ys : List ℕ) → Above 32 (xs ++ ys) → Above 32 xs
first-part [] ys h = All-nil (λ c. 32 < c)
first-part (x ∷ xs) ys h = All-cons (λ c. 32 < c) x xs (All-head (λ c. 32 < c) x (xs ++ ys) h) (first-part xs ys (All-tail (λ c. 32 < c) x (xs ++ ys) h))

-- a key has no space, as a field of it has none
key-above : (k : _) → Above 32 (key_word k)
key-above k =
    let word : List ℕ = key_word k ++ value_text (value_of (kind_of k)) in
    first-part (key_word k) (value_text (value_of (kind_of k))) (All-head (Above 32) word [] (texts_above (k ∷ []) (value_of (kind_of k) ∷ []) (is-of-kind (kind_of k), tt)))

pub fields-above : (keys : _) (values : List Value) (word : List ℕ) → AreShaped (map kind_of keys) values → Above 32 word → All (Above 32) (texts keys values ++ word ∷ [])
fields-above [] [] word h w = All-cons (Above 32) word [] w (All-nil (Above 32))
fields-above [] (v ∷ vs) word h w = absurd h
fields-above (k ∷ ks) [] word h w = absurd h
fields-above (k ∷ ks) (v ∷ vs) word h w =
    All-cons (Above 32) (key_word k ++ value_text v) (texts ks vs ++ word ∷ [])
    (All-append (λ c. 32 < c) (key_word k) (value_text v) (key-above k) (above (kind_of k) v h.0))
    (fields-above ks vs word h.1 w)

-- the words of the same fields and one more word are told apart
pub one-fields : (keys : _) (vs us : List Value) (word other : List ℕ) → AreShaped (map kind_of keys) vs → AreShaped (map kind_of keys) us → texts keys vs ++ word ∷ [] ≡ texts keys us ++ other ∷ [] → (vs ≡ us) × (word ≡ other)
one-fields [] [] [] word other h g e = (refl, cc)
one-fields [] [] (u ∷ us) word other h g e = absurd g
one-fields [] (v ∷ vs) us word other h g e = absurd h
one-fields (k ∷ ks) [] us word other h g e = absurd h
one-fields (k ∷ ks) (v ∷ vs) [] word other h g e = absurd g
one-fields (k ∷ ks) (v ∷ vs) (u ∷ us) word other h g e =
    let first : key_word k ++ value_text v ≡ key_word k ++ value_text u = cc in
    let later : texts ks vs ++ word ∷ [] ≡ texts ks us ++ other ∷ [] = cc in
    let value : v ≡ u = one-value (kind_of k) v u h.0 g.0 (append_cancel_left (key_word k) (value_text v) (value_text u) first) in
    let others = one-fields ks vs us word other h.1 g.1 later in
    (ap (λ (x : Value). x ∷ vs) value ∙ ap (λ (xs : List Value). u ∷ xs) others.0, others.1)
