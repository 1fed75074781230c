-- What words stand for is what is written, kind by kind.
use Rattle.std.proofs.Common.{◌≡◌, ℕ, ◌+◌, ◌-◌, ◌*◌, ◌/◌, ◌%◌, ◌^◌, ◌<◌, ◌≤◌, Bool, true, false, cond, ◌&&◌, eqb, ltb, leb, List, [], ◌∷◌, ◌++◌, length, drop, map, Option, Some, None, refl, sym, ap, subst, ◌∙◌, arith}
use Rattle.std.specs.Prelude.{All, decimal, codes, nat_eq, find, option_map}
use Rattle.std.specs.Str.{bytes_eq}
use Rattle.std.specs.Fmt.{signed_decimal}
use Rattle.std.specs.List.{flat_map, starts_with, join_with_byte, list_all}
use Rattle.std.proofs.lemmas.Bool.{and_parts, leb-true, le-leb, false_from_ne_true, ltb-true, ltb-false, lt-ltb, le-ltb}
use Rattle.std.proofs.lemmas.Bool.Decides.{Decides-eqb}
use Rattle.std.proofs.lemmas.List.Elements.{All-nil, All-cons, All-head, All-tail}
use Rattle.std.proofs.lemmas.List.Splits.{join_with_byte-slice_split, length-slice_split}
use Rattle.std.proofs.lemmas.Slice.Eq.{bytes_eq-Decides, starts_is}
use Rattle.std.proofs.lemmas.Fmt.{decimal_digit}
use Rattle.xti_base.specs.declared.kinds.Prov.{Prov}
use Rattle.xti_base.specs.declared.kinds.Prov.TheVariants.{Ticots, Ticotsord, Ticlts, Other}
use Rattle.xti_base.specs.declared.kinds.State.{State}
use Rattle.xti_base.specs.declared.kinds.State.TheVariants as state
use Rattle.xti_base.specs.declared.kinds.Event.{Event}
use Rattle.xti_base.specs.declared.kinds.Event.TheVariants as event
use Rattle.xti_base.specs.declared.kinds.ServType.{ServType}
use Rattle.xti_base.specs.declared.kinds.ServType.TheVariants as service
use Rattle.xti_base.specs.declared.limit.Limit.{Limit}
use Rattle.xti_base.specs.declared.limit.Limit.TheVariants as limit
use Rattle.xti_base.specs.declared.errno.Errno.{Errno}
use Rattle.xti_base.specs.declared.errno.Errno.TheVariants as errno
use Rattle.xti_base.specs.Errno.{errno_name}
use Rattle.xti_base.specs.Kinds.{state_name, event_name, prov_name, service_number}
use Rattle.xti_base.specs.Limit.{limit_number}
use Rattle.xti_words.specs.WrittenWords.{hex_pair, hex_digit as digit_of}
use Rattle.xti_words.specs.Texts.{pieces_of}
use Rattle.xti_words.specs.Values.{number_in, hex_digit, hex_bytes, hex_pair as pair_in, onto, each_in, provider_in, mode_in}
use Rattle.xti_journal.specs.Kinds.{Kind}
use Rattle.xti_journal.specs.Kinds.{Kind as kind}
use Rattle.xti_journal.specs.FieldValue.{Value}
use Rattle.xti_journal.specs.FieldValue.{Value as value}
use Rattle.xti_journal.specs.Fields.{IsNumber, AreBytes, IsOfKind}
use Rattle.xti_journal.specs.Values.{octets_in, members_in, truth_in, limit_in, service_in, states, events, errnos, state_in, event_in, event_or_none_in, errno_in, some_event, value_in}
use Rattle.xti_journal.proofs.NumberLaws.{Above, number_sound, number_complete, decimal_above}
use Rattle.xti_journal.proofs.Splits.{pieces-join, join-above, above_less}

pub is_word : (xs ys : List ℕ) → bytes_eq xs ys ≡ true → xs ≡ ys
is_word xs ys e = (bytes_eq-Decides xs ys).0 e

pub some_is : {A : Type 0} (a b : A) → Some a ≡ Some b → a ≡ b
some_is a b e = cc

pub none_is : {A P : Type 0} (b : A) → None ≡ Some b → P
none_is b e = absurd cc

-- ---- pairs of digits

digit_complete : (d : ℕ) → d < 16 → hex_digit (digit_of d) ≡ Some d
digit_complete d h = go (ltb d 10) refl
  where
    low : d < 10 → hex_digit (48 + d) ≡ Some d
    low l =
        let a : leb 48 (48 + d) ≡ true = le-leb 48 (48 + d) (omega arith) in
        let b : leb (48 + d) 57 ≡ true = le-leb (48 + d) 57 (omega arith) in
        let e : 48 + d - 48 ≡ d = omega arith in
        rw (a, b) (ap (λ (x : ℕ). Some x) e)

    high : 10 ≤ d → hex_digit (87 + d) ≡ Some d
    high l =
        let a : leb 48 (87 + d) ≡ true = le-leb 48 (87 + d) (omega arith) in
        let b : leb (87 + d) 57 ≡ false = false_from_ne_true (leb (87 + d) 57) (λ t. let q = leb-true (87 + d) 57 t in omega arith) in
        let c : leb 97 (87 + d) ≡ true = le-leb 97 (87 + d) (omega arith) in
        let f : leb (87 + d) 102 ≡ true = le-leb (87 + d) 102 (omega arith) in
        let e : 87 + d - 87 ≡ d = omega arith in
        rw (a, b) (rw (c, f) (ap (λ (x : ℕ). Some x) e))

    go : (b : Bool) → ltb d 10 ≡ b → hex_digit (cond b (48 + d) (87 + d)) ≡ Some d
    go true e = low (ltb-true d 10 e)
    go false e = high (ltb-false d 10 e)

digit_sound : (c d : ℕ) → hex_digit c ≡ Some d → (c ≡ digit_of d) × (d < 16)
digit_sound c d h = go (leb 48 c && leb c 57) refl (leb 97 c && leb c 102) refl h
  where
    low : 48 ≤ c → c ≤ 57 → c - 48 ≡ d → (c ≡ digit_of d) × (d < 16)
    low l m e =
        let t : ltb d 10 ≡ true = lt-ltb d 10 (omega (arith, e)) in
        (rw t (omega (arith, e)), omega (arith, e))

    high : 97 ≤ c → c ≤ 102 → c - 87 ≡ d → (c ≡ digit_of d) × (d < 16)
    high l m e =
        let t : ltb d 10 ≡ false = le-ltb d 10 (omega (arith, e)) in
        (rw t (omega (arith, e)), omega (arith, e))

    go : (a : Bool) → (leb 48 c && leb c 57) ≡ a → (b : Bool) → (leb 97 c && leb c 102) ≡ b → cond a (Some (c - 48)) (cond b (Some (c - 87)) None) ≡ Some d → (c ≡ digit_of d) × (d < 16)
    go true i b j e = let p = and_parts (leb 48 c) (leb c 57) i in low (leb-true 48 c p.0) (leb-true c 57 p.1) (some_is (c - 48) d e)
    go false i true j e = let p = and_parts (leb 97 c) (leb c 102) j in high (leb-true 97 c p.0) (leb-true c 102 p.1) (some_is (c - 87) d e)
    go false i false j e = none_is d e

hex_complete : (bytes : List ℕ) → AreBytes bytes → hex_bytes (flat_map hex_pair bytes) ≡ Some bytes
hex_complete [] h = refl
hex_complete (b ∷ bytes) h =
    let small : b < 256 = All-head (λ b. b < 256) b bytes h in
    let high : hex_digit (digit_of (b / 16)) ≡ Some (b / 16) = digit_complete (b / 16) (omega arith) in
    let low : hex_digit (digit_of (b % 16)) ≡ Some (b % 16) = digit_complete (b % 16) (omega arith) in
    let whole : b / 16 * 16 + b % 16 ≡ b = omega arith in
    rw (high, low) (rw (hex_complete bytes (All-tail (λ b. b < 256) b bytes h)) (ap (λ (x : ℕ). Some (x ∷ bytes)) whole))

record Onto {A : Type 0} (o : Option A) (os : Option (List A)) (all : List A) : Type 0 where
  first : A
  others : List A
  one : o ≡ Some first
  rest : os ≡ Some others
  both : first ∷ others ≡ all

onto_is : {A : Type 0} → (o : Option A) (os : Option (List A)) (all : List A) → onto o os ≡ Some all → Onto o os all
onto_is None os all e = none_is all e
onto_is (Some x) None all e = none_is all e
onto_is (Some x) (Some xs) all e = record { first = x; others = xs; one = refl; rest = refl; both = some_is (x ∷ xs) all e }

pair_sound : (c d : ℕ) (x y : Option ℕ) (b : ℕ) → hex_digit c ≡ x → hex_digit d ≡ y → pair_in x y ≡ Some b → (b < 256) × (c ∷ d ∷ [] ≡ hex_pair b)
pair_sound c d None y b p q e = none_is b e
pair_sound c d (Some high) None b p q e = none_is b e
pair_sound c d (Some high) (Some low) b p q e =
    let h = digit_sound c high p in
    let l = digit_sound d low q in
    let s : high * 16 + low ≡ b = some_is (high * 16 + low) b e in
    let small : low < 16 = l.1 in
    let top : high < 16 = h.1 in
    let up : high ≡ b / 16 = omega (arith, s) in
    let down : low ≡ b % 16 = omega (arith, s) in
    let f : c ≡ digit_of (b / 16) = h.0 ∙ ap digit_of up in
    let g : d ≡ digit_of (b % 16) = l.0 ∙ ap digit_of down in
    (omega (arith, s), ap (λ (x : ℕ). x ∷ d ∷ []) f ∙ ap (λ (x : ℕ). digit_of (b / 16) ∷ x ∷ []) g)

hex_sound : (ds bytes : List ℕ) → hex_bytes ds ≡ Some bytes → (ds ≡ flat_map hex_pair bytes) × AreBytes bytes
hex_sound [] bytes e = let n : [] ≡ bytes = some_is [] bytes e in (ap (flat_map hex_pair) n, subst AreBytes n (All-nil (λ b. b < 256)))
hex_sound (c ∷ []) bytes e = none_is bytes e
hex_sound (c ∷ d ∷ ds) bytes e =
    let o = onto_is (pair_in (hex_digit c) (hex_digit d)) (hex_bytes ds) bytes e in
    let p = pair_sound c d (hex_digit c) (hex_digit d) o.first refl refl o.one in
    let later = hex_sound ds o.others o.rest in
    let here : c ∷ d ∷ ds ≡ hex_pair o.first ++ flat_map hex_pair o.others = ap (λ (l : List ℕ). l ++ ds) p.1 ∙ ap (λ (l : List ℕ). hex_pair o.first ++ l) later.0 in
    (here ∙ ap (flat_map hex_pair) o.both, subst AreBytes o.both (All-cons (λ b. b < 256) o.first o.others p.0 later.1))

-- ---- bytes

abbrev pub octets_text : List ℕ → List ℕ
octets_text bytes = codes "x:" ++ flat_map hex_pair bytes

front : (word key : List ℕ) → starts_with nat_eq word key ≡ true → word ≡ key ++ drop (length key) word
front word key t = (starts_is Decides-eqb word key (starts_with nat_eq word key) refl).0 t

octets_complete : (bytes : List ℕ) → AreBytes bytes → octets_in (octets_text bytes) ≡ Some bytes
unfolding octets_in
octets_complete bytes h = hex_complete bytes h

octets_sound : (word bytes : List ℕ) → octets_in word ≡ Some bytes → (word ≡ octets_text bytes) × AreBytes bytes
unfolding octets_in
octets_sound word bytes e = go (starts_with nat_eq word (codes "x:")) refl e
  where
    go : (b : Bool) → starts_with nat_eq word (codes "x:") ≡ b → cond b (hex_bytes (drop 2 word)) None ≡ Some bytes → (word ≡ codes "x:" ++ flat_map hex_pair bytes) × AreBytes bytes
    go true s e = let h = hex_sound (drop 2 word) bytes e in (front word (codes "x:") s ∙ ap (λ (l : List ℕ). codes "x:" ++ l) h.0, h.1)
    go false s e = none_is bytes e

digit_above : (d : ℕ) → 44 < digit_of d
digit_above d = go (ltb d 10)
  where
    go : (b : Bool) → 44 < cond b (48 + d) (87 + d)
    go true = omega arith
    go false = omega arith

pairs_above : (bytes : List ℕ) → Above 44 (flat_map hex_pair bytes)
pairs_above [] = All-nil (λ c. 44 < c)
pairs_above (b ∷ bytes) = All-cons (λ c. 44 < c) (digit_of (b / 16)) (digit_of (b % 16) ∷ flat_map hex_pair bytes) (digit_above (b / 16)) (All-cons (λ c. 44 < c) (digit_of (b % 16)) (flat_map hex_pair bytes) (digit_above (b % 16)) (pairs_above bytes))

octets_above : (bytes : List ℕ) → Above 44 (octets_text bytes)
octets_above bytes = All-cons (λ c. 44 < c) 120 (58 ∷ flat_map hex_pair bytes) (omega arith) (All-cons (λ c. 44 < c) 58 (flat_map hex_pair bytes) (omega arith) (pairs_above bytes))

-- ---- several values

abbrev pub members_text : {A : Type 0} → (A → List ℕ) → List A → List ℕ
members_text text [] = codes "none"
members_text text (x ∷ xs) = join_with_byte 44 (map text (x ∷ xs))

-- a word for each value, and back
pub record Codes {A : Type 0} (Good : A → Type 0) (text : A → List ℕ) (read : List ℕ → Option A) : Type 0 where
  full : (a : A) → Good a → read (text a) ≡ Some a
  exact : (word : List ℕ) (a : A) → read word ≡ Some a → (word ≡ text a) × Good a
  above : (a : A) → Good a → Above 44 (text a)
  not_none : read (codes "none") ≡ None

module _ {A : Type 0} (Good : A → Type 0) (text : A → List ℕ) (read : List ℕ → Option A) (law : Codes Good text read) where
  texts_above : (xs : List A) → All Good xs → All (Above 44) (map text xs)
  texts_above [] h = All-nil (Above 44)
  texts_above (x ∷ xs) h = All-cons (Above 44) (text x) (map text xs) (law.above x (All-head Good x xs h)) (texts_above xs (All-tail Good x xs h))

  each_full : (xs : List A) → All Good xs → each_in read (map text xs) ≡ Some xs
  each_full [] h = refl
  each_full (x ∷ xs) h = rw (law.full x (All-head Good x xs h), each_full xs (All-tail Good x xs h)) refl

  each_exact : (words : List (List ℕ)) (xs : List A) → each_in read words ≡ Some xs → (words ≡ map text xs) × All Good xs
  each_exact [] xs e = let n : [] ≡ xs = some_is [] xs e in (ap (map text) n, subst (All Good) n (All-nil Good))
  each_exact (word ∷ words) xs e =
      let o = onto_is (read word) (each_in read words) xs e in
      let one = law.exact word o.first o.one in
      let later = each_exact words o.others o.rest in
      (ap (λ (w : List ℕ). w ∷ words) one.0 ∙ ap (λ (ws : List (List ℕ)). text o.first ∷ ws) later.0 ∙ ap (map text) o.both, subst (All Good) o.both (All-cons Good o.first o.others one.1 later.1))

  pieces_full : (x : A) (xs : List A) → All Good (x ∷ xs) → pieces_of 44 (members_text text (x ∷ xs)) ≡ map text (x ∷ xs)
  pieces_full x xs h = pieces-join 44 (text x) (map text xs) (law.above x (All-head Good x xs h)) (texts_above xs (All-tail Good x xs h))

  pub members_full : (xs : List A) → All Good xs → members_in read (members_text text xs) ≡ Some xs
  unfolding members_in
  members_full [] h = refl
  members_full (x ∷ xs) h = go (bytes_eq (members_text text (x ∷ xs)) (codes "none")) refl
    where
      all : each_in read (pieces_of 44 (members_text text (x ∷ xs))) ≡ Some (x ∷ xs)
      all = ap (each_in read) (pieces_full x xs h) ∙ each_full (x ∷ xs) h

      go : (b : Bool) → bytes_eq (members_text text (x ∷ xs)) (codes "none") ≡ b → cond b (Some []) (each_in read (pieces_of 44 (members_text text (x ∷ xs)))) ≡ Some (x ∷ xs)
      go true e =
          let w : members_text text (x ∷ xs) ≡ codes "none" = is_word (members_text text (x ∷ xs)) (codes "none") e in
          let one : codes "none" ∷ [] ≡ map text (x ∷ xs) = ap (pieces_of 44) (sym w) ∙ pieces_full x xs h in
          let first : codes "none" ≡ text x = cc in
          let read_one : read (codes "none") ≡ Some x = ap read first ∙ law.full x (All-head Good x xs h) in
          none_is x (sym law.not_none ∙ read_one)
      go false e = all

  pub members_exact : (word : List ℕ) (xs : List A) → members_in read word ≡ Some xs → (word ≡ members_text text xs) × All Good xs
  unfolding members_in
  members_exact word xs e = go (bytes_eq word (codes "none")) refl e
    where
      some : (ys : List A) → pieces_of 44 word ≡ map text ys → word ≡ members_text text ys
      some [] p = let n : length (pieces_of 44 word) ≡ 0 = ap length p in let m = length-slice_split (λ c. eqb c 44) word in absurd (omega (arith, m))
      some (y ∷ ys) p = sym (join_with_byte-slice_split 44 word) ∙ ap (join_with_byte 44) p

      go : (b : Bool) → bytes_eq word (codes "none") ≡ b → cond b (Some []) (each_in read (pieces_of 44 word)) ≡ Some xs → (word ≡ members_text text xs) × All Good xs
      go true t e = let n : [] ≡ xs = some_is [] xs e in (is_word word (codes "none") t ∙ ap (members_text text) n, subst (All Good) n (All-nil Good))
      go false t e = let a = each_exact (pieces_of 44 word) xs e in (some xs a.0, a.1)

  -- with its commas, each byte is above a space
  pub members_above : (xs : List A) → All Good xs → Above 32 (members_text text xs)
  members_above [] h = All-cons (λ c. 32 < c) 110 (111 ∷ 110 ∷ 101 ∷ []) (omega arith) (All-cons (λ c. 32 < c) 111 (110 ∷ 101 ∷ []) (omega arith) (All-cons (λ c. 32 < c) 110 (101 ∷ []) (omega arith) (All-cons (λ c. 32 < c) 101 [] (omega arith) (All-nil (λ c. 32 < c)))))
  members_above (x ∷ xs) h = join-above 32 44 (map text (x ∷ xs)) (omega arith) (lower (map text (x ∷ xs)) (texts_above (x ∷ xs) h))
    where
      lower : (words : List (List ℕ)) → All (Above 44) words → All (Above 32) words
      lower [] h = All-nil (Above 32)
      lower (word ∷ words) h = All-cons (Above 32) word words (above_less 44 32 word (omega arith) (All-head (Above 44) word words h)) (lower words (All-tail (Above 44) word words h))

pub octets_codes : Codes AreBytes octets_text octets_in
unfolding octets_in
octets_codes = record { full = octets_complete; exact = octets_sound; above = λ a h. octets_above a; not_none = refl }

pub number_codes : Codes IsNumber decimal number_in
unfolding number_in
number_codes = record { full = number_complete; exact = number_sound; above = λ n h. decimal_above n (omega arith); not_none = refl }

-- ---- names

-- the first that is found has the name
found_is : {A : Type 0} (name : A → List ℕ) (word : List ℕ) (xs : List A) (x : A) → find (λ a. bytes_eq word (name a)) xs ≡ Some x → word ≡ name x
found_is name word [] x e = none_is x e
found_is {A} name word (y ∷ ys) x e = go (found_is name word ys x) (bytes_eq word (name y)) refl e
  where
    go : (find (λ a. bytes_eq word (name a)) ys ≡ Some x → word ≡ name x) → (b : Bool) → bytes_eq word (name y) ≡ b → cond b (Some y) (find (λ a. bytes_eq word (name a)) ys) ≡ Some x → word ≡ name x
    go later true t e = is_word word (name y) t ∙ ap name (some_is y x e)
    go later false t e = later e

-- ---- the value of a field

abbrev pub value_text : Value → List ℕ
value_text (value.Number n) = decimal n
value_text (value.Bytes bytes) = octets_text bytes
value_text (value.Parts parts) = members_text octets_text parts
value_text (value.Sizes sizes) = members_text decimal sizes
value_text (value.Truth t) = cond t (codes "1") (codes "0")
value_text (value.Provider prov) = prov_name prov
value_text (value.Mode nonblock) = cond nonblock (codes "nonblock") (codes "block")
value_text (value.Limit l) = signed_decimal (limit_number l)
value_text (value.Service s) = decimal (service_number s)
value_text (value.State s) = state_name s
value_text (value.Event e) = event_name e
value_text (value.EventOrNone (Some e)) = event_name e
value_text (value.EventOrNone None) = codes "0"
value_text (value.Errno e) = errno_name e

mapped : {A B : Type 0} (f : A → B) (o : Option A) (b : B) → option_map f o ≡ Some b → (a : A) × (o ≡ Some a) × (f a ≡ b)
mapped f None b e = none_is b e
mapped f (Some a) b e = (a, refl, some_is (f a) b e)

-- ---- kind by kind

prov_full : (p : Prov) → provider_in (prov_name p) ≡ Some p
unfolding provider_in
prov_full Ticots = refl
prov_full Ticotsord = refl
prov_full Ticlts = refl
prov_full Other = refl

prov_exact : (word : List ℕ) (p : Prov) → provider_in word ≡ Some p → word ≡ prov_name p
unfolding provider_in
prov_exact word p e = found_is prov_name word (Ticots ∷ Ticotsord ∷ Ticlts ∷ Other ∷ []) p e

two_names : {A : Type 0} (word one two : List ℕ) (x y z : A) → cond (bytes_eq word one) (Some x) (cond (bytes_eq word two) (Some y) None) ≡ Some z → (P : Type 0) → (word ≡ one → x ≡ z → P) → (word ≡ two → y ≡ z → P) → P
two_names {A} word one two x y z e P f g = go (bytes_eq word one) refl (bytes_eq word two) refl e
  where
    go : (a : Bool) → bytes_eq word one ≡ a → (b : Bool) → bytes_eq word two ≡ b → cond a (Some x) (cond b (Some y) None) ≡ Some z → P
    go true p b q e = f (is_word word one p) (some_is x z e)
    go false p true q e = g (is_word word two q) (some_is y z e)
    go false p false q e = none_is z e

mode_full : (b : Bool) → mode_in (cond b (codes "nonblock") (codes "block")) ≡ Some b
unfolding mode_in
mode_full true = refl
mode_full false = refl

mode_exact : (word : List ℕ) (b : Bool) → mode_in word ≡ Some b → word ≡ cond b (codes "nonblock") (codes "block")
unfolding mode_in
mode_exact word b e = two_names word (codes "nonblock") (codes "block") true false b e (word ≡ cond b (codes "nonblock") (codes "block")) (λ w t. w ∙ ap (λ (x : Bool). cond x (codes "nonblock") (codes "block")) t) (λ w t. w ∙ ap (λ (x : Bool). cond x (codes "nonblock") (codes "block")) t)

truth_full : (b : Bool) → truth_in (cond b (codes "1") (codes "0")) ≡ Some b
unfolding truth_in
truth_full true = refl
truth_full false = refl

truth_exact : (word : List ℕ) (b : Bool) → truth_in word ≡ Some b → word ≡ cond b (codes "1") (codes "0")
unfolding truth_in
truth_exact word b e = two_names word (codes "1") (codes "0") true false b e (word ≡ cond b (codes "1") (codes "0")) (λ w t. w ∙ ap (λ (x : Bool). cond x (codes "1") (codes "0")) t) (λ w t. w ∙ ap (λ (x : Bool). cond x (codes "1") (codes "0")) t)

abbrev IsLimit : Limit → Type 0
IsLimit (limit.At n) = IsNumber n
IsLimit other = Unit {0}

minus_one : number_in (codes "-1") ≡ None
unfolding number_in
minus_one = refl

minus_two : number_in (codes "-2") ≡ None
unfolding number_in
minus_two = refl

limit_full : (l : Limit) → IsLimit l → limit_in (signed_decimal (limit_number l)) ≡ Some l
unfolding limit_in
limit_full (limit.At n) h = go (bytes_eq (decimal n) (codes "-1")) refl (bytes_eq (decimal n) (codes "-2")) refl
  where
    never : (word : List ℕ) → decimal n ≡ word → number_in word ≡ None → ⊥
    never word e none = none_is n (sym none ∙ ap number_in (sym e) ∙ number_complete n h)

    go : (a : Bool) → bytes_eq (decimal n) (codes "-1") ≡ a → (b : Bool) → bytes_eq (decimal n) (codes "-2") ≡ b → cond a (Some limit.Infinite) (cond b (Some limit.Invalid) (option_map limit.At (number_in (decimal n)))) ≡ Some (limit.At n)
    go true p b q = absurd (never (codes "-1") (is_word (decimal n) (codes "-1") p) minus_one)
    go false p true q = absurd (never (codes "-2") (is_word (decimal n) (codes "-2") q) minus_two)
    go false p false q = rw (number_complete n h) refl
limit_full limit.Infinite h = rw (decimal_digit 1 (omega arith)) refl
limit_full limit.Invalid h = rw (decimal_digit 2 (omega arith)) refl

limit_exact : (word : List ℕ) (l : Limit) → limit_in word ≡ Some l → (word ≡ signed_decimal (limit_number l)) × IsLimit l
unfolding limit_in
limit_exact word l e = go (bytes_eq word (codes "-1")) refl (bytes_eq word (codes "-2")) refl e
  where
    Right : Limit → Type 0
    Right l = (word ≡ signed_decimal (limit_number l)) × IsLimit l

    infinite : word ≡ codes "-1" → (word ≡ signed_decimal (limit_number limit.Infinite)) × IsLimit limit.Infinite
    infinite w = (w ∙ ap (λ (l : List ℕ). 45 ∷ l) (sym (decimal_digit 1 (omega arith))), tt)

    invalid : word ≡ codes "-2" → (word ≡ signed_decimal (limit_number limit.Invalid)) × IsLimit limit.Invalid
    invalid w = (w ∙ ap (λ (l : List ℕ). 45 ∷ l) (sym (decimal_digit 2 (omega arith))), tt)

    go : (a : Bool) → bytes_eq word (codes "-1") ≡ a → (b : Bool) → bytes_eq word (codes "-2") ≡ b → cond a (Some limit.Infinite) (cond b (Some limit.Invalid) (option_map limit.At (number_in word))) ≡ Some l → (word ≡ signed_decimal (limit_number l)) × IsLimit l
    go true p b q e = subst (λ (l : Limit). (word ≡ signed_decimal (limit_number l)) × IsLimit l) (some_is limit.Infinite l e) (infinite (is_word word (codes "-1") p))
    go false p true q e = subst (λ (l : Limit). (word ≡ signed_decimal (limit_number l)) × IsLimit l) (some_is limit.Invalid l e) (invalid (is_word word (codes "-2") q))
    go false p false q e =
        let m = mapped limit.At (number_in word) l e in
        let n = number_sound word m.0 m.1 in
        subst (λ (l : Limit). (word ≡ signed_decimal (limit_number l)) × IsLimit l) m.2 (n.0, n.1)

service_full : (s : ServType) → service_in (decimal (service_number s)) ≡ Some s
unfolding service_in
service_full service.T_COTS = rw (decimal_digit 1 (omega arith)) refl
service_full service.T_COTS_ORD = rw (decimal_digit 2 (omega arith)) refl
service_full service.T_CLTS = rw (decimal_digit 3 (omega arith)) refl

service_exact : (word : List ℕ) (s : ServType) → service_in word ≡ Some s → word ≡ decimal (service_number s)
unfolding service_in
service_exact word s e = go (bytes_eq word (codes "1")) refl e
  where
    one : word ≡ codes "1" → service.T_COTS ≡ s → word ≡ decimal (service_number s)
    one w t = w ∙ sym (decimal_digit 1 (omega arith)) ∙ ap (λ (x : ServType). decimal (service_number x)) t

    two : word ≡ codes "2" → service.T_COTS_ORD ≡ s → word ≡ decimal (service_number s)
    two w t = w ∙ sym (decimal_digit 2 (omega arith)) ∙ ap (λ (x : ServType). decimal (service_number x)) t

    three : word ≡ codes "3" → service.T_CLTS ≡ s → word ≡ decimal (service_number s)
    three w t = w ∙ sym (decimal_digit 3 (omega arith)) ∙ ap (λ (x : ServType). decimal (service_number x)) t

    go : (a : Bool) → bytes_eq word (codes "1") ≡ a → cond a (Some service.T_COTS) (cond (bytes_eq word (codes "2")) (Some service.T_COTS_ORD) (cond (bytes_eq word (codes "3")) (Some service.T_CLTS) None)) ≡ Some s → word ≡ decimal (service_number s)
    go true p e = one (is_word word (codes "1") p) (some_is service.T_COTS s e)
    go false p e = two_names word (codes "2") (codes "3") service.T_COTS_ORD service.T_CLTS s e (word ≡ decimal (service_number s)) two three

state_full : (s : State) → state_in (state_name s) ≡ Some s
unfolding states
state_full state.T_UNINIT = refl
state_full state.T_UNBND = refl
state_full state.T_IDLE = refl
state_full state.T_OUTCON = refl
state_full state.T_INCON = refl
state_full state.T_DATAXFER = refl
state_full state.T_OUTREL = refl
state_full state.T_INREL = refl

event_full : (e : Event) → event_in (event_name e) ≡ Some e
unfolding events
event_full event.T_LISTEN = refl
event_full event.T_CONNECT = refl
event_full event.T_DATA = refl
event_full event.T_EXDATA = refl
event_full event.T_DISCONNECT = refl
event_full event.T_UDERR = refl
event_full event.T_ORDREL = refl
event_full event.T_GODATA = refl
event_full event.T_GOEXDATA = refl

maybe_full : (e : Event) → event_or_none_in (event_name e) ≡ Some (Some e)
unfolding event_or_none_in events
maybe_full event.T_LISTEN = refl
maybe_full event.T_CONNECT = refl
maybe_full event.T_DATA = refl
maybe_full event.T_EXDATA = refl
maybe_full event.T_DISCONNECT = refl
maybe_full event.T_UDERR = refl
maybe_full event.T_ORDREL = refl
maybe_full event.T_GODATA = refl
maybe_full event.T_GOEXDATA = refl

none_full : event_or_none_in (codes "0") ≡ Some None
unfolding event_or_none_in
none_full = refl

maybe_exact : (word : List ℕ) (e : Option Event) → event_or_none_in word ≡ Some e → word ≡ value_text (value.EventOrNone e)
unfolding event_or_none_in
maybe_exact word e h = go (bytes_eq word (codes "0")) refl h
  where
    found : (o : Option Event) → event_in word ≡ o → some_event o ≡ Some e → word ≡ value_text (value.EventOrNone e)
    found None p q = none_is e q
    found (Some ev) p q = found_is event_name word events ev p ∙ ap (λ (x : Option Event). value_text (value.EventOrNone x)) (some_is (Some ev) e q)

    go : (b : Bool) → bytes_eq word (codes "0") ≡ b → cond b (Some None) (some_event (event_in word)) ≡ Some e → word ≡ value_text (value.EventOrNone e)
    go true p q = is_word word (codes "0") p ∙ ap (λ (x : Option Event). value_text (value.EventOrNone x)) (some_is None e q)
    go false p q = found (event_in word) refl q

errno_full : (e : Errno) → IsOfKind kind.Errno (value.Errno e) → errno_in (errno_name e) ≡ Some e
unfolding errnos
errno_full errno.TLOOK h = absurd h
errno_full errno.TBUFOVFLW h = absurd h
errno_full errno.TBADADDR h = refl
errno_full errno.TBADOPT h = refl
errno_full errno.TACCES h = refl
errno_full errno.TBADF h = refl
errno_full errno.TNOADDR h = refl
errno_full errno.TOUTSTATE h = refl
errno_full errno.TBADSEQ h = refl
errno_full errno.TSYSERR h = refl
errno_full errno.TBADDATA h = refl
errno_full errno.TFLOW h = refl
errno_full errno.TNODATA h = refl
errno_full errno.TNODIS h = refl
errno_full errno.TNOUDERR h = refl
errno_full errno.TBADFLAG h = refl
errno_full errno.TNOREL h = refl
errno_full errno.TNOTSUPPORT h = refl
errno_full errno.TSTATECHNG h = refl
errno_full errno.TNOSTRUCTYPE h = refl
errno_full errno.TBADNAME h = refl
errno_full errno.TBADQLEN h = refl
errno_full errno.TADDRBUSY h = refl
errno_full errno.TINDOUT h = refl
errno_full errno.TPROVMISMATCH h = refl
errno_full errno.TRESQLEN h = refl
errno_full errno.TRESADDR h = refl
errno_full errno.TQFULL h = refl
errno_full errno.TPROTO h = refl

-- no word that is read as one stands for TLOOK or TBUFOVFLW
errno_kind : (word : List ℕ) (e : Errno) → errno_in word ≡ Some e → IsOfKind kind.Errno (value.Errno e)
unfolding errnos
errno_kind word errno.TLOOK h =
    let w : word ≡ codes "TLOOK" = found_is errno_name word errnos errno.TLOOK h in
    let n : errno_in (codes "TLOOK") ≡ Some errno.TLOOK = rw w at h in
    none_is errno.TLOOK n
errno_kind word errno.TBUFOVFLW h =
    let w : word ≡ codes "TBUFOVFLW" = found_is errno_name word errnos errno.TBUFOVFLW h in
    let n : errno_in (codes "TBUFOVFLW") ≡ Some errno.TBUFOVFLW = rw w at h in
    none_is errno.TBUFOVFLW n
errno_kind word errno.TBADADDR h = tt
errno_kind word errno.TBADOPT h = tt
errno_kind word errno.TACCES h = tt
errno_kind word errno.TBADF h = tt
errno_kind word errno.TNOADDR h = tt
errno_kind word errno.TOUTSTATE h = tt
errno_kind word errno.TBADSEQ h = tt
errno_kind word errno.TSYSERR h = tt
errno_kind word errno.TBADDATA h = tt
errno_kind word errno.TFLOW h = tt
errno_kind word errno.TNODATA h = tt
errno_kind word errno.TNODIS h = tt
errno_kind word errno.TNOUDERR h = tt
errno_kind word errno.TBADFLAG h = tt
errno_kind word errno.TNOREL h = tt
errno_kind word errno.TNOTSUPPORT h = tt
errno_kind word errno.TSTATECHNG h = tt
errno_kind word errno.TNOSTRUCTYPE h = tt
errno_kind word errno.TBADNAME h = tt
errno_kind word errno.TBADQLEN h = tt
errno_kind word errno.TADDRBUSY h = tt
errno_kind word errno.TINDOUT h = tt
errno_kind word errno.TPROVMISMATCH h = tt
errno_kind word errno.TRESQLEN h = tt
errno_kind word errno.TRESADDR h = tt
errno_kind word errno.TQFULL h = tt
errno_kind word errno.TPROTO h = tt

pub value_full : (k : Kind) (v : Value) → IsOfKind k v → value_in k (value_text v) ≡ Some v
value_full kind.Number (value.Number n) h = rw (number_complete n h) refl
value_full kind.Number (value.Bytes x) h = absurd h
value_full kind.Number (value.Parts x) h = absurd h
value_full kind.Number (value.Sizes x) h = absurd h
value_full kind.Number (value.Truth x) h = absurd h
value_full kind.Number (value.Provider x) h = absurd h
value_full kind.Number (value.Mode x) h = absurd h
value_full kind.Number (value.Limit x) h = absurd h
value_full kind.Number (value.Service x) h = absurd h
value_full kind.Number (value.State x) h = absurd h
value_full kind.Number (value.Event x) h = absurd h
value_full kind.Number (value.EventOrNone x) h = absurd h
value_full kind.Number (value.Errno x) h = absurd h
value_full kind.Bytes (value.Number x) h = absurd h
value_full kind.Bytes (value.Bytes bs) h = rw (octets_complete bs h) refl
value_full kind.Bytes (value.Parts x) h = absurd h
value_full kind.Bytes (value.Sizes x) h = absurd h
value_full kind.Bytes (value.Truth x) h = absurd h
value_full kind.Bytes (value.Provider x) h = absurd h
value_full kind.Bytes (value.Mode x) h = absurd h
value_full kind.Bytes (value.Limit x) h = absurd h
value_full kind.Bytes (value.Service x) h = absurd h
value_full kind.Bytes (value.State x) h = absurd h
value_full kind.Bytes (value.Event x) h = absurd h
value_full kind.Bytes (value.EventOrNone x) h = absurd h
value_full kind.Bytes (value.Errno x) h = absurd h
value_full kind.Parts (value.Number x) h = absurd h
value_full kind.Parts (value.Bytes x) h = absurd h
value_full kind.Parts (value.Parts ps) h = rw (members_full AreBytes octets_text octets_in octets_codes ps h) refl
value_full kind.Parts (value.Sizes x) h = absurd h
value_full kind.Parts (value.Truth x) h = absurd h
value_full kind.Parts (value.Provider x) h = absurd h
value_full kind.Parts (value.Mode x) h = absurd h
value_full kind.Parts (value.Limit x) h = absurd h
value_full kind.Parts (value.Service x) h = absurd h
value_full kind.Parts (value.State x) h = absurd h
value_full kind.Parts (value.Event x) h = absurd h
value_full kind.Parts (value.EventOrNone x) h = absurd h
value_full kind.Parts (value.Errno x) h = absurd h
value_full kind.Sizes (value.Number x) h = absurd h
value_full kind.Sizes (value.Bytes x) h = absurd h
value_full kind.Sizes (value.Parts x) h = absurd h
value_full kind.Sizes (value.Sizes ns) h = rw (members_full IsNumber decimal number_in number_codes ns h) refl
value_full kind.Sizes (value.Truth x) h = absurd h
value_full kind.Sizes (value.Provider x) h = absurd h
value_full kind.Sizes (value.Mode x) h = absurd h
value_full kind.Sizes (value.Limit x) h = absurd h
value_full kind.Sizes (value.Service x) h = absurd h
value_full kind.Sizes (value.State x) h = absurd h
value_full kind.Sizes (value.Event x) h = absurd h
value_full kind.Sizes (value.EventOrNone x) h = absurd h
value_full kind.Sizes (value.Errno x) h = absurd h
value_full kind.Truth (value.Number x) h = absurd h
value_full kind.Truth (value.Bytes x) h = absurd h
value_full kind.Truth (value.Parts x) h = absurd h
value_full kind.Truth (value.Sizes x) h = absurd h
value_full kind.Truth (value.Truth t) h = rw (truth_full t) refl
value_full kind.Truth (value.Provider x) h = absurd h
value_full kind.Truth (value.Mode x) h = absurd h
value_full kind.Truth (value.Limit x) h = absurd h
value_full kind.Truth (value.Service x) h = absurd h
value_full kind.Truth (value.State x) h = absurd h
value_full kind.Truth (value.Event x) h = absurd h
value_full kind.Truth (value.EventOrNone x) h = absurd h
value_full kind.Truth (value.Errno x) h = absurd h
value_full kind.Provider (value.Number x) h = absurd h
value_full kind.Provider (value.Bytes x) h = absurd h
value_full kind.Provider (value.Parts x) h = absurd h
value_full kind.Provider (value.Sizes x) h = absurd h
value_full kind.Provider (value.Truth x) h = absurd h
value_full kind.Provider (value.Provider p) h = rw (prov_full p) refl
value_full kind.Provider (value.Mode x) h = absurd h
value_full kind.Provider (value.Limit x) h = absurd h
value_full kind.Provider (value.Service x) h = absurd h
value_full kind.Provider (value.State x) h = absurd h
value_full kind.Provider (value.Event x) h = absurd h
value_full kind.Provider (value.EventOrNone x) h = absurd h
value_full kind.Provider (value.Errno x) h = absurd h
value_full kind.Mode (value.Number x) h = absurd h
value_full kind.Mode (value.Bytes x) h = absurd h
value_full kind.Mode (value.Parts x) h = absurd h
value_full kind.Mode (value.Sizes x) h = absurd h
value_full kind.Mode (value.Truth x) h = absurd h
value_full kind.Mode (value.Provider x) h = absurd h
value_full kind.Mode (value.Mode m) h = rw (mode_full m) refl
value_full kind.Mode (value.Limit x) h = absurd h
value_full kind.Mode (value.Service x) h = absurd h
value_full kind.Mode (value.State x) h = absurd h
value_full kind.Mode (value.Event x) h = absurd h
value_full kind.Mode (value.EventOrNone x) h = absurd h
value_full kind.Mode (value.Errno x) h = absurd h
value_full kind.Limit (value.Number x) h = absurd h
value_full kind.Limit (value.Bytes x) h = absurd h
value_full kind.Limit (value.Parts x) h = absurd h
value_full kind.Limit (value.Sizes x) h = absurd h
value_full kind.Limit (value.Truth x) h = absurd h
value_full kind.Limit (value.Provider x) h = absurd h
value_full kind.Limit (value.Mode x) h = absurd h
value_full kind.Limit (value.Limit (limit.At n)) h = rw (limit_full (limit.At n) h) refl
value_full kind.Limit (value.Limit limit.Infinite) h = rw (limit_full limit.Infinite tt) refl
value_full kind.Limit (value.Limit limit.Invalid) h = rw (limit_full limit.Invalid tt) refl
value_full kind.Limit (value.Service x) h = absurd h
value_full kind.Limit (value.State x) h = absurd h
value_full kind.Limit (value.Event x) h = absurd h
value_full kind.Limit (value.EventOrNone x) h = absurd h
value_full kind.Limit (value.Errno x) h = absurd h
value_full kind.Service (value.Number x) h = absurd h
value_full kind.Service (value.Bytes x) h = absurd h
value_full kind.Service (value.Parts x) h = absurd h
value_full kind.Service (value.Sizes x) h = absurd h
value_full kind.Service (value.Truth x) h = absurd h
value_full kind.Service (value.Provider x) h = absurd h
value_full kind.Service (value.Mode x) h = absurd h
value_full kind.Service (value.Limit x) h = absurd h
value_full kind.Service (value.Service s) h = rw (service_full s) refl
value_full kind.Service (value.State x) h = absurd h
value_full kind.Service (value.Event x) h = absurd h
value_full kind.Service (value.EventOrNone x) h = absurd h
value_full kind.Service (value.Errno x) h = absurd h
value_full kind.State (value.Number x) h = absurd h
value_full kind.State (value.Bytes x) h = absurd h
value_full kind.State (value.Parts x) h = absurd h
value_full kind.State (value.Sizes x) h = absurd h
value_full kind.State (value.Truth x) h = absurd h
value_full kind.State (value.Provider x) h = absurd h
value_full kind.State (value.Mode x) h = absurd h
value_full kind.State (value.Limit x) h = absurd h
value_full kind.State (value.Service x) h = absurd h
value_full kind.State (value.State s) h = rw (state_full s) refl
value_full kind.State (value.Event x) h = absurd h
value_full kind.State (value.EventOrNone x) h = absurd h
value_full kind.State (value.Errno x) h = absurd h
value_full kind.Event (value.Number x) h = absurd h
value_full kind.Event (value.Bytes x) h = absurd h
value_full kind.Event (value.Parts x) h = absurd h
value_full kind.Event (value.Sizes x) h = absurd h
value_full kind.Event (value.Truth x) h = absurd h
value_full kind.Event (value.Provider x) h = absurd h
value_full kind.Event (value.Mode x) h = absurd h
value_full kind.Event (value.Limit x) h = absurd h
value_full kind.Event (value.Service x) h = absurd h
value_full kind.Event (value.State x) h = absurd h
value_full kind.Event (value.Event e) h = rw (event_full e) refl
value_full kind.Event (value.EventOrNone x) h = absurd h
value_full kind.Event (value.Errno x) h = absurd h
value_full kind.EventOrNone (value.Number x) h = absurd h
value_full kind.EventOrNone (value.Bytes x) h = absurd h
value_full kind.EventOrNone (value.Parts x) h = absurd h
value_full kind.EventOrNone (value.Sizes x) h = absurd h
value_full kind.EventOrNone (value.Truth x) h = absurd h
value_full kind.EventOrNone (value.Provider x) h = absurd h
value_full kind.EventOrNone (value.Mode x) h = absurd h
value_full kind.EventOrNone (value.Limit x) h = absurd h
value_full kind.EventOrNone (value.Service x) h = absurd h
value_full kind.EventOrNone (value.State x) h = absurd h
value_full kind.EventOrNone (value.Event x) h = absurd h
value_full kind.EventOrNone (value.EventOrNone (Some e)) h = rw (maybe_full e) refl
value_full kind.EventOrNone (value.EventOrNone None) h = rw none_full refl
value_full kind.EventOrNone (value.Errno x) h = absurd h
value_full kind.Errno (value.Number x) h = absurd h
value_full kind.Errno (value.Bytes x) h = absurd h
value_full kind.Errno (value.Parts x) h = absurd h
value_full kind.Errno (value.Sizes x) h = absurd h
value_full kind.Errno (value.Truth x) h = absurd h
value_full kind.Errno (value.Provider x) h = absurd h
value_full kind.Errno (value.Mode x) h = absurd h
value_full kind.Errno (value.Limit x) h = absurd h
value_full kind.Errno (value.Service x) h = absurd h
value_full kind.Errno (value.State x) h = absurd h
value_full kind.Errno (value.Event x) h = absurd h
value_full kind.Errno (value.EventOrNone x) h = absurd h
value_full kind.Errno (value.Errno e) h = rw (errno_full e h) refl

limit_value : (word : List ℕ) (l : Limit) → (word ≡ signed_decimal (limit_number l)) × IsLimit l → (word ≡ value_text (value.Limit l)) × IsOfKind kind.Limit (value.Limit l)
limit_value word (limit.At n) h = h
limit_value word limit.Infinite h = (h.0, tt)
limit_value word limit.Invalid h = (h.0, tt)

abbrev Exact : Kind → List ℕ → Value → Type 0
Exact k word v = (word ≡ value_text v) × IsOfKind k v

pub value_exact : (k : Kind) (word : List ℕ) (v : Value) → value_in k word ≡ Some v → (word ≡ value_text v) × IsOfKind k v
value_exact kind.Number word v e = let m = mapped value.Number (number_in word) v e in subst (Exact kind.Number word) m.2 (number_sound word m.0 m.1)
value_exact kind.Bytes word v e = let m = mapped value.Bytes (octets_in word) v e in subst (Exact kind.Bytes word) m.2 (octets_sound word m.0 m.1)
value_exact kind.Parts word v e = let m = mapped value.Parts (members_in octets_in word) v e in subst (Exact kind.Parts word) m.2 (members_exact AreBytes octets_text octets_in octets_codes word m.0 m.1)
value_exact kind.Sizes word v e = let m = mapped value.Sizes (members_in number_in word) v e in subst (Exact kind.Sizes word) m.2 (members_exact IsNumber decimal number_in number_codes word m.0 m.1)
value_exact kind.Truth word v e = let m = mapped value.Truth (truth_in word) v e in subst (Exact kind.Truth word) m.2 ((truth_exact word m.0 m.1, tt))
value_exact kind.Provider word v e = let m = mapped value.Provider (provider_in word) v e in subst (Exact kind.Provider word) m.2 ((prov_exact word m.0 m.1, tt))
value_exact kind.Mode word v e = let m = mapped value.Mode (mode_in word) v e in subst (Exact kind.Mode word) m.2 ((mode_exact word m.0 m.1, tt))
value_exact kind.Limit word v e = let m = mapped value.Limit (limit_in word) v e in subst (Exact kind.Limit word) m.2 (limit_value word m.0 (limit_exact word m.0 m.1))
value_exact kind.Service word v e = let m = mapped value.Service (service_in word) v e in subst (Exact kind.Service word) m.2 ((service_exact word m.0 m.1, tt))
value_exact kind.State word v e = let m = mapped value.State (state_in word) v e in subst (Exact kind.State word) m.2 ((found_is state_name word states m.0 m.1, tt))
value_exact kind.Event word v e = let m = mapped value.Event (event_in word) v e in subst (Exact kind.Event word) m.2 ((found_is event_name word events m.0 m.1, tt))
value_exact kind.EventOrNone word v e = let m = mapped value.EventOrNone (event_or_none_in word) v e in subst (Exact kind.EventOrNone word) m.2 ((maybe_exact word m.0 m.1, tt))
value_exact kind.Errno word v e = let m = mapped value.Errno (errno_in word) v e in subst (Exact kind.Errno word) m.2 ((found_is errno_name word errnos m.0 m.1, errno_kind word m.0 m.1))

-- ---- no byte of a value is a space or LF

pub known : (word : List ℕ) → list_all (ltb 32) word ≡ true → Above 32 word
known [] h = All-nil (λ c. 32 < c)
known (c ∷ cs) h = let p = and_parts (ltb 32 c) (list_all (ltb 32) cs) h in All-cons (λ c. 32 < c) c cs (ltb-true 32 c p.0) (known cs p.1)

low_digits : (n : ℕ) → n < 2 ^ 64 → Above 32 (decimal n)
low_digits n h = above_less 44 32 (decimal n) (omega arith) (decimal_above n h)

prov_above : (p : Prov) → Above 32 (prov_name p)
prov_above Ticots = known (prov_name Ticots) refl
prov_above Ticotsord = known (prov_name Ticotsord) refl
prov_above Ticlts = known (prov_name Ticlts) refl
prov_above Other = known (prov_name Other) refl

pub state_above : (s : State) → Above 32 (state_name s)
state_above state.T_UNINIT = known (state_name state.T_UNINIT) refl
state_above state.T_UNBND = known (state_name state.T_UNBND) refl
state_above state.T_IDLE = known (state_name state.T_IDLE) refl
state_above state.T_OUTCON = known (state_name state.T_OUTCON) refl
state_above state.T_INCON = known (state_name state.T_INCON) refl
state_above state.T_DATAXFER = known (state_name state.T_DATAXFER) refl
state_above state.T_OUTREL = known (state_name state.T_OUTREL) refl
state_above state.T_INREL = known (state_name state.T_INREL) refl

event_above : (e : Event) → Above 32 (event_name e)
event_above event.T_LISTEN = known (event_name event.T_LISTEN) refl
event_above event.T_CONNECT = known (event_name event.T_CONNECT) refl
event_above event.T_DATA = known (event_name event.T_DATA) refl
event_above event.T_EXDATA = known (event_name event.T_EXDATA) refl
event_above event.T_DISCONNECT = known (event_name event.T_DISCONNECT) refl
event_above event.T_UDERR = known (event_name event.T_UDERR) refl
event_above event.T_ORDREL = known (event_name event.T_ORDREL) refl
event_above event.T_GODATA = known (event_name event.T_GODATA) refl
event_above event.T_GOEXDATA = known (event_name event.T_GOEXDATA) refl

errno_above : (e : Errno) → Above 32 (errno_name e)
errno_above errno.TBADADDR = known (errno_name errno.TBADADDR) refl
errno_above errno.TBADOPT = known (errno_name errno.TBADOPT) refl
errno_above errno.TACCES = known (errno_name errno.TACCES) refl
errno_above errno.TBADF = known (errno_name errno.TBADF) refl
errno_above errno.TNOADDR = known (errno_name errno.TNOADDR) refl
errno_above errno.TOUTSTATE = known (errno_name errno.TOUTSTATE) refl
errno_above errno.TBADSEQ = known (errno_name errno.TBADSEQ) refl
errno_above errno.TSYSERR = known (errno_name errno.TSYSERR) refl
errno_above errno.TBADDATA = known (errno_name errno.TBADDATA) refl
errno_above errno.TFLOW = known (errno_name errno.TFLOW) refl
errno_above errno.TNODATA = known (errno_name errno.TNODATA) refl
errno_above errno.TNODIS = known (errno_name errno.TNODIS) refl
errno_above errno.TNOUDERR = known (errno_name errno.TNOUDERR) refl
errno_above errno.TBADFLAG = known (errno_name errno.TBADFLAG) refl
errno_above errno.TNOREL = known (errno_name errno.TNOREL) refl
errno_above errno.TNOTSUPPORT = known (errno_name errno.TNOTSUPPORT) refl
errno_above errno.TSTATECHNG = known (errno_name errno.TSTATECHNG) refl
errno_above errno.TNOSTRUCTYPE = known (errno_name errno.TNOSTRUCTYPE) refl
errno_above errno.TBADNAME = known (errno_name errno.TBADNAME) refl
errno_above errno.TBADQLEN = known (errno_name errno.TBADQLEN) refl
errno_above errno.TADDRBUSY = known (errno_name errno.TADDRBUSY) refl
errno_above errno.TINDOUT = known (errno_name errno.TINDOUT) refl
errno_above errno.TPROVMISMATCH = known (errno_name errno.TPROVMISMATCH) refl
errno_above errno.TRESQLEN = known (errno_name errno.TRESQLEN) refl
errno_above errno.TRESADDR = known (errno_name errno.TRESADDR) refl
errno_above errno.TQFULL = known (errno_name errno.TQFULL) refl
errno_above errno.TPROTO = known (errno_name errno.TPROTO) refl
errno_above errno.TLOOK = known (errno_name errno.TLOOK) refl
errno_above errno.TBUFOVFLW = known (errno_name errno.TBUFOVFLW) refl

service_small : (s : ServType) → service_number s < 2 ^ 64
service_small service.T_COTS = omega arith
service_small service.T_COTS_ORD = omega arith
service_small service.T_CLTS = omega arith

pub value_above : (k : Kind) (v : Value) → IsOfKind k v → Above 32 (value_text v)
value_above kind.Number (value.Number n) h = low_digits n (omega arith)
value_above kind.Number (value.Bytes x) h = absurd h
value_above kind.Number (value.Parts x) h = absurd h
value_above kind.Number (value.Sizes x) h = absurd h
value_above kind.Number (value.Truth x) h = absurd h
value_above kind.Number (value.Provider x) h = absurd h
value_above kind.Number (value.Mode x) h = absurd h
value_above kind.Number (value.Limit x) h = absurd h
value_above kind.Number (value.Service x) h = absurd h
value_above kind.Number (value.State x) h = absurd h
value_above kind.Number (value.Event x) h = absurd h
value_above kind.Number (value.EventOrNone x) h = absurd h
value_above kind.Number (value.Errno x) h = absurd h
value_above kind.Bytes (value.Number x) h = absurd h
value_above kind.Bytes (value.Bytes bs) h = above_less 44 32 (octets_text bs) (omega arith) (octets_above bs)
value_above kind.Bytes (value.Parts x) h = absurd h
value_above kind.Bytes (value.Sizes x) h = absurd h
value_above kind.Bytes (value.Truth x) h = absurd h
value_above kind.Bytes (value.Provider x) h = absurd h
value_above kind.Bytes (value.Mode x) h = absurd h
value_above kind.Bytes (value.Limit x) h = absurd h
value_above kind.Bytes (value.Service x) h = absurd h
value_above kind.Bytes (value.State x) h = absurd h
value_above kind.Bytes (value.Event x) h = absurd h
value_above kind.Bytes (value.EventOrNone x) h = absurd h
value_above kind.Bytes (value.Errno x) h = absurd h
value_above kind.Parts (value.Number x) h = absurd h
value_above kind.Parts (value.Bytes x) h = absurd h
value_above kind.Parts (value.Parts ps) h = members_above AreBytes octets_text octets_in octets_codes ps h
value_above kind.Parts (value.Sizes x) h = absurd h
value_above kind.Parts (value.Truth x) h = absurd h
value_above kind.Parts (value.Provider x) h = absurd h
value_above kind.Parts (value.Mode x) h = absurd h
value_above kind.Parts (value.Limit x) h = absurd h
value_above kind.Parts (value.Service x) h = absurd h
value_above kind.Parts (value.State x) h = absurd h
value_above kind.Parts (value.Event x) h = absurd h
value_above kind.Parts (value.EventOrNone x) h = absurd h
value_above kind.Parts (value.Errno x) h = absurd h
value_above kind.Sizes (value.Number x) h = absurd h
value_above kind.Sizes (value.Bytes x) h = absurd h
value_above kind.Sizes (value.Parts x) h = absurd h
value_above kind.Sizes (value.Sizes ns) h = members_above IsNumber decimal number_in number_codes ns h
value_above kind.Sizes (value.Truth x) h = absurd h
value_above kind.Sizes (value.Provider x) h = absurd h
value_above kind.Sizes (value.Mode x) h = absurd h
value_above kind.Sizes (value.Limit x) h = absurd h
value_above kind.Sizes (value.Service x) h = absurd h
value_above kind.Sizes (value.State x) h = absurd h
value_above kind.Sizes (value.Event x) h = absurd h
value_above kind.Sizes (value.EventOrNone x) h = absurd h
value_above kind.Sizes (value.Errno x) h = absurd h
value_above kind.Truth (value.Number x) h = absurd h
value_above kind.Truth (value.Bytes x) h = absurd h
value_above kind.Truth (value.Parts x) h = absurd h
value_above kind.Truth (value.Sizes x) h = absurd h
value_above kind.Truth (value.Truth true) h = known (codes "1") refl
value_above kind.Truth (value.Truth false) h = known (codes "0") refl
value_above kind.Truth (value.Provider x) h = absurd h
value_above kind.Truth (value.Mode x) h = absurd h
value_above kind.Truth (value.Limit x) h = absurd h
value_above kind.Truth (value.Service x) h = absurd h
value_above kind.Truth (value.State x) h = absurd h
value_above kind.Truth (value.Event x) h = absurd h
value_above kind.Truth (value.EventOrNone x) h = absurd h
value_above kind.Truth (value.Errno x) h = absurd h
value_above kind.Provider (value.Number x) h = absurd h
value_above kind.Provider (value.Bytes x) h = absurd h
value_above kind.Provider (value.Parts x) h = absurd h
value_above kind.Provider (value.Sizes x) h = absurd h
value_above kind.Provider (value.Truth x) h = absurd h
value_above kind.Provider (value.Provider p) h = prov_above p
value_above kind.Provider (value.Mode x) h = absurd h
value_above kind.Provider (value.Limit x) h = absurd h
value_above kind.Provider (value.Service x) h = absurd h
value_above kind.Provider (value.State x) h = absurd h
value_above kind.Provider (value.Event x) h = absurd h
value_above kind.Provider (value.EventOrNone x) h = absurd h
value_above kind.Provider (value.Errno x) h = absurd h
value_above kind.Mode (value.Number x) h = absurd h
value_above kind.Mode (value.Bytes x) h = absurd h
value_above kind.Mode (value.Parts x) h = absurd h
value_above kind.Mode (value.Sizes x) h = absurd h
value_above kind.Mode (value.Truth x) h = absurd h
value_above kind.Mode (value.Provider x) h = absurd h
value_above kind.Mode (value.Mode true) h = known (codes "nonblock") refl
value_above kind.Mode (value.Mode false) h = known (codes "block") refl
value_above kind.Mode (value.Limit x) h = absurd h
value_above kind.Mode (value.Service x) h = absurd h
value_above kind.Mode (value.State x) h = absurd h
value_above kind.Mode (value.Event x) h = absurd h
value_above kind.Mode (value.EventOrNone x) h = absurd h
value_above kind.Mode (value.Errno x) h = absurd h
value_above kind.Limit (value.Number x) h = absurd h
value_above kind.Limit (value.Bytes x) h = absurd h
value_above kind.Limit (value.Parts x) h = absurd h
value_above kind.Limit (value.Sizes x) h = absurd h
value_above kind.Limit (value.Truth x) h = absurd h
value_above kind.Limit (value.Provider x) h = absurd h
value_above kind.Limit (value.Mode x) h = absurd h
value_above kind.Limit (value.Limit (limit.At n)) h = low_digits n (omega arith)
value_above kind.Limit (value.Limit limit.Infinite) h = All-cons (λ c. 32 < c) 45 (decimal 1) (omega arith) (low_digits 1 (omega arith))
value_above kind.Limit (value.Limit limit.Invalid) h = All-cons (λ c. 32 < c) 45 (decimal 2) (omega arith) (low_digits 2 (omega arith))
value_above kind.Limit (value.Service x) h = absurd h
value_above kind.Limit (value.State x) h = absurd h
value_above kind.Limit (value.Event x) h = absurd h
value_above kind.Limit (value.EventOrNone x) h = absurd h
value_above kind.Limit (value.Errno x) h = absurd h
value_above kind.Service (value.Number x) h = absurd h
value_above kind.Service (value.Bytes x) h = absurd h
value_above kind.Service (value.Parts x) h = absurd h
value_above kind.Service (value.Sizes x) h = absurd h
value_above kind.Service (value.Truth x) h = absurd h
value_above kind.Service (value.Provider x) h = absurd h
value_above kind.Service (value.Mode x) h = absurd h
value_above kind.Service (value.Limit x) h = absurd h
value_above kind.Service (value.Service s) h = low_digits (service_number s) (service_small s)
value_above kind.Service (value.State x) h = absurd h
value_above kind.Service (value.Event x) h = absurd h
value_above kind.Service (value.EventOrNone x) h = absurd h
value_above kind.Service (value.Errno x) h = absurd h
value_above kind.State (value.Number x) h = absurd h
value_above kind.State (value.Bytes x) h = absurd h
value_above kind.State (value.Parts x) h = absurd h
value_above kind.State (value.Sizes x) h = absurd h
value_above kind.State (value.Truth x) h = absurd h
value_above kind.State (value.Provider x) h = absurd h
value_above kind.State (value.Mode x) h = absurd h
value_above kind.State (value.Limit x) h = absurd h
value_above kind.State (value.Service x) h = absurd h
value_above kind.State (value.State s) h = state_above s
value_above kind.State (value.Event x) h = absurd h
value_above kind.State (value.EventOrNone x) h = absurd h
value_above kind.State (value.Errno x) h = absurd h
value_above kind.Event (value.Number x) h = absurd h
value_above kind.Event (value.Bytes x) h = absurd h
value_above kind.Event (value.Parts x) h = absurd h
value_above kind.Event (value.Sizes x) h = absurd h
value_above kind.Event (value.Truth x) h = absurd h
value_above kind.Event (value.Provider x) h = absurd h
value_above kind.Event (value.Mode x) h = absurd h
value_above kind.Event (value.Limit x) h = absurd h
value_above kind.Event (value.Service x) h = absurd h
value_above kind.Event (value.State x) h = absurd h
value_above kind.Event (value.Event e) h = event_above e
value_above kind.Event (value.EventOrNone x) h = absurd h
value_above kind.Event (value.Errno x) h = absurd h
value_above kind.EventOrNone (value.Number x) h = absurd h
value_above kind.EventOrNone (value.Bytes x) h = absurd h
value_above kind.EventOrNone (value.Parts x) h = absurd h
value_above kind.EventOrNone (value.Sizes x) h = absurd h
value_above kind.EventOrNone (value.Truth x) h = absurd h
value_above kind.EventOrNone (value.Provider x) h = absurd h
value_above kind.EventOrNone (value.Mode x) h = absurd h
value_above kind.EventOrNone (value.Limit x) h = absurd h
value_above kind.EventOrNone (value.Service x) h = absurd h
value_above kind.EventOrNone (value.State x) h = absurd h
value_above kind.EventOrNone (value.Event x) h = absurd h
value_above kind.EventOrNone (value.EventOrNone (Some e)) h = event_above e
value_above kind.EventOrNone (value.EventOrNone None) h = known (codes "0") refl
value_above kind.EventOrNone (value.Errno x) h = absurd h
value_above kind.Errno (value.Number x) h = absurd h
value_above kind.Errno (value.Bytes x) h = absurd h
value_above kind.Errno (value.Parts x) h = absurd h
value_above kind.Errno (value.Sizes x) h = absurd h
value_above kind.Errno (value.Truth x) h = absurd h
value_above kind.Errno (value.Provider x) h = absurd h
value_above kind.Errno (value.Mode x) h = absurd h
value_above kind.Errno (value.Limit x) h = absurd h
value_above kind.Errno (value.Service x) h = absurd h
value_above kind.Errno (value.State x) h = absurd h
value_above kind.Errno (value.Event x) h = absurd h
value_above kind.Errno (value.EventOrNone x) h = absurd h
value_above kind.Errno (value.Errno e) h = errno_above e
