-- Words are read as fields exactly where they are these fields.
use Rattle.std.proofs.Common.{◌≡◌, ℕ, ◌<◌, Bool, true, false, cond, ltb, List, [], ◌∷◌, ◌++◌, length, drop, Option, Some, None, refl, ap, subst, ◌∙◌}
use Rattle.std.specs.Prelude.{nat_eq, All}
use Rattle.std.specs.List.{starts_with, list_all}
use Rattle.std.proofs.lemmas.Bool.Decides.{Decides-eqb}
use Rattle.std.proofs.lemmas.List.Elements.{All-nil, All-cons, All-append}
use Rattle.std.proofs.Math.Seq.{drop-append_seam}
use Rattle.std.proofs.lemmas.Slice.Eq.{starts_is}
use Rattle.xti_journal.specs.Kinds.{Kind}
use Rattle.xti_journal.specs.FieldValue.{Value}
use Rattle.xti_journal.specs.declared.fields.Key.{Key}
use Rattle.xti_journal.specs.declared.fields.Key.TheVariants as key
use Rattle.xti_journal.specs.Fields.{field, key_word, kind_of, AreFields}
use Rattle.xti_journal.specs.Values.{value_in}
use Rattle.xti_journal.specs.Reading.{Found, behind_key, text_value, before, fields_of}
use Rattle.xti_journal.proofs.NumberLaws.{Above}
use Rattle.xti_journal.proofs.ValueLaws.{value_text, value_full, value_exact, value_above, known, some_is, none_is}

abbrev pub texts : List Key → List Value → List (List ℕ)
texts [] values = []
texts (key ∷ keys) [] = []
texts (key ∷ keys) (value ∷ values) = (key_word key ++ value_text value) ∷ texts keys values

starts : (key text : List ℕ) → starts_with nat_eq (key ++ text) key ≡ true
starts key text = (starts_is Decides-eqb (key ++ text) key (starts_with nat_eq (key ++ text) key) refl).1 text refl

behind_full : (key text : List ℕ) → behind_key key (key ++ text) ≡ Some text
behind_full key text = rw (starts key text, drop-append_seam key text) refl

behind_exact : (key word text : List ℕ) → behind_key key word ≡ Some text → word ≡ key ++ text
behind_exact key word text e = go (starts_with nat_eq word key) refl e
  where
    go : (b : Bool) → starts_with nat_eq word key ≡ b → cond b (Some (drop (length key) word)) None ≡ Some text → word ≡ key ++ text
    go true s e = (starts_is Decides-eqb word key (starts_with nat_eq word key) refl).0 s ∙ ap (λ (l : List ℕ). key ++ l) (some_is (drop (length key) word) text e)
    go false s e = none_is text e

pub fields_full : (keys : List Key) (values : List Value) (rest : List (List ℕ)) → AreFields keys values → fields_of keys (texts keys values ++ rest) ≡ Some (values, rest)
fields_full [] [] rest h = refl
fields_full [] (v ∷ vs) rest h = absurd h
fields_full (k ∷ ks) [] rest h = absurd h
fields_full (k ∷ ks) (v ∷ vs) rest h =
    let one : behind_key (key_word k) (key_word k ++ value_text v) ≡ Some (value_text v) = behind_full (key_word k) (value_text v) in
    let two : value_in (kind_of k) (value_text v) ≡ Some v = value_full (kind_of k) v h.0 in
    let three : fields_of ks (texts ks vs ++ rest) ≡ Some (vs, rest) = fields_full ks vs rest h.1 in
    ap (λ (o : Option (List ℕ)). before (text_value (kind_of k) o) (fields_of ks (texts ks vs ++ rest))) one
    ∙ ap (λ (o : Option Value). before o (fields_of ks (texts ks vs ++ rest))) two
    ∙ ap (before (Some v)) three

record Before (o : Option Value) (os : Found (List Value)) (values : List Value) (rest : List (List ℕ)) : Type 0 where
  first : Value
  others : List Value
  one : o ≡ Some first
  later : os ≡ Some (others, rest)
  both : first ∷ others ≡ values

pair_first : {A B : Type 0} (a c : A) (b d : B) → ◌≡◌ {A = Option (A × B)} (Some (a, b)) (Some (c, d)) → (a ≡ c) × (b ≡ d)
pair_first a c b d e = let p = some_is (a, b) (c, d) e in (ap (λ x. x.0) p, ap (λ x. x.1) p)

before_is : (o : Option Value) (os : Found (List Value)) (values : List Value) (rest : List (List ℕ)) → before o os ≡ Some (values, rest) → Before o os values rest
before_is None os values rest e = none_is (values, rest) e
before_is (Some v) None values rest e = none_is (values, rest) e
before_is (Some v) (Some (vs, words)) values rest e =
    let p = pair_first (v ∷ vs) values words rest e in
    record { first = v; others = vs; one = refl; later = ap (λ (ws : List (List ℕ)). Some (vs, ws)) p.1; both = p.0 }

text_is : (kind : Kind) (o : Option (List ℕ)) (v : Value) → text_value kind o ≡ Some v → (text : List ℕ) × (o ≡ Some text) × (value_in kind text ≡ Some v)
text_is kind None v e = none_is v e
text_is kind (Some text) v e = (text, refl, e)

pub record AreRead (keys : List Key) (words : List (List ℕ)) (values : List Value) (rest : List (List ℕ)) : Type 0 where
  pub written : words ≡ texts keys values ++ rest
  pub are : AreFields keys values

pub fields_exact : (keys : List Key) (words : List (List ℕ)) (values : List Value) (rest : List (List ℕ)) → fields_of keys words ≡ Some (values, rest) → AreRead keys words values rest
fields_exact [] words values rest e =
    let p = pair_first [] values words rest e in
    subst (λ (vs : List Value). AreRead [] words vs rest) p.0 (record { written = p.1; are = tt })
fields_exact (k ∷ ks) [] values rest e = none_is (values, rest) e
fields_exact (k ∷ ks) (word ∷ words) values rest e =
    let b = before_is (text_value (kind_of k) (behind_key (key_word k) word)) (fields_of ks words) values rest e in
    let t = text_is (kind_of k) (behind_key (key_word k) word) b.first b.one in
    let w : word ≡ key_word k ++ t.0 = behind_exact (key_word k) word t.0 t.1 in
    let v = value_exact (kind_of k) t.0 b.first t.2 in
    let later = fields_exact ks words b.others rest b.later in
    let here : word ≡ key_word k ++ value_text b.first = w ∙ ap (λ (l : List ℕ). key_word k ++ l) v.0 in
    subst (λ (vs : List Value). AreRead (k ∷ ks) (word ∷ words) vs rest) b.both
    (record { written = ap (λ (l : List ℕ). l ∷ words) here ∙ ap (λ (ls : List (List ℕ)). (key_word k ++ value_text b.first) ∷ ls) later.written; are = (v.1, later.are) })

-- ---- no space in a field

key_above : (k : Key) → list_all (ltb 32) (key_word k) ≡ true
unfolding field
key_above key.Number = refl
key_above key.Bytes = refl
key_above key.Provider = refl
key_above key.Mode = refl
key_above key.Limit = refl
key_above key.Service = refl
key_above key.State = refl
key_above key.Event = refl
key_above key.EventOrNone = refl
key_above key.Errno = refl
key_above key.Addr = refl
key_above key.Opt = refl
key_above key.UData = refl
key_above key.Data = refl
key_above key.Parts = refl
key_above key.Sizes = refl
key_above key.Qlen = refl
key_above key.Flags = refl
key_above key.Max = refl
key_above key.Amax = refl
key_above key.Pmax = refl
key_above key.Omax = refl
key_above key.Umax = refl
key_above key.Tsdu = refl
key_above key.SendZero = refl
key_above key.SameAddr = refl
key_above key.SndBuf = refl
key_above key.RcvBuf = refl
key_above key.RelData = refl

pub texts_above : (keys : List Key) (values : List Value) → AreFields keys values → All (Above 32) (texts keys values)
texts_above [] [] h = All-nil (Above 32)
texts_above [] (v ∷ vs) h = absurd h
texts_above (k ∷ ks) [] h = absurd h
texts_above (k ∷ ks) (v ∷ vs) h =
    All-cons (Above 32) (key_word k ++ value_text v) (texts ks vs)
    (All-append (λ c. 32 < c) (key_word k) (value_text v) (known (key_word k) (key_above k)) (value_above (kind_of k) v h.0))
    (texts_above ks vs h.1)
