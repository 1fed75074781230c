-- Words are read as fields exactly where they are these fields, in each table whose keys are apart.
use Rattle.std.proofs.Common.{◌≡◌, ℕ, Bool, true, false, cond, not, ◌&&◌, eqb, List, [], ◌∷◌, ◌++◌, length, drop, inl, inr, Option, Some, None, refl, sym, ap, subst, ◌∙◌}
use Rattle.std.specs.Prelude.{nat_eq}
use Rattle.std.specs.List.{starts_with, list_all}
use Rattle.std.proofs.lemmas.Bool.{and_parts, eq-eqb}
use Rattle.std.proofs.lemmas.Bool.Decides.{Decides-eqb}
use Rattle.std.proofs.Math.Seq.{drop-append_seam}
use Rattle.std.proofs.lemmas.Slice.Eq.{starts_is}
use Rattle.xti_script_reader.specs.FieldValue.{Value}
use Rattle.xti_script_reader.specs.declared.fields.Key.{Key}
use Rattle.xti_verbs.specs.declared.verb.Verb.{Verb}
use Rattle.xti_verbs.specs.declared.verb.Verb.TheVariants.{Open, Close, Bind, Unbind, Connect, RcvConnect, Listen, Accept, Snd, SndV, Rcv, RcvV, SndDis, RcvDis, SndRel, RcvRel, SndRelData, RcvRelData, SndUData, SndVUData, RcvUData, RcvVUData, RcvUDErr, Look, GetState, Sync, GetInfo, GetProtAddr, OptMgmt, SetMode}
use Rattle.xti_script_reader.specs.Names.{Spot}
use Rattle.xti_words.specs.Values.{onto}
use Rattle.xti_script_reader.specs.Values.{value_in}
use Rattle.xti_script_reader.specs.Fields.{field, key_word, kind_of, usual_value, IsWritten, AreFields}
use Rattle.xti_script_reader.specs.Calls.{form}
use Rattle.xti_script_reader.specs.Reading.{written_value, fields_of}

-- ---- keys that are apart

-- whether one is the beginning of the other
abbrev clash : List ℕ → List ℕ → Bool
clash [] ys = true
clash (x ∷ xs) [] = true
clash (x ∷ xs) (y ∷ ys) = eqb x y && clash xs ys

abbrev is_apart : List Key → Key → Bool
is_apart others key = list_all (λ other. not (clash (key_word key) (key_word other))) others

-- a key that may be left out is apart from those after it
abbrev needs_apart : Option Value → Bool → Bool
needs_apart None apart = true
needs_apart (Some value) apart = apart

abbrev pub are_apart : List Key → Bool
are_apart [] = true
are_apart (key ∷ keys) = needs_apart (usual_value key) (is_apart keys key) && are_apart keys

pub forms_are_apart : (verb : Verb) → are_apart (form verb) ≡ true
unfolding field form
forms_are_apart Open = refl
forms_are_apart Close = refl
forms_are_apart Bind = refl
forms_are_apart Unbind = refl
forms_are_apart Connect = refl
forms_are_apart RcvConnect = refl
forms_are_apart Listen = refl
forms_are_apart Accept = refl
forms_are_apart Snd = refl
forms_are_apart SndV = refl
forms_are_apart Rcv = refl
forms_are_apart RcvV = refl
forms_are_apart SndDis = refl
forms_are_apart RcvDis = refl
forms_are_apart SndRel = refl
forms_are_apart RcvRel = refl
forms_are_apart SndRelData = refl
forms_are_apart RcvRelData = refl
forms_are_apart SndUData = refl
forms_are_apart SndVUData = refl
forms_are_apart RcvUData = refl
forms_are_apart RcvVUData = refl
forms_are_apart RcvUDErr = refl
forms_are_apart Look = refl
forms_are_apart GetState = refl
forms_are_apart Sync = refl
forms_are_apart GetInfo = refl
forms_are_apart GetProtAddr = refl
forms_are_apart OptMgmt = refl
forms_are_apart SetMode = refl

usual_apart : (key : Key) (value : Value) (apart : Bool) → usual_value key ≡ Some value → needs_apart (usual_value key) apart ≡ true → apart ≡ true
usual_apart key value apart u a = let h : needs_apart (Some value) apart ≡ true = rw u at a in h

clashes : (xs ys s t : List ℕ) → xs ++ s ≡ ys ++ t → clash xs ys ≡ true
clashes [] ys s t e = refl
clashes (x ∷ xs) [] s t e = refl
clashes (x ∷ xs) (y ∷ ys) s t e =
    let h : x ≡ y = cc in
    let l : xs ++ s ≡ ys ++ t = cc in
    let same : eqb x y ≡ true = eq-eqb x y h in
    rw (same, clashes xs ys s t l) refl

never : (b : Bool) → not b ≡ true → b ≡ true → ⊥
never true e h = let c : false ≡ true = e in cc
never false e h = cc

-- no word of other fields begins with the key
other_key : (s : Spot) (keys : List Key) (values : List Value) (word : List ℕ) (words : List (List ℕ)) (key : Key) (text : List ℕ) → is_apart keys key ≡ true → word ≡ key_word key ++ text → AreFields s keys values (word ∷ words) → ⊥
other_key s [] [] word words key text a e h = h
other_key s [] (v ∷ vs) word words key text a e h = h
other_key s (k ∷ ks) [] word words key text a e h = h
other_key s (k ∷ ks) (v ∷ vs) word words key text a e (inl (w, h)) =
    let p = and_parts (not (clash (key_word key) (key_word k))) (is_apart ks key) a in
    never (clash (key_word key) (key_word k)) p.0 (clashes (key_word key) (key_word k) text w.text (sym e ∙ w.spelled))
other_key s (k ∷ ks) (v ∷ vs) word words key text a e (inr (u, h)) =
    let p = and_parts (not (clash (key_word key) (key_word k))) (is_apart ks key) a in
    other_key s ks vs word words key text p.1 e h

-- ---- what is read

record Onto {A : Type 0} (o : Option A) (os : Option (List A)) (all : List A) : Type 0 where
  first : A
  others : List A
  one : o ≡ Some first
  rest : os ≡ Some others
  both : first ∷ others ≡ all

onto_is : {A : Type 0} → (o : Option A) (os : Option (List A)) (all : List A) → onto o os ≡ Some all → Onto o os all
onto_is None os all e = absurd cc
onto_is (Some x) None all e = absurd cc
onto_is (Some x) (Some xs) all e = record { first = x; others = xs; one = refl; rest = refl; both = cc }

fields_end : (s : Spot) (words : List (List ℕ)) (values : List Value) → fields_of s [] words ≡ Some values → AreFields s [] values words
fields_end s [] [] e = tt
fields_end s [] (v ∷ vs) e = absurd cc
fields_end s (word ∷ words) values e = absurd cc

front : (word key : List ℕ) → starts_with nat_eq word key ≡ true → word ≡ key ++ drop (length key) word
front word key t = (starts_is Decides-eqb word key (starts_with nat_eq word key) refl).0 t

field_step : (s : Spot) (key : Key) (keys : List Key) (word : List ℕ) (words : List (List ℕ)) (values : List Value) (b : Bool) → starts_with nat_eq word (key_word key) ≡ b
    → ((ws : List (List ℕ)) (vs : List Value) → fields_of s keys ws ≡ Some vs → AreFields s keys vs ws)
    → onto (written_value s key (cond b (Some (drop (length (key_word key)) word)) None)) (fields_of s keys (cond b words (word ∷ words))) ≡ Some values → AreFields s (key ∷ keys) values (word ∷ words)
field_step s key keys word words values true t later e =
    let o = onto_is (value_in s (kind_of key) (drop (length (key_word key)) word)) (fields_of s keys words) values e in
    let w : IsWritten s key o.first word = record { text = drop (length (key_word key)) word; spelled = front word (key_word key) t; stands_for = o.one } in
    subst (λ (vs : List Value). AreFields s (key ∷ keys) vs (word ∷ words)) o.both (inl (w, later words o.others o.rest))
field_step s key keys word words values false t later e =
    let o = onto_is (usual_value key) (fields_of s keys (word ∷ words)) values e in
    subst (λ (vs : List Value). AreFields s (key ∷ keys) vs (word ∷ words)) o.both (inr (o.one, later (word ∷ words) o.others o.rest))

pub fields_are : (s : Spot) (keys : List Key) (words : List (List ℕ)) (values : List Value) → fields_of s keys words ≡ Some values → AreFields s keys values words
fields_are s [] words values e = fields_end s words values e
fields_are s (key ∷ keys) [] values e =
    let o = onto_is (usual_value key) (fields_of s keys []) values e in
    subst (λ (vs : List Value). AreFields s (key ∷ keys) vs []) o.both (o.one, fields_are s keys [] o.others o.rest)
fields_are s (key ∷ keys) (word ∷ words) values e =
    field_step s key keys word words values (starts_with nat_eq word (key_word key)) refl (λ ws vs h. fields_are s keys ws vs h) e

written_step : (s : Spot) (key : Key) (keys : List Key) (value : Value) (values : List Value) (word : List ℕ) (words : List (List ℕ)) → IsWritten s key value word → fields_of s keys words ≡ Some values → fields_of s (key ∷ keys) (word ∷ words) ≡ Some (value ∷ values)
written_step s key keys value values word words w h =
    let starts : starts_with nat_eq word (key_word key) ≡ true = (starts_is Decides-eqb word (key_word key) (starts_with nat_eq word (key_word key)) refl).1 w.text w.spelled in
    let rest : drop (length (key_word key)) word ≡ w.text = ap (drop (length (key_word key))) w.spelled ∙ drop-append_seam (key_word key) w.text in
    rw (starts, rest) (rw (w.stands_for, h) refl)

left_step : (s : Spot) (key : Key) (keys : List Key) (value : Value) (values : List Value) (word : List ℕ) (words : List (List ℕ)) (b : Bool) → starts_with nat_eq word (key_word key) ≡ b → is_apart keys key ≡ true → usual_value key ≡ Some value → AreFields s keys values (word ∷ words)
    → fields_of s keys (word ∷ words) ≡ Some values → onto (written_value s key (cond b (Some (drop (length (key_word key)) word)) None)) (fields_of s keys (cond b words (word ∷ words))) ≡ Some (value ∷ values)
left_step s key keys value values word words true t a u h e = absurd (other_key s keys values word words key (drop (length (key_word key)) word) a (front word (key_word key) t) h)
left_step s key keys value values word words false t a u h e = rw (u, e) refl

pub are_fields : (s : Spot) (keys : List Key) (values : List Value) (words : List (List ℕ)) → are_apart keys ≡ true → AreFields s keys values words → fields_of s keys words ≡ Some values
are_fields s [] [] [] a h = refl
are_fields s [] [] (word ∷ words) a h = absurd h
are_fields s [] (v ∷ vs) words a h = absurd h
are_fields s (key ∷ keys) [] words a h = absurd h
are_fields s (key ∷ keys) (value ∷ values) [] a (u, h) =
    let p = and_parts (needs_apart (usual_value key) (is_apart keys key)) (are_apart keys) a in
    rw (u, are_fields s keys values [] p.1 h) refl
are_fields s (key ∷ keys) (value ∷ values) (word ∷ words) a (inl (w, h)) =
    let p = and_parts (needs_apart (usual_value key) (is_apart keys key)) (are_apart keys) a in
    written_step s key keys value values word words w (are_fields s keys values words p.1 h)
are_fields s (key ∷ keys) (value ∷ values) (word ∷ words) a (inr (u, h)) =
    let p = and_parts (needs_apart (usual_value key) (is_apart keys key)) (are_apart keys) a in
    left_step s key keys value values word words (starts_with nat_eq word (key_word key)) refl (usual_apart key value (is_apart keys key) u p.0) u h (are_fields s keys values (word ∷ words) p.1 h)
