-- What is read is in the grammar, and what is in the grammar is read.
use Rattle.std.proofs.Common.{◌≡◌, ℕ, ◌≤◌, Bool, true, false, cond, leb, List, [], ◌∷◌, ◌++◌, length, Option, Some, None, refl, sym, ap, subst, ◌∙◌, append_assoc}
use Rattle.std.specs.Str.{bytes_eq}
use Rattle.std.proofs.lemmas.Bool.{leb-true, le-leb}
use Rattle.std.proofs.lemmas.Option.{cond_some}
use Rattle.std.proofs.lemmas.Slice.Eq.{bytes_eq-Decides}
use Rattle.xti_model.specs.declared.profile.Version.{Version}
use Rattle.xti_model.specs.declared.script.NamedCall.{NamedCall}
use Rattle.xti_model.specs.declared.script.Line.{Line}
use Rattle.xti_script_reader.specs.FieldValue.{Value}
use Rattle.xti_verbs.specs.declared.verb.Verb.{Verb}
use Rattle.xti_script_reader.specs.Names.{Spot, after}
use Rattle.xti_words.specs.Texts.{words_of}
use Rattle.xti_words.specs.Values.{number_in}
use Rattle.xti_verbs.specs.Verbs.{is_in_texts, verb_word, verb_in}
use Rattle.xti_verbs.proofs.WordLaws.{verb_is, is_known, is_verb}
use Rattle.xti_script_reader.specs.Calls.{form}
use Rattle.xti_base.specs.declared.limits.TheConstants.{LAST_WORKER}
use Rattle.xti_script_reader.specs.Grammar.{IsCall, IsLine}
use Rattle.xti_script_reader.specs.Reading.{fields_of, with_values, call_by_verb, call_of, small, worker_of, by_worker, call_by, any_line_of}
use Rattle.xti_script_reader.proofs.FieldLaws.{forms_are_apart, fields_are, are_fields}

pub is_word : (xs ys : List ℕ) → bytes_eq xs ys ≡ true → xs ≡ ys
is_word xs ys e = (bytes_eq-Decides xs ys).0 e

-- ---- any call

values_are : (version : Version) (s : Spot) (word : List ℕ) (fields : List (List ℕ)) (verb : Verb) (c : NamedCall) (o : Option (List Value)) → is_in_texts version verb ≡ true → word ≡ verb_word verb → fields_of s (form verb) fields ≡ o → with_values verb o ≡ Some c → IsCall version s c (word ∷ fields)
values_are version s word fields verb c None t w q e = absurd cc
values_are version s word fields verb c (Some values) t w q e = record {
  verb = verb;
  fields = fields;
  values = values;
  in_texts = t;
  spelled = ap (λ (x : List ℕ). x ∷ fields) w;
  are_fields = fields_are s (form verb) fields values q;
  made = e;
}

verb_call_is : (version : Version) (s : Spot) (word : List ℕ) (words : List (List ℕ)) (o : Option Verb) (c : NamedCall) → verb_in version word ≡ o → call_by_verb s o words ≡ Some c → IsCall version s c (word ∷ words)
verb_call_is version s word words None c q e = absurd cc
verb_call_is version s word words (Some verb) c q e = values_are version s word words verb c (fields_of s (form verb) words) (is_known version word verb q) (verb_is version word verb q) refl e

call_is : (version : Version) (s : Spot) (words : List (List ℕ)) (c : NamedCall) → call_of version s words ≡ Some c → IsCall version s c words
unfolding call_of
call_is version s [] c e = absurd cc
call_is version s (word ∷ words) c e = verb_call_is version s word words (verb_in version word) c refl e

is_call : (version : Version) (s : Spot) (c : NamedCall) (words : List (List ℕ)) → IsCall version s c words → call_of version s words ≡ Some c
unfolding call_of
is_call version s c words h =
    let read : fields_of s (form h.verb) h.fields ≡ Some h.values = are_fields s (form h.verb) h.values h.fields (forms_are_apart h.verb) h.are_fields in
    rw h.spelled (rw (is_verb version h.verb h.in_texts) (rw read h.made))

-- ---- lines

record IsBy (version : Version) (earlier : List Line) (worker : ℕ) (words : List (List ℕ)) (line : Line) : Type 0 where
  worker_is : line.worker ≡ worker
  call : IsCall version (after earlier line.worker) line.call words

by_is : (version : Version) (earlier : List Line) (worker : ℕ) (words : List (List ℕ)) (o : Option NamedCall) (line : Line) → call_of version (after earlier worker) words ≡ o → by_worker worker o ≡ Some line → IsBy version earlier worker words line
by_is version earlier worker words None line q e = absurd cc
by_is version earlier worker words (Some c) line q e =
    let l : Line = record { worker = worker; call = c } in
    let s : record { worker = worker; call = c } ≡ line = cc in
    subst (IsBy version earlier worker words) s (record { worker_is = refl; call = call_is version (after earlier worker) words c q })

small_is : (o : Option ℕ) (worker : ℕ) → small o ≡ Some worker → (o ≡ Some worker) × (worker ≤ LAST_WORKER)
small_is None worker e = absurd cc
small_is (Some n) worker e =
    let t = cond_some (leb n LAST_WORKER) n worker e in
    (ap (λ (x : ℕ). Some x) t.1, subst (λ (x : ℕ). x ≤ LAST_WORKER) t.1 (leb-true _ _ t.0))

numbered : (version : Version) (earlier : List Line) (text number : List ℕ) (words : List (List ℕ)) (o : Option ℕ) (line : Line) → words_of text ≡ number ∷ words → worker_of number ≡ o → call_by version earlier o words ≡ Some line → IsLine version earlier line text
numbered version earlier text number words None line split q e = absurd cc
numbered version earlier text number words (Some worker) line split q e =
    let s = small_is (number_in number) worker q in
    let b = by_is version earlier worker words (call_of version (after earlier worker) words) line refl e in
    record {
      number = number;
      words = words;
      split = split;
      worker = s.0 ∙ ap (λ (x : ℕ). Some x) (sym b.worker_is);
      is_worker = subst (λ (x : ℕ). x ≤ LAST_WORKER) (sym b.worker_is) s.1;
      call = b.call;
    }

worded : (version : Version) (earlier : List Line) (text : List ℕ) (ws : List (List ℕ)) (line : Line) → words_of text ≡ ws → any_line_of version earlier ws ≡ Some line → IsLine version earlier line text
unfolding any_line_of
worded version earlier text [] line p e = absurd cc
worded version earlier text (number ∷ words) line p e = numbered version earlier text number words (worker_of number) line p refl e

pub line_is : (version : Version) (earlier : List Line) (text : List ℕ) (line : Line) → any_line_of version earlier (words_of text) ≡ Some line → IsLine version earlier line text
line_is version earlier text line e = worded version earlier text (words_of text) line refl e

pub is_line : (version : Version) (earlier : List Line) (text : List ℕ) (line : Line) → IsLine version earlier line text → any_line_of version earlier (words_of text) ≡ Some line
unfolding any_line_of
is_line version earlier text line h =
    let worker : leb line.worker LAST_WORKER ≡ true = le-leb _ _ h.is_worker in
    let number : number_in h.number ≡ Some line.worker = h.worker in
    let call : call_of version (after earlier line.worker) h.words ≡ Some line.call = is_call version (after earlier line.worker) line.call h.words h.call in
    let by : worker_of h.number ≡ Some line.worker = rw (number, worker) refl in
    let any : call_by version earlier (Some line.worker) h.words ≡ Some line = rw call refl in
    rw (h.split, by) any

-- two lines of one text are the same
pub one_line : (version : Version) (earlier : List Line) (text : List ℕ) (line other : Line) → IsLine version earlier line text → IsLine version earlier other text → line ≡ other
one_line version earlier text line other h k = let e = sym (is_line version earlier text line h) ∙ is_line version earlier text other k in cc

pub regroup : (earlier lines : List Line) (line : Line) → (earlier ++ line ∷ []) ++ lines ≡ earlier ++ (line ∷ lines)
regroup earlier lines line = append_assoc earlier (line ∷ []) lines
