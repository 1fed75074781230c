-- The lines after the head are read exactly where they are written so.
use Rattle.std.proofs.Common.{◌≡◌, ℕ, ◌+◌, ◌<◌, ◌^◌, Bool, true, false, cond, List, [], ◌∷◌, ◌++◌, length, Option, Some, None, refl, sym, ap, ◌∙◌, arith}
use Rattle.std.specs.Prelude.{codes, decimal, All}
use Rattle.std.specs.Str.{bytes_eq}
use Rattle.std.specs.List.{join_with_byte, list_all}
use Rattle.std.proofs.lemmas.Bool.{false_from_ne_true}
use Rattle.std.proofs.lemmas.List.Elements.{All-nil, All-cons}
use Rattle.xti_model.specs.declared.entry.Entry.{Entry}
use Rattle.xti_model.specs.declared.script.StallLine.{StallLine}
use Rattle.xti_model.specs.declared.profile.Version.{Version}
use Rattle.xti_journal_text.specs.JournalText.{entry_text, stall_text, end_text}
use Rattle.xti_words.specs.Texts.{words_of, is_digit}
use Rattle.xti_journal.specs.Grammar.{last_verb, IsEntry, IsStall}
use Rattle.xti_journal.specs.Line.{IsLine}
use Rattle.xti_journal.specs.Reading.{EntryRead, StepRead, entry_read, entry_in, stall_read, stall_in, last_worker, may_follow, LineRead, Entered, Stalled, Ended, entered, stalled, ended, only_before, line_in}
use Rattle.xti_journal.proofs.NumberLaws.{Above, digits_are, decimal_above}
use Rattle.xti_journal.proofs.Splits.{above_less}
use Rattle.xti_journal.proofs.ValueLaws.{is_word, some_is, none_is, known}
use Rattle.xti_journal.proofs.LineLaws.{is_same, entry_words, entry_full, entry_exact, entry_above, entry_text_is, stall_words, stall_full, stall_exact, stall_above, stall_text_is, end_text_is}
use Rattle.xti_journal.proofs.TextLines.{words_line, words_are, joined_again}

abbrev pub with_lf : List ℕ → List ℕ
with_lf line = line ++ 10 ∷ []

-- ---- the kinds of lines are apart

not_digits : (n : ℕ) (word : List ℕ) → n < 2 ^ 64 → list_all is_digit word ≡ false → bytes_eq (decimal n) word ≡ false
not_digits n word small h = false_from_ne_true (bytes_eq (decimal n) word) (λ t.
    let d : list_all is_digit word ≡ true = rw (is_word (decimal n) word t) at (digits_are n small) in
    let f : true ≡ false = sym d ∙ h in cc)

-- ---- read lines

no_last : (stalls : List StallLine) → last_worker stalls ≡ None → stalls ≡ []
no_last [] e = refl
no_last (s ∷ stalls) e = some_last s stalls e
  where
    some_last : (s : StallLine) (stalls : List StallLine) → last_worker (s ∷ stalls) ≡ None → (s ∷ stalls) ≡ []
    some_last s [] e = absurd cc
    some_last s (t ∷ stalls) e = let n = some_last t stalls e in absurd cc

line_of_words : (line : List ℕ) (words : List (List ℕ)) → words_of line ≡ words → line ≡ join_with_byte 32 words
line_of_words line words e = sym (joined_again line) ∙ ap (join_with_byte 32) e

pub record ReadEntry (version : Version) (entries : List Entry) (stalls : List StallLine) (line : List ℕ) (e : Entry) : Type 0 where
  pub first : stalls ≡ []
  pub is_entry : IsEntry version entries e
  pub written : with_lf line ≡ entry_text (length entries + 1) e

pub record ReadStall (version : Version) (entries : List Entry) (stalls : List StallLine) (line : List ℕ) (s : StallLine) : Type 0 where
  pub is_stall : IsStall version entries s
  pub follows : may_follow (last_worker stalls) s.worker ≡ true
  pub written : with_lf line ≡ stall_text s

module _ (version : Version) (entries : List Entry) (stalls : List StallLine) where
  entered_is : (o : Option EntryRead) (e : Entry) → entered o ≡ Some (Entered (entry_read e)) → o ≡ Some (entry_read e)
  entered_is None e h = none_is (Entered (entry_read e)) h
  entered_is (Some r) e h = let p = some_is (Entered r) (Entered (entry_read e)) h in let q : r ≡ entry_read e = cc in ap (λ (x : EntryRead). Some x) q

  ended_not : (ws : List (List ℕ)) (r : LineRead) → ended (length entries) ws ≡ Some r → Ended ≡ r
  ended_not [] r h = none_is r h
  ended_not (word ∷ []) r h = go (bytes_eq word (decimal (length entries))) h
    where
      go : (b : Bool) → cond b (Some Ended) None ≡ Some r → Ended ≡ r
      go true h = some_is Ended r h
      go false h = none_is r h
  ended_not (word ∷ other ∷ ws) r h = none_is r h

  ended_is : (ws : List (List ℕ)) → ended (length entries) ws ≡ Some Ended → ws ≡ decimal (length entries) ∷ []
  ended_is [] h = none_is Ended h
  ended_is (word ∷ []) h = go (bytes_eq word (decimal (length entries))) refl h
    where
      go : (b : Bool) → bytes_eq word (decimal (length entries)) ≡ b → cond b (Some Ended) None ≡ Some Ended → word ∷ [] ≡ decimal (length entries) ∷ []
      go true t h = ap (λ (l : List ℕ). l ∷ []) (is_word word (decimal (length entries)) t)
      go false t h = none_is Ended h
  ended_is (word ∷ other ∷ ws) h = none_is Ended h

  stalled_not : (before : Option ℕ) (o : Option StepRead) (r : LineRead) → stalled before o ≡ Some r → (step : StepRead) × (o ≡ Some step) × (may_follow before step.worker ≡ true) × (Stalled step ≡ r)
  stalled_not before None r h = none_is r h
  stalled_not before (Some step) r h = go (may_follow before step.worker) refl h
    where
      go : (b : Bool) → may_follow before step.worker ≡ b → cond b (Some (Stalled step)) None ≡ Some r → (s : StepRead) × (Some step ≡ Some s) × (may_follow before s.worker ≡ true) × (Stalled s ≡ r)
      go true t h = (step, refl, t, some_is (Stalled step) r h)
      go false t h = none_is r h

  only_is : (o : Option ℕ) (x : Option LineRead) (r : LineRead) → only_before o x ≡ Some r → (o ≡ None) × (x ≡ Some r)
  only_is None x r h = (refl, h)
  only_is (Some w) x r h = none_is r h

  entered_not : (o : Option EntryRead) (r : LineRead) → entered o ≡ Some r → (e : EntryRead) × (Entered e ≡ r)
  entered_not None r h = none_is r h
  entered_not (Some e) r h = (e, some_is (Entered e) r h)

  -- which of the three it is
  abbrev is_kind : LineRead → ℕ
  is_kind (Entered e) = 0
  is_kind (Stalled s) = 1
  is_kind Ended = 2

  pub entry_line : (line : List ℕ) (e : Entry) → line_in version entries stalls (words_of line) ≡ Some (Entered (entry_read e)) → ReadEntry version entries stalls line e
  unfolding line_in
  entry_line line e h = by_words (words_of line) refl h
    where
      by_words : (ws : List (List ℕ)) → words_of line ≡ ws → line_in version entries stalls ws ≡ Some (Entered (entry_read e)) → ReadEntry version entries stalls line e
      by_words [] p h = none_is (Entered (entry_read e)) h
      by_words (word ∷ ws) p h = go (bytes_eq word (codes "end")) (bytes_eq word (codes "stall")) h
        where
          go : (a b : Bool) → cond a (ended (length entries) ws) (cond b (stalled (last_worker stalls) (stall_in version (last_verb entries) ws)) (only_before (last_worker stalls) (entered (entry_in version (length entries + 1) (last_verb entries) word ws)))) ≡ Some (Entered (entry_read e)) → ReadEntry version entries stalls line e
          go true b h = let k : 2 ≡ 0 = ap is_kind (ended_not ws (Entered (entry_read e)) h) in absurd (omega (arith, k))
          go false true h = let s = stalled_not (last_worker stalls) (stall_in version (last_verb entries) ws) (Entered (entry_read e)) h in let k : 1 ≡ 0 = ap is_kind s.3 in absurd (omega (arith, k))
          go false false h =
              let o = only_is (last_worker stalls) (entered (entry_in version (length entries + 1) (last_verb entries) word ws)) (Entered (entry_read e)) h in
              let x = entry_exact version (length entries + 1) entries word ws e (entered_is (entry_in version (length entries + 1) (last_verb entries) word ws) e o.1) in
              let w : words_of line ≡ decimal (length entries + 1) ∷ entry_words e = p ∙ ap (λ (l : List ℕ). l ∷ ws) x.0 ∙ ap (λ (ls : List (List ℕ)). decimal (length entries + 1) ∷ ls) x.1.written in
              record {
                first = no_last stalls o.0;
                is_entry = x.1.is_entry;
                written = ap with_lf (line_of_words line (decimal (length entries + 1) ∷ entry_words e) w) ∙ sym (entry_text_is (length entries + 1) e);
              }

  pub stall_line : (line : List ℕ) (s : StallLine) → line_in version entries stalls (words_of line) ≡ Some (Stalled (stall_read s)) → ReadStall version entries stalls line s
  unfolding line_in
  stall_line line s h = by_words (words_of line) refl h
    where
      by_words : (ws : List (List ℕ)) → words_of line ≡ ws → line_in version entries stalls ws ≡ Some (Stalled (stall_read s)) → ReadStall version entries stalls line s
      by_words [] p h = none_is (Stalled (stall_read s)) h
      by_words (word ∷ ws) p h = go (bytes_eq word (codes "end")) (bytes_eq word (codes "stall")) refl h
        where
          go : (a b : Bool) → bytes_eq word (codes "stall") ≡ b → cond a (ended (length entries) ws) (cond b (stalled (last_worker stalls) (stall_in version (last_verb entries) ws)) (only_before (last_worker stalls) (entered (entry_in version (length entries + 1) (last_verb entries) word ws)))) ≡ Some (Stalled (stall_read s)) → ReadStall version entries stalls line s
          go true b t h = let k : 2 ≡ 1 = ap is_kind (ended_not ws (Stalled (stall_read s)) h) in absurd (omega (arith, k))
          go false true t h =
              let q = stalled_not (last_worker stalls) (stall_in version (last_verb entries) ws) (Stalled (stall_read s)) h in
              let same : q.0 ≡ stall_read s = let k = q.3 in cc in
              let x = stall_exact version entries ws s (q.1 ∙ ap (λ (r : StepRead). Some r) same) in
              let w : words_of line ≡ codes "stall" ∷ stall_words s = p ∙ ap (λ (l : List ℕ). l ∷ ws) (is_word word (codes "stall") t) ∙ ap (λ (ls : List (List ℕ)). codes "stall" ∷ ls) x.written in
              record {
                is_stall = x.is_stall;
                follows = ap (λ (r : StepRead). may_follow (last_worker stalls) r.worker) (sym same) ∙ q.2;
                written = ap with_lf (line_of_words line (codes "stall" ∷ stall_words s) w) ∙ sym (stall_text_is s);
              }
          go false false t h =
              let o = only_is (last_worker stalls) (entered (entry_in version (length entries + 1) (last_verb entries) word ws)) (Stalled (stall_read s)) h in
              let x = entered_not (entry_in version (length entries + 1) (last_verb entries) word ws) (Stalled (stall_read s)) o.1 in
              let k : 0 ≡ 1 = ap is_kind x.1 in absurd (omega (arith, k))

  pub end_line : (line : List ℕ) → line_in version entries stalls (words_of line) ≡ Some Ended → with_lf line ≡ end_text (length entries)
  unfolding line_in
  end_line line h = by_words (words_of line) refl h
    where
      by_words : (ws : List (List ℕ)) → words_of line ≡ ws → line_in version entries stalls ws ≡ Some Ended → with_lf line ≡ end_text (length entries)
      by_words [] p h = none_is Ended h
      by_words (word ∷ ws) p h = go (bytes_eq word (codes "end")) refl (bytes_eq word (codes "stall")) h
        where
          go : (a : Bool) → bytes_eq word (codes "end") ≡ a → (b : Bool) → cond a (ended (length entries) ws) (cond b (stalled (last_worker stalls) (stall_in version (last_verb entries) ws)) (only_before (last_worker stalls) (entered (entry_in version (length entries + 1) (last_verb entries) word ws)))) ≡ Some Ended → with_lf line ≡ end_text (length entries)
          go true t b h =
              let w : words_of line ≡ codes "end" ∷ decimal (length entries) ∷ [] = p ∙ ap (λ (l : List ℕ). l ∷ ws) (is_word word (codes "end") t) ∙ ap (λ (ls : List (List ℕ)). codes "end" ∷ ls) (ended_is ws h) in
              ap with_lf (line_of_words line (codes "end" ∷ decimal (length entries) ∷ []) w) ∙ sym (end_text_is (length entries))
          go false t true h = let s = stalled_not (last_worker stalls) (stall_in version (last_verb entries) ws) Ended h in let k : 1 ≡ 2 = ap is_kind s.3 in absurd (omega (arith, k))
          go false t false h =
              let o = only_is (last_worker stalls) (entered (entry_in version (length entries + 1) (last_verb entries) word ws)) Ended h in
              let x = entered_not (entry_in version (length entries + 1) (last_verb entries) word ws) Ended o.1 in
              let k : 0 ≡ 2 = ap is_kind x.1 in absurd (omega (arith, k))

-- ---- written lines

-- words, and the line that they make
pub record Line (words : List (List ℕ)) (text : List ℕ) : Type 0 where
  pub line : List ℕ
  pub is_line : IsLine line
  pub whole : text ≡ with_lf line
  pub words_are : words_of line ≡ words

made : (word : List ℕ) (words : List (List ℕ)) (text : List ℕ) → text ≡ join_with_byte 32 (word ∷ words) ++ 10 ∷ [] → Above 32 word → All (Above 32) words → Line (word ∷ words) text
made word words text e h hs = record { line = join_with_byte 32 (word ∷ words); is_line = words_line (word ∷ words) (All-cons (Above 32) word words h hs); whole = e; words_are = words_are word words h hs }

number_above : (n : ℕ) → n < 2 ^ 64 → Above 32 (decimal n)
number_above n h = above_less 44 32 (decimal n) (omega arith) (decimal_above n h)

pub entry_is_line : (version : Version) (n : ℕ) (past : List Entry) (e : Entry) → n < 2 ^ 64 → IsEntry version past e → Line (decimal n ∷ entry_words e) (entry_text n e)
entry_is_line version n past e small h = made (decimal n) (entry_words e) (entry_text n e) (entry_text_is n e) (number_above n small) (entry_above version past e h)

pub stall_is_line : (version : Version) (entries : List Entry) (s : StallLine) → IsStall version entries s → Line (codes "stall" ∷ stall_words s) (stall_text s)
stall_is_line version entries s h = made (codes "stall") (stall_words s) (stall_text s) (stall_text_is s) (known (codes "stall") refl) (stall_above version entries s h)

pub end_is_line : (n : ℕ) → n < 2 ^ 64 → Line (codes "end" ∷ decimal n ∷ []) (end_text n)
end_is_line n small = made (codes "end") (decimal n ∷ []) (end_text n) (end_text_is n) (known (codes "end") refl) (All-cons (Above 32) (decimal n) [] (number_above n small) (All-nil (Above 32)))

pub entry_read_in : (version : Version) (entries : List Entry) (e : Entry) → length entries + 1 < 2 ^ 64 → IsEntry version entries e → line_in version entries [] (decimal (length entries + 1) ∷ entry_words e) ≡ Some (Entered (entry_read e))
unfolding line_in
entry_read_in version entries e small h =
    let a : bytes_eq (decimal (length entries + 1)) (codes "end") ≡ false = not_digits (length entries + 1) (codes "end") small refl in
    let b : bytes_eq (decimal (length entries + 1)) (codes "stall") ≡ false = not_digits (length entries + 1) (codes "stall") small refl in
    rw (a, b) (ap entered (entry_full version (length entries + 1) entries e h))

pub stall_read_in : (version : Version) (entries : List Entry) (stalls : List StallLine) (s : StallLine) → IsStall version entries s → may_follow (last_worker stalls) s.worker ≡ true → line_in version entries stalls (codes "stall" ∷ stall_words s) ≡ Some (Stalled (stall_read s))
unfolding line_in
stall_read_in version entries stalls s h f = ap (stalled (last_worker stalls)) (stall_full version entries s h) ∙ ap (λ (b : Bool). cond b (Some (Stalled (stall_read s))) None) f

pub end_read_in : (version : Version) (entries : List Entry) (stalls : List StallLine) → line_in version entries stalls (codes "end" ∷ decimal (length entries) ∷ []) ≡ Some Ended
unfolding line_in
end_read_in version entries stalls = ap (λ (b : Bool). cond b (Some Ended) None) (is_same (decimal (length entries)))
