-- Journals line by line: which lines they have, and that they begin in one way.
use Rattle.std.proofs.Common.{◌≡◌, ℕ, ◌+◌, ◌<◌, ◌^◌, true, false, ltb, List, [], ◌∷◌, ◌++◌, length, Some, None, refl, sym, ap, subst, ◌∙◌, append_assoc, arith}
use Rattle.std.specs.Prelude.{codes, decimal}
use Rattle.std.specs.List.{flat_map, list_all}
use Rattle.std.proofs.lemmas.Bool.{lt-ltb, and_parts}
use Rattle.std.proofs.lemmas.Fmt.{decimal_nonempty}
use Rattle.std.proofs.lemmas.List.{append-nil, length-append}
use Rattle.xti_model.specs.declared.entry.Entry.{Entry}
use Rattle.xti_model.specs.declared.script.StallLine.{StallLine}
use Rattle.xti_model.specs.declared.profile.Version.{Version}
use Rattle.xti_journal_text.specs.JournalText.{entry_text, entries_text, stall_text, end_text}
use Rattle.xti_words.specs.Texts.{words_of, is_digit}
use Rattle.xti_journal.specs.Grammar.{last_verb, IsEntry, AreEntries, IsStall, AreStallsAfter, AreStalls}
use Rattle.xti_journal.specs.Line.{IsLine}
use Rattle.xti_journal.specs.Reading.{entry_read, entry_in, stall_read, stall_in, last_worker, may_follow, Entered, Stalled, Ended, line_in}
use Rattle.xti_journal.proofs.NumberLaws.{digits_are}
use Rattle.xti_journal.proofs.ValueLaws.{some_is, none_is}
use Rattle.xti_journal.proofs.LineLaws.{entry_words, entry_full, stall_words, stall_full}
use Rattle.xti_journal.proofs.TextLines.{AreLines, ended, text_of, lines-append, are-append, one_cut, first_left, first_is, first_unended}
use Rattle.xti_journal.proofs.BodyLaws.{with_lf, Line, entry_is_line, stall_is_line, end_is_line, entry_read_in, stall_read_in, end_read_in}
use Rattle.xti_journal.proofs.OneEntry.{one_entry, one_stall}

-- ---- so many lines

pub record Ruled (text : List ℕ) (count : ℕ) : Type 0 where
  pub lines : List (List ℕ)
  pub are : AreLines lines
  pub whole : text ≡ text_of lines
  pub many : length lines ≡ count

pub ruled_none : Ruled [] 0
ruled_none = record { lines = []; are = tt; whole = refl; many = refl }

pub ruled_one : (words : List (List ℕ)) (text : List ℕ) → Line words text → Ruled text 1
ruled_one words text l = record { lines = l.line ∷ []; are = (l.is_line, tt); whole = l.whole ∙ sym (append-nil (with_lf l.line)); many = refl }

pub ruled_append : (a b : List ℕ) (m n : ℕ) → Ruled a m → Ruled b n → Ruled (a ++ b) (m + n)
ruled_append a b m n r s = record {
  lines = r.lines ++ s.lines;
  are = are-append r.lines s.lines r.are s.are;
  whole = ap (λ (x : List ℕ). x ++ b) r.whole ∙ ap (λ (x : List ℕ). text_of r.lines ++ x) s.whole ∙ sym (lines-append r.lines s.lines);
  many = omega (arith, length-append r.lines s.lines, r.many, s.many);
}

one_more : (past : List Entry) (e : Entry) → length (past ++ e ∷ []) ≡ length past + 1
one_more past e = length-append past (e ∷ [])

pub entries_ruled : (version : Version) (n : ℕ) (past es : List Entry) → n ≡ length past + 1 → n + length es < 2 ^ 64 → AreEntries version past es → Ruled (entries_text n es) (length es)
entries_ruled version n past [] p small h = ruled_none
entries_ruled version n past (e ∷ es) p small h =
    let one : Ruled (entry_text n e) 1 = ruled_one _ _ (entry_is_line version n past e (omega arith) h.0) in
    let later : Ruled (entries_text (n + 1) es) (length es) = entries_ruled version (n + 1) (past ++ e ∷ []) es (omega (arith, one_more past e)) (omega arith) h.1 in
    let both : Ruled (entry_text n e ++ entries_text (n + 1) es) (1 + length es) = ruled_append _ _ 1 (length es) one later in
    subst (Ruled (entries_text n (e ∷ es))) (omega arith) both

pub stalls_after_ruled : (version : Version) (entries : List Entry) (before : StallLine) (ss : List StallLine) → AreStallsAfter version entries before ss → Ruled (flat_map stall_text ss) (length ss)
stalls_after_ruled version entries before [] h = ruled_none
stalls_after_ruled version entries before (s ∷ ss) h =
    let one : Ruled (stall_text s) 1 = ruled_one _ _ (stall_is_line version entries s h.1) in
    let later : Ruled (flat_map stall_text ss) (length ss) = stalls_after_ruled version entries s ss h.2 in
    subst (Ruled (flat_map stall_text (s ∷ ss))) (omega arith) (ruled_append _ _ 1 (length ss) one later)

pub stalls_ruled : (version : Version) (entries : List Entry) (ss : List StallLine) → AreStalls version entries ss → Ruled (flat_map stall_text ss) (length ss)
stalls_ruled version entries [] h = ruled_none
stalls_ruled version entries (s ∷ ss) h =
    let one : Ruled (stall_text s) 1 = ruled_one _ _ (stall_is_line version entries s h.0) in
    subst (Ruled (flat_map stall_text (s ∷ ss))) (omega arith) (ruled_append _ _ 1 (length ss) one (stalls_after_ruled version entries s ss h.1))

-- ---- two texts that begin with the same line

pub record Same (words others : List (List ℕ)) (a b : List ℕ) : Type 0 where
  pub words_same : words ≡ others
  pub rest : a ≡ b

pub same_line : (words others : List (List ℕ)) (x y a b : List ℕ) → Line words x → Line others y → x ++ a ≡ y ++ b → Same words others a b
same_line words others x y a b l m e =
    let c = one_cut l.line m.line a b l.is_line m.is_line (ap (λ (t : List ℕ). t ++ a) (sym l.whole) ∙ e ∙ ap (λ (t : List ℕ). t ++ b) m.whole) in
    record { words_same = sym l.words_are ∙ ap words_of c.0 ∙ m.words_are; rest = c.1 }

word_first : (x y : List ℕ) (xs ys : List (List ℕ)) → x ∷ xs ≡ y ∷ ys → x ≡ y
word_first x y xs ys e = cc

pub words_later : (x y : List ℕ) (xs ys : List (List ℕ)) → x ∷ xs ≡ y ∷ ys → xs ≡ ys
words_later x y xs ys e = cc

not_number : (n : ℕ) (word : List ℕ) → n < 2 ^ 64 → list_all is_digit word ≡ false → decimal n ≡ word → ⊥
not_number n word small never e =
    let d : list_all is_digit word ≡ true = rw e at (digits_are n small) in
    let f : true ≡ false = sym d ∙ never in
    cc

-- it doesn't begin with the line of an entry
abbrev pub NoEntry : Version → List ℕ → Type 0
NoEntry version text = (n : ℕ) (past : List Entry) (e : Entry) (left : List ℕ) → n < 2 ^ 64 → IsEntry version past e → entry_text n e ++ left ≡ text → ⊥

stall_no_entry : (version : Version) (entries : List Entry) (s : StallLine) (rest : List ℕ) → IsStall version entries s → NoEntry version (stall_text s ++ rest)
stall_no_entry version entries s rest h n past e left small g t =
    let c = same_line _ _ _ _ left rest (entry_is_line version n past e small g) (stall_is_line version entries s h) t in
    not_number n (codes "stall") small refl (word_first _ _ _ _ c.words_same)

record FirstDigit (n : ℕ) : Type 0 where
  digit : ℕ
  others : List ℕ
  whole : decimal n ≡ digit ∷ others
  is : is_digit digit ≡ true

first_digit : (n : ℕ) → n < 2 ^ 64 → FirstDigit n
first_digit n small = by_list (decimal n) refl (digits_are n small) (decimal_nonempty n small)
  where
    by_list : (ds : List ℕ) → decimal n ≡ ds → list_all is_digit ds ≡ true → 0 < length ds → FirstDigit n
    by_list [] e d some = absurd (omega arith)
    by_list (c ∷ cs) e d some = record { digit = c; others = cs; whole = e; is = (and_parts (is_digit c) (list_all is_digit cs) d).0 }

pub end_no_entry : (version : Version) (k : ℕ) (rest : List ℕ) → NoEntry version (end_text k ++ rest)
unfolding entry_text end_text
end_no_entry version k rest n past e left small g t =
    let d = first_digit n small in
    let t' = rw d.whole at t in
    let c : d.digit ≡ 101 = cc in
    let f : is_digit 101 ≡ true = subst (λ (x : ℕ). is_digit x ≡ true) c d.is in
    let g : false ≡ true = f in
    cc

pub end_no_stall : (s : StallLine) (k : ℕ) (left rest : List ℕ) → stall_text s ++ left ≡ end_text k ++ rest → ⊥
unfolding stall_text end_text
end_no_stall s k left rest t = let w : ◌≡◌ {A = ℕ} 115 101 = cc in omega (arith, w)

-- ---- entries

record TwoEntries (e f : Entry) (a b : List ℕ) : Type 0 where
  one : e ≡ f
  rest : a ≡ b

two_entries : (version : Version) (n : ℕ) (past : List Entry) (e f : Entry) (a b : List ℕ) → n < 2 ^ 64 → IsEntry version past e → IsEntry version past f → entry_text n e ++ a ≡ entry_text n f ++ b → TwoEntries e f a b
two_entries version n past e f a b small h k t =
    let c = same_line _ _ _ _ a b (entry_is_line version n past e small h) (entry_is_line version n past f small k) t in
    let w : entry_words e ≡ entry_words f = words_later _ _ _ _ c.words_same in
    let r : Some (entry_read e) ≡ Some (entry_read f) = sym (entry_full version n past e h) ∙ ap (entry_in version n (last_verb past) (decimal n)) w ∙ entry_full version n past f k in
    record { one = one_entry e f (some_is (entry_read e) (entry_read f) r); rest = c.rest }

pub record MoreEntries (version : Version) (n : ℕ) (past es others : List Entry) (a b : List ℕ) : Type 0 where
  pub more : List Entry
  pub whole : others ≡ es ++ more
  pub rest : a ≡ entries_text (n + length es) more ++ b
  pub are : AreEntries version (past ++ es) more

no_more : (version : Version) (n : ℕ) (past others : List Entry) (a b : List ℕ) → AreEntries version past others → a ≡ entries_text n others ++ b → MoreEntries version n past [] others a b
no_more version n past others a b h t =
    let z : n + 0 ≡ n = omega arith in
    record { more = others; whole = refl; rest = rw z t; are = subst (λ (p : List Entry). AreEntries version p others) (sym (append-nil past)) h }

pub begin_same : (version : Version) (n : ℕ) (past es others : List Entry) (a b : List ℕ) → n ≡ length past + 1 → n + length es < 2 ^ 64 → AreEntries version past es → AreEntries version past others → NoEntry version b → entries_text n es ++ a ≡ entries_text n others ++ b → MoreEntries version n past es others a b
begin_same version n past [] others a b p small h k never t = no_more version n past others a b k t
begin_same version n past (e ∷ es) [] a b p small h k never t = absurd (never n past e (entries_text (n + 1) es ++ a) (omega arith) h.0 (sym (append_assoc (entry_text n e) (entries_text (n + 1) es) a) ∙ t))
begin_same version n past (e ∷ es) (f ∷ others) a b p small h k never t =
    let two = two_entries version n past e f (entries_text (n + 1) es ++ a) (entries_text (n + 1) others ++ b) (omega arith) h.0 k.0
    (sym (append_assoc (entry_text n e) (entries_text (n + 1) es) a) ∙ t ∙ append_assoc (entry_text n f) (entries_text (n + 1) others) b) in
    let k' : AreEntries version (past ++ e ∷ []) others = subst (λ (x : Entry). AreEntries version (past ++ x ∷ []) others) (sym two.one) k.1 in
    let later = begin_same version (n + 1) (past ++ e ∷ []) es others a b (omega (arith, one_more past e)) (omega arith) h.1 k' never two.rest in
    let count : n + 1 + length es ≡ n + length (e ∷ es) = omega arith in
    record {
      more = later.more;
      whole = ap (λ (x : Entry). x ∷ others) (sym two.one) ∙ ap (λ (ls : List Entry). e ∷ ls) later.whole;
      rest = rw (← count) later.rest;
      are = subst (λ (ls : List Entry). AreEntries version ls later.more) (append_assoc past (e ∷ []) es) later.are;
    }

-- ---- stall lines

-- each is a stall line
abbrev pub Each : Version → List Entry → List StallLine → Type 0
Each version entries [] = Unit {0}
Each version entries (s ∷ ss) = IsStall version entries s × Each version entries ss

each_after : (version : Version) (entries : List Entry) (before : StallLine) (ss : List StallLine) → AreStallsAfter version entries before ss → Each version entries ss
each_after version entries before [] h = tt
each_after version entries before (s ∷ ss) h = (h.1, each_after version entries s ss h.2)

pub each : (version : Version) (entries : List Entry) (ss : List StallLine) → AreStalls version entries ss → Each version entries ss
each version entries [] h = tt
each version entries (s ∷ ss) h = (h.0, each_after version entries s ss h.1)

each_later : (version : Version) (entries : List Entry) (ss more : List StallLine) → Each version entries (ss ++ more) → Each version entries more
each_later version entries [] more h = h
each_later version entries (s ∷ ss) more h = each_later version entries ss more h.1

record TwoStalls (s t : StallLine) (a b : List ℕ) : Type 0 where
  one : s ≡ t
  rest : a ≡ b

two_stalls : (version : Version) (entries : List Entry) (s t : StallLine) (a b : List ℕ) → IsStall version entries s → IsStall version entries t → stall_text s ++ a ≡ stall_text t ++ b → TwoStalls s t a b
two_stalls version entries s t a b h k e =
    let c = same_line _ _ _ _ a b (stall_is_line version entries s h) (stall_is_line version entries t k) e in
    let w : stall_words s ≡ stall_words t = words_later _ _ _ _ c.words_same in
    let r : Some (stall_read s) ≡ Some (stall_read t) = sym (stall_full version entries s h) ∙ ap (stall_in version (last_verb entries)) w ∙ stall_full version entries t k in
    record { one = one_stall s t (some_is (stall_read s) (stall_read t) r); rest = c.rest }

pub record MoreStalls (ss others : List StallLine) (a b : List ℕ) : Type 0 where
  pub more : List StallLine
  pub whole : others ≡ ss ++ more
  pub rest : a ≡ flat_map stall_text more ++ b

-- it doesn't begin with a stall line after these entries
abbrev NoStall : Version → List Entry → List ℕ → Type 0
NoStall version entries text = (s : StallLine) (left : List ℕ) → IsStall version entries s → stall_text s ++ left ≡ text → ⊥

pub stalls_same : (version : Version) (entries : List Entry) (ss others : List StallLine) (a b : List ℕ) → Each version entries ss → Each version entries others → ((s : StallLine) (left : List ℕ) → IsStall version entries s → stall_text s ++ left ≡ b → ⊥) → flat_map stall_text ss ++ a ≡ flat_map stall_text others ++ b → MoreStalls ss others a b
stalls_same version entries [] others a b h k never t = record { more = others; whole = refl; rest = t }
stalls_same version entries (s ∷ ss) [] a b h k never t = absurd (never s (flat_map stall_text ss ++ a) h.0 (sym (append_assoc (stall_text s) (flat_map stall_text ss) a) ∙ t))
stalls_same version entries (s ∷ ss) (u ∷ others) a b h k never t =
    let two = two_stalls version entries s u (flat_map stall_text ss ++ a) (flat_map stall_text others ++ b) h.0 k.0
    (sym (append_assoc (stall_text s) (flat_map stall_text ss) a) ∙ t ∙ append_assoc (stall_text u) (flat_map stall_text others) b) in
    let later = stalls_same version entries ss others a b h.1 k.1 never two.rest in
    record { more = later.more; whole = ap (λ (x : StallLine). x ∷ others) (sym two.one) ∙ ap (λ (ls : List StallLine). s ∷ ls) later.whole; rest = later.rest }

-- ---- what comes after entries and stall lines

follow_after : (version : Version) (entries : List Entry) (before : StallLine) (ss : List StallLine) (s : StallLine) (more : List StallLine) → AreStallsAfter version entries before (ss ++ s ∷ more) → may_follow (last_worker (before ∷ ss)) s.worker ≡ true
follow_after version entries before [] s more h =
    let a : ltb 0 before.worker ≡ true = lt-ltb _ _ h.0.0 in
    let b : ltb before.worker s.worker ≡ true = lt-ltb _ _ h.0.1 in
    rw (a, b) refl
follow_after version entries before (t ∷ ss) s more h = follow_after version entries t ss s more h.2

pub follows : (version : Version) (entries : List Entry) (ss : List StallLine) (s : StallLine) (more : List StallLine) → AreStalls version entries (ss ++ s ∷ more) → may_follow (last_worker ss) s.worker ≡ true
follows version entries [] s more h = refl
follows version entries (t ∷ ss) s more h = follow_after version entries t ss s more h.1

pub data NextOf (version : Version) (entries : List Entry) (ss : List StallLine) (rest : List ℕ) : Type 0 where
  AnEntry : (e : Entry) (left : List ℕ) → ss ≡ [] → IsEntry version entries e → rest ≡ entry_text (length entries + 1) e ++ left → NextOf version entries ss rest
  AStall : (s : StallLine) (left : List ℕ) → IsStall version entries s → may_follow (last_worker ss) s.worker ≡ true → rest ≡ stall_text s ++ left → NextOf version entries ss rest
  TheEnd : rest ≡ end_text (length entries) → NextOf version entries ss rest

pub tail_no_entry : (version : Version) (entries : List Entry) (ss : List StallLine) (k : ℕ) → Each version entries ss → NoEntry version (flat_map stall_text ss ++ end_text k)
tail_no_entry version entries [] k h = λ n past e left small g t. end_no_entry version k [] n past e left small g (t ∙ sym (append-nil (end_text k)))
tail_no_entry version entries (s ∷ ss) k h = λ n past e left small g t. stall_no_entry version entries s (flat_map stall_text ss ++ end_text k) h.0 n past e left small g (t ∙ append_assoc (stall_text s) (flat_map stall_text ss) (end_text k))

-- a journal's lines after these are the next one, and others
pub next_of : (version : Version) (es others : List Entry) (ss stalls : List StallLine) (rest : List ℕ) → length es + 2 < 2 ^ 64 → AreEntries version [] es → AreStalls version es ss → AreEntries version [] others → AreStalls version others stalls
    → entries_text 1 es ++ (flat_map stall_text ss ++ rest) ≡ entries_text 1 others ++ (flat_map stall_text stalls ++ end_text (length others)) → NextOf version es ss rest
next_of version es others ss stalls rest small h k g m t =
    let never : NoEntry version (flat_map stall_text stalls ++ end_text (length others)) = tail_no_entry version others stalls (length others) (each version others stalls m) in
    let b = begin_same version 1 [] es others (flat_map stall_text ss ++ rest) (flat_map stall_text stalls ++ end_text (length others)) refl (omega arith) h g never t in
    by_entries b.more b.whole b.rest b.are
  where
    first_entry : (ss : List StallLine) (e : Entry) (left : List ℕ) → AreStalls version es ss → IsEntry version es e → flat_map stall_text ss ++ rest ≡ entry_text (1 + length es) e ++ left → NextOf version es ss rest
    first_entry [] e left k i r =
        let count : 1 + length es ≡ length es + 1 = omega arith in
        AnEntry e left refl i (rw (← count) r)
    first_entry (s ∷ ss) e left k i r = absurd (stall_no_entry version es s (flat_map stall_text ss ++ rest) k.0 (1 + length es) es e left (omega arith) i (sym r ∙ append_assoc (stall_text s) (flat_map stall_text ss) rest))

    by_stalls : (more : List StallLine) → others ≡ es → stalls ≡ ss ++ more → rest ≡ flat_map stall_text more ++ end_text (length others) → NextOf version es ss rest
    by_stalls [] o w r = TheEnd (r ∙ ap (λ (l : List Entry). end_text (length l)) o)
    by_stalls (s ∷ more) o w r =
        let m' : AreStalls version es (ss ++ s ∷ more) = subst (λ (l : List Entry). AreStalls version l (ss ++ s ∷ more)) o (subst (AreStalls version others) w m) in
        let i : IsStall version es s = (each_later version es ss (s ∷ more) (each version es (ss ++ s ∷ more) m')).0 in
        AStall s (flat_map stall_text more ++ end_text (length others)) i (follows version es ss s more m') (r ∙ append_assoc (stall_text s) (flat_map stall_text more) (end_text (length others)))

    by_entries : (more : List Entry) → others ≡ es ++ more → flat_map stall_text ss ++ rest ≡ entries_text (1 + length es) more ++ (flat_map stall_text stalls ++ end_text (length others)) → AreEntries version ([] ++ es) more → NextOf version es ss rest
    by_entries [] w r a =
        let o : others ≡ es = w ∙ append-nil es in
        let ms : Each version es stalls = subst (λ (l : List Entry). Each version l stalls) o (each version others stalls m) in
        let s = stalls_same version es ss stalls rest (end_text (length others)) (each version es ss k) ms (λ s left i t. end_no_stall s (length others) left [] (t ∙ sym (append-nil (end_text (length others))))) r in
        by_stalls s.more o s.whole s.rest
    by_entries (e ∷ more) w r a = first_entry ss e (entries_text (1 + length es + 1) more ++ (flat_map stall_text stalls ++ end_text (length others))) k a.0 (r ∙ append_assoc (entry_text (1 + length es) e) (entries_text (1 + length es + 1) more) (flat_map stall_text stalls ++ end_text (length others)))

-- ---- a next line that can't be

with_lf_is : (l m : List ℕ) → IsLine l → IsLine m → Some (ended l) ≡ Some (ended m) → l ≡ m
with_lf_is l m h k e = (one_cut l m [] [] h k (append-nil (ended l) ∙ some_is (ended l) (ended m) e ∙ sym (append-nil (ended m)))).0

same_words : (words : List (List ℕ)) (text rest left line : List ℕ) → Line words text → rest ≡ text ++ left → IsLine line → first_left rest ≡ Some (ended line) → words_of line ≡ words
same_words words text rest left line l e h f =
    let g : first_left rest ≡ Some (ended l.line) = ap first_left (e ∙ ap (λ (x : List ℕ). x ++ left) l.whole) ∙ first_is l.line left l.is_line in
    ap words_of (with_lf_is line l.line h l.is_line (sym f ∙ g)) ∙ l.words_are

pub none_next : (version : Version) (entries : List Entry) (ss : List StallLine) (rest line : List ℕ) → length entries + 2 < 2 ^ 64 → line_in version entries ss (words_of line) ≡ None → IsLine line → first_left rest ≡ Some (ended line) → NextOf version entries ss rest → ⊥
none_next version entries ss rest line small never h f (AnEntry e left first i w) =
    let s = same_words _ _ rest left line (entry_is_line version (length entries + 1) entries e (omega arith) i) w h f in
    let r : line_in version entries ss (words_of line) ≡ Some (Entered (entry_read e)) = ap (λ (l : List StallLine). line_in version entries l (words_of line)) first ∙ ap (line_in version entries []) s ∙ entry_read_in version entries e (omega arith) i in
    none_is (Entered (entry_read e)) (sym never ∙ r)
none_next version entries ss rest line small never h f (AStall s left i may w) =
    let q = same_words _ _ rest left line (stall_is_line version entries s i) w h f in
    none_is (Stalled (stall_read s)) (sym never ∙ ap (line_in version entries ss) q ∙ stall_read_in version entries ss s i may)
none_next version entries ss rest line small never h f (TheEnd w) =
    let q = same_words _ _ rest [] line (end_is_line (length entries) (omega arith)) (w ∙ sym (append-nil (end_text (length entries)))) h f in
    none_is Ended (sym never ∙ ap (line_in version entries ss) q ∙ end_read_in version entries ss)

pub none_unended : (version : Version) (entries : List Entry) (ss : List StallLine) (rest line : List ℕ) → length entries + 2 < 2 ^ 64 → IsLine line → first_left rest ≡ first_left line → NextOf version entries ss rest → ⊥
none_unended version entries ss rest line small h f (AnEntry e left first i w) =
    let l = entry_is_line version (length entries + 1) entries e (omega arith) i in
    first_unended line h l.line (sym f ∙ ap first_left (w ∙ ap (λ (x : List ℕ). x ++ left) l.whole) ∙ first_is l.line left l.is_line)
none_unended version entries ss rest line small h f (AStall s left i may w) =
    let l = stall_is_line version entries s i in
    first_unended line h l.line (sym f ∙ ap first_left (w ∙ ap (λ (x : List ℕ). x ++ left) l.whole) ∙ first_is l.line left l.is_line)
none_unended version entries ss rest line small h f (TheEnd w) =
    let l = end_is_line (length entries) (omega arith) in
    first_unended line h l.line (sym f ∙ ap first_left (w ∙ l.whole ∙ sym (append-nil (with_lf l.line))) ∙ first_is l.line [] l.is_line)
