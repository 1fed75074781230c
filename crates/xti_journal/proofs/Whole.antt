-- Whole journals: what is read is one, and a line that is refused is the first by which never_so journal goes on.
use Rattle.std.proofs.Common.{◌≡◌, ℕ, suc, ◌+◌, ◌<◌, ◌≤◌, ◌^◌, Bool, true, false, cond, eqb, ltb, List, [], ◌∷◌, ◌++◌, length, take, Option, Some, None, inl, inr, Result, Ok, Err, refl, sym, ap, subst, ◌∙◌, append_assoc, arith}
use Rattle.std.specs.Prelude.{decimal, ◌==◌}
use Rattle.std.specs.List.{flat_map, onto_first, join_with_byte}
use Rattle.std.proofs.lemmas.Bool.{and_parts, ltb-true, eqb-true}
use Rattle.std.proofs.lemmas.List.{append-nil, length-append, nil_from_length}
use Rattle.xti_model.specs.declared.entry.Entry.{Entry}
use Rattle.xti_model.specs.declared.profile.Profile.{Profile}
use Rattle.xti_model.specs.declared.profile.Providers.{Providers}
use Rattle.xti_model.specs.declared.script.Journal.{Journal}
use Rattle.xti_model.specs.declared.script.StallLine.{StallLine}
use Rattle.xti_model.specs.declared.profile.Version.{Version}
use Rattle.xti_model.specs.Profile.{usual, usual_of}
use Rattle.xti_journal_text.specs.JournalText.{first_line, provider_text, head_text, entry_text, entries_text, stall_text, end_text, journal_text}
use Rattle.xti_words.specs.Texts.{words_of}
use Rattle.xti_journal.specs.Grammar.{IsEntry, AreEntries, IsStall, AreStallsAfter, AreStalls, HasText, IsJournal}
use Rattle.xti_words.specs.declared.noted.FieldFail.{FieldFail}
use Rattle.xti_words.specs.declared.noted.FieldFail.TheVariants as field
use Rattle.xti_journal.specs.declared.journal_text.JournalFail.{JournalFail}
use Rattle.xti_journal.specs.declared.journal_text.JournalFail.TheVariants as journal
use Rattle.xti_journal.specs.Head.{is_in_head, valid_head, fail_at, ReadsFirst, ReadsProvider, ReadsHead}
use Rattle.xti_journal.specs.Read.{ReadsText, IsReadAs, ReadsNext}
use Rattle.xti_journal.specs.Line.{IsLine}
use Rattle.xti_journal.specs.Refused.{lines_of, ended_lines, IsRefusedAt}
use Rattle.xti_base.specs.declared.kinds.Prov.TheVariants.{Ticots, Ticotsord, Ticlts}
use Rattle.xti_base.specs.declared.limits.TheConstants.{LAST_WORKER}
use Rattle.xti_journal.specs.Reading.{last_worker, may_follow, LineRead, line_in, entry_read, stall_read, Entered, Stalled, Ended}
use Rattle.xti_journal.proofs.TextLines.{ended, text_of, same_first, first_of, first_left, goes_on, cut, first_is}
use Rattle.xti_journal.proofs.LineLaws.{entry_words, entry_text_is}
use Rattle.xti_journal.proofs.BodyLaws.{with_lf, Line, end_is_line, entry_line, stall_line, end_line}
use Rattle.xti_journal.proofs.Ruled.{Ruled, ruled_append, entries_ruled, stalls_ruled, begin_same, Each, each, stalls_same, NextOf, AnEntry, AStall, TheEnd, next_of, end_no_entry, ruled_one, ruled_none, none_next, none_unended, tail_no_entry, end_no_stall}
use Rattle.xti_journal.proofs.HeadLaws.{valid_is, is_valid, usual_valid, head_within, head_told, in_head, head_ruled, two_heads, two_profiles, head_parts, first_same, first_ruled, first_is_line, provider_ruled, head_fits, provider_is_line}

-- ---- what is read so far

pub record SoFar (version : Version) (es : List Entry) (ss : List StallLine) (text rest : List ℕ) : Type 0 where
  pub entries : AreEntries version [] es
  pub stalls : AreStalls version es ss
  pub front : text ≡ entries_text 1 es ++ (flat_map stall_text ss ++ rest)

pub so_far_none : (version : Version) (text : List ℕ) → SoFar version [] [] text text
so_far_none version text = record { entries = tt; stalls = tt; front = refl }

entries_more : (version : Version) (past es : List Entry) (e : Entry) → AreEntries version past es → IsEntry version (past ++ es) e → AreEntries version past (es ++ e ∷ [])
entries_more version past [] e h k = (subst (λ (l : List Entry). IsEntry version l e) (append-nil past) k, tt)
entries_more version past (x ∷ es) e h k = (h.0, entries_more version (past ++ x ∷ []) es e h.1 (subst (λ (l : List Entry). IsEntry version l e) (sym (append_assoc past (x ∷ []) es)) k))

entries_text_more : (n : ℕ) (es : List Entry) (e : Entry) (rest : List ℕ) → entries_text n (es ++ e ∷ []) ++ rest ≡ entries_text n es ++ (entry_text (n + length es) e ++ rest)
entries_text_more n [] e rest =
    let z : n + 0 ≡ n = omega arith in
    rw z (ap (λ (l : List ℕ). l ++ rest) (append-nil (entry_text n e)))
entries_text_more n (x ∷ es) e rest =
    let count : n + 1 + length es ≡ n + length (x ∷ es) = omega arith in
    append_assoc (entry_text n x) (entries_text (n + 1) (es ++ e ∷ [])) rest
    ∙ ap (λ (l : List ℕ). entry_text n x ++ l) (entries_text_more (n + 1) es e rest ∙ ap (λ (m : ℕ). entries_text (n + 1) es ++ (entry_text m e ++ rest)) count)
    ∙ sym (append_assoc (entry_text n x) (entries_text (n + 1) es) (entry_text (n + length (x ∷ es)) e ++ rest))

pub so_far_entry : (version : Version) (es : List Entry) (ss : List StallLine) (text rest behind line : List ℕ) (e : Entry) → SoFar version es ss text rest → rest ≡ ended line ++ behind → ss ≡ [] → IsEntry version es e → with_lf line ≡ entry_text (length es + 1) e → SoFar version (es ++ e ∷ []) ss text behind
so_far_entry version es ss text rest behind line e s cut none h w =
    let count : 1 + length es ≡ length es + 1 = omega arith in
    let here : rest ≡ entry_text (1 + length es) e ++ behind = cut ∙ ap (λ (l : List ℕ). l ++ behind) w ∙ ap (λ (m : ℕ). entry_text m e ++ behind) (sym count) in
    let f : text ≡ entries_text 1 es ++ rest = s.front ∙ ap (λ (l : List StallLine). entries_text 1 es ++ (flat_map stall_text l ++ rest)) none in
    record {
      entries = entries_more version [] es e s.entries h;
      stalls = subst (AreStalls version (es ++ e ∷ [])) (sym none) tt;
      front = f ∙ ap (λ (l : List ℕ). entries_text 1 es ++ l) here ∙ sym (entries_text_more 1 es e behind) ∙ ap (λ (l : List StallLine). entries_text 1 (es ++ e ∷ []) ++ (flat_map stall_text l ++ behind)) (sym none);
    }

follow_parts : (before worker : ℕ) → may_follow (Some before) worker ≡ true → (0 < before) × (before < worker)
follow_parts before worker h = let p = and_parts (ltb 0 before) (ltb before worker) h in (ltb-true _ _ p.0, ltb-true _ _ p.1)

after_more : (version : Version) (es : List Entry) (before : StallLine) (ss : List StallLine) (s : StallLine) → AreStallsAfter version es before ss → may_follow (last_worker (before ∷ ss)) s.worker ≡ true → IsStall version es s → AreStallsAfter version es before (ss ++ s ∷ [])
after_more version es before [] s h f i = (follow_parts before.worker s.worker f, i, tt)
after_more version es before (t ∷ ss) s h f i = (h.0, h.1, after_more version es t ss s h.2 f i)

stalls_more : (version : Version) (es : List Entry) (ss : List StallLine) (s : StallLine) → AreStalls version es ss → may_follow (last_worker ss) s.worker ≡ true → IsStall version es s → AreStalls version es (ss ++ s ∷ [])
stalls_more version es [] s h f i = (i, tt)
stalls_more version es (t ∷ ss) s h f i = (h.0, after_more version es t ss s h.1 f i)

stalls_text_more : (ss : List StallLine) (s : StallLine) (rest : List ℕ) → flat_map stall_text (ss ++ s ∷ []) ++ rest ≡ flat_map stall_text ss ++ (stall_text s ++ rest)
stalls_text_more [] s rest = ap (λ (l : List ℕ). l ++ rest) (append-nil (stall_text s))
stalls_text_more (t ∷ ss) s rest =
    append_assoc (stall_text t) (flat_map stall_text (ss ++ s ∷ [])) rest
    ∙ ap (λ (l : List ℕ). stall_text t ++ l) (stalls_text_more ss s rest)
    ∙ sym (append_assoc (stall_text t) (flat_map stall_text ss) (stall_text s ++ rest))

pub so_far_stall : (version : Version) (es : List Entry) (ss : List StallLine) (text rest behind line : List ℕ) (s : StallLine) → SoFar version es ss text rest → rest ≡ ended line ++ behind → IsStall version es s → may_follow (last_worker ss) s.worker ≡ true → with_lf line ≡ stall_text s → SoFar version es (ss ++ s ∷ []) text behind
so_far_stall version es ss text rest behind line s f cut i may w = record {
  entries = f.entries;
  stalls = stalls_more version es ss s f.stalls may i;
  front = f.front ∙ ap (λ (l : List ℕ). entries_text 1 es ++ (flat_map stall_text ss ++ l)) (cut ∙ ap (λ (l : List ℕ). l ++ behind) w) ∙ ap (λ (l : List ℕ). entries_text 1 es ++ l) (sym (stalls_text_more ss s behind));
}

-- ---- the journal that is read

abbrev pub journal_of : Providers → List Entry → List StallLine → Journal
journal_of p es ss = record { providers = p; entries = es; stalls = ss }

-- the parts of a journal's text, in order
journal_parts : (j : Journal) → journal_text j ≡ head_text j.providers ++ (entries_text 1 j.entries ++ (flat_map stall_text j.stalls ++ end_text (length j.entries)))
journal_parts j = simp append_assoc refl

-- the head, the entries and the stall lines
abbrev front_text : Providers → List Entry → List StallLine → List ℕ
front_text p es ss = head_text p ++ (entries_text 1 es ++ flat_map stall_text ss)

front_then : (p : Providers) (es : List Entry) (ss : List StallLine) (rest : List ℕ) → head_text p ++ (entries_text 1 es ++ (flat_map stall_text ss ++ rest)) ≡ front_text p es ss ++ rest
front_then p es ss rest = simp append_assoc refl

has_text : (p : Providers) (es : List Entry) (ss : List StallLine) (text rest : List ℕ) → valid_head p ≡ true → SoFar p.version es ss text rest → HasText (journal_of p es ss)
has_text p es ss text rest v s = record { providers = head_within p v; releases = head_told p v; entries = s.entries; stalls = s.stalls }

pub body_ends : (p : Providers) (es : List Entry) (ss : List StallLine) (text rest behind line : List ℕ) → valid_head p ≡ true → SoFar p.version es ss text rest → rest ≡ ended line ++ behind → behind ≡ [] → with_lf line ≡ end_text (length es) → IsJournal (journal_of p es ss) (head_text p ++ text)
body_ends p es ss text rest behind line v s cut none w = record {
  has_text = has_text p es ss text rest v s;
  written = ap (λ (l : List ℕ). head_text p ++ l) (s.front ∙ ap (λ (l : List ℕ). entries_text 1 es ++ (flat_map stall_text ss ++ l)) (cut ∙ ap (λ (l : List ℕ). ended line ++ l) none ∙ append-nil (ended line) ∙ w)) ∙ sym (journal_parts (journal_of p es ss));
}

front_ruled : (p : Providers) (es : List Entry) (ss : List StallLine) (text rest : List ℕ) → valid_head p ≡ true → SoFar p.version es ss text rest → length es + 2 < 2 ^ 64 → Ruled (front_text p es ss) (4 + (length es + length ss))
front_ruled p es ss text rest v s small =
    ruled_append (head_text p) (entries_text 1 es ++ flat_map stall_text ss) 4 (length es + length ss) (head_ruled p (valid_is p v))
    (ruled_append (entries_text 1 es) (flat_map stall_text ss) (length es) (length ss) (entries_ruled p.version 1 [] es refl (omega arith) s.entries) (stalls_ruled p.version es ss s.stalls))

-- a text that begins with these lines, and a journal that has them and the next one
later_of : (p : Providers) (es : List Entry) (ss : List StallLine) (text rest other : List ℕ) (j : Journal) (r : Ruled (front_text p es ss) (4 + (length es + length ss))) (rest' : List ℕ) → valid_head p ≡ true → SoFar p.version es ss text rest → length es + 2 < 2 ^ 64 → IsJournal j other
    → other ≡ text_of r.lines ++ rest' → NextOf p.version es ss rest'
later_of p es ss text rest other j r rest' v s small h w =
    let t : head_text p ++ (entries_text 1 es ++ (flat_map stall_text ss ++ rest')) ≡ head_text j.providers ++ (entries_text 1 j.entries ++ (flat_map stall_text j.stalls ++ end_text (length j.entries))) =
    front_then p es ss rest' ∙ ap (λ (l : List ℕ). l ++ rest') r.whole ∙ sym w ∙ h.written ∙ journal_parts j in
    let two = two_heads p j.providers _ _ (valid_is p v) (valid_is j.providers (in_head j.providers h.has_text.providers h.has_text.releases)) t in
    let entries : AreEntries p.version [] j.entries = subst (λ (x : Providers). AreEntries x.version [] j.entries) (sym two.one) h.has_text.entries in
    let stalls : AreStalls p.version j.entries j.stalls = subst (λ (x : Providers). AreStalls x.version j.entries j.stalls) (sym two.one) h.has_text.stalls in
    next_of p.version es j.entries ss j.stalls rest' small s.entries s.stalls entries stalls two.rest

-- what comes in every journal after these lines tells where it is refused
refused_by : (p : Providers) (es : List Entry) (ss : List StallLine) (text rest : List ℕ) (n : ℕ) → valid_head p ≡ true → SoFar p.version es ss text rest → length es + 2 < 2 ^ 64 → n ≡ 5 + (length es + length ss)
    → ((rest' : List ℕ) → first_left rest' ≡ first_left rest → NextOf p.version es ss rest' → ⊥) → IsRefusedAt (head_text p ++ text) n
refused_by p es ss text rest n v s small place never =
    let r = front_ruled p es ss text rest v s small in
    let whole : head_text p ++ text ≡ text_of r.lines ++ rest = ap (λ (l : List ℕ). head_text p ++ l) s.front ∙ front_then p es ss rest ∙ ap (λ (l : List ℕ). l ++ rest) r.whole in
    let count : n ≡ suc (length r.lines) = omega (arith, r.many) in
    record {
      refused = λ can.
          (let e : take (suc (length r.lines)) (ended_lines can.other) ≡ take (suc (length r.lines)) (ended_lines (text_of r.lines ++ rest)) =
          ap (λ (m : ℕ). take m (ended_lines can.other)) (sym count) ∙ can.same ∙ ap (λ (m : ℕ). take m (ended_lines (head_text p ++ text))) count ∙ ap (λ (l : List ℕ). take (suc (length r.lines)) (ended_lines l)) whole in
          let g = goes_on can.other r.lines rest r.are e in
          never g.rest g.first (later_of p es ss text rest can.other can.journal r g.rest v s small can.is_journal g.whole));
      least = λ m lt. record {
        journal = journal_of p es ss;
        other = journal_text (journal_of p es ss);
        is_journal = record { has_text = has_text p es ss text rest v s; written = refl };
        same =
            (let w : journal_text (journal_of p es ss) ≡ text_of r.lines ++ end_text (length es) = journal_parts (journal_of p es ss) ∙ front_then p es ss (end_text (length es)) ∙ ap (λ (l : List ℕ). l ++ end_text (length es)) r.whole in
            ap (λ (l : List ℕ). take m (ended_lines l)) w ∙ same_first r.lines (end_text (length es)) rest m r.are (omega (arith, count)) ∙ ap (λ (l : List ℕ). take m (ended_lines l)) (sym whole));
      };
    }

pub body_refused : (p : Providers) (es : List Entry) (ss : List StallLine) (text rest behind line : List ℕ) (n : ℕ) → valid_head p ≡ true → SoFar p.version es ss text rest → length es + 2 < 2 ^ 64 → n ≡ 5 + (length es + length ss) → IsLine line → rest ≡ ended line ++ behind → line_in p.version es ss (words_of line) ≡ None → IsRefusedAt (head_text p ++ text) n
body_refused p es ss text rest behind line n v s small place h cut never_so =
    refused_by p es ss text rest n v s small place (λ rest' f next. none_next p.version es ss rest' line small never_so h (f ∙ ap first_left cut ∙ first_is line behind h) next)

pub body_unended : (p : Providers) (es : List Entry) (ss : List StallLine) (text rest : List ℕ) (n : ℕ) → valid_head p ≡ true → SoFar p.version es ss text rest → length es + 2 < 2 ^ 64 → n ≡ 5 + (length es + length ss) → IsLine rest → IsRefusedAt (head_text p ++ text) n
body_unended p es ss text rest n v s small place h =
    refused_by p es ss text rest n v s small place (λ rest' f next. none_unended p.version es ss rest' rest small h f next)

-- ---- a line after the last one

end_only : (version : Version) (es : List Entry) (ss : List StallLine) (k : ℕ) (rest : List ℕ) → length es + 2 < 2 ^ 64 → NextOf version es ss (end_text k ++ rest) → end_text k ++ rest ≡ end_text (length es)
end_only version es ss k rest small (AnEntry e left first i w) = absurd (end_no_entry version k rest (length es + 1) es e left (omega arith) i (sym w))
end_only version es ss k rest small (AStall s left i may w) = absurd (end_no_stall s k left rest (sym w))
end_only version es ss k rest small (TheEnd w) = w

nothing_more : (a rest : List ℕ) → a ++ rest ≡ a → rest ≡ []
nothing_more a [] e = refl
nothing_more a (c ∷ cs) e =
    let l : length (a ++ c ∷ cs) ≡ length a = ap length e in
    let m : length (a ++ c ∷ cs) ≡ length a + length (c ∷ cs) = length-append a (c ∷ cs) in
    absurd (omega arith)

some_first : (c : ℕ) (cs : List ℕ) → first_left (c ∷ cs) ≡ None → ⊥
some_first c cs e = go (eqb c 10) (lines_of cs) e
  where
    go : (b : Bool) (ls : List (List ℕ)) → first_of (cond b ((c ∷ []) ∷ ls) (onto_first c ls)) ≡ None → ⊥
    go true ls e = cc
    go false [] e = cc
    go false (l ∷ ls) e = cc

pub body_extra : (p : Providers) (es : List Entry) (ss : List StallLine) (text rest behind line : List ℕ) (n : ℕ) → valid_head p ≡ true → SoFar p.version es ss text rest → length es + 2 < 2 ^ 64 → n ≡ 5 + (length es + length ss) → rest ≡ ended line ++ behind → (behind ≡ [] → ⊥) → with_lf line ≡ end_text (length es) → IsRefusedAt (head_text p ++ text) (n + 1)
body_extra p es ss text rest behind line n v s small place cut more w =
    let r = front_ruled p es ss text rest v s small in
    let last : Ruled (end_text (length es)) 1 = ruled_one _ _ (end_is_line (length es) (omega arith)) in
    let q : Ruled (front_text p es ss ++ end_text (length es)) (4 + (length es + length ss) + 1) = ruled_append (front_text p es ss) (end_text (length es)) (4 + (length es + length ss)) 1 r last in
    let here : rest ≡ end_text (length es) ++ behind = cut ∙ ap (λ (l : List ℕ). l ++ behind) w in
    let whole : head_text p ++ text ≡ text_of q.lines ++ behind =
    ap (λ (l : List ℕ). head_text p ++ l) s.front ∙ front_then p es ss rest ∙ ap (λ (l : List ℕ). front_text p es ss ++ l) here ∙ sym (append_assoc (front_text p es ss) (end_text (length es)) behind) ∙ ap (λ (l : List ℕ). l ++ behind) q.whole in
    let count : n + 1 ≡ suc (length q.lines) = omega (arith, q.many) in
    record {
      refused = λ can.
          (let e : take (suc (length q.lines)) (ended_lines can.other) ≡ take (suc (length q.lines)) (ended_lines (text_of q.lines ++ behind)) =
          ap (λ (m : ℕ). take m (ended_lines can.other)) (sym count) ∙ can.same ∙ ap (λ (m : ℕ). take m (ended_lines (head_text p ++ text))) count ∙ ap (λ (l : List ℕ). take (suc (length q.lines)) (ended_lines l)) whole in
          let g = goes_on can.other q.lines behind q.are e in
          let o : can.other ≡ text_of r.lines ++ (end_text (length es) ++ g.rest) =
          g.whole ∙ ap (λ (l : List ℕ). l ++ g.rest) (sym q.whole) ∙ append_assoc (front_text p es ss) (end_text (length es)) g.rest ∙ ap (λ (l : List ℕ). l ++ (end_text (length es) ++ g.rest)) r.whole in
          let next = later_of p es ss text rest can.other can.journal r (end_text (length es) ++ g.rest) v s small can.is_journal o in
          let none : g.rest ≡ [] = nothing_more (end_text (length es)) g.rest (end_only p.version es ss (length es) g.rest small next) in
          no_first behind more (sym g.first ∙ ap first_left none));
      least = λ m lt. record {
        journal = journal_of p es ss;
        other = journal_text (journal_of p es ss);
        is_journal = record { has_text = has_text p es ss text rest v s; written = refl };
        same =
            (let j : journal_text (journal_of p es ss) ≡ text_of q.lines ++ [] = journal_parts (journal_of p es ss) ∙ front_then p es ss (end_text (length es)) ∙ q.whole ∙ sym (append-nil (text_of q.lines)) in
            ap (λ (l : List ℕ). take m (ended_lines l)) j ∙ same_first q.lines [] behind m q.are (omega (arith, count)) ∙ ap (λ (l : List ℕ). take m (ended_lines l)) (sym whole));
      };
    }
  where
    no_first : (behind : List ℕ) → (behind ≡ [] → ⊥) → first_left behind ≡ None → ⊥
    no_first [] more e = more refl
    no_first (c ∷ cs) more e = some_first c cs e

-- ---- one journal

pub one_journal : (text : List ℕ) (j k : Journal) → length j.entries + 2 < 2 ^ 64 → IsJournal j text → IsJournal k text → j ≡ k
one_journal text j k small h g =
    let t : head_text j.providers ++ (entries_text 1 j.entries ++ (flat_map stall_text j.stalls ++ end_text (length j.entries))) ≡ head_text k.providers ++ (entries_text 1 k.entries ++ (flat_map stall_text k.stalls ++ end_text (length k.entries))) = sym (journal_parts j) ∙ sym h.written ∙ g.written ∙ journal_parts k in
    let two = two_heads j.providers k.providers _ _ (valid_is j.providers (in_head j.providers h.has_text.providers h.has_text.releases)) (valid_is k.providers (in_head k.providers g.has_text.providers g.has_text.releases)) t in
    let stalls = stalls_of two.one in
    let never_so = tail_no_entry j.providers.version k.entries k.stalls (length k.entries) (each j.providers.version k.entries k.stalls stalls) in
    let b = begin_same j.providers.version 1 [] j.entries k.entries (flat_map stall_text j.stalls ++ end_text (length j.entries)) (flat_map stall_text k.stalls ++ end_text (length k.entries)) refl (omega arith) h.has_text.entries (subst (λ (x : Providers). AreEntries x.version [] k.entries) (sym two.one) g.has_text.entries) never_so two.rest in
    by_entries two.one b.more b.whole b.rest b.are
  where
    stalls_of : j.providers ≡ k.providers → AreStalls j.providers.version k.entries k.stalls
    stalls_of p = subst (λ (x : Providers). AreStalls x.version k.entries k.stalls) (sym p) g.has_text.stalls

    same : j.providers ≡ k.providers → j.entries ≡ k.entries → j.stalls ≡ k.stalls → j ≡ k
    same p e s =
        ap (λ (x : Providers). record { providers = x; entries = j.entries; stalls = j.stalls }) p
        ∙ ap (λ (x : List Entry). record { providers = k.providers; entries = x; stalls = j.stalls }) e
        ∙ ap (λ (x : List StallLine). record { providers = k.providers; entries = k.entries; stalls = x }) s

    by_stalls : j.providers ≡ k.providers → k.entries ≡ j.entries → (more : List StallLine) → k.stalls ≡ j.stalls ++ more → end_text (length j.entries) ≡ flat_map stall_text more ++ end_text (length k.entries) → j ≡ k
    by_stalls p e [] w r = same p (sym e) (sym (append-nil j.stalls) ∙ sym w)
    by_stalls p e (s ∷ more) w r =
        absurd (end_no_stall s (length j.entries) (flat_map stall_text more ++ end_text (length k.entries)) [] (sym (append_assoc (stall_text s) (flat_map stall_text more) (end_text (length k.entries))) ∙ sym r ∙ sym (append-nil (end_text (length j.entries)))))

    by_entries : j.providers ≡ k.providers → (more : List Entry) → k.entries ≡ j.entries ++ more → flat_map stall_text j.stalls ++ end_text (length j.entries) ≡ entries_text (1 + length j.entries) more ++ (flat_map stall_text k.stalls ++ end_text (length k.entries)) → AreEntries j.providers.version ([] ++ j.entries) more → j ≡ k
    by_entries p [] w r a =
        let e : k.entries ≡ j.entries = w ∙ append-nil j.entries in
        let g' : Each j.providers.version j.entries k.stalls = subst (λ (l : List Entry). Each j.providers.version l k.stalls) e (each j.providers.version k.entries k.stalls (stalls_of p)) in
        let s = stalls_same j.providers.version j.entries j.stalls k.stalls (end_text (length j.entries)) (end_text (length k.entries)) (each j.providers.version j.entries j.stalls h.has_text.stalls) g' (λ s left i t. end_no_stall s (length k.entries) left [] (t ∙ sym (append-nil (end_text (length k.entries))))) r in
        by_stalls p e s.more s.whole s.rest
    by_entries p (e ∷ more) w r a =
        absurd (tail_no_entry j.providers.version j.entries j.stalls (length j.entries) (each j.providers.version j.entries j.stalls h.has_text.stalls) (1 + length j.entries) j.entries e (entries_text (1 + length j.entries + 1) more ++ (flat_map stall_text k.stalls ++ end_text (length k.entries))) (omega arith) a.0
        (sym (append_assoc (entry_text (1 + length j.entries) e) (entries_text (1 + length j.entries + 1) more) (flat_map stall_text k.stalls ++ end_text (length k.entries))) ∙ sym r))

-- ---- the head

-- a journal with these providers and never_so entries
abbrev empty_text : Providers → List ℕ
empty_text p = journal_text (journal_of p [] [])

empty_is : (p : Providers) → valid_head p ≡ true → IsJournal (journal_of p [] []) (empty_text p)
empty_is p v = record { has_text = record { providers = head_within p v; releases = head_told p v; entries = tt; stalls = tt }; written = refl }

-- a text that begins with the first lines of a journal, and with none that a journal has after them
head_refused : (front rest text : List ℕ) (k n : ℕ) (p : Providers) (back : List ℕ) → Ruled front k → text ≡ front ++ rest → n ≡ k + 1 → valid_head p ≡ true → empty_text p ≡ front ++ back
    → ((rest' : List ℕ) → first_left rest' ≡ first_left rest → (j : Journal) → HasText j → journal_text j ≡ front ++ rest' → ⊥) → IsRefusedAt text n
head_refused front rest text k n p back r w place v b never =
    let whole : text ≡ text_of r.lines ++ rest = w ∙ ap (λ (l : List ℕ). l ++ rest) r.whole in
    let count : n ≡ suc (length r.lines) = omega (arith, r.many) in
    record {
      refused = λ can.
          (let e : take (suc (length r.lines)) (ended_lines can.other) ≡ take (suc (length r.lines)) (ended_lines (text_of r.lines ++ rest)) =
          ap (λ (m : ℕ). take m (ended_lines can.other)) (sym count) ∙ can.same ∙ ap (λ (m : ℕ). take m (ended_lines text)) count ∙ ap (λ (l : List ℕ). take (suc (length r.lines)) (ended_lines l)) whole in
          let g = goes_on can.other r.lines rest r.are e in
          never g.rest g.first can.journal can.is_journal.has_text (sym can.is_journal.written ∙ g.whole ∙ ap (λ (l : List ℕ). l ++ g.rest) (sym r.whole)));
      least = λ m lt. record {
        journal = journal_of p [] [];
        other = empty_text p;
        is_journal = empty_is p v;
        same =
            (let j : empty_text p ≡ text_of r.lines ++ back = b ∙ ap (λ (l : List ℕ). l ++ back) r.whole in
            ap (λ (l : List ℕ). take m (ended_lines l)) j ∙ same_first r.lines back rest m r.are (omega (arith, count)) ∙ ap (λ (l : List ℕ). take m (ended_lines l)) (sym whole));
      };
    }

-- a text whose first line is a given one begins with it
record Begins (text line : List ℕ) : Type 0 where
  rest : List ℕ
  whole : text ≡ ended line ++ rest

begins : (text line : List ℕ) → IsLine line → first_left text ≡ Some (ended line) → Begins text line
begins text line h e = by_lines (lines_of text) refl e
  where
    by_lines : (ls : List (List ℕ)) → lines_of text ≡ ls → first_of ls ≡ Some (ended line) → Begins text line
    by_lines [] p q = let f : None ≡ Some (ended line) = q in absurd cc
    by_lines (l ∷ ls) p q =
        let same : l ≡ ended line = cc in
        let c = cut text line ls h (p ∙ ap (λ (x : List ℕ). x ∷ ls) same) in
        record { rest = c.rest; whole = c.whole }

-- the same of a line that is written
begins_text : (words : List (List ℕ)) (line text rest left : List ℕ) → Line words line → rest ≡ line ++ left → first_left rest ≡ first_left text → (back : List ℕ) × (text ≡ line ++ back)
begins_text words line text rest left l w f =
    let b = begins text l.line l.is_line (sym f ∙ ap first_left (w ∙ ap (λ (x : List ℕ). x ++ left) l.whole) ∙ first_is l.line left l.is_line) in
    (b.rest, b.whole ∙ ap (λ (x : List ℕ). x ++ b.rest) (sym l.whole))

-- the lines of a journal after its head
abbrev body_text : Journal → List ℕ
body_text j = entries_text 1 j.entries ++ (flat_map stall_text j.stalls ++ end_text (length j.entries))

pub first_refused : (text : List ℕ) → ((version : Version) (rest : List ℕ) → text ≡ first_line version ++ rest → ⊥) → IsRefusedAt text 1
first_refused text never_so = head_refused [] text text 0 1 usual (empty_text usual) ruled_none refl refl refl refl (λ rest' f j h w.
    (let v = j.providers.version in
    let b = begins_text _ (first_line v) text rest' _ (first_is_line v) (sym w ∙ journal_parts j ∙ head_parts j.providers (body_text j)) f in
    never_so v b.0 b.1))

-- a journal's head of the version, after its first line
record OfVersion (version : Version) (j : Journal) (rest : List ℕ) : Type 0 where
  ticots : is_in_head version Ticots j.providers.ticots ≡ true
  ticotsord : is_in_head version Ticotsord j.providers.ticotsord ≡ true
  ticlts : is_in_head version Ticlts j.providers.ticlts ≡ true
  goes : rest ≡ provider_text version Ticots j.providers.ticots ++ (provider_text version Ticotsord j.providers.ticotsord ++ (provider_text version Ticlts j.providers.ticlts ++ body_text j))

of_version : (version : Version) (j : Journal) (rest : List ℕ) → HasText j → journal_text j ≡ first_line version ++ rest → OfVersion version j rest
of_version version j rest h e =
    let v = valid_is j.providers (in_head j.providers h.providers h.releases) in
    let f = first_same version j.providers.version _ _ (sym e ∙ journal_parts j ∙ head_parts j.providers (body_text j)) in
    let own : OfVersion j.providers.version j rest = record { ticots = v.ticots; ticotsord = v.ticotsord; ticlts = v.ticlts; goes = f.1 } in
    subst (λ (x : Version). OfVersion x j rest) (sym f.0) own

-- the providers are begun so, and the usual ones follow
empty_parts : (p : Providers) → empty_text p ≡ first_line p.version ++ (provider_text p.version Ticots p.ticots ++ (provider_text p.version Ticotsord p.ticotsord ++ (provider_text p.version Ticlts p.ticlts ++ body_text (journal_of p [] []))))
empty_parts p = journal_parts (journal_of p [] []) ∙ head_parts p (body_text (journal_of p [] []))

pub ticots_refused : (version : Version) (text rest : List ℕ) → text ≡ first_line version ++ rest → ((p : Profile) (left : List ℕ) → is_in_head version Ticots p ≡ true → rest ≡ provider_text version Ticots p ++ left → ⊥) → IsRefusedAt text 2
ticots_refused version text rest w never_so =
    head_refused (first_line version) rest text 1 2 (usual_of version) _ (first_ruled version) w refl (is_valid (usual_of version) (usual_valid version)) (empty_parts (usual_of version)) (λ rest' f j h e.
    (let v = of_version version j rest' h e in
    let b = begins_text _ (provider_text version Ticots j.providers.ticots) rest rest' _ (provider_is_line version Ticots j.providers.ticots (head_fits version Ticots j.providers.ticots v.ticots)) v.goes f in
    never_so j.providers.ticots b.0 v.ticots b.1))

pub ticotsord_refused : (version : Version) (text rest : List ℕ) (p : Profile) → text ≡ first_line version ++ (provider_text version Ticots p ++ rest) → is_in_head version Ticots p ≡ true → ((q : Profile) (left : List ℕ) → is_in_head version Ticotsord q ≡ true → rest ≡ provider_text version Ticotsord q ++ left → ⊥) → IsRefusedAt text 3
ticotsord_refused version text rest p w vp never_so =
    let u = usual_valid version in
    let ps : Providers = record { version = version; ticots = p; ticotsord = (usual_of version).ticotsord; ticlts = (usual_of version).ticlts } in
    let parts : (a : List ℕ) → first_line version ++ (provider_text version Ticots p ++ a) ≡ (first_line version ++ provider_text version Ticots p) ++ a = λ a. sym (append_assoc (first_line version) (provider_text version Ticots p) a) in
    head_refused (first_line version ++ provider_text version Ticots p) rest text 2 3 ps _ (ruled_append (first_line version) _ 1 1 (first_ruled version) (provider_ruled version Ticots p vp)) (w ∙ parts rest) refl (is_valid ps (record { ticots = vp; ticotsord = u.ticotsord; ticlts = u.ticlts }))
    (empty_parts ps ∙ parts (provider_text version Ticotsord ps.ticotsord ++ (provider_text version Ticlts ps.ticlts ++ body_text (journal_of ps [] [])))) (λ rest' f j h e.
    (let v = of_version version j _ h (e ∙ sym (parts rest')) in
    let two = two_profiles version Ticots p j.providers.ticots rest' _ (head_fits version Ticots p vp) (head_fits version Ticots j.providers.ticots v.ticots) v.goes in
    let b = begins_text _ (provider_text version Ticotsord j.providers.ticotsord) rest rest' _ (provider_is_line version Ticotsord j.providers.ticotsord (head_fits version Ticotsord j.providers.ticotsord v.ticotsord)) two.rest f in
    never_so j.providers.ticotsord b.0 v.ticotsord b.1))

pub ticlts_refused : (version : Version) (text rest : List ℕ) (p q : Profile) → text ≡ first_line version ++ (provider_text version Ticots p ++ (provider_text version Ticotsord q ++ rest)) → is_in_head version Ticots p ≡ true → is_in_head version Ticotsord q ≡ true
    → ((d : Profile) (left : List ℕ) → is_in_head version Ticlts d ≡ true → rest ≡ provider_text version Ticlts d ++ left → ⊥) → IsRefusedAt text 4
ticlts_refused version text rest p q w vp vq never_so =
    let u = usual_valid version in
    let ps : Providers = record { version = version; ticots = p; ticotsord = q; ticlts = (usual_of version).ticlts } in
    let front : List ℕ = first_line version ++ (provider_text version Ticots p ++ provider_text version Ticotsord q) in
    let parts : (a : List ℕ) → first_line version ++ (provider_text version Ticots p ++ (provider_text version Ticotsord q ++ a)) ≡ front ++ a = λ a. regroup (first_line version) (provider_text version Ticots p) (provider_text version Ticotsord q) a in
    head_refused front rest text 3 4 ps _ (ruled_append (first_line version) _ 1 2 (first_ruled version) (ruled_append (provider_text version Ticots p) _ 1 1 (provider_ruled version Ticots p vp) (provider_ruled version Ticotsord q vq))) (w ∙ parts rest) refl (is_valid ps (record { ticots = vp; ticotsord = vq; ticlts = u.ticlts }))
    (empty_parts ps ∙ parts (provider_text version Ticlts ps.ticlts ++ body_text (journal_of ps [] []))) (λ rest' f j h e.
    (let v = of_version version j _ h (e ∙ sym (parts rest')) in
    let two = two_profiles version Ticots p j.providers.ticots _ _ (head_fits version Ticots p vp) (head_fits version Ticots j.providers.ticots v.ticots) v.goes in
    let three = two_profiles version Ticotsord q j.providers.ticotsord rest' _ (head_fits version Ticotsord q vq) (head_fits version Ticotsord j.providers.ticotsord v.ticotsord) two.rest in
    let b = begins_text _ (provider_text version Ticlts j.providers.ticlts) rest rest' _ (provider_is_line version Ticlts j.providers.ticlts (head_fits version Ticlts j.providers.ticlts v.ticlts)) three.rest f in
    never_so j.providers.ticlts b.0 v.ticlts b.1))
  where
    regroup : (a b c d : List ℕ) → a ++ (b ++ (c ++ d)) ≡ (a ++ (b ++ c)) ++ d
    regroup a b c d = simp append_assoc refl

-- ---- what reading the head gives

abbrev FailsHead : List ℕ → JournalFail → Type 0
FailsHead text r = ReadsHead text (Err r)

pub at_first : (text : List ℕ) (fail : FieldFail) (r : JournalFail) → r ≡ fail_at 1 fail → ReadsFirst text (Err fail) → ReadsHead text (Err r)
at_first text field.Wrong r e h = subst (FailsHead text) (sym e) (first_refused text h)
at_first text field.OutOfMemory r e h = subst (FailsHead text) (sym e) tt

pub at_ticots : (version : Version) (text rest : List ℕ) (fail : FieldFail) (r : JournalFail) → r ≡ fail_at 2 fail → text ≡ first_line version ++ rest → ReadsProvider version Ticots rest (Err fail) → ReadsHead text (Err r)
at_ticots version text rest field.Wrong r e w h = subst (FailsHead text) (sym e) (ticots_refused version text rest w h)
at_ticots version text rest field.OutOfMemory r e w h = subst (FailsHead text) (sym e) tt

pub at_ticotsord : (version : Version) (text rest left : List ℕ) (p : Profile) (fail : FieldFail) (r : JournalFail) → r ≡ fail_at 3 fail → text ≡ first_line version ++ rest → is_in_head version Ticots p ≡ true → rest ≡ provider_text version Ticots p ++ left → ReadsProvider version Ticotsord left (Err fail) → ReadsHead text (Err r)
at_ticotsord version text rest left p field.Wrong r e w v x h = subst (FailsHead text) (sym e) (ticotsord_refused version text left p (w ∙ ap (λ (l : List ℕ). first_line version ++ l) x) v h)
at_ticotsord version text rest left p field.OutOfMemory r e w v x h = subst (FailsHead text) (sym e) tt

pub at_ticlts : (version : Version) (text rest left behind : List ℕ) (p q : Profile) (fail : FieldFail) (r : JournalFail) → r ≡ fail_at 4 fail → text ≡ first_line version ++ rest → is_in_head version Ticots p ≡ true → rest ≡ provider_text version Ticots p ++ left → is_in_head version Ticotsord q ≡ true
    → left ≡ provider_text version Ticotsord q ++ behind → ReadsProvider version Ticlts behind (Err fail) → ReadsHead text (Err r)
at_ticlts version text rest left behind p q field.Wrong r e w v x u y h =
    subst (FailsHead text) (sym e) (ticlts_refused version text behind p q (w ∙ ap (λ (l : List ℕ). first_line version ++ l) (x ∙ ap (λ (l : List ℕ). provider_text version Ticots p ++ l) y)) v u h)
at_ticlts version text rest left behind p q field.OutOfMemory r e w v x u y h = subst (FailsHead text) (sym e) tt

pub whole_head : (version : Version) (text rest left behind last : List ℕ) (p q d : Profile) → text ≡ first_line version ++ rest → is_in_head version Ticots p ≡ true → rest ≡ provider_text version Ticots p ++ left → is_in_head version Ticotsord q ≡ true → left ≡ provider_text version Ticotsord q ++ behind
    → is_in_head version Ticlts d ≡ true → behind ≡ provider_text version Ticlts d ++ last
    → (valid_head (record { version = version; ticots = p; ticotsord = q; ticlts = d }) ≡ true) × (text ≡ head_text (record { version = version; ticots = p; ticotsord = q; ticlts = d }) ++ last)
whole_head version text rest left behind last p q d w v x u y t z =
    let ps : Providers = record { version = version; ticots = p; ticotsord = q; ticlts = d } in
    let parts : text ≡ first_line version ++ (provider_text version Ticots p ++ (provider_text version Ticotsord q ++ (provider_text version Ticlts d ++ last))) =
    w ∙ ap (λ (l : List ℕ). first_line version ++ l) (x ∙ ap (λ (l : List ℕ). provider_text version Ticots p ++ l) (y ∙ ap (λ (l : List ℕ). provider_text version Ticotsord q ++ l) z)) in
    (is_valid ps (record { ticots = v; ticotsord = u; ticlts = t }), parts ∙ sym (head_parts ps last))

-- ---- what reading a journal gives

-- so many entries have as many bytes
one_or_more : (n : ℕ) (e : Entry) → 1 ≤ length (entry_text n e)
one_or_more n e =
    let w : entry_text n e ≡ join_with_byte 32 (decimal n ∷ entry_words e) ++ 10 ∷ [] = entry_text_is n e in
    let l : length (entry_text n e) ≡ length (join_with_byte 32 (decimal n ∷ entry_words e)) + 1 = ap length w ∙ length-append (join_with_byte 32 (decimal n ∷ entry_words e)) (10 ∷ []) in
    omega (arith, l)

entries_long : (n : ℕ) (es : List Entry) → length es ≤ length (entries_text n es)
entries_long n [] = omega arith
entries_long n (e ∷ es) =
    let one = one_or_more n e in
    let later = entries_long (n + 1) es in
    let both : length (entries_text n (e ∷ es)) ≡ length (entry_text n e) + length (entries_text (n + 1) es) = length-append (entry_text n e) (entries_text (n + 1) es) in
    omega (arith, both)

-- a journal has no more entries than its text has bytes
few_entries : (text : List ℕ) (j : Journal) → IsJournal j text → length j.entries ≤ length text
few_entries text j h =
    let w = h.written ∙ journal_parts j in
    let a : length text ≡ length (head_text j.providers) + length (entries_text 1 j.entries ++ (flat_map stall_text j.stalls ++ end_text (length j.entries))) = ap length w ∙ length-append (head_text j.providers) (entries_text 1 j.entries ++ (flat_map stall_text j.stalls ++ end_text (length j.entries))) in
    let b : length (entries_text 1 j.entries ++ (flat_map stall_text j.stalls ++ end_text (length j.entries))) ≡ length (entries_text 1 j.entries) + length (flat_map stall_text j.stalls ++ end_text (length j.entries)) = length-append (entries_text 1 j.entries) (flat_map stall_text j.stalls ++ end_text (length j.entries)) in
    let c = entries_long 1 j.entries in
    omega (arith, a, b)

pub read_as : (text : List ℕ) (r : Result Journal JournalFail) → length text + 2 < 2 ^ 64 → ReadsText text r → (j : Journal) → IsJournal j text → IsReadAs r j
read_as text (Ok k) small h j g = one_journal text k j (let l = few_entries text k h in omega arith) h g
read_as text (Err (journal.Bad line)) small h j g = h.refused (record { journal = j; other = text; is_journal = g; same = refl })
read_as text (Err journal.OutOfMemory) small h j g = tt

-- ---- the loop over the lines after the head

pub record Loop (p drafted : Providers) (es : List Entry) (ss : List StallLine) (text rest : List ℕ) (n : ℕ) : Type 0 where
  pub so_far : SoFar p.version es ss text rest
  pub same : drafted ≡ p
  pub place : n ≡ 5 + (length es + length ss)
  pub room : n + length rest ≤ 5 + length text

pub loop_first : (p : Providers) (draft : Journal) (text : List ℕ) → draft ≡ record { providers = p; entries = []; stalls = [] } → Loop p draft.providers draft.entries draft.stalls text text 5
loop_first p draft text e = rw e (record { so_far = so_far_none p.version text; same = refl; place = refl; room = omega arith })

shorter : (rest line behind : List ℕ) → rest ≡ ended line ++ behind → length rest ≡ length line + 1 + length behind
shorter rest line behind cut = ap length cut ∙ length-append (ended line) behind ∙ ap (λ (m : ℕ). m + length behind) (length-append line (10 ∷ []))

pub loop_entry : (p : Providers) (old new : Journal) (text rest behind line : List ℕ) (n : ℕ) (e : Entry) → Loop p old.providers old.entries old.stalls text rest n → rest ≡ ended line ++ behind → line_in p.version old.entries old.stalls (words_of line) ≡ Some (Entered (entry_read e))
    → new ≡ record { providers = old.providers; entries = old.entries ++ e ∷ []; stalls = old.stalls } → Loop p new.providers new.entries new.stalls text behind (n + 1)
loop_entry p old new text rest behind line n e l cut r w =
    let x = entry_line p.version old.entries old.stalls line e r in
    let s = shorter rest line behind cut in
    let m : length (old.entries ++ e ∷ []) ≡ length old.entries + 1 = length-append old.entries (e ∷ []) in
    rw w (record {
      so_far = so_far_entry p.version old.entries old.stalls text rest behind line e l.so_far cut x.first x.is_entry x.written;
      same = l.same;
      place = omega (arith, l.place, m);
      room = omega (arith, l.room, s);
    })

pub loop_stall : (p : Providers) (old new : Journal) (text rest behind line : List ℕ) (n : ℕ) (st : StallLine) → Loop p old.providers old.entries old.stalls text rest n → rest ≡ ended line ++ behind → line_in p.version old.entries old.stalls (words_of line) ≡ Some (Stalled (stall_read st))
    → new ≡ record { providers = old.providers; entries = old.entries; stalls = old.stalls ++ st ∷ [] } → Loop p new.providers new.entries new.stalls text behind (n + 1)
loop_stall p old new text rest behind line n st l cut r w =
    let x = stall_line p.version old.entries old.stalls line st r in
    let s = shorter rest line behind cut in
    let m : length (old.stalls ++ st ∷ []) ≡ length old.stalls + 1 = length-append old.stalls (st ∷ []) in
    rw w (record {
      so_far = so_far_stall p.version old.entries old.stalls text rest behind line st l.so_far cut x.is_stall x.follows x.written;
      same = l.same;
      place = omega (arith, l.place, m);
      room = omega (arith, l.room, s);
    })

pub entry_worker : (version : Version) (es : List Entry) (ss : List StallLine) (line : List ℕ) (e : Entry) → line_in version es ss (words_of line) ≡ Some (Entered (entry_read e)) → e.worker ≤ LAST_WORKER
entry_worker version es ss line e r = (entry_line version es ss line e r).is_entry.worker

pub number_fits : (p q : Providers) (es : List Entry) (ss : List StallLine) (text rest behind line : List ℕ) (n : ℕ) → Loop p q es ss text rest n → rest ≡ ended line ++ behind → n + 1 ≤ 5 + length text
number_fits p q es ss text rest behind line n l cut = let s = shorter rest line behind cut in omega (arith, l.room, s)

pub loop_ends : (p : Providers) (draft done : Journal) (text rest behind line : List ℕ) (n : ℕ) → valid_head p ≡ true → Loop p draft.providers draft.entries draft.stalls text rest n → rest ≡ ended line ++ behind → (length behind == 0) ≡ true → line_in p.version draft.entries draft.stalls (words_of line) ≡ Some Ended → done ≡ draft → IsJournal done (head_text p ++ text)
loop_ends p draft done text rest behind line n v l cut none r d =
    let z : behind ≡ [] = nil_from_length behind (eqb-true (length behind) 0 none) in
    let j = body_ends p draft.entries draft.stalls text rest behind line v l.so_far cut z (end_line p.version draft.entries draft.stalls line r) in
    rw d (subst (λ (q : Providers). IsJournal (journal_of q draft.entries draft.stalls) (head_text p ++ text)) (sym l.same) j)

pub loop_extra : (p q : Providers) (es : List Entry) (ss : List StallLine) (text rest behind line : List ℕ) (n : ℕ) → valid_head p ≡ true → length text + 2 < 2 ^ 64 → Loop p q es ss text rest n → rest ≡ ended line ++ behind → (length behind == 0) ≡ false → line_in p.version es ss (words_of line) ≡ Some Ended → IsRefusedAt (head_text p ++ text) (n + 1)
loop_extra p q es ss text rest behind line n v few l cut more r =
    body_extra p es ss text rest behind line n v l.so_far (omega (arith, l.place, l.room)) l.place cut (λ z. (let t : (length behind == 0) ≡ true = rw z refl in let c : true ≡ false = sym t ∙ more in cc)) (end_line p.version es ss line r)

pub loop_wrong : (p q : Providers) (es : List Entry) (ss : List StallLine) (text rest behind line : List ℕ) (n : ℕ) → valid_head p ≡ true → length text + 2 < 2 ^ 64 → Loop p q es ss text rest n → IsLine line → rest ≡ ended line ++ behind → line_in p.version es ss (words_of line) ≡ None → IsRefusedAt (head_text p ++ text) n
loop_wrong p q es ss text rest behind line n v few l h cut r =
    let s = shorter rest line behind cut in
    body_refused p es ss text rest behind line n v l.so_far (omega (arith, l.place, l.room, s)) l.place h cut r

-- a step more of room is needed where no line is taken
pub loop_unended : (p q : Providers) (es : List Entry) (ss : List StallLine) (text rest : List ℕ) (n : ℕ) → valid_head p ≡ true → length text + 2 < 2 ^ 64 → Loop p q es ss text rest n → IsLine rest → IsRefusedAt (head_text p ++ text) n
loop_unended p q es ss text rest n v few l h = body_unended p es ss text rest n v l.so_far (omega (arith, l.place, l.room)) l.place h

pub loop_out : (p q : Providers) (es : List Entry) (ss : List StallLine) (text rest : List ℕ) (n : ℕ) (b : Bool) → valid_head p ≡ true → length text + 2 < 2 ^ 64 → Loop p q es ss text rest n → b ≡ true → b ≡ (length rest == 0) → IsRefusedAt (head_text p ++ text) n
loop_out p q es ss text rest n b v few l t e =
    let z : rest ≡ [] = nil_from_length rest (eqb-true (length rest) 0 (sym e ∙ t)) in
    loop_unended p q es ss text rest n v few l (subst IsLine (sym z) tt)

-- the words are read by the version of the head
read_at : (p q : Providers) (es : List Entry) (ss : List StallLine) (words : List (List ℕ)) (o : Option LineRead) → q ≡ p → line_in q.version es ss words ≡ o → line_in p.version es ss words ≡ o
read_at p q es ss words o s e = ap (λ (x : Providers). line_in x.version es ss words) (sym s) ∙ e

pub loop_on : (p : Providers) (old new : Journal) (text rest behind line : List ℕ) (n : ℕ) → Loop p old.providers old.entries old.stalls text rest n → rest ≡ ended line ++ behind → ReadsNext old (words_of line) new (Ok true) → Loop p new.providers new.entries new.stalls text behind (n + 1)
loop_on p old new text rest behind line n l cut (inl (e, r, w)) = loop_entry p old new text rest behind line n e l cut (read_at p old.providers _ _ _ _ l.same r) w
loop_on p old new text rest behind line n l cut (inr (s, r, w)) = loop_stall p old new text rest behind line n s l cut (read_at p old.providers _ _ _ _ l.same r) w

pub loop_fails : (p : Providers) (old new : Journal) (text rest behind line : List ℕ) (n : ℕ) (fail : FieldFail) (r : JournalFail) → valid_head p ≡ true → length text + 2 < 2 ^ 64 → Loop p old.providers old.entries old.stalls text rest n → IsLine line → rest ≡ ended line ++ behind → ReadsNext old (words_of line) new (Err fail) → r ≡ fail_at n fail
    → ReadsText (head_text p ++ text) (Err r)
loop_fails p old new text rest behind line n field.Wrong r v few l h cut x e = subst (λ (y : JournalFail). ReadsText (head_text p ++ text) (Err y)) (sym e) (loop_wrong p old.providers old.entries old.stalls text rest behind line n v few l h cut (read_at p old.providers _ _ _ _ l.same x))
loop_fails p old new text rest behind line n field.OutOfMemory r v few l h cut x e = subst (λ (y : JournalFail). ReadsText (head_text p ++ text) (Err y)) (sym e) tt

pub loop_done : (p : Providers) (old new done : Journal) (text rest behind line : List ℕ) (n : ℕ) → valid_head p ≡ true → Loop p old.providers old.entries old.stalls text rest n → rest ≡ ended line ++ behind → (length behind == 0) ≡ true → ReadsNext old (words_of line) new (Ok false) → done ≡ new → IsJournal done (head_text p ++ text)
loop_done p old new done text rest behind line n v l cut none r d = loop_ends p old done text rest behind line n v l cut none (read_at p old.providers _ _ _ _ l.same r.0) (d ∙ r.1)

pub goes : (p : Providers) (old new : Journal) (text rest behind line : List ℕ) (n : ℕ) (b : Bool) → Loop p old.providers old.entries old.stalls text rest n → rest ≡ ended line ++ behind → ReadsNext old (words_of line) new (Ok b) → b ≡ true → Loop p new.providers new.entries new.stalls text behind (n + 1)
goes p old new text rest behind line n true l cut r t = loop_on p old new text rest behind line n l cut r
goes p old new text rest behind line n false l cut r t = absurd cc

pub done : (p : Providers) (old new finished : Journal) (text rest behind line : List ℕ) (n : ℕ) (b e : Bool) → valid_head p ≡ true → Loop p old.providers old.entries old.stalls text rest n → rest ≡ ended line ++ behind → e ≡ (length behind == 0) → e ≡ true → ReadsNext old (words_of line) new (Ok b) → b ≡ false → finished ≡ new → IsJournal finished (head_text p ++ text)
done p old new finished text rest behind line n true e v l cut q t r f d = absurd cc
done p old new finished text rest behind line n false e v l cut q t r f d = loop_done p old new finished text rest behind line n v l cut (sym q ∙ t) r d

pub extra : (p : Providers) (old new : Journal) (text rest behind line : List ℕ) (n : ℕ) (b e : Bool) → valid_head p ≡ true → length text + 2 < 2 ^ 64 → Loop p old.providers old.entries old.stalls text rest n → rest ≡ ended line ++ behind → e ≡ (length behind == 0) → e ≡ false → ReadsNext old (words_of line) new (Ok b) → b ≡ false → IsRefusedAt (head_text p ++ text) (n + 1)
extra p old new text rest behind line n true e v few l cut q t r f = absurd cc
extra p old new text rest behind line n false e v few l cut q t r f = loop_extra p old.providers old.entries old.stalls text rest behind line n v few l cut (sym q ∙ t) (read_at p old.providers _ _ _ _ l.same r.0)

pub the_journal : (text : List ℕ) (j k : Journal) → length text < 2 ^ 63 → IsJournal j text → IsJournal k text → j ≡ k
the_journal text j k small h g = one_journal text j k (let l = few_entries text j h in omega arith) h g
