-- Entries are written one after the other.
use Rattle.std.proofs.Common.{◌≡◌, ℕ, ◌+◌, List, [], ◌∷◌, ◌++◌, length, sym, ap, ◌∙◌, arith}
use Rattle.std.proofs.lemmas.List.{append-nil, append_assoc, length_push}
use Rattle.xti_model.specs.declared.entry.Entry.{Entry}
use Rattle.xti_journal_text.specs.JournalText.{entry_text, entries_text}
use Rattle.xti_journal_text.specs.Writing.{Written, Took}

entries-more : (n : ℕ) (past : List Entry) (e : Entry) → entries_text n (past ++ e ∷ []) ≡ entries_text n past ++ entry_text (n + length past) e
entries-more n [] e = append-nil (entry_text n e) ∙ ap (λ (k : ℕ). entry_text k e) (let same : n ≡ n + 0 = omega arith in same)
entries-more n (x ∷ past) e =
    let same : n + 1 + length past ≡ n + length (x ∷ past) = omega arith in
    ap (λ (rest : List ℕ). entry_text n x ++ rest) (entries-more (n + 1) past e ∙ ap (λ (k : ℕ). entries_text (n + 1) past ++ entry_text k e) same)
    ∙ sym (append_assoc (entry_text n x) (entries_text (n + 1) past) (entry_text (n + length (x ∷ past)) e))

-- one entry more
pub took-more : (first : Written) (past : List Entry) (now : Written) (e : Entry) (text : List ℕ) (count : ℕ) → Took first past now → count ≡ now.1 + 1 → text ≡ now.0 ++ entry_text count e → Took first (past ++ e ∷ []) (text, count)
took-more first past now e text count t one more =
    let number : count ≡ first.1 + 1 + length past = omega (arith, one, t.1) in (
      more ∙ ap (λ (front : List ℕ). front ++ entry_text count e) t.0
          ∙ append_assoc first.0 (entries_text (first.1 + 1) past) (entry_text count e)
          ∙ ap (λ (k : ℕ). first.0 ++ (entries_text (first.1 + 1) past ++ entry_text k e)) number
          ∙ ap (λ (rest : List ℕ). first.0 ++ rest) (sym (entries-more (first.1 + 1) past e)),
      omega (arith, one, t.1, length_push past e),
    )
