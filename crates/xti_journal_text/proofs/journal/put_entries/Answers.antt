use Rattle.std.proofs.Common.{◌≡◌, ◌∙◌, sym, ap, refl, rules, ℕ, ◌+◌, ◌<◌, List, ◌∷◌, ◌++◌, length, get_or, drop, append_assoc}
use Rattle.std.proofs.lemmas.List.{drop_more}
use Rattle.xti_model.specs.declared.entry.Entry.{Entry}
use Rattle.xti_journal_text.specs.JournalText.{entries_text, entry_text}
use Rattle.xti_journal_text.proofs.journal.put_entries.Goals as goal

-- one more line is written
one_more : (whole before out : List ℕ) (entries : List Entry) (i n : ℕ) (e : Entry) → i < length entries → e ≡ get_or entries i e → n ≡ i + 1
    → before ++ entries_text (i + 1) (drop i entries) ≡ whole → out ≡ before ++ entry_text n e → out ++ entries_text (i + 1 + 1) (drop (i + 1) entries) ≡ whole
one_more whole before out entries i n e h is number f g =
    let rest = entries_text (i + 1 + 1) (drop (i + 1) entries) in
    let more : drop i entries ≡ e ∷ drop (i + 1) entries = drop_more entries i e h ∙ ap (λ (x : Entry). x ∷ drop (i + 1) entries) (sym is) in
    ap (λ t. t ++ rest) (g ∙ ap (λ k. before ++ entry_text k e) number) ∙ append_assoc before (entry_text (i + 1) e) rest
    ∙ ap (λ (es : List Entry). before ++ entries_text (i + 1) es) (sym more) ∙ f

pub loop-e-init : goal.loop-e-init
loop-e-init c = record { count = refl; text = refl }

count_more : (c : goal.In_ok-put_entry) → c.saturating_add-n.result ≡ c.loop-e.e-index + 1
count_more c = search rules

pub loop-e-preserved : goal.loop-e-preserved
loop-e-preserved c = record {
  count = count_more c;
  text = one_more _ c.loop-e.out.items c.put_entry.new.out.items c.args.entries.now c.loop-e.e-index c.saturating_add-n.result c.e-item.result c.loop-e-test.true c.e-item.is (count_more c)
      c.loop-e.invariant.text c.in_ok-put_entry.ensures;
}
