use Rattle.std.proofs.Common.{◌≡◌, ◌+◌, ◌++◌, ◌∙◌, rules, ap}
use Rattle.xti_journal_text.specs.JournalText.{entry_text}
use Rattle.xti_journal_text.specs.Writing.{Written}
use Rattle.xti_journal_text.proofs.Writes.{took-more}
use Rattle.xti_journal_text.proofs.writer.JournalWriter.put_next.Goals as goal

pub returns : goal.returns
returns c =
    let one : c.in-Some.count ≡ c.self.inside.count + 1 = search rules in
    let more : c.put_entry.new.out.items ≡ c.self.inside.text.items ++ entry_text c.in-Some.count c.args.entry.now = c.in_ok-put_entry.ensures in
    λ first past t. took-more first past c.args.self.now c.args.entry.now c.put_entry.new.out.items c.in-Some.count t
    (one ∙ ap (λ (w : Written). w.1 + 1) c.self.view_is) (more ∙ ap (λ (w : Written). w.0 ++ entry_text c.in-Some.count c.args.entry.now) c.self.view_is)
