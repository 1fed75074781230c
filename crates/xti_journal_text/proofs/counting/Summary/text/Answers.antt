use Rattle.std.proofs.Common.{rules, ◌≡◌, ◌++◌, length}
use Rattle.std.specs.Prelude.{codes}
use Rattle.xti_words.specs.WrittenWords.{number_word}
use Rattle.xti_journal_text.specs.Counting.{totals_text}
use Rattle.xti_journal_text.proofs.Histories.{line_is}
use Rattle.xti_journal_text.proofs.counting.Summary.text.Goals as goal

pub returns : goal.returns
returns c =
    let line : c.from_vec.result ≡ totals_text c.args.self.now.totals ++ number_word (codes " stalled ") (length c.args.stalls.now) ++ codes "\n" = search rules in
    λ j counted same. line_is j c.args.self.now c.args.stalls.now c.from_vec.result counted (c.is_full.ensures.exact c.if-is_full.false) same line
