use Rattle.std.proofs.Common.{sym, ap, ◌∙◌, [], ◌∷◌}
use Rattle.tpi_grammar.specs.Word.{viable}
use Rattle.tpi_grammar.specs.Frame.{has_part}
use Rattle.tpi_grammar.specs.Kinds.{slots_view}
use Rattle.tpi_grammar.proofs.Finished.{part_within}
use Rattle.tpi_grammar.proofs.measure.read_length.Goals as goal

pub returns-clause-small : goal.returns-clause-small
returns-clause-small c = λ v e. part_within (has_part (slots_view c.args.others.now)) c.args.left v
    (ap (λ w. viable (w.0 ∷ []) 1 v) (sym c.part_length.ensures) ∙ c.read_word.ensures.met v e)
