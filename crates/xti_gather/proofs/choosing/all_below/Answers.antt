use Rattle.std.proofs.Common.{◌∙◌, sym, ap, List, ℕ}
use Rattle.std.specs.Prelude.{nat_lt}
use Rattle.std.specs.List.{list_all}
use Rattle.xti_model.specs.World.{switch_number}
use Rattle.xti_lent.specs.Lending.{is_lent}
use Rattle.xti_gather.proofs.Orders.{lower-lent}
use Rattle.xti_gather.proofs.choosing.all_below.Goals as goal

pub returns : goal.returns
returns c =
    lower-lent c.args.lent.now c.args.cell c.all_lower.result c.requires.loan
    (ap (is_lent c.args.lent.now) (sym (c.switch_number.ensures ∙ ap switch_number c.providers.ensures.providers)) ∙ (sym c.has.ensures ∙ c.if-has.false))
    (c.all_lower.ensures ∙ ap (λ (ns : List ℕ). list_all (λ n. nat_lt n c.args.cell) ns) c.places.ensures)
