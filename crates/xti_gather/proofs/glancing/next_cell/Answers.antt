use Rattle.std.proofs.Common.{List, ℕ, subst}
use Rattle.std.specs.Prelude.{MatchOption}
use Rattle.xti_lent.specs.Fit.{AllLent}
use Rattle.xti_gather.specs.Orders.{IsLeastMissing}
use Rattle.xti_gather.proofs.glancing.next_cell.Goals as goal

pub returns : goal.returns
returns c = subst (λ (ns : List ℕ). MatchOption c.missing.result (AllLent c.args.lent.now ns) (IsLeastMissing c.args.lent.now ns)) c.touch.ensures c.missing.ensures
