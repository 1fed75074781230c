use Rattle.std.proofs.Common.{◌∙◌, sym}
use Rattle.xti_io.proofs.Counted.{IsCounted-failed, IsCounted-passed, faults-few}
use Rattle.xti_io.proofs.turns.Turns.turn.Goals as goal
use Rattle.xti_io.proofs.turns.Turns.turn.Goals.{then-fails, else-fails}

pub invariant_of-self : goal.invariant_of-self
invariant_of-self c = elim c.if-fails.branch [
  | then-fails w ↦
      let next = rw w.self-inside-is at c.saturating_add-self-inside.ensures in
      rw w.self-inside-is (IsCounted-failed c.self.inside.fails c.self.inside.number c.self.inside.faults c.saturating_add-self-inside.result next (sym c.is_listed-fails.ensures ∙ w.if-fails.true) c.self.invariant)
  | else-fails w ↦
      let next = rw w.self-inside-is at c.saturating_add-self-inside.ensures in
      rw w.self-inside-is (IsCounted-passed c.self.inside.fails c.self.inside.number c.self.inside.faults c.saturating_add-self-inside.result next c.self.invariant)
]

pub returns-clause-few : goal.returns-clause-few
returns-clause-few c = faults-few c.if-fails.self-inside.fails c.saturating_add-self-inside.result c.if-fails.self-inside.faults (invariant_of-self c)
