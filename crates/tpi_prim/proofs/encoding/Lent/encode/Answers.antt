use Rattle.std.proofs.Common.{rules}
use Rattle.tpi_grammar.specs.Frame.{IsFilled}
use Rattle.tpi_prim.specs.Lent.{filled_by, values_of}
use Rattle.tpi_prim.proofs.FilledIn.{is_filled}
use Rattle.tpi_prim.proofs.encoding.Lent.encode.Goals as goal
use Rattle.tpi_prim.proofs.encoding.Lent.encode.Goals.{In_ok-write}

good : (c : In_ok-write) → IsFilled (filled_by c.args.self.now)
good c =
    let lent = c.args.self.now in
    is_filled lent.kind (values_of lent.fields) lent.user.now c.requires.shape c.in_ok-write.ensures.part_bytes c.in_ok-write.ensures.user_bytes c.requires.data
    (rw (← c.requires.control) c.requires.small)

pub of-requires : goal.of-requires
of-requires c = (filled_by c.args.self.now, good (goal.at.of-requires c).In_ok-write, search rules)

pub returns-clause-filled : goal.returns-clause-filled
returns-clause-filled c = good (goal.at.returns-clause-filled c).In_ok-write
