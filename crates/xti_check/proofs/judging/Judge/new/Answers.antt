use Rattle.std.proofs.Common.{refl}
use Rattle.xti_check.specs.Parts.{going_of}
use Rattle.xti_check.proofs.Judged.{first_parts}
use Rattle.xti_check.proofs.judging.Judge.new.Goals as goal

pub returns-clause-stands : goal.returns-clause-stands
returns-clause-stands c = record { count = refl; world = rw c.in_ok-fresh.ensures refl; own = first_parts (going_of c.args.entries.now) refl }
