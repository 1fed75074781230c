-- A seat that gives its cells back stands as before.
use Rattle.std.proofs.Common.{◌≡◌, sym, subst}
use Rattle.xti_hall_rule.specs.declared.view.View.{View}
use Rattle.xti_hall.specs.Seats.{IsStanding, bare}

to-bare : (v : View) → IsStanding v → IsStanding (bare v)
to-bare v s = record { numbered = s.numbered; below = s.below; legal = s.legal; bytes = s.bytes; mine = s.mine; spare = s.spare }

from-bare : (v : View) → IsStanding (bare v) → IsStanding v
from-bare v s = record { numbered = s.numbered; below = s.below; legal = s.legal; bytes = s.bytes; mine = s.mine; spare = s.spare }

pub stands-still : (v v' : View) → bare v' ≡ bare v → IsStanding v → IsStanding v'
stands-still v v' same s = from-bare v' (subst IsStanding (sym same) (to-bare v s))
