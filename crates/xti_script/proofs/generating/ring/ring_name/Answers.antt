use Rattle.std.proofs.Common.{◌∷◌, sym, ap, arith}
use Rattle.std.proofs.lemmas.Fmt.{decimal_digit}
use Rattle.xti_script.proofs.generating.ring.ring_name.Goals as goal

pub returns : goal.returns
returns c = ap (λ digits. 110 ∷ digits) (sym (decimal_digit c.args.worker (omega (arith, c.requires))))
