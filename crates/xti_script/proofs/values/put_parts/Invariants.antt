use Rattle.std.proofs.Common.{◌≡◌, ◌++◌, codes, flat_map, take}
use Rattle.xti_script.specs.Canonical.{bytes_text}
use Rattle.xti_script.proofs.values.put_parts.Given as goal

abbrev pub invariant-loop-part : goal.invariant-loop-part
invariant-loop-part l = l.out.items ≡ l.initial.out.items ++ flat_map (λ y. codes "," ++ bytes_text y) (take l.part-index l.others)
