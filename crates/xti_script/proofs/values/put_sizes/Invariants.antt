use Rattle.std.proofs.Common.{◌≡◌, ◌++◌, codes, decimal, flat_map, take}
use Rattle.xti_script.proofs.values.put_sizes.Given as goal

abbrev pub invariant-loop-size : goal.invariant-loop-size
invariant-loop-size l = l.out.items ≡ l.initial.out.items ++ flat_map (λ y. codes "," ++ decimal y) (take l.size-index l.others)
