use Rattle.std.proofs.Common.{◌≡◌, ◌-◌, length, take, not}
use Rattle.std.specs.List.{concat}
use Rattle.xti_data.specs.Portions.{bytes_of}
use Rattle.xti_data.proofs.portions.fill.Given as goal

abbrev pub invariant-loop-part : goal.invariant-loop-part
invariant-loop-part l = record {
  written : l.writer ≡ record { expedited = l.fn.portion.expedited; more = not l.fn.portion.ends; length = l.fn.portion.count; bytes = bytes_of (concat (take l.part-index l.parts)) l.fn.portion };
  skip : l.skip ≡ l.fn.portion.before - length (concat (take l.part-index l.parts));
  left : l.left ≡ l.fn.portion.count - (length (concat (take l.part-index l.parts)) - l.fn.portion.before);
}
