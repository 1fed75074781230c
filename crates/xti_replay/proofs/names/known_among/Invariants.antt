use Rattle.std.proofs.Common.{◌≡◌, ℕ}
use Rattle.std.specs.Prelude.{Vec}
use Rattle.std.specs.declared.alloc.Global.{Global}
use Rattle.std.specs.Map.{lookup}
use Rattle.std.specs.Str.{bytes_eq}
use Rattle.xti_replay.specs.Known.{known_in}
use Rattle.xti_replay.proofs.names.known_among.Given as goal

abbrev pub invariant-loop-text : goal.invariant-loop-text
invariant-loop-text l = known_in l.fn.table l.fn.name ≡ lookup (λ (k : Vec ℕ Global). bytes_eq l.fn.name k.items) l.text-iterator
