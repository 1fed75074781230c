use Rattle.std.proofs.Common.{◌≡◌, ◌++◌, codes, flat_map, take}
use Rattle.xti_script_reader.specs.Grammar.{first_line}
use Rattle.xti_script.specs.Canonical.{line_text}
use Rattle.xti_script.proofs.scripts.write_script.Given as goal

abbrev pub invariant-loop-line : goal.invariant-loop-line
invariant-loop-line l = l.out.items ≡ first_line l.s.providers.version ++ codes "\n" ++ flat_map line_text (take l.line-index l.line-items)
