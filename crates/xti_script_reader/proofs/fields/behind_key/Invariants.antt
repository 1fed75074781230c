use Rattle.std.proofs.Common.{◌≡◌, drop}
use Rattle.xti_script_reader.specs.Reading.{behind_key}
use Rattle.xti_script_reader.proofs.fields.behind_key.Given as goal

abbrev pub invariant-loop-k : goal.invariant-loop-k
invariant-loop-k l = behind_key (drop l.k-index l.key) l.rest ≡ behind_key l.key l.word
