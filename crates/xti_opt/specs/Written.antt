-- What can be written as options.
use Rattle.std.specs.Prelude.{◌≤◌, length}
use Rattle.xti_base.specs.declared.options.Opt.{Opt}

-- the length of the value and of the 16 bytes of the header fits a word
abbrev pub IsWritable : Opt → Type 0
IsWritable o = length o.value ≤ 4294967279
