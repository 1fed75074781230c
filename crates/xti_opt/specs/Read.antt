-- What reading a list of options answers.
use Rattle.std.specs.Prelude.{◌≡◌, ◌↔◌, ℕ, List, Bool, true, false, Some, Result, Ok, Err, IsErrOf}
use Rattle.xti_base.specs.declared.options.Opt.{Opt}
use Rattle.xti_base.specs.Options.{is_option_list, options_bytes, read_options, IsFirstWrongOption}
use Rattle.xti_opt.specs.declared.reading.OptRead.{OptRead}
use Rattle.xti_opt.specs.declared.reading.OptRead.TheVariants.{BadOption, OutOfMemory}

-- whether an option is refused
abbrev pub is_bad : Result (List Opt) OptRead → Bool
is_bad (Ok list) = false
is_bad (Err (BadOption at)) = true
is_bad (Err OutOfMemory) = false

-- just the first wrong option is refused
abbrev pub RefusesFirstWrong : List ℕ → Result (List Opt) OptRead → Type 0
RefusesFirstWrong bytes r = (at : ℕ) → IsErrOf r (BadOption at) ↔ IsFirstWrongOption bytes at

-- what was written is read as it was
abbrev pub IsReadBack : List Opt → Type 0
IsReadBack os = read_options (options_bytes os) ≡ Some os

abbrev pub IsNoList : List ℕ → Type 0
IsNoList bytes = is_option_list bytes ≡ false
