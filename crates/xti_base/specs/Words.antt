-- The names of errors, and what the system sets.
use Rattle.std.specs.Prelude.{◌≡◌, ℕ, ◌==◌, List, Result, Ok, Err, if◌then◌else◌}
use Rattle.xti_base.specs.Errno.{errno_number, errno_name}
use Rattle.xti_base.specs.declared.errno.Errno.{Errno}
use Rattle.xti_base.specs.declared.errno.Errno.TheVariants.{TBADFLAG}
use Rattle.xti_base.specs.declared.limits.TheConstants.{MOST_PARTS}

-- the name of the error with this number
abbrev pub IsNameOf : ℕ → List ℕ → Type 0
IsNameOf n name = (e : Errno) × (errno_number e ≡ n) × (name ≡ errno_name e)

-- the name of the parameter T_IOV_MAX
abbrev pub iov_max : ℕ
iov_max = 0

-- the value of a parameter
abbrev pub sysconf : ℕ → Result ℕ Errno
sysconf name = if name == iov_max then Ok MOST_PARTS else Err TBADFLAG
