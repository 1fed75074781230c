-- Rows on the arguments of a call alone.
use Rattle.std.specs.Prelude.{ℕ, ◌||◌, ◌==◌, not, nat_lt, ◌/◌, ◌%◌, Bool, List, length}
use Rattle.xti_base.specs.declared.limits.TheConstants.{MOST_ADDRESS, MOST_OPTIONS, MOST_CONNECT_DATA, MOST_PARTS}
use Rattle.xti_base.specs.declared.errno.Errno.TheVariants.{TBADADDR, TBADOPT, TBADDATA}
use Rattle.xti_base.specs.Options.{is_option_list}
use Rattle.xti_model.specs.Plan.{Row, refuses}

-- an address is never empty
abbrev pub bad_address : List ℕ → Row
bad_address address = refuses ((length address == 0) || nat_lt MOST_ADDRESS (length address)) TBADADDR

-- options are a list in its form
abbrev pub bad_options : List ℕ → Row
bad_options options = refuses (nat_lt MOST_OPTIONS (length options) || not (is_option_list options)) TBADOPT

-- data that go with a request, a confirmation or a disconnect
abbrev pub bad_udata : List ℕ → Row
bad_udata udata = refuses (nat_lt MOST_CONNECT_DATA (length udata)) TBADDATA

-- the most parts of a vector form
abbrev pub is_too_many : ℕ → Bool
is_too_many parts = nat_lt MOST_PARTS parts

-- the two flags
abbrev pub has_more : ℕ → Bool
has_more flags = flags % 2 == 1

-- T_EXPEDITED
abbrev pub is_expedited : ℕ → Bool
is_expedited flags = flags / 2 % 2 == 1

-- a flag that is neither T_MORE nor T_EXPEDITED
abbrev pub has_other_flags : ℕ → Bool
has_other_flags flags = nat_lt 3 flags
