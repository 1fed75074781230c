-- A limit of a provider as the signed number of t_info (XNS): T_INFINITE is -1, T_INVALID is -2.
use Rattle.std.specs.Prelude.{ℤ, pos, negsuc}
use Rattle.xti_base.specs.declared.limit.Limit.{Limit}
use Rattle.xti_base.specs.declared.limit.Limit.TheVariants.{At, Infinite, Invalid}

abbrev pub limit_number : Limit → ℤ
limit_number (At n) = pos n
limit_number Infinite = negsuc 0
limit_number Invalid = negsuc 1
