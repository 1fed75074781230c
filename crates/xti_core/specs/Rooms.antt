-- Room for the fields of a reply.
use Rattle.std.specs.Prelude.{ℕ, min}
use Rattle.xti_base.specs.declared.limits.TheConstants.{MOST_ADDRESS, MOST_OPTIONS}
use Rattle.xti_laws.specs.Replies.{Lengths, lengths}

-- the address, the options and so many bytes of a datagram
abbrev pub datagram_lengths : ℕ → ℕ → ℕ → Lengths
datagram_lengths amax omax bytes = lengths (min amax MOST_ADDRESS) (min omax MOST_OPTIONS) bytes
