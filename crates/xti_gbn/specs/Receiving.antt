-- What a receiver makes of a packet: it takes the body of the number that it expects, and nothing else.
use Rattle.std.specs.Prelude.{ℕ, ◌+◌, ◌==◌, List, Option, Some, None, if◌then◌else◌}
use Rattle.xti_gbn.specs.declared.wire.Packet.{Packet}

abbrev pub taken_body : ℕ → Packet → Option (List ℕ)
taken_body expected p = if p.seq == expected then Some p.body else None

abbrev pub expected_after : ℕ → Packet → ℕ
expected_after expected p = if p.seq == expected then expected + 1 else expected
