-- Bodies as packets of rising numbers.
use Rattle.std.specs.Prelude.{ℕ, ◌+◌, List, [], ◌∷◌}
use Rattle.xti_gbn.specs.declared.wire.Packet.{Packet}

abbrev pub packet : ℕ → List ℕ → Packet
packet number body = record { seq = number; body = body }

-- the bodies, of which the first has this number
abbrev pub packets_from : ℕ → List (List ℕ) → List Packet
packets_from number [] = []
packets_from number (body ∷ bodies) = packet number body ∷ packets_from (number + 1) bodies
