-- The bytes of packets and acknowledgements: a byte that tells which it is, a number of four bytes, the highest first, and a body.
use Rattle.std.specs.Prelude.{◌≡◌, ℕ, ◌^◌, ◌<◌, ◌≤◌, List, [], ◌∷◌, ◌++◌, length}
use Rattle.std.specs.Int.{w32, to_be_bytes}
use Rattle.xti_gbn.specs.declared.wire.Packet.{Packet}
use Rattle.xti_gbn.specs.declared.wire.Wire.{Wire}
use Rattle.xti_gbn.specs.declared.wire.Wire.TheVariants.{Data, Ack}

-- the most bytes of a body
abbrev pub most_body : ℕ
most_body = 512

-- a byte, a number and the bytes after it
unfoldable pub numbered : ℕ → ℕ → List ℕ → List ℕ
numbered kind number rest = kind ∷ (to_be_bytes w32 number ++ rest)

-- the bytes are a byte, a number of 32 bits and the bytes after it
abbrev pub IsNumbered : List ℕ → ℕ → ℕ → List ℕ → Type 0
IsNumbered bytes kind number rest = (number < 2 ^ 32) × (bytes ≡ numbered kind number rest)

abbrev pub packet_text : Packet → List ℕ
packet_text p = numbered 0x44 p.seq p.body

abbrev pub acknowledgement_text : ℕ → List ℕ
acknowledgement_text n = numbered 0x41 n []

abbrev pub wire_text : Wire → List ℕ
wire_text (Data p) = packet_text p
wire_text (Ack n) = acknowledgement_text n

-- the body has at most so many bytes
abbrev pub HasSmall : Packet → Type 0
HasSmall p = length p.body ≤ most_body

abbrev pub HasSmallBody : Wire → Type 0
HasSmallBody (Data p) = HasSmall p
HasSmallBody (Ack n) = Unit {0}

-- the number fits four bytes, and the body has at most so many bytes
abbrev pub IsWire : Wire → Type 0
IsWire (Data p) = (p.seq < 2 ^ 32) × (length p.body ≤ most_body)
IsWire (Ack n) = n < 2 ^ 32

-- this holds of each packet or acknowledgement whose bytes these are
abbrev pub OfItsWires : List ℕ → (Wire → Type 0) → Type 0
OfItsWires bytes holds = (w : Wire) → IsWire w → bytes ≡ wire_text w → holds w

-- the bytes are those of none
abbrev pub IsNoWire : List ℕ → Type 0
IsNoWire bytes = OfItsWires bytes (λ w. ⊥)

-- the bytes are those of a packet
abbrev pub IsPacketText : List ℕ → Type 0
IsPacketText bytes = (p : Packet) × IsWire (Data p) × (bytes ≡ packet_text p)

-- the bytes are those of an acknowledgement
abbrev pub IsAcknowledgementText : List ℕ → Type 0
IsAcknowledgementText bytes = (n : ℕ) × (n < 2 ^ 32) × (bytes ≡ acknowledgement_text n)
