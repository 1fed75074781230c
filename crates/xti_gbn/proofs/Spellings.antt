-- Bytes are those of one packet or acknowledgement at most.
use Rattle.std.proofs.Common.{◌≡◌, ◌+◌, ◌<◌, ◌≤◌, ◌-◌, ◌^◌, ℕ, zero, suc, List, [], ◌∷◌, ◌++◌, length, get_or, take, drop, Result, Ok, Err, refl, sym, ◌∙◌, ap, arith}
use Rattle.std.specs.Int.{w32, to_be_bytes, from_be_bytes}
use Rattle.std.specs.declared.alloc.AllocError.{AllocError}
use Rattle.std.specs.Prelude.{IfOk}
use Rattle.std.specs.Result.{IsErrAnd}
use Rattle.std.proofs.lemmas.List.{take_all, nil_from_length}
use Rattle.std.proofs.lemmas.Nat.{be_bytes_4, from_be_bytes-to_be_bytes_4}
use Rattle.xti_gbn.specs.declared.wire.Packet.{Packet}
use Rattle.xti_gbn.specs.declared.wire.Wire.{Wire}
use Rattle.xti_gbn.specs.declared.wire.Wire.TheVariants.{Data, Ack}
use Rattle.xti_gbn.specs.declared.wire.WireFail.{WireFail}
use Rattle.xti_gbn.specs.declared.wire.WireFail.TheVariants.{Bad, OutOfMemory}
use Rattle.xti_gbn.specs.Wire.{numbered, packet_text, wire_text, most_body, IsWire, IsPacketText}
use Rattle.xti_gbn.specs.Numbered.{packet}

pub numbered-read : (kind a b c d : ℕ) (rest : List ℕ) (n : ℕ) → a < 256 → b < 256 → c < 256 → d < 256 → n ≡ from_be_bytes w32 (a ∷ b ∷ c ∷ d ∷ []) → kind ∷ a ∷ b ∷ c ∷ d ∷ rest ≡ numbered kind n rest
unfolding numbered
numbered-read kind a b c d rest n ha hb hc hd e = ap (λ bs. kind ∷ (bs ++ rest)) (sym (be_bytes_4 (a ∷ b ∷ c ∷ d ∷ []) n refl each e))
  where
    each : (i : ℕ) → get_or (a ∷ b ∷ c ∷ d ∷ []) i 0 < 256
    each zero = ha
    each (suc zero) = hb
    each (suc (suc zero)) = hc
    each (suc (suc (suc zero))) = hd
    each (suc (suc (suc (suc i)))) = omega arith

pub length-numbered : (kind n : ℕ) (rest : List ℕ) → length (numbered kind n rest) ≡ 5 + length rest
unfolding numbered
length-numbered kind n rest = omega arith

pub record Same (k n k' n' : ℕ) (r r' : List ℕ) : Type 0 where
  pub kinds : k ≡ k'
  pub numbers : n ≡ n'
  pub rests : r ≡ r'

same-bytes : (n n' : ℕ) (r r' : List ℕ) → to_be_bytes w32 n ++ r ≡ to_be_bytes w32 n' ++ r' → (to_be_bytes w32 n ≡ to_be_bytes w32 n') × (r ≡ r')
same-bytes n n' r r' e = (cc, cc)

pub numbered-same : (k n k' n' : ℕ) (r r' : List ℕ) → n < 2 ^ 32 → n' < 2 ^ 32 → numbered k n r ≡ numbered k' n' r' → Same k n k' n' r r'
unfolding numbered
numbered-same k n k' n' r r' h h' e =
    let tails : to_be_bytes w32 n ++ r ≡ to_be_bytes w32 n' ++ r' = cc in
    let parts = same-bytes n n' r r' tails in
    record {
      kinds = cc;
      numbers = sym (from_be_bytes-to_be_bytes_4 n h) ∙ ap (from_be_bytes w32) parts.0 ∙ from_be_bytes-to_be_bytes_4 n' h';
      rests = parts.1;
    }

pub data-only : (bytes : List ℕ) (n : ℕ) (body : List ℕ) → n < 2 ^ 32 → bytes ≡ packet_text (record { seq = n; body = body }) → (w : Wire) → IsWire w → bytes ≡ wire_text w → Data (record { seq = n; body = body }) ≡ w
data-only bytes n body h e (Data p) is text =
    let same = numbered-same 0x44 n 0x44 p.seq body p.body h is.0 (sym e ∙ text) in
    ap (λ k. Data (record { seq = k; body = body })) same.numbers ∙ ap (λ b. Data (record { seq = p.seq; body = b })) same.rests
data-only bytes n body h e (Ack m) is text =
    let same = numbered-same 0x44 n 0x41 m body [] h is (sym e ∙ text) in absurd (omega arith)

pub ack-only : (bytes : List ℕ) (n : ℕ) → n < 2 ^ 32 → bytes ≡ numbered 0x41 n [] → (w : Wire) → IsWire w → bytes ≡ wire_text w → Ack n ≡ w
ack-only bytes n h e (Data p) is text =
    let same = numbered-same 0x41 n 0x44 p.seq [] p.body h is.0 (sym e ∙ text) in absurd (omega arith)
ack-only bytes n h e (Ack m) is text =
    let same = numbered-same 0x41 n 0x41 m [] [] h is (sym e ∙ text) in ap Ack same.numbers

pub neither : (bytes : List ℕ) (k n : ℕ) (rest : List ℕ) → n < 2 ^ 32 → bytes ≡ numbered k n rest → (k ≡ 0x44 → length rest ≤ most_body → ⊥) → (k ≡ 0x41 → length rest ≡ 0 → ⊥) → (w : Wire) → IsWire w → bytes ≡ wire_text w → ⊥
neither bytes k n rest h e not_data not_ack (Data p) is text =
    let same = numbered-same k n 0x44 p.seq rest p.body h is.0 (sym e ∙ text) in
    not_data same.kinds (omega (arith, ap length same.rests))
neither bytes k n rest h e not_data not_ack (Ack m) is text =
    let same = numbered-same k n 0x41 m rest [] h is (sym e ∙ text) in
    not_ack same.kinds (ap length same.rests)

pub too-short : (bytes : List ℕ) → length bytes < 5 → (w : Wire) → IsWire w → bytes ≡ wire_text w → ⊥
too-short bytes h (Data p) is text = omega (arith, ap length text, length-numbered 0x44 p.seq p.body)
too-short bytes h (Ack m) is text = omega (arith, ap length text, length-numbered 0x41 m [])

pub texts-tell : (v w : Wire) → IsWire v → IsWire w → wire_text v ≡ wire_text w → v ≡ w
texts-tell (Data p) w is_v is_w e = data-only (packet_text p) p.seq p.body is_v.0 refl w is_w e
texts-tell (Ack n) w is_v is_w e = ack-only (numbered 0x41 n []) n is_v refl w is_w e

pub split-read : (bytes : List ℕ) (n : ℕ) → 5 ≤ length bytes → ((i : ℕ) → get_or bytes i 0 < 256)
    → n ≡ from_be_bytes w32 (get_or bytes 1 0 ∷ get_or bytes 2 0 ∷ get_or bytes 3 0 ∷ get_or bytes 4 0 ∷ [])
    → bytes ≡ numbered (get_or bytes 0 0) n (take (length bytes - 5) (drop 5 bytes))
split-read [] n h fits e = absurd (omega arith)
split-read (k ∷ []) n h fits e = absurd (omega arith)
split-read (k ∷ a ∷ []) n h fits e = absurd (omega arith)
split-read (k ∷ a ∷ b ∷ []) n h fits e = absurd (omega arith)
split-read (k ∷ a ∷ b ∷ c ∷ []) n h fits e = absurd (omega arith)
split-read (k ∷ a ∷ b ∷ c ∷ d ∷ rest) n h fits e =
    let all : take (length (k ∷ a ∷ b ∷ c ∷ d ∷ rest) - 5) rest ≡ rest = take_all _ rest (omega arith) in
    numbered-read k a b c d rest n (fits 1) (fits 2) (fits 3) (fits 4) e ∙ ap (numbered k n) (sym all)

pub data-text : (bytes : List ℕ) (k n : ℕ) (rest body : List ℕ) → bytes ≡ numbered k n rest → k ≡ 0x44 → body ≡ rest → bytes ≡ numbered 0x44 n body
data-text bytes k n rest body e kind same = e ∙ ap (λ (j : ℕ). numbered j n rest) kind ∙ ap (numbered 0x44 n) (sym same)

pub ack-text : (bytes : List ℕ) (k n : ℕ) (rest : List ℕ) → bytes ≡ numbered k n rest → k ≡ 0x41 → length rest ≡ 0 → bytes ≡ numbered 0x41 n []
ack-text bytes k n rest e kind none = e ∙ ap (λ (j : ℕ). numbered j n rest) kind ∙ ap (numbered 0x41 n) (nil_from_length rest none)

pub never-bad : (r : Result Wire WireFail) → IsErrAnd r (λ e. e ≡ OutOfMemory) → r ≡ Err Bad → ⊥
never-bad (Ok w) h e = h
never-bad (Err OutOfMemory) h e = cc
never-bad (Err Bad) h e = cc

-- what is carried has 5 to 517 bytes

pub packet-some : (bytes : List ℕ) → IsPacketText bytes → 1 ≤ length bytes
packet-some bytes h = omega (arith, ap length h.2, length-numbered 0x44 h.0.seq h.0.body)

pub packet-most : (bytes : List ℕ) → IsPacketText bytes → length bytes ≤ 517
packet-most bytes h = omega (arith, ap length h.2, length-numbered 0x44 h.0.seq h.0.body, h.1.1)

pub ack-number : (r : Result ℕ AllocError) (came : List ℕ) (n : ℕ) → n < 2 ^ 32 → came ≡ numbered 0x41 n [] → IfOk r (λ k. (k < 2 ^ 32) × (came ≡ numbered 0x41 k [])) → IfOk r (λ k. k ≡ n)
ack-number (Ok k) came n h e is = (numbered-same 0x41 k 0x41 n [] [] is.0 h (sym is.1 ∙ e)).numbers
ack-number (Err f) came n h e is = is

-- a packet that is read is the packet that was written
pub packet-same : (bytes : List ℕ) (p q : Packet) → (p.seq < 2 ^ 32) × (length p.body ≤ most_body) → bytes ≡ packet_text p → (q.seq < 2 ^ 32) × (length q.body ≤ most_body) → bytes ≡ packet_text q → p ≡ q
packet-same bytes p q is_p text_p is_q text_q =
    let same = numbered-same 0x44 p.seq 0x44 q.seq p.body q.body is_p.0 is_q.0 (sym text_p ∙ text_q) in
    ap (λ (k : ℕ). packet k p.body) same.numbers ∙ ap (λ (b : List ℕ). packet q.seq b) same.rests

pub packet-moved : (came bytes : List ℕ) → came ≡ bytes → IsPacketText bytes → IsPacketText came
packet-moved came bytes e h = (h.0, h.1, e ∙ h.2)
