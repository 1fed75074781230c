-- Lists of bytes: those of numbers in digits and in words, and what waits.
use Rattle.std.proofs.Common.{ℕ, zero, suc, Bool, true, false, List, [], ◌∷◌, ◌+◌, ◌≡◌, ◌<◌, ◌≤◌, ◌^◌, refl, sym, subst, cond, eqb, length, take, arith}
use Rattle.std.specs.Prelude.{is_some}
use Rattle.std.specs.Int.{byte_at, bytes_high_first}
use Rattle.std.specs.List.{All, take_while}
use Rattle.std.specs.Fmt.{decimal}
use Rattle.std.proofs.lemmas.Bool.{eqb-false, not-true}
use Rattle.std.proofs.lemmas.Fmt.{IsAscii-decimal}
use Rattle.std.proofs.lemmas.List.Elements.{All-nil, All-cons, All-head, All-tail, All-append, All-take, All-from_get_or}
use Rattle.std.proofs.lemmas.List.Sums.{take_while-cons}
use Rattle.xti_base.specs.declared.kinds.Prov.{Prov}
use Rattle.xti_base.specs.Options.{word_bytes}
use Rattle.xti_model.specs.SentBytes.{AreBytes}
use Rattle.xti_model.specs.Symbols.{is_byte, front, piece}
use Rattle.xti_model.specs.World.{Switch}
use Rattle.xti_model.specs.Switch.{bound, numbered_address, free_address, chosen}
use Rattle.xti_base.specs.declared.limits.TheConstants.{MOST_PLACES}

pub none-bytes : AreBytes []
none-bytes = All-nil (λ b. b < 256)

-- a number in digits
decimal-bytes : (n : ℕ) → n < 2 ^ 64 → AreBytes (decimal n)
decimal-bytes n h = All-from_get_or (λ b. b < 256) (decimal n) 0 (λ i l. (let a = IsAscii-decimal n h i in omega (arith, a)))

numbered-bytes : (n : ℕ) → n < 2 ^ 64 → AreBytes (numbered_address n)
numbered-bytes n h = All-cons (λ b. b < 256) 35 (decimal n) (omega arith) (decimal-bytes n h)

free-bytes : (s : Switch) (prov : Prov) (n more : ℕ) → n + more < 2 ^ 64 → AreBytes (free_address s prov n more)
free-bytes s prov n zero h = numbered-bytes n (omega (arith, h))
free-bytes s prov n (suc more) h = go (is_some (bound s prov (numbered_address n))) (free-bytes s prov (n + 1) more (omega (arith, h)))
  where
    go : (b : Bool) → AreBytes (free_address s prov (n + 1) more) → AreBytes (elim b [ true ↦ free_address s prov (n + 1) more | false ↦ numbered_address n ])
    go true k = k
    go false k = numbered-bytes n (omega (arith, h))

-- the address that a bind gives
pub chosen-bytes : (s : Switch) (prov : Prov) (address : List ℕ) → length s.bindings ≤ MOST_PLACES → AreBytes address → AreBytes (chosen s prov address)
chosen-bytes s prov [] l a = free-bytes s prov 0 (length s.bindings) (omega (arith, l))
chosen-bytes s prov (b ∷ address) l a = a

-- a word
byte-small : (k n : ℕ) → byte_at k n < 256
byte-small zero n = omega arith
byte-small (suc k) n = omega arith

high-first : (k n : ℕ) → AreBytes (bytes_high_first k n)
high-first zero n = none-bytes
high-first (suc k) n = All-cons (λ b. b < 256) (byte_at k n) (bytes_high_first k n) (byte-small k n) (high-first k n)

pub word-bytes : (n : ℕ) → AreBytes (word_bytes n)
word-bytes n = high-first 4 n

-- ---- what waits

-- a byte, or the end of a message
abbrev pub IsSymbol : ℕ → Type 0
IsSymbol s = s ≤ 256

pub none-symbols : All IsSymbol []
none-symbols = All-nil IsSymbol

symbols : (xs : List ℕ) → AreBytes xs → All IsSymbol xs
symbols [] k = none-symbols
symbols (x ∷ xs) k = All-cons IsSymbol x xs (let l : x < 256 = All-head (λ z. z < 256) x xs k in omega arith) (symbols xs (All-tail (λ z. z < 256) x xs k))

pub piece-symbols : (bytes : List ℕ) (closes : Bool) → AreBytes bytes → All IsSymbol (piece bytes closes)
piece-symbols bytes false a = symbols bytes a
piece-symbols bytes true a = All-append IsSymbol bytes (256 ∷ []) (symbols bytes a) (All-cons IsSymbol 256 [] (omega arith) none-symbols)

byte-is : (x : ℕ) → is_byte x ≡ true → IsSymbol x → x < 256
byte-is x h l = (let n = eqb-false x 256 (not-true (eqb x 256) h) in omega (arith, n, l))

while-bytes : (xs : List ℕ) → All IsSymbol xs → AreBytes (take_while is_byte xs)
while-bytes [] a = none-bytes
while-bytes (x ∷ xs) a = subst AreBytes (sym (take_while-cons is_byte x xs)) (go (is_byte x) refl (while-bytes xs (All-tail IsSymbol x xs a)))
  where
    go : (b : Bool) → is_byte x ≡ b → AreBytes (take_while is_byte xs) → AreBytes (cond b (x ∷ take_while is_byte xs) [])
    go true i h = All-cons (λ b. b < 256) x (take_while is_byte xs) (byte-is x i (All-head IsSymbol x xs a)) h
    go false i h = none-bytes

-- the longest run of bytes
pub front-bytes : (max : ℕ) (xs : List ℕ) → All IsSymbol xs → AreBytes (front max xs)
front-bytes max xs a = while-bytes (take max xs) (All-take IsSymbol max xs a)
