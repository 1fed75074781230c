-- Taking from the start of waiting frames.
use Rattle.std.specs.Prelude.{◌≡◌, ◌≤◌, ◌<◌, ◌-◌, ◌++◌, ℕ, Bool, false, List, [], ◌∷◌, length, drop, vec_capacity}
use Rattle.std.specs.declared.vec.Vec.{Vec}
use Rattle.tpi_grammar.specs.Frame.{AreBytes}
use Rattle.tpi_prim.specs.declared.primitive.Prim.{Prim}
use Rattle.xti_model.specs.Symbols.{end_of_message, front, piece}
use Rattle.xti_queue.specs.Indications.{begun, symbols_of_all, left_behind}
use Rattle.xti_queue.specs.Kept.{AllWait, IsWithin}

-- the symbols of frames, of the first of which so many bytes were taken
abbrev pub symbols_in : ℕ → List (List ℕ) → List ℕ
symbols_in taken held = symbols_of_all (begun taken held)

-- bytes that were taken, and the symbols of the frames after them
abbrev pub in_line : List ℕ → ℕ → List (List ℕ) → List ℕ
in_line bytes taken held = bytes ++ symbols_in taken held

-- what taking bytes up to so many leaves of the frames, where so many bytes were taken already
abbrev pub left_of : ℕ → ℕ → ℕ → List (List ℕ) → List Prim
left_of max count taken held = left_behind (max - count) (begun taken held)

-- what may follow where a run stops before an end: nothing, or it is full and a byte follows
abbrev pub StopsAt : ℕ → List ℕ → ℕ → Type 0
StopsAt n [] max = Unit {0}
StopsAt n (s ∷ ss) max = (n ≡ max) × (s < end_of_message)

-- the bytes have room for those that stand at the start, at most so many, before an end
abbrev pub HasRoomFor : {Z : Type 0} → Vec ℕ Z → ℕ → List ℕ → Type 0
HasRoomFor bytes max symbols = length (front max symbols) ≤ vec_capacity bytes

-- a run of so many bytes may stop before these frames
abbrev pub Stops : ℕ → ℕ → ℕ → List (List ℕ) → Type 0
Stops max count taken held = StopsAt count (symbols_in taken held) max

-- the frames, and how many bytes of the first one were taken, are as before
abbrev pub AsBefore : {D : Type 0} → D → ℕ → D → ℕ → Type 0
AsBefore held taken new_held new_taken = (new_held ≡ held) × (new_taken ≡ taken)

-- what taking bytes up to so many leaves of frames are these
abbrev pub LeavesBehind : ℕ → ℕ → List (List ℕ) → ℕ → List (List ℕ) → Type 0
LeavesBehind max taken held begins kept = left_behind max (begun taken held) ≡ begun begins kept

-- the frames that are kept are the last ones
abbrev pub AreLastOf : List (List ℕ) → List (List ℕ) → Type 0
AreLastOf held kept = kept ≡ drop (length held - length kept) held

-- these bytes, and an end after them or not, were taken from the start of frames: up to an end, so many bytes, or the last frame
pub record IsTakenFrom (max taken : ℕ) (held : List (List ℕ)) (begins : ℕ) (kept : List (List ℕ)) (bytes : List ℕ) (closes : Bool) : Type 0 where
  pub moved : symbols_in taken held ≡ piece bytes closes ++ symbols_in begins kept
  pub stops : closes ≡ false → StopsAt (length bytes) (symbols_in begins kept) max
  pub left : LeavesBehind max taken held begins kept
  pub wait : AllWait kept
  pub within : IsWithin begins kept
  pub most : length bytes ≤ max
  pub are_bytes : AreBytes bytes
  pub items : AreLastOf held kept
  pub shorter : length kept ≤ length held
