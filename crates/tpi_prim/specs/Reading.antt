-- What reading pieces of bytes as frames gives.
use Rattle.std.specs.Prelude.{◌≡◌, ◌≤◌, ◌<◌, ◌+◌, ◌-◌, ◌^◌, ℕ, List, [], ◌++◌, length, take, drop, map, min, Some, None, MatchOption, Result, Ok, Err}
use Rattle.tpi_grammar.specs.Form.{short}
use Rattle.tpi_grammar.specs.Measured.{MeansFrame}
use Rattle.tpi_grammar.specs.Frames.{spellings, AreFilled, IsFirstWrong}
use Rattle.tpi_prim.specs.declared.primitive.Prim.{Prim}
use Rattle.tpi_prim.specs.declared.reading.FeedFail.{FeedFail}
use Rattle.tpi_prim.specs.declared.reading.FeedFail.TheVariants as fail
use Rattle.tpi_prim.specs.declared.reading.Front.{Front}
use Rattle.tpi_prim.specs.declared.reading.Stop.{Stop}
use Rattle.tpi_prim.specs.declared.reading.Stop.TheVariants as stop
use Rattle.tpi_prim.specs.Primitive.{filled}
use Rattle.tpi_prim.specs.Fed.{Fed}

-- the bytes are the frames of the primitives, one after the other
pub record SpellAll (ps : List Prim) (bs : List ℕ) : Type 0 where
  pub each : AreFilled (map filled ps)
  pub bytes : bs ≡ spellings (map filled ps)

-- the first bytes are the frames of the primitives, and the rest is a proper prefix of a frame
pub record IsFront (bs : List ℕ) (ps : List Prim) (used : ℕ) : Type 0 where
  pub within : used ≤ length bs
  pub frames : SpellAll ps (take used bs)
  pub rest : MeansFrame (drop used bs) short

abbrev pub IsFrontOf : List ℕ → Front → Type 0
IsFrontOf bs front = IsFront bs front.prims front.used

-- the bytes can't go on as frames, and this is the least place by which they can't
pub record GoesWrong (bs : List ℕ) (place : ℕ) : Type 0 where
  pub within : place < length bs
  pub first : IsFirstWrong bs place

abbrev pub IsStop : List ℕ → Stop → Type 0
IsStop bs (stop.Bad place) = GoesWrong bs place
IsStop bs stop.OutOfMemory = Unit {0}

-- counts stand still at 2^64 - 1
abbrev pub capped : ℕ → ℕ
capped n = min n (2 ^ 64 - 1)

-- the rest and the piece are the frames of the primitives, and then the new rest, which is a proper prefix of a frame
pub record Takes (old new : Fed) (piece : List ℕ) (ps : List Prim) : Type 0 where
  pub frames : (front : List ℕ) × SpellAll ps front × (old.rest ++ piece ≡ front ++ new.rest) × (new.passed ≡ capped (old.passed + length front))
  pub rest : MeansFrame new.rest short
  pub wrong : new.wrong ≡ None

-- the rest and the piece can't go on as frames
pub record Fails (old new : Fed) (piece : List ℕ) (at : ℕ) : Type 0 where
  pub place : (n : ℕ) × GoesWrong (old.rest ++ piece) n × (at ≡ capped (old.passed + n))
  pub wrong : new.wrong ≡ Some at

-- one feed: primitives; or the first wrong place, which stays; or out of memory, with all as before
abbrev pub Feeds : Fed → Fed → List ℕ → Result (List Prim) FeedFail → Type 0
Feeds old new piece (Ok ps) = (old.wrong ≡ None) × Takes old new piece ps
Feeds old new piece (Err (fail.Bad at)) = MatchOption old.wrong (Fails old new piece at) (λ place. (at ≡ place) × (new ≡ old))
Feeds old new piece (Err fail.OutOfMemory) = (old.wrong ≡ None) × (new ≡ old)

-- a reader was fed these bytes in some pieces, gave these primitives, and no feed failed so that it changed
pub data HasRead : List ℕ → List Prim → Fed → Type 0 where
  nothing : HasRead [] [] (record { passed = 0; rest = []; wrong = None })
  one_more : {fed : List ℕ} {ps : List Prim} {old : Fed} → HasRead fed ps old → (new : Fed) (piece : List ℕ) (qs : List Prim) → Feeds old new piece (Ok qs)
      → HasRead (fed ++ piece) (ps ++ qs) new

-- the bytes are the frames of the primitives, and then the reader's rest, which is a proper prefix of a frame
pub record HasGiven (fed : List ℕ) (ps : List Prim) (r : Fed) : Type 0 where
  pub frames : (front : List ℕ) × SpellAll ps front × (fed ≡ front ++ r.rest) × (r.passed ≡ capped (length front))
  pub rest : MeansFrame r.rest short
  pub wrong : r.wrong ≡ None

-- over any pieces a reader has given the primitives of the bytes that it was fed
abbrev pub GivesWhatItRead : Type 0
GivesWhatItRead = (fed : List ℕ) (ps : List Prim) (r : Fed) → HasRead fed ps r → HasGiven fed ps r

-- where a feed fails at a place, all bytes ever fed can't go on as frames from there
abbrev pub TellsWhereItGoesWrong : Type 0
TellsWhereItGoesWrong = (fed : List ℕ) (ps : List Prim) (old new : Fed) (piece : List ℕ) (at : ℕ) → HasRead fed ps old
    → Feeds old new piece (Err (fail.Bad at)) → (n : ℕ) × GoesWrong (fed ++ piece) n × (at ≡ capped n)
