-- Frames one after the other, and the first place by which bytes aren't that.
use Rattle.std.specs.Prelude.{◌≡◌, ◌≤◌, ◌<◌, ℕ, suc, List, [], ◌∷◌, ◌++◌, length, take}
use Rattle.std.specs.List.{AllByRecursion}
use Rattle.tpi_grammar.specs.Frame.{Filled, IsFilled, spelling}
use Rattle.tpi_grammar.specs.Measured.{IsFrame}

abbrev pub spellings : List Filled → List ℕ
spellings [] = []
spellings (f ∷ fs) = spelling f ++ spellings fs

abbrev pub AreFilled : List Filled → Type 0
AreFilled = AllByRecursion IsFilled

-- the bytes are those of some frames, one after the other
abbrev pub IsFrames : List ℕ → Type 0
IsFrames bs = (fs : List Filled) × AreFilled fs × (bs ≡ spellings fs)

-- frames and one more after them are frames
abbrev pub TakeOneMore : Type 0
TakeOneMore = (front last : List ℕ) → IsFrames front → IsFrame last → IsFrames (front ++ last)

-- frames one after the other are read in one way
abbrev pub HaveOneReading : Type 0
HaveOneReading = (fs gs : List Filled) → AreFilled fs → AreFilled gs → spellings fs ≡ spellings gs → fs ≡ gs

-- some frames begin so
abbrev pub BeginsFrames : List ℕ → Type 0
BeginsFrames bs = (more : List ℕ) × IsFrames (bs ++ more)

-- the first place by which the bytes aren't frames: frames begin with the bytes before it. None begin with those up to and
-- with it; or it is the end, and the bytes are cut within a frame
pub record IsFirstWrong (bs : List ℕ) (at : ℕ) : Type 0 where
  pub within : at ≤ length bs
  pub begins : BeginsFrames (take at bs)
  pub wrong : at < length bs → BeginsFrames (take (suc at) bs) → ⊥
  pub cut : at ≡ length bs → IsFrames bs → ⊥
