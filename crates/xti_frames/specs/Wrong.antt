-- Why an input of frames isn't shown.
use Rattle.std.specs.Prelude.{ℕ, List}
use Rattle.tpi_grammar.specs.Frames.{IsFirstWrong}
use Rattle.xti_frames.specs.declared.show.FramesFail.{FramesFail}
use Rattle.xti_frames.specs.declared.show.FramesFail.TheVariants.{WrongByte, OutOfMemory}

-- the place is the first by which the input is no list of frames; out of memory has no cause
abbrev pub HasCause : List ℕ → FramesFail → Type 0
HasCause input (WrongByte at) = IsFirstWrong input at
HasCause input OutOfMemory = Unit {0}
