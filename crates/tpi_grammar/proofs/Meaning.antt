-- What an outcome of the form says, in the words of the grammar.
use Rattle.std.proofs.Common.{ℕ, List, take, sym, subst}
use Rattle.tpi_grammar.specs.Form.{In, HasNone, Means, Outcome, whole, short, bad}
use Rattle.tpi_grammar.specs.Frame.{frame}
use Rattle.tpi_grammar.specs.Measured.{IsFrame, HasNoFrame, MeansFrame}
use Rattle.tpi_grammar.proofs.Spellings.{frame_is, frame_has}

to_frame : (ws : List ℕ) → In frame ws → IsFrame ws
to_frame ws i = let s = frame_is ws i in (s.filled, s.good, s.spelled)

pub from_frame : (ws : List ℕ) → IsFrame ws → In frame ws
from_frame ws f = subst (λ bs. In frame bs) (sym f.2) (frame_has f.0 f.1)

none : (bs : List ℕ) → HasNone frame bs → HasNoFrame bs
none bs h n le f = h n le (from_frame (take n bs) f)

pub means_frame : (bs : List ℕ) (o : Outcome) → Means frame bs o → MeansFrame bs o
means_frame bs (whole n) m = (m.0, to_frame (take n bs) m.1)
means_frame bs short m = ((m.0.0, to_frame _ m.0.1), none bs m.1)
means_frame bs (bad at) m = (m.0, (m.1.0, to_frame _ m.1.1), λ b. m.2 (b.0, from_frame _ b.1), none bs m.3)
