use Rattle.std.proofs.Common.{List, ℕ, ap, subst}
use Rattle.tpi_grammar.specs.Form.{short}
use Rattle.tpi_grammar.specs.Measured.{MeansFrame}
use Rattle.tpi_prim.specs.Fed.{Fed}
use Rattle.tpi_prim.proofs.reading.FrameReader.rest.Goals as goal

pub returns-clause-short : goal.returns-clause-short
returns-clause-short c = subst (λ (bs : List ℕ). MeansFrame bs short) (ap (λ (v : Fed). v.rest) c.self.view_is) c.self.invariant
