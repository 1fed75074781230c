use Rattle.tpi_prim.proofs.FieldReads.{seq_is, seq_fits}
use Rattle.tpi_prim.proofs.frames.Frame.seq.Goals as goal

pub word_at-requires : goal.word_at-requires
word_at-requires c = rw (c.bytes.ensures.value, c.seq_place.ensures, c.kind.ensures) (seq_fits c.args.self.now c.bytes.ensures.frame c.requires)

pub returns : goal.returns
returns c = rw (c.word_at.ensures, c.bytes.ensures.value, c.seq_place.ensures, c.kind.ensures) (seq_is c.args.self.now c.requires)
