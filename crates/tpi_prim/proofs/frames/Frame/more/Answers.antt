use Rattle.tpi_prim.proofs.FieldReads.{more_is, more_fits}
use Rattle.tpi_prim.proofs.frames.Frame.more.Goals as goal

pub word_at-requires : goal.word_at-requires
word_at-requires c = rw c.bytes.ensures.value (more_fits c.args.self.now c.bytes.ensures.frame c.requires)

pub returns : goal.returns
returns c = rw (c.word_at.ensures, c.bytes.ensures.value) (more_is c.args.self.now c.requires)
