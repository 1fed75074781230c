use Rattle.tpi_prim.proofs.FieldReads.{reason_is, reason_fits}
use Rattle.tpi_prim.proofs.frames.Frame.reason.Goals as goal

pub word_at-requires : goal.word_at-requires
word_at-requires c = rw (c.bytes.ensures.value, c.reason_place.ensures, c.kind.ensures) (reason_fits c.args.self.now c.bytes.ensures.frame c.requires)

pub returns : goal.returns
returns c = rw (c.word_at.ensures, c.bytes.ensures.value, c.reason_place.ensures, c.kind.ensures) (reason_is c.args.self.now c.requires)
