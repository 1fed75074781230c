use Rattle.tpi_prim.proofs.FieldReads.{part_is, part_words, part_bytes}
use Rattle.tpi_prim.proofs.frames.Frame.part.Goals as goal

pub part_at-requires-clause-words : goal.part_at-requires-clause-words
part_at-requires-clause-words c =
    rw (c.bytes.ensures.value, c.part_place.ensures, c.kind.ensures) (part_words c.args.which c.args.self.now c.bytes.ensures.frame c.requires)

pub part_at-requires-clause-bytes : goal.part_at-requires-clause-bytes
part_at-requires-clause-bytes c =
    rw (c.bytes.ensures.value, c.part_place.ensures, c.kind.ensures) (part_bytes c.args.which c.args.self.now c.bytes.ensures.frame c.requires)

pub returns : goal.returns
returns c = rw (c.part_at.ensures, c.bytes.ensures.value, c.part_place.ensures, c.kind.ensures) (part_is c.args.which c.args.self.now c.requires)
