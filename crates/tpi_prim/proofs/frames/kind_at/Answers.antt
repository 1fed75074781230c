use Rattle.std.proofs.Common.{subst, sym}
use Rattle.tpi_grammar.specs.Kinds.{row_of}
use Rattle.tpi_grammar.specs.declared.kind.Kind.{Kind}
use Rattle.tpi_prim.specs.Fields.{LiesIn}
use Rattle.tpi_prim.proofs.FrameReads.{kind_found, has_kind, frame_lies}
use Rattle.tpi_prim.proofs.frames.kind_at.Goals as goal

pub unreachable-requires : goal.unreachable-requires
unreachable-requires c = has_kind c.args.bytes.now _ c.requires c.word_at.ensures c.in-None.ensures.none

pub returns-clause-value : goal.returns-clause-value
returns-clause-value c = kind_found c.args.bytes.now _ _ c.in-Some.ensures.some c.word_at.ensures

pub returns-clause-lies : goal.returns-clause-lies
returns-clause-lies c =
    subst (λ (k : Kind). LiesIn (row_of k).slots 12 c.args.bytes.now) (sym (kind_found c.args.bytes.now _ _ c.in-Some.ensures.some c.word_at.ensures))
    (frame_lies c.args.bytes.now c.requires)
