use Rattle.std.proofs.Common.{◌≡◌, ◌≤◌, length, sym, ap, subst, ◌∙◌}
use Rattle.tpi_grammar.specs.declared.kind.Kind.{Kind}
use Rattle.tpi_grammar.specs.Frame.{Filled, Row}
use Rattle.tpi_grammar.specs.Kinds.{row_of}
use Rattle.tpi_prim.specs.declared.primitive.Prim.{Prim}
use Rattle.tpi_prim.specs.Lent.{values_of, HasShape}
use Rattle.tpi_prim.specs.Primitive.{filled, kind_of, of_kind}
use Rattle.tpi_prim.proofs.FrameReads.{of_its_kind}
use Rattle.tpi_prim.proofs.encoding.Lent.of.Goals as goal

-- the row is that of the primitive's kind
row-is : (p : Prim) (k : Kind) → k ≡ kind_of p → (filled p).row ≡ row_of k
row-is p k e = ap (λ (f : Filled). f.row) (of_its_kind p) ∙ ap row_of (sym e)

pub returns-clause-same : goal.returns-clause-same
returns-clause-same c =
    (λ k. of_kind (c.kind.ensures k) (c.fields_of.ensures.values k) (c.user_of.ensures.user k)) ∙ sym (of_its_kind c.args.prim.now)

pub returns-clause-shape : goal.returns-clause-shape
returns-clause-shape c =
    subst (λ (r : Row). HasShape r.slots (values_of c.fields_of.result)) (row-is c.args.prim.now c.kind.result c.kind.ensures) c.fields_of.ensures.shape

pub returns-clause-room : goal.returns-clause-room
returns-clause-room c = λ most.
    subst (λ (r : Row). length c.user_of.result.now ≤ r.most_data) (row-is c.args.prim.now c.kind.result c.kind.ensures) (c.user_of.ensures.room most)
