use Rattle.std.proofs.Common.{sym, ap, ◌∙◌}
use Rattle.std.proofs.lemmas.Result.{IfOk-weaker}
use Rattle.tpi_prim.specs.Primitive.{kind_of}
use Rattle.tpi_prim.proofs.FrameReads.{kind_of-primitive_in}
use Rattle.xti_data.proofs.datagrams.indications.datagram_of.Goals as goal

pub returns-clause-kind : goal.returns-clause-kind
returns-clause-kind c = IfOk-weaker c.encode_unitdata_ind.result _ _ (λ frame h. sym (kind_of-primitive_in frame) ∙ ap kind_of h) c.encode_unitdata_ind.ensures.read
