use Rattle.std.proofs.Common.{◌≡◌, List, ℕ, sym, ap, ◌∙◌}
use Rattle.std.proofs.lemmas.Result.{IfOk-weaker, IfOk-at_ok}
use Rattle.tpi_prim.specs.Primitive.{kind_of}
use Rattle.tpi_prim.specs.Fields.{primitive_in}
use Rattle.tpi_prim.specs.declared.primitive.Prim.TheVariants as prim
use Rattle.tpi_prim.proofs.FrameReads.{kind_of-primitive_in}
use Rattle.xti_data.proofs.datagrams.indications.datagram_error.Goals as goal

pub returns-clause-kind : goal.returns-clause-kind
returns-clause-kind c =
    let read = λ (bs : List ℕ). primitive_in bs ≡ prim.T_UDERROR_IND c.args.address.now c.args.options.now 1 in
    IfOk-weaker c.unless_too_big.result _ _ (λ frame h. sym (kind_of-primitive_in frame) ∙ ap kind_of (IfOk-at_ok read h c.encode_uderror_ind.ensures.read)) c.unless_too_big.ensures
