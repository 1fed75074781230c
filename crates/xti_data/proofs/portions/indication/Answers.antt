use Rattle.std.proofs.Common.{sym, ap, ◌∙◌, not}
use Rattle.std.specs.List.{concat}
use Rattle.std.proofs.lemmas.Result.{IfOk-weaker}
use Rattle.tpi_prim.specs.Primitive.{kind_of}
use Rattle.tpi_prim.proofs.FrameReads.{kind_of-primitive_in}
use Rattle.xti_queue.specs.Indications.{symbols_of}
use Rattle.xti_data.specs.Portions.{bytes_of}
use Rattle.xti_data.proofs.Shares.{of-kind, stands-for}
use Rattle.xti_data.proofs.portions.indication.Goals as goal

pub returns-clause-kind : goal.returns-clause-kind
returns-clause-kind c = IfOk-weaker c.fill.result _ _ (λ frame h. sym (kind_of-primitive_in frame) ∙ ap kind_of h ∙ of-kind c.args.portion.expedited (not c.args.portion.ends) (bytes_of (concat c.args.parts.now) c.args.portion)) c.fill.ensures

pub returns-clause-symbols : goal.returns-clause-symbols
returns-clause-symbols c = IfOk-weaker c.fill.result _ _ (λ frame h. ap symbols_of h ∙ stands-for c.args.portion.expedited c.args.portion.ends (bytes_of (concat c.args.parts.now) c.args.portion)) c.fill.ensures
